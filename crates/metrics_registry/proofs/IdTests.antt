-- What the test of two ids says.
use Rattle.std.proofs.Common.{◌≡◌, true, refl}
use Rattle.std.specs.Prelude.{◌==◌}
use Rattle.std.proofs.lemmas.Bool.{and_parts, eq-eqb, eqb-true}
use Rattle.metrics_core.specs.Kinds.{kind_eq}
use Rattle.metrics_core.specs.declared.kinds.SeriesId.{SeriesId}
use Rattle.metrics_core.proofs.KindTests.{kind_eq-same, kind_eq-refl}
use Rattle.metrics_registry.specs.Live.{id_eq}

pub id_eq-same : (a b : SeriesId) → id_eq a b ≡ true → a ≡ b
id_eq-same a b e =
    let both = and_parts (kind_eq a.kind b.kind) (a.number == b.number) e in
    (λ j. record { kind = kind_eq-same a.kind b.kind both.0 j; number = eqb-true a.number b.number both.1 j })

pub id_eq-refl : (id : SeriesId) → id_eq id id ≡ true
id_eq-refl id = rw (kind_eq-refl id.kind, eq-eqb id.number id.number refl) refl
