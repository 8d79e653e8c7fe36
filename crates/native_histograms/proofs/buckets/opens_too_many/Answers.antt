use Rattle.std.proofs.Common.{◌≡◌, ◌+◌, ◌&&◌, not, true, false, length, Option, Some, None, w32, sym, ap, ◌∙◌, refl}
use Rattle.std.specs.Prelude.{is_some, is_none, nat_lt}
use Rattle.std.specs.Int.{cast_signed, cast_unsigned}
use Rattle.std.specs.Map.{lookup}
use Rattle.std.specs.Ordering.{int_eq}
use Rattle.std.proofs.lemmas.Bool.{false≢true}
use Rattle.std.proofs.lemmas.Int.{to_z-of_z}
use Rattle.native_histograms.proofs.buckets.opens_too_many.Goals as goal

not_there : {X : Type 0} (o : Option X) → is_some o ≡ false → o ≡ None
not_there None is = refl
not_there (Some x) is = absurd (false≢true (sym is))

one_there : {X : Type 0} (o : Option X) → is_some o ≡ true → is_none o ≡ false
one_there None is = absurd (false≢true is)
one_there (Some x) is = refl

pub returns-then-not-contains_key-clause-opens : goal.returns-then-not-contains_key-clause-opens
returns-then-not-contains_key-clause-opens c =
    let own : cast_signed w32 (cast_unsigned w32 c.args.index) ≡ c.args.index = to_z-of_z w32 c.args.index c.ranges.index in
    let there : is_some (lookup (int_eq c.args.index) c.args.side.now.entries) ≡ false = ap (λ k. is_some (lookup (int_eq k) c.args.side.now.entries)) (sym own) ∙ sym c.contains_key.ensures ∙ c.if-not-contains_key.true in
    (λ j. nat_lt (c.from.ensures j) (c.len.ensures.len j + c.len-then-not-contains_key.ensures.len j + 1))
    ∙ ap (λ b. b && nat_lt c.args.max_buckets (length c.args.side.now.entries + length c.args.other.now.entries + 1)) (sym (ap is_none (not_there (lookup (int_eq c.args.index) c.args.side.now.entries) there)))

pub returns-else-not-contains_key-clause-opens : goal.returns-else-not-contains_key-clause-opens
returns-else-not-contains_key-clause-opens c =
    let own : cast_signed w32 (cast_unsigned w32 c.args.index) ≡ c.args.index = to_z-of_z w32 c.args.index c.ranges.index in
    let there : is_some (lookup (int_eq c.args.index) c.args.side.now.entries) ≡ true = ap (λ k. is_some (lookup (int_eq k) c.args.side.now.entries)) (sym own) ∙ sym c.contains_key.ensures ∙ c.if-not-contains_key.false in
    ap not c.if-not-contains_key.false
    ∙ ap (λ b. b && nat_lt c.args.max_buckets (length c.args.side.now.entries + length c.args.other.now.entries + 1)) (sym (one_there (lookup (int_eq c.args.index) c.args.side.now.entries) there))

pub returns-then-not-contains_key-clause-absent : goal.returns-then-not-contains_key-clause-absent
returns-then-not-contains_key-clause-absent c opens =
    let own : cast_signed w32 (cast_unsigned w32 c.args.index) ≡ c.args.index = to_z-of_z w32 c.args.index c.ranges.index in
    not_there (lookup (int_eq c.args.index) c.args.side.now.entries) (ap (λ k. is_some (lookup (int_eq k) c.args.side.now.entries)) (sym own) ∙ sym c.contains_key.ensures ∙ c.if-not-contains_key.true)
