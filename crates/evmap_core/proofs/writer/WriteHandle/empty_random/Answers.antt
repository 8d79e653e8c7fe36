use Rattle.std.proofs.Common.{◌<◌, All, refl, sym, ap, ◌∙◌, subst, length}
use Rattle.std.proofs.lemmas.List.{length-map}
use Rattle.std.proofs.Math.Logic.{∥∥₁_elim}
use base.Stored.{Coded-set}
use Rattle.value_bags.specs.Entries.{with_keys}
use Rattle.evmap_contents.specs.contracts.write.Contents.{the_row}
use Rattle.evmap_core.specs.Marked.{entries_at}
use Rattle.evmap_core.proofs.Samples.{entries_at-plain}
use Rattle.evmap_core.proofs.writer.WriteHandle.empty_random.Goals as goal

pub emptied-requires : goal.emptied-requires
emptied-requires g c =
    let w = c.mark_random.new.self in
    let front-is = ∥∥₁_elim w.current (Coded-set (the_row g.row.K-Plain g.row.V g.row.M).coded _ _) (λ h. h.0) in
    subst (λ n. All (λ p. p < n) w.marked.items) (ap (λ z. length z.entries) (sym front-is) ∙ length-map _ _) c.in_ok-mark_random.ensures.0.within

pub returns : goal.returns
returns g c =
    let w = c.mark_random.new.self in
    let front-is = ∥∥₁_elim w.current (Coded-set (the_row g.row.K-Plain g.row.V g.row.M).coded _ _) (λ h. h.0) in
    let plain = g.K.KeyClone.plain in (
      (
        refl,
        λ _. tt,
        (
          w.marked.items,
          c.in_ok-mark_random.ensures.0,
          ap (with_keys plain) c.emptied.ensures ∙ entries_at-plain plain w.writer.desk.shown.value.inner.map.entries w.marked.items ∙ ap (λ z. entries_at z.entries w.marked.items) front-is,
          c.in_ok-mark_random.ensures.1,
        ),
      ),
      record { rests = tt },
    )
