use Rattle.std.proofs.Common.{◌≡◌, ℕ, ◌*◌, ◌<◌, ◌≤◌, false, List, length, get_or, Some, refl, sym, ap, ◌∙◌, arith}
use Rattle.std.specs.Prelude.{slice_get, nat_lt}
use Rattle.std.proofs.lemmas.Bool.Decides.{nat_tests}
use Rattle.std.proofs.lemmas.Option.{none-some, same_Some, slice_get_read, slice_get_past}
use Rattle.rolling_summaries.specs.declared.buckets.Bucket.{Bucket}
use Rattle.rolling_summaries.specs.Summaries.{in_window}
use Rattle.rolling_summaries.proofs.Ordered.{none-sole, one-sole, sole}
use Rattle.rolling_summaries.proofs.buckets.sole_in_window.Goals as goal
use Rattle.rolling_summaries.proofs.buckets.sole_in_window.Goals.{in_default-via-in-Some+else-holds, in_default-via-in_default}

-- what is found at a place
stands : (kept : List Bucket) (i : ℕ) (b : Bucket) → i < length kept → b ≡ get_or kept i b → slice_get kept i ≡ Some b
stands kept i b within is = slice_get_read _ _ _ _ refl within is

few : {i n : ℕ} → false ≡ nat_lt i n → n ≤ i
few {i} {n} is = grind (arith, nat_tests)

-- the bucket behind the newest is out of the window
older_out : (c : goal.In_default) → (o : Bucket) → slice_get c.args.kept.now.items 1 ≡ Some o
    → in_window (c.args.window.limit * c.args.window.width) c.args.window.now o.begin ≡ false
older_out c o at =
    let w = c.args.window in
    let kept = c.args.kept.now.items in
    elim c.in_default.branch [
      | in_default-via-in-Some+else-holds v ↦
          (let older = v.in-Some.ensures.item in
          let there = stands kept 1 v.in-Some.older.now older.3.0 older.1 in
          ap (λ (b : Bucket). in_window (w.limit * w.width) w.now b.begin) (sym (same_Some v.in-Some.older.now o (sym there ∙ at))) ∙ sym v.if-holds.ensures)
      | in_default-via-in_default v ↦ absurd (none-some o (sym (slice_get_past kept 1 (few v.in_default.ensures.item.0)) ∙ at))
    ]

pub returns-in_default-clause-sole : goal.returns-in_default-clause-sole
returns-in_default-clause-sole c =
    let w = c.args.window in
    let kept = c.args.kept.now.items in
    let newest = c.in_ok-newest.ensures.item in
    sole w.width (w.limit * w.width) w.now kept c.in_ok-newest.newest.now c.requires.apart c.requires.ordered (stands kept 0 c.in_ok-newest.newest.now newest.3.0 newest.1) (sym c.holds.ensures ∙ c.if-not-holds.false) (older_out c)

pub returns-in_default-clause-one : goal.returns-in_default-clause-one
returns-in_default-clause-one c =
    let w = c.args.window in
    let kept = c.args.kept.now.items in
    let newest = c.in_ok-newest.ensures.item in
    one-sole w.width (w.limit * w.width) w.now kept c.in_ok-newest.newest.now c.requires.apart (stands kept 0 c.in_ok-newest.newest.now newest.3.0 newest.1) (sym c.holds.ensures ∙ c.if-not-holds.false) (older_out c)

pub returns-then-not-holds-clause-others : goal.returns-then-not-holds-clause-others
returns-then-not-holds-clause-others c =
    let w = c.args.window in
    let newest = c.in_ok-newest.ensures.item in
    none-sole w.width (w.limit * w.width) w.now c.args.kept.now.items c.in_ok-newest.newest.now c.requires.apart (stands c.args.kept.now.items 0 c.in_ok-newest.newest.now newest.3.0 newest.1) (sym c.holds.ensures ∙ c.if-not-holds.true)
