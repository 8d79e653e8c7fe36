-- Where there is room for one more.
use Rattle.std.proofs.Common.{◌≡◌, ℕ, ◌<◌, map, Bool, true, false, cond, ◌||◌, List, Option, None, refl, sym, ap, ◌∙◌, is_some}
use Rattle.std.specs.Prelude.{nat_lt, option_map, Result, Ok, Err, OnErr}
use Rattle.std.proofs.lemmas.Bool.{ltb-true}
use Rattle.std.specs.Map.{lookup}
use Rattle.indexmap.specs.IndexMap.{IndexMap, get_by, insert_entry, spare}
use Rattle.indexmap.proofs.CallerLemmas.{insert_entry-new}
use Rattle.metrics_core.specs.declared.kinds.MetricKind.{MetricKind}
use Rattle.name_counts.specs.declared.names.CountedName.{CountedName}
use Rattle.name_counts.specs.Counts.{has_room, is_reserved, raised}
use Rattle.name_counts.specs.Names.{is_named, is_ready, counted, named}
use Rattle.name_counts.specs.NameLaws.{pair_eq, respects_pairs}
use Rattle.name_counts.specs.Kept.{counts_kept}
use Rattle.name_counts.proofs.Counted.{is_counted, raised-new}

pub on_err : {A E : Type 0} {P : Type 0} (r : Result A E) → P → OnErr r P
on_err (Ok _) p = tt
on_err (Err _) p = p

module _ {S : Type 0} (kind : MetricKind) (name : List ℕ) (m : IndexMap CountedName ℕ S) (ready : Option CountedName) where
  -- a pair that is found has room
  pub room-found : is_some (get_by (is_named kind name) m) ≡ true → has_room (counts_kept m ready) kind name ≡ true
  room-found found = ap (λ b. b || is_reserved kind name (counts_kept m ready).reserved) (is_counted kind name m.entries ∙ found)

  none-reserved : (b : Bool) → (b ≡ true → is_ready kind name ready ≡ false) → is_reserved kind name (cond b (option_map named ready) None) ≡ false
  none-reserved true other = other refl
  none-reserved false other = refl

  -- a pair that isn't found has none, unless it is ready and the map has a free place
  pub no_room : get_by (is_named kind name) m ≡ None → (0 < spare m → is_ready kind name ready ≡ false) → has_room (counts_kept m ready) kind name ≡ false
  no_room none other =
      ap (λ b. b || is_reserved kind name (counts_kept m ready).reserved) (is_counted kind name m.entries ∙ ap is_some none)
      ∙ none-reserved (nat_lt 0 (spare m)) (λ free. other (ltb-true 0 (spare m) free))

  -- a new pair goes last
  pub inserted : (key : CountedName) → is_named kind name key ≡ true → get_by (is_named kind name) m ≡ None → map counted (insert_entry pair_eq m.entries key 1) ≡ raised kind name (map counted m.entries)
  inserted key same none =
      ap (map counted) (insert_entry-new pair_eq m key 1 (sym (λ j. lookup (λ x. respects_pairs kind name key x same j) m.entries) ∙ none))
      ∙ raised-new kind name m.entries key same none
