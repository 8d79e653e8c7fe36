-- Series that are taken one after the other.
use Rattle.std.proofs.Common.{◌≡◌, ℕ, zero, suc, ◌+◌, Bool, List, [], ◌∷◌, ◌++◌, length, Option, Some, None, refl, sym, ap, subst, ◌∙◌, append_assoc, arith}
use Rattle.std.specs.Prelude.{option_map, slice_get}
use Rattle.std.proofs.lemmas.Option.{same_Some}
use Rattle.std.proofs.lemmas.List.{append-nil}
use Rattle.metrics_core.specs.Keys.{KeyText}
use Rattle.metrics_registry.specs.Live.{LiveSeries}
use Rattle.metrics_registry.specs.Places.{with_cell_at}
use Rattle.flushed_cells.specs.declared.counter_state.CounterState.{CounterState}
use Rattle.flushed_cells.specs.declared.gauge_state.GaugeState.{GaugeState}
use Rattle.dsd_exporter.specs.State.{DogStatsDSettings, idle_at, counter_items, gauge_item, items_of_counters, items_of_gauges}
use Rattle.metrics_core.specs.Keys.{LabelText}
use Rattle.dsd_exporter.specs.Flushing.{AreTaken, with_found, ChangesAt, HasKeyAt, Unchanged}

-- ---- a series at a place

module _ {X : Type 0} where
  -- where there is a cell there is a key
  pub key-there : (live : List (LiveSeries X)) (place : ℕ) (c : X) → option_map (λ (s : LiveSeries X). s.cell) (slice_get live place) ≡ Some c → (key : KeyText) × HasKeyAt place key live
  key-there live place c at = by (slice_get live place) at
    where
      by : (o : Option (LiveSeries X)) → option_map (λ (s : LiveSeries X). s.cell) o ≡ Some c → (key : KeyText) × (option_map (λ (s : LiveSeries X). s.key) o ≡ Some key)
      by None e = absurd cc
      by (Some s) e = (s.key, refl)

  -- another cell changes neither keys nor how many there are
  pub key-same : (live : List (LiveSeries X)) (n place : ℕ) (d : X) → option_map (λ (s : LiveSeries X). s.key) (slice_get (with_cell_at live n d) place) ≡ option_map (λ (s : LiveSeries X). s.key) (slice_get live place)
  key-same [] n place d = refl
  key-same (s ∷ live) zero zero d = refl
  key-same (s ∷ live) zero (suc place) d = refl
  key-same (s ∷ live) (suc n) zero d = refl
  key-same (s ∷ live) (suc n) (suc place) d = key-same live n place d

  pub length-with : (live : List (LiveSeries X)) (n : ℕ) (d : X) → length (with_cell_at live n d) ≡ length live
  length-with [] n d = refl
  length-with (s ∷ live) zero d = refl
  length-with (s ∷ live) (suc n) d = ap suc (length-with live n d)

  -- the cell that is there changes nothing
  pub with-same : (live : List (LiveSeries X)) (n : ℕ) (c : X) → option_map (λ (s : LiveSeries X). s.cell) (slice_get live n) ≡ Some c → with_cell_at live n c ≡ live
  with-same [] n c at = refl
  with-same (s ∷ live) zero c at = (λ j. record s { cell = sym (same_Some s.cell c at) j } ∷ live)
  with-same (s ∷ live) (suc n) c at = ap (λ l. s ∷ l) (with-same live n c at)

-- ---- one after the other

pub length-next : {Y : Type 0} (found : List Y) (y : Y) → length (found ++ y ∷ []) ≡ length found + 1
length-next [] y = refl
length-next (x ∷ found) y = (let rest = length-next found y in omega (arith, rest))

module _ {X Y : Type 0} (Takes : X → Y → X → Type 0) where
  -- one more was taken, behind those that were
  pub next-taken : (old mid : List (LiveSeries X)) (found : List Y) (y : Y) (new : List (LiveSeries X)) → AreTaken Unchanged Takes old found mid
      → ChangesAt (length found) (λ c d. Takes c y d) mid new → AreTaken Unchanged Takes old (found ++ y ∷ []) new
  next-taken [] mid [] y new taken changes =
      let at : option_map (λ (s : LiveSeries X). s.cell) (slice_get [] 0) ≡ Some changes.0 = ap (λ l. option_map (λ (s : LiveSeries X). s.cell) (slice_get l 0)) (sym taken) ∙ changes.2 in
      absurd cc
  next-taken (s ∷ old) mid [] y new taken changes =
      let at : option_map (λ (s : LiveSeries X). s.cell) (Some s) ≡ Some changes.0 = ap (λ l. option_map (λ (s : LiveSeries X). s.cell) (slice_get l 0)) (sym taken) ∙ changes.2 in
      let cell : s.cell ≡ changes.0 = same_Some s.cell changes.0 at in
      subst (AreTaken Unchanged Takes (s ∷ old) (y ∷ [])) (ap (λ l. with_cell_at l 0 changes.1) (sym taken) ∙ sym changes.4) (
        (changes.1, subst (λ c. Takes c y changes.1) (sym cell) changes.3, refl),
        refl,
      )
  next-taken [] mid (x ∷ found) y new taken changes = absurd taken
  next-taken (s ∷ old) [] (x ∷ found) y new taken changes = absurd taken
  next-taken (s ∷ old) (t ∷ mid) (x ∷ found) y new taken changes =
      subst (AreTaken Unchanged Takes (s ∷ old) (x ∷ found ++ y ∷ [])) (sym changes.4) (
        taken.0,
        next-taken old mid found y (with_cell_at mid (length found) changes.1) taken.1 (changes.0, changes.1, changes.2, changes.3, refl),
      )

  -- the key of the next one is as it was
  pub key-next : (old mid : List (LiveSeries X)) (found : List Y) (key : KeyText) → AreTaken Unchanged Takes old found mid → HasKeyAt (length found) key mid → HasKeyAt (length found) key old
  key-next old mid [] key taken at = subst (HasKeyAt 0 key) taken at
  key-next [] mid (x ∷ found) key taken at = absurd taken
  key-next (s ∷ old) [] (x ∷ found) key taken at = absurd taken
  key-next (s ∷ old) (t ∷ mid) (x ∷ found) key taken at = key-next old mid found key taken.1 at

  pub length-taken : (old mid : List (LiveSeries X)) (found : List Y) → AreTaken Unchanged Takes old found mid → length mid ≡ length old
  length-taken old mid [] taken = ap length taken
  length-taken [] mid (x ∷ found) taken = absurd taken
  length-taken (s ∷ old) [] (x ∷ found) taken = absurd taken
  length-taken (s ∷ old) (t ∷ mid) (x ∷ found) taken = ap suc (length-taken old mid found taken.1)

  pub none-taken : (old new : List (LiveSeries X)) → new ≡ old → AreTaken Unchanged Takes old [] new
  none-taken old new same = same

module _ (settings : DogStatsDSettings) (tags : List LabelText) (moment : ℕ) where
  -- what is sent of one more
  pub counters-next : {X : Type 0} (old : List (LiveSeries X)) (found : List CounterState) (marks : List Bool) (key : KeyText) (x : CounterState) → HasKeyAt (length found) key old
      → items_of_counters settings tags moment marks (with_found old (found ++ x ∷ []))
      ≡ items_of_counters settings tags moment marks (with_found old found) ++ counter_items settings tags moment (idle_at marks (length found)) key x
  counters-next [] found marks key x at = absurd cc
  counters-next (s ∷ old) [] [] key x at = append-nil (counter_items settings tags moment (idle_at [] 0) s.key x) ∙ ap (λ k. counter_items settings tags moment (idle_at [] 0) k x) (same_Some s.key key at)
  counters-next (s ∷ old) [] (mark ∷ marks) key x at = append-nil (counter_items settings tags moment mark s.key x) ∙ ap (λ k. counter_items settings tags moment mark k x) (same_Some s.key key at)
  counters-next (s ∷ old) (y ∷ found) [] key x at =
      ap (λ l. counter_items settings tags moment (idle_at [] 0) s.key y ++ l) (counters-next old found [] key x at)
      ∙ sym (append_assoc (counter_items settings tags moment (idle_at [] 0) s.key y) (items_of_counters settings tags moment [] (with_found old found)) (counter_items settings tags moment (idle_at [] (length found)) key x))
  counters-next (s ∷ old) (y ∷ found) (mark ∷ marks) key x at =
      ap (λ l. counter_items settings tags moment mark s.key y ++ l) (counters-next old found marks key x at)
      ∙ sym (append_assoc (counter_items settings tags moment mark s.key y) (items_of_counters settings tags moment marks (with_found old found)) (counter_items settings tags moment (idle_at marks (length found)) key x))

  pub gauges-next : {X : Type 0} (old : List (LiveSeries X)) (found : List GaugeState) (key : KeyText) (x : GaugeState) → HasKeyAt (length found) key old
      → items_of_gauges settings tags moment (with_found old (found ++ x ∷ [])) ≡ items_of_gauges settings tags moment (with_found old found) ++ gauge_item settings tags moment key x ∷ []
  gauges-next [] found key x at = absurd cc
  gauges-next (s ∷ old) [] key x at = ap (λ k. gauge_item settings tags moment k x ∷ []) (same_Some s.key key at)
  gauges-next (s ∷ old) (y ∷ found) key x at = ap (λ l. gauge_item settings tags moment s.key y ∷ l) (gauges-next old found key x at)
