-- The keys of gauges stay while cells change and other series are registered.
use Rattle.std.proofs.Common.{◌≡◌, ℕ, zero, suc, ◌≤◌, true, false, cond, List, [], ◌∷◌, ◌++◌, length, Option, None, Some, inl, inr, ap, arith, refl, sym, ◌∙◌}
use Rattle.std.specs.Prelude.{option_map, slice_get}
use Rattle.std.proofs.lemmas.List.{map_push}
use Rattle.std.proofs.lemmas.Option.{none-some, same_Some, slice_get_past}
use Rattle.metrics_core.specs.declared.kinds.SeriesId.{SeriesId}
use Rattle.metrics_core.specs.Keys.{KeyText}
use Rattle.metrics_registry.specs.Live.{LiveSeries, RegistersCounter, RegistersGauge, RegistersHistogram, RegistryText, has_id, id_of_key, with_cell, with_gauge}
use Rattle.metrics_registry.specs.Places.{with_cell_at}
use Rattle.dsd_exporter.specs.Exporter.{keys_of}

module _ {X : Type 0} where
  pub keys-with_cell : (id : SeriesId) (live : List (LiveSeries X)) (cell : X) → keys_of (with_cell id live cell) ≡ keys_of live
  keys-with_cell id [] cell = refl
  keys-with_cell id (s ∷ live) cell =
      elim (has_id id s) as (λ b. (cond b (record s { cell = cell }) s).key ∷ keys_of (with_cell id live cell) ≡ s.key ∷ keys_of live) [
        | true ↦ ap (λ l. s.key ∷ l) (keys-with_cell id live cell)
        | false ↦ ap (λ l. s.key ∷ l) (keys-with_cell id live cell)
      ]

  pub keys-with_cell_at : (live : List (LiveSeries X)) (place : ℕ) (cell : X) → keys_of (with_cell_at live place cell) ≡ keys_of live
  keys-with_cell_at [] place cell = refl
  keys-with_cell_at (s ∷ live) zero cell = refl
  keys-with_cell_at (s ∷ live) (suc place) cell = ap (λ l. s.key ∷ l) (keys-with_cell_at live place cell)

-- registering a counter or a histogram leaves the gauges as they are
module _ {C G H : Type 0} (key : KeyText) (id : SeriesId) (before now : RegistryText C G H) where
  pub counter_leaves_gauges : (IsMade : C → Type 0) → RegistersCounter IsMade key id before now → now.gauges ≡ before.gauges
  counter_leaves_gauges IsMade (inl (found, same)) = ap (λ (s : RegistryText C G H). s.gauges) same
  counter_leaves_gauges IsMade (inr (none, is, (cell, made, added))) = ap (λ (s : RegistryText C G H). s.gauges) added

  pub histogram_leaves_gauges : (IsMade : H → Type 0) → RegistersHistogram IsMade key id before now → now.gauges ≡ before.gauges
  histogram_leaves_gauges IsMade (inl (found, same)) = ap (λ (s : RegistryText C G H). s.gauges) same
  histogram_leaves_gauges IsMade (inr (none, is, (cell, made, added))) = ap (λ (s : RegistryText C G H). s.gauges) added

-- ---- a gauge is registered

last-of : {X : Type 0} (xs : List X) (x : X) → slice_get (xs ++ x ∷ []) (length xs) ≡ Some x
last-of [] x = refl
last-of (y ∷ xs) x = last-of xs x

-- the key of the series at a place
abbrev pub key_at : {X : Type 0} → ℕ → List (LiveSeries X) → Option KeyText
key_at place live = option_map (λ series. series.key) (slice_get live place)

module _ {C G H : Type 0} (IsMade : G → Type 0) (key : KeyText) (id : SeriesId) (before now : RegistryText C G H) (count : ℕ) (is : count ≡ length before.gauges) where
  -- the key is that of a new gauge, which stands there
  pub record IsNew (kept : KeyText) : Type 0 where
    pub key_is : kept ≡ key
    pub absent : id_of_key key before.gauges ≡ None
    pub cell : G
    pub made : IsMade cell
    pub now_is : now ≡ with_gauge before key cell

  none-before : now ≡ before → key_at count now.gauges ≡ None
  none-before same =
      ap (λ (s : RegistryText C G H). key_at count s.gauges) same
      ∙ ap (option_map (λ (series : LiveSeries G). series.key)) (slice_get_past before.gauges count (let few : length before.gauges ≤ count = omega (arith, is) in few))

  some-new : (cell : G) → now ≡ with_gauge before key cell → key_at count now.gauges ≡ Some key
  some-new cell added =
      ap (λ (s : RegistryText C G H). key_at count s.gauges) added
      ∙ ap (λ n. option_map (λ (series : LiveSeries G). series.key) (slice_get (with_gauge before key cell).gauges n)) is
      ∙ ap (option_map (λ (series : LiveSeries G). series.key)) (last-of before.gauges _)

  -- where none stands there nothing changed
  pub none_is_new : RegistersGauge IsMade key id before now → None ≡ key_at count now.gauges → now ≡ before
  none_is_new (inl (found, same)) none = same
  none_is_new (inr (absent, given, (cell, made, added))) none = absurd (none-some key (none ∙ some-new cell added))

  pub one_is_new : (kept : KeyText) → RegistersGauge IsMade key id before now → Some kept ≡ key_at count now.gauges → IsNew kept
  one_is_new kept (inl (found, same)) some = absurd (none-some kept (sym (none-before same) ∙ sym some))
  one_is_new kept (inr (absent, given, (cell, made, added))) some = record {
    key_is = same_Some kept key (some ∙ some-new cell added);
    absent = absent;
    cell = cell;
    made = made;
    now_is = added;
  }

  -- the keys of the gauges with the new one
  pub keys-new : (kept : KeyText) → IsNew kept → keys_of now.gauges ≡ keys_of before.gauges ++ kept ∷ []
  keys-new kept new =
      ap (λ (s : RegistryText C G H). keys_of s.gauges) new.now_is
      ∙ map_push (λ (series : LiveSeries G). series.key) before.gauges _
      ∙ ap (λ k. keys_of before.gauges ++ k ∷ []) (sym new.key_is)

-- the cell that is made is one of these too
pub gauge_made : {C G H : Type 0} (P Q : G → Type 0) (key : KeyText) (id : SeriesId) (before now : RegistryText C G H) → ((cell : G) → P cell → Q cell) → RegistersGauge P key id before now → RegistersGauge Q key id before now
gauge_made P Q key id before now weaker (inl there) = inl there
gauge_made P Q key id before now weaker (inr (absent, given, (cell, made, added))) = inr (absent, given, (cell, weaker cell made, added))
