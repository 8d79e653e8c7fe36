-- Histograms that were drained: where no pass is out, the calls that the exporter knows of stay, and all their samples are recorded.
use Rattle.std.proofs.Common.{◌≡◌, ℕ, zero, suc, ◌+◌, List, [], ◌∷◌, map, length, Some, refl, sym, ap, subst, ◌∙◌, append-nil, add-one, arith}
use Rattle.std.specs.Prelude.{All, slice_get, option_map}
use Rattle.std.proofs.lemmas.List.Elements.{All-nil, All-head, All-tail, All-cons}
use Rattle.std.proofs.lemmas.Option.{same_Some}
use Rattle.legal_history.specs.declared.history.View.{View}
use Rattle.metrics_core.specs.Calls.{Call}
use Rattle.metrics_registry.specs.Live.{LiveSeries}
use Rattle.metrics_registry.specs.Places.{with_cell_at}
use Rattle.rolling_summaries.specs.Standing.{NeverFall, NoneAfter}
use Rattle.histogram_series.specs.Entries.{TimedCall, TimedEntry, records_of, samples_of_entries}
use Rattle.histogram_series.specs.Series.{entries, recorded}
use Rattle.histogram_series.specs.Drains.{TakesOut}
use Rattle.prom_format.specs.Names.{sanitized_metric_name}
use Rattle.prom_exporter.specs.Families.{ExporterSettings, distribution_of}
use Rattle.prom_exporter.specs.Kept.{HaveKinds}
use Rattle.prom_exporter.specs.Rows.{keys_of}
use Rattle.prom_exporter.specs.Sampled.{Sampled, IsAtRest, IsTimely, calls_known}
use Rattle.prom_exporter.specs.Values.{sampled_series}
use Rattle.prom_exporter.specs.Stepped.{DrainsInPart, DrainsWhole, AreDrained}

-- ---- one histogram

-- entries that are taken out leave the number of the pass, and how many are out
out_same : (v w : View TimedCall) (out : List TimedEntry) → TakesOut v out w → (w.number ≡ v.number) × (w.out ≡ v.out)
out_same v w [] taken = (ap (λ (u : View TimedCall). u.number) (sym taken), ap (λ (u : View TimedCall). u.out) (sym taken))
out_same v w (e ∷ out) taken =
    let rest = out_same taken.0 w out taken.2 in
    let one = taken.1.6 in
    (rest.0 ∙ ap (λ (u : View TimedCall). u.number) one, rest.1 ∙ ap (λ (u : View TimedCall). u.out) one)

pub part-rest : (s t : Sampled) → DrainsInPart s t → IsAtRest s → IsAtRest t
part-rest s t part rest =
    let same = out_same s.series.root t.series.root part.drains.out part.drains.taken in
    (same.0 ∙ rest.0, same.1 ∙ rest.1)

-- nothing was drained
pub part-none : (s : Sampled) → DrainsInPart s s
part-none s = record {
  drains = record { cell = refl; kind = refl; out = []; taken = refl };
  grows = ([], sym (append-nil s.series.root.seen), λ others. sym (append-nil (entries s.series)));
  same_entries = λ rest. refl;
  note = refl;
}

pub part-timely : (moment : ℕ) (s t : Sampled) → DrainsInPart s t → IsAtRest s → IsTimely moment s → IsTimely moment t
part-timely moment s t part rest timely =
    subst (λ (es : List TimedEntry). NeverFall (samples_of_entries es) × NoneAfter moment (samples_of_entries es)) (sym (part.same_entries rest)) timely

-- all its samples are recorded
abbrev pub IsWhole : Sampled → Type 0
IsWhole s = recorded s.series ≡ entries s.series

pub whole-whole : (s t : Sampled) → DrainsWhole s t → IsAtRest s → IsWhole t
whole-whole s t whole rest = whole.all_recorded rest ∙ sym (whole.in_part.same_entries rest)

-- ---- all histograms

abbrev pub AtRest : List (LiveSeries Sampled) → Type 0
AtRest = All (λ series. IsAtRest series.cell)

abbrev pub AreWhole : List (LiveSeries Sampled) → Type 0
AreWhole = All (λ series. IsWhole series.cell)

module _ (changes : Sampled → Sampled → Type 0) where
  -- what holds of each then, where something held of each before
  pub drained-all : (P Q : LiveSeries Sampled → Type 0) → ((s t : LiveSeries Sampled) → t.id ≡ s.id → t.key ≡ s.key → changes s.cell t.cell → P s → Q t)
      → (old new : List (LiveSeries Sampled)) → AreDrained changes old new → All P old → All Q new
  drained-all P Q each [] [] drained all = All-nil Q
  drained-all P Q each [] (t ∷ new) drained all = absurd drained
  drained-all P Q each (s ∷ old) [] drained all = absurd drained
  drained-all P Q each (s ∷ old) (t ∷ new) drained all =
      All-cons Q t new (each s t drained.0.0 drained.0.1 drained.0.2 (All-head P s old all)) (drained-all P Q each old new drained.1 (All-tail P s old all))

  pub drained-keys : (old new : List (LiveSeries Sampled)) → AreDrained changes old new → keys_of new ≡ keys_of old
  drained-keys [] [] drained = refl
  drained-keys [] (t ∷ new) drained = absurd drained
  drained-keys (s ∷ old) [] drained = absurd drained
  drained-keys (s ∷ old) (t ∷ new) drained = (λ j. drained.0.1 j ∷ drained-keys old new drained.1 j)

  -- what the state sees of each then
  pub drained-seen : (before after : Sampled → List Call) → ((s t : Sampled) → changes s t → IsAtRest s → (after t ≡ before s) × (t.note ≡ s.note))
      → (old new : List (LiveSeries Sampled)) → AreDrained changes old new → AtRest old → map (sampled_series after) new ≡ map (sampled_series before) old
  drained-seen before after each [] [] drained rest = refl
  drained-seen before after each [] (t ∷ new) drained rest = absurd drained
  drained-seen before after each (s ∷ old) [] drained rest = absurd drained
  drained-seen before after each (s ∷ old) (t ∷ new) drained rest =
      let own = each s.cell t.cell drained.0.2 (All-head (λ (e : LiveSeries Sampled). IsAtRest e.cell) s old rest) in
      let later = drained-seen before after each old new drained.1 (All-tail (λ (e : LiveSeries Sampled). IsAtRest e.cell) s old rest) in
      (λ j. record { id = drained.0.0 j; key = drained.0.1 j; cell = record { calls = own.0 j; note = own.1 j } } ∷ later j)

  -- as a change that says less
  pub drained-less : (less : Sampled → Sampled → Type 0) → ((s t : Sampled) → changes s t → less s t) → (old new : List (LiveSeries Sampled)) → AreDrained changes old new → AreDrained less old new
  drained-less less each [] [] drained = tt
  drained-less less each [] (t ∷ new) drained = absurd drained
  drained-less less each (s ∷ old) [] drained = absurd drained
  drained-less less each (s ∷ old) (t ∷ new) drained = ((drained.0.0, drained.0.1, each s.cell t.cell drained.0.2), drained-less less each old new drained.1)

pub drained-rest : (old new : List (LiveSeries Sampled)) → AreDrained DrainsInPart old new → AtRest old → AtRest new
drained-rest =
    drained-all DrainsInPart (λ s. IsAtRest s.cell) (λ s. IsAtRest s.cell) (λ s t id key part rest. part-rest s.cell t.cell part rest)

-- each is of the kind that it was of
pub drained-kinds : (settings : ExporterSettings) (old new : List (LiveSeries Sampled)) → AreDrained DrainsInPart old new → HaveKinds settings old → HaveKinds settings new
drained-kinds settings =
    drained-all DrainsInPart
    (λ s. s.cell.series.kind ≡ distribution_of settings (sanitized_metric_name s.key.name))
    (λ s. s.cell.series.kind ≡ distribution_of settings (sanitized_metric_name s.key.name))
    (λ s t id key part kind. part.drains.kind ∙ kind ∙ ap (λ k. distribution_of settings (sanitized_metric_name k.name)) (sym key))

pub drained-timely : (moment : ℕ) (old new : List (LiveSeries Sampled)) → AreDrained DrainsInPart old new → AtRest old → All (λ (s : LiveSeries Sampled). IsTimely moment s.cell) old → All (λ (s : LiveSeries Sampled). IsTimely moment s.cell) new
drained-timely moment old new drained rest timely =
    drained-all DrainsInPart (λ s. IsAtRest s.cell × IsTimely moment s.cell) (λ s. IsTimely moment s.cell) (λ s t id key part known. part-timely moment s.cell t.cell part known.0 known.1) old new drained
    (λ k d below. (rest k d below, timely k d below))

-- the calls that the exporter knows of stay
pub drained-known : (old new : List (LiveSeries Sampled)) → AreDrained DrainsInPart old new → AtRest old → map (sampled_series calls_known) new ≡ map (sampled_series calls_known) old
drained-known = drained-seen DrainsInPart calls_known calls_known (λ s t part rest. (ap records_of (part.same_entries rest), part.note))

-- ---- those that were drained whole

pub whole-parts : (old new : List (LiveSeries Sampled)) → AreDrained DrainsWhole old new → AreDrained DrainsInPart old new
whole-parts = drained-less DrainsWhole DrainsInPart (λ s t whole. whole.in_part)

pub drained-whole : (old new : List (LiveSeries Sampled)) → AreDrained DrainsWhole old new → AtRest old → AreWhole new
drained-whole = drained-all DrainsWhole (λ s. IsAtRest s.cell) (λ s. IsWhole s.cell) (λ s t id key whole rest. whole-whole s.cell t.cell whole rest)

-- ---- one histogram after the other

-- the first so many were drained whole, and the others are as they were
abbrev pub DrainedTo : ℕ → List (LiveSeries Sampled) → List (LiveSeries Sampled) → Type 0
DrainedTo zero old new = new ≡ old
DrainedTo (suc n) [] new = new ≡ []
DrainedTo (suc n) (s ∷ old) [] = ⊥
DrainedTo (suc n) (s ∷ old) (t ∷ new) = (t.id ≡ s.id) × (t.key ≡ s.key) × DrainsWhole s.cell t.cell × DrainedTo n old new

parts-none : (old new : List (LiveSeries Sampled)) → new ≡ old → AreDrained DrainsInPart old new
parts-none old new same = subst (AreDrained DrainsInPart old) (sym same) (own old)
  where
    own : (l : List (LiveSeries Sampled)) → AreDrained DrainsInPart l l
    own [] = tt
    own (s ∷ l) = ((refl, refl, part-none s.cell), own l)

pub drained_to-parts : (n : ℕ) (old new : List (LiveSeries Sampled)) → DrainedTo n old new → AreDrained DrainsInPart old new
drained_to-parts zero old new drained = parts-none old new drained
drained_to-parts (suc n) [] new drained = parts-none [] new drained
drained_to-parts (suc n) (s ∷ old) [] drained = absurd drained
drained_to-parts (suc n) (s ∷ old) (t ∷ new) drained = ((drained.0, drained.1, drained.2.in_part), drained_to-parts n old new drained.3)

-- one more was drained whole
next_whole : (n : ℕ) (old new : List (LiveSeries Sampled)) (cell left : Sampled) → DrainedTo n old new → option_map (λ (s : LiveSeries Sampled). s.cell) (slice_get new n) ≡ Some cell → DrainsWhole cell left
    → DrainedTo (suc n) old (with_cell_at new n left)
next_whole zero old [] cell left drained here whole = absurd cc
next_whole zero [] (t ∷ new) cell left drained here whole = absurd cc
next_whole zero (s ∷ old) (t ∷ new) cell left drained here whole =
    let front : t ≡ s = cc in
    let is : cell ≡ s.cell = sym (same_Some t.cell cell here) ∙ ap (λ (e : LiveSeries Sampled). e.cell) front in (
      ap (λ (e : LiveSeries Sampled). e.id) front,
      ap (λ (e : LiveSeries Sampled). e.key) front,
      subst (λ c. DrainsWhole c left) is whole,
      cc,
    )
next_whole (suc n) [] new cell left drained here whole = absurd (subst (λ l. option_map (λ (s : LiveSeries Sampled). s.cell) (slice_get l (suc n)) ≡ Some cell → ⊥) (sym drained) (λ e. absurd cc) here)
next_whole (suc n) (s ∷ old) [] cell left drained here whole = absurd drained
next_whole (suc n) (s ∷ old) (t ∷ new) cell left drained here whole =
    (drained.0, drained.1, drained.2, next_whole n old new cell left drained.3 here whole)

pub drained_to-next : (n : ℕ) (old new : List (LiveSeries Sampled)) (cell left : Sampled) → DrainedTo n old new → option_map (λ (s : LiveSeries Sampled). s.cell) (slice_get new n) ≡ Some cell → DrainsWhole cell left
    → DrainedTo (n + 1) old (with_cell_at new n left)
drained_to-next n old new cell left drained here whole = rw (add-one n) (next_whole n old new cell left drained here whole)

-- one more was drained in part
pub drained_to-part : (n : ℕ) (old new : List (LiveSeries Sampled)) (cell left : Sampled) → DrainedTo n old new → option_map (λ (s : LiveSeries Sampled). s.cell) (slice_get new n) ≡ Some cell → DrainsInPart cell left
    → AreDrained DrainsInPart old (with_cell_at new n left)
drained_to-part zero old [] cell left drained here part = absurd cc
drained_to-part zero [] (t ∷ new) cell left drained here part = absurd cc
drained_to-part zero (s ∷ old) (t ∷ new) cell left drained here part =
    let front : t ≡ s = cc in
    let is : cell ≡ s.cell = sym (same_Some t.cell cell here) ∙ ap (λ (e : LiveSeries Sampled). e.cell) front in (
      (ap (λ (e : LiveSeries Sampled). e.id) front, ap (λ (e : LiveSeries Sampled). e.key) front, subst (λ c. DrainsInPart c left) is part),
      parts-none old new cc,
    )
drained_to-part (suc n) [] new cell left drained here part = absurd (subst (λ l. option_map (λ (s : LiveSeries Sampled). s.cell) (slice_get l (suc n)) ≡ Some cell → ⊥) (sym drained) (λ e. absurd cc) here)
drained_to-part (suc n) (s ∷ old) [] cell left drained here part = absurd drained
drained_to-part (suc n) (s ∷ old) (t ∷ new) cell left drained here part =
    ((drained.0, drained.1, drained.2.in_part), drained_to-part n old new cell left drained.3 here part)

-- all were
pub drained_to-all : (n : ℕ) (old new : List (LiveSeries Sampled)) → length old ≡ n → DrainedTo n old new → AreDrained DrainsWhole old new
drained_to-all zero [] new many drained = subst (AreDrained DrainsWhole []) (sym drained) tt
drained_to-all zero (s ∷ old) new many drained = absurd (omega (arith, many))
drained_to-all (suc n) [] new many drained = absurd (omega (arith, many))
drained_to-all (suc n) (s ∷ old) [] many drained = absurd drained
drained_to-all (suc n) (s ∷ old) (t ∷ new) many drained = ((drained.0, drained.1, drained.2), drained_to-all n old new (omega (arith, many)) drained.3)

-- they are as many
pub drained_to-many : (n : ℕ) (old new : List (LiveSeries Sampled)) → DrainedTo n old new → length new ≡ length old
drained_to-many zero old new drained = ap length drained
drained_to-many (suc n) [] new drained = ap length drained
drained_to-many (suc n) (s ∷ old) [] drained = absurd drained
drained_to-many (suc n) (s ∷ old) (t ∷ new) drained = ap suc (drained_to-many n old new drained.3)
