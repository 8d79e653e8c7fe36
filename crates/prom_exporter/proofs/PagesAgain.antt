-- A page step that is made again at the same moment changes nothing.
use Rattle.std.proofs.Common.{◌≡◌, ◌+◌, ℕ, Bool, true, false, cond, not, List, [], ◌∷◌, ◌++◌, filter_map, Option, None, Some, refl, ap, subst, arith, append-nil}
use Rattle.std.specs.Prelude.{◌==◌, nat_lt, option_map}
use Rattle.std.specs.List.{cons_option}
use Rattle.std.proofs.lemmas.Bool.{eq-eqb}
use Rattle.std.proofs.lemmas.Option.{same_Some}
use Rattle.metrics_core.specs.declared.kinds.MetricKind.{MetricKind}
use Rattle.metrics_core.specs.declared.kinds.MetricKind.TheVariants as kinds
use Rattle.metrics_core.specs.Kinds.{mask_has}
use Rattle.metrics_registry.specs.Recency.{Idle, noted, note_left}
use Rattle.prom_exporter.specs.State.{Series, PrometheusState, count_of_updates, kept_at, page_step}

abbrev Note : Type 0
Note = ℕ × ℕ

not_later : (t timeout : ℕ) → nat_lt (t + timeout) t ≡ false
not_later t timeout = grind arith

-- a note that was made anew at a moment stays at it
fresh : (timeout count t : ℕ) → noted timeout (Some (count, t)) count t ≡ Some (count, t)
fresh timeout count t = rw (eq-eqb count count refl, not_later t timeout) refl

-- and so does one that was kept
noted_again : (timeout : ℕ) (note : Option Note) (count t : ℕ) (left : Note) → noted timeout note count t ≡ Some left → noted timeout (Some left) count t ≡ Some left
noted_again timeout None count t left is = subst (λ (n : Note). noted timeout (Some n) count t ≡ Some n) (same_Some (count, t) left is) (fresh timeout count t)
noted_again timeout (Some (known, moment)) count t left is = by (known == count) (nat_lt (moment + timeout) t) refl refl is
  where
    by : (b d : Bool) → (known == count) ≡ b → nat_lt (moment + timeout) t ≡ d → cond (not b) (Some (count, t)) (cond d None (Some (known, moment))) ≡ Some left → noted timeout (Some left) count t ≡ Some left
    by false d same later e = subst (λ (n : Note). noted timeout (Some n) count t ≡ Some n) (same_Some (count, t) left e) (fresh timeout count t)
    by true true same later e = absurd cc
    by true false same later e = subst (λ (n : Note). noted timeout (Some n) count t ≡ Some n) (same_Some (known, moment) left e) (rw (same, later) refl)

note_again : (idle : Option Idle) (kind : MetricKind) (note : Option Note) (count t : ℕ) (left : Option Note) → note_left idle kind note count t ≡ Some left → note_left idle kind left count t ≡ Some left
note_again None kind before count t left is = refl
note_again (Some idle) kind note count t left is = by (mask_has idle.mask kind) refl is
  where
    after : (o : Option Note) → noted idle.timeout note count t ≡ o → option_map Some o ≡ Some left → option_map Some (noted idle.timeout left count t) ≡ Some left
    after None made e = absurd cc
    after (Some n) made e = subst (λ (l : Option Note). option_map Some (noted idle.timeout l count t) ≡ Some l) (same_Some (Some n) left e) (ap (option_map Some) (noted_again idle.timeout note count t n made))

    by : (b : Bool) → mask_has idle.mask kind ≡ b → cond b (option_map Some (noted idle.timeout note count t)) (Some note) ≡ Some left → note_left (Some idle) kind left count t ≡ Some left
    by true has e = rw has (after (noted idle.timeout note count t) refl e)
    by false has e = rw has refl

kept_again : (idle : Option Idle) (t : ℕ) (kind : MetricKind) (s left : Series) → kept_at idle t kind s ≡ Some left → kept_at idle t kind left ≡ Some left
kept_again idle t kind s left is = by (note_left idle kind s.note (count_of_updates kind s) t) refl is
  where
    by : (o : Option (Option Note)) → note_left idle kind s.note (count_of_updates kind s) t ≡ o → option_map (λ note. record s { note = note }) o ≡ Some left → kept_at idle t kind left ≡ Some left
    by None made e = absurd cc
    by (Some note) made e = subst (λ (l : Series). kept_at idle t kind l ≡ Some l) (same_Some (record s { note = note }) left e) (ap (option_map (λ n. record s { note = n })) (note_again idle kind s.note (count_of_updates kind s) t note made))

module _ (f : Series → Option Series) (again : (s left : Series) → f s ≡ Some left → f left ≡ Some left) where
  again_step : (s : Series) (rest : List Series) (o : Option Series) → f s ≡ o → filter_map f rest ≡ rest → filter_map f (cons_option o rest) ≡ cons_option o rest
  again_step s rest None made same = same
  again_step s rest (Some left) made same = (λ j. cons_option (again s left made j) (same j))

  all_again : (xs : List Series) → filter_map f (filter_map f xs) ≡ filter_map f xs
  all_again [] = refl
  all_again (s ∷ xs) = again_step s (filter_map f xs) (f s) refl (all_again xs)

pub page_step-again : (idle : Option Idle) (t : ℕ) (s : PrometheusState) → page_step idle t (page_step idle t s) ≡ page_step idle t s
page_step-again idle t s = (λ j. record (page_step idle t s) {
  counters = all_again (kept_at idle t kinds.Counter) (kept_again idle t kinds.Counter) s.counters j;
  gauges = all_again (kept_at idle t kinds.Gauge) (kept_again idle t kinds.Gauge) s.gauges j;
  histograms = all_again (kept_at idle t kinds.Histogram) (kept_again idle t kinds.Histogram) s.histograms j;
  published = append-nil (s.published ++ s.pending) j;
})
