-- Lanes whose calls stand among those of a round: the series that they name, and what their lines ask for.
use Rattle.std.proofs.Common.{◌≡◌, ◌≢◌, ℕ, zero, suc, ◌+◌, ◌<◌, ◌≤◌, ◌⊎◌, inl, inr, ⊎_elim, cond, Bool, true, false, List, [], ◌∷◌, ◌++◌, length, map, set, refl, sym, ap, subst, ◌∙◌, append-nil, append_assoc, arith, length-append}
use Rattle.std.specs.Prelude.{◌==◌, ◌&&◌, flat_map, Option, Some, None, IfSome, All, if◌then◌else◌, slice_get, slice_index_or, filter}
use Rattle.std.proofs.lemmas.Bool.{true≢false, eq-eqb, ne_eqb}
use Rattle.std.proofs.lemmas.List.Elements.{filter-append}
use Rattle.std.proofs.lemmas.List.{map-append, length-map}
use Rattle.std.proofs.lemmas.List.Concat.{flat_map-append}
use mathlib.Core.Option.{some, some-injective, some-ne-none}
use mathlib.Core.Logic.{dite}
use native.Mathlib.Decide.{ℕ_discrete}
use lib.ListN.{get_elem?}
use Rattle.atomic_table.proofs.Lists.{at_longer, at_map, at_set}
use Rattle.cell_lanes.specs.declared.lane.Line.{Line}
use Rattle.cell_lanes.specs.Lines.{LaneText}
use Rattle.cell_lanes.specs.Lanes.{LineFit, cell_calls}
use Rattle.cell_lanes.proofs.Jobs.{in_at}
use Rattle.legal_history.specs.History.{Distinct, In, keep}
use Rattle.legal_history.proofs.Steps.{at_snoc_index, distinct_last}
use Rattle.metrics_core.specs.declared.calls.SeriesCall.{SeriesCall}
use Rattle.metrics_core.specs.declared.kinds.SeriesId.{SeriesId}
use Rattle.metrics_core.specs.declared.kinds.MetricKind.{MetricKind}
use Rattle.metrics_registry.specs.Live.{IsNumbered}
use Rattle.prom_exporter.specs.Exporter.{Exporter as PrometheusExporter}
use Rattle.prom_exporter.specs.LanePasses as P
use Rattle.dsd_exporter.specs.Exporter.{Exporter as DogStatsDExporter}
use Rattle.dsd_exporter.specs.LanePasses as D
use Rattle.exporter_lanes.specs.declared.exporters.Exporters.{Exporters}
use Rattle.exporter_lanes.specs.declared.exporters.ExporterCall.{ExporterCall}
use Rattle.exporter_lanes.specs.declared.exporters.ExporterCall.TheVariants as exporter
use Rattle.exporter_lanes.specs.ExporterLanes.{first_prometheus}
use Rattle.drive_script.specs.Texts.{call_line_of}
use Rattle.drive_script.specs.declared.script.CallLine.{CallLine}
use Rattle.script_player.specs.declared.lanes.Places.{Places}
use Rattle.script_player.specs.declared.lane_lines.LaneCall.{LaneCall}
use Rattle.script_player.specs.declared.lanes.LaneSeries.{LaneSeries}
use Rattle.script_player.specs.Fitting.{FitsHandle}
use Rattle.script_player.specs.LaneCalls.{AllAsked, AsksKind, HasLane, IsOfKind, PlacesAsk, SeriesIds, asked, both_at, call_asked, calls_at, ids_of, is_at, is_place, kind_asked, lane_asks, lane_cells, lane_its, lane_number, numbered, numbered_asked, numbered_at, on_both}
use Rattle.script_player.specs.LaneTables.{AllFitHandles, AllNamed, AreLanes, ArePlacesOf, HasCalls, HaveCalls, IsNamedAt, IsPlaceOf, NamesBoth, NamesCalls, lane_of, lines_of, pair_of}
use Rattle.script_player.proofs.LaneSteps.{both_many, calls_at-last, dogstatsd_many, dogstatsd_place, dogstatsd_step, kind_of_asked, kinds_below, lane_asks-last, lines_last, lines_step, past_asked, past_calls, past_fit, places_ask, prometheus_place, prometheus_step, pushed_asked, pushed_calls, pushed_fit}

-- ---- the place of an id

pub no_place : (ids : List SeriesId) → IsPlaceOf ids None None
no_place ids = ((λ j. refl), tt)

pub prometheus_placed : (e : PrometheusExporter) (id : SeriesId) (found : Option ℕ) → IsNumbered e.series → P.IsIndex id e found → IsPlaceOf (P.ids_of e) (Some id) found
prometheus_placed e id found numbered is = (prometheus_place e id found numbered is, of_kind found is)
  where
    of_kind : (found : Option ℕ) → P.IsIndex id e found → IfSome found (λ index. IsOfKind (P.ids_of e) index id.kind)
    of_kind None is = tt
    of_kind (Some index) is = (id, is, refl)

pub dogstatsd_placed : (e : DogStatsDExporter) (id : SeriesId) (found : Option ℕ) → IsNumbered e.series → D.IsIndex id e found → IsPlaceOf (D.ids_of e) (Some id) found
dogstatsd_placed e id found numbered is = (dogstatsd_place e id found numbered is, of_kind found is)
  where
    of_kind : (found : Option ℕ) → D.IsIndex id e found → IfSome found (λ index. IsOfKind (D.ids_of e) index id.kind)
    of_kind None is = tt
    of_kind (Some index) is = (id, is, refl)

-- the kind of a series that a handle of this kind names
pub placed_kind : (ids : List SeriesId) (own : Option SeriesId) (place : Option ℕ) (kind : MetricKind) → IsPlaceOf ids own place → ((id : SeriesId) → own ≡ Some id → id.kind ≡ kind) → IfSome place (λ index. IsOfKind ids index kind)
placed_kind ids None None kind is fits = tt
placed_kind ids None (Some k) kind is fits = absurd (true≢false (sym (eq-eqb k k refl) ∙ sym (is.0 k)))
placed_kind ids (Some id) None kind is fits = tt
placed_kind ids (Some id) (Some k) kind is fits = subst (λ t. IsOfKind ids k t) (fits id refl) is.1

-- ---- one more line, on the series that was named for it

abbrev line_on : Option ℕ → ExporterCall → Line ExporterCall
line_on slot call = record { slot = slot; call = call }

-- what one more line adds where its series, if any, was named
pub record OneMore (place : Option ℕ) (old : List ℕ) (its : List (Line ExporterCall)) (call : ExporterCall) (new : List ℕ) (slot : Option ℕ) : Type 0 where
  pub fit : LineFit (length new) (its ++ line_on slot call ∷ [])
  pub asked : (ids : SeriesIds) → IfSome place (λ index. AsksKind ids index call) → AllAsked ids old its → AllAsked ids new (its ++ line_on slot call ∷ [])
  pub calls : (j : ℕ) → cell_calls j new (its ++ line_on slot call ∷ []) ≡ cell_calls j old its ++ keep (is_place j place) call []

one_more : (place slot : Option ℕ) (old new : List ℕ) (its : List (Line ExporterCall)) (call : ExporterCall) → IsNamedAt place old new slot → LineFit (length old) its → OneMore place old its call new slot
one_more None slot old new its call (none, same) fit =
    subst (λ n. OneMore None old its call n slot) (sym same) (subst (OneMore None old its call old) (sym none) (record {
      fit = past_fit old its (its ++ line_on None call ∷ []) call refl fit;
      asked = λ ids asks. past_asked old its (its ++ line_on None call ∷ []) call refl ids;
      calls = past_calls old its (its ++ line_on None call ∷ []) call refl;
    }))
one_more (Some index) slot old new its call (s, is, more, stored) fit =
    subst (OneMore (Some index) old its call new) (sym is) (record {
      fit = pushed_fit old new its (its ++ line_on (Some s) call ∷ []) index s call more stored refl fit;
      asked = pushed_asked old new its (its ++ line_on (Some s) call ∷ []) index s call more stored refl fit;
      calls = pushed_calls old new its (its ++ line_on (Some s) call ∷ []) index s call more stored refl fit;
    })

-- a call goes last, on the series at both places
abbrev pub IsPushed : Places → SeriesCall → List ℕ → List (Line ExporterCall) → List ℕ → List (Line ExporterCall) → Type 0
IsPushed places call old its new after =
    LineFit (length new) after
    × ((ids : SeriesIds) → PlacesAsk ids places call → AllAsked ids old its → AllAsked ids new after)
    × ((j : ℕ) → cell_calls j new after ≡ cell_calls j old its ++ both_at j places call)
    × (map call_asked after ≡ map call_asked its ++ on_both call)

both_pushed : (places : Places) (call : SeriesCall) (old between new : List ℕ) (own : LaneCall) (its : List (Line ExporterCall)) → IsNamedAt places.prometheus old between own.prometheus → IsNamedAt places.dogstatsd between new own.dogstatsd → LineFit (length old) its
    → IsPushed places call old its new (its ++ line_on own.prometheus (exporter.Prometheus call) ∷ line_on own.dogstatsd (exporter.DogStatsD call) ∷ [])
both_pushed places call old between new own its first second fit =
    let one = line_on own.prometheus (exporter.Prometheus call) in
    let other = line_on own.dogstatsd (exporter.DogStatsD call) in
    let a = one_more places.prometheus own.prometheus old between its (exporter.Prometheus call) first fit in
    let b = one_more places.dogstatsd own.dogstatsd between new (its ++ one ∷ []) (exporter.DogStatsD call) second a.fit in
    let all : (its ++ one ∷ []) ++ other ∷ [] ≡ its ++ one ∷ other ∷ [] = append_assoc its (one ∷ []) (other ∷ []) in (
      subst (LineFit (length new)) all b.fit,
      (λ ids asks before. subst (AllAsked ids new) all (b.asked ids asks.1 (a.asked ids asks.0 before))),
      (λ j. ap (cell_calls j new) (sym all) ∙ b.calls j ∙ ap (λ l. l ++ keep (is_place j places.dogstatsd) (exporter.DogStatsD call) []) (a.calls j)
          ∙ append_assoc (cell_calls j old its) (keep (is_place j places.prometheus) (exporter.Prometheus call) []) (keep (is_place j places.dogstatsd) (exporter.DogStatsD call) [])),
      map-append call_asked its (one ∷ other ∷ []),
    )

module _ (ids : SeriesIds) (handles line_handles : List SeriesId) (moment number : ℕ) where
  module _ (xs : List CallLine) (x : CallLine) where
    abbrev call : SeriesCall
    call = asked moment x.act

    one_taken : (old new : List ℕ) (its after : List (Line ExporterCall)) (places : Places) → ArePlacesOf ids (slice_get handles x.handle) (slice_get line_handles x.handle) places
        → FitsHandle handles (call_line_of x) → FitsHandle line_handles (call_line_of x) → x.lane ≡ number → IsPushed places call old its new after
        → HasCalls ids handles line_handles moment number xs old its → HasCalls ids handles line_handles moment number (xs ++ x ∷ []) new after
    one_taken old new its after places (found, at, place, other_place) fits line_fits own (fit, asks, calls, lines) before =
        let first = length ids.dogstatsd in
        let other = places.dogstatsd in
        let is : IfSome found (λ k. IsOfKind ids.prometheus k (kind_asked call)) = placed_kind ids.prometheus (slice_get handles x.handle) found (kind_asked call) place (λ id named. fits id named ∙ kind_of_asked moment x.act) in
        let is_other : IfSome other (λ k. IsOfKind ids.dogstatsd k (kind_asked call)) = placed_kind ids.dogstatsd (slice_get line_handles x.handle) other (kind_asked call) other_place (λ id named. line_fits id named ∙ kind_of_asked moment x.act) in
        let within : IfSome other (λ k. k < first) = kinds_below ids.dogstatsd (kind_asked call) other is_other in
        let here : true ≡ HasLane number x = sym (eq-eqb x.lane number own) in
        record {
          fit = fit;
          asked = asks ids (places_ask ids first found other places call refl at refl is is_other) before.asked;
          prometheus = λ j. calls (first + j)
              ∙ (λ i. before.prometheus j i ++ (ap (λ b. if b then both_at (first + j) places call else []) here ∙ prometheus_step first found other within places at refl (HasLane number x) call j (is_at ids.prometheus handles j x) (place.0 j)) i)
              ∙ sym (ap (map exporter.Prometheus) (calls_at-last moment ids.prometheus handles number j xs x)
              ∙ map-append exporter.Prometheus (calls_at moment ids.prometheus handles number j xs) (keep (HasLane number x && is_at ids.prometheus handles j x) call []));
          dogstatsd = λ j below. calls j
              ∙ (λ i. before.dogstatsd j below i ++ (ap (λ b. if b then both_at j places call else []) here ∙ dogstatsd_step first found other within places at refl (HasLane number x) call j (is_at ids.dogstatsd line_handles j x) below (other_place.0 j)) i)
              ∙ sym (ap (map exporter.DogStatsD) (calls_at-last moment ids.dogstatsd line_handles number j xs x)
              ∙ map-append exporter.DogStatsD (calls_at moment ids.dogstatsd line_handles number j xs) (keep (HasLane number x && is_at ids.dogstatsd line_handles j x) call []));
          lines = lines
              ∙ (λ i. before.lines i ++ (ap (λ b. if b then on_both call else []) here ∙ lines_step (HasLane number x) call) i)
              ∙ sym (ap (flat_map on_both) (lane_asks-last moment number xs x) ∙ flat_map-append on_both (lane_asks moment number xs) (keep (HasLane number x) call []));
        }

    passed_over : (cells : List ℕ) (its : List (Line ExporterCall)) → x.lane ≢ number → HasCalls ids handles line_handles moment number xs cells its → HasCalls ids handles line_handles moment number (xs ++ x ∷ []) cells its
    passed_over cells its other before =
        let none : HasLane number x ≡ false = ne_eqb x.lane number other in
        record {
          fit = before.fit;
          asked = before.asked;
          prometheus = λ j. before.prometheus j ∙ ap (map exporter.Prometheus) (sym (calls_at-last moment ids.prometheus handles number j xs x
              ∙ ap (λ b. calls_at moment ids.prometheus handles number j xs ++ keep (b && is_at ids.prometheus handles j x) call []) none ∙ append-nil _));
          dogstatsd = λ j below. before.dogstatsd j below ∙ ap (map exporter.DogStatsD) (sym (calls_at-last moment ids.dogstatsd line_handles number j xs x
              ∙ ap (λ b. calls_at moment ids.dogstatsd line_handles number j xs ++ keep (b && is_at ids.dogstatsd line_handles j x) call []) none ∙ append-nil _));
          lines = before.lines ∙ ap (flat_map on_both) (sym (lane_asks-last moment number xs x ∙ ap (λ b. lane_asks moment number xs ++ keep b call []) none ∙ append-nil _));
        }

-- ---- the lines of one more call

lines_more : (moment : ℕ) (its : List LaneCall) (own : LaneCall) → lines_of moment (its ++ own ∷ []) ≡ lines_of moment its ++ pair_of moment own
lines_more moment its own = flat_map-append (pair_of moment) its (own ∷ [])

-- a lane that names nothing yet
pub none_named : (ids : SeriesIds) (handles line_handles : List SeriesId) (number : ℕ) (cells : List ℕ) (its : List LaneCall) → cells ≡ [] → its ≡ [] → NamesCalls ids handles line_handles number [] cells its
none_named ids handles line_handles number cells its no_cells no_calls =
    subst (λ cs. NamesCalls ids handles line_handles number [] cs its) (sym no_cells) (subst (NamesCalls ids handles line_handles number [] []) (sym no_calls) (λ moment. record {
      fit = λ k line e. absurd (some-ne-none line (sym e));
      asked = (
        (λ s j e. absurd (some-ne-none j (sym e))),
        (λ k line e. absurd (some-ne-none line (sym e))),
      );
      prometheus = λ j. refl;
      dogstatsd = λ j below. refl;
      lines = refl;
    }))

module _ (ids : SeriesIds) (handles line_handles : List SeriesId) (number : ℕ) (xs : List CallLine) (x : CallLine) (cells : List ℕ) (its : List LaneCall) (before : NamesCalls ids handles line_handles number xs cells its) where
  -- a call of the lane, whose series were named
  taken : (new : List ℕ) (its' : List LaneCall) (places : Places) → x.lane ≡ number → NamesBoth places x cells its new its' → ArePlacesOf ids (slice_get handles x.handle) (slice_get line_handles x.handle) places
      → FitsHandle handles (call_line_of x) → FitsHandle line_handles (call_line_of x) → NamesCalls ids handles line_handles number (xs ++ x ∷ []) new its'
  taken new its' places own (between, its_own, first, second, line, is) are fits line_fits = λ moment.
      let lines = lines_of moment its in
      let call = asked moment x.act in
      let pair = line_on its_own.prometheus (exporter.Prometheus call) ∷ line_on its_own.dogstatsd (exporter.DogStatsD call) ∷ [] in
      let after : lines_of moment its' ≡ lines ++ pair
      = ap (lines_of moment) is ∙ lines_more moment its its_own
      ∙ (λ i. lines ++ line_on its_own.prometheus (exporter.Prometheus (asked moment (line i).act)) ∷ line_on its_own.dogstatsd (exporter.DogStatsD (asked moment (line i).act)) ∷ []) in
      subst (HasCalls ids handles line_handles moment number (xs ++ x ∷ []) new) (sym after)
      (one_taken ids handles line_handles moment number xs x cells new lines (lines ++ pair) places are fits line_fits own
      (both_pushed places call cells between new its_own lines first second (before moment).fit) (before moment))

  -- a call of another lane
  passed : x.lane ≢ number → NamesCalls ids handles line_handles number (xs ++ x ∷ []) cells its
  passed other = λ moment. passed_over ids handles line_handles moment number xs x cells (lines_of moment its) other (before moment)

-- ---- the series of all lanes

at_end : {A : Type 0} (xs : List A) (x : A) → get_elem? (xs ++ x ∷ []) (length xs) ≡ some x
at_end [] x = refl
at_end (y ∷ ys) x = at_end ys x

pub get_read : {A : Type 0} (xs : List A) (i : ℕ) (x : A) → i < length xs → x ≡ slice_index_or xs i x → get_elem? xs i ≡ some x
get_read [] i x within e = absurd (omega (arith, within))
get_read (y ∷ ys) zero x within e = ap some (sym e)
get_read (y ∷ ys) (suc i) x within e = get_read ys i x (omega (arith, within)) e

in_all : {A : Type 0} (P : A → Type 0) (xs : List A) (i : ℕ) (x : A) → All P xs → get_elem? xs i ≡ some x → P x
in_all P [] i x all at = absurd (some-ne-none x (sym at))
in_all P (y ∷ ys) zero x all at = subst P (some-injective y x at) (all 0 y (omega arith))
in_all P (y ∷ ys) (suc i) x all at = in_all P ys i x (λ k d below. all (suc k) d (omega (arith, below))) at

module _ (ids : SeriesIds) (handles line_handles : List SeriesId) where
  -- none names anything yet
  pub all_empty : (all : List LaneSeries) → All (λ (series : LaneSeries). (lane_cells series ≡ []) × (lane_its series ≡ [])) all → AllNamed ids handles line_handles [] all
  all_empty all empty n series at =
      let is = in_all (λ (series : LaneSeries). (lane_cells series ≡ []) × (lane_its series ≡ [])) all n series empty at in
      none_named ids handles line_handles n (lane_cells series) (lane_its series) is.0 is.1

  -- one more call is named in the series of its lane, and those of the others stay
  pub all_taken : (xs : List CallLine) (x : CallLine) (all after : List LaneSeries) (old new : LaneSeries) (places : Places) → get_elem? all x.lane ≡ some old → after ≡ set all x.lane new
      → NamesBoth places x (lane_cells old) (lane_its old) (lane_cells new) (lane_its new) → ArePlacesOf ids (slice_get handles x.handle) (slice_get line_handles x.handle) places
      → FitsHandle handles (call_line_of x) → FitsHandle line_handles (call_line_of x) → AllNamed ids handles line_handles xs all → AllNamed ids handles line_handles (xs ++ x ∷ []) after
  all_taken xs x all after old new places at is names are fits line_fits before n series there = ⊎_elim
      (λ (own : (n ≡ x.lane) × (new ≡ series)).
      subst (λ (s : LaneSeries). NamesCalls ids handles line_handles n (xs ++ x ∷ []) (lane_cells s) (lane_its s)) own.1
      (taken ids handles line_handles n xs x (lane_cells old) (lane_its old) (subst (λ m. NamesCalls ids handles line_handles m xs (lane_cells old) (lane_its old)) (sym own.0) (before x.lane old at))
      (lane_cells new) (lane_its new) places (sym own.0) names are fits line_fits))
      (λ (other : (n ≢ x.lane) × (get_elem? all n ≡ some series)).
      passed ids handles line_handles n xs x (lane_cells series) (lane_its series) (before n series other.1) (λ e. other.0 (sym e)))
      (at_set all x.lane n new series (subst (λ l. get_elem? l n ≡ some series) is there))

  -- the series of the last lane, and those before it
  pub last_named : (calls : List CallLine) (all front : List LaneSeries) (last : LaneSeries) → all ≡ front ++ last ∷ [] → AllNamed ids handles line_handles calls all
      → NamesCalls ids handles line_handles (length front) calls (lane_cells last) (lane_its last)
  last_named calls all front last is named = named (length front) last (subst (λ l. get_elem? l (length front) ≡ some last) (sym is) (at_end front last))

  pub front_named : (calls : List CallLine) (all front : List LaneSeries) (last : LaneSeries) → all ≡ front ++ last ∷ [] → AllNamed ids handles line_handles calls all → AllNamed ids handles line_handles calls front
  front_named calls all front last is named n series at = named n series (subst (λ l. get_elem? l n ≡ some series) (sym is) (at_longer front (last ∷ []) n series at))

-- ---- lanes below a number

pub all_below : (n m : ℕ) (xs : List CallLine) (x : CallLine) → n ≤ m → x.lane < m → All (λ (line : CallLine). line.lane < n) xs → All (λ (line : CallLine). line.lane < m) (xs ++ x ∷ [])
all_below n m [] x le own all zero d within = own
all_below n m [] x le own all (suc k) d within = absurd (omega (arith, within))
all_below n m (y ∷ xs) x le own all zero d within = let first = all 0 d (omega arith) in omega (arith, le, first)
all_below n m (y ∷ xs) x le own all (suc k) d within = all_below n m xs x le own (λ k d w. all (suc k) d (omega (arith, w))) k d (omega (arith, within))

-- ---- what stands under a number

none_of : (test : CallLine → Bool) (xs : List CallLine) → All (λ x. test x ≡ false) xs → filter test xs ≡ []
none_of test [] all = refl
none_of test (x ∷ xs) all = ap (λ b. cond b (x ∷ filter test xs) (filter test xs)) (all 0 x (omega arith)) ∙ none_of test xs (λ k d below. all (suc k) d (omega (arith, below)))

none_of_both : (test other : CallLine → Bool) (xs : List CallLine) → filter test xs ≡ [] → filter (λ x. test x && other x) xs ≡ []
none_of_both test other [] none = refl
none_of_both test other (x ∷ xs) none = by (test x) refl none (none_of_both test other xs)
  where
    by : (b : Bool) → test x ≡ b → cond b (x ∷ filter test xs) (filter test xs) ≡ [] → (filter test xs ≡ [] → filter (λ y. test y && other y) xs ≡ []) → filter (λ y. test y && other y) (x ∷ xs) ≡ []
    by true is none behind = let m = ap length none in absurd (omega (arith, m))
    by false is none behind = ap (λ b. cond (b && other x) (x ∷ filter (λ y. test y && other y) xs) (filter (λ y. test y && other y) xs)) is ∙ behind none

pub some_of : (n : ℕ) → (n == 0) ≡ false → 0 < n
some_of zero e = absurd (true≢false (sym (eq-eqb 0 0 refl) ∙ e))
some_of (suc n) e = omega arith

module _ {X A : Type 0} (number : X → ℕ) (tells : X → List A) where
  numbered_own : (xs : List X) → Distinct (map number xs) → (i : ℕ) (x : X) → get_elem? xs i ≡ some x → numbered number tells xs (number x) ≡ tells x
  numbered_own [] apart i x at = absurd (some-ne-none x (sym at))
  numbered_own (y ∷ ys) apart zero x at =
      let same : y ≡ x = some-injective y x at in
      ap (λ b. if b then tells y else numbered number tells ys (number x)) (eq-eqb (number y) (number x) (ap number same)) ∙ ap tells same
  numbered_own (y ∷ ys) apart (suc i) x at =
      ap (λ b. if b then tells y else numbered number tells ys (number x)) (ne_eqb (number y) (number x) (λ e. apart.0 (subst (λ n. In n (map number ys)) (sym e) (in_at (map number ys) i (number x) (at_map number ys i x at)))))
      ∙ numbered_own ys apart.1 i x at

  numbered_none : (xs : List X) (l : ℕ) → ((i : ℕ) (x : X) → get_elem? xs i ≡ some x → number x ≡ l → ⊥) → numbered number tells xs l ≡ []
  numbered_none [] l none = refl
  numbered_none (y ∷ ys) l none = ap (λ b. if b then tells y else numbered number tells ys l) (ne_eqb (number y) l (none 0 y refl)) ∙ numbered_none ys l (λ i x at. none (suc i) x at)

-- ---- the lanes of a round, number by number

nothing_asked : (moment : ℕ) (xs : List CallLine) → flat_map on_both (map (λ (line : CallLine). asked moment line.act) xs) ≡ [] → xs ≡ []
nothing_asked moment [] none = refl
nothing_asked moment (x ∷ xs) none = let many = ap length none in absurd (omega (arith, many))

module _ (exporters : Exporters) (handles line_handles : List SeriesId) (moment : ℕ) (calls : List CallLine) where
  abbrev its_ids : SeriesIds
  its_ids = ids_of exporters

  abbrev calls_of : ℕ → List CallLine
  calls_of n = filter (HasLane n) calls

  pub record IsLane (low : ℕ) (lane : LaneText ExporterCall) : Type 0 where
    pub from : low ≤ lane.number
    pub once : Distinct lane.cells
    pub busy : 0 < length lane.lines
    pub has : HasCalls its_ids handles line_handles moment lane.number calls lane.cells lane.lines

  -- the lanes with numbers from this one on are there, but those without calls
  pub record AreFrom (low : ℕ) (lanes : List (LaneText ExporterCall)) : Type 0 where
    pub each : (i : ℕ) (lane : LaneText ExporterCall) → get_elem? lanes i ≡ some lane → IsLane low lane
    pub apart : Distinct (map lane_number lanes)
    pub all : (n : ℕ) → low ≤ n → ((i : ℕ) × (lane : LaneText ExporterCall) × (get_elem? lanes i ≡ some lane) × (lane.number ≡ n)) ⊎ (calls_of n ≡ [])

  pub none_from : (low : ℕ) (lanes : List (LaneText ExporterCall)) → lanes ≡ [] → All (λ (line : CallLine). line.lane < low) calls → AreFrom low lanes
  none_from low lanes none most = record {
    each = λ i lane at. absurd (some-ne-none lane (sym (subst (λ ls. get_elem? ls i ≡ some lane) none at)));
    apart = subst (λ ls. Distinct (map lane_number ls)) (sym none) tt;
    all = λ n past. inr (none_of (HasLane n) calls (λ k d within. let less = most k d within in ne_eqb _ n (λ e. absurd (omega (arith, e, less, past)))));
  }

  lower : (n m : ℕ) (lane : LaneText ExporterCall) → n ≤ m → IsLane m lane → IsLane n lane
  lower n m lane most is = record { from = (let b = is.from in omega (arith, most, b)); once = is.once; busy = is.busy; has = is.has }

  -- the lane with this number has no calls
  pub skipped : (n : ℕ) (lanes : List (LaneText ExporterCall)) (cells : List ℕ) (its : List LaneCall) → NamesCalls its_ids handles line_handles n calls cells its → its ≡ [] → AreFrom (n + 1) lanes → AreFrom n lanes
  skipped n lanes cells its names none are = record {
    each = λ i lane at. lower n (n + 1) lane (omega arith) (are.each i lane at);
    apart = are.apart;
    all = λ m from. dite (ℕ_discrete m n)
        (λ (same : m ≡ n). inr (ap calls_of same ∙ nothing_asked moment (calls_of n) (sym (names moment).lines ∙ ap (λ ls. map call_asked (lines_of moment ls)) none)))
        (λ (ne : ¬ (m ≡ n)). are.all m (omega (arith, from, ne)));
  }

  some_lines : (its : List LaneCall) → 0 < length its → 0 < length (lines_of moment its)
  some_lines [] some_are = absurd (omega (arith, some_are))
  some_lines (own ∷ its) some_are = omega arith

  -- it goes last
  pub added : (n : ℕ) (lanes after : List (LaneText ExporterCall)) (lane : LaneText ExporterCall) (cells : List ℕ) (its : List LaneCall) → NamesCalls its_ids handles line_handles n calls cells its → 0 < length its
      → lane ≡ lane_of n moment cells its → Distinct lane.cells → after ≡ lanes ++ lane ∷ [] → AreFrom (n + 1) lanes → AreFrom n after
  added n lanes after lane cells its names busy is once pushed are = subst (AreFrom n) (sym pushed) (record {
    each = λ i x at. ⊎_elim
        (λ (before : get_elem? lanes i ≡ some x). lower n (n + 1) x (omega arith) (are.each i x before))
        (λ (last : (i ≡ length lanes) × (lane ≡ x)). subst (IsLane n) last.1 own)
        (at_snoc_index lanes lane x i at);
    apart = subst Distinct (sym (map-append lane_number lanes (lane ∷ []))) (distinct_last (map lane_number lanes) lane.number other are.apart);
    all = λ m from. dite (ℕ_discrete m n)
        (λ (same : m ≡ n). inl (length lanes, lane, at_end lanes lane, number ∙ sym same))
        (λ (ne : ¬ (m ≡ n)). ⊎_elim
        (λ (found : (i : ℕ) × (x : LaneText ExporterCall) × (get_elem? lanes i ≡ some x) × (x.number ≡ m)). inl (found.0, found.1, at_longer lanes (lane ∷ []) found.0 found.1 found.2, found.3))
        (λ (none : calls_of m ≡ []). inr none)
        (are.all m (omega (arith, from, ne))));
  })
    where
      number : lane.number ≡ n
      number = ap (λ (x : LaneText ExporterCall). x.number) is

      own : IsLane n lane
      own = record {
        from = omega (arith, number);
        once = once;
        busy = subst (λ (x : LaneText ExporterCall). 0 < length x.lines) (sym is) (some_lines its busy);
        has = subst (λ (x : LaneText ExporterCall). HasCalls its_ids handles line_handles moment x.number calls x.cells x.lines) (sym is) (names moment);
      }

      other : In lane.number (map lane_number lanes) → ⊥
      other is_in = far lanes (λ i x at. (are.each i x at).from) (subst (λ m. In m (map lane_number lanes)) number is_in)
        where
          far : (xs : List (LaneText ExporterCall)) → ((i : ℕ) (x : LaneText ExporterCall) → get_elem? xs i ≡ some x → n + 1 ≤ x.number) → In n (map lane_number xs) → ⊥
          far [] more is_in = is_in
          far (x ∷ xs) more is_in = ⊎_elim (λ (e : n ≡ x.number). let b = more 0 x refl in absurd (omega (arith, e, b))) (λ (r : In n (map lane_number xs)). far xs (λ i y at. more (suc i) y at) r) is_in

  module _ (lanes : List (LaneText ExporterCall)) (are : AreFrom 0 lanes) where
    -- what is told of the lane with a number, where it is this of each lane, and this is nothing where the lane has no calls
    told : {A : Type 0} (tells : LaneText ExporterCall → List A) (all : ℕ → List A) → ((i : ℕ) (lane : LaneText ExporterCall) → get_elem? lanes i ≡ some lane → tells lane ≡ all lane.number)
        → ((l : ℕ) → calls_of l ≡ [] → all l ≡ []) → (l : ℕ) → numbered lane_number tells lanes l ≡ all l
    told tells all own none l = ⊎_elim
        (λ (found : (i : ℕ) × (lane : LaneText ExporterCall) × (get_elem? lanes i ≡ some lane) × (lane.number ≡ l)).
        ap (numbered lane_number tells lanes) (sym found.3) ∙ numbered_own lane_number tells lanes are.apart found.0 found.1 found.2 ∙ own found.0 found.1 found.2 ∙ ap all found.3)
        (λ (no_calls : calls_of l ≡ []). numbered_none lane_number tells lanes l (λ i lane at e.
        let is = are.each i lane at in
        let nothing : flat_map on_both (lane_asks moment lane.number calls) ≡ [] = ap (λ cs. flat_map on_both (map (λ (line : CallLine). asked moment line.act) cs)) (ap calls_of e ∙ no_calls) in
        let many = ap length (is.has.lines ∙ nothing) in
        let same = length-map lane.lines call_asked in
        let some_are = is.busy in
        absurd (omega (arith, many, same, some_are))) ∙ sym (none l no_calls))
        (are.all l (omega arith))

    pub are_lanes : AreLanes exporters lanes
    are_lanes = record {
      fit = λ l lane at. let is = are.each l lane at in record { cells = λ s j cell. subst (λ n. j < n) (both_many exporters) (is.has.asked.0 s j cell); once = is.once; lines = is.has.fit };
      asked = λ l lane at. (are.each l lane at).has.asked;
      numbers = are.apart;
      busy = λ i lane at. (are.each i lane at).busy;
    }

    pub have_calls : HaveCalls exporters handles line_handles moment calls lanes
    have_calls =
        let many = dogstatsd_many exporters.dogstatsd in
        record {
          prometheus = λ j l. told (λ lane. cell_calls (first_prometheus exporters + j) lane.cells lane.lines) (λ n. map exporter.Prometheus (calls_at moment (P.ids_of exporters.prometheus) handles n j calls))
              (λ i lane at. ap (λ m. cell_calls (m + j) lane.cells lane.lines) (sym many) ∙ (are.each i lane at).has.prometheus j)
              (λ n none. ap (λ ls. map exporter.Prometheus (map (λ (line : CallLine). asked moment line.act) ls)) (none_of_both (HasLane n) (λ line. is_at (P.ids_of exporters.prometheus) handles j line) calls none)) l;
          dogstatsd = λ j l below. told (λ lane. cell_calls j lane.cells lane.lines) (λ n. map exporter.DogStatsD (calls_at moment (D.ids_of exporters.dogstatsd) line_handles n j calls))
              (λ i lane at. (are.each i lane at).has.dogstatsd j (subst (λ m. j < m) (sym many) below))
              (λ n none. ap (λ ls. map exporter.DogStatsD (map (λ (line : CallLine). asked moment line.act) ls)) (none_of_both (HasLane n) (λ line. is_at (D.ids_of exporters.dogstatsd) line_handles j line) calls none)) l;
          lines = λ l. told (λ lane. map call_asked lane.lines) (λ n. flat_map on_both (lane_asks moment n calls))
              (λ i lane at. (are.each i lane at).has.lines)
              (λ n none. ap (λ ls. flat_map on_both (map (λ (line : CallLine). asked moment line.act) ls)) none) l;
        }
