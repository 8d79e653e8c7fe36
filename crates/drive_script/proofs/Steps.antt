-- One step of the progress: the last round with one more line.
use Rattle.std.proofs.Common.{◌≡◌, ℕ, suc, ◌+◌, ◌-◌, ◌<◌, ◌≤◌, Bool, true, false, List, [], ◌∷◌, ◌++◌, map, length, get_or, set, take, Option, Some, None, refl, sym, ap, subst, ◌∙◌, arith}
use Rattle.std.specs.Global.{Vec}
use Rattle.std.specs.Prelude.{slice_get, option_map, Result, Ok, Err, All, IfOk, IfSome, MatchBool}
use Rattle.std.specs.List.Sorted.{IsNonDecreasingBy}
use Rattle.std.proofs.lemmas.List.Elements.{All-head, All-push, All-get_or, All-from_get_or}
use Rattle.std.proofs.Math.ListN.{get_or-map}
use Rattle.std.proofs.lemmas.List.{take_all, take_more, set_split, drop_all, map_push, same_from_push, length-map, length_push}
use Rattle.std.proofs.lemmas.Option.{slice_get_read, slice_get-map, slice_get_within, same_Some}
use Rattle.metrics_core.specs.Keys.{KeyText, label_set}
use Rattle.metrics_core.specs.declared.kinds.MetricKind.{MetricKind}
use Rattle.drive_script.specs.Script as text
use Rattle.drive_script.specs.Script.{ScriptText, SettingsText, Said, header_lines, IsLine, global_labels}
use Rattle.drive_script.specs.Valid.{Registration, registration_of, registered, HasHandle, sample_count, sample_total, PrintApart, SparesOverflow, AreValidLines}
use Rattle.drive_script.specs.Growth.{AddsHeader, BeginsRound, SetsUp, AddsCall, place, least_behind, MayFollow, IsLeastPlace, with_header, said_with, globals_with}
use Rattle.drive_script.specs.Taking.{Takes}
use Rattle.drive_script.specs.Texts.{call_line_of, setup_of, round_of, script_so_far, StandsBehind}
use Rattle.drive_script.specs.declared.progress.ScriptSoFar.{ScriptSoFar}
use Rattle.drive_script.specs.declared.script.CallLine.{CallLine}
use Rattle.drive_script.specs.declared.script.Setup.{Setup}
use Rattle.drive_script.specs.declared.script.Round.{Round}
use Rattle.drive_script.proofs.Growth.{one_registered, none_described, call_samples, valid_of, script_of, next_valid, only_next}
use Rattle.drive_script.proofs.HeaderGrowth.{split_all, least_range}
use Rattle.drive_script.proofs.HeadSteps.{label_set-push}

abbrev with_rounds : SettingsText → List text.RoundText → ScriptText
with_rounds settings rounds = record { settings = settings; rounds = rounds }

abbrev round_with : ℕ → List text.SetupLine → List text.CallLine → text.RoundText
round_with moment setup calls = record { moment = moment; setup = setup; calls = calls }

-- the script of these settings and rounds
abbrev pub script_with : SettingsText → List Round → ScriptText
script_with settings rounds = record { settings = settings; rounds = map round_of rounds }

module _ (settings : SettingsText) (rounds : List Round) (n : ℕ) (len : n ≡ length rounds) (some : 0 < n) where
  last_set : (new : Round) → set rounds (n - 1) new ≡ take (n - 1) rounds ++ new ∷ []
  last_set new = set_split rounds (n - 1) new (omega arith) ∙ ap (λ l. take (n - 1) rounds ++ new ∷ l) (drop_all (suc (n - 1)) rounds (omega arith))

  texts_set : (new : Round) → map round_of (set rounds (n - 1) new) ≡ map round_of (take (n - 1) rounds) ++ round_of new ∷ []
  texts_set new = ap (map round_of) (last_set new) ∙ map_push round_of (take (n - 1) rounds) new

  module _ (round : Round) (last : round ≡ get_or rounds (n - 1) round) where
    last_split : rounds ≡ take (n - 1) rounds ++ round ∷ []
    last_split = sym (take_all (n - 1 + 1) rounds (omega arith)) ∙ take_more rounds (n - 1) round (omega arith) ∙ ap (λ r. take (n - 1) rounds ++ r ∷ []) (sym last)

    texts_split : map round_of rounds ≡ map round_of (take (n - 1) rounds) ++ round_of round ∷ []
    texts_split = ap (map round_of) last_split ∙ map_push round_of (take (n - 1) rounds) round

    -- one more call line
    pub call_added : (calls : Vec CallLine) (call : CallLine) → calls.items ≡ round.calls.items ++ call ∷ [] → HasHandle (registered (script_with settings rounds)) (call_line_of call)
        → sample_total (script_with settings rounds) + sample_count (call_line_of call).act ≤ 16777216
        → AddsCall (script_with settings rounds) (call_line_of call) (script_with settings (set rounds (n - 1) (record { moment = round.moment; setup = round.setup; calls = calls })))
    call_added calls call e handle room =
        let with_calls = λ (cs : List text.CallLine). with_rounds settings (map round_of (take (n - 1) rounds) ++ round_with round.moment (map setup_of round.setup.items) cs ∷ []) in
        let new = script_with settings (set rounds (n - 1) (record { moment = round.moment; setup = round.setup; calls = calls })) in
        let grown : new ≡ with_calls (map call_line_of round.calls.items ++ call_line_of call ∷ []) =
        ap (with_rounds settings) (texts_set (record { moment = round.moment; setup = round.setup; calls = calls })) ∙ ap with_calls (ap (map call_line_of) e ∙ map_push call_line_of round.calls.items call) in
        record {
          before = map round_of (take (n - 1) rounds);
          round = round_of round;
          last = texts_split;
          grown = grown;
          handle = handle;
          room = omega (arith, room, call_samples (script_with settings rounds) new (call_line_of call) (map round_of (take (n - 1) rounds)) (round_of round) texts_split grown);
        }

    -- one more setup line
    module _ (setup : Vec Setup) (line : Setup) (e : setup.items ≡ round.setup.items ++ line ∷ []) (no_call : round.calls.items ≡ []) where
      abbrev set_up : ScriptText
      set_up = script_with settings (set rounds (n - 1) (record { moment = round.moment; setup = setup; calls = round.calls }))

      module _ (says : text.SetupLine) (is : setup_of line ≡ says) where
        grown : set_up ≡ record { settings = settings; rounds = map round_of (take (n - 1) rounds) ++ record (round_of round) { setup = map setup_of round.setup.items ++ says ∷ [] } ∷ [] }
        grown =
            let with_setup = λ (ss : List text.SetupLine). with_rounds settings (map round_of (take (n - 1) rounds) ++ round_with round.moment ss (map call_line_of round.calls.items) ∷ []) in
            ap (with_rounds settings) (texts_set (record { moment = round.moment; setup = setup; calls = round.calls })) ∙ ap with_setup (ap (map setup_of) e ∙ map_push setup_of round.setup.items line ∙ ap (λ s. map setup_of round.setup.items ++ s ∷ []) is)

        added : length (registered set_up) ≤ 1000000 → IfSome (registration_of says) (λ new. All (λ r. PrintApart (global_labels settings) r new) (registered (script_with settings rounds))) → IfSome (registration_of says) (SparesOverflow settings) → SetsUp (script_with settings rounds) says set_up
        added room apart spares = record {
          before = map round_of (take (n - 1) rounds);
          round = round_of round;
          last = texts_split;
          no_call = ap (map call_line_of) no_call;
          grown = grown;
          apart = apart;
          room = room;
          spares = spares;
        }

        -- what describes registers nothing
        pub still_registered : registration_of says ≡ None → registered set_up ≡ registered (script_with settings rounds)
        still_registered none = none_described (script_with settings rounds) set_up (map round_of (take (n - 1) rounds)) (round_of round) says none texts_split grown

        pub description_added : registration_of says ≡ None → length (registered (script_with settings rounds)) ≤ 1000000 → SetsUp (script_with settings rounds) says set_up
        description_added none few =
            added (omega (arith, few, ap length (still_registered none)))
            (subst (λ o. IfSome o (λ new. All (λ r. PrintApart (global_labels settings) r new) (registered (script_with settings rounds)))) (sym none) tt)
            (subst (λ o. IfSome o (SparesOverflow settings)) (sym none) tt)

      module _ (kind : MetricKind) (key : KeyText) (is : setup_of line ≡ text.Register kind key) where
        pub key_registered : registered set_up ≡ registered (script_with settings rounds) ++ record { kind = kind; key = key } ∷ []
        key_registered = one_registered (script_with settings rounds) set_up (map round_of (take (n - 1) rounds)) (round_of round) kind key texts_split (grown (text.Register kind key) is)

        pub register_added : length (registered (script_with settings rounds)) < 1000000 → All (λ r. PrintApart (global_labels settings) r (record { kind = kind; key = key })) (registered (script_with settings rounds)) → SparesOverflow settings (record { kind = kind; key = key }) → SetsUp (script_with settings rounds) (text.Register kind key) set_up
        register_added room apart spares = added (text.Register kind key) is (omega (arith, ap length key_registered, length_push (registered (script_with settings rounds)) (record { kind = kind; key = key }))) apart spares

    -- behind a call line nothing is set up
    pub calls_stand : (setup : text.SetupLine) (new : ScriptText) → 0 < length round.calls.items → SetsUp (script_with settings rounds) setup new → ⊥
    calls_stand setup new some_call h =
        let same = same_from_push (map round_of (take (n - 1) rounds)) h.before (round_of round) h.round (sym texts_split ∙ h.last) in
        let none : map call_line_of round.calls.items ≡ [] = ap (λ (r : text.RoundText). r.calls) same.1 ∙ h.no_call in
        omega (arith, ap length none, length-map round.calls.items call_line_of)

-- 1,000,000 register lines are the most
pub register_full : (old new : ScriptText) (kind : MetricKind) (key : KeyText) → 1000000 ≤ length (registered old) → SetsUp old (text.Register kind key) new → ⊥
register_full old new kind key full h = omega (arith, h.room, ap length (one_registered old new h.before h.round kind key h.last h.grown), length_push (registered old) (record { kind = kind; key = key }))

-- 16,777,216 samples are the most
pub samples_full : (old new : ScriptText) (call : text.CallLine) → 16777216 < sample_total old + sample_count call.act → AddsCall old call new → ⊥
samples_full old new call full h = omega (arith, full, h.room, call_samples old new call h.before h.round h.last h.grown)

-- ---- rounds

-- a round begins behind the others
pub round_begun : (settings : SettingsText) (rounds : List Round) (round : Round) → round.setup.items ≡ [] → round.calls.items ≡ [] → All (λ (r : text.RoundText). r.moment ≤ round.moment) (map round_of rounds)
    → BeginsRound (script_with settings rounds) round.moment (script_with settings (rounds ++ round ∷ []))
round_begun settings rounds round no_setup no_calls not_before = record {
  not_before = not_before;
  grown = ap (with_rounds settings) (map_push round_of rounds round ∙ (λ j. map round_of rounds ++ round_with round.moment (map setup_of (no_setup j)) (map call_line_of (no_calls j)) ∷ []));
}

-- moments that do not fall are not after one that the last is not after
pub none_after : (rounds : List Round) (n : ℕ) (round : Round) (moment : ℕ) → n ≡ length rounds → 0 < n → round ≡ get_or rounds (n - 1) round → IsNonDecreasingBy (λ (r : text.RoundText). r.moment) (map round_of rounds) → round.moment ≤ moment
    → All (λ (r : text.RoundText). r.moment ≤ moment) (map round_of rounds)
none_after rounds n round moment len some last sorted within =
    All-from_get_or (λ (r : text.RoundText). r.moment ≤ moment) (map round_of rounds) (round_of round)
    (λ i inside.
    let count : length (map round_of rounds) ≡ n = length-map rounds round_of ∙ sym len in
    let end : get_or (map round_of rounds) (n - 1) (round_of round) ≡ round_of round = get_or-map round_of rounds (n - 1) round ∙ ap round_of (sym last) in
    let below = sorted i (n - 1) (round_of round) (omega (arith, inside, count)) (omega (arith, count, some)) in
    omega (arith, below, within, ap (λ (r : text.RoundText). r.moment) end))

-- a round does not begin before the last one
pub no_earlier : (settings : SettingsText) (rounds : List Round) (n : ℕ) (round : Round) (moment : ℕ) (new : ScriptText) → n ≡ length rounds → 0 < n → round ≡ get_or rounds (n - 1) round → moment < round.moment → BeginsRound (script_with settings rounds) moment new → ⊥
no_earlier settings rounds n round moment new len some last earlier h =
    let count : length (map round_of rounds) ≡ n = length-map rounds round_of ∙ sym len in
    let end : get_or (map round_of rounds) (n - 1) (round_of round) ≡ round_of round = get_or-map round_of rounds (n - 1) round ∙ ap round_of (sym last) in
    let below = All-get_or (λ (r : text.RoundText). r.moment ≤ moment) (map round_of rounds) (n - 1) (round_of round) (omega (arith, count, some)) h.not_before in
    omega (arith, below, earlier, ap (λ (r : text.RoundText). r.moment) end)

-- ---- the kinds of the register lines

abbrev pub kinds_of : List Registration → List MetricKind
kinds_of rs = map (λ (r : Registration). r.kind) rs

registration_known : (o : Option Registration) (kind : MetricKind) → option_map (λ (r : Registration). r.kind) o ≡ Some kind → (key : KeyText) × (o ≡ Some (record { kind = kind; key = key }))
registration_known None kind e = absurd cc
registration_known (Some r) kind e = (r.key, ap (λ k. Some (record r { kind = k })) (same_Some r.kind kind e))

-- a call's handle is that of a register line of its kind just where the kind at that place is the call's
pub handle_decides : (rs : List Registration) (kinds : List MetricKind) (place : ℕ) (kind wanted : MetricKind) (same : Bool) → kinds ≡ kinds_of rs → place < length kinds → kind ≡ get_or kinds place kind → (same ≡ true → kind ≡ wanted) → (kind ≡ wanted → same ≡ true)
    → (same ≡ true → (key : KeyText) × (slice_get rs place ≡ Some (record { kind = wanted; key = key }))) × ((key : KeyText) × (slice_get rs place ≡ Some (record { kind = wanted; key = key })) → same ≡ true)
handle_decides rs kinds place kind wanted same knows within at is_call is_same =
    let here : option_map (λ (r : Registration). r.kind) (slice_get rs place) ≡ Some kind = sym (slice_get-map (λ (r : Registration). r.kind) rs place) ∙ ap (λ ks. slice_get ks place) (sym knows) ∙ slice_get_read kinds (length kinds) place kind refl within at in (
      λ is. registration_known (slice_get rs place) wanted (here ∙ ap Some (is_call is)),
      λ h. is_same (same_Some kind wanted (sym here ∙ ap (option_map (λ (r : Registration). r.kind)) h.1)),
    )

-- past the register lines there is no handle
pub no_handle : (rs : List Registration) (kinds : List MetricKind) (place : ℕ) (wanted : MetricKind) → kinds ≡ kinds_of rs → length kinds ≤ place → (key : KeyText) × (slice_get rs place ≡ Some (record { kind = wanted; key = key })) → ⊥
no_handle rs kinds place wanted knows past h =
    let within : place < length rs = slice_get_within rs place (record { kind = wanted; key = h.0 }) h.1 in
    omega (arith, ap length knows, length-map rs (λ (r : Registration). r.kind))

-- ---- header lines

-- the least place behind one more line
pub least_grown : (lines : List text.HeaderLine) (line : text.HeaderLine) (least : ℕ) → IsLeastPlace least lines → least ≤ place line → IsLeastPlace (least_behind line) (lines ++ line ∷ [])
least_grown lines line least is within = λ p. (λ enough. both p enough, λ may. All-head (λ l. least_behind l ≤ p) line [] (split_all (λ l. least_behind l ≤ p) lines (line ∷ []) may).1)
  where
    both : (p : ℕ) → least_behind line ≤ p → MayFollow (lines ++ line ∷ []) p
    both p enough = All-push (λ l. least_behind l ≤ p) lines line ((is p).0 (omega (arith, within, enough, (least_range line).0))) enough

-- the global labels with one more header line
pub globals_grown : (settings : SettingsText) (line : text.HeaderLine) → globals_with (label_set settings.globals []) line ≡ label_set (with_header settings line).globals []
globals_grown settings (text.Quantiles values) = refl
globals_grown settings (text.Buckets values) = refl
globals_grown settings (text.BucketsFor matcher values) = refl
globals_grown settings (text.NativeFor native) = refl
globals_grown settings (text.Summary count duration) = refl
globals_grown settings (text.Idle mask timeout) = refl
globals_grown settings text.Naming = refl
globals_grown settings text.Units = refl
globals_grown settings (text.Global label) = sym (label_set-push settings.globals label)
globals_grown settings (text.SeriesLimit limit) = refl
globals_grown settings (text.Limit limit) = refl
globals_grown settings (text.Mode aggressive) = refl
globals_grown settings (text.NamePrefix prefix) = refl
globals_grown settings (text.GlobalTag label) = refl
globals_grown settings (text.HistogramKind histograms) = refl

-- a header line with which the settings stand
pub header_added : (said : Said) (old : ScriptText) (line : text.HeaderLine) (settings : SettingsText) → old.rounds ≡ [] → MayFollow (header_lines old.settings said) (place line) → settings ≡ with_header old.settings line
    → AddsHeader said old line (said_with said line) (record old { settings = settings })
header_added said old line settings no_round order is = record { no_round = no_round; order = order; told = refl; grown = ap (λ (s : SettingsText). record old { settings = s }) is }

-- ---- one line

-- what a step says of the script, said of the lines
pub step_taken : {E : Type 0} (lines : List (List ℕ)) (line : List ℕ) (old new : ScriptSoFar) (says : text.ScriptLine) (r : Result Bool E) (h : StandsBehind lines old) → IsLine line says
    → IfOk r (Takes h.script.said old new says)
    → IfOk r (λ taken. MatchBool taken (StandsBehind (lines ++ line ∷ []) new) (¬ AreValidLines (lines ++ line ∷ [])))
unfolding script_of
step_taken lines line old new says (Ok true) h is_line (later, next, known) =
    let valid = next_valid h.script.said later lines line (script_so_far old) (script_so_far new) says (valid_of lines (script_so_far old) h.script h.valid) is_line next in
    record { script = script_of later (lines ++ line ∷ []) (script_so_far new) valid.0; valid = valid.1; known = known }
step_taken lines line old new says (Ok false) h is_line none = only_next h.script.said lines line (script_so_far old) says (valid_of lines (script_so_far old) h.script h.valid) is_line none
step_taken lines line old new says (Err e) h is_line next = tt
