-- The lines of a valid script and one more: they are a valid script just where that line is the script's next.
use Rattle.std.proofs.Common.{◌≡◌, ℕ, zero, suc, ◌+◌, ◌-◌, ◌<◌, ◌≤◌, List, [], ◌∷◌, ◌++◌, map, length, get_or, take, None, refl, sym, ap, subst, ◌∙◌, arith, inl, inr, lit≤}
use Rattle.std.specs.Prelude.{All, AllPairs, IfSome, flat_map, filter_map, sum_by}
use Rattle.std.specs.List.{AllZip}
use Rattle.std.specs.List.Sorted.{IsNonDecreasingBy}
use Rattle.std.proofs.lemmas.List.{append-nil, append_assoc, map-append, map_push, length-append, length_push, same_from_push, get_or_push, take_at, take_all, take_more, nil_from_length}
use Rattle.std.proofs.lemmas.List.Concat.{flat_map-append}
use Rattle.std.proofs.lemmas.List.Elements.{All-nil, All-push, All-take, All-get_or, All-from_get_or, filter_map-append}
use Rattle.std.proofs.lemmas.List.Quantifiers.{all_pairs_push}
use Rattle.std.proofs.lemmas.List.Sorted.{IsNonDecreasingBy-push, IsNonDecreasingBy-short}
use Rattle.std.proofs.lemmas.List.Sums.{sum_by_push}
use Rattle.metrics_core.specs.Keys.{KeyText}
use Rattle.metrics_core.proofs.Lists.{AllZip-push}
use Rattle.metrics_core.specs.declared.kinds.MetricKind.{MetricKind}
use Rattle.drive_script.specs.Script.{ScriptText, RoundText, SetupLine, Register, Describe, CallLine, HeaderLine, ScriptLine, Header, Round, Setup, CallOf, IsLine, IsScript, Said, IsMeant, header_lines, round_lines, only_globals, global_labels, SettingsText}
use Rattle.drive_script.specs.Valid.{Registration, registration_of, registered_in, registered, HasHandle, HaveHandles, sample_count, sample_total, PrintApart, SparesOverflow, IsValid, AreValidLines}
use Rattle.drive_script.specs.Growth.{AddsHeader, BeginsRound, SetsUp, AddsCall, IsNext, with_header}
use Rattle.drive_script.proofs.Forms.{one_reading}
use Rattle.drive_script.proofs.HeaderGrowth.{last_of, header_behind, still_meant, HeaderLast, no_header, last_one, header_last, nothing_said, no_header_said}

-- all lines of a script whose header lines say this of the mode and of the kind
abbrev pub script_lines : Said → ScriptText → List ScriptLine
script_lines said s = map Header (header_lines s.settings said) ++ flat_map round_lines s.rounds

-- the lines are this script, and say this
abbrev pub Saying : Said → List (List ℕ) → ScriptText → Type 0
Saying said lines script = IsMeant said script.settings × AllZip IsLine lines (script_lines said script)

-- the same, and the script is valid
abbrev pub Valid : Said → List (List ℕ) → ScriptText → Type 0
Valid said lines script = Saying said lines script × IsValid script

pub valid_of : (lines : List (List ℕ)) (script : ScriptText) (h : IsScript lines script) → IsValid script → Valid h.said lines script
valid_of lines script h valid = ((h.meant, h.each), valid)

unfoldable pub script_of : (said : Said) (lines : List (List ℕ)) (script : ScriptText) → Saying said lines script → IsScript lines script
script_of said lines script h = record { said = said; meant = h.0; each = h.1 }

-- ---- lists that pair up, seen from their ends

zip_no_more : {A B : Type 0} (R : A → B → Type 0) (xs : List A) (x : A) → AllZip R (xs ++ x ∷ []) [] → ⊥
zip_no_more R [] x h = h
zip_no_more R (a ∷ xs) x h = h

zip_none : {A B : Type 0} (R : A → B → Type 0) (ys : List B) (y : B) → AllZip R [] (ys ++ y ∷ []) → ⊥
zip_none R [] y h = h
zip_none R (b ∷ ys) y h = h

zip_last : {A B : Type 0} (R : A → B → Type 0) (xs : List A) (ys : List B) (x : A) (y : B) → AllZip R (xs ++ x ∷ []) (ys ++ y ∷ []) → AllZip R xs ys × R x y
zip_last R [] [] x y h = (tt, h.0)
zip_last R [] (b ∷ ys) x y h = absurd (zip_none R ys y h.1)
zip_last R (a ∷ xs) [] x y h = absurd (zip_no_more R xs x h.1)
zip_last R (a ∷ xs) (b ∷ ys) x y h = let rest = zip_last R xs ys x y h.1 in ((h.0, rest.0), rest.1)

-- ---- the lines and the register lines of rounds

abbrev lines_said : List RoundText → List ScriptLine
lines_said rounds = flat_map round_lines rounds

lines_push : (before : List RoundText) (round : RoundText) → lines_said (before ++ round ∷ []) ≡ lines_said before ++ round_lines round
lines_push before round = flat_map-append round_lines before (round ∷ []) ∙ ap (λ l. lines_said before ++ l) (append-nil (round_lines round))

registered_push : (before : List RoundText) (round : RoundText) → flat_map registered_in (before ++ round ∷ []) ≡ flat_map registered_in before ++ registered_in round
registered_push before round = flat_map-append registered_in before (round ∷ []) ∙ ap (λ l. flat_map registered_in before ++ l) (append-nil (registered_in round))

setup_said : (moment : ℕ) (setup : List SetupLine) (line : SetupLine) → round_lines (record { moment = moment; setup = setup ++ line ∷ []; calls = [] }) ≡ round_lines (record { moment = moment; setup = setup; calls = [] }) ++ Setup line ∷ []
setup_said moment setup line = ap (λ l. Round moment ∷ l) (append-nil (map Setup (setup ++ line ∷ [])) ∙ map-append Setup setup (line ∷ []) ∙ ap (λ l. l ++ Setup line ∷ []) (sym (append-nil (map Setup setup))))

call_said : (moment : ℕ) (setup : List SetupLine) (calls : List CallLine) (call : CallLine) → round_lines (record { moment = moment; setup = setup; calls = calls ++ call ∷ [] }) ≡ round_lines (record { moment = moment; setup = setup; calls = calls }) ++ CallOf call ∷ []
call_said moment setup calls call = ap (λ l. Round moment ∷ l) (ap (λ l. map Setup setup ++ l) (map-append CallOf calls (call ∷ [])) ∙ sym (append_assoc (map Setup setup) (map CallOf calls) (CallOf call ∷ [])))

said_grown : (before : List RoundText) (old new : RoundText) (says : ScriptLine) → round_lines new ≡ round_lines old ++ says ∷ [] → lines_said (before ++ new ∷ []) ≡ lines_said (before ++ old ∷ []) ++ says ∷ []
said_grown before old new says e = lines_push before new ∙ ap (λ l. lines_said before ++ l) e ∙ sym (append_assoc (lines_said before) (round_lines old) (says ∷ [])) ∙ ap (λ l. l ++ says ∷ []) (sym (lines_push before old))

-- what the next line adds, where that is no header line
rounds_next : (said : Said) (old new : ScriptText) (says : ScriptLine) → new.settings ≡ old.settings → lines_said new.rounds ≡ lines_said old.rounds ++ says ∷ [] → script_lines said new ≡ script_lines said old ++ says ∷ []
rounds_next said old new says settings e = (λ j. map Header (header_lines (settings j) said) ++ e j) ∙ sym (append_assoc (map Header (header_lines old.settings said)) (lines_said old.rounds) (says ∷ []))

setup_next : (said : Said) (old new : ScriptText) (setup : SetupLine) → SetsUp old setup new → script_lines said new ≡ script_lines said old ++ Setup setup ∷ []
setup_next said old new setup h =
    let with_calls = λ (calls : List CallLine). round_lines (record { moment = h.round.moment; setup = h.round.setup ++ setup ∷ []; calls = calls }) in
    let without = λ (calls : List CallLine). round_lines (record { moment = h.round.moment; setup = h.round.setup; calls = calls }) ++ Setup setup ∷ [] in
    let round : round_lines (record h.round { setup = h.round.setup ++ setup ∷ [] }) ≡ round_lines h.round ++ Setup setup ∷ [] = ap with_calls h.no_call ∙ setup_said h.round.moment h.round.setup setup ∙ ap without (sym h.no_call) in
    rounds_next said old new (Setup setup) (ap (λ (s : ScriptText). s.settings) h.grown)
    (ap (λ (s : ScriptText). lines_said s.rounds) h.grown ∙ said_grown h.before h.round (record h.round { setup = h.round.setup ++ setup ∷ [] }) (Setup setup) round ∙ ap (λ r. lines_said r ++ Setup setup ∷ []) (sym h.last))

call_next : (said : Said) (old new : ScriptText) (call : CallLine) → AddsCall old call new → script_lines said new ≡ script_lines said old ++ CallOf call ∷ []
call_next said old new call h =
    rounds_next said old new (CallOf call) (ap (λ (s : ScriptText). s.settings) h.grown)
    (ap (λ (s : ScriptText). lines_said s.rounds) h.grown ∙ said_grown h.before h.round (record h.round { calls = h.round.calls ++ call ∷ [] }) (CallOf call) (call_said h.round.moment h.round.setup h.round.calls call)
    ∙ ap (λ r. lines_said r ++ CallOf call ∷ []) (sym h.last))

-- the header lines with one more
pub header_next : (said later : Said) (old new : ScriptText) (line : HeaderLine) → AddsHeader said old line later new → header_lines new.settings later ≡ header_lines old.settings said ++ line ∷ []
header_next said later old new line h = (λ j. header_lines (h.grown j).settings (h.told j)) ∙ header_behind old.settings said line h.order

-- what the next line adds
next_said : (said later : Said) (old new : ScriptText) (says : ScriptLine) → IsNext said old says later new → script_lines later new ≡ script_lines said old ++ says ∷ []
next_said said later old new (Header line) h =
    let lines = header_lines old.settings said in
    (λ j. map Header (header_next said later old new line h j) ++ lines_said (h.grown j).rounds)
    ∙ ap (λ rs. map Header (lines ++ line ∷ []) ++ lines_said rs) h.no_round
    ∙ append_nil_map (lines ++ line ∷ []) ∙ map_push Header lines line
    ∙ ap (λ l. l ++ Header line ∷ []) (sym (append_nil_map lines) ∙ ap (λ rs. map Header lines ++ lines_said rs) (sym h.no_round))
  where
    append_nil_map : (lines : List HeaderLine) → map Header lines ++ lines_said [] ≡ map Header lines
    append_nil_map lines = append-nil (map Header lines)
next_said said later old new (Round moment) (same, h) =
    ap (λ t. script_lines t new) same
    ∙ rounds_next said old new (Round moment) (ap (λ (s : ScriptText). s.settings) h.grown) (ap (λ (s : ScriptText). lines_said s.rounds) h.grown ∙ lines_push old.rounds (record { moment = moment; setup = []; calls = [] }))
next_said said later old new (Setup setup) (same, h) = ap (λ t. script_lines t new) same ∙ setup_next said old new setup h
next_said said later old new (CallOf call) (same, h) = ap (λ t. script_lines t new) same ∙ call_next said old new call h

-- ---- samples

abbrev count_of : CallLine → ℕ
count_of call = sample_count call.act

abbrev samples_of : RoundText → ℕ
samples_of round = sum_by count_of round.calls

-- the samples of a script with these rounds
abbrev samples_in : List RoundText → ℕ
samples_in rounds = sum_by samples_of rounds

samples_push : (before : List RoundText) (round : RoundText) → samples_in (before ++ round ∷ []) ≡ samples_in before + samples_of round
samples_push before round = sum_by_push samples_of before round

-- a call line's samples come to those of the others
pub call_samples : (old new : ScriptText) (call : CallLine) (before : List RoundText) (round : RoundText) → old.rounds ≡ before ++ round ∷ [] → new ≡ record old { rounds = before ++ record round { calls = round.calls ++ call ∷ [] } ∷ [] }
    → sample_total new ≡ sample_total old + sample_count call.act
call_samples old new call before round last grown =
    let a : sample_total old ≡ samples_in before + samples_of round = ap samples_in last ∙ samples_push before round in
    let b : sample_total new ≡ samples_in before + sum_by count_of (round.calls ++ call ∷ []) = ap (λ (s : ScriptText). sample_total s) grown ∙ samples_push before (record round { calls = round.calls ++ call ∷ [] }) in
    omega (arith, a, b, sum_by_push count_of round.calls call)

-- another last round with the same calls
same_samples : (before : List RoundText) (round other : RoundText) → round.calls ≡ other.calls → samples_in (before ++ round ∷ []) ≡ samples_in (before ++ other ∷ [])
same_samples before round other e = samples_push before round ∙ ap (λ calls. samples_in before + sum_by count_of calls) e ∙ sym (samples_push before other)

pub setup_samples : (old new : ScriptText) (setup : SetupLine) → SetsUp old setup new → sample_total new ≡ sample_total old
setup_samples old new setup h = ap (λ (s : ScriptText). sample_total s) h.grown ∙ same_samples h.before (record h.round { setup = h.round.setup ++ setup ∷ [] }) h.round refl ∙ ap samples_in (sym h.last)

pub round_samples : (old new : ScriptText) (moment : ℕ) → BeginsRound old moment new → sample_total new ≡ sample_total old
round_samples old new moment h =
    let e : sample_total new ≡ sample_total old + 0 = ap (λ (s : ScriptText). sample_total s) h.grown ∙ samples_push old.rounds (record { moment = moment; setup = []; calls = [] }) in
    omega (arith, e)

-- ---- lists of pairs and of moments, with the last element apart

front_all : {A : Type 0} (P : A → Type 0) (xs : List A) (x : A) → All P (xs ++ x ∷ []) → All P xs
front_all P xs x h = subst (All P) (take_at xs (x ∷ []) (length xs) refl) (All-take P (length xs) (xs ++ x ∷ []) h)

last_all : {A : Type 0} (P : A → Type 0) (xs : List A) (x : A) → All P (xs ++ x ∷ []) → P x
last_all P xs x h = subst P (get_or_push xs x x (length xs) refl) (All-get_or P (xs ++ x ∷ []) (length xs) x (omega (arith, length_push xs x)) h)

-- an element that is not the last
in_front : {A : Type 0} (xs : List A) (x : A) (i : ℕ) (d : A) → i < length xs → get_or (xs ++ x ∷ []) i d ≡ get_or xs i d
in_front [] x i d within = absurd (omega (arith, within))
in_front (y ∷ xs) x zero d within = refl
in_front (y ∷ xs) x (suc i) d within = in_front xs x i d (omega (arith, within))

module _ {A : Type 0} (R : A → A → Type 0) (xs : List A) (x : A) where
  pairs_push : AllPairs R xs → All (λ y. R y x) xs → AllPairs R (xs ++ x ∷ [])
  pairs_push pairs all = all_pairs_push R xs x pairs (λ k d within. All-get_or (λ y. R y x) xs k d within all)

  pairs_front : AllPairs R (xs ++ x ∷ []) → AllPairs R xs
  pairs_front h = λ i j d before within.
      subst (λ a. R a (get_or xs j d)) (in_front xs x i d (omega (arith, before, within)))
      (subst (λ b. R (get_or (xs ++ x ∷ []) i d) b) (in_front xs x j d within) (h i j d before (omega (arith, within, length_push xs x))))

  pairs_last : AllPairs R (xs ++ x ∷ []) → All (λ y. R y x) xs
  pairs_last h = All-from_get_or (λ y. R y x) xs x
      (λ i within. subst (λ a. R a x) (in_front xs x i x within)
      (subst (λ b. R (get_or (xs ++ x ∷ []) i x) b) (get_or_push xs x x (length xs) refl) (h i (length xs) x within (omega (arith, length_push xs x)))))

abbrev Sorted : List RoundText → Type 0
Sorted rounds = IsNonDecreasingBy (λ (r : RoundText). r.moment) rounds

abbrev NotAfter : ℕ → RoundText → Type 0
NotAfter moment round = round.moment ≤ moment

sorted_push : (rounds : List RoundText) (round : RoundText) → Sorted rounds → All (NotAfter round.moment) rounds → Sorted (rounds ++ round ∷ [])
sorted_push rounds round sorted all = IsNonDecreasingBy-push (λ (r : RoundText). r.moment) rounds round sorted (λ d some. All-get_or (NotAfter round.moment) rounds (length rounds - 1) d (omega (arith, some)) all)

sorted_front : (rounds : List RoundText) (round : RoundText) → Sorted (rounds ++ round ∷ []) → Sorted rounds
sorted_front rounds round h = λ i j d before within.
    subst (λ (a : RoundText). a.moment ≤ (get_or rounds j d).moment) (in_front rounds round i d (omega (arith, before, within)))
    (subst (λ (b : RoundText). (get_or (rounds ++ round ∷ []) i d).moment ≤ b.moment) (in_front rounds round j d within) (h i j d before (omega (arith, within, length_push rounds round))))

pub sorted_last : (rounds : List RoundText) (round : RoundText) → Sorted (rounds ++ round ∷ []) → All (NotAfter round.moment) rounds
sorted_last rounds round h = All-from_get_or (NotAfter round.moment) rounds round
    (λ i within. subst (λ (a : RoundText). a.moment ≤ round.moment) (in_front rounds round i round within)
    (subst (λ (b : RoundText). (get_or (rounds ++ round ∷ []) i round).moment ≤ b.moment) (get_or_push rounds round round (length rounds) refl) (h i (length rounds) round (omega (arith, within)) (omega (arith, length_push rounds round)))))

-- another last round at the same moment
sorted_same : (rounds : List RoundText) (round other : RoundText) → round.moment ≡ other.moment → Sorted (rounds ++ round ∷ []) → Sorted (rounds ++ other ∷ [])
sorted_same rounds round other same h = sorted_push rounds other (sorted_front rounds round h) (subst (λ m. All (NotAfter m) rounds) same (sorted_last rounds round h))

-- ---- handles, with the last round apart

handles_push : (earlier : List Registration) (before : List RoundText) (round : RoundText) → HaveHandles earlier before → All (HasHandle (earlier ++ flat_map registered_in (before ++ round ∷ []))) round.calls → HaveHandles earlier (before ++ round ∷ [])
handles_push earlier [] round h last = (subst (λ rs. All (HasHandle (earlier ++ rs)) round.calls) (append-nil (registered_in round)) last, tt)
handles_push earlier (r ∷ before) round h last =
    (h.0, handles_push (earlier ++ registered_in r) before round h.1 (subst (λ rs. All (HasHandle rs) round.calls) (sym (append_assoc earlier (registered_in r) (flat_map registered_in (before ++ round ∷ [])))) last))

handles_last : (earlier : List Registration) (before : List RoundText) (round : RoundText) → HaveHandles earlier (before ++ round ∷ []) → HaveHandles earlier before × All (HasHandle (earlier ++ flat_map registered_in (before ++ round ∷ []))) round.calls
handles_last earlier [] round h = (tt, subst (λ rs. All (HasHandle (earlier ++ rs)) round.calls) (sym (append-nil (registered_in round))) h.0)
handles_last earlier (r ∷ before) round h =
    let rest = handles_last (earlier ++ registered_in r) before round h.1 in
    ((h.0, rest.0), subst (λ rs. All (HasHandle rs) round.calls) (append_assoc earlier (registered_in r) (flat_map registered_in (before ++ round ∷ []))) rest.1)

-- register lines do not depend on calls
same_registered : (before : List RoundText) (round other : RoundText) → round.setup ≡ other.setup → flat_map registered_in (before ++ round ∷ []) ≡ flat_map registered_in (before ++ other ∷ [])
same_registered before round other e = registered_push before round ∙ ap (λ setup. flat_map registered_in before ++ filter_map registration_of setup) e ∙ sym (registered_push before other)

-- a register line is registered behind the earlier ones
pub one_registered : (old new : ScriptText) (before : List RoundText) (round : RoundText) (kind : MetricKind) (key : KeyText) → old.rounds ≡ before ++ round ∷ [] → new ≡ record old { rounds = before ++ record round { setup = round.setup ++ Register kind key ∷ [] } ∷ [] }
    → registered new ≡ registered old ++ record { kind = kind; key = key } ∷ []
one_registered old new before round kind key last grown =
    let one : Registration = record { kind = kind; key = key } in
    ap (λ (s : ScriptText). registered s) grown
    ∙ registered_push before (record round { setup = round.setup ++ Register kind key ∷ [] })
    ∙ ap (λ rs. flat_map registered_in before ++ rs) (filter_map-append registration_of round.setup (Register kind key ∷ []))
    ∙ sym (append_assoc (flat_map registered_in before) (registered_in round) (one ∷ []))
    ∙ ap (λ rs. rs ++ one ∷ []) (sym (registered_push before round) ∙ ap (flat_map registered_in) (sym last))

-- a call line registers nothing
pub none_registered : (old new : ScriptText) (call : CallLine) → AddsCall old call new → registered new ≡ registered old
none_registered old new call h = ap (λ (s : ScriptText). registered s) h.grown ∙ same_registered h.before (record h.round { calls = h.round.calls ++ call ∷ [] }) h.round refl ∙ ap (flat_map registered_in) (sym h.last)

-- the setup line that describes registers nothing
abbrev registrations_of : SetupLine → List Registration
registrations_of (Register kind key) = record { kind = kind; key = key } ∷ []
registrations_of (Describe kind name unit text) = []

-- a setup line that describes registers nothing
pub none_described : (old new : ScriptText) (before : List RoundText) (round : RoundText) (line : SetupLine) → registration_of line ≡ None → old.rounds ≡ before ++ round ∷ [] → new ≡ record old { rounds = before ++ record round { setup = round.setup ++ line ∷ [] } ∷ [] }
    → registered new ≡ registered old
none_described old new before round (Register kind key) none last grown = absurd cc
none_described old new before round (Describe kind name unit text) none last grown =
    ap (λ (s : ScriptText). registered s) grown
    ∙ registered_push before (record round { setup = round.setup ++ Describe kind name unit text ∷ [] })
    ∙ ap (λ rs. flat_map registered_in before ++ rs) (filter_map-append registration_of round.setup (Describe kind name unit text ∷ []) ∙ append-nil (registered_in round))
    ∙ sym (registered_push before round) ∙ ap (flat_map registered_in) (sym last)

-- what a setup line registers stands behind the others
setup_registered : (old new : ScriptText) (setup : SetupLine) → SetsUp old setup new → registered new ≡ registered old ++ registrations_of setup
setup_registered old new (Register kind key) h = one_registered old new h.before h.round kind key h.last h.grown
setup_registered old new (Describe kind name unit text) h = none_described old new h.before h.round (Describe kind name unit text) refl h.last h.grown ∙ sym (append-nil (registered old))

-- a round line registers nothing
pub round_registered : (old new : ScriptText) (moment : ℕ) → BeginsRound old moment new → registered new ≡ registered old
round_registered old new moment h = ap (λ (s : ScriptText). registered s) h.grown ∙ registered_push old.rounds (record { moment = moment; setup = []; calls = [] }) ∙ append-nil (registered old)

-- ---- one more line

-- the settings have still the mode and the kind that are said
next_meant : (said later : Said) (old new : ScriptText) (says : ScriptLine) → IsNext said old says later new → IsMeant said old.settings → IsMeant later new.settings
next_meant said later old new (Header line) h meant =
    subst (λ (s : ScriptText). IsMeant later s.settings) (sym h.grown) (subst (λ t. IsMeant t (with_line old line)) (sym h.told) (still_meant old.settings said line meant))
  where
    with_line : ScriptText → HeaderLine → SettingsText
    with_line s line = with_header s.settings line
next_meant said later old new (Round moment) (same, h) meant = subst (λ (s : ScriptText). IsMeant later s.settings) (sym h.grown) (subst (λ t. IsMeant t old.settings) (sym same) meant)
next_meant said later old new (Setup setup) (same, h) meant = subst (λ (s : ScriptText). IsMeant later s.settings) (sym h.grown) (subst (λ t. IsMeant t old.settings) (sym same) meant)
next_meant said later old new (CallOf call) (same, h) meant = subst (λ (s : ScriptText). IsMeant later s.settings) (sym h.grown) (subst (λ t. IsMeant t old.settings) (sym same) meant)

same_length : {A : Type 0} (xs : List A) (x y : A) → length (xs ++ x ∷ []) ≡ length (xs ++ y ∷ [])
same_length xs x y = length_push xs x ∙ sym (length_push xs y)

-- without rounds there are no moments, handles and registrations to speak of
new_no_rounds : (said later : Said) (old new : ScriptText) (line : HeaderLine) → AddsHeader said old line later new → new.rounds ≡ []
new_no_rounds said later old new line h = ap (λ (s : ScriptText). s.rounds) h.grown ∙ h.no_round

no_moments : (rounds : List RoundText) → rounds ≡ [] → Sorted rounds
no_moments rounds none = IsNonDecreasingBy-short (λ (r : RoundText). r.moment) rounds (omega (arith, ap length none))

no_pairs : (R : Registration → Registration → Type 0) (rs : List Registration) → rs ≡ [] → AllPairs R rs
no_pairs R rs none = λ i j d before within. absurd (omega (arith, within, ap length none))

next_moments : (said later : Said) (old new : ScriptText) (says : ScriptLine) → IsNext said old says later new → Sorted old.rounds → Sorted new.rounds
next_moments said later old new (Header line) h sorted = no_moments new.rounds (new_no_rounds said later old new line h)
next_moments said later old new (Round moment) (same, h) sorted = subst (λ (s : ScriptText). Sorted s.rounds) (sym h.grown) (sorted_push old.rounds (record { moment = moment; setup = []; calls = [] }) sorted h.not_before)
next_moments said later old new (Setup setup) (same, h) sorted = subst (λ (s : ScriptText). Sorted s.rounds) (sym h.grown) (sorted_same h.before h.round (record h.round { setup = h.round.setup ++ setup ∷ [] }) refl (subst Sorted h.last sorted))
next_moments said later old new (CallOf call) (same, h) sorted = subst (λ (s : ScriptText). Sorted s.rounds) (sym h.grown) (sorted_same h.before h.round (record h.round { calls = h.round.calls ++ call ∷ [] }) refl (subst Sorted h.last sorted))

next_registrations : (said later : Said) (old new : ScriptText) (says : ScriptLine) → IsNext said old says later new → length (registered old) ≤ 1000000 → length (registered new) ≤ 1000000
next_registrations said later old new (Header line) h few = let e : length (registered new) ≡ 0 = ap (λ rs. length (flat_map registered_in rs)) (new_no_rounds said later old new line h) in omega arith
next_registrations said later old new (Round moment) (same, h) few = omega (arith, few, ap length (round_registered old new moment h))
next_registrations said later old new (Setup setup) (same, h) few = h.room
next_registrations said later old new (CallOf call) (same, h) few =
    let e : length (registered new) ≡ length (registered old) = ap length (none_registered old new call h) in omega arith

abbrev Apart : ScriptText → List Registration → Type 0
Apart s rs = AllPairs (PrintApart (global_labels s.settings)) rs

same_apart : (old new : ScriptText) → new.settings ≡ old.settings → registered new ≡ registered old → Apart old (registered old) → Apart new (registered new)
same_apart old new settings same apart = subst (λ (s : SettingsText). AllPairs (PrintApart (global_labels s)) (registered new)) (sym settings) (subst (Apart old) (sym same) apart)

next_heads : (said later : Said) (old new : ScriptText) (says : ScriptLine) → IsNext said old says later new → Apart old (registered old) → Apart new (registered new)
next_heads said later old new (Header line) h apart = no_pairs (PrintApart (global_labels new.settings)) (registered new) (ap (flat_map registered_in) (new_no_rounds said later old new line h))
next_heads said later old new (Round moment) (same, h) apart = same_apart old new (ap (λ (s : ScriptText). s.settings) h.grown) (round_registered old new moment h) apart
next_heads said later old new (Setup (Describe kind name unit text)) (same, h) apart =
    same_apart old new (ap (λ (s : ScriptText). s.settings) h.grown) (setup_registered old new (Describe kind name unit text) h ∙ append-nil (registered old)) apart
next_heads said later old new (Setup (Register kind key)) (same, h) apart =
    subst (λ (s : SettingsText). AllPairs (PrintApart (global_labels s)) (registered new)) (sym (ap (λ (s : ScriptText). s.settings) h.grown))
    (subst (Apart old) (sym (setup_registered old new (Register kind key) h)) (pairs_push (PrintApart (global_labels old.settings)) (registered old) (record { kind = kind; key = key }) apart h.apart))
next_heads said later old new (CallOf call) (same, h) apart = same_apart old new (ap (λ (s : ScriptText). s.settings) h.grown) (none_registered old new call h) apart

abbrev Spares : ScriptText → List Registration → Type 0
Spares s rs = All (SparesOverflow s.settings) rs

none_spared : (s : ScriptText) (rs : List Registration) → rs ≡ [] → Spares s rs
none_spared s rs none = subst (Spares s) (sym none) (All-nil (SparesOverflow s.settings))

same_spared : (old new : ScriptText) → new.settings ≡ old.settings → registered new ≡ registered old → Spares old (registered old) → Spares new (registered new)
same_spared old new settings same spares = subst (λ (s : SettingsText). All (SparesOverflow s) (registered new)) (sym settings) (subst (Spares old) (sym same) spares)

next_spares : (said later : Said) (old new : ScriptText) (says : ScriptLine) → IsNext said old says later new → Spares old (registered old) → Spares new (registered new)
next_spares said later old new (Header line) h spares = none_spared new (registered new) (ap (flat_map registered_in) (new_no_rounds said later old new line h))
next_spares said later old new (Round moment) (same, h) spares = same_spared old new (ap (λ (s : ScriptText). s.settings) h.grown) (round_registered old new moment h) spares
next_spares said later old new (Setup (Describe kind name unit text)) (same, h) spares =
    same_spared old new (ap (λ (s : ScriptText). s.settings) h.grown) (setup_registered old new (Describe kind name unit text) h ∙ append-nil (registered old)) spares
next_spares said later old new (Setup (Register kind key)) (same, h) spares =
    subst (λ (s : SettingsText). All (SparesOverflow s) (registered new)) (sym (ap (λ (s : ScriptText). s.settings) h.grown))
    (subst (Spares old) (sym (setup_registered old new (Register kind key) h)) (All-push (SparesOverflow old.settings) (registered old) (record { kind = kind; key = key }) spares h.spares))
next_spares said later old new (CallOf call) (same, h) spares = same_spared old new (ap (λ (s : ScriptText). s.settings) h.grown) (none_registered old new call h) spares

next_handles : (said later : Said) (old new : ScriptText) (says : ScriptLine) → IsNext said old says later new → HaveHandles [] old.rounds → HaveHandles [] new.rounds
next_handles said later old new (Header line) h handles = subst (HaveHandles []) (sym (new_no_rounds said later old new line h)) tt
next_handles said later old new (Round moment) (same, h) handles =
    let round : RoundText = record { moment = moment; setup = []; calls = [] } in
    subst (λ (s : ScriptText). HaveHandles [] s.rounds) (sym h.grown) (handles_push [] old.rounds round handles (All-nil (HasHandle (flat_map registered_in (old.rounds ++ round ∷ [])))))
next_handles said later old new (Setup setup) (same, h) handles =
    let parts = handles_last [] h.before h.round (subst (HaveHandles []) h.last handles) in
    let round : RoundText = record h.round { setup = h.round.setup ++ setup ∷ [] } in
    let P : CallLine → Type 0 = HasHandle (flat_map registered_in (h.before ++ round ∷ [])) in
    subst (λ (s : ScriptText). HaveHandles [] s.rounds) (sym h.grown) (handles_push [] h.before round parts.0 (subst (All P) (sym h.no_call) (All-nil P)))
next_handles said later old new (CallOf call) (same, h) handles =
    let parts = handles_last [] h.before h.round (subst (HaveHandles []) h.last handles) in
    let round : RoundText = record h.round { calls = h.round.calls ++ call ∷ [] } in
    let same : flat_map registered_in (h.before ++ h.round ∷ []) ≡ flat_map registered_in (h.before ++ round ∷ []) = same_registered h.before h.round round refl in
    let P : CallLine → Type 0 = HasHandle (flat_map registered_in (h.before ++ round ∷ [])) in
    let last : P call = subst (λ rs. HasHandle rs call) (ap (flat_map registered_in) h.last ∙ same) h.handle in
    let others : All P h.round.calls = subst (λ rs. All (HasHandle rs) h.round.calls) same parts.1 in
    subst (λ (s : ScriptText). HaveHandles [] s.rounds) (sym h.grown) (handles_push [] h.before round parts.0 (All-push P h.round.calls call others last))

next_samples : (said later : Said) (old new : ScriptText) (says : ScriptLine) → IsNext said old says later new → sample_total old ≤ 16777216 → sample_total new ≤ 16777216
next_samples said later old new (Header line) h few = let e : sample_total new ≡ 0 = ap samples_in (new_no_rounds said later old new line h) in omega (arith, e)
next_samples said later old new (Round moment) (same, h) few = omega (arith, few, round_samples old new moment h)
next_samples said later old new (Setup setup) (same, h) few = omega (arith, few, setup_samples old new setup h)
next_samples said later old new (CallOf call) (same, h) few = h.room

-- behind the lines of a valid script its next line makes a valid script
pub next_valid : (said later : Said) (lines : List (List ℕ)) (line : List ℕ) (old new : ScriptText) (says : ScriptLine) → Valid said lines old → IsLine line says → IsNext said old says later new → Valid later (lines ++ line ∷ []) new
next_valid said later lines line old new says h is_line next =
    let each : AllZip IsLine (lines ++ line ∷ []) (script_lines later new) = subst (AllZip IsLine (lines ++ line ∷ [])) (sym (next_said said later old new says next)) (AllZip-push IsLine lines (script_lines said old) line says h.0.1 is_line) in (
      (next_meant said later old new says next h.0.0, each),
      record {
        moments = next_moments said later old new says next h.1.moments;
        handles = next_handles said later old new says next h.1.handles;
        registrations = next_registrations said later old new says next h.1.registrations;
        samples = next_samples said later old new says next h.1.samples;
        heads = next_heads said later old new says next h.1.heads;
        overflow = next_spares said later old new says next h.1.overflow;
      },
    )

-- ---- the last line

-- the script without its last line, and what that line says
pub record Last (later : Said) (lines : List (List ℕ)) (line : List ℕ) (new : ScriptText) : Type 0 where
  pub said : Said
  pub old : ScriptText
  pub says : ScriptLine
  pub valid : Valid said lines old
  pub is_line : IsLine line says
  pub next : IsNext said old says later new

-- what is valid of a script beside its lines
record Fine (said : Said) (s : ScriptText) : Type 0 where
  meant : IsMeant said s.settings
  moments : Sorted s.rounds
  handles : HaveHandles [] s.rounds
  registrations : length (registered s) ≤ 1000000
  samples : sample_total s ≤ 16777216
  heads : Apart s (registered s)
  overflow : Spares s (registered s)

make_last : (said later : Said) (lines : List (List ℕ)) (line : List ℕ) (new old : ScriptText) (says : ScriptLine) → Valid later (lines ++ line ∷ []) new → IsNext said old says later new → Fine said old → Last later lines line new
make_last said later lines line new old says h next fine =
    let each = zip_last IsLine lines (script_lines said old) line says (subst (AllZip IsLine (lines ++ line ∷ [])) (next_said said later old new says next) h.0.1) in
    let valid : IsValid old = record { moments = fine.moments; handles = fine.handles; registrations = fine.registrations; samples = fine.samples; heads = fine.heads; overflow = fine.overflow } in
    record { said = said; old = old; says = says; valid = ((fine.meant, each.0), valid); is_line = each.1; next = next }

module _ (said : Said) (lines : List (List ℕ)) (line : List ℕ) (new : ScriptText) (h : Valid said (lines ++ line ∷ []) new) (before : List RoundText) (round : RoundText) (e : new.rounds ≡ before ++ round ∷ []) where
  few_registered : length (flat_map registered_in (before ++ round ∷ [])) ≤ 1000000
  few_registered = subst (λ rs. length (flat_map registered_in rs) ≤ 1000000) e h.1.registrations

  sorted : Sorted (before ++ round ∷ [])
  sorted = subst Sorted e h.1.moments

  few_samples : samples_in (before ++ round ∷ []) ≤ 16777216
  few_samples = subst (λ rs. samples_in rs ≤ 16777216) e h.1.samples

  apart : Apart new (flat_map registered_in (before ++ round ∷ []))
  apart = subst (λ rs. Apart new (flat_map registered_in rs)) e h.1.heads

  spares : Spares new (flat_map registered_in (before ++ round ∷ []))
  spares = subst (λ rs. Spares new (flat_map registered_in rs)) e h.1.overflow

  last_call : (calls : List CallLine) (call : CallLine) → round.calls ≡ calls ++ call ∷ [] → Last said lines line new
  last_call calls call f =
      let earlier : RoundText = record round { calls = calls } in
      let old : ScriptText = record new { rounds = before ++ earlier ∷ [] } in
      let parts = handles_last [] before round (subst (HaveHandles []) e h.1.handles) in
      let same : flat_map registered_in (before ++ round ∷ []) ≡ registered old = same_registered before round earlier refl in
      let P : CallLine → Type 0 = HasHandle (registered old) in
      let all : All P (calls ++ call ∷ []) = subst (All P) f (subst (λ rs. All (HasHandle rs) round.calls) same parts.1) in
      let grown : new ≡ record old { rounds = before ++ record earlier { calls = calls ++ call ∷ [] } ∷ [] } = ap (λ rs. record new { rounds = rs }) (e ∙ ap (λ cs. before ++ record round { calls = cs } ∷ []) f) in
      let next : AddsCall old call new = record { before = before; round = earlier; last = refl; grown = grown; handle = last_all P calls call all; room = h.1.samples } in
      make_last said said lines line new old (CallOf call) h (refl, next)
      (record {
        meant = h.0.0;
        moments = sorted_same before round earlier refl sorted;
        handles = handles_push [] before earlier parts.0 (front_all P calls call all);
        registrations = omega (arith, few_registered, ap length same);
        samples = omega (arith, h.1.samples, call_samples old new call before earlier refl grown);
        heads = subst (Apart new) same apart;
        overflow = subst (Spares new) same spares;
      })

  last_setup : (setup : List SetupLine) (last : SetupLine) → round.calls ≡ [] → round.setup ≡ setup ++ last ∷ [] → Last said lines line new
  last_setup setup last g f =
      let earlier : RoundText = record { moment = round.moment; setup = setup; calls = [] } in
      let old : ScriptText = record new { rounds = before ++ earlier ∷ [] } in
      let parts = handles_last [] before round (subst (HaveHandles []) e h.1.handles) in
      let grown : new ≡ record old { rounds = before ++ record earlier { setup = setup ++ last ∷ [] } ∷ [] } =
      ap (λ rs. record new { rounds = rs }) (e ∙ ap (λ s. before ++ record round { setup = s } ∷ []) f ∙ ap (λ cs. before ++ record { moment = round.moment; setup = setup ++ last ∷ []; calls = cs } ∷ []) g) in
      let all_registered : flat_map registered_in (before ++ round ∷ []) ≡ registered old ++ filter_map registration_of (last ∷ []) =
      registered_push before round ∙ ap (λ s. flat_map registered_in before ++ filter_map registration_of s) f
      ∙ ap (λ rs. flat_map registered_in before ++ rs) (filter_map-append registration_of setup (last ∷ []))
      ∙ sym (append_assoc (flat_map registered_in before) (filter_map registration_of setup) (filter_map registration_of (last ∷ [])))
      ∙ ap (λ rs. rs ++ filter_map registration_of (last ∷ [])) (sym (registered_push before earlier)) in
      let both = heads_split last (registered old) (subst (Apart new) all_registered apart) in
      let spared = spares_split last (registered old) (subst (Spares new) all_registered spares) in
      let next : SetsUp old last new = record { before = before; round = earlier; last = refl; no_call = refl; grown = grown; room = h.1.registrations; apart = both.1; spares = spared.1 } in
      make_last said said lines line new old (Setup last) h (refl, next)
      (record {
        meant = h.0.0;
        moments = sorted_same before round earlier refl sorted;
        handles = handles_push [] before earlier parts.0 (All-nil (HasHandle (registered old)));
        registrations = omega (arith, few_registered, ap length all_registered, length-append (registered old) (filter_map registration_of (last ∷ [])));
        samples = omega (arith, few_samples, same_samples before round earlier g);
        heads = both.0;
        overflow = spared.0;
      })
    where
      heads_split : (last : SetupLine) (rs : List Registration) → Apart new (rs ++ filter_map registration_of (last ∷ [])) → Apart new rs × IfSome (registration_of last) (λ n. All (λ r. PrintApart (global_labels new.settings) r n) rs)
      heads_split (Register kind key) rs pairs = (pairs_front (PrintApart (global_labels new.settings)) rs (record { kind = kind; key = key }) pairs, pairs_last (PrintApart (global_labels new.settings)) rs (record { kind = kind; key = key }) pairs)
      heads_split (Describe kind name unit text) rs pairs = (subst (Apart new) (append-nil rs) pairs, tt)

      spares_split : (last : SetupLine) (rs : List Registration) → Spares new (rs ++ filter_map registration_of (last ∷ [])) → Spares new rs × IfSome (registration_of last) (SparesOverflow new.settings)
      spares_split (Register kind key) rs all = (front_all (SparesOverflow new.settings) rs (record { kind = kind; key = key }) all, last_all (SparesOverflow new.settings) rs (record { kind = kind; key = key }) all)
      spares_split (Describe kind name unit text) rs all = (subst (Spares new) (append-nil rs) all, tt)

  last_round : round.calls ≡ [] → round.setup ≡ [] → Last said lines line new
  last_round g f =
      let old : ScriptText = record new { rounds = before } in
      let parts = handles_last [] before round (subst (HaveHandles []) e h.1.handles) in
      let same : flat_map registered_in (before ++ round ∷ []) ≡ registered old = registered_push before round ∙ ap (λ s. flat_map registered_in before ++ filter_map registration_of s) f ∙ append-nil (flat_map registered_in before) in
      let next : BeginsRound old round.moment new = record {
        not_before = sorted_last before round sorted;
        grown = ap (λ rs. record new { rounds = rs }) (e ∙ ap (λ s. before ++ record round { setup = s } ∷ []) f ∙ ap (λ cs. before ++ record { moment = round.moment; setup = []; calls = cs } ∷ []) g);
      } in
      make_last said said lines line new old (Round round.moment) h (refl, next)
      (record {
        meant = h.0.0;
        moments = sorted_front before round sorted;
        handles = parts.0;
        registrations = omega (arith, few_registered, ap length same);
        samples = omega (arith, few_samples, samples_push before round);
        heads = subst (Apart new) same apart;
        overflow = subst (Spares new) same spares;
      })

  last_of_round : Last said lines line new
  last_of_round =
      elim (last_of round.calls) [
        | inr (calls, call, f) ↦ last_call calls call f
        | inl g ↦ elim (last_of round.setup) [ inr (setup, last, f) ↦ last_setup setup last g f | inl f ↦ last_round g f ]
      ]

-- without rounds the last line is a header line
last_header : (said : Said) (lines : List (List ℕ)) (line : List ℕ) (new : ScriptText) → Valid said (lines ++ line ∷ []) new → new.rounds ≡ [] → Last said lines line new
last_header said lines line new h none = by (header_last new.settings said h.0.0)
  where
    by : HeaderLast new.settings said → Last said lines line new
    by (no_header e) = absurd (zip_no_more IsLine lines line (subst (AllZip IsLine (lines ++ line ∷ [])) (λ j. map Header (e j) ++ lines_said (none j)) h.0.1))
    by (last_one before earlier says meant order grown told) =
        let old : ScriptText = record { settings = before; rounds = [] } in
        let next : AddsHeader earlier old says said new = record { no_round = refl; order = order; told = told; grown = λ j. record { settings = grown j; rounds = none j } } in
        make_last earlier said lines line new old (Header says) h next
        (record { meant = meant; moments = no_moments [] refl; handles = tt; registrations = lit≤ tt; samples = lit≤ tt; heads = no_pairs (PrintApart (global_labels before)) [] refl; overflow = All-nil (SparesOverflow before) })

pub last_line : (said : Said) (lines : List (List ℕ)) (line : List ℕ) (new : ScriptText) → Valid said (lines ++ line ∷ []) new → Last said lines line new
last_line said lines line new h =
    elim (last_of new.rounds) [ inl e ↦ last_header said lines line new h e | inr (before, round, e) ↦ last_of_round said lines line new h before round e ]

-- ---- lines are one script at most

setup_one : (old : ScriptText) (setup : SetupLine) (new other : ScriptText) → SetsUp old setup new → SetsUp old setup other → new ≡ other
setup_one old setup new other a b =
    let same = same_from_push a.before b.before a.round b.round (sym a.last ∙ b.last) in
    a.grown ∙ ap (λ rs. record old { rounds = rs ++ record a.round { setup = a.round.setup ++ setup ∷ [] } ∷ [] }) same.0 ∙ ap (λ (r : RoundText). record old { rounds = b.before ++ record r { setup = r.setup ++ setup ∷ [] } ∷ [] }) same.1 ∙ sym b.grown

call_one : (old : ScriptText) (call : CallLine) (new other : ScriptText) → AddsCall old call new → AddsCall old call other → new ≡ other
call_one old call new other a b =
    let same = same_from_push a.before b.before a.round b.round (sym a.last ∙ b.last) in
    a.grown ∙ ap (λ rs. record old { rounds = rs ++ record a.round { calls = a.round.calls ++ call ∷ [] } ∷ [] }) same.0 ∙ ap (λ (r : RoundText). record old { rounds = b.before ++ record r { calls = r.calls ++ call ∷ [] } ∷ [] }) same.1 ∙ sym b.grown

-- a script, and what its header lines say
abbrev SaidScript : Type 0
SaidScript = Said × ScriptText

next_one : (said : Said) (old : ScriptText) (says : ScriptLine) (later other : Said) (new another : ScriptText) → IsNext said old says later new → IsNext said old says other another → ◌≡◌ {A = SaidScript} (later, new) (other, another)
next_one said old (Header line) later other new another a b = λ j. ((a.told ∙ sym b.told) j, (a.grown ∙ sym b.grown) j)
next_one said old (Round moment) later other new another (s, a) (t, b) = λ j. ((s ∙ sym t) j, (a.grown ∙ sym b.grown) j)
next_one said old (Setup setup) later other new another (s, a) (t, b) = λ j. ((s ∙ sym t) j, setup_one old setup new another a b j)
next_one said old (CallOf call) later other new another (s, a) (t, b) = λ j. ((s ∙ sym t) j, call_one old call new another a b j)

no_rounds : (rounds : List RoundText) → AllZip IsLine [] (lines_said rounds) → rounds ≡ []
no_rounds [] h = refl
no_rounds (r ∷ rounds) h = absurd h

no_lines : (said : Said) (script : ScriptText) → Saying said [] script → ◌≡◌ {A = SaidScript} (said, script) (nothing_said, record { settings = only_globals []; rounds = [] })
no_lines said script h =
    let none = zip_nothing (map Header (header_lines script.settings said)) (lines_said script.rounds) h.1 in
    let unsaid = no_header_said script.settings said h.0 none.0 in
    λ j. (unsaid.1 j, record { settings = unsaid.0 j; rounds = no_rounds script.rounds none.1 j })
  where
    zip_nothing : (says others : List ScriptLine) → AllZip IsLine [] (says ++ others) → (says ≡ []) × AllZip IsLine [] others
    zip_nothing [] others h = (refl, h)
    zip_nothing (s ∷ says) others h = absurd h

one_script_of : (n : ℕ) (lines : List (List ℕ)) (said other : Said) (s t : ScriptText) → length lines ≡ n → Valid said lines s → Valid other lines t → ◌≡◌ {A = SaidScript} (said, s) (other, t)
one_script_of zero lines said other s t len a b =
    let none : lines ≡ [] = nil_from_length lines len in
    no_lines said s (subst (λ ls. Saying said ls s) none a.0) ∙ sym (no_lines other t (subst (λ ls. Saying other ls t) none b.0))
one_script_of (suc n) lines said other s t len a b =
    elim (last_of lines) [
      | inl e ↦ absurd (omega (arith, len, ap length e))
      | inr (front, line, e) ↦
          let x = last_line said front line s (subst (λ ls. Valid said ls s) e a) in
          let y = last_line other front line t (subst (λ ls. Valid other ls t) e b) in
          let before : ◌≡◌ {A = SaidScript} (x.said, x.old) (y.said, y.old) = one_script_of n front x.said y.said x.old y.old (omega (arith, len, ap length e, length_push front line)) x.valid y.valid in
          let says : x.says ≡ y.says = one_reading line x.says y.says x.is_line y.is_line in
          next_one y.said y.old y.says said other s t (subst (λ l. IsNext y.said y.old l said s) says (subst (λ (o : SaidScript). IsNext o.0 o.1 x.says said s) before x.next)) y.next
    ]

one_said : (lines : List (List ℕ)) (said other : Said) (s t : ScriptText) → Valid said lines s → Valid other lines t → ◌≡◌ {A = SaidScript} (said, s) (other, t)
one_said lines said other s t = one_script_of (length lines) lines said other s t refl

pub one_script : (lines : List (List ℕ)) (s t : ScriptText) → IsScript lines s × IsValid s → IsScript lines t × IsValid t → s ≡ t
one_script lines s t (a, a_valid) (b, b_valid) = ap (λ (o : SaidScript). o.1) (one_said lines a.said b.said s t (valid_of lines s a a_valid) (valid_of lines t b b_valid))

-- ---- where a line may not stand

-- a line that says what is not the script's next makes no valid script
pub only_next : (said : Said) (lines : List (List ℕ)) (line : List ℕ) (old : ScriptText) (says : ScriptLine) → Valid said lines old → IsLine line says → ((later : Said) (new : ScriptText) → ¬ IsNext said old says later new) → ¬ AreValidLines (lines ++ line ∷ [])
only_next said lines line old says h is_line none (new, script, valid) =
    let last = last_line script.said lines line new (valid_of (lines ++ line ∷ []) new script valid) in
    let before : ◌≡◌ {A = SaidScript} (last.said, last.old) (said, old) = one_said lines last.said said last.old old last.valid h in
    let same : last.says ≡ says = one_reading line last.says says last.is_line is_line in
    none script.said new (subst (λ l. IsNext said old l script.said new) same (subst (λ (o : SaidScript). IsNext o.0 o.1 last.says script.said new) before last.next))

-- neither does a line that says nothing
pub no_next : (lines : List (List ℕ)) (line : List ℕ) → ((says : ScriptLine) → ¬ IsLine line says) → ¬ AreValidLines (lines ++ line ∷ [])
no_next lines line none (new, script, valid) = let last = last_line script.said lines line new (valid_of (lines ++ line ∷ []) new script valid) in none last.says last.is_line

-- ---- fewer lines

front_valid : (lines : List (List ℕ)) (line : List ℕ) → AreValidLines (lines ++ line ∷ []) → AreValidLines lines
front_valid lines line (new, script, valid) =
    let last = last_line script.said lines line new (valid_of (lines ++ line ∷ []) new script valid) in
    (last.old, script_of last.said lines last.old last.valid.0, last.valid.1)

fewer_valid : (d k : ℕ) (lines : List (List ℕ)) → d + k ≡ length lines → AreValidLines lines → AreValidLines (take k lines)
fewer_valid zero k lines e v = subst AreValidLines (sym (take_all k lines (omega arith))) v
fewer_valid (suc d) k lines e v =
    let longer : AreValidLines (take (k + 1) lines) = fewer_valid d (k + 1) lines (omega arith) v in
    front_valid (take k lines) (get_or lines k []) (subst AreValidLines (take_more lines k [] (omega arith)) longer)

-- any fewer lines of a valid script are one
pub fronts_valid : (k : ℕ) (lines : List (List ℕ)) → k ≤ length lines → AreValidLines lines → AreValidLines (take k lines)
fronts_valid k lines few v = fewer_valid (length lines - k) k lines (omega arith) v
