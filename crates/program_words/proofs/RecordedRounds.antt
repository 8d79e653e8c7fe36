-- The lines of a valid script that record a sample so many times do so once or more.
use Rattle.std.proofs.Common.{ℕ, List, [], ◌∷◌, map}
use Rattle.std.specs.Prelude.{All, flat_map}
use Rattle.std.specs.List.{AllZip, AllByRecursion}
use Rattle.std.proofs.lemmas.List.Elements.{All-from_recursion}
use Rattle.metrics_core.proofs.Lists.{both_parts}
use Rattle.drive_script.specs.Script.{Act, Inc, Abs, Add, Sub, Set, Rec, RecN, CallLine, ScriptLine, ScriptText, RoundText, Header, Round, Setup, CallOf, IsLine, IsScript, AreActWords, header_lines, round_lines}
use Rattle.script_player.specs.Recorded.{AllRecordSome, RecordsSome}

act_records : (words : List (List ℕ)) (handle : ℕ) (act : Act) → AreActWords words handle act → RecordsSome act
act_records words handle (Inc n) h = tt
act_records words handle (Abs n) h = tt
act_records words handle (Add v) h = tt
act_records words handle (Sub v) h = tt
act_records words handle (Set v) h = tt
act_records words handle (Rec v) h = tt
act_records words handle (RecN v n) h = h.2

-- so of a line
abbrev Records : ScriptLine → Type 0
Records (Header line) = Unit {0}
Records (Round moment) = Unit {0}
Records (Setup setup) = Unit {0}
Records (CallOf call) = RecordsSome call.act

line_records : (line : List ℕ) (says : ScriptLine) → IsLine line says → Records says
line_records line (Header header) h = tt
line_records line (Round moment) h = tt
line_records line (Setup setup) h = tt
line_records line (CallOf call) h = act_records h.formed.0 call.handle call.act h.formed.1

lines_record : (lines : List (List ℕ)) (says : List ScriptLine) → AllZip IsLine lines says → AllByRecursion Records says
lines_record [] [] h = tt
lines_record [] (s ∷ says) h = absurd h
lines_record (l ∷ lines) [] h = absurd h
lines_record (l ∷ lines) (s ∷ says) h = (line_records l s h.0, lines_record lines says h.1)

calls_record : (calls : List CallLine) → AllByRecursion Records (map CallOf calls) → AllByRecursion (λ (call : CallLine). RecordsSome call.act) calls
calls_record [] h = tt
calls_record (c ∷ calls) h = (h.0, calls_record calls h.1)

rounds_record : (rounds : List RoundText) → AllByRecursion Records (flat_map round_lines rounds) → AllByRecursion AllRecordSome rounds
rounds_record [] h = tt
rounds_record (r ∷ rounds) h =
    let parts = both_parts Records (round_lines r) (flat_map round_lines rounds) h in
    let round = both_parts Records (map Setup r.setup) (map CallOf r.calls) parts.0.1 in
    (All-from_recursion (λ (call : CallLine). RecordsSome call.act) r.calls (calls_record r.calls round.1), rounds_record rounds parts.1)

pub script_records : (lines : List (List ℕ)) (script : ScriptText) → IsScript lines script → All AllRecordSome script.rounds
script_records lines script h =
    All-from_recursion AllRecordSome script.rounds
    (rounds_record script.rounds (both_parts Records (map Header (header_lines script.settings h.said)) (flat_map round_lines script.rounds) (lines_record lines _ h.each)).1)
