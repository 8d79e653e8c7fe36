-- What the lines of a piece of a script say.
use Rattle.std.specs.Prelude.{ℕ, Bool, List, [], ◌∷◌, ◌++◌, Result, IfOk, IsTrue, flat_map, map}
use Rattle.std.specs.List.{AllZip}
use Rattle.metrics_core.specs.declared.memory.Memory.{Memory}
use Rattle.drive_script.specs.Script.{IsLine, ScriptLine, CallOf}
use Rattle.drive_script.specs.Texts.{call_line_of, line_of}
use Rattle.drive_script.specs.declared.beside.Run.{Run}
use Rattle.drive_script.specs.declared.beside.Run.TheVariants as runs
use Rattle.drive_script.specs.declared.script.CallLine.{CallLine}

-- what call lines say, line by line
abbrev pub calls_said : List CallLine → List ScriptLine
calls_said calls = map (λ call. CallOf (call_line_of call)) calls

-- what a run of lines says, line by line
abbrev pub lines_said : Run → List ScriptLine
lines_said (runs.Calls calls) = calls_said calls.items
lines_said (runs.One says) = line_of says ∷ []

-- what runs of lines say, and behind it what call lines say that stand apart
abbrev pub said_so_far : List Run → List CallLine → List ScriptLine
said_so_far said calls = flat_map lines_said said ++ calls_said calls

-- the lines say this, in order
abbrev pub AreSaid : List (List ℕ) → List Run → Type 0
AreSaid lines said = AllZip IsLine lines (flat_map lines_said said)

-- where lines were read and each says something, this is what they say
abbrev pub IsReadAs : List (List ℕ) → Result Bool Memory → List Run → Type 0
IsReadAs lines read said = IfOk read (λ all. IsTrue all → AreSaid lines said)
