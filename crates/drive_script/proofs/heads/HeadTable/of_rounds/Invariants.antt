use Rattle.std.proofs.Common.{take}
use Rattle.prom_format.specs.LabelSets.{labels_of}
use Rattle.drive_script.specs.Heads.{keys_by_head, AreHeadsOf, AllPrintPlainly}
use Rattle.drive_script.specs.Texts.{registrations_of}
use Rattle.drive_script.proofs.heads.HeadTable.of_rounds.Given as goal

-- the register lines of the rounds so far are noted
abbrev pub invariant-loop-round : goal.invariant-loop-round
invariant-loop-round l = AllPrintPlainly (labels_of l.globals.entries) (registrations_of l.rounds) → AreHeadsOf (labels_of l.globals.entries) (keys_by_head l.table.keys.entries) (registrations_of (take l.round-index l.rounds))
