use Rattle.std.proofs.Common.{List, ◌++◌, take}
use Rattle.prom_format.specs.LabelSets.{labels_of}
use Rattle.drive_script.specs.Heads.{keys_by_head, AreHeadsOf, AllPrintPlainly}
use Rattle.drive_script.specs.Texts.{registrations_in}
use Rattle.drive_script.specs.Valid.{Registration}
use Rattle.drive_script.proofs.heads.HeadTable.note_setup.Given as goal

-- the register lines so far are noted
abbrev pub invariant-loop-line : goal.invariant-loop-line
invariant-loop-line l =
    (earlier : List Registration) → AreHeadsOf (labels_of l.globals.entries) (keys_by_head l.initial.self.keys.entries) earlier → AllPrintPlainly (labels_of l.globals.entries) (earlier ++ registrations_in l.setup)
    → AreHeadsOf (labels_of l.globals.entries) (keys_by_head l.self.keys.entries) (earlier ++ registrations_in (take l.line-index l.setup))
