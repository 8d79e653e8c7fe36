use Rattle.std.proofs.Common.{◌≡◌, ◌++◌, ◌+◌, take, None, sym, subst, arith, rules}
use Rattle.prom_format.specs.LabelSets.{labels_of}
use Rattle.drive_script.specs.Heads.{keys_by_head, AreHeadsOf}
use Rattle.drive_script.specs.Texts.{registrations_in, setup_of}
use Rattle.drive_script.specs.Valid.{registration_of}
use Rattle.drive_script.specs.declared.heads.HeadTable.{HeadTable}
use Rattle.std.proofs.lemmas.List.{take_all}
use Rattle.drive_script.proofs.HeadSteps.{line_noted, setup_same}
use Rattle.drive_script.proofs.heads.HeadTable.note_setup.Goals as goal
use Rattle.drive_script.proofs.heads.HeadTable.note_setup.Goals.{in-Register+in_ok-note, in_default}

pub loop-line-preserved : goal.loop-line-preserved
loop-line-preserved c = λ earlier h plain.
    let globals = labels_of c.args.globals.now.entries in
    let setup = c.args.setup.now in
    let i = c.loop-line.line-index in
    let noted = c.loop-line.invariant earlier h plain in
    elim c.match-line.branch [
      | in-Register+in_ok-note w ↦
          subst (λ (t : HeadTable). AreHeadsOf globals (keys_by_head t.keys.entries) (earlier ++ registrations_in (take (i + 1) setup))) (sym {A = HeadTable} w.self-is)
          (line_noted globals (keys_by_head w.note.new.self.keys.entries) earlier setup i c.line-item.result _ _ w.in_ok-note.field-0 (w.in_ok-note.ensures (earlier ++ registrations_in (take i setup)) noted) (search rules) (omega arith) c.line-item.is plain)
      | in_default w ↦
          let none : registration_of (setup_of c.line-item.result) ≡ None = search rules in
          subst (λ (t : HeadTable). AreHeadsOf globals (keys_by_head t.keys.entries) (earlier ++ registrations_in (take (i + 1) setup))) (sym {A = HeadTable} w.self-is)
          (subst (λ l. AreHeadsOf globals (keys_by_head c.loop-line.self.keys.entries) (earlier ++ l)) (sym (setup_same setup i c.line-item.result (omega arith) c.line-item.is none)) noted)
    ]

pub returns : goal.returns
returns c = λ earlier h plain.
    let setup = c.args.setup.now in
    let all : take c.loop-line.line-index setup ≡ setup = take_all c.loop-line.line-index setup (omega arith) in
    subst (λ l. AreHeadsOf (labels_of c.args.globals.now.entries) (keys_by_head c.loop-line.self.keys.entries) (earlier ++ registrations_in l)) all (c.loop-line.invariant earlier h plain)
