use Rattle.std.proofs.Common.{◌≡◌, None, subst, rules}
use Rattle.prom_format.specs.LabelSets.{labels_of}
use Rattle.drive_script.specs.Heads.{AreNoted}
use Rattle.drive_script.specs.Texts.{registrations_of}
use Rattle.drive_script.proofs.HeadSteps.{plain_added}
use Rattle.drive_script.proofs.heads.Heads.note.Goals as goal

pub returns-in-Some-clause-apart : goal.returns-in-Some-clause-apart
returns-in-Some-clause-apart c = λ noted.
    c.note.ensures (registrations_of c.args.rounds.now) (subst (λ t. AreNoted (labels_of c.args.self.now.globals.entries) t (registrations_of c.args.rounds.now)) (c.in-Some.is) noted)

pub returns-then-prints_plainly-clause-apart : goal.returns-then-prints_plainly-clause-apart
returns-then-prints_plainly-clause-apart c = λ noted.
    let globals = labels_of c.args.self.now.globals.entries in
    let none : c.args.self.now.table ≡ None = search rules in
    rw none (plain_added globals (registrations_of c.args.rounds.now) (record { kind = c.args.kind; key = c.args.key.now }) (rw none at noted) (c.prints_plainly.ensures c.if-prints_plainly.true))

pub returns-clause-apart : goal.returns-clause-apart
returns-clause-apart c = λ noted.
    let globals = labels_of c.args.self.now.globals.entries in
    let none : c.args.self.now.table ≡ None = search rules in
    c.in_ok-apart.ensures (registrations_of c.args.rounds.now) (c.in_ok-table.ensures (rw none at noted))
