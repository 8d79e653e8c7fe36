use Rattle.std.proofs.Common.{◌≡◌, ◌+◌, ◌++◌, ◌∙◌, take, drop, sym, ap, subst, arith}
use Rattle.prom_format.specs.LabelSets.{labels_of}
use Rattle.drive_script.specs.Heads.{keys_by_head, AreHeadsOf, AllPrintPlainly}
use Rattle.drive_script.specs.Texts.{registrations_in, registrations_of}
use Rattle.drive_script.proofs.HeadSteps.{plain_front, rounds_more, rounds_front}
use Rattle.drive_script.proofs.heads.HeadTable.of_rounds.Goals as goal

pub loop-round-preserved : goal.loop-round-preserved
loop-round-preserved c = λ plain.
    let globals = labels_of c.args.globals.now.entries in
    let rounds = c.args.rounds.now in
    let i = c.loop-round.round-index in
    let earlier = registrations_of (take i rounds) in
    let more : registrations_of (take (i + 1) rounds) ≡ earlier ++ registrations_in c.deref.result.now =
    rounds_more rounds i c.round-item.result (omega arith) c.round-item.is ∙ ap (λ setup. earlier ++ registrations_in setup) (sym c.deref.ensures.value) in
    let front = plain_front globals (registrations_of (take (i + 1) rounds)) (registrations_of (drop (i + 1) rounds)) (subst (AllPrintPlainly globals) (rounds_front rounds (i + 1)) plain) in
    subst (AreHeadsOf globals (keys_by_head c.note_setup.new.self.keys.entries)) (sym more)
    (c.in_ok-note_setup.ensures earlier (c.loop-round.invariant plain) (subst (AllPrintPlainly globals) more front))
