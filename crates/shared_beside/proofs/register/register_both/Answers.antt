use denote.Param.Send.{sendable}
use Rattle.shared_recorder.proofs.Crossing.{recorder-sync}
use Rattle.shared_beside.proofs.Both.{both_registered}
use Rattle.shared_beside.proofs.Crossing.{registration-send, registered-send}
use Rattle.shared_beside.proofs.register.register_both.Goals as goal

pub both_beside-one-requires-send-J : goal.both_beside-one-requires-send-J
both_beside-one-requires-send-J g c κs within = search (sendable, registration-send) depth 10

pub both_beside-one-requires-send-J-Answer : goal.both_beside-one-requires-send-J-Answer
both_beside-one-requires-send-J-Answer g c κs within = search (sendable, registered-send) depth 10

pub both_beside-one-requires-sync-J-Shared : goal.both_beside-one-requires-sync-J-Shared
both_beside-one-requires-sync-J-Shared g c κs within = search (sendable, recorder-sync) depth 10

pub returns-clause-both : goal.returns-clause-both
returns-clause-both g c =
    let done = c.both_beside-one.ensures in
    both_registered c.args.kind c.args.one c.args.other _ _ _ _ _ _ _ _ _ _ c.split-pass.ensures.root c.split-pass.ensures.child c.split-pass-2.ensures.root c.split-pass-2.ensures.child done.0.1 done.1.1 c.take_both.ensures.seen
