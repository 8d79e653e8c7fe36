use Rattle.dsd_lines.proofs.Streams.{frame_taken, taken}
use Rattle.dsd_lines.proofs.frames.Frames.next_frame.Goals as goal

pub returns-clause-frame : goal.returns-clause-frame
returns-clause-frame c =
    (frame_taken c.self.inside.bytes.items c.as_slice.result.now c.self.inside.begin c.args.self.now c.in-Some.payload.now c.in_ok-frame.frame.items c.as_slice.ensures.value c.self.view_is c.in-Some.ensures c.in_ok-frame.ensures.items).split

pub returns-clause-split : goal.returns-clause-split
returns-clause-split c = λ bytes frames split.
    let t = frame_taken c.self.inside.bytes.items c.as_slice.result.now c.self.inside.begin c.args.self.now c.in-Some.payload.now c.in_ok-frame.frame.items c.as_slice.ensures.value c.self.view_is c.in-Some.ensures c.in_ok-frame.ensures.items in
    taken bytes frames c.args.self.now c.in_ok-frame.frame.items _ t.split t.is_frame split
