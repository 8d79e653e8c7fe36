use Rattle.std.proofs.Common.{◌≡◌, ◌+◌, ◌-◌, ◌≤◌, ◌++◌, ◌∙◌, length, take, drop, arith, refl, length-take, length-drop}
use Rattle.page_answers.proofs.Room.{nothing_calls, calls_on}
use Rattle.page_answers.proofs.Taken.{ends_inside, nothing_taken, read_further, read_to_the_end, read_until_decided, read_to_the_full}
use Rattle.page_answers.proofs.readings.read_head.Goals as goal

pub loop-length-init : goal.loop-length-init
loop-length-init g c = record { inside = omega arith; calls = nothing_calls; taken = nothing_taken (g.C.Conn.told c.args.conn.now); who = refl; no_fault = refl }

pub loop-length-preserved : goal.loop-length-preserved
loop-length-preserved g c =
    let at = c.loop-length.length in
    let bytes = c.loop-length.bytes in
    let n = c.in_ok-count.count in
    let new = c.read.new.buf in
    let behind = drop (length bytes - at) (drop at bytes) in
    let loop = c.loop-length.invariant in
    let read = c.in_ok-count.ensures in
    let long : length (take at bytes) ≡ at = omega (arith, length-take at bytes) in
    let few : at + n ≤ 65536 = omega (arith, read.bound, c.loop-length.auto.bytes, c.requires.room, length-take (length bytes - at) (drop at bytes), length-drop at bytes) in
    record {
      inside = ends_inside (take at bytes) new behind at n long (omega (arith, c.read.auto.buf, read.bound));
      calls = calls_on _ (length c.loop-length.fields) (omega (arith, c.loop-length.auto.fields, c.requires.fields)) (omega (arith, few, length-take (at + n) (take at bytes ++ (new ++ behind)))) c.if-are_decided.ensures;
      taken = read_further (g.C.Conn.told c.args.conn.now) (g.C.Conn.told c.loop-length.conn) (g.C.Conn.told c.read.new.self) (take at bytes) (take (length bytes - at) (drop at bytes)) new behind at n (at + n)
          long (omega arith) refl loop.calls loop.taken read.took;
      who = read.who ∙ loop.who;
      no_fault = read.faults.no_fault ∙ loop.no_fault;
    }

pub returns-then-count-eq0-clause-read : goal.returns-then-count-eq0-clause-read
returns-then-count-eq0-clause-read g c =
    let at = c.loop-length.length in
    let bytes = c.loop-length.bytes in
    read_to_the_end (g.C.Conn.told c.args.conn.now) (g.C.Conn.told c.loop-length.conn) (g.C.Conn.told c.read.new.self) (take at bytes) (take (length bytes - at) (drop at bytes)) c.read.new.buf
    (drop (length bytes - at) (drop at bytes)) at c.in_ok-count.count at (omega (arith, length-take at bytes)) (omega arith) (omega arith) c.loop-length.invariant.calls
    c.loop-length.invariant.taken c.in_ok-count.ensures.took (omega (arith, length-take (length bytes - at) (drop at bytes), length-drop at bytes)) c.if-count-eq0.true

pub returns-then-are_decided-clause-read : goal.returns-then-are_decided-clause-read
returns-then-are_decided-clause-read g c =
    let at = c.loop-length.length in
    let bytes = c.loop-length.bytes in
    read_until_decided (g.C.Conn.told c.args.conn.now) (g.C.Conn.told c.loop-length.conn) (g.C.Conn.told c.read.new.self) (take at bytes) (take (length bytes - at) (drop at bytes)) c.read.new.buf
    (drop (length bytes - at) (drop at bytes)) at c.in_ok-count.count (at + c.in_ok-count.count) (omega (arith, length-take at bytes)) (omega arith) refl c.loop-length.invariant.calls
    c.loop-length.invariant.taken c.in_ok-count.ensures.took c.if-are_decided.ensures

pub returns-clause-read : goal.returns-clause-read
returns-clause-read g c =
    let at = c.loop-length.length in
    let bytes = c.loop-length.bytes in
    read_to_the_full (g.C.Conn.told c.args.conn.now) (g.C.Conn.told c.loop-length.conn) (take at bytes) (omega (arith, length-take at bytes)) c.loop-length.invariant.taken
