use Rattle.std.proofs.Common.{◌≡◌, ◌-◌, ◌≤◌, length, take}
use Rattle.std.specs.Prelude.{IfSome}
use Rattle.page_answers.specs.Readings.{CallForMore}
use Rattle.page_answers.proofs.Taken.{WereTaken}
use Rattle.page_answers.proofs.readings.read_head.Given as goal

abbrev pub invariant-loop-length : goal.invariant-loop-length
invariant-loop-length g l = record {
  inside : l.length ≤ length l.bytes;
  calls : CallForMore (take l.length l.bytes);
  taken : IfSome (g.C.Conn.told l.initial.conn) (λ before. WereTaken before (g.C.Conn.told l.conn) (take l.length l.bytes));
  who : g.C.Conn.who l.conn ≡ g.C.Conn.who l.initial.conn;
  no_fault : g.C.Conn.faults l.conn ≡ g.C.Conn.faults l.initial.conn;
}

abbrev pub decreases-loop-length : goal.decreases-loop-length
decreases-loop-length g l = length l.initial.bytes - l.length
