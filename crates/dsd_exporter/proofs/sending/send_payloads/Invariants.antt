use Rattle.std.proofs.Common.{◌≡◌, ◌++◌, ◌≤◌, List, length, ℕ}
use Rattle.dsd_writer.specs.Left.{payloads_left}
use Rattle.dsd_exporter.specs.Sending.{Outcome, HandsOut, sent_of}
use Rattle.dsd_exporter.proofs.sending.send_payloads.Given as goal

-- so many of the first payloads were handed to the link
abbrev pub invariant-loop-number : goal.invariant-loop-number
invariant-loop-number g l = record {
  outcomes : List Outcome;
  done : List (List ℕ);
  split : payloads_left l.fn.payloads ≡ done ++ payloads_left l.payloads;
  many : length done ≡ l._number;
  hands : HandsOut done outcomes (g.L.Link.aimed l.initial.link) (g.L.Link.sent l.initial.link) (g.L.Link.sent l.link) (g.L.Link.faults l.initial.link) (g.L.Link.faults l.link) l.fn.telemetry l.telemetry;
  sent : l.sent ≡ length (sent_of outcomes);
  few : l.sent ≤ l._number;
  all : l.count ≡ length (payloads_left l.fn.payloads);
  aimed : g.L.Link.aimed l.link ≡ g.L.Link.aimed l.initial.link;
  never_falls : g.L.Link.faults l.initial.link ≤ g.L.Link.faults l.link;
}
