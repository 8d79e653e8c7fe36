use Rattle.std.proofs.Common.{length, map}
use Rattle.std.specs.Prelude.{string_bytes}
use Rattle.rule_eval.proofs.KeyReader.{KeysLeft}
use Rattle.rule_eval.proofs.lines.keys.Given as goal

abbrev pub invariant-loop-alloc : goal.invariant-loop-alloc
invariant-loop-alloc l = KeysLeft l.initial.cursor.rest.now (map string_bytes l.keys.items) l.cursor.rest.now

abbrev pub decreases-loop-alloc : goal.decreases-loop-alloc
decreases-loop-alloc l = length l.cursor.rest.now
