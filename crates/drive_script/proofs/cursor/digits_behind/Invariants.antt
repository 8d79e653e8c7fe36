use Rattle.std.proofs.Common.{◌≡◌, take, drop, length}
use Rattle.std.specs.Str.Parse.{digits_value_after}
use Rattle.drive_script.specs.Reading.{digit_count}
use Rattle.drive_script.proofs.cursor.digits_behind.Given as goal

-- the value so far goes on with the digits that are left to the same number, and the same bytes are behind them
abbrev pub invariant-loop-first : goal.invariant-loop-first
invariant-loop-first l = record {
  value : digits_value_after 10 l.value (take (digit_count l.rest) l.rest) ≡ digits_value_after 10 l.fn.begun (take (digit_count l.fn.bytes) l.fn.bytes);
  rest : drop (digit_count l.rest) l.rest ≡ drop (digit_count l.fn.bytes) l.fn.bytes;
}

abbrev pub decreases-loop-first : goal.decreases-loop-first
decreases-loop-first l = length l.rest
