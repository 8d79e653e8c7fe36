-- How the types of the program that name series and calls are seen by definitions.
use Rattle.metrics_core.specs.Calls as calls
use Rattle.metrics_core.specs.declared.calls.SeriesCall.{SeriesCall}
use Rattle.metrics_core.specs.declared.calls.SeriesCall.TheVariants.{Increment, Absolute, Add, Subtract, Set, Record}

-- the call that a value of the program stands for
abbrev pub call_of : SeriesCall → calls.Call
call_of (Increment n) = calls.Increment n
call_of (Absolute n) = calls.Absolute n
call_of (Add value) = calls.Add value.0
call_of (Subtract value) = calls.Subtract value.0
call_of (Set value) = calls.Set value.0
call_of (Record value moment count) = calls.Record value.0 moment count
