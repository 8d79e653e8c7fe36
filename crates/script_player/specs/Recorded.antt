-- Which call lines of a script record samples.
use Rattle.std.specs.Prelude.{◌≤◌, All}
use Rattle.drive_script.specs.Script.{Act, RecN, RoundText}

-- an act that records a sample so many times does so once or more
abbrev pub RecordsSome : Act → Type 0
RecordsSome (RecN v n) = 1 ≤ n
RecordsSome _ = Unit {0}

-- so of each call line of a round, and of rounds
abbrev pub AllRecordSome : RoundText → Type 0
AllRecordSome round = All (λ call. RecordsSome call.act) round.calls
