-- When a series falls idle (this project's rule).
use Rattle.std.specs.Prelude.{ℕ, ◌+◌, ◌==◌, not, nat_lt, Option, Some, None, option_map, if◌then◌else◌}
use Rattle.metrics_core.specs.declared.kinds.MetricKind.{MetricKind}
use Rattle.metrics_core.specs.Kinds.{KindMask, mask_has}

-- which kinds fall idle, and after how many nanoseconds
pub record Idle : Type 0 where
  pub mask : KindMask
  pub timeout : ℕ

-- a note of a series: how many updates it had, and the moment at which that was seen first. What a page leaves of it that
-- sees a count at a moment: the first page and one with another count note both anew; one with the same count keeps the
-- note, or finds the series idle, where the moment is more than the timeout after the noted one
abbrev pub noted : ℕ → Option (ℕ × ℕ) → ℕ → ℕ → Option (ℕ × ℕ)
noted timeout None count t = Some (count, t)
noted timeout (Some (known, moment)) count t =
    if not (known == count) then Some (count, t)
    else if nat_lt (moment + timeout) t then None
    else Some (known, moment)

-- the note that a page leaves of a series of a kind, or `None` where the series is idle
abbrev pub note_left : Option Idle → MetricKind → Option (ℕ × ℕ) → ℕ → ℕ → Option (Option (ℕ × ℕ))
note_left None kind note count t = Some note
note_left (Some idle) kind note count t =
    if mask_has idle.mask kind then option_map Some (noted idle.timeout note count t) else Some note
