-- How faults are shown.
use Rattle.std.specs.Prelude.{ℕ, List, ◌++◌, codes, decimal, string_bytes}
use Rattle.dsd_addresses.specs.declared.faults.LimitFault.{LimitFault}
use Rattle.dsd_addresses.specs.declared.faults.LimitFault.TheVariants as limits
use Rattle.dsd_addresses.specs.declared.faults.BuildError.{BuildError}
use Rattle.dsd_addresses.specs.declared.faults.BuildError.TheVariants as causes

-- the limit, and what is said behind its number
abbrev pub limit_text : ℕ → List ℕ → List ℕ
limit_text limit behind = codes "maximum payload length (" ++ decimal limit ++ behind

abbrev pub limit_fault_text : LimitFault → List ℕ
limit_fault_text (limits.Low limit) = limit_text limit (codes " bytes) is below the minimum (6 bytes)")
limit_fault_text (limits.Udp limit) = limit_text limit (codes " bytes) exceeds UDP datagram maximum length (65527 bytes)")
limit_fault_text (limits.Bound limit) = limit_text limit (codes " bytes) exceeds theoretical upper bound (4294967295 bytes)")

abbrev pub build_error_text : BuildError → List ℕ
build_error_text (causes.InvalidConfiguration reason) = codes "invalid configuration: " ++ limit_fault_text reason
build_error_text (causes.InvalidRemoteAddress reason) = codes "invalid remote address: " ++ string_bytes reason
build_error_text causes.FailedToInstall = codes "failed to install exporter as global recorder"
build_error_text causes.Memory = codes "out of memory"
