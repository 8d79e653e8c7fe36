-- Which payload limits, in bytes, are refused, in this order: one under 6, the length of the shortest line; for UDP one over
-- 65527, what a datagram of 65535 bytes holds behind its header of 8 (RFC 768); and one over 2 ^ 32 - 1, what the four bytes
-- before a payload of a Unix stream tell.
use Rattle.std.specs.Prelude.{ℕ, Bool, ◌&&◌, true, false, nat_lt, Option, Some, None, if◌then◌else◌}
use Rattle.dsd_addresses.specs.declared.faults.LimitFault.{LimitFault}
use Rattle.dsd_addresses.specs.declared.faults.LimitFault.TheVariants.{Low, Udp, Bound}
use Rattle.dsd_addresses.specs.Remotes.{RemoteText}
use Rattle.dsd_addresses.specs.Remotes as to

abbrev pub is_udp : RemoteText → Bool
is_udp (to.Udp _) = true
is_udp _ = false

abbrev pub fault_of_limit : ℕ → RemoteText → Option LimitFault
fault_of_limit limit remote =
    if nat_lt limit 6 then Some (Low limit)
    else if is_udp remote && nat_lt 65527 limit then Some (Udp limit)
    else if nat_lt 4294967295 limit then Some (Bound limit)
    else None
