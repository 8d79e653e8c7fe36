-- Worked rows of the definitions.
use Rattle.std.specs.Prelude.{◌≡◌, Some, None, codes, refl}
use Rattle.std.specs.Fmt.{digits}
use Rattle.dsd_addresses.specs.declared.faults.LimitFault.TheVariants as limits
use Rattle.dsd_addresses.specs.Faults.{limit_fault_text}
use Rattle.dsd_addresses.specs.Limits.{fault_of_limit}
use Rattle.dsd_addresses.specs.Remotes.{Unix, IsRemote, no_scheme_text, remote_output}

pub path : IsRemote (codes "unix:///tmp/s") (Unix (codes "/tmp/s"))
path = refl

pub shown : remote_output (Unix (codes "/tmp/s")) ≡ codes "unix:///tmp/s"
shown = refl

pub unknown : no_scheme_text (codes "spongebob") ≡ codes "invalid scheme 'spongebob' (expected 'udp', 'unix', or 'unixgram')"
unknown = refl

pub low : limit_fault_text (limits.Low 5) ≡ codes "maximum payload length (5 bytes) is below the minimum (6 bytes)"
unfolding digits
low = refl

pub least : fault_of_limit 6 (Unix (codes "/s")) ≡ None
least = refl

pub most : fault_of_limit 4294967295 (Unix (codes "/s")) ≡ None
most = refl

pub past : fault_of_limit 4294967296 (Unix (codes "/s")) ≡ Some (limits.Bound 4294967296)
past = refl
