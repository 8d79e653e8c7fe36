-- Worked rows of the definitions.
use Rattle.std.specs.Prelude.{◌≡◌, refl}
use Rattle.net_addresses.specs.Addresses.{prefix_bits}

-- the first 8 bits of 10.2.3.4 are those of 10.0.0.0, and not those of 11.2.3.4
pub same_prefix : prefix_bits 32 8 0x0a020304 ≡ prefix_bits 32 8 0x0a000000
same_prefix = refl

pub other_prefix : prefix_bits 32 8 0x0b020304 ≡ 11
other_prefix = refl

-- no bits count
pub no_prefix : prefix_bits 32 0 0xffffffff ≡ 0
no_prefix = refl

-- all bits count
pub whole_prefix : prefix_bits 128 128 0x20010db8000000000000000000000001 ≡ 0x20010db8000000000000000000000001
whole_prefix = refl
