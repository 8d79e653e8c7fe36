use Rattle.std.proofs.Common.{◌≡◌}
use Rattle.net_addresses.specs.Addresses.{family_bits}
use Rattle.net_addresses.proofs.Texts.{no_length}
use Rattle.net_addresses.proofs.networks.Network.from_parts.Goals as goal

pub returns-in-None : goal.returns-in-None
returns-in-None c =
    let most : c.from.result ≡ family_bits c.in-Some.address = cc in
    no_length c.args.address.now c.args.length.now c.in-Some.address c.from.result c.in-Some.ensures most c.in-None.ensures
