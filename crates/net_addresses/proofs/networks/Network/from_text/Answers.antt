use Rattle.net_addresses.proofs.Texts.{whole_network, network_from_parts}
use Rattle.net_addresses.proofs.networks.Network.from_text.Goals as goal

pub returns-in-None-read_ip : goal.returns-in-None-read_ip
returns-in-None-read_ip c = λ n h. c.in-None-read_ip.ensures n.address (whole_network c.args.text.now c.in-None.ensures n h).0

pub returns-in-Some : goal.returns-in-Some
returns-in-Some c =
    network_from_parts c.args.text.now c.in-Some.address.now c.in-Some.length.now c.in-Some.ensures.0 c.in-Some.ensures.1 c.from_parts.result c.from_parts.ensures
