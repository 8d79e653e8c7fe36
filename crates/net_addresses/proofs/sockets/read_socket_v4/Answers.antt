use Rattle.std.specs.Net.Socket.{v4_ip, v4_port}
use Rattle.net_addresses.proofs.Splits.{Lacks-split}
use Rattle.net_addresses.proofs.Texts.{parts_v4}
use Rattle.net_addresses.proofs.sockets.read_socket_v4.Goals as goal

pub returns-in_default : goal.returns-in_default
returns-in_default c = λ a h. Lacks-split 58 c.args.text.now h.0 h.1 c.in_default.ensures h.2

pub returns-in_default-parse : goal.returns-in_default-parse
returns-in_default-parse c = λ a h.
    c.in_default-parse.ensures.value (v4_ip a) (parts_v4 c.args.text.now c.in-Some.ip.now c.in-Some.port.now c.in-Some.ensures.0 c.in-Some.ensures.1 a h).0

pub returns-in-None : goal.returns-in-None
returns-in-None c = λ a h.
    c.in-None.ensures (v4_port a) (parts_v4 c.args.text.now c.in-Some.ip.now c.in-Some.port.now c.in-Some.ensures.0 c.in-Some.ensures.1 a h).1
