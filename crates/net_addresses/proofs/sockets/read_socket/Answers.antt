use Rattle.net_addresses.proofs.Texts.{no_socket, no_socket_behind}
use Rattle.net_addresses.proofs.sockets.read_socket.Goals as goal

pub returns-in-None-read_socket_v6_behind : goal.returns-in-None-read_socket_v6_behind
returns-in-None-read_socket_v6_behind c =
    no_socket_behind c.args.text.now c.in-Some.behind.now c.in-Some.ensures c.in-None-read_socket_v6_behind.ensures

pub returns-in-None-read_socket_v4 : goal.returns-in-None-read_socket_v4
returns-in-None-read_socket_v4 c = no_socket c.args.text.now c.in-None.ensures c.in-None-read_socket_v4.ensures
