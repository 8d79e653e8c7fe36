-- Where payloads go where no address is given (this project's rule).
use Rattle.std.specs.Prelude.{[], ◌∷◌}
use Rattle.std.specs.declared.net.socket_addr.SocketAddr.TheVariants as Socket
use Rattle.dsd_addresses.specs.Remotes.{RemoteText, Udp}

-- port 8125 of this host over UDP, 127.0.0.1:8125
abbrev pub default_agent : RemoteText
default_agent = Udp (Socket.V4 (record { ip = record { octets = 127 ∷ 0 ∷ 0 ∷ 1 ∷ [] }; port = 8125 }))
