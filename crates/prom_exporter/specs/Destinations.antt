-- Where pages are to be served.
use Rattle.std.specs.Prelude.{ℕ, List, string_bytes}
use Rattle.std.specs.declared.net.socket_addr.SocketAddr.{SocketAddr}
use Rattle.prom_exporter.specs.declared.destination.ListenDestination.{ListenDestination}
use Rattle.prom_exporter.specs.declared.destination.ListenDestination.TheVariants as held

-- a TCP socket, or the path of a Unix socket
pub data DestinationText : Type 0 where
  Tcp : SocketAddr → DestinationText
  Uds : List ℕ → DestinationText

-- what a value holds
abbrev pub destination_text : ListenDestination → DestinationText
destination_text (held.Tcp address) = Tcp address
destination_text (held.Uds path) = Uds (string_bytes path)
