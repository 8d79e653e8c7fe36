-- What a link tells of itself.
use Rattle.std.specs.Prelude.{ℕ, List, Option}
use Rattle.metrics_core.specs.Devices.{CallsText}
use Rattle.dsd_addresses.specs.Remotes.{RemoteText}

-- a payload that was sent, and the address that the link was aimed at then, if it had been aimed
pub record SentText : Type 0 where
  pub to : Option RemoteText
  pub payload : List ℕ

-- a link in memory: the address last given to it, what it was sent, and its sends
pub record LinkText : Type 0 where
  pub aimed : Option RemoteText
  pub sent : List SentText
  pub calls : CallsText

-- a link over sockets: the address last given to it, and how often it failed
pub record SocketText : Type 0 where
  pub aimed : Option RemoteText
  pub faults : ℕ
