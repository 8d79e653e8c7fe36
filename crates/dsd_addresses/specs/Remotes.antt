-- The texts of addresses to send to (this project's rule), and why one is refused.
use Rattle.std.specs.Prelude.{◌≡◌, ◌≢◌, ⊤, ℕ, ◌≤◌, ◌⊎◌, List, ◌++◌, length, codes, string_bytes}
use Rattle.std.specs.declared.net.socket_addr.SocketAddr.{SocketAddr}
use Rattle.std.specs.Net.Text.{socket_text}
use Rattle.net_addresses.specs.Addresses.{IsSocket}
use Rattle.dsd_addresses.specs.declared.remote_addr.RemoteAddr.{RemoteAddr}
use Rattle.dsd_addresses.specs.declared.remote_addr.RemoteAddr.TheVariants as held
use Rattle.dsd_addresses.specs.declared.faults.BuildError.{BuildError}
use Rattle.dsd_addresses.specs.declared.faults.BuildError.TheVariants as causes

-- an address to send to: a UDP socket, or the path of a Unix socket
pub data RemoteText : Type 0 where
  Udp : SocketAddr → RemoteText
  Unix : List ℕ → RemoteText
  Unixgram : List ℕ → RemoteText

-- what a value holds
abbrev pub remote_text : RemoteAddr → RemoteText
remote_text (held.Udp a) = Udp a
remote_text (held.Unix path) = Unix (string_bytes path)
remote_text (held.Unixgram path) = Unixgram (string_bytes path)

-- a text: the scheme, `://` and a path or a socket; or a socket alone, over UDP
abbrev pub IsRemote : List ℕ → RemoteText → Type 0
IsRemote text (Udp a) = IsSocket text a ⊎ ((socket : List ℕ) × (text ≡ codes "udp" ++ (codes "://" ++ socket)) × IsSocket socket a)
IsRemote text (Unix path) = text ≡ codes "unix" ++ (codes "://" ++ path)
IsRemote text (Unixgram path) = text ≡ codes "unixgram" ++ (codes "://" ++ path)

-- no `://` stands in a text
abbrev pub HasNoScheme : List ℕ → Type 0
HasNoScheme text = (front back : List ℕ) → text ≢ front ++ (codes "://" ++ back)

-- the scheme of a text is what stands before its first `://`
pub record IsSchemeSplit (text scheme rest : List ℕ) : Type 0 where
  pub spelled : text ≡ scheme ++ (codes "://" ++ rest)
  pub first : (front back : List ℕ) → text ≡ front ++ (codes "://" ++ back) → length scheme ≤ length front

-- what is said of a text that is no numeric socket, and of a scheme that is none of the three
abbrev pub no_socket_text : List ℕ → List ℕ
no_socket_text text = codes "not a numeric address and port: '" ++ text ++ codes "'"

abbrev pub no_scheme_text : List ℕ → List ℕ
no_scheme_text scheme = codes "invalid scheme '" ++ scheme ++ codes "' (expected 'udp', 'unix', or 'unixgram')"

-- a refusal with this text, or for want of memory
abbrev pub RefusedAs : List ℕ → BuildError → Type 0
RefusedAs text (causes.InvalidRemoteAddress reason) = string_bytes reason ≡ text
RefusedAs text causes.Memory = ⊤
RefusedAs text (causes.InvalidConfiguration _) = ⊥
RefusedAs text causes.FailedToInstall = ⊥

-- an address behind a scheme
abbrev pub IsBehind : List ℕ → List ℕ → RemoteText → Type 0
IsBehind scheme rest (Udp a) = (scheme ≡ codes "udp") × IsSocket rest a
IsBehind scheme rest (Unix path) = (scheme ≡ codes "unix") × (path ≡ rest)
IsBehind scheme rest (Unixgram path) = (scheme ≡ codes "unixgram") × (path ≡ rest)

-- the reason why there is none: behind `udp` no socket stands, and any other scheme is none of the three
abbrev pub IsReasonBehind : List ℕ → List ℕ → List ℕ → Type 0
IsReasonBehind scheme rest reason =
    ((scheme ≡ codes "udp") × ((a : SocketAddr) → ¬ (IsSocket rest a)) × (reason ≡ no_socket_text rest))
    ⊎ ((scheme ≢ codes "udp") × (scheme ≢ codes "unix") × (scheme ≢ codes "unixgram") × (reason ≡ no_scheme_text scheme))

-- a refusal behind a scheme; a UDP socket takes no memory
abbrev pub IsRefusalBehind : List ℕ → List ℕ → BuildError → Type 0
IsRefusalBehind scheme rest (causes.InvalidRemoteAddress reason) = IsReasonBehind scheme rest (string_bytes reason)
IsRefusalBehind scheme rest causes.Memory = (a : SocketAddr) → ¬ (IsBehind scheme rest (Udp a))
IsRefusalBehind scheme rest (causes.InvalidConfiguration _) = ⊥
IsRefusalBehind scheme rest causes.FailedToInstall = ⊥

-- why a text is no address: without a scheme it is no socket, and with one there is no address behind it
abbrev pub IsReason : List ℕ → List ℕ → Type 0
IsReason text reason =
    (HasNoScheme text × ((a : SocketAddr) → ¬ (IsSocket text a)) × (reason ≡ no_socket_text text))
    ⊎ ((scheme rest : List ℕ) × IsSchemeSplit text scheme rest × IsReasonBehind scheme rest reason)

-- a text is refused where it writes no address, with the reason; or for want of memory, where it writes no UDP socket
abbrev pub IsRefusal : List ℕ → BuildError → Type 0
IsRefusal text (causes.InvalidRemoteAddress reason) = ((remote : RemoteText) → ¬ (IsRemote text remote)) × IsReason text (string_bytes reason)
IsRefusal text causes.Memory = (a : SocketAddr) → ¬ (IsRemote text (Udp a))
IsRefusal text (causes.InvalidConfiguration _) = ⊥
IsRefusal text causes.FailedToInstall = ⊥

-- the name of the transport
abbrev pub transport_of : RemoteText → List ℕ
transport_of (Udp _) = codes "udp"
transport_of (Unix _) = codes "uds-stream"
transport_of (Unixgram _) = codes "uds"

-- the payload limit, in bytes, where none is set
abbrev pub default_limit : RemoteText → ℕ
default_limit (Udp _) = 1432
default_limit (Unix _) = 8192
default_limit (Unixgram _) = 8192

-- how an address is shown
abbrev pub remote_output : RemoteText → List ℕ
remote_output (Udp a) = codes "udp://" ++ socket_text a
remote_output (Unix path) = codes "unix://" ++ path
remote_output (Unixgram path) = codes "unixgram://" ++ path
