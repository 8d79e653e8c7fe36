-- The texts of sockets and networks, over those of addresses, which are std's: `IsIpv4Text` (four decimal numbers below 256
-- joined by points) and `IsIpv6Text` (RFC 4291, section 2.2).
use Rattle.std.specs.Prelude.{◌≡◌, ℕ, ◌-◌, ◌/◌, ◌^◌, ◌≤◌, ◌⊎◌, List, ◌++◌, codes, decimal}
use Rattle.std.specs.declared.net.ip_addr.IpAddr.{IpAddr}
use Rattle.std.specs.declared.net.ip_addr.IpAddr.TheVariants as Ip
use Rattle.std.specs.declared.net.socket_addr.SocketAddrV4.{SocketAddrV4}
use Rattle.std.specs.declared.net.socket_addr.SocketAddrV6.{SocketAddrV6}
use Rattle.std.specs.declared.net.socket_addr.SocketAddr.{SocketAddr}
use Rattle.std.specs.declared.net.socket_addr.SocketAddr.TheVariants as Socket
use Rattle.std.specs.Net.Addr.{ipv4_bits, ipv6_bits}
use Rattle.std.specs.Net.Socket.{v4_ip, v4_port, v6_ip, v6_port, v6_flowinfo, v6_scope_id}
use Rattle.std.specs.Net.Grammar.{IsIpv4Text, IsIpv6Text, IsIpText}

-- a decimal number up to a limit, without zeros or a sign in front
abbrev pub IsNumber : ℕ → List ℕ → ℕ → Type 0
IsNumber most text n = (n ≤ most) × (text ≡ decimal n)

-- IPv4, a colon and the port
abbrev pub IsSocketV4 : List ℕ → SocketAddrV4 → Type 0
IsSocketV4 text a =
    (ip port : List ℕ) × (text ≡ ip ++ (codes ":" ++ port)) × IsIpv4Text ip (v4_ip a) × IsNumber 65535 port (v4_port a)

-- a colon and the port
abbrev pub IsPortBehind : List ℕ → ℕ → Type 0
IsPortBehind text n = (port : List ℕ) × (text ≡ codes ":" ++ port) × IsNumber 65535 port n

-- what follows `[`: IPv6, `]:` and the port; no flow information and no scope
abbrev pub IsSocketV6Behind : List ℕ → SocketAddrV6 → Type 0
IsSocketV6Behind text a =
    (ip behind : List ℕ) × (text ≡ ip ++ (codes "]" ++ behind)) × IsIpv6Text ip (v6_ip a) × IsPortBehind behind (v6_port a)
    × (v6_flowinfo a ≡ 0) × (v6_scope_id a ≡ 0)

-- a socket: an address and a port
abbrev pub IsSocket : List ℕ → SocketAddr → Type 0
IsSocket text (Socket.V4 a) = IsSocketV4 text a
IsSocket text (Socket.V6 a) = (behind : List ℕ) × (text ≡ codes "[" ++ behind) × IsSocketV6Behind behind a

-- a network: its address, and how many of its first bits count
pub record NetworkText : Type 0 where
  pub address : IpAddr
  pub prefix : ℕ

-- how many bits an address of this family has
abbrev pub family_bits : IpAddr → ℕ
family_bits (Ip.V4 _) = 32
family_bits (Ip.V6 _) = 128

-- an address, and the number of its bits that count
abbrev pub IsNetworkOf : List ℕ → List ℕ → NetworkText → Type 0
IsNetworkOf ip length network = IsIpText ip network.address × IsNumber (family_bits network.address) length network.prefix

-- an address alone, whose bits all count; or an address, `/` and the number of bits that count
abbrev pub IsNetwork : List ℕ → NetworkText → Type 0
IsNetwork text network =
    (IsIpText text network.address × (network.prefix ≡ family_bits network.address))
    ⊎ ((ip length : List ℕ) × (text ≡ ip ++ (codes "/" ++ length)) × IsNetworkOf ip length network)

-- the first bits of a number of so many bits, as a number: what is left without the bits behind them
abbrev pub prefix_bits : ℕ → ℕ → ℕ → ℕ
prefix_bits width prefix bits = bits / 2 ^ (width - prefix)

-- two addresses of one family have the same first bits
abbrev pub SamePrefix : ℕ → IpAddr → IpAddr → Type 0
SamePrefix prefix (Ip.V4 a) (Ip.V4 b) = prefix_bits 32 prefix (ipv4_bits a) ≡ prefix_bits 32 prefix (ipv4_bits b)
SamePrefix prefix (Ip.V6 a) (Ip.V6 b) = prefix_bits 128 prefix (ipv6_bits a) ≡ prefix_bits 128 prefix (ipv6_bits b)
SamePrefix prefix _ _ = ⊥

-- the network holds the address
abbrev pub Holds : NetworkText → IpAddr → Type 0
Holds network address = SamePrefix network.prefix network.address address
