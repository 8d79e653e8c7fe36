-- Where a text is split at the first place of a character, its parts are those that a socket or a network has.
use Rattle.std.proofs.Common.{◌≡◌, ◌≢◌, ℕ, ◌^◌, ◌<◌, Option, Some, None, List, [], ◌∷◌, ◌++◌, subst, sym, ap, ◌∙◌, arith, inl, inr}
use Rattle.std.specs.Prelude.{MatchOption}
use Rattle.std.proofs.lemmas.List.Elements.{All-head}
use Rattle.std.proofs.lemmas.Fmt.{decimal_injective}
use Rattle.std.proofs.NetLemmas.Theorems.{IsIpv4Text_unique, IsIpv6Text_unique, IsIpText_unique}
use Rattle.std.specs.declared.net.ip_addr.IpAddr.{IpAddr}
use Rattle.std.specs.declared.net.ip_addr.IpAddr.TheVariants as Ip
use Rattle.std.specs.declared.net.socket_addr.SocketAddrV4.{SocketAddrV4}
use Rattle.std.specs.declared.net.socket_addr.SocketAddrV6.{SocketAddrV6}
use Rattle.std.specs.declared.net.socket_addr.SocketAddr.{SocketAddr}
use Rattle.std.specs.declared.net.socket_addr.SocketAddr.TheVariants as Socket
use Rattle.std.specs.Net.Socket.{v4_ip, v4_port, v6_ip, v6_port}
use Rattle.std.specs.Net.Grammar.{IsIpv4Text, IsIpv6Text, IsIpText}
use Rattle.net_addresses.specs.Readings.{Reads, Lacks}
use Rattle.net_addresses.specs.Addresses.{IsNumber, IsPortBehind, IsSocketV4, IsSocketV6Behind, IsSocket, NetworkText, IsNetwork, IsNetworkOf, family_bits}
use Rattle.std.proofs.lemmas.List.Elements.{All-cons, All-append}
use Rattle.net_addresses.proofs.Alphabets.{Lacks-decimal, Lacks-dotted, Lacks-colon_hex, Lacks-ip, slash_is_foreign, bracket_is_foreign}
use Rattle.net_addresses.proofs.Splits.{Lacks-split, same_split}

no_colon : (ip : List ℕ) (a : SocketAddrV4) → IsIpv4Text ip (v4_ip a) → Lacks 58 ip
no_colon ip a h = Lacks-dotted 58 ip _ (λ k. omega (arith, k)) (λ e. omega (arith, e)) h

pub parts_v4 : (text ip port : List ℕ) → text ≡ ip ++ (58 ∷ port) → Lacks 58 ip → (a : SocketAddrV4) → IsSocketV4 text a → IsIpv4Text ip (v4_ip a) × IsNumber 65535 port (v4_port a)
parts_v4 text ip port e lacks a (ip', port', e', is_ip, is_port) =
    let same = same_split 58 ip' ip port' port (no_colon ip' a is_ip) lacks (sym e' ∙ e) in
    (subst (λ (t : List ℕ). IsIpv4Text t (v4_ip a)) same.0 is_ip, subst (λ (t : List ℕ). IsNumber 65535 t (v4_port a)) same.1 is_port)

pub parts_v6 : (text ip behind : List ℕ) → text ≡ ip ++ (93 ∷ behind) → Lacks 93 ip → (a : SocketAddrV6) → IsSocketV6Behind text a → IsIpv6Text ip (v6_ip a) × IsPortBehind behind (v6_port a)
parts_v6 text ip behind e lacks a (ip', behind', e', is_ip, is_port, _, _) =
    let same = same_split 93 ip' ip behind' behind (Lacks-colon_hex 93 ip' _ bracket_is_foreign is_ip) lacks (sym e' ∙ e) in
    (subst (λ (t : List ℕ). IsIpv6Text t (v6_ip a)) same.0 is_ip, subst (λ (t : List ℕ). IsPortBehind t (v6_port a)) same.1 is_port)

-- an IPv4 socket doesn't begin with `[`
no_bracket : (ip port behind : List ℕ) → Lacks 91 ip → ip ++ (58 ∷ port) ≢ 91 ∷ behind
no_bracket [] port behind h e = let first : ◌≡◌ {A = ℕ} 58 91 = cc in omega (arith, first)
no_bracket (x ∷ ip) port behind h e = All-head (λ y. y ≢ 91) x ip h (cc)

v4_not_behind : (text behind : List ℕ) → text ≡ 91 ∷ behind → (a : SocketAddrV4) → ¬ (IsSocketV4 text a)
v4_not_behind text behind e a (ip, port, e', is_ip, _) =
    no_bracket ip port behind (Lacks-dotted 91 ip _ (λ k. omega (arith, k)) (λ p. omega (arith, p)) is_ip) (sym e' ∙ e)

pub no_socket_behind : (text behind : List ℕ) → text ≡ 91 ∷ behind → ((b : SocketAddrV6) → ¬ (IsSocketV6Behind behind b)) → (a : SocketAddr) → ¬ (IsSocket text a)
no_socket_behind text behind e none (Socket.V4 a) h = v4_not_behind text behind e a h
no_socket_behind text behind e none (Socket.V6 a) (behind', e', h) =
    let same : behind' ≡ behind = cc in
    none a (subst (λ (t : List ℕ). IsSocketV6Behind t a) same h)

pub no_socket : (text : List ℕ) → ((rest : List ℕ) → text ≢ 91 ∷ rest) → ((b : SocketAddrV4) → ¬ (IsSocketV4 text b)) → (a : SocketAddr) → ¬ (IsSocket text a)
no_socket text no_prefix none (Socket.V4 a) h = none a h
no_socket text no_prefix none (Socket.V6 a) (behind, e, _) = no_prefix behind e

same_number : (most : ℕ) (text : List ℕ) (m n : ℕ) → most < 2 ^ 64 → IsNumber most text m → IsNumber most text n → m ≡ n
same_number most text m n wide h k = decimal_injective m n (omega (arith, h.0)) (omega (arith, k.0)) (sym h.1 ∙ k.1)

v4_unique : (text : List ℕ) (a b : SocketAddrV4) → IsSocketV4 text a → IsSocketV4 text b → a ≡ b
v4_unique text a b (ip, port, e, is_ip, is_port) k =
    let parts = parts_v4 text ip port e (no_colon ip a is_ip) b k in
    let ips = IsIpv4Text_unique ip (v4_ip a) (v4_ip b) is_ip parts.0 in
    let ports = same_number 65535 port _ _ (omega arith) is_port parts.1 in
    λ i. record { ip = ips i; port = ports i }

v6_unique : (text : List ℕ) (a b : SocketAddrV6) → IsSocketV6Behind text a → IsSocketV6Behind text b → a ≡ b
v6_unique text a b (ip, behind, e, is_ip, (port, e₁, is_port), flow, scope) k =
    let parts = parts_v6 text ip behind e (Lacks-colon_hex 93 ip _ bracket_is_foreign is_ip) b k in
    let ips = IsIpv6Text_unique ip (v6_ip a) (v6_ip b) is_ip parts.0 in
    let (port', e₂, is_port') = parts.1 in
    let same : port' ≡ port = cc in
    let ports = same_number 65535 port _ _ (omega arith) is_port (subst (λ (t : List ℕ). IsNumber 65535 t (v6_port b)) same is_port') in
    let flows = flow ∙ sym k.5 in
    let scopes = scope ∙ sym k.6 in
    λ i. record { ip = ips i; port = ports i; flowinfo = flows i; scope_id = scopes i }

pub socket_unique : (text : List ℕ) (a b : SocketAddr) → IsSocket text a → IsSocket text b → a ≡ b
socket_unique text (Socket.V4 a) (Socket.V4 b) h k = ap Socket.V4 (v4_unique text a b h k)
socket_unique text (Socket.V4 a) (Socket.V6 b) h (behind, e, _) = absurd (v4_not_behind text behind e a h)
socket_unique text (Socket.V6 a) (Socket.V4 b) (behind, e, _) k = absurd (v4_not_behind text behind e b k)
socket_unique text (Socket.V6 a) (Socket.V6 b) (behind, e, h) (behind', e', k) =
    let same : behind' ≡ behind = cc in
    ap Socket.V6 (v6_unique behind a b h (subst (λ (t : List ℕ). IsSocketV6Behind t b) same k))

pub parts_network : (text ip length : List ℕ) → text ≡ ip ++ (47 ∷ length) → Lacks 47 ip → (n : NetworkText) → IsNetwork text n → IsNetworkOf ip length n
parts_network text ip length e lacks n (inl (is_ip, _)) = absurd (Lacks-split 47 text ip length (Lacks-ip 47 text n.address slash_is_foreign is_ip) e)
parts_network text ip length e lacks n (inr (ip', length', e', is_of)) =
    let same = same_split 47 ip' ip length' length (Lacks-ip 47 ip' n.address slash_is_foreign is_of.0) lacks (sym e' ∙ e) in
    (subst (λ (t : List ℕ). IsIpText t n.address) same.0 is_of.0, subst (λ (t : List ℕ). IsNumber (family_bits n.address) t n.prefix) same.1 is_of.1)

pub whole_network : (text : List ℕ) → Lacks 47 text → (n : NetworkText) → IsNetwork text n → IsIpText text n.address × (n.prefix ≡ family_bits n.address)
whole_network text lacks n (inl h) = h
whole_network text lacks n (inr (ip, length, e, _)) = absurd (Lacks-split 47 text ip length lacks e)

pub no_length : (ip length : List ℕ) (address : IpAddr) (most : ℕ) → IsIpText ip address → most ≡ family_bits address → ((v : ℕ) → ¬ (IsNumber most length v)) → (n : NetworkText) → ¬ (IsNetworkOf ip length n)
no_length ip length address most is_ip is_most none n (is_ip', is_length) =
    let same = IsIpText_unique ip n.address address is_ip' is_ip in
    none n.prefix (subst (λ (m : ℕ). IsNumber m length n.prefix) (ap family_bits same ∙ sym is_most) is_length)

pub network_from_parts : (text ip length : List ℕ) → text ≡ ip ++ (47 ∷ length) → Lacks 47 ip → (r : Option NetworkText) → MatchOption r ((n : NetworkText) → ¬ (IsNetworkOf ip length n)) (IsNetworkOf ip length) → Reads IsNetwork text r
network_from_parts text ip length e lacks None none = λ n h. none n (parts_network text ip length e lacks n h)
network_from_parts text ip length e lacks (Some n) h = inr (ip, length, e, h)

family_wide : (a : IpAddr) → family_bits a < 2 ^ 64
family_wide (Ip.V4 a) = omega arith
family_wide (Ip.V6 a) = omega arith

pub network_unique : (text : List ℕ) (m n : NetworkText) → IsNetwork text m → IsNetwork text n → m ≡ n
network_unique text m n (inl (is_ip, whole)) k =
    let other = whole_network text (Lacks-ip 47 text m.address slash_is_foreign is_ip) n k in
    let ips = IsIpText_unique text m.address n.address is_ip other.0 in
    let prefixes = whole ∙ (ap family_bits ips ∙ sym other.1) in
    λ i. record { address = ips i; prefix = prefixes i }
network_unique text m n (inr (ip, length, e, is_of)) k =
    let other = parts_network text ip length e (Lacks-ip 47 ip m.address slash_is_foreign is_of.0) n k in
    let ips = IsIpText_unique ip m.address n.address is_of.0 other.0 in
    let prefixes = same_number (family_bits m.address) length _ _ (family_wide m.address) is_of.1 (subst (λ (a : IpAddr). IsNumber (family_bits a) length n.prefix) (sym ips) other.1) in
    λ i. record { address = ips i; prefix = prefixes i }

-- no slash stands in a socket
Lacks-port : (port : List ℕ) (n : ℕ) → IsNumber 65535 port n → Lacks 47 port
Lacks-port port n h = subst (Lacks 47) (sym h.1) (Lacks-decimal 47 n (omega (arith, h.0)) (λ k. omega (arith, k)))

more : (x : ℕ) (xs : List ℕ) → x ≢ 47 → Lacks 47 xs → Lacks 47 (x ∷ xs)
more = All-cons (λ c. c ≢ 47)

pub Lacks-socket : (text : List ℕ) (a : SocketAddr) → IsSocket text a → Lacks 47 text
Lacks-socket text (Socket.V4 a) (ip, port, e, is_ip, is_port) =
    let front : Lacks 47 ip = Lacks-dotted 47 ip _ (λ k. omega (arith, k)) (λ p. omega (arith, p)) is_ip in
    subst (Lacks 47) (sym e) (All-append (λ c. c ≢ 47) ip (58 ∷ port) front (more 58 port (λ p. omega (arith, p)) (Lacks-port port _ is_port)))
Lacks-socket text (Socket.V6 a) (behind, e, (ip, behind', e₁, is_ip, (port, e₂, is_port), _, _)) =
    let front : Lacks 47 ip = Lacks-colon_hex 47 ip _ slash_is_foreign is_ip in
    let port_lacks : Lacks 47 behind' = subst (Lacks 47) (sym e₂) (more 58 port (λ p. omega (arith, p)) (Lacks-port port _ is_port)) in
    let all : Lacks 47 behind = subst (Lacks 47) (sym e₁) (All-append (λ c. c ≢ 47) ip (93 ∷ behind') front (more 93 behind' (λ p. omega (arith, p)) port_lacks)) in
    subst (Lacks 47) (sym e) (more 91 behind (λ p. omega (arith, p)) all)
