-- Characters that stand in no text of an address.
use Rattle.std.proofs.Common.{◌≢◌, ℕ, ◌^◌, ◌<◌, ◌≤◌, Bool, List, [], ◌∷◌, ◌++◌, decimal, subst, sym, arith, inl, inr, lit≤}
use Rattle.std.proofs.lemmas.List.Elements.{All-nil, All-cons, All-append, All-from_get_or}
use Rattle.std.proofs.lemmas.Fmt.{decimal_is_IsNumeral}
use Rattle.std.proofs.lemmas.Str.Parse.{digit_at}
use Rattle.std.specs.Char.{digit_value}
use Rattle.std.specs.Int.{IsInRange}
use Rattle.std.specs.Str.Parse.{AllDigits}
use Rattle.std.specs.Net.Grammar.{IsDotted, IsGroupsAfter, IsColonHex, IsIpText}
use Rattle.std.specs.declared.net.ip_addr.IpAddr.{IpAddr}
use Rattle.std.specs.declared.net.ip_addr.IpAddr.TheVariants as Ip
use Rattle.net_addresses.specs.Readings.{Lacks}

append : (c : ℕ) (xs ys : List ℕ) → Lacks c xs → Lacks c ys → Lacks c (xs ++ ys)
append c = All-append (λ x. x ≢ c)

one : (c x : ℕ) → x ≢ c → Lacks c (x ∷ [])
one c x h = All-cons (λ x. x ≢ c) x [] h (All-nil (λ x. x ≢ c))

-- the decimal form of a number has digits alone
pub Lacks-decimal : (c n : ℕ) → n < 2 ^ 64 → ¬ (IsInRange 48 57 c) → Lacks c (decimal n)
Lacks-decimal c n small other = All-from_get_or (λ x. x ≢ c) (decimal n) 0
    (λ i h e. other (subst (IsInRange 48 57) e (digit_at (decimal n) i (decimal_is_IsNumeral n small).0.1 h)))

pub Lacks-dotted : (c : ℕ) (text octets : List ℕ) → ¬ (IsInRange 48 57 c) → 46 ≢ c → IsDotted text octets → Lacks c text
Lacks-dotted c text octets other dot h =
    let number : (n : ℕ) → n < 256 → Lacks c (decimal n) = λ n small. Lacks-decimal c n (omega arith) other in
    let point : Lacks c (46 ∷ []) = one c 46 dot in
    let (a, b, c', d) = h.fit in
    subst (Lacks c) (sym h.spelled)
    (append c _ _ (append c _ _ (append c _ _ (append c _ _ (append c _ _ (append c _ _ (number h.a a) point) (number h.b b)) point) (number h.c c')) point) (number h.d d))

-- digits in base 16
Lacks-digits : (c : ℕ) (ds : List ℕ) → 16 ≤ digit_value c → AllDigits 16 ds → Lacks c ds
Lacks-digits c [] other h = All-nil (λ x. x ≢ c)
Lacks-digits c (d ∷ ds) other h =
    let apart : d ≢ c = λ e. let P : ℕ → Type 0 = λ x. digit_value x < 16 in let small : P c = subst P e h.0 in omega (arith, small, other) in
    All-cons (λ x. x ≢ c) d ds apart (Lacks-digits c ds other h.1)

-- c is neither a digit in base 16, nor a point, nor a colon
pub record IsForeign (c : ℕ) : Type 0 where
  pub no_digit : ¬ (IsInRange 48 57 c)
  pub no_hex_digit : 16 ≤ digit_value c
  pub no_point : 46 ≢ c
  pub no_colon : 58 ≢ c

Lacks-groups : (c : ℕ) → IsForeign c → (ipv4 : Bool) (segments lead text : List ℕ) → Lacks c lead → IsGroupsAfter ipv4 lead text segments → Lacks c text
Lacks-groups c f ipv4 [] lead text led h = subst (Lacks c) (sym h) (All-nil (λ x. x ≢ c))
Lacks-groups c f ipv4 (s ∷ segments) lead text led (inl (group, rest, e, is_group, more)) =
    subst (Lacks c) (sym e)
    (append c _ _ (append c _ _ led (Lacks-digits c group f.no_hex_digit is_group.0.0.1)) (Lacks-groups c f ipv4 segments (58 ∷ []) rest (one c 58 f.no_colon) more))
Lacks-groups c f ipv4 (s ∷ segments) lead text led (inr (last, octets, _, e, dotted, _)) =
    subst (Lacks c) (sym e) (append c _ _ led (Lacks-dotted c last octets f.no_digit f.no_point dotted))

pub Lacks-colon_hex : (c : ℕ) (text segments : List ℕ) → IsForeign c → IsColonHex text segments → Lacks c text
Lacks-colon_hex c text segments f (inl (groups, _)) = Lacks-groups c f _ segments [] text (All-nil (λ x. x ≢ c)) groups
Lacks-colon_hex c text segments f (inr h) =
    let nothing : Lacks c [] = All-nil (λ x. x ≢ c) in
    let colons : Lacks c (58 ∷ 58 ∷ []) = All-cons (λ x. x ≢ c) 58 (58 ∷ []) f.no_colon (one c 58 f.no_colon) in
    subst (Lacks c) (sym h.spelled)
    (append c _ _ (append c _ _ (Lacks-groups c f _ h.head [] h.head_text nothing h.head_groups) colons) (Lacks-groups c f _ h.tail [] h.tail_text nothing h.tail_groups))

pub Lacks-ip : (c : ℕ) (text : List ℕ) (a : IpAddr) → IsForeign c → IsIpText text a → Lacks c text
Lacks-ip c text (Ip.V4 a) f h = Lacks-dotted c text _ f.no_digit f.no_point h
Lacks-ip c text (Ip.V6 a) f h = Lacks-colon_hex c text _ f h

pub slash_is_foreign : IsForeign 47
slash_is_foreign = record { no_digit = λ h. omega (arith, h); no_hex_digit = lit≤ tt; no_point = λ e. omega (arith, e); no_colon = λ e. omega (arith, e) }

pub bracket_is_foreign : IsForeign 93
bracket_is_foreign = record { no_digit = λ h. omega (arith, h); no_hex_digit = lit≤ tt; no_point = λ e. omega (arith, e); no_colon = λ e. omega (arith, e) }
