-- Where the scheme of a text ends, and what that says of the address that the text writes.
use Rattle.std.proofs.Common.{◌≡◌, ◌≢◌, ℕ, ◌+◌, ◌<◌, ◌≤◌, Option, Some, None, List, [], ◌∷◌, ◌++◌, length, take, drop, codes, Bor, sym, ap, subst, ◌∙◌, append_assoc, refl, arith, inl, inr, length-append}
use Rattle.std.specs.Prelude.{MatchOption}
use Rattle.std.specs.Str.Pattern.{FindsText}
use Rattle.std.proofs.lemmas.Str.Pattern.{split_text_parts}
use Rattle.std.proofs.lemmas.List.Elements.{All-nil, All-cons, All-head, All-tail}
use Rattle.std.specs.declared.net.socket_addr.SocketAddr.{SocketAddr}
use Rattle.net_addresses.specs.Readings.{Lacks}
use Rattle.net_addresses.specs.Addresses.{IsSocket}
use Rattle.net_addresses.proofs.Splits.{Lacks-split}
use Rattle.net_addresses.proofs.Texts.{socket_unique, Lacks-socket}
use Rattle.dsd_addresses.specs.declared.faults.BuildError.{BuildError}
use Rattle.dsd_addresses.specs.declared.faults.BuildError.TheVariants as causes
use Rattle.dsd_addresses.specs.Remotes.{RemoteText, Udp, Unix, Unixgram, IsSchemeSplit, HasNoScheme, IsRemote, IsBehind, IsReasonBehind, IsRefusalBehind, IsRefusal, RefusedAs, no_socket_text, no_scheme_text}

abbrev mark : List ℕ
mark = 58 ∷ 47 ∷ 47 ∷ []

drop_front : (front back : List ℕ) → drop (length front) (front ++ back) ≡ back
drop_front [] back = refl
drop_front (x ∷ front) back = drop_front front back

front_fits : (text front back : List ℕ) → text ≡ front ++ back → length front ≤ length text
front_fits text front back e = rw e (simp length-append (omega arith))

at_most : (m n : ℕ) → (m < n → ⊥) → n ≤ m
at_most m n h = omega arith

-- the clause of `split_once` at `://`
pub scheme_split : (text : List ℕ) (r : Option (Bor (List ℕ) × Bor (List ℕ))) → MatchOption r (FindsText mark text None) (λ x. (i : ℕ) × (j : ℕ) × FindsText mark text (Some (i, j)) × (x.0.now ≡ take i text) × (x.1.now ≡ drop j text) × (i ≤ j) × (length x.0.now ≡ i) × (length x.1.now + j ≡ length text)) → MatchOption r (HasNoScheme text) (λ parts. IsSchemeSplit text parts.0.now parts.1.now)
scheme_split text None h = λ front back e.
    h (length front) (front_fits text front (mark ++ back) e) back (rw e (drop_front front (mark ++ back)))
scheme_split text (Some x) h = record {
  spelled = split_text_parts mark text (Some x) h;
  first = λ front back e.
      at_most (length front) (length x.0.now) (λ less.
      h.2.0 (length front) (omega (arith, less, h.6)) back (rw e (drop_front front (mark ++ back))));
}

bounded_split : (xs us ys vs : List ℕ) → Lacks 58 us → length xs ≤ length us → xs ++ (58 ∷ ys) ≡ us ++ (58 ∷ vs) → (xs ≡ us) × (ys ≡ vs)
bounded_split [] [] ys vs h fits e = (refl, cc)
bounded_split [] (u ∷ us) ys vs h fits e = absurd (All-head (λ x. x ≢ 58) u us h (cc))
bounded_split (x ∷ xs) [] ys vs h fits e = absurd (omega (arith, fits))
bounded_split (x ∷ xs) (u ∷ us) ys vs h fits e =
    let rest = bounded_split xs us ys vs (All-tail (λ y. y ≢ 58) u us h) (omega (arith, fits)) (cc) in
    (let first : x ≡ u = cc in let others : xs ≡ us = rest.0 in cc, rest.1)

-- a known scheme is the text's scheme
same_scheme : (text scheme rest known path : List ℕ) → Lacks 58 known → IsSchemeSplit text scheme rest → text ≡ known ++ (mark ++ path) → (scheme ≡ known) × (rest ≡ path)
same_scheme text scheme rest known path lacks h e =
    let same = bounded_split scheme known (47 ∷ 47 ∷ rest) (47 ∷ 47 ∷ path) lacks (h.first known path e) (sym h.spelled ∙ e) in
    (same.0, let both : ◌≡◌ {A = List ℕ} (47 ∷ 47 ∷ rest) (47 ∷ 47 ∷ path) = same.1 in cc)

another : (x : ℕ) (xs : List ℕ) → x ≢ 58 → Lacks 58 xs → Lacks 58 (x ∷ xs)
another = All-cons (λ c. c ≢ 58)

udp_lacks : Lacks 58 (codes "udp")
udp_lacks = another 117 (100 ∷ 112 ∷ []) (λ e. omega (arith, e)) (another 100 (112 ∷ []) (λ e. omega (arith, e)) (another 112 [] (λ e. omega (arith, e)) (All-nil (λ c. c ≢ 58))))

unix_lacks : Lacks 58 (codes "unix")
unix_lacks = another 117 (110 ∷ 105 ∷ 120 ∷ []) (λ e. omega (arith, e)) (another 110 (105 ∷ 120 ∷ []) (λ e. omega (arith, e)) (another 105 (120 ∷ []) (λ e. omega (arith, e)) (another 120 [] (λ e. omega (arith, e)) (All-nil (λ c. c ≢ 58)))))

unixgram_lacks : Lacks 58 (codes "unixgram")
unixgram_lacks = another 117 (110 ∷ 105 ∷ 120 ∷ 103 ∷ 114 ∷ 97 ∷ 109 ∷ []) (λ e. omega (arith, e)) (another 110 (105 ∷ 120 ∷ 103 ∷ 114 ∷ 97 ∷ 109 ∷ []) (λ e. omega (arith, e)) (another 105 (120 ∷ 103 ∷ 114 ∷ 97 ∷ 109 ∷ []) (λ e. omega (arith, e)) (another 120 (103 ∷ 114 ∷ 97 ∷ 109 ∷ []) (λ e. omega (arith, e)) (another 103 (114 ∷ 97 ∷ 109 ∷ []) (λ e. omega (arith, e)) (another 114 (97 ∷ 109 ∷ []) (λ e. omega (arith, e)) (another 97 (109 ∷ []) (λ e. omega (arith, e)) (another 109 [] (λ e. omega (arith, e)) (All-nil (λ c. c ≢ 58)))))))))

-- a text with a scheme is no socket
no_socket_with : (text front back : List ℕ) → text ≡ front ++ (mark ++ back) → (a : SocketAddr) → ¬ (IsSocket text a)
no_socket_with text front back e a h =
    Lacks-split 47 text (front ++ (58 ∷ [])) (47 ∷ back) (Lacks-socket text a h) (e ∙ sym (append_assoc front (58 ∷ []) (47 ∷ 47 ∷ back)))

pub remote_behind : (text scheme rest : List ℕ) → IsSchemeSplit text scheme rest → (remote : RemoteText) → IsRemote text remote → IsBehind scheme rest remote
remote_behind text scheme rest split (Udp a) (inl socket) = absurd (no_socket_with text scheme rest split.spelled a socket)
remote_behind text scheme rest split (Udp a) (inr (socket, e, h)) =
    let same = same_scheme text scheme rest (codes "udp") socket udp_lacks split e in
    (same.0, subst (λ (t : List ℕ). IsSocket t a) (sym same.1) h)
remote_behind text scheme rest split (Unix path) e =
    let same = same_scheme text scheme rest (codes "unix") path unix_lacks split e in (same.0, sym same.1)
remote_behind text scheme rest split (Unixgram path) e =
    let same = same_scheme text scheme rest (codes "unixgram") path unixgram_lacks split e in (same.0, sym same.1)

not_behind : (scheme rest reason : List ℕ) → IsReasonBehind scheme rest reason → (remote : RemoteText) → ¬ (IsBehind scheme rest remote)
not_behind scheme rest reason (inl (udp, none, _)) (Udp a) h = none a h.1
not_behind scheme rest reason (inl (udp, none, _)) (Unix path) h = let e : ◌≡◌ {A = ℕ} 100 110 = cc in omega (arith, e)
not_behind scheme rest reason (inl (udp, none, _)) (Unixgram path) h = let e : ◌≡◌ {A = ℕ} 100 110 = cc in omega (arith, e)
not_behind scheme rest reason (inr (no_udp, no_unix, no_unixgram, _)) (Udp a) h = no_udp h.0
not_behind scheme rest reason (inr (no_udp, no_unix, no_unixgram, _)) (Unix path) h = no_unix h.0
not_behind scheme rest reason (inr (no_udp, no_unix, no_unixgram, _)) (Unixgram path) h = no_unixgram h.0

pub refusal_at_split : (text scheme rest : List ℕ) → IsSchemeSplit text scheme rest → (fault : BuildError) → IsRefusalBehind scheme rest fault → IsRefusal text fault
refusal_at_split text scheme rest split (causes.InvalidRemoteAddress reason) h =
    (λ remote is. not_behind scheme rest _ h remote (remote_behind text scheme rest split remote is), inr (scheme, rest, split, h))
refusal_at_split text scheme rest split causes.Memory h = λ a is. h a (remote_behind text scheme rest split (Udp a) is)
refusal_at_split text scheme rest split (causes.InvalidConfiguration _) h = h
refusal_at_split text scheme rest split causes.FailedToInstall h = h

no_remote : (text : List ℕ) → HasNoScheme text → ((a : SocketAddr) → ¬ (IsSocket text a)) → (remote : RemoteText) → ¬ (IsRemote text remote)
no_remote text plain none (Udp a) (inl h) = none a h
no_remote text plain none (Udp a) (inr (socket, e, _)) = plain (codes "udp") socket e
no_remote text plain none (Unix path) e = plain (codes "unix") path e
no_remote text plain none (Unixgram path) e = plain (codes "unixgram") path e

pub refusal_without : (text : List ℕ) → HasNoScheme text → (fault : BuildError) → ((a : SocketAddr) → ¬ (IsSocket text a)) × RefusedAs (no_socket_text text) fault → IsRefusal text fault
refusal_without text plain (causes.InvalidRemoteAddress reason) h = (no_remote text plain h.0, inl (plain, h.0, h.1))
refusal_without text plain causes.Memory h = λ a is. no_remote text plain h.0 (Udp a) is
refusal_without text plain (causes.InvalidConfiguration _) h = h.1
refusal_without text plain causes.FailedToInstall h = h.1

pub refusal_behind : (scheme rest : List ℕ) (fault : BuildError) → scheme ≢ codes "udp" → scheme ≢ codes "unix" → scheme ≢ codes "unixgram" → RefusedAs (no_scheme_text scheme) fault → IsRefusalBehind scheme rest fault
refusal_behind scheme rest (causes.InvalidRemoteAddress reason) udp unix unixgram h = inr (udp, unix, unixgram, h)
refusal_behind scheme rest causes.Memory udp unix unixgram h = λ a is. udp is.0
refusal_behind scheme rest (causes.InvalidConfiguration _) udp unix unixgram h = h
refusal_behind scheme rest causes.FailedToInstall udp unix unixgram h = h

pub remote_unique : (text : List ℕ) (a b : RemoteText) → IsRemote text a → IsRemote text b → a ≡ b
remote_unique text (Udp a) (Udp b) (inl h) (inl k) = ap Udp (socket_unique text a b h k)
remote_unique text (Udp a) (Udp b) (inl h) (inr (socket, e, _)) = absurd (no_socket_with text (codes "udp") socket e a h)
remote_unique text (Udp a) (Udp b) (inr (socket, e, _)) (inl k) = absurd (no_socket_with text (codes "udp") socket e b k)
remote_unique text (Udp a) (Udp b) (inr (socket, e, h)) (inr (socket', e', k)) =
    let same : socket' ≡ socket = cc in
    ap Udp (socket_unique socket a b h (subst (λ (t : List ℕ). IsSocket t b) same k))
remote_unique text (Udp a) (Unix path) (inl h) e = absurd (no_socket_with text (codes "unix") path e a h)
remote_unique text (Udp a) (Unix path) (inr (socket, e, _)) e' = let apart : ◌≡◌ {A = ℕ} 100 110 = cc in absurd (omega (arith, apart))
remote_unique text (Udp a) (Unixgram path) (inl h) e = absurd (no_socket_with text (codes "unixgram") path e a h)
remote_unique text (Udp a) (Unixgram path) (inr (socket, e, _)) e' = let apart : ◌≡◌ {A = ℕ} 100 110 = cc in absurd (omega (arith, apart))
remote_unique text (Unix path) (Udp b) e (inl k) = absurd (no_socket_with text (codes "unix") path e b k)
remote_unique text (Unix path) (Udp b) e (inr (socket, e', _)) = let apart : ◌≡◌ {A = ℕ} 100 110 = cc in absurd (omega (arith, apart))
remote_unique text (Unix path) (Unix path') e e' = ap Unix (let same : path ≡ path' = cc in same)
remote_unique text (Unix path) (Unixgram path') e e' = let apart : ◌≡◌ {A = ℕ} 58 103 = cc in absurd (omega (arith, apart))
remote_unique text (Unixgram path) (Udp b) e (inl k) = absurd (no_socket_with text (codes "unixgram") path e b k)
remote_unique text (Unixgram path) (Udp b) e (inr (socket, e', _)) = let apart : ◌≡◌ {A = ℕ} 100 110 = cc in absurd (omega (arith, apart))
remote_unique text (Unixgram path) (Unix path') e e' = let apart : ◌≡◌ {A = ℕ} 58 103 = cc in absurd (omega (arith, apart))
remote_unique text (Unixgram path) (Unixgram path') e e' = ap Unixgram (let same : path ≡ path' = cc in same)
