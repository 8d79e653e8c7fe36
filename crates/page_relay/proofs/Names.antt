-- Names at the front of some bytes: what is counted there is a name, and each name there is what is counted.
use Rattle.std.proofs.Common.{◌≡◌, ℕ, zero, suc, ◌+◌, ◌<◌, ◌≤◌, Bool, true, false, cond, not, List, [], ◌∷◌, ◌++◌, length, get_or, take, drop, refl, sym, ap, subst, ◌∙◌, arith, inl, inr}
use Rattle.std.specs.Prelude.{◌||◌, IsUtf8, IsAscii, bytes_eq, position, unwrap_or}
use Rattle.std.specs.List.{list_all, position_or_len}
use Rattle.std.proofs.Math.Numerals.{one-add}
use Rattle.std.proofs.lemmas.Bool.{and_from, and_parts, or_left, false≢true, cases_lt, lt-ltb, le-ltb}
use Rattle.std.proofs.lemmas.Bool.Decides.{nat_tests}
use Rattle.std.proofs.lemmas.List.{take-append-drop, take_at}
use Rattle.std.proofs.lemmas.List.Sums.{prefix_len-le-length}
use Rattle.std.proofs.lemmas.Slice.Eq.{bytes_eq-Decides}
use Rattle.std.proofs.lemmas.Str.{IsUtf8-from_ascii}
use Rattle.metrics_core.specs.Characters.{is_digit}
use Rattle.prom_format.proofs.ReadOnce.{first_same, others_same}
use Rattle.page_relay.specs.Reading.{begins_name, stands_in_name, IsNamed, Ends, NameEnds}

-- ---- characters of one kind

pub kind_told : (kind : ℕ → Bool) (x y r s : List ℕ) → list_all kind x ≡ true → list_all kind y ≡ true → Ends kind r → Ends kind s → x ++ r ≡ y ++ s → (x ≡ y) × (r ≡ s)
kind_told kind [] [] r s hx hy hr hs e = (refl, e)
kind_told kind [] (b ∷ y) r s hx hy hr hs e =
    let ends : kind b ≡ false = subst (Ends kind) e hr in
    absurd (false≢true (sym ends ∙ (and_parts (kind b) (list_all kind y) hy).0))
kind_told kind (a ∷ x) [] r s hx hy hr hs e =
    let ends : kind a ≡ false = subst (Ends kind) (sym e) hs in
    absurd (false≢true (sym ends ∙ (and_parts (kind a) (list_all kind x) hx).0))
kind_told kind (a ∷ x) (b ∷ y) r s hx hy hr hs e =
    let behind = kind_told kind x y r s (and_parts (kind a) (list_all kind x) hx).1 (and_parts (kind b) (list_all kind y) hy).1 hr hs (others_same a b (x ++ r) (y ++ s) e) in
    ((λ j. first_same a b (x ++ r) (y ++ s) e j ∷ behind.0 j), behind.1)

-- how many characters of a kind stand at the front
abbrev pub count_of : (ℕ → Bool) → List ℕ → ℕ
count_of kind bytes = position_or_len (λ b. not (kind b)) bytes

front_step : (kind : ℕ → Bool) (t : Bool) (b n : ℕ) (bytes : List ℕ) → kind b ≡ t → list_all kind (take n bytes) ≡ true → list_all kind (take (cond (not (not t)) (1 + n) 0) (b ∷ bytes)) ≡ true
front_step kind true b n bytes e h = rw one-add (and_from (kind b) (list_all kind (take n bytes)) e h)
front_step kind false b n bytes e h = refl

pub front_all : (kind : ℕ → Bool) (bytes : List ℕ) → list_all kind (take (count_of kind bytes) bytes) ≡ true
front_all kind [] = refl
front_all kind (b ∷ bytes) = front_step kind (kind b) b (count_of kind bytes) bytes refl (front_all kind bytes)

ends_step : (kind : ℕ → Bool) (t : Bool) (b n : ℕ) (bytes : List ℕ) → kind b ≡ t → Ends kind (drop n bytes) → Ends kind (drop (cond (not (not t)) (1 + n) 0) (b ∷ bytes))
ends_step kind true b n bytes e h = rw one-add h
ends_step kind false b n bytes e h = e

pub front_ends : (kind : ℕ → Bool) (bytes : List ℕ) → Ends kind (drop (count_of kind bytes) bytes)
front_ends kind [] = tt
front_ends kind (b ∷ bytes) = ends_step kind (kind b) b (count_of kind bytes) bytes refl (front_ends kind bytes)

-- ---- names

pub name_later : (colons : Bool) (name : List ℕ) → IsNamed colons name → list_all (stands_in_name colons) name ≡ true
name_later colons [] named = absurd (false≢true named)
name_later colons (c ∷ cs) named =
    let parts = and_parts (begins_name colons c) (list_all (λ d. begins_name colons d || is_digit d) cs) named in
    and_from _ _ (or_left (begins_name colons c) (is_digit c) parts.0) parts.1

pub name_begins : (colons : Bool) (c : ℕ) (cs : List ℕ) → IsNamed colons (c ∷ cs) → begins_name colons c ≡ true
name_begins colons c cs named = (and_parts (begins_name colons c) (list_all (λ d. begins_name colons d || is_digit d) cs) named).0

pub names_told : (colons : Bool) (x y r s : List ℕ) → IsNamed colons x → IsNamed colons y → NameEnds colons r → NameEnds colons s → x ++ r ≡ y ++ s → (x ≡ y) × (r ≡ s)
names_told colons x y r s hx hy hr hs e = kind_told (stands_in_name colons) x y r s (name_later colons x hx) (name_later colons y hy) hr hs e

-- a name that stands in front is what is counted there
pub name_counted : (colons : Bool) (bytes name rest : List ℕ) → IsNamed colons name → NameEnds colons rest → bytes ≡ name ++ rest → take (count_of (stands_in_name colons) bytes) bytes ≡ name
name_counted colons bytes name rest named ends e =
    let kind = stands_in_name colons in
    (kind_told kind (take (count_of kind bytes) bytes) name (drop (count_of kind bytes) bytes) rest (front_all kind bytes) (name_later colons name named) (front_ends kind bytes) ends (take-append-drop (count_of kind bytes) bytes ∙ e)).0

-- characters of a name are a name where the first may begin one
pub counted_name : (colons : Bool) (name : List ℕ) → 0 < length name → begins_name colons (get_or name 0 0) ≡ true → list_all (stands_in_name colons) name ≡ true → IsNamed colons name
counted_name colons [] some begins all = absurd (omega (arith, some))
counted_name colons (c ∷ cs) some begins all = and_from _ _ begins (and_parts (stands_in_name colons c) (list_all (stands_in_name colons) cs) all).1

-- ---- names are ASCII

pub kind_ascii : (kind : ℕ → Bool) → ((c : ℕ) → kind c ≡ true → c < 128) → (text : List ℕ) → list_all kind text ≡ true → IsAscii text
kind_ascii kind low [] all i = omega arith
kind_ascii kind low (c ∷ text) all zero = low c (and_parts (kind c) (list_all kind text) all).0
kind_ascii kind low (c ∷ text) all (suc i) = kind_ascii kind low text (and_parts (kind c) (list_all kind text) all).1 i

name_low : (colons : Bool) (c : ℕ) → stands_in_name colons c ≡ true → c < 128
name_low true c h = grind (arith, nat_tests)
name_low false c h = grind (arith, nat_tests)

pub name_ascii : (colons : Bool) (name : List ℕ) → IsNamed colons name → IsAscii name
name_ascii colons name named = kind_ascii (stands_in_name colons) (name_low colons) name (name_later colons name named)

pub name_utf8 : (colons : Bool) (name : List ℕ) → IsNamed colons name → IsUtf8 name
name_utf8 colons name named = IsUtf8-from_ascii name (name_ascii colons name named)

-- ---- literals

pub literal_none : (literal bytes rest : List ℕ) → bytes_eq (take (length literal) bytes) literal ≡ false → bytes ≡ literal ++ rest → ⊥
literal_none literal bytes rest differs e =
    false≢true (sym differs ∙ (bytes_eq-Decides (take (length literal) bytes) literal).1 (ap (take (length literal)) e ∙ take_at literal rest (length literal) refl))

pub literal_some : (literal bytes : List ℕ) → bytes_eq (take (length literal) bytes) literal ≡ true → bytes ≡ literal ++ drop (length literal) bytes
literal_some literal bytes same =
    sym (take-append-drop (length literal) bytes) ∙ ap (λ l. l ++ drop (length literal) bytes) ((bytes_eq-Decides (take (length literal) bytes) literal).0 same)

-- the place of the first element that passes, or the length
pub position_or_length : (p : ℕ → Bool) (xs : List ℕ) → unwrap_or (position p xs) (length xs) ≡ position_or_len p xs
position_or_length p xs =
    let within : position_or_len p xs ≤ length xs = prefix_len-le-length (λ x. not (p x)) xs in
    elim (cases_lt (position_or_len p xs) (length xs)) [
      | inl lt ↦ rw (lt-ltb (position_or_len p xs) (length xs) lt) refl
      | inr le ↦ rw (le-ltb (position_or_len p xs) (length xs) le) (omega arith)
    ]

-- bytes that differ by test aren't the same, and those that don't are
pub differ : (x y : List ℕ) → not (bytes_eq x y) ≡ true → x ≡ y → ⊥
differ x y test e = false≢true (sym (ap not ((bytes_eq-Decides x y).1 e)) ∙ test)

pub agree : (x y : List ℕ) → not (bytes_eq x y) ≡ false → x ≡ y
agree x y test = by (bytes_eq x y) refl
  where
    by : (t : Bool) → bytes_eq x y ≡ t → x ≡ y
    by true is = (bytes_eq-Decides x y).0 is
    by false is = absurd (false≢true (sym test ∙ ap not is))
