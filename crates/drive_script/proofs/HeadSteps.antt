-- The table of heads, with one more register line.
use Rattle.std.proofs.Common.{◌≡◌, ℕ, zero, suc, ◌+◌, ◌<◌, Bool, true, false, cond, List, [], ◌∷◌, ◌++◌, length, map, get_or, take, drop, Option, Some, None, refl, sym, ap, subst, ◌∙◌, arith}
use Rattle.std.specs.Prelude.{All, MatchBool, fold, flat_map, filter_map, codes, bytes_eq, slice_get, string_bytes}
use Rattle.std.specs.Map.{lookup}
use Rattle.std.specs.String.{string_eq}
use Rattle.std.specs.declared.string.String.{String}
use Rattle.std.specs.declared.alloc.Global.{Global}
use Rattle.std.proofs.lemmas.Bool.{false≢true}
use Rattle.std.proofs.lemmas.List.{append-nil, append_assoc, append_cancel_left, map-append, map_push, take_at, take_more, take-append-drop}
use Rattle.std.proofs.lemmas.List.Sums.{fold_push}
use Rattle.std.proofs.lemmas.List.Elements.{All-nil, All-cons, All-head, All-tail, All-push, All-take, All-get_or, All-from_get_or, filter_map-append}
use Rattle.std.proofs.lemmas.List.Concat.{flat_map-append}
use Rattle.std.proofs.lemmas.Option.{same_Some}
use Rattle.std.proofs.lemmas.Slice.Eq.{bytes_eq-Decides}
use Rattle.metrics_core.specs.declared.kinds.MetricKind.{MetricKind}
use Rattle.metrics_core.specs.declared.kinds.MetricKind.TheVariants as kinds
use Rattle.metrics_core.specs.Kinds.{kind_text}
use Rattle.metrics_core.specs.Keys.{LabelText, KeyText, SameKey, key_eq, label_set, put_label, occurrences}
use Rattle.metrics_core.specs.KeyLaws.{key_eq_is}
use Rattle.prom_format.specs.Names.{IsLabelName, sanitized_metric_name}
use Rattle.prom_format.specs.Lines.{head_text, shown_label}
use Rattle.prom_format.proofs.NameLaws.{sanitized_metric_name-is_name, sanitized_label_name-is_name}
use Rattle.prom_format.proofs.PagesReadOnce.{row_head_told}
use Rattle.prom_format.specs.PlainKeys.{PrintsPlainly}
use Rattle.prom_format.proofs.PlainKeys.{plain_keys_told}
use Rattle.drive_script.specs.Script.{SetupLine, Register, Describe}
use Rattle.drive_script.specs.Valid.{Registration, registration_of, registered_in, Head, head_of, PrintApart}
use Rattle.drive_script.specs.Heads.{text_of_head, keys_by_head, key_at, AreHeadsOf, AllPrintPlainly, AreNoted}
use Rattle.drive_script.specs.Texts.{setup_of, round_of, registrations_in, registrations_of}
use Rattle.drive_script.specs.declared.heads.HeadTable.{HeadTable}
use Rattle.drive_script.specs.declared.script.Setup.{Setup}
use Rattle.drive_script.specs.declared.script.Round.{Round}

some_is_none : (key : KeyText) → ◌≡◌ {A = Option KeyText} (Some key) None → ⊥
some_is_none key e = cc

-- ---- equal keys

pub same_key_sym : (a b : KeyText) → SameKey a b → SameKey b a
same_key_sym a b h = (sym h.0, λ l. sym (h.1 l))

pub same_key_trans : (a b c : KeyText) → SameKey a b → SameKey b c → SameKey a c
same_key_trans a b c h k = (h.0 ∙ k.0, λ l. h.1 l ∙ k.1 l)

-- ---- the text of a head tells the kind and the head

same_kind : (a b : MetricKind) (x y : List ℕ) → kind_text a ++ codes " " ++ x ≡ kind_text b ++ codes " " ++ y → (a ≡ b) × (x ≡ y)
same_kind kinds.Counter kinds.Counter x y e = (refl, append_cancel_left (codes "counter ") x y e)
same_kind kinds.Gauge kinds.Gauge x y e = (refl, append_cancel_left (codes "gauge ") x y e)
same_kind kinds.Histogram kinds.Histogram x y e = (refl, append_cancel_left (codes "histogram ") x y e)
same_kind kinds.Counter kinds.Gauge x y e = let first : 99 ≡ 103 = ap (λ l. get_or l 0 0) e in absurd (omega (arith, first))
same_kind kinds.Counter kinds.Histogram x y e = let first : 99 ≡ 104 = ap (λ l. get_or l 0 0) e in absurd (omega (arith, first))
same_kind kinds.Gauge kinds.Counter x y e = let first : 103 ≡ 99 = ap (λ l. get_or l 0 0) e in absurd (omega (arith, first))
same_kind kinds.Gauge kinds.Histogram x y e = let first : 103 ≡ 104 = ap (λ l. get_or l 0 0) e in absurd (omega (arith, first))
same_kind kinds.Histogram kinds.Counter x y e = let first : 104 ≡ 99 = ap (λ l. get_or l 0 0) e in absurd (omega (arith, first))
same_kind kinds.Histogram kinds.Gauge x y e = let first : 104 ≡ 103 = ap (λ l. get_or l 0 0) e in absurd (omega (arith, first))

shown_names : (labels : List LabelText) → All (λ (l : LabelText). IsLabelName l.key) (map shown_label labels)
shown_names labels = All-from_get_or (λ (l : LabelText). IsLabelName l.key) (map shown_label labels) (shown_label (record { key = []; value = [] })) (λ i within. at labels i within)
  where
    at : (labels : List LabelText) (i : ℕ) → i < length (map shown_label labels) → IsLabelName (get_or (map shown_label labels) i (shown_label (record { key = []; value = [] }))).key
    at [] i within = absurd (omega (arith, within))
    at (l ∷ labels) zero within = sanitized_label_name-is_name l.key
    at (l ∷ labels) (suc i) within = at labels i (omega (arith, within))

pub heads_told : (globals : List LabelText) (r s : Registration) → text_of_head globals r ≡ text_of_head globals s → (r.kind ≡ s.kind) × (head_of globals r.key ≡ head_of globals s.key)
heads_told globals r s e =
    let kind = same_kind r.kind s.kind (head_text (head_of globals r.key).name (head_of globals r.key).labels) (head_text (head_of globals s.key).name (head_of globals s.key).labels) e in
    let told = row_head_told (sanitized_metric_name r.key.name) (sanitized_metric_name s.key.name) (head_of globals r.key).labels (head_of globals s.key).labels
    (sanitized_metric_name-is_name r.key.name) (sanitized_metric_name-is_name s.key.name) (shown_names (label_set globals r.key.labels)) (shown_names (label_set globals s.key.labels)) kind.1 in
    (kind.0, λ j. record { name = told.0 j; labels = told.1 j })

pub heads_spelled : (globals : List LabelText) (r s : Registration) → r.kind ≡ s.kind → head_of globals r.key ≡ head_of globals s.key → text_of_head globals r ≡ text_of_head globals s
heads_spelled globals r s kind head = (λ j. kind_text (kind j) ++ codes " " ++ head_text (head j).name (head j).labels)

-- ---- members of a list

element_of : {A : Type 0} (P : A → Type 0) (xs : List A) (i : ℕ) (x : A) → All P xs → slice_get xs i ≡ Some x → P x
element_of P [] i x all found = absurd cc
element_of P (y ∷ xs) zero x all found = subst P (same_Some y x found) (All-get_or P (y ∷ xs) 0 x (omega arith) all)
element_of P (y ∷ xs) (suc i) x all found = element_of P xs i x (All-tail P y xs all) found

pushed_first : {A : Type 0} (xs : List A) (y : A) (i : ℕ) (x : A) → slice_get xs i ≡ Some x → slice_get (xs ++ y ∷ []) i ≡ Some x
pushed_first [] y i x found = absurd cc
pushed_first (z ∷ xs) y zero x found = found
pushed_first (z ∷ xs) y (suc i) x found = pushed_first xs y i x found

pushed_last : {A : Type 0} (xs : List A) (y : A) → slice_get (xs ++ y ∷ []) (length xs) ≡ Some y
pushed_last [] y = refl
pushed_last (z ∷ xs) y = pushed_last xs y

-- ---- the table with one more entry

key_at-push : (table : List (List ℕ × KeyText)) (text : List ℕ) (key : KeyText) (other : List ℕ) → key_at table text ≡ None → key_at (table ++ (text, key) ∷ []) other ≡ (cond (bytes_eq other text) (Some key) (key_at table other))
key_at-push table text key other absent = by table absent
  where
    by : (table : List (List ℕ × KeyText)) → key_at table text ≡ None → key_at (table ++ (text, key) ∷ []) other ≡ cond (bytes_eq other text) (Some key) (key_at table other)
    by [] absent = refl
    by (e ∷ table) absent = first (bytes_eq other e.0) (bytes_eq other text) refl refl (bytes_eq text e.0) refl absent (by table)
      where
        first : (p q : Bool) → bytes_eq other e.0 ≡ p → bytes_eq other text ≡ q → (r : Bool) → bytes_eq text e.0 ≡ r → cond r (Some e.1) (key_at table text) ≡ None
            → (key_at table text ≡ None → key_at (table ++ (text, key) ∷ []) other ≡ cond (bytes_eq other text) (Some key) (key_at table other))
            → cond p (Some e.1) (key_at (table ++ (text, key) ∷ []) other) ≡ cond q (Some key) (cond p (Some e.1) (key_at table other))
        first p q is_p is_q true is_r none rest = absurd cc
        first true true is_p is_q false is_r none rest =
            let same : text ≡ e.0 = sym ((bytes_eq-Decides other text).0 is_q) ∙ (bytes_eq-Decides other e.0).0 is_p in
            let again : bytes_eq text e.0 ≡ true = (bytes_eq-Decides text e.0).1 same in
            absurd cc
        first true false is_p is_q false is_r none rest = refl
        first false true is_p is_q false is_r none rest = rest none ∙ ap (λ q. cond q (Some key) (key_at table other)) is_q
        first false false is_p is_q false is_r none rest = rest none ∙ ap (λ q. cond q (Some key) (key_at table other)) is_q

-- ---- one more register line

abbrev HasKey : List LabelText → List (List ℕ × KeyText) → Registration → Type 0
HasKey globals table r = (key : KeyText) × (key_at table (text_of_head globals r) ≡ Some key) × SameKey key r.key

abbrev ComesFrom : List LabelText → List (List ℕ × KeyText) → List Registration → List ℕ → KeyText → Type 0
ComesFrom globals table rs text key = (i : ℕ) × (r : Registration) × (slice_get rs i ≡ Some r) × (text_of_head globals r ≡ text) × (r.key ≡ key)

same_key_refl : (a : KeyText) → SameKey a a
same_key_refl a = (refl, λ l. refl)

map_all : {A : Type 0} (P Q : A → Type 0) (xs : List A) → ((x : A) → P x → Q x) → All P xs → All Q xs
map_all P Q [] f h = All-nil Q
map_all P Q (x ∷ xs) f h = All-cons Q x xs (f x (All-head P x xs h)) (map_all P Q xs f (All-tail P x xs h))

module _ (globals : List LabelText) (table : List (List ℕ × KeyText)) (rs : List Registration) (r : Registration) (h : AreHeadsOf globals table rs) where
  abbrev text : List ℕ
  text = text_of_head globals r

  abbrev grown : List (List ℕ × KeyText)
  grown = table ++ (text, r.key) ∷ []

  -- what comes from an earlier line
  from_earlier : (t : List ℕ) (key : KeyText) → ComesFrom globals table rs t key → ComesFrom globals table (rs ++ r ∷ []) t key
  from_earlier t key (i, s, at, is, same) = (i, s, pushed_first rs r i s at, is, same)

  module _ (absent : key_at table text ≡ None) where
    has_key_still : (s : Registration) → HasKey globals table s → HasKey globals grown s
    has_key_still s (key, found, same) = (key, key_at-push table text r.key (text_of_head globals s) absent ∙ by (bytes_eq (text_of_head globals s) text) refl, same)
      where
        by : (q : Bool) → bytes_eq (text_of_head globals s) text ≡ q → cond q (Some r.key) (key_at table (text_of_head globals s)) ≡ Some key
        by true is =
            let alike : text_of_head globals s ≡ text = (bytes_eq-Decides (text_of_head globals s) text).0 is in
            let none : key_at table (text_of_head globals s) ≡ None = ap (key_at table) alike ∙ absent in
            absurd (some_is_none key (sym found ∙ none))
        by false is = found

    new_comes_from : (t : List ℕ) (key : KeyText) → key_at grown t ≡ Some key → ComesFrom globals grown (rs ++ r ∷ []) t key
    new_comes_from t key found = by (bytes_eq t text) refl (sym (key_at-push table text r.key t absent) ∙ found)
      where
        by : (q : Bool) → bytes_eq t text ≡ q → cond q (Some r.key) (key_at table t) ≡ Some key → ComesFrom globals grown (rs ++ r ∷ []) t key
        by true is e = (length rs, r, pushed_last rs r, sym ((bytes_eq-Decides t text).0 is), same_Some r.key key e)
        by false is e = from_earlier t key (h.one t key e)

    new_apart : (s : Registration) → HasKey globals table s → PrintApart globals s r
    new_apart s (key, found, same) = λ kind head.
        let none : key_at table (text_of_head globals s) ≡ None = ap (key_at table) (heads_spelled globals s r kind head) ∙ absent in
        absurd (some_is_none key (sym found ∙ none))

    pub head_added : AreHeadsOf globals grown (rs ++ r ∷ []) × All (λ s. PrintApart globals s r) rs
    head_added = (
      record {
        each = All-push (HasKey globals grown) rs r (map_all (HasKey globals table) (HasKey globals grown) rs has_key_still h.each)
            (r.key, key_at-push table text r.key text absent ∙ ap (λ q. cond q (Some r.key) (key_at table text)) ((bytes_eq-Decides text text).1 refl), same_key_refl r.key);
        one = new_comes_from;
      },
      map_all (HasKey globals table) (λ s. PrintApart globals s r) rs new_apart h.each,
    )

  module _ (known : KeyText) (found : key_at table text ≡ Some known) where
    known_apart : SameKey known r.key → (s : Registration) → HasKey globals table s → PrintApart globals s r
    known_apart same s (key, found_too, same_too) = λ kind head.
        let one : key ≡ known = same_Some key known (sym found_too ∙ ap (key_at table) (heads_spelled globals s r kind head) ∙ found) in
        same_key_trans s.key known r.key (same_key_sym known s.key (subst (λ k. SameKey k s.key) one same_too)) same

    pub head_known : SameKey known r.key → AreHeadsOf globals table (rs ++ r ∷ []) × All (λ s. PrintApart globals s r) rs
    head_known same = (
      record { each = All-push (HasKey globals table) rs r h.each (known, found, same); one = λ t key at. from_earlier t key (h.one t key at) },
      map_all (HasKey globals table) (λ s. PrintApart globals s r) rs (known_apart same) h.each,
    )

    pub head_of_another : ¬ SameKey known r.key → ¬ All (λ s. PrintApart globals s r) rs
    head_of_another other apart =
        let (i, s, at, alike, is) = h.one text known found in
        let told = heads_told globals s r alike in
        other (subst (λ k. SameKey k r.key) is (element_of (λ s. PrintApart globals s r) rs i s apart at told.0 told.1))

    pub head_tested : (same : Bool) → same ≡ key_eq known r.key → MatchBool same (AreHeadsOf globals table (rs ++ r ∷ []) × All (λ s. PrintApart globals s r) rs) (¬ All (λ s. PrintApart globals s r) rs)
    head_tested true e = head_known ((key_eq_is known r.key).0 (sym e))
    head_tested false e = head_of_another (λ same. false≢true (e ∙ (key_eq_is known r.key).1 same))

-- ---- the map of the program

pub key_at_entries : (entries : List (String Global × KeyText)) (head : String Global) → lookup (string_eq head) entries ≡ key_at (keys_by_head entries) (string_bytes head)
key_at_entries [] head = refl
key_at_entries (e ∷ entries) head = ap (λ o. cond (string_eq head e.0) (Some e.1) o) (key_at_entries entries head)

pub keys_by_head-push : (entries : List (String Global × KeyText)) (head : String Global) (key : KeyText) → keys_by_head (entries ++ (head, key) ∷ []) ≡ keys_by_head entries ++ (string_bytes head, key) ∷ []
keys_by_head-push entries head key = map_push (λ entry. (string_bytes entry.0, entry.1)) entries (head, key)

-- ---- global labels, before any register line

pub label_set-push : (globals : List LabelText) (label : LabelText) → label_set (globals ++ label ∷ []) [] ≡ put_label (label_set globals []) label
label_set-push globals label =
    ap (fold put_label []) (append-nil (globals ++ label ∷ [])) ∙ fold_push put_label [] globals label
    ∙ ap (λ labels. put_label labels label) (ap (fold put_label []) (sym (append-nil globals)))

pub none_noted : (globals others : List LabelText) (table same : Option HeadTable) (rs : List Registration) → same ≡ table → rs ≡ [] → AreNoted globals table rs → AreNoted others same rs
none_noted globals others table same rs is none noted = subst (λ t. AreNoted others t rs) (sym is) (by table noted)
  where
    not_in_none : (i : ℕ) (r : Registration) → slice_get {X = Registration} [] i ≡ Some r → ⊥
    not_in_none i r at = cc

    by : (table : Option HeadTable) → AreNoted globals table rs → AreNoted others table rs
    by None plain = subst (AllPrintPlainly others) (sym none) (All-nil (λ (r : Registration). PrintsPlainly others r.key))
    by (Some table) h = record {
      each = subst (All (HasKey others (keys_by_head table.keys.entries))) (sym none) (All-nil (HasKey others (keys_by_head table.keys.entries)));
      one = λ text key found.
          let (i, r, at, alike, key_is) = h.one text key found in
          absurd (not_in_none i r (subst (λ l. slice_get l i ≡ Some r) none at));
    }

-- ---- keys that print plainly

-- two keys that print plainly and alike are equal
plain_apart : (globals : List LabelText) (a b : Registration) → PrintsPlainly globals a.key → PrintsPlainly globals b.key → PrintApart globals a b
plain_apart globals a b p q = λ _ head.
    let same : a.key ≡ b.key = plain_keys_told globals a.key b.key p q (ap (λ (h : Head). h.name) head) (ap (λ (h : Head). h.labels) head) in
    (ap (λ (k : KeyText). k.name) same, λ l. ap (λ (k : KeyText). occurrences k.labels l) same)

module _ (globals : List LabelText) where
  abbrev IsPlain : Registration → Type 0
  IsPlain r = PrintsPlainly globals r.key

  pub plain_front : (rs ss : List Registration) → AllPrintPlainly globals (rs ++ ss) → AllPrintPlainly globals rs
  plain_front rs ss plain = subst (All IsPlain) (take_at rs ss (length rs) refl) (All-take IsPlain (length rs) (rs ++ ss) plain)

  plain_last : (rs : List Registration) (r : Registration) → AllPrintPlainly globals (rs ++ r ∷ []) → IsPlain r
  plain_last [] r plain = All-head IsPlain r [] plain
  plain_last (s ∷ rs) r plain = plain_last rs r (All-tail IsPlain s (rs ++ r ∷ []) plain)

  -- one more key that prints plainly
  pub plain_added : (rs : List Registration) (r : Registration) → AllPrintPlainly globals rs → PrintsPlainly globals r.key → AllPrintPlainly globals (rs ++ r ∷ []) × All (λ s. PrintApart globals s r) rs
  plain_added rs r plain new = (All-push IsPlain rs r plain new, map_all IsPlain (λ s. PrintApart globals s r) rs (λ s is. plain_apart globals s r is new) plain)

  -- in a table, each of them is noted
  pub plain_noted : (table : List (List ℕ × KeyText)) (rs : List Registration) (r : Registration) (apart : Bool) → AllPrintPlainly globals (rs ++ r ∷ [])
      → MatchBool apart (AreHeadsOf globals table (rs ++ r ∷ []) × All (λ s. PrintApart globals s r) rs) (¬ All (λ s. PrintApart globals s r) rs) → AreHeadsOf globals table (rs ++ r ∷ [])
  plain_noted table rs r true plain h = h.0
  plain_noted table rs r false plain h = absurd (h (plain_added rs r (plain_front rs (r ∷ []) plain) (plain_last rs r plain)).1)

pub no_heads : (globals : List LabelText) → AreHeadsOf globals [] []
no_heads globals = record { each = All-nil (HasKey globals []); one = λ text key found. absurd (some_is_none key (sym found)) }

-- ---- the register lines of setup lines and of rounds, one after another

pub setup_more : (setup : List Setup) (i : ℕ) (line : Setup) (kind : MetricKind) (key : KeyText) → i < length setup → line ≡ get_or setup i line → setup_of line ≡ Register kind key
    → registrations_in (take (i + 1) setup) ≡ registrations_in (take i setup) ++ record { kind = kind; key = key } ∷ []
setup_more setup i line kind key within at says =
    ap registrations_in (take_more setup i line within ∙ ap (λ l. take i setup ++ l ∷ []) (sym at))
    ∙ ap (filter_map registration_of) (map_push setup_of (take i setup) line ∙ ap (λ s. map setup_of (take i setup) ++ s ∷ []) says)
    ∙ filter_map-append registration_of (map setup_of (take i setup)) (Register kind key ∷ [])

-- a line that describes registers nothing
pub setup_same : (setup : List Setup) (i : ℕ) (line : Setup) → i < length setup → line ≡ get_or setup i line → registration_of (setup_of line) ≡ None → registrations_in (take (i + 1) setup) ≡ registrations_in (take i setup)
setup_same setup i line within at none =
    ap registrations_in (take_more setup i line within ∙ ap (λ l. take i setup ++ l ∷ []) (sym at))
    ∙ ap (filter_map registration_of) (map_push setup_of (take i setup) line)
    ∙ filter_map-append registration_of (map setup_of (take i setup)) (setup_of line ∷ [])
    ∙ ap (λ l. registrations_in (take i setup) ++ l) (alone (setup_of line) none) ∙ append-nil (registrations_in (take i setup))
  where
    alone : (line : SetupLine) → registration_of line ≡ None → filter_map registration_of (line ∷ []) ≡ []
    alone (Register kind key) none = absurd cc
    alone (Describe kind name unit description) none = refl

pub setup_front : (setup : List Setup) (n : ℕ) → registrations_in setup ≡ registrations_in (take n setup) ++ registrations_in (drop n setup)
setup_front setup n =
    ap registrations_in (sym (take-append-drop n setup)) ∙ ap (filter_map registration_of) (map-append setup_of (take n setup) (drop n setup))
    ∙ filter_map-append registration_of (map setup_of (take n setup)) (map setup_of (drop n setup))

-- a setup line of a round whose register lines all print plainly is noted
pub line_noted : (globals : List LabelText) (table : List (List ℕ × KeyText)) (earlier : List Registration) (setup : List Setup) (i : ℕ) (line : Setup) (kind : MetricKind) (key : KeyText) (apart : Bool)
    → MatchBool apart (AreHeadsOf globals table ((earlier ++ registrations_in (take i setup)) ++ record { kind = kind; key = key } ∷ []) × All (λ s. PrintApart globals s (record { kind = kind; key = key })) (earlier ++ registrations_in (take i setup)))
    (¬ All (λ s. PrintApart globals s (record { kind = kind; key = key })) (earlier ++ registrations_in (take i setup)))
    → setup_of line ≡ Register kind key → i < length setup → line ≡ get_or setup i line → AllPrintPlainly globals (earlier ++ registrations_in setup) → AreHeadsOf globals table (earlier ++ registrations_in (take (i + 1) setup))
line_noted globals table earlier setup i line kind key apart h says within at plain =
    let r : Registration = record { kind = kind; key = key } in
    let more : earlier ++ registrations_in (take (i + 1) setup) ≡ (earlier ++ registrations_in (take i setup)) ++ r ∷ [] =
    ap (λ l. earlier ++ l) (setup_more setup i line kind key within at says) ∙ sym (append_assoc earlier (registrations_in (take i setup)) (r ∷ [])) in
    let all : earlier ++ registrations_in setup ≡ (earlier ++ registrations_in (take (i + 1) setup)) ++ registrations_in (drop (i + 1) setup) =
    ap (λ l. earlier ++ l) (setup_front setup (i + 1)) ∙ sym (append_assoc earlier (registrations_in (take (i + 1) setup)) (registrations_in (drop (i + 1) setup))) in
    let front = plain_front globals (earlier ++ registrations_in (take (i + 1) setup)) (registrations_in (drop (i + 1) setup)) (subst (AllPrintPlainly globals) all plain) in
    subst (AreHeadsOf globals table) (sym more) (plain_noted globals table (earlier ++ registrations_in (take i setup)) r apart (subst (AllPrintPlainly globals) more front) h)

pub rounds_more : (rounds : List Round) (i : ℕ) (round : Round) → i < length rounds → round ≡ get_or rounds i round → registrations_of (take (i + 1) rounds) ≡ registrations_of (take i rounds) ++ registrations_in round.setup.items
rounds_more rounds i round within at =
    ap registrations_of (take_more rounds i round within ∙ ap (λ r. take i rounds ++ r ∷ []) (sym at))
    ∙ ap (flat_map registered_in) (map_push round_of (take i rounds) round)
    ∙ flat_map-append registered_in (map round_of (take i rounds)) (round_of round ∷ [])
    ∙ ap (λ l. registrations_of (take i rounds) ++ l) (append-nil (registrations_in round.setup.items))

pub rounds_front : (rounds : List Round) (n : ℕ) → registrations_of rounds ≡ registrations_of (take n rounds) ++ registrations_of (drop n rounds)
rounds_front rounds n =
    ap registrations_of (sym (take-append-drop n rounds)) ∙ ap (flat_map registered_in) (map-append round_of (take n rounds) (drop n rounds))
    ∙ flat_map-append registered_in (map round_of (take n rounds)) (map round_of (drop n rounds))
