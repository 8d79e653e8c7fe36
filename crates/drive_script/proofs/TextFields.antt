-- Texts in quotes, and labels: what is read is their spelling, and each spelling is read.
use Rattle.std.proofs.Common.{◌≡◌, ℕ, zero, suc, ◌+◌, ◌≤◌, Bool, true, false, ◌==◌, List, [], ◌∷◌, ◌++◌, length, Option, Some, None, refl, sym, ap, subst, ◌∙◌, append_assoc, arith, lit≤}
use Rattle.std.specs.Prelude.{codes, IsUtf8, All, flat_map, if◌then◌else◌, string_bytes, Err, IsOk}
use Rattle.std.specs.declared.vec.Vec.{Vec}
use Rattle.std.specs.declared.string.String.{String}
use Rattle.std.specs.declared.alloc.Global.{Global}
use Rattle.std.specs.String.{string_vec}
use Rattle.std.specs.Str.{is_utf8}
use Rattle.std.proofs.lemmas.Bool.{eqb-true}
use Rattle.std.proofs.lemmas.List.{length-append}
use Rattle.std.proofs.lemmas.List.Elements.{All-nil, All-cons, All-head, All-tail}
use Rattle.std.proofs.lemmas.Option.{cond_some, same_Some, some_pair_parts}
use Rattle.std.proofs.lemmas.Str.{IsUtf8-from_is_utf8, is_utf8-from_IsUtf8, IsUtf8-string_bytes}
use Rattle.metrics_core.specs.Characters.{quote, backslash, newline}
use Rattle.metrics_core.specs.Keys.{LabelText}
use Rattle.prom_format.specs.Printed.{escaped_character, escaped_label_value}
use Rattle.drive_script.specs.Words.{quoted, label_word, IsLabelUtf8}
use Rattle.drive_script.specs.Reading.{◌>>=◌, both, seen, after, behind, each_at, escape_at, character_at, some_characters_at, characters_at, text_of, text_at, label_at, labels_at}
use Rattle.drive_script.proofs.Fields.{bind_some, behind_takes}
use Rattle.drive_script.proofs.Readers.{IsReader, Ends, Anywhere, SpellsBoth, SpellsSeen, SpellsAfter, both_reads, seen_reads, after_reads}
use Rattle.drive_script.proofs.Spaced.{SpellsEach, each_reads}

-- ---- characters

-- a character, and the bytes behind it
abbrev before : List ℕ → ℕ → Option (ℕ × List ℕ)
before bytes c = Some (c, bytes)

-- what an escape stands for is escaped so
escape_takes : (bytes : List ℕ) (d : ℕ) (rest : List ℕ) → escape_at bytes ≡ Some (d, rest) → backslash ∷ bytes ≡ escaped_character true d ++ rest
escape_takes [] d rest e = absurd cc
escape_takes (c ∷ bytes) d rest e = by (c == backslash) (c == quote) (c == 110) refl refl refl e
  where
    by : (p q r : Bool) → (c == backslash) ≡ p → (c == quote) ≡ q → (c == 110) ≡ r
        → ((if p then Some backslash else if q then Some quote else if r then Some newline else None) >>= before bytes) ≡ Some (d, rest)
        → backslash ∷ c ∷ bytes ≡ escaped_character true d ++ rest
    by true q r is _ _ f =
        let same : ◌≡◌ {A = ℕ × List ℕ} (backslash, bytes) (d, rest) = same_Some (backslash, bytes) (d, rest) f in
        ap (λ x. backslash ∷ x ∷ bytes) (eqb-true c backslash is) ∙ ap (λ (p : ℕ × List ℕ). escaped_character true p.0 ++ p.1) same
    by false true r _ is _ f =
        let same : ◌≡◌ {A = ℕ × List ℕ} (quote, bytes) (d, rest) = same_Some (quote, bytes) (d, rest) f in
        ap (λ x. backslash ∷ x ∷ bytes) (eqb-true c quote is) ∙ ap (λ (p : ℕ × List ℕ). escaped_character true p.0 ++ p.1) same
    by false false true _ _ is f =
        let same : ◌≡◌ {A = ℕ × List ℕ} (newline, bytes) (d, rest) = same_Some (newline, bytes) (d, rest) f in
        ap (λ x. backslash ∷ x ∷ bytes) (eqb-true c 110 is) ∙ ap (λ (p : ℕ × List ℕ). escaped_character true p.0 ++ p.1) same
    by false false false _ _ _ f = absurd cc

-- a character that is no quote, before what stands behind it
character_takes : (c : ℕ) (bytes : List ℕ) (d : ℕ) (rest : List ℕ) → (c == quote) ≡ false → character_at c bytes ≡ Some (d, rest) → c ∷ bytes ≡ escaped_character true d ++ rest
character_takes c bytes d rest no_quote e = by (c == newline) (c == backslash) refl refl e
  where
    plain : (c == newline) ≡ false → (c == backslash) ≡ false → escaped_character true c ≡ c ∷ []
    plain n b = rw (b, n, no_quote) refl

    by : (n b : Bool) → (c == newline) ≡ n → (c == backslash) ≡ b → (if n then None else if b then escape_at bytes else Some (c, bytes)) ≡ Some (d, rest) → c ∷ bytes ≡ escaped_character true d ++ rest
    by true b _ _ f = absurd cc
    by false true _ is f = ap (λ x. x ∷ bytes) (eqb-true c backslash is) ∙ escape_takes bytes d rest f
    by false false n b f =
        let same : ◌≡◌ {A = ℕ × List ℕ} (c, bytes) (d, rest) = same_Some (c, bytes) (d, rest) f in
        sym (ap (λ l. l ++ bytes) (plain n b)) ∙ ap (λ (p : ℕ × List ℕ). escaped_character true p.0 ++ p.1) same

abbrev first_then : ℕ → ℕ × List ℕ → Option (List ℕ × List ℕ)
first_then most first = some_characters_at most first.1 >>= λ others. Some (first.0 ∷ others.0, others.1)

-- what the characters behind a first one are read as
abbrev TakenBy : ℕ → Type 0
TakenBy most = (bytes text rest : List ℕ) → some_characters_at most bytes ≡ Some (text, rest) → bytes ≡ escaped_label_value text ++ (codes "\"" ++ rest)

first_taken : (most : ℕ) → TakenBy most → (q : Bool) (c : ℕ) (bytes text rest : List ℕ) → (c == quote) ≡ q → (if q then Some ([], bytes) else (character_at c bytes >>= first_then most)) ≡ Some (text, rest) → c ∷ bytes ≡ escaped_label_value text ++ (codes "\"" ++ rest)
first_taken most taken true c bytes text rest is f =
    let same = some_pair_parts [] text bytes rest f in
    ap (λ x. x ∷ bytes) (eqb-true c quote is) ∙ (λ j. escaped_label_value (same.0 j) ++ (codes "\"" ++ same.1 j))
first_taken most taken false c bytes text rest no_quote f =
    let m = bind_some (character_at c bytes) (first_then most) (text, rest) f in
    let k = bind_some (some_characters_at most m.0.1) (λ others. Some (m.0.0 ∷ others.0, others.1)) (text, rest) m.2 in
    let same = some_pair_parts (m.0.0 ∷ k.0.0) text k.0.1 rest k.2 in
    character_takes c bytes m.0.0 m.0.1 no_quote m.1 ∙ ap (λ l. escaped_character true m.0.0 ++ l) (taken m.0.1 k.0.0 k.0.1 k.1) ∙ sym (append_assoc (escaped_character true m.0.0) (escaped_label_value k.0.0) (codes "\"" ++ k.0.1))
    ∙ (λ j. escaped_label_value (same.0 j) ++ (codes "\"" ++ same.1 j))

characters_take : (most : ℕ) → TakenBy most
characters_take zero [] text rest e = absurd cc
characters_take (suc most) [] text rest e = absurd cc
characters_take zero (c ∷ bytes) text rest e = absurd cc
characters_take (suc most) (c ∷ bytes) text rest e = first_taken most (characters_take most) (c == quote) c bytes text rest refl e

-- an escaped character, and what the others are read as, in the ways in which it is escaped
abbrev Read : ℕ → List ℕ → List ℕ → Type 0
Read most text rest = some_characters_at most (escaped_label_value text ++ (codes "\"" ++ rest)) ≡ Some (text, rest)

abbrev first_and : ℕ → List ℕ → List ℕ → List ℕ
first_and c text rest = (escaped_character true c ++ escaped_label_value text) ++ (codes "\"" ++ rest)

abbrev and_others : ℕ → List ℕ → List ℕ → Option (List ℕ × List ℕ)
and_others c text rest = Some (c ∷ text, rest)

first_read : (most : ℕ) (b n q : Bool) (c : ℕ) (text rest : List ℕ) → (c == backslash) ≡ b → (c == newline) ≡ n → (c == quote) ≡ q → Read most text rest → some_characters_at (suc most) (first_and c text rest) ≡ Some (c ∷ text, rest)
first_read most true n q c text rest is_b is_n is_q others =
    let escape : escaped_character true c ≡ backslash ∷ backslash ∷ [] = rw is_b refl in
    ap (λ l. some_characters_at (suc most) ((l ++ escaped_label_value text) ++ (codes "\"" ++ rest))) escape
    ∙ rw others (ap (λ x. and_others x text rest) (sym (eqb-true c backslash is_b)))
first_read most false true q c text rest is_b is_n is_q others =
    let escape : escaped_character true c ≡ backslash ∷ 110 ∷ [] = rw (is_b, is_n) refl in
    ap (λ l. some_characters_at (suc most) ((l ++ escaped_label_value text) ++ (codes "\"" ++ rest))) escape
    ∙ rw others (ap (λ x. and_others x text rest) (sym (eqb-true c newline is_n)))
first_read most false false true c text rest is_b is_n is_q others =
    let escape : escaped_character true c ≡ backslash ∷ quote ∷ [] = rw (is_b, is_n, is_q) refl in
    ap (λ l. some_characters_at (suc most) ((l ++ escaped_label_value text) ++ (codes "\"" ++ rest))) escape
    ∙ rw others (ap (λ x. and_others x text rest) (sym (eqb-true c quote is_q)))
first_read most false false false c text rest is_b is_n is_q others =
    let escape : escaped_character true c ≡ c ∷ [] = rw (is_b, is_n, is_q) refl in
    ap (λ l. some_characters_at (suc most) ((l ++ escaped_label_value text) ++ (codes "\"" ++ rest))) escape
    ∙ rw (is_q, is_n, is_b, others) refl

-- an escaped character has some bytes
escaped_some : (b n q : Bool) (c : ℕ) → (c == backslash) ≡ b → (c == newline) ≡ n → (c == quote) ≡ q → 1 ≤ length (escaped_character true c)
escaped_some true n q c is_b is_n is_q = rw is_b (lit≤ tt)
escaped_some false true q c is_b is_n is_q = rw (is_b, is_n) (lit≤ tt)
escaped_some false false true c is_b is_n is_q = rw (is_b, is_n, is_q) (lit≤ tt)
escaped_some false false false c is_b is_n is_q = rw (is_b, is_n, is_q) (lit≤ tt)

fewer : (c : ℕ) (text rest : List ℕ) (most : ℕ) → length (first_and c text rest) ≤ most → length (escaped_label_value text ++ (codes "\"" ++ rest)) + 1 ≤ most
fewer c text rest most few =
    omega (arith, few, escaped_some (c == backslash) (c == newline) (c == quote) c refl refl refl, length-append (escaped_character true c ++ escaped_label_value text) (codes "\"" ++ rest), length-append (escaped_character true c) (escaped_label_value text), length-append (escaped_label_value text) (codes "\"" ++ rest))

characters_again : (most : ℕ) (text rest : List ℕ) → length (escaped_label_value text ++ (codes "\"" ++ rest)) ≤ most → Read most text rest
characters_again zero [] rest few = absurd (omega (arith, few))
characters_again (suc most) [] rest few = refl
characters_again zero (c ∷ text) rest few = absurd (omega (arith, fewer c text rest zero few))
characters_again (suc most) (c ∷ text) rest few =
    first_read most (c == backslash) (c == newline) (c == quote) c text rest refl refl refl (characters_again most text rest (omega (arith, fewer c text rest (suc most) few)))

-- ---- texts

abbrev pub SpellsText : List ℕ → List ℕ → Type 0
SpellsText text front = IsUtf8 text × (front ≡ quoted text)

quoted_before : (text rest : List ℕ) → quoted text ++ rest ≡ codes "\"" ++ (escaped_label_value text ++ (codes "\"" ++ rest))
quoted_before text rest = simp append_assoc

text_takes : (bytes text rest : List ℕ) → text_at bytes ≡ Some (text, rest) → (front : List ℕ) × SpellsText text front × (bytes ≡ front ++ rest)
unfolding text_at
text_takes bytes text rest e =
    let m = bind_some (after (codes "\"") characters_at bytes) text_of (text, rest) e in
    let tested = cond_some (is_utf8 m.0.0) m.0 (text, rest) m.2 in
    let k = bind_some (behind (codes "\"") bytes) characters_at m.0 m.1 in
    let split : bytes ≡ quoted m.0.0 ++ m.0.1 = behind_takes (codes "\"") bytes k.0 k.1 ∙ ap (λ l. codes "\"" ++ l) (characters_take (length k.0) k.0 m.0.0 m.0.1 k.2) ∙ sym (quoted_before m.0.0 m.0.1) in
    subst (λ (p : List ℕ × List ℕ). (front : List ℕ) × SpellsText p.0 front × (bytes ≡ front ++ p.1)) tested.1 (quoted m.0.0, (IsUtf8-from_is_utf8 m.0.0 tested.0, refl), split)

text_again : (text front rest : List ℕ) → SpellsText text front → Anywhere rest → text_at (front ++ rest) ≡ Some (text, rest)
unfolding text_at behind
text_again text front rest h stop =
    ap (λ l. text_at (l ++ rest)) h.1 ∙ ap text_at (quoted_before text rest)
    ∙ rw (characters_again (length (escaped_label_value text ++ (codes "\"" ++ rest))) text rest (omega arith), is_utf8-from_IsUtf8 text h.0) refl

pub text_reads : IsReader text_at SpellsText Anywhere
text_reads = record { takes = text_takes; again = text_again }

-- ---- labels

abbrev label_of_texts : List ℕ × List ℕ → LabelText
label_of_texts texts = record { key = texts.0; value = texts.1 }

abbrev pub SpellsTexts : List ℕ → List ℕ × List ℕ → List ℕ → Type 0
SpellsTexts between = SpellsBoth SpellsText (λ _. SpellsAfter between SpellsText)

-- two texts with a literal between them
pub texts_read : (between : List ℕ) → IsReader (both text_at (λ _. after between text_at)) (SpellsTexts between) Anywhere
texts_read between = both_reads text_at (λ _. after between text_at) SpellsText (λ _. SpellsAfter between SpellsText) Anywhere Anywhere text_reads (λ _. after_reads between text_at SpellsText Anywhere text_reads) (λ a b y rest h stop. tt)

pub label_spelled : (between : List ℕ) (label : LabelText) (front : List ℕ) → SpellsSeen label_of_texts (SpellsTexts between) label front → IsLabelUtf8 label × (front ≡ quoted label.key ++ (between ++ quoted label.value))
label_spelled between label front (texts, is, spelled) =
    let (x, y, key, value, split) = spelled in
    subst (λ (l : LabelText). IsLabelUtf8 l × (front ≡ quoted l.key ++ (between ++ quoted l.value))) is
    ((key.0, value.1.0), split ∙ (λ j. key.1 j ++ (value.2 ∙ ap (λ v. between ++ v) value.1.1) j))

pub label_spells : (between : List ℕ) (label : LabelText) (front : List ℕ) → IsLabelUtf8 label → front ≡ quoted label.key ++ (between ++ quoted label.value) → SpellsSeen label_of_texts (SpellsTexts between) label front
label_spells between label front utf8 split =
    ((label.key, label.value), refl, (quoted label.key, between ++ quoted label.value, (utf8.0, refl), (quoted label.value, (utf8.1, refl), refl), split))

pub label_seen_reads : (between : List ℕ) → IsReader (seen label_of_texts (both text_at (λ _. after between text_at))) (SpellsSeen label_of_texts (SpellsTexts between)) Anywhere
label_seen_reads between = seen_reads label_of_texts (both text_at (λ _. after between text_at)) (SpellsTexts between) Anywhere (texts_read between)

abbrev pub SpellsLabel : LabelText → List ℕ → Type 0
SpellsLabel label front = IsLabelUtf8 label × (front ≡ label_word label)

word_split : (label : LabelText) → label_word label ≡ quoted label.key ++ (codes "=" ++ quoted label.value)
word_split label = append_assoc (quoted label.key) (codes "=") (quoted label.value)

pub label_reads : IsReader label_at SpellsLabel Anywhere
unfolding label_at
label_reads = record { takes = takes; again = again }
  where
    takes : (bytes : List ℕ) (label : LabelText) (rest : List ℕ) → label_at bytes ≡ Some (label, rest) → (front : List ℕ) × SpellsLabel label front × (bytes ≡ front ++ rest)
    takes bytes label rest e =
        let h = (label_seen_reads (codes "=")).takes bytes label rest e in
        let s = label_spelled (codes "=") label h.0 h.1 in
        (h.0, (s.0, s.1 ∙ sym (word_split label)), h.2)

    again : (label : LabelText) (front rest : List ℕ) → SpellsLabel label front → Anywhere rest → label_at (front ++ rest) ≡ Some (label, rest)
    again label front rest h stop = (label_seen_reads (codes "=")).again label front rest (label_spells (codes "=") label front h.0 (h.1 ∙ word_split label)) stop

-- labels, each behind a space
abbrev pub spaced_labels : List LabelText → List ℕ
spaced_labels labels = flat_map (λ label. codes " " ++ label_word label) labels

abbrev pub SpellsLabels : List LabelText → List ℕ → Type 0
SpellsLabels labels front = All IsLabelUtf8 labels × (front ≡ spaced_labels labels)

spelled_labels : (labels : List LabelText) (front : List ℕ) → SpellsEach SpellsLabel labels front → SpellsLabels labels front
spelled_labels [] front h = (All-nil IsLabelUtf8, h)
spelled_labels (label ∷ labels) front (word, others, spelled, more, split) =
    let rest = spelled_labels labels others more in
    (All-cons IsLabelUtf8 label labels spelled.0 rest.0, split ∙ (λ j. codes " " ++ (spelled.1 j ++ rest.1 j)))

labels_spelled : (labels : List LabelText) (front : List ℕ) → SpellsLabels labels front → SpellsEach SpellsLabel labels front
labels_spelled [] front h = h.1
labels_spelled (label ∷ labels) front h =
    (label_word label, spaced_labels labels, (All-head IsLabelUtf8 label labels h.0, refl), labels_spelled labels (spaced_labels labels) (All-tail IsLabelUtf8 label labels h.0, refl), h.1)

each_label_reads : IsReader (each_at label_at) (SpellsEach SpellsLabel) Ends
each_label_reads = each_reads label_at SpellsLabel Anywhere label_reads (λ rest stop. tt)

pub labels_read : IsReader labels_at SpellsLabels Ends
unfolding labels_at
labels_read = record {
  takes = λ bytes labels rest e. let h = each_label_reads.takes bytes labels rest e in (h.0, spelled_labels labels h.0 h.1, h.2);
  again = λ labels front rest h stop. each_label_reads.again labels front rest (labels_spelled labels front h) stop;
}

-- ---- what `from_utf8` says of characters

pub text_of_utf8 : (bytes rest : List ℕ) → IsUtf8 bytes → text_of (bytes, rest) ≡ Some (bytes, rest)
text_of_utf8 bytes rest utf8 = rw (is_utf8-from_IsUtf8 bytes utf8) refl

pub text_of_other : (bytes rest : List ℕ) → ¬ IsUtf8 bytes → text_of (bytes, rest) ≡ None
text_of_other bytes rest other = by (is_utf8 bytes) refl
  where
    by : (b : Bool) → is_utf8 bytes ≡ b → ◌≡◌ {A = Option (List ℕ × List ℕ)} (if b then Some (bytes, rest) else None) None
    by true is = absurd (other (IsUtf8-from_is_utf8 bytes is))
    by false is = refl

pub text_given : (text : Vec ℕ Global) (rest : List ℕ) (t : String Global) → string_vec t ≡ text → text_of (text.items, rest) ≡ Some (string_bytes t, rest)
text_given text rest t same =
    let items : string_bytes t ≡ text.items = ap (λ (v : Vec ℕ Global). v.items) same in
    text_of_utf8 text.items rest (subst IsUtf8 items (IsUtf8-string_bytes t)) ∙ ap (λ bytes. Some (bytes, rest)) (sym items)

pub text_refused : {E : Type 0} (text : Vec ℕ Global) (rest : List ℕ) (e : E) → (IsUtf8 text.items → IsOk {T = String Global} (Err e)) → text_of (text.items, rest) ≡ None
text_refused text rest e succeeds = text_of_other text.items rest (λ utf8. let ok = succeeds utf8 in cc)
