-- Labels at the front of some bytes: what was read of a label set is its front.
use Rattle.std.proofs.Common.{◌≡◌, ◌≢◌, ℕ, ◌<◌, true, false, List, [], ◌∷◌, ◌++◌, length, refl, sym, ap, ◌∙◌, append_assoc, arith}
use Rattle.std.specs.Prelude.{codes, flat_map, All}
use Rattle.std.proofs.lemmas.List.Elements.{All-head, All-tail, All-nil, All-push}
use Rattle.metrics_core.specs.Keys.{LabelText}
use Rattle.prom_format.specs.Names.{IsLabelName}
use Rattle.prom_format.specs.Printed.{escaped_label_value}
use Rattle.prom_format.specs.Pages.{label_text, labels_text, label_set_text}
use Rattle.prom_format.proofs.EscapeLaws.{quoted_told}
use Rattle.prom_format.proofs.ReadOnce.{first_same, others_same}
use Rattle.page_relay.specs.Reading.{NoName, TakesName, NoText, TakesText, IsReadableLabel, NoLabel, TakesLabel, NoLabelSet, TakesLabelSet}
use Rattle.page_relay.proofs.Names.{names_told}
use Rattle.page_relay.proofs.Texts.{text_told}

pub label_split : (label : LabelText) (r : List ℕ) → label_text label ++ r ≡ label.key ++ 61 ∷ 34 ∷ (escaped_label_value label.value ++ 34 ∷ r)
label_split label r = simp append_assoc

pub label_told : (x y : LabelText) (r s : List ℕ) → IsLabelName x.key → IsLabelName y.key → label_text x ++ r ≡ label_text y ++ s → (x ≡ y) × (r ≡ s)
label_told x y r s hx hy e =
    let left = escaped_label_value x.value ++ 34 ∷ r in
    let right = escaped_label_value y.value ++ 34 ∷ s in
    let keys = names_told false x.key y.key (61 ∷ 34 ∷ left) (61 ∷ 34 ∷ right) hx hy refl refl (sym (label_split x r) ∙ e ∙ label_split y s) in
    let values = quoted_told x.value y.value r s (others_same 34 34 left right (others_same 61 61 (34 ∷ left) (34 ∷ right) keys.1)) in
    (ap (λ k. record { key = k; value = x.value }) keys.0 ∙ ap (λ v. record { key = y.key; value = v }) values.0, values.1)

-- labels, each with a comma behind it
abbrev pub joined : List LabelText → List ℕ
joined labels = flat_map (λ label. label_text label ++ codes ",") labels

pub joined_step : (label : LabelText) (labels : List LabelText) (x : List ℕ) → joined (label ∷ labels) ++ x ≡ label_text label ++ (44 ∷ (joined labels ++ x))
joined_step label labels x = append_assoc (label_text label ++ codes ",") (joined labels) x ∙ append_assoc (label_text label) (codes ",") (joined labels ++ x)

-- the labels behind the first one
abbrev pub behind_first : List LabelText → List ℕ → List ℕ
behind_first [] x = x
behind_first (other ∷ labels) x = 44 ∷ (labels_text (other ∷ labels) ++ x)

pub labels_step : (label : LabelText) (labels : List LabelText) (x : List ℕ) → labels_text (label ∷ labels) ++ x ≡ label_text label ++ behind_first labels x
labels_step label [] x = refl
labels_step label (other ∷ labels) x =
    append_assoc (label_text label ++ codes ",") (labels_text (other ∷ labels)) x ∙ append_assoc (label_text label) (codes ",") (labels_text (other ∷ labels) ++ x)

pub joined_last : (done : List LabelText) (label : LabelText) (x : List ℕ) → labels_text (done ++ label ∷ []) ++ x ≡ joined done ++ (label_text label ++ x)
joined_last [] label x = refl
joined_last (d ∷ []) label x = labels_step d (label ∷ []) x ∙ sym (joined_step d [] (label_text label ++ x))
joined_last (d ∷ e ∷ done) label x =
    labels_step d (e ∷ done ++ label ∷ []) x ∙ ap (λ l. label_text d ++ 44 ∷ l) (joined_last (e ∷ done) label x) ∙ sym (joined_step d (e ∷ done) (label_text label ++ x))

pub joined_more : (done : List LabelText) (label : LabelText) (x : List ℕ) → joined (done ++ label ∷ []) ++ x ≡ joined done ++ (label_text label ++ (44 ∷ x))
joined_more [] label x = joined_step label [] x
joined_more (d ∷ done) label x =
    joined_step d (done ++ label ∷ []) x ∙ ap (λ l. label_text d ++ 44 ∷ l) (joined_more done label x) ∙ sym (joined_step d done (label_text label ++ (44 ∷ x)))

-- what is left of the labels: one, and maybe others
pub record Left (labels done : List LabelText) (x rest : List ℕ) : Type 0 where
  pub next : LabelText
  pub others : List LabelText
  pub readable : IsReadableLabel next
  pub split : labels ≡ done ++ next ∷ others
  pub stands : x ≡ label_text next ++ behind_first others (125 ∷ rest)

pub labels_front : (done labels : List LabelText) (x rest : List ℕ) → All IsReadableLabel done → All IsReadableLabel labels → 0 < length labels
    → joined done ++ x ≡ labels_text labels ++ (125 ∷ rest) → Left labels done x rest
labels_front done [] x rest readable all some e = absurd (omega (arith, some))
labels_front [] (l ∷ labels) x rest readable all some e = record { next = l; others = labels; readable = All-head IsReadableLabel l labels all; split = refl; stands = e ∙ labels_step l labels (125 ∷ rest) }
labels_front (d ∷ done) (l ∷ labels) x rest readable all some e =
    let here = label_told d l (44 ∷ (joined done ++ x)) (behind_first labels (125 ∷ rest)) (All-head IsReadableLabel d done readable).named (All-head IsReadableLabel l labels all).named (sym (joined_step d done x) ∙ e ∙ labels_step l labels (125 ∷ rest)) in
    by labels (All-tail IsReadableLabel l labels all) here.1 here.0 (λ other others more f. labels_front done (other ∷ others) x rest (All-tail IsReadableLabel d done readable) more (omega arith) f)
  where
    by : (labels : List LabelText) → All IsReadableLabel labels → 44 ∷ (joined done ++ x) ≡ behind_first labels (125 ∷ rest) → d ≡ l
        → ((other : LabelText) (others : List LabelText) → All IsReadableLabel (other ∷ others) → joined done ++ x ≡ labels_text (other ∷ others) ++ (125 ∷ rest) → Left (other ∷ others) done x rest)
        → Left (l ∷ labels) (d ∷ done) x rest
    by [] all f same rec = absurd (omega (arith, first_same 44 125 (joined done ++ x) rest f))
    by (other ∷ labels) all f same rec =
        let left = rec other labels all (others_same 44 44 (joined done ++ x) (labels_text (other ∷ labels) ++ (125 ∷ rest)) f) in
        record { next = left.next; others = left.others; readable = left.readable; split = (λ j. sym same j ∷ left.split j); stands = left.stands }

pub set_step : (label : LabelText) (labels : List LabelText) (x : List ℕ) → label_set_text (label ∷ labels) ++ x ≡ 123 ∷ (labels_text (label ∷ labels) ++ (125 ∷ x))
set_step label labels x = ap (λ l. 123 ∷ l) (append_assoc (labels_text (label ∷ labels)) (codes "}") x)

-- ---- a label

abbrev pub NoLiteral : List ℕ → List ℕ → Type 0
NoLiteral literal bytes = (rest : List ℕ) → bytes ≢ literal ++ rest

pub no_label_name : (start : List ℕ) → NoName false start → NoLabel start
no_label_name start none label rest readable e = none label.key _ readable.named refl (e ∙ label_split label rest)

pub no_label_equals : (start key rest : List ℕ) → TakesName false start key rest → NoLiteral (codes "=\"") rest → NoLabel start
no_label_equals start key rest name none label more readable e =
    none _ (names_told false key label.key rest _ name.named readable.named name.ends refl (sym name.split ∙ e ∙ label_split label more)).1

-- where a label stands, its value and a quote stand behind the name and its sign
value_behind : (start key rest behind : List ℕ) (label : LabelText) (more : List ℕ) → TakesName false start key rest → rest ≡ codes "=\"" ++ behind → IsReadableLabel label → start ≡ label_text label ++ more
    → (key ≡ label.key) × (behind ≡ escaped_label_value label.value ++ 34 ∷ more)
value_behind start key rest behind label more name sign readable e =
    let told = names_told false key label.key rest (61 ∷ 34 ∷ (escaped_label_value label.value ++ 34 ∷ more)) name.named readable.named name.ends refl (sym name.split ∙ e ∙ label_split label more) in
    (told.0, others_same 34 34 behind (escaped_label_value label.value ++ 34 ∷ more) (others_same 61 61 (34 ∷ behind) (34 ∷ (escaped_label_value label.value ++ 34 ∷ more)) (sym sign ∙ told.1)))

pub no_label_value : (start key rest behind : List ℕ) → TakesName false start key rest → rest ≡ codes "=\"" ++ behind → NoText true behind → NoLabel start
no_label_value start key rest behind name sign none label more readable e =
    none label.value (34 ∷ more) readable.utf8 refl (value_behind start key rest behind label more name sign readable e).1

pub no_label_quote : (start key rest behind value last : List ℕ) → TakesName false start key rest → rest ≡ codes "=\"" ++ behind → TakesText true behind value last → NoLiteral (codes "\"") last → NoLabel start
no_label_quote start key rest behind value last name sign text none label more readable e =
    none more (text_told true value label.value last (34 ∷ more) text.ends refl (sym text.split ∙ (value_behind start key rest behind label more name sign readable e).1)).1

pub label_taken : (start key rest behind value last new : List ℕ) → TakesName false start key rest → rest ≡ codes "=\"" ++ behind → TakesText true behind value last → last ≡ codes "\"" ++ new
    → TakesLabel start (record { key = key; value = value }) new
label_taken start key rest behind value last new name sign text end = record {
  readable = record { named = name.named; utf8 = text.utf8 };
  split = name.split ∙ ap (λ l. key ++ l) (sign ∙ ap (λ l. 61 ∷ 34 ∷ l) (text.split ∙ ap (λ l. escaped_label_value value ++ l) end)) ∙ sym (label_split (record { key = key; value = value }) new);
}

-- ---- a label set, and the space behind it

-- what was read behind the brace
pub record SetSoFar (start : List ℕ) (done : List LabelText) (x : List ℕ) : Type 0 where
  pub readable : All IsReadableLabel done
  pub split : start ≡ 123 ∷ (joined done ++ x)

pub set_begins : (start x : List ℕ) → start ≡ codes "{" ++ x → SetSoFar start [] x
set_begins start x split = record { readable = All-nil IsReadableLabel; split = split }

pub no_set : (start : List ℕ) → NoLiteral (codes " ") start → NoLiteral (codes "{") start → NoLabelSet start
no_set start no_space no_brace [] rest readable e = no_space rest e
no_set start no_space no_brace (label ∷ labels) rest readable e =
    no_brace _ (e ∙ ap (λ l. l ++ rest) (set_step label labels (codes " ")))

set_at : (label : LabelText) (labels : List LabelText) (rest : List ℕ) → label_set_text (label ∷ labels) ++ codes " " ++ rest ≡ 123 ∷ (labels_text (label ∷ labels) ++ (125 ∷ 32 ∷ rest))
set_at label labels rest = append_assoc (label_set_text (label ∷ labels)) (codes " ") rest ∙ set_step label labels (32 ∷ rest)

-- where a label set stands, something of it is left
set_left : (start : List ℕ) (done : List LabelText) (x : List ℕ) (labels : List LabelText) (rest : List ℕ) → SetSoFar start done x → All IsReadableLabel labels → start ≡ label_set_text labels ++ codes " " ++ rest → Left labels done x (32 ∷ rest)
set_left start done x [] rest so readable e = absurd (omega (arith, first_same 123 32 (joined done ++ x) rest (sym so.split ∙ e)))
set_left start done x (label ∷ labels) rest so readable e =
    labels_front done (label ∷ labels) x (32 ∷ rest) so.readable readable (omega arith)
    (others_same 123 123 (joined done ++ x) (labels_text (label ∷ labels) ++ (125 ∷ 32 ∷ rest)) (sym so.split ∙ e ∙ set_at label labels rest))

pub no_next_label : (start : List ℕ) (done : List LabelText) (x : List ℕ) → SetSoFar start done x → NoLabel x → NoLabelSet start
no_next_label start done x so none labels rest readable e =
    let left = set_left start done x labels rest so readable e in
    none left.next _ left.readable left.stands

pub set_ends_nowhere : (start : List ℕ) (done : List LabelText) (x : List ℕ) (label : LabelText) (y : List ℕ) → SetSoFar start done x → TakesLabel x label y → NoLiteral (codes "} ") y → NoLiteral (codes ",") y → NoLabelSet start
set_ends_nowhere start done x label y so taken no_end no_comma labels rest readable e =
    let left = set_left start done x labels rest so readable e in
    by left.others (label_told label left.next y (behind_first left.others (125 ∷ 32 ∷ rest)) taken.readable.named left.readable.named (sym taken.split ∙ left.stands)).1
  where
    by : (others : List LabelText) → y ≡ behind_first others (125 ∷ 32 ∷ rest) → ⊥
    by [] f = no_end rest f
    by (other ∷ others) f = no_comma _ f

set_text : (done : List LabelText) (label : LabelText) (x : List ℕ) → label_set_text (done ++ label ∷ []) ++ codes " " ++ x ≡ 123 ∷ (labels_text (done ++ label ∷ []) ++ (125 ∷ 32 ∷ x))
set_text [] label x = set_at label [] x
set_text (d ∷ done) label x = set_at d (done ++ label ∷ []) x

pub set_taken : (start : List ℕ) (done : List LabelText) (x : List ℕ) (label : LabelText) (y new : List ℕ) → SetSoFar start done x → TakesLabel x label y → y ≡ codes "} " ++ new → TakesLabelSet start (done ++ label ∷ []) new
set_taken start done x label y new so taken end = record {
  readable = All-push IsReadableLabel done label so.readable taken.readable;
  split = so.split ∙ ap (λ l. 123 ∷ (joined done ++ l)) (taken.split ∙ ap (λ l. label_text label ++ l) end) ∙ ap (λ l. 123 ∷ l) (sym (joined_last done label (125 ∷ 32 ∷ new))) ∙ sym (set_text done label new);
}

pub set_grows : (start : List ℕ) (done : List LabelText) (x : List ℕ) (label : LabelText) (y new : List ℕ) → SetSoFar start done x → TakesLabel x label y → y ≡ codes "," ++ new → SetSoFar start (done ++ label ∷ []) new
set_grows start done x label y new so taken comma = record {
  readable = All-push IsReadableLabel done label so.readable taken.readable;
  split = so.split ∙ ap (λ l. 123 ∷ (joined done ++ l)) (taken.split ∙ ap (λ l. label_text label ++ l) comma) ∙ ap (λ l. 123 ∷ l) (sym (joined_more done label new));
}

-- ---- label sets are told

behind_told : (x y : LabelText) (xs ys : List LabelText) (r s : List ℕ) → All IsReadableLabel (x ∷ xs) → All IsReadableLabel (y ∷ ys) → labels_text (x ∷ xs) ++ (125 ∷ r) ≡ labels_text (y ∷ ys) ++ (125 ∷ s) → behind_first xs (125 ∷ r) ≡ behind_first ys (125 ∷ s)
behind_told x y xs ys r s hx hy e =
    (label_told x y (behind_first xs (125 ∷ r)) (behind_first ys (125 ∷ s)) (All-head IsReadableLabel x xs hx).named (All-head IsReadableLabel y ys hy).named (sym (labels_step x xs (125 ∷ r)) ∙ e ∙ labels_step y ys (125 ∷ s))).1

labels_told : (x y : LabelText) (xs ys : List LabelText) (r s : List ℕ) → All IsReadableLabel (x ∷ xs) → All IsReadableLabel (y ∷ ys) → labels_text (x ∷ xs) ++ (125 ∷ r) ≡ labels_text (y ∷ ys) ++ (125 ∷ s) → r ≡ s
labels_told x y [] [] r s hx hy e = others_same 125 125 r s (behind_told x y [] [] r s hx hy e)
labels_told x y [] (z ∷ ys) r s hx hy e = absurd (omega (arith, first_same 125 44 r (labels_text (z ∷ ys) ++ (125 ∷ s)) (behind_told x y [] (z ∷ ys) r s hx hy e)))
labels_told x y (z ∷ xs) [] r s hx hy e = absurd (omega (arith, first_same 44 125 (labels_text (z ∷ xs) ++ (125 ∷ r)) s (behind_told x y (z ∷ xs) [] r s hx hy e)))
labels_told x y (w ∷ xs) (z ∷ ys) r s hx hy e =
    labels_told w z xs ys r s (All-tail IsReadableLabel x (w ∷ xs) hx) (All-tail IsReadableLabel y (z ∷ ys) hy)
    (others_same 44 44 (labels_text (w ∷ xs) ++ (125 ∷ r)) (labels_text (z ∷ ys) ++ (125 ∷ s)) (behind_told x y (w ∷ xs) (z ∷ ys) r s hx hy e))

pub sets_told : (xs ys : List LabelText) (r s : List ℕ) → All IsReadableLabel xs → All IsReadableLabel ys → label_set_text xs ++ codes " " ++ r ≡ label_set_text ys ++ codes " " ++ s → r ≡ s
sets_told [] [] r s hx hy e = others_same 32 32 r s e
sets_told [] (y ∷ ys) r s hx hy e = absurd (omega (arith, first_same 32 123 r (labels_text (y ∷ ys) ++ (125 ∷ 32 ∷ s)) (e ∙ set_at y ys s)))
sets_told (x ∷ xs) [] r s hx hy e = absurd (omega (arith, first_same 123 32 (labels_text (x ∷ xs) ++ (125 ∷ 32 ∷ r)) s (sym (set_at x xs r) ∙ e)))
sets_told (x ∷ xs) (y ∷ ys) r s hx hy e =
    others_same 32 32 r s (labels_told x y xs ys (32 ∷ r) (32 ∷ s) hx hy (others_same 123 123 (labels_text (x ∷ xs) ++ (125 ∷ 32 ∷ r)) (labels_text (y ∷ ys) ++ (125 ∷ 32 ∷ s)) (sym (set_at x xs r) ∙ e ∙ set_at y ys s)))
