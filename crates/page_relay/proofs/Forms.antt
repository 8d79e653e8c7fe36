-- The forms of line: what their parts are read as.
use Rattle.std.proofs.Common.{◌≡◌, ℕ, true, false, List, [], ◌∷◌, ◌++◌, refl, sym, ap, ◌∙◌, append_assoc}
use Rattle.std.specs.Prelude.{codes, ℤ}
use Rattle.std.specs.Int.{w128}
use Rattle.std.specs.Int.RustNames.{FitsSigned}
use Rattle.std.proofs.lemmas.List.{append_cancel_left, append-nil}
use Rattle.metrics_core.specs.Keys.{LabelText}
use Rattle.metrics_core.specs.Numbers.{page_number}
use Rattle.prom_format.specs.Names.{IsMetricName}
use Rattle.prom_format.specs.Printed.{escaped_description}
use Rattle.prom_format.specs.Pages.{Row, type_text, label_set_text}
use Rattle.prom_format.specs.declared.families.FamilyType.{FamilyType}
use Rattle.prom_format.proofs.ReadOnce.{others_same}
use Rattle.page_relay.specs.Reading.{NoName, TakesName, NameEnds, TakesText, TextEnds, NoLabelSet, TakesLabelSet, NoValue, IsTypeLine, IsRowLine}
use Rattle.page_relay.proofs.Labels.{NoLiteral, sets_told}
use Rattle.page_relay.proofs.Names.{names_told}

-- ---- comments: a word, a name, a space and what stands behind it

spaced : (word name rest : List ℕ) → word ++ name ++ codes " " ++ rest ≡ word ++ (name ++ (32 ∷ rest))
spaced word name rest = append_assoc (word ++ name) (codes " ") rest ∙ append_assoc word name (32 ∷ rest)

module _ (word line : List ℕ) where
  abbrev pub Spells : List ℕ → List ℕ → Type 0
  Spells name rest = IsMetricName name × (line ≡ word ++ name ++ codes " " ++ rest)

  pub no_word : NoLiteral word line → (name rest : List ℕ) → Spells name rest → ⊥
  no_word none name rest h = none (name ++ (32 ∷ rest)) (h.1 ∙ spaced word name rest)

  name_behind : (behind name rest : List ℕ) → line ≡ word ++ behind → Spells name rest → behind ≡ name ++ (32 ∷ rest)
  name_behind behind name rest split h = append_cancel_left word behind (name ++ (32 ∷ rest)) (sym split ∙ h.1 ∙ spaced word name rest)

  pub no_name : (behind : List ℕ) → line ≡ word ++ behind → NoName true behind → (name rest : List ℕ) → Spells name rest → ⊥
  no_name behind split none name rest h = none name (32 ∷ rest) h.0 refl (name_behind behind name rest split h)

  told : (behind read left name rest : List ℕ) → line ≡ word ++ behind → TakesName true behind read left → Spells name rest → (read ≡ name) × (left ≡ 32 ∷ rest)
  told behind read left name rest split taken h = names_told true read name left (32 ∷ rest) taken.named h.0 taken.ends refl (sym taken.split ∙ name_behind behind name rest split h)

  pub no_space : (behind read left : List ℕ) → line ≡ word ++ behind → TakesName true behind read left → NoLiteral (codes " ") left → (name rest : List ℕ) → Spells name rest → ⊥
  no_space behind read left split taken none name rest h = none rest (told behind read left name rest split taken h).1

  pub told_behind : (behind read left more name rest : List ℕ) → line ≡ word ++ behind → TakesName true behind read left → left ≡ codes " " ++ more → Spells name rest → (read ≡ name) × (more ≡ rest)
  told_behind behind read left more name rest split taken space h =
      let both = told behind read left name rest split taken h in
      (both.0, others_same 32 32 more rest (sym space ∙ both.1))

  pub spelled : (behind read left more : List ℕ) → line ≡ word ++ behind → TakesName true behind read left → left ≡ codes " " ++ more → line ≡ word ++ read ++ codes " " ++ more
  spelled behind read left more split taken space = split ∙ ap (λ l. word ++ l) (taken.split ∙ ap (λ l. read ++ l) space) ∙ sym (spaced word read more)

-- a type line has one name
pub type_name_told : (line a b : List ℕ) (t u : FamilyType) → IsTypeLine line a t → IsTypeLine line b u → a ≡ b
type_name_told line a b t u ha hb =
    let word : List ℕ = codes "# TYPE " in
    let whole = sym (spaced word a (type_text t)) ∙ sym ha.spelled ∙ hb.spelled ∙ spaced word b (type_text u) in
    (names_told true a b (32 ∷ type_text t) (32 ∷ type_text u) ha.named hb.named refl refl (append_cancel_left word (a ++ (32 ∷ type_text t)) (b ++ (32 ∷ type_text u)) whole)).0

-- a text up to the end of the line
pub text_to_end : (bytes text rest : List ℕ) → TakesText false bytes text rest → bytes ≡ escaped_description text
text_to_end bytes text rest taken = by rest taken.ends taken.split
  where
    by : (rest : List ℕ) → TextEnds false rest → bytes ≡ escaped_description text ++ rest → bytes ≡ escaped_description text
    by [] ends split = split ∙ append-nil (escaped_description text)
    by (c ∷ rest) ends split = absurd cc

-- ---- rows

row_split : (row : Row) → row.name ++ label_set_text row.labels ++ codes " " ++ page_number row.value ≡ row.name ++ (label_set_text row.labels ++ codes " " ++ page_number row.value)
row_split row =
    append_assoc (row.name ++ label_set_text row.labels) (codes " ") (page_number row.value)
    ∙ append_assoc row.name (label_set_text row.labels) (codes " " ++ page_number row.value)
    ∙ ap (λ l. row.name ++ l) (sym (append_assoc (label_set_text row.labels) (codes " ") (page_number row.value)))

set_ends_name : (labels : List LabelText) (rest : List ℕ) → NameEnds true (label_set_text labels ++ codes " " ++ rest)
set_ends_name [] rest = refl
set_ends_name (label ∷ labels) rest = refl

pub no_row_name : (line : List ℕ) → NoName true line → (row : Row) → ¬ IsRowLine line row
no_row_name line none row h = none row.name _ h.named (set_ends_name row.labels (page_number row.value)) (h.spelled ∙ row_split row)

set_behind : (line name rest : List ℕ) (row : Row) → TakesName true line name rest → IsRowLine line row → rest ≡ label_set_text row.labels ++ codes " " ++ page_number row.value
set_behind line name rest row taken h =
    (names_told true name row.name rest _ taken.named h.named taken.ends (set_ends_name row.labels (page_number row.value)) (sym taken.split ∙ h.spelled ∙ row_split row)).1

pub no_row_labels : (line name rest : List ℕ) → TakesName true line name rest → NoLabelSet rest → (row : Row) → ¬ IsRowLine line row
no_row_labels line name rest taken none row h = none row.labels (page_number row.value) h.labels (set_behind line name rest row taken h)

pub no_row_value : (line name rest : List ℕ) (labels : List LabelText) (behind : List ℕ) → TakesName true line name rest → TakesLabelSet rest labels behind → NoValue behind → (row : Row) → ¬ IsRowLine line row
no_row_value line name rest labels behind taken set none row h =
    none row.value h.fits (sets_told labels row.labels behind (page_number row.value) set.readable h.labels (sym set.split ∙ set_behind line name rest row taken h))

pub row_taken : (line name rest : List ℕ) (labels : List LabelText) (behind : List ℕ) (value : ℤ) → TakesName true line name rest → TakesLabelSet rest labels behind → behind ≡ page_number value → FitsSigned w128 value
    → IsRowLine line (record { name = name; labels = labels; value = value })
row_taken line name rest labels behind value taken set number fits = record {
  named = taken.named;
  labels = set.readable;
  fits = fits;
  spelled = taken.split ∙ ap (λ l. name ++ l) (set.split ∙ ap (λ l. label_set_text labels ++ codes " " ++ l) number) ∙ sym (row_split (record { name = name; labels = labels; value = value }));
}
