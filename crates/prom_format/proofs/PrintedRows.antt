-- A label set that is printed, with one more label at its end.
use Rattle.std.proofs.Common.{◌≡◌, ◌≢◌, ℕ, List, [], ◌∷◌, ◌++◌, refl, sym, ap, ◌∙◌, append_assoc}
use Rattle.std.specs.Prelude.{codes}
use Rattle.metrics_core.specs.Keys.{LabelText}
use Rattle.prom_format.specs.Printed.{escaped_label_value}
use Rattle.prom_format.specs.Pages.{label_text, labels_text, label_set_text}
use Rattle.prom_format.specs.PrintedRows.{comma_last, opened, IsRowOfLabels}

comma-last : (xs : List ℕ) (c : ℕ) → comma_last (xs ++ c ∷ []) ≡ xs ++ codes ","
comma-last [] c = refl
comma-last (x ∷ []) c = refl
comma-last (x ∷ y ∷ xs) c = ap (λ rest. x ∷ rest) (comma-last (y ∷ xs) c)

-- a text that ends with a character is opened by a comma in its place
pub opened-closed : (xs : List ℕ) (c : ℕ) → opened (xs ++ c ∷ []) ≡ xs ++ codes ","
opened-closed [] c = refl
opened-closed (x ∷ xs) c = comma-last (x ∷ xs) c

-- a label set is empty, or has a brace at its end
pub set-ends : (labels : List LabelText) (text : List ℕ) → text ≡ label_set_text labels → ((front : List ℕ) → text ≢ front ++ 125 ∷ []) → text ≡ []
set-ends [] text is none = is
set-ends (l ∷ ls) text is none = absurd (none (123 ∷ labels_text (l ∷ ls)) is)

labels-more : (l : LabelText) (ls : List LabelText) (m : LabelText) → labels_text (l ∷ ls ++ m ∷ []) ≡ labels_text (l ∷ ls) ++ codes "," ++ label_text m
labels-more l [] m = refl
labels-more l (k ∷ ls) m =
    let before = label_text l ++ codes "," in
    ap (λ rest. before ++ rest) (labels-more k ls m)
    ∙ sym (append_assoc before (labels_text (k ∷ ls) ++ codes ",") (label_text m))
    ∙ ap (λ rest. rest ++ label_text m) (sym (append_assoc before (labels_text (k ∷ ls)) (codes ",")))

-- a label behind a text
label-behind : (front : List ℕ) (m : LabelText) → front ++ m.key ++ codes "=\"" ++ escaped_label_value m.value ++ codes "\"}" ≡ front ++ (label_text m ++ codes "}")
label-behind front m =
    let value = escaped_label_value m.value in
    let named = m.key ++ codes "=\"" in
    ap (λ rest. rest ++ value ++ codes "\"}") (append_assoc front m.key (codes "=\""))
    ∙ ap (λ rest. rest ++ codes "\"}") (append_assoc front named value)
    ∙ append_assoc front (named ++ value) (codes "\"}")
    ∙ ap (λ rest. front ++ rest) (sym (append_assoc (named ++ value) (codes "\"") (codes "}")))

pub set_with : IsRowOfLabels
set_with [] m = label-behind (codes "{") m
set_with (l ∷ ls) m =
    let inner = labels_text (l ∷ ls) in
    let more = label_text m in
    ap (λ front. front ++ m.key ++ codes "=\"" ++ escaped_label_value m.value ++ codes "\"}") (opened-closed (codes "{" ++ inner) 125)
    ∙ label-behind (codes "{" ++ inner ++ codes ",") m
    ∙ sym (append_assoc (codes "{" ++ inner ++ codes ",") more (codes "}"))
    ∙ ap (λ rest. rest ++ codes "}")
    (ap (λ rest. rest ++ more) (append_assoc (codes "{") inner (codes ",")) ∙ append_assoc (codes "{") (inner ++ codes ",") more ∙ ap (λ rest. codes "{" ++ rest) (sym (labels-more l ls m)))

-- what was appended piece by piece was appended at once
pub pieces : (old a b c d e : List ℕ) → old ++ a ++ b ++ c ++ d ++ e ≡ old ++ (a ++ b ++ c ++ d ++ e)
pieces old a b c d e =
    ap (λ rest. rest ++ c ++ d ++ e) (append_assoc old a b)
    ∙ ap (λ rest. rest ++ d ++ e) (append_assoc old (a ++ b) c)
    ∙ ap (λ rest. rest ++ e) (append_assoc old (a ++ b ++ c) d)
    ∙ append_assoc old (a ++ b ++ c ++ d) e
