-- Texts that grow by one part after another.
use Rattle.std.proofs.Common.{◌≡◌, ℕ, ◌+◌, ◌<◌, List, [], ◌∷◌, ◌++◌, length, take, map, get_or, refl, sym, ap, ◌∙◌, append_assoc, arith}
use Rattle.std.specs.Prelude.{codes, flat_map, Option, Some, None, Result, Ok, Err, OnErr}
use Rattle.std.proofs.lemmas.List.{take_more, map_push, append-nil}
use Rattle.metrics_core.specs.Outside.{GrewByPrefix}
use Rattle.metrics_core.specs.Keys.{LabelText}
use Rattle.prom_format.specs.Pages.{label_text, labels_text, label_set_text}
use Rattle.page_relay.proofs.Growing.{flat_push}

-- the parts of one more element
pub flat_more : {X Y : Type 0} (f : Y → List ℕ) (g : X → Y) (xs : List X) (i : ℕ) (d x : X) (old before after : List ℕ) → i < length xs → x ≡ get_or xs i d → before ≡ old ++ flat_map f (map g (take i xs)) → after ≡ before ++ f (g x) → after ≡ old ++ flat_map f (map g (take (i + 1) xs))
flat_more f g xs i d x old before after within is so_far more =
    more ∙ ap (λ l. l ++ f (g x)) so_far ∙ append_assoc old (flat_map f (map g (take i xs))) (f (g x))
    ∙ ap (λ l. old ++ l) (ap (λ y. flat_map f (map g (take i xs)) ++ f (g y)) is ∙ sym (flat_push f (map g (take i xs)) (g (get_or xs i d))) ∙ sym (ap (flat_map f) (map_push g (take i xs) (get_or xs i d))) ∙ sym (ap (λ l. flat_map f (map g l)) (take_more xs i d within)))

-- labels behind a brace, and what stands before the next one
abbrev pub opened : List LabelText → List ℕ
opened [] = []
opened (label ∷ labels) = codes "{" ++ labels_text (label ∷ labels)

abbrev pub mark : List LabelText → ℕ
mark [] = 123
mark (label ∷ labels) = 44

labels_push : (x : LabelText) (xs : List LabelText) (label : LabelText) → labels_text (x ∷ xs ++ label ∷ []) ≡ labels_text (x ∷ xs) ++ (44 ∷ label_text label)
labels_push x [] label = append_assoc (label_text x) (codes ",") (label_text label)
labels_push x (y ∷ ys) label = ap (λ l. label_text x ++ codes "," ++ l) (labels_push y ys label) ∙ sym (append_assoc (label_text x ++ codes ",") (labels_text (y ∷ ys)) (44 ∷ label_text label))

pub opened_push : (xs : List LabelText) (label : LabelText) → opened (xs ++ label ∷ []) ≡ opened xs ++ (mark xs ∷ label_text label)
opened_push [] label = refl
opened_push (x ∷ xs) label = ap (λ l. 123 ∷ l) (labels_push x xs label)

pub mark_push : (xs : List LabelText) (label : LabelText) → mark (xs ++ label ∷ []) ≡ 44
mark_push [] label = refl
mark_push (x ∷ xs) label = refl

pub closed : (xs : List LabelText) → 0 < length xs → opened xs ++ 125 ∷ [] ≡ label_set_text xs
closed [] some = absurd (omega (arith, some))
closed (x ∷ xs) some = refl

-- the parts of a row, one behind another
pub row_parts : (old name labels number : List ℕ) → ((((old ++ name) ++ labels) ++ 32 ∷ []) ++ number) ++ 10 ∷ [] ≡ old ++ ((((name ++ labels) ++ 32 ∷ []) ++ number) ++ 10 ∷ [])
row_parts old name labels number = simp append_assoc

-- nothing written is a front of anything
pub nothing_written : (old : Option (List ℕ)) (whole : List ℕ) → GrewByPrefix old old whole
nothing_written None whole = tt
nothing_written (Some before) whole = (whole, record { prefix = []; cut = refl; written = ap Some (sym (append-nil before)) })

pub holds_on_err : {A E : Type 0} (r : Result A E) (P : Type 0) → P → OnErr r P
holds_on_err (Ok x) P h = tt
holds_on_err (Err e) P h = h
