-- A name ends with its standing suffix.
use Rattle.std.proofs.Common.{◌≡◌, ℕ, ◌-◌, true, false, List, [], ◌∷◌, ◌++◌, length, take, drop, refl, sym, ap, ◌∙◌, Some}
use Rattle.std.specs.Prelude.{find, unwrap_or, if◌then◌else◌}
use Rattle.std.proofs.lemmas.List.{append-nil, take-append-drop}
use Rattle.std.proofs.lemmas.Slice.Eq.{bytes_eq-Decides}
use Rattle.prom_format.specs.Names.{ends_in, standing_suffix, standing_suffixes}

-- a text that ends with a word is some front and the word
abbrev pub HasEnd : List ℕ → List ℕ → Type 0
HasEnd text word = (front : List ℕ) × (text ≡ front ++ word)

HasEnd-ends_in : (text word : List ℕ) → ends_in text word ≡ true → HasEnd text word
HasEnd-ends_in text word ends =
    let same = (bytes_eq-Decides word (drop (length text - length word) text)).0 ends in
    (take (length text - length word) text, sym (take-append-drop (length text - length word) text) ∙ ap (λ t. take (length text - length word) text ++ t) (sym same))

first_end : (text : List ℕ) (words : List (List ℕ)) → HasEnd text (unwrap_or (find (ends_in text) words) [])
first_end text [] = (text, sym (append-nil text))
first_end text (word ∷ words) =
    (elim (ends_in text word) as (λ b. ends_in text word ≡ b → HasEnd text (unwrap_or (if b then Some word else find (ends_in text) words) [])) [
      | true ↦ λ ends. HasEnd-ends_in text word ends
      | false ↦ λ _. first_end text words
    ]) refl

pub HasEnd-standing_suffix : (name : List ℕ) → HasEnd name (standing_suffix name)
HasEnd-standing_suffix name = first_end name standing_suffixes
