-- The labels of a group, one more at a time.
use Rattle.std.proofs.Common.{◌≡◌, ℕ, ◌+◌, ◌<◌, ◌≤◌, List, [], ◌∷◌, ◌++◌, length, take, drop, map, get_or, refl, sym, ap, ◌∙◌, arith}
use Rattle.std.specs.Prelude.{zip}
use Rattle.std.proofs.lemmas.List.{take_more, map_push, length-take-le, take-append-drop, get_or-map, length-map, map-append}
use Rattle.metrics_core.specs.Keys.{LabelText}
use Rattle.prom_format.specs.Names.{sanitized_label_name}
use Rattle.rule_eval.specs.FiringText.{labels_of}

zip_push : {A B : Type 0} (xs : List A) (x : A) (ys : List B) (d : B) → length xs < length ys → zip (xs ++ x ∷ []) ys ≡ zip xs ys ++ (x, get_or ys (length xs) d) ∷ []
zip_push [] x [] d h = absurd (omega (arith, h))
zip_push [] x (y ∷ ys) d h = refl
zip_push (z ∷ zs) x [] d h = absurd (omega (arith, h))
zip_push (z ∷ zs) x (y ∷ ys) d h = ap (λ l. (z, y) ∷ l) (zip_push zs x ys d (omega (arith, h)))

zip_none : {A B : Type 0} (xs : List A) → zip {X = B} xs [] ≡ []
zip_none [] = refl
zip_none (x ∷ xs) = refl

zip_short : {A B : Type 0} (xs rest : List A) (ys : List B) → length ys ≤ length xs → zip (xs ++ rest) ys ≡ zip xs ys
zip_short xs rest [] h = zip_none (xs ++ rest) ∙ sym (zip_none xs)
zip_short [] rest (y ∷ ys) h = absurd (omega (arith, h))
zip_short (x ∷ xs) rest (y ∷ ys) h = ap (λ l. (x, y) ∷ l) (zip_short xs rest ys (omega (arith, h)))

abbrev labelled : List ℕ × List ℕ → LabelText
labelled pair = record { key = sanitized_label_name pair.0; value = pair.1 }

-- one more key, which has a value
pub labels_push : (keys values : List (List ℕ)) (key : List ℕ) (d : List ℕ) → length keys < length values
    → labels_of (keys ++ key ∷ []) values ≡ labels_of keys values ++ record { key = sanitized_label_name key; value = get_or values (length keys) d } ∷ []
labels_push keys values key d h = ap (map labelled) (zip_push keys key values d h) ∙ map_push labelled (zip keys values) (key, get_or values (length keys) d)

-- keys behind the last value
pub labels_short : (keys rest values : List (List ℕ)) → length values ≤ length keys → labels_of (keys ++ rest) values ≡ labels_of keys values
labels_short keys rest values h = ap (map labelled) (zip_short keys rest values h)

-- the same of what texts and values stand for
module _ {K V : Type 0} (f : K → List ℕ) (g : V → List ℕ) (keys : List K) (values : List V) (i : ℕ) where
  pub labels_more : (dk : K) (dv : V) → i < length keys → i < length values
      → labels_of (map f (take (i + 1) keys)) (map g values) ≡ labels_of (map f (take i keys)) (map g values) ++ record { key = sanitized_label_name (f (get_or keys i dk)); value = g (get_or values i dv) } ∷ []
  labels_more dk dv some more =
      let count : length (map f (take i keys)) ≡ i = length-map (take i keys) f ∙ length-take-le i keys (omega (arith, some)) in
      let room : length (map f (take i keys)) < length (map g values) = omega (arith, count, more, length-map values g) in
      let value : get_or (map g values) (length (map f (take i keys))) [] ≡ g (get_or values i dv) = ap (λ n. get_or (map g values) n []) count ∙ get_or-map g values i dv [] more in
      ap (λ l. labels_of (map f l) (map g values)) (take_more keys i dk some) ∙ ap (λ l. labels_of l (map g values)) (map_push f (take i keys) (get_or keys i dk))
      ∙ labels_push (map f (take i keys)) (map g values) (f (get_or keys i dk)) [] room
      ∙ ap (λ v. labels_of (map f (take i keys)) (map g values) ++ record { key = sanitized_label_name (f (get_or keys i dk)); value = v } ∷ []) value

  pub labels_end : i ≤ length keys → length values ≤ i → labels_of (map f (take i keys)) (map g values) ≡ labels_of (map f keys) (map g values)
  labels_end within short =
      let count : length (map f (take i keys)) ≡ i = length-map (take i keys) f ∙ length-take-le i keys within in
      let few : length (map g values) ≤ length (map f (take i keys)) = omega (arith, count, short, length-map values g) in
      sym (labels_short (map f (take i keys)) (map f (drop i keys)) (map g values) few)
      ∙ ap (λ l. labels_of l (map g values)) (sym (map-append f (take i keys) (drop i keys)) ∙ ap (map f) (take-append-drop i keys))
