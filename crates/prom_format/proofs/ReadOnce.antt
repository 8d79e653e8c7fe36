-- Texts that are read in one way: a list of words up to a stop, where no word begins another and none begins the stop.
use Rattle.std.proofs.Common.{◌≡◌, ℕ, Bool, true, false, List, [], ◌∷◌, ◌++◌, refl, sym, ap, ◌∙◌, append_assoc}
use Rattle.std.specs.Prelude.{flat_map, ◌≢◌}
use Rattle.std.specs.List.{AllByRecursion, list_all}
use Rattle.std.proofs.lemmas.Bool.{and_parts, false≢true}
use Rattle.std.proofs.lemmas.List.{append_cancel_left}

-- the first of two equal lists, and the others
abbrev first_of : List ℕ → ℕ
first_of [] = 0
first_of (c ∷ cs) = c

abbrev others_of : List ℕ → List ℕ
others_of [] = []
others_of (c ∷ cs) = cs

pub first_same : (c d : ℕ) (x y : List ℕ) → c ∷ x ≡ d ∷ y → c ≡ d
first_same c d x y e = ap first_of e

pub others_same : (c d : ℕ) (x y : List ℕ) → c ∷ x ≡ d ∷ y → x ≡ y
others_same c d x y e = ap others_of e

-- ---- words

-- no word begins another: whatever follows, the word is known
abbrev pub AreTold : {X : Type 0} → (X → Type 0) → (X → List ℕ) → Type 0
AreTold {X} P word = (x y : X) (r s : List ℕ) → P x → P y → word x ++ r ≡ word y ++ s → (x ≡ y) × (r ≡ s)

-- no word begins with the stop, nor the stop with a word
abbrev pub NoneIs : {X : Type 0} → (X → Type 0) → (X → List ℕ) → List ℕ → Type 0
NoneIs {X} P word stop = (x : X) (r s : List ℕ) → P x → word x ++ r ≢ stop ++ s

pub words_told : {X : Type 0} (P : X → Type 0) (word : X → List ℕ) (stop : List ℕ) → AreTold P word → NoneIs P word stop →
    (xs ys : List X) (r s : List ℕ) → AllByRecursion P xs → AllByRecursion P ys →
    flat_map word xs ++ (stop ++ r) ≡ flat_map word ys ++ (stop ++ s) → (xs ≡ ys) × (r ≡ s)
words_told P word stop told none [] [] r s hx hy e = (refl, append_cancel_left stop r s e)
words_told P word stop told none [] (y ∷ ys) r s hx hy e =
    absurd (none y (flat_map word ys ++ (stop ++ s)) r hy.0 (sym (e ∙ append_assoc (word y) (flat_map word ys) (stop ++ s))))
words_told P word stop told none (x ∷ xs) [] r s hx hy e =
    absurd (none x (flat_map word xs ++ (stop ++ r)) s hx.0 (sym (append_assoc (word x) (flat_map word xs) (stop ++ r)) ∙ e))
words_told P word stop told none (x ∷ xs) (y ∷ ys) r s hx hy e =
    let whole = sym (append_assoc (word x) (flat_map word xs) (stop ++ r)) ∙ e ∙ append_assoc (word y) (flat_map word ys) (stop ++ s) in
    let here = told x y (flat_map word xs ++ (stop ++ r)) (flat_map word ys ++ (stop ++ s)) hx.0 hy.0 whole in
    let behind = words_told P word stop told none xs ys r s hx.1 hy.1 here.1 in
    (ap (λ z. z ∷ xs) here.0 ∙ ap (λ zs. y ∷ zs) behind.0, behind.1)

-- ---- characters

-- characters of one kind up to one of another kind
pub span_told : (kind : ℕ → Bool) (x y : List ℕ) (c d : ℕ) (r s : List ℕ) → list_all kind x ≡ true → list_all kind y ≡ true →
    kind c ≡ false → kind d ≡ false → x ++ c ∷ r ≡ y ++ d ∷ s → (x ≡ y) × (c ∷ r ≡ d ∷ s)
span_told kind [] [] c d r s hx hy hc hd e = (refl, e)
span_told kind [] (b ∷ y) c d r s hx hy hc hd e =
    absurd (false≢true (sym hc ∙ ap kind (first_same c b r (y ++ d ∷ s) e) ∙ (and_parts (kind b) (list_all kind y) hy).0))
span_told kind (a ∷ x) [] c d r s hx hy hc hd e =
    absurd (false≢true (sym hd ∙ ap kind (sym (first_same a d (x ++ c ∷ r) s e)) ∙ (and_parts (kind a) (list_all kind x) hx).0))
span_told kind (a ∷ x) (b ∷ y) c d r s hx hy hc hd e =
    let behind = span_told kind x y c d r s (and_parts (kind a) (list_all kind x) hx).1 (and_parts (kind b) (list_all kind y) hy).1 hc hd (others_same a b (x ++ c ∷ r) (y ++ d ∷ s) e) in
    (ap (λ z. z ∷ x) (first_same a b (x ++ c ∷ r) (y ++ d ∷ s) e) ∙ ap (λ zs. b ∷ zs) behind.0, behind.1)

-- a text that begins with a character of another kind
pub record Stops (kind : ℕ → Bool) (text : List ℕ) : Type 0 where
  pub first : ℕ
  pub others : List ℕ
  pub split : text ≡ first ∷ others
  pub stops : kind first ≡ false

pub spans_told : (kind : ℕ → Bool) (x y r s : List ℕ) → list_all kind x ≡ true → list_all kind y ≡ true →
    Stops kind r → Stops kind s → x ++ r ≡ y ++ s → (x ≡ y) × (r ≡ s)
spans_told kind x y r s hx hy hr hs e =
    let whole = ap (λ t. x ++ t) (sym hr.split) ∙ e ∙ ap (λ t. y ++ t) hs.split in
    let told = span_told kind x y hr.first hs.first hr.others hs.others hx hy hr.stops hs.stops whole in
    (told.0, hr.split ∙ told.1 ∙ sym hs.split)
