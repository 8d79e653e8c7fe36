-- Answers at the entries of an iterator, one after another.
use Rattle.std.proofs.Common.{◌≡◌, List, [], ◌∷◌, ◌++◌, map, refl, sym, ap, ◌∙◌, subst, append_assoc, append-nil}
use Rattle.std.specs.Fn.{Mut, Called}
use Rattle.std.specs.Map.Iter.{deref_pair}
use denote.Ref.{Bor}
use Rattle.value_bags.specs.Entries.{with_keys}
use Rattle.evmap_core.specs.Answered.{AnswersEach}

nothing_behind : {Y : Type 0} (before rest : List Y) → rest ≡ [] → before ++ rest ≡ before
nothing_behind [] rest e = e
nothing_behind (x ∷ before) rest e = ap (λ ys. x ∷ ys) (nothing_behind before rest e)

module _ {K W : Type 0} where
  -- the entry that was to come next is behind those so far
  pub shifted : (before : List (Bor K × Bor W)) (e : Bor K × Bor W) (rest others : List (K × W)) → rest ≡ deref_pair e ∷ others → map deref_pair (before ++ e ∷ []) ++ others ≡ map deref_pair before ++ rest
  shifted [] e rest others is = sym is
  shifted (x ∷ before) e rest others is = ap (λ ys. deref_pair x ∷ ys) (shifted before e rest others is)

  keys_shifted : {L : Type 0} (plain : K → L) (before : List (Bor K × Bor W)) (e : Bor K × Bor W) (others : List (L × W))
      → with_keys plain (map deref_pair (before ++ e ∷ [])) ++ others ≡ with_keys plain (map deref_pair before) ++ (plain e.0.now, e.1.now) ∷ others
  keys_shifted plain [] e others = refl
  keys_shifted plain (x ∷ before) e others = ap (λ ys. (plain x.0.now, x.1.now) ∷ ys) (keys_shifted plain before e others)

module _ {F K L W B R : Type 0} (plain : K → L) (seen : W → B) (g : Mut F (Bor K × (Bor B × Unit {0})) R) where
  -- whatever f answers at entries to come stands behind the answers at those before
  abbrev pub AnsweredSoFar : F → F → List (L × W) → List R → Type 0
  AnsweredSoFar first f before answers = (es : List (L × W)) (rs : List R) → AnswersEach plain seen g f es rs → AnswersEach plain seen g first (before ++ es) (answers ++ rs)

  pub answered_more : (first f h : F) (before : List (Bor K × Bor W)) (e : Bor K × Bor W) (shown : Bor B) (answers grown : List R) (r : R) → shown.now ≡ seen e.1.now → Called g f (e.0, (shown, tt)) r h → grown ≡ answers ++ r ∷ []
      → AnsweredSoFar first f (with_keys plain (map deref_pair before)) answers → AnsweredSoFar first h (with_keys plain (map deref_pair (before ++ e ∷ []))) grown
  answered_more first f h before e shown answers grown r is called more far es rs there =
      let p = far ((plain e.0.now, e.1.now) ∷ es) (r ∷ rs) (h, record { key = e.0; bag = shown; shows = (refl, is); called = called }, there) in
      subst (λ z. AnswersEach plain seen g first z (grown ++ rs)) (sym (keys_shifted plain before e es))
      (subst (λ z. AnswersEach plain seen g first (with_keys plain (map deref_pair before) ++ (plain e.0.now, e.1.now) ∷ es) z) (sym (append_assoc answers (r ∷ []) rs) ∙ ap (λ z. z ++ rs) (sym more)) p)

  pub answered_all : (first f : F) (before : List (Bor K × Bor W)) (rest entries : List (K × W)) (answers : List R) → rest ≡ [] → map deref_pair before ++ rest ≡ entries
      → AnsweredSoFar first f (with_keys plain (map deref_pair before)) answers → AnswersEach plain seen g first (with_keys plain entries) answers
  answered_all first f before rest entries answers none all far =
      subst (λ es. AnswersEach plain seen g first (with_keys plain es) answers) (sym (nothing_behind (map deref_pair before) rest none) ∙ all)
      (subst (λ es. AnswersEach plain seen g first es answers) (append-nil (with_keys plain (map deref_pair before)))
      (subst (λ rs. AnswersEach plain seen g first (with_keys plain (map deref_pair before) ++ []) rs) (append-nil answers) (far [] [] tt)))

  pub answered_same : (first : F) (es fs : List (K × W)) (answers : List R) → es ≡ fs → AnswersEach plain seen g first (with_keys plain es) answers → AnswersEach plain seen g first (with_keys plain fs) answers
  answered_same first es fs answers is = subst (λ es. AnswersEach plain seen g first (with_keys plain es) answers) is
