-- What is pending.
use Rattle.std.proofs.Common.{◌≡◌, Bool, true, false, cond, List, [], ◌∷◌, ◌++◌, map, Result, Ok, Err, MatchResult, refl, ap, subst}
use Rattle.std.specs.declared.sync.Arc.{Arc}
use Rattle.evmap_contents.specs.declared.write.Write.{Write}
use Rattle.evmap_contents.specs.declared.write.Write.TheVariants.{Insert, Update, Clear, RemoveValue, RemoveEntry, Purge, Retain, Fit, FitAll, Reserve, RemovePlaces, SetMeta, Ready}
use Rattle.evmap_contents.specs.Views.{write_of}
use Rattle.evmap_core.specs.Front.{is_write, has_write}

pub has-more : {K V M P : Type 0} (ws : List (Write K V M P)) (w : Write K V M P) → is_write w ≡ true → has_write (ws ++ w ∷ []) ≡ true
has-more [] w e = ap (λ b. cond b true false) e
has-more (x ∷ ws) w e = by (is_write x) (has-more ws w e)
  where
    by : (b : Bool) → has_write (ws ++ w ∷ []) ≡ true → cond b true (has_write (ws ++ w ∷ [])) ≡ true
    by true h = refl
    by false h = h

module _ {K L : Type 0} (plain : K → L) {V M P Z : Type 0} where
  is-write-plain : (w : Write K (Arc V Z) (Arc M Z) P) → is_write (write_of plain w) ≡ is_write w
  is-write-plain (Insert k v) = refl
  is-write-plain (Update k v) = refl
  is-write-plain (Clear k) = refl
  is-write-plain (RemoveValue k v) = refl
  is-write-plain (RemoveEntry k) = refl
  is-write-plain Purge = refl
  is-write-plain (Retain k p) = refl
  is-write-plain (Fit k) = refl
  is-write-plain FitAll = refl
  is-write-plain (Reserve k n) = refl
  is-write-plain (RemovePlaces ps) = refl
  is-write-plain (SetMeta m) = refl
  is-write-plain Ready = refl

  -- a write is pending exactly where one is stored
  pub has-plain : (ws : List (Write K (Arc V Z) (Arc M Z) P)) → has_write (map (write_of plain) ws) ≡ has_write ws
  has-plain [] = refl
  has-plain (w ∷ ws) = λ j. cond (is-write-plain w j) true (has-plain ws j)

-- what holds in each of two cases, where the case is known
pub on-ok : {T E A : Type 0} (B : Type 0) (r : Result T E) (x : T) → r ≡ Ok x → MatchResult r (λ _. A) (λ _. B) → A
on-ok {T} {E} {A} B r x e h = subst (λ (z : Result T E). MatchResult z (λ _. A) (λ _. B)) e h

pub on-err : {T E B : Type 0} (A : Type 0) (r : Result T E) (x : E) → r ≡ Err x → MatchResult r (λ _. A) (λ _. B) → B
on-err {T} {E} {B} A r x e h = subst (λ (z : Result T E). MatchResult z (λ _. A) (λ _. B)) e h

pub matched : {T E : Type 0} {A C B D : Type 0} (r : Result T E) → (A → C) → (B → D) → MatchResult r (λ _. A) (λ _. B) → MatchResult r (λ _. C) (λ _. D)
matched (Ok x) f g h = f h
matched (Err e) f g h = g h
