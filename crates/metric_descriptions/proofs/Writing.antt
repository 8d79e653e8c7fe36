-- What writes of descriptions leave of a map, and what those say that wait.
use Rattle.std.proofs.Common.{◌≡◌, ℕ, Bool, true, false, cond, List, [], ◌∷◌, ◌++◌, fold, is_some, Option, Some, None, refl, sym, ap, ◌∙◌, subst, append-nil}
use Rattle.std.specs.List.{AllZip, AllByRecursion}
use Rattle.std.specs.Map.{lookup}
use Rattle.std.specs.Str.{bytes_eq}
use Rattle.std.specs.Cmp.Lexicographic.{nat_list_eq_equiv}
use Rattle.std.proofs.lemmas.Slice.Eq.{bytes_eq-Decides}
use Rattle.std.proofs.lemmas.List.Sums.{fold-append}
use Rattle.std.specs.Bool.{⊤}
use Rattle.metrics_core.specs.Texts.{cow_text}
use Rattle.value_bags.specs.declared.bag.BagForm.{BagForm}
use Rattle.value_bags.specs.declared.bag.BagForm.TheVariants.{Short}
use Rattle.value_bags.specs.Entries.{change}
use Rattle.evmap_contents.specs.declared.write.Write.{Write}
use Rattle.evmap_contents.specs.declared.write.Write.TheVariants.{Insert, Update, Clear, RemoveValue, RemoveEntry, Purge, Retain, Fit, FitAll, Reserve, RemovePlaces, SetMeta, Ready}
use Rattle.evmap_contents.specs.declared.write.Contents.{Contents}
use Rattle.evmap_contents.specs.Fold.{after, made_with}
use Rattle.metric_descriptions.specs.Descriptions.{Description, description_of, put_description}
use Rattle.metric_descriptions.specs.Written.{Text, said_of, Says, with_write, said_by, Describes, IsOfNewName}

-- ---- one text put under a name

put-entry : (b : Bool) (name : List ℕ) (text : Text) (e : List ℕ × BagForm Text) (es : List (List ℕ × BagForm Text)) (d : Description) (ds : List Description) → bytes_eq name e.0 ≡ b → Says e d → AllZip Says es ds
    → AllZip Says (change (bytes_eq name) name (λ _. Short (text ∷ [])) (Short (text ∷ [])) es) (put_description ds (said_of name text))
    → AllZip Says (cond b ((e.0, Short (text ∷ [])) ∷ es) (e ∷ change (bytes_eq name) name (λ _. Short (text ∷ [])) (Short (text ∷ [])) es)) (cond b (said_of name text ∷ ds) (d ∷ put_description ds (said_of name text)))
put-entry true name text e es d ds is h hs more = ((text, refl, ap (λ n. said_of n text) ((bytes_eq-Decides name e.0).0 is)), hs)
put-entry false name text e es d ds is h hs more = (h, more)

pub put : (name : List ℕ) (text : Text) (es : List (List ℕ × BagForm Text)) (ds : List Description) → AllZip Says es ds
    → AllZip Says (change (bytes_eq name) name (λ _. Short (text ∷ [])) (Short (text ∷ [])) es) (put_description ds (said_of name text))
put name text [] [] h = ((text, refl, refl), tt)
put name text (e ∷ es) (d ∷ ds) h =
    subst (λ b. AllZip Says (change (bytes_eq name) name (λ _. Short (text ∷ [])) (Short (text ∷ [])) (e ∷ es)) (cond b (said_of name text ∷ ds) (d ∷ put_description ds (said_of name text))))
    (nat_list_eq_equiv.symm name e.0 ∙ ap (λ (x : Description). bytes_eq x.name name) (sym h.0.2))
    (put-entry (bytes_eq name e.0) name text e es d ds refl h.0 h.1 (put name text es ds h.1))
put name text [] (d ∷ ds) h = absurd h
put name text (e ∷ es) [] h = absurd h

-- ---- writes

module _ {P : Type 0} (eq : Text → Text → Bool) (keeps : P → Text → Bool) where
  one : (w : Write (List ℕ) Text Unit P) → Describes w → (c : Contents (List ℕ) Text Unit) (ds : List Description) → AllZip Says c.entries ds → AllZip Says (after bytes_eq eq keeps c w).entries (with_write ds w)
  one (Update name text) k c ds h = put name text c.entries ds h
  one Ready k c ds h = h
  one (Insert _ _) k c ds h = absurd k
  one (Clear _) k c ds h = absurd k
  one (RemoveValue _ _) k c ds h = absurd k
  one (RemoveEntry _) k c ds h = absurd k
  one Purge k c ds h = absurd k
  one (Retain _ _) k c ds h = absurd k
  one (Fit _) k c ds h = absurd k
  one FitAll k c ds h = absurd k
  one (Reserve _ _) k c ds h = absurd k
  one (RemovePlaces _) k c ds h = absurd k
  one (SetMeta _) k c ds h = absurd k

  several : (ws : List (Write (List ℕ) Text Unit P)) → AllByRecursion Describes ws → (c : Contents (List ℕ) Text Unit) (ds : List Description) → AllZip Says c.entries ds
      → AllZip Says (fold (after bytes_eq eq keeps) c ws).entries (fold with_write ds ws)
  several [] k c ds h = h
  several (w ∷ ws) k c ds h = several ws k.1 (after bytes_eq eq keeps c w) (with_write ds w) (one w k.0 c ds h)

  -- writes of descriptions leave a map that says what they say
  pub leaves : (m : Unit {0}) (ws : List (Write (List ℕ) Text Unit P)) → AllByRecursion Describes ws → AllZip Says (fold (after bytes_eq eq keeps) (made_with m) ws).entries (said_by ws)
  leaves m ws k = several ws k (made_with m) [] tt

-- ---- looking a name up

-- a bag of one text, and a description with that text and unit
abbrev pub SaysThat : Option (BagForm Text) → Option Description → Type 0
SaysThat None None = ⊤
SaysThat None (Some _) = ⊥
SaysThat (Some _) None = ⊥
SaysThat (Some bag) (Some d) = (text : Text) × (bag ≡ Short (text ∷ [])) × (d.text ≡ cow_text text.0) × (d.unit ≡ text.1)

look-entry : (b : Bool) (name : List ℕ) (e : List ℕ × BagForm Text) (o : Option (BagForm Text)) (d : Description) (p : Option Description) → Says e d → SaysThat o p → SaysThat (cond b (Some e.1) o) (cond b (Some d) p)
look-entry true name e o d p h more = (h.0, h.1, ap (λ (x : Description). x.text) h.2, ap (λ (x : Description). x.unit) h.2)
look-entry false name e o d p h more = more

pub look : (name : List ℕ) (es : List (List ℕ × BagForm Text)) (ds : List Description) → AllZip Says es ds → SaysThat (lookup (bytes_eq name) es) (description_of ds name)
look name [] [] h = tt
look name (e ∷ es) (d ∷ ds) h =
    subst (λ b. SaysThat (lookup (bytes_eq name) (e ∷ es)) (cond b (Some d) (description_of ds name)))
    (nat_list_eq_equiv.symm name e.0 ∙ ap (λ (x : Description). bytes_eq x.name name) (sym h.0.2))
    (look-entry (bytes_eq name e.0) name e (lookup (bytes_eq name) es) d (description_of ds name) h.0 (look name es ds h.1))
look name [] (d ∷ ds) h = absurd h
look name (e ∷ es) [] h = absurd h

pub same-there : (o : Option (BagForm Text)) (p : Option Description) → SaysThat o p → is_some o ≡ is_some p
same-there None None h = refl
same-there (Some _) (Some _) h = refl
same-there None (Some _) h = absurd h
same-there (Some _) None h = absurd h

-- ---- what waits

behind-entry : (b : Bool) (ps qs : List Description) (p d : Description) → is_some (cond b (Some p) (description_of ps d.name)) ≡ false → (is_some (description_of ps d.name) ≡ false → put_description (ps ++ qs) d ≡ ps ++ put_description qs d)
    → cond b (d ∷ (ps ++ qs)) (p ∷ put_description (ps ++ qs) d) ≡ p ∷ (ps ++ put_description qs d)
behind-entry true ps qs p d new more = cc
behind-entry false ps qs p d new more = ap (λ xs. p ∷ xs) (more new)

put-behind : (ps qs : List Description) (d : Description) → is_some (description_of ps d.name) ≡ false → put_description (ps ++ qs) d ≡ ps ++ put_description qs d
put-behind [] qs d new = refl
put-behind (p ∷ ps) qs d new = behind-entry (bytes_eq p.name d.name) ps qs p d new (put-behind ps qs d)

module _ {P : Type 0} where
  write-behind : (w : Write (List ℕ) Text Unit P) (ps qs : List Description) → IsOfNewName ps w → with_write (ps ++ qs) w ≡ ps ++ with_write qs w
  write-behind (Update name text) ps qs new = put-behind ps qs (said_of name text) new
  write-behind Ready ps qs new = refl
  write-behind (Insert _ _) ps qs new = refl
  write-behind (Clear _) ps qs new = refl
  write-behind (RemoveValue _ _) ps qs new = refl
  write-behind (RemoveEntry _) ps qs new = refl
  write-behind Purge ps qs new = refl
  write-behind (Retain _ _) ps qs new = refl
  write-behind (Fit _) ps qs new = refl
  write-behind FitAll ps qs new = refl
  write-behind (Reserve _ _) ps qs new = refl
  write-behind (RemovePlaces _) ps qs new = refl
  write-behind (SetMeta _) ps qs new = refl

  writes-behind : (ws : List (Write (List ℕ) Text Unit P)) (ps qs : List Description) → AllByRecursion (IsOfNewName ps) ws → fold with_write (ps ++ qs) ws ≡ ps ++ fold with_write qs ws
  writes-behind [] ps qs new = refl
  writes-behind (w ∷ ws) ps qs new = ap (λ ds. fold with_write ds ws) (write-behind w ps qs new.0) ∙ writes-behind ws ps (with_write qs w) new.1

  -- writes of new names add what they say behind what was said
  pub said-behind : (shown waiting : List (Write (List ℕ) Text Unit P)) → AllByRecursion (IsOfNewName (said_by shown)) waiting → said_by (shown ++ waiting) ≡ said_by shown ++ said_by waiting
  said-behind shown waiting new =
      fold-append with_write [] shown waiting ∙ ap (λ ds. fold with_write ds waiting) (sym (append-nil (said_by shown))) ∙ writes-behind waiting (said_by shown) [] new

  pub said-one-more : (ws : List (Write (List ℕ) Text Unit P)) (w : Write (List ℕ) Text Unit P) → said_by (ws ++ w ∷ []) ≡ with_write (said_by ws) w
  said-one-more ws w = fold-append with_write [] ws (w ∷ [])

pub all-append : {X : Type 0} (Q : X → Type 0) (xs ys : List X) → AllByRecursion Q xs → AllByRecursion Q ys → AllByRecursion Q (xs ++ ys)
all-append Q [] ys h i = i
all-append Q (x ∷ xs) ys h i = (h.0, all-append Q xs ys h.1 i)
