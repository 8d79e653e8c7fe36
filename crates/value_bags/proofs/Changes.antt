-- A change of a key's bag, seen through plain keys.
use Rattle.std.proofs.Common.{◌≡◌, ℕ, ◌+◌, Bool, true, false, not, nat_lt, cond, List, [], ◌∷◌, ◌++◌, suc, length, position, Option, Some, None, Result, Ok, Err, MatchResult, refl, sym, ap, ◌∙◌, subst, arith}
use Rattle.std.specs.List.{position_or_len, swap_remove}
use Rattle.std.specs.Option.{option_map_or}
use Rattle.std.specs.Map.{lookup, set_value, keys_of}
use Rattle.std.proofs.lemmas.Map.Steps.{set_value_same}
use Rattle.indexmap.specs.IndexMap.{insert_entry, swap_remove_entry}
use Rattle.indexmap.proofs.SetLemmas.{map-swap_remove}
use Rattle.value_bags.specs.Entries.{change, alter, with_keys}

module _ {K L : Type 0} (eq : K → K → Bool) (plain : K → L) (same : L → L → Bool) (agrees : (a b : K) → eq a b ≡ same (plain a) (plain b)) where
  -- keys that are seen alike test alike
  pub same_test : (a b : K) → plain a ≡ plain b → eq a ≡ eq b
  same_test a b e = λ j x. (agrees a x ∙ ap (λ p. same p (plain x)) e ∙ sym (agrees b x)) j

  module _ {B : Type 0} (k : K) (f : B → B) (made : B) where
    at_true : (e : K × B) (es : List (K × B)) → eq k e.0 ≡ true → change (same (plain k)) (plain k) f made (with_keys plain (e ∷ es)) ≡ (plain e.0, f e.1) ∷ with_keys plain es
    at_true e es t = ap (λ c. cond c ((plain e.0, f e.1) ∷ with_keys plain es) ((plain e.0, e.1) ∷ change (same (plain k)) (plain k) f made (with_keys plain es))) (sym (agrees k e.0) ∙ t)

    at_false : (e : K × B) (es : List (K × B)) → eq k e.0 ≡ false
        → change (same (plain k)) (plain k) f made (with_keys plain (e ∷ es)) ≡ (plain e.0, e.1) ∷ change (same (plain k)) (plain k) f made (with_keys plain es)
    at_false e es t = ap (λ c. cond c ((plain e.0, f e.1) ∷ with_keys plain es) ((plain e.0, e.1) ∷ change (same (plain k)) (plain k) f made (with_keys plain es))) (sym (agrees k e.0) ∙ t)

    -- where no key passes, the key goes last
    pub change-absent : (es : List (K × B)) → lookup (eq k) es ≡ None → change (same (plain k)) (plain k) f made (with_keys plain es) ≡ with_keys plain es ++ (plain k, made) ∷ []
    change-absent [] none = refl
    change-absent (e ∷ es) none = by (eq k e.0) refl (change-absent es)
      where
        by : (b : Bool) → eq k e.0 ≡ b
            → (lookup (eq k) es ≡ None → change (same (plain k)) (plain k) f made (with_keys plain es) ≡ with_keys plain es ++ (plain k, made) ∷ [])
            → change (same (plain k)) (plain k) f made (with_keys plain (e ∷ es)) ≡ with_keys plain (e ∷ es) ++ (plain k, made) ∷ []
        by true t _ = absurd (let h : Some e.1 ≡ None = sym (ap (λ b. cond b (Some e.1) (lookup (eq k) es)) t) ∙ none in cc)
        by false t more =
            let rest : lookup (eq k) es ≡ None = sym (ap (λ b. cond b (Some e.1) (lookup (eq k) es)) t) ∙ none in
            at_false e es t ∙ ap (λ l. (plain e.0, e.1) ∷ l) (more rest)

    -- where a key passes, its bag changes in its place
    pub change-present : (b : B) (es : List (K × B)) → lookup (eq k) es ≡ Some b → change (same (plain k)) (plain k) f made (with_keys plain es) ≡ with_keys plain (set_value (eq k) es (f b))
    change-present b [] some = absurd (let h : None ≡ Some b = some in cc)
    change-present b (e ∷ es) some = by (eq k e.0) refl (change-present b es)
      where
        by : (t : Bool) → eq k e.0 ≡ t
            → (lookup (eq k) es ≡ Some b → change (same (plain k)) (plain k) f made (with_keys plain es) ≡ with_keys plain (set_value (eq k) es (f b)))
            → change (same (plain k)) (plain k) f made (with_keys plain (e ∷ es)) ≡ with_keys plain (set_value (eq k) (e ∷ es) (f b))
        by true t _ =
            let h : Some e.1 ≡ Some b = sym (ap (λ c. cond c (Some e.1) (lookup (eq k) es)) t) ∙ some in
            let here : e.1 ≡ b = cc in
            at_true e es t ∙ ap (λ x. (plain e.0, f x) ∷ with_keys plain es) here
            ∙ ap (with_keys plain) (sym (ap (λ c. cond c ((e.0, f b) ∷ es) (e ∷ set_value (eq k) es (f b))) t))
        by false t more =
            let rest : lookup (eq k) es ≡ Some b = sym (ap (λ c. cond c (Some e.1) (lookup (eq k) es)) t) ∙ some in
            at_false e es t ∙ ap (λ l. (plain e.0, e.1) ∷ l) (more rest)
            ∙ ap (with_keys plain) (sym (ap (λ c. cond c ((e.0, f b) ∷ es) (e ∷ set_value (eq k) es (f b))) t))

  -- a new key goes last
  pub insert_entry-last : {B : Type 0} (k : K) (b : B) (es : List (K × B)) → lookup (eq k) es ≡ None → with_keys plain (insert_entry eq es k b) ≡ with_keys plain es ++ (plain k, b) ∷ []
  insert_entry-last k b [] none = refl
  insert_entry-last {B} k b (e ∷ es) none = by (eq k e.0) refl (insert_entry-last k b es)
    where
      by : (t : Bool) → eq k e.0 ≡ t → (lookup (eq k) es ≡ None → with_keys plain (insert_entry eq es k b) ≡ with_keys plain es ++ (plain k, b) ∷ [])
          → with_keys plain (insert_entry eq (e ∷ es) k b) ≡ with_keys plain (e ∷ es) ++ (plain k, b) ∷ []
      by true t _ = absurd (let h : Some e.1 ≡ None = sym (ap (λ c. cond c (Some e.1) (lookup (eq k) es)) t) ∙ none in cc)
      by false t more =
          let rest : lookup (eq k) es ≡ None = sym (ap (λ c. cond c (Some e.1) (lookup (eq k) es)) t) ∙ none in
          ap (λ c. with_keys plain (cond c ((e.0, b) ∷ es) (e ∷ insert_entry eq es k b))) t ∙ ap (λ l. (plain e.0, e.1) ∷ l) (more rest)

  module _ {B : Type 0} (k : K) (f : B → B) (made : B) (es new : List (K × B)) where
    -- a bag written in the place of one that is there
    pub written : (b w : B) → new ≡ set_value (eq k) es w → w ≡ f b → lookup (eq k) es ≡ Some b → with_keys plain new ≡ change (same (plain k)) (plain k) f made (with_keys plain es)
    written b w e is some = ap (with_keys plain) e ∙ ap (λ x. with_keys plain (set_value (eq k) es x)) is ∙ sym (change-present k f made b es some)

    -- a bag of a key that is not there
    pub added : (made' : B) (es' : List (K × B)) → with_keys plain new ≡ with_keys plain es' ++ (plain k, made') ∷ [] → made' ≡ made → es' ≡ es → lookup (eq k) es ≡ None
        → with_keys plain new ≡ change (same (plain k)) (plain k) f made (with_keys plain es)
    added made' es' e is stays none = e ∙ (λ j. with_keys plain (stays j) ++ (plain k, is j) ∷ []) ∙ sym (change-absent k f made es none)

  -- a copy of a key that is not there goes last, as the key itself
  pub copy-last : {B : Type 0} (k copy : K) (b : B) (es new : List (K × B)) → new ≡ insert_entry eq es copy b → plain copy ≡ plain k → lookup (eq k) es ≡ None → with_keys plain new ≡ with_keys plain es ++ (plain k, b) ∷ []
  copy-last k copy b es new e alike none =
      ap (with_keys plain) e ∙ insert_entry-last copy b es (subst (λ t. lookup t es ≡ None) (sym (same_test copy k alike)) none) ∙ ap (λ p. with_keys plain es ++ (p, b) ∷ []) alike

  module _ {B : Type 0} where
    place : (t : L → Bool) (es : List (K × B)) → position_or_len t (keys_of (with_keys plain es)) ≡ position_or_len (λ x. t (plain x)) (keys_of es)
    place t [] = refl
    place t (e ∷ es) = ap (λ n. cond (not (t (plain e.0))) (1 + n) 0) (place t es)

    many : (es : List (K × B)) → length (keys_of (with_keys plain es)) ≡ length (keys_of es)
    many [] = refl
    many (e ∷ es) = ap suc (many es)

    found : (t : L → Bool) (es : List (K × B)) → position t (keys_of (with_keys plain es)) ≡ position (λ x. t (plain x)) (keys_of es)
    found t es = λ j. cond (nat_lt (place t es j) (many es j)) (Some (place t es j)) None

    taken : (e : K × B) (es : List (K × B)) (o : Option ℕ)
        → with_keys plain (option_map_or (λ i. swap_remove (e ∷ es) i e) o (e ∷ es)) ≡ option_map_or (λ i. swap_remove (with_keys plain (e ∷ es)) i (plain e.0, e.1)) o (with_keys plain (e ∷ es))
    taken e es None = refl
    taken e es (Some i) = map-swap_remove (λ (x : K × B). (plain x.0, x.1)) (e ∷ es) i e (omega arith)

    -- removing a key is seen through plain keys
    pub swap_remove_entry-plain : (t : L → Bool) (es : List (K × B)) → with_keys plain (swap_remove_entry (λ x. t (plain x)) es) ≡ swap_remove_entry t (with_keys plain es)
    swap_remove_entry-plain t [] = refl
    swap_remove_entry-plain t (e ∷ es) =
        taken e es (position (λ x. t (plain x)) (keys_of (e ∷ es)))
        ∙ ap (λ o. option_map_or (λ i. swap_remove (with_keys plain (e ∷ es)) i (plain e.0, e.1)) o (with_keys plain (e ∷ es))) (sym (found t (e ∷ es)))

    pub removed : (k : K) (es new : List (K × B)) → new ≡ swap_remove_entry (eq k) es → with_keys plain new ≡ swap_remove_entry (same (plain k)) (with_keys plain es)
    removed k es new e = ap (with_keys plain) (e ∙ ap (λ t. swap_remove_entry t es) (λ j x. agrees k x j)) ∙ swap_remove_entry-plain (same (plain k)) es

-- a bag written back changes nothing
pub kept : {K B : Type 0} (test : K → Bool) (es new : List (K × B)) (b w : B) → new ≡ set_value test es w → w ≡ b → lookup test es ≡ Some b → new ≡ es
kept test es new b w e is some = e ∙ ap (set_value test es) is ∙ set_value_same test es b some

-- what holds in each of two cases, passed on
pub matched : {T E : Type 0} {A C B D : Type 0} (r : Result T E) → (A → C) → (B → D) → MatchResult r (λ _. A) (λ _. B) → MatchResult r (λ _. C) (λ _. D)
matched (Ok x) f g h = f h
matched (Err e) f g h = g h

pub matched_both : {T E : Type 0} {A A' C B B' D : Type 0} (r : Result T E) → (A → A' → C) → (B → B' → D) → MatchResult r (λ _. A) (λ _. B) → MatchResult r (λ _. A') (λ _. B') → MatchResult r (λ _. C) (λ _. D)
matched_both (Ok x) f g h i = f h i
matched_both (Err e) f g h i = g h i

module _ {K L : Type 0} (eq : K → K → Bool) (plain : K → L) (same : L → L → Bool) (agrees : (a b : K) → eq a b ≡ same (plain a) (plain b)) {B : Type 0} where
  -- a look-up is seen through plain keys
  pub lookup-plain : (k : K) (es : List (K × B)) → lookup (eq k) es ≡ lookup (same (plain k)) (with_keys plain es)
  lookup-plain k [] = refl
  lookup-plain k (e ∷ es) = λ j. cond (agrees k e.0 j) (Some e.1) (lookup-plain k es j)

-- an entry that the look-up finds changes in its place
pub alter-present : {K L B : Type 0} (eq : K → K → Bool) (plain : K → L) (same : L → L → Bool) (agrees : (a b : K) → eq a b ≡ same (plain a) (plain b)) (k : K) (f : B → B) (b : B) (es : List (K × B))
    → lookup (eq k) es ≡ Some b → alter (same (plain k)) f (with_keys plain es) ≡ with_keys plain (set_value (eq k) es (f b))
alter-present eq plain same agrees k f b [] some = absurd (let h : None ≡ Some b = some in cc)
alter-present {K} {L} {B} eq plain same agrees k f b (e ∷ es) some = by (eq k e.0) refl (alter-present eq plain same agrees k f b es)
  where
    by : (t : Bool) → eq k e.0 ≡ t → (lookup (eq k) es ≡ Some b → alter (same (plain k)) f (with_keys plain es) ≡ with_keys plain (set_value (eq k) es (f b)))
        → alter (same (plain k)) f (with_keys plain (e ∷ es)) ≡ with_keys plain (set_value (eq k) (e ∷ es) (f b))
    by true t _ =
        let h : Some e.1 ≡ Some b = sym (ap (λ c. cond c (Some e.1) (lookup (eq k) es)) t) ∙ some in
        let here : e.1 ≡ b = cc in
        ap (λ c. cond c ((plain e.0, f e.1) ∷ with_keys plain es) ((plain e.0, e.1) ∷ alter (same (plain k)) f (with_keys plain es))) (sym (agrees k e.0) ∙ t) ∙ ap (λ x. (plain e.0, f x) ∷ with_keys plain es) here
        ∙ ap (with_keys plain) (sym (ap (λ c. cond c ((e.0, f b) ∷ es) (e ∷ set_value (eq k) es (f b))) t))
    by false t more =
        let rest : lookup (eq k) es ≡ Some b = sym (ap (λ c. cond c (Some e.1) (lookup (eq k) es)) t) ∙ some in
        ap (λ c. cond c ((plain e.0, f e.1) ∷ with_keys plain es) ((plain e.0, e.1) ∷ alter (same (plain k)) f (with_keys plain es))) (sym (agrees k e.0) ∙ t) ∙ ap (λ l. (plain e.0, e.1) ∷ l) (more rest)
        ∙ ap (with_keys plain) (sym (ap (λ c. cond c ((e.0, f b) ∷ es) (e ∷ set_value (eq k) es (f b))) t))

-- where no key passes, nothing changes
pub alter-absent : {K B : Type 0} (test : K → Bool) (f : B → B) (es : List (K × B)) → lookup test es ≡ None → alter test f es ≡ es
alter-absent test f [] none = refl
alter-absent {K} {B} test f (e ∷ es) none = by (test e.0) refl (alter-absent test f es)
  where
    by : (t : Bool) → test e.0 ≡ t → (lookup test es ≡ None → alter test f es ≡ es) → alter test f (e ∷ es) ≡ e ∷ es
    by true t _ = absurd (let h : Some e.1 ≡ None = sym (ap (λ b. cond b (Some e.1) (lookup test es)) t) ∙ none in cc)
    by false t more =
        let rest : lookup test es ≡ None = sym (ap (λ b. cond b (Some e.1) (lookup test es)) t) ∙ none in
        ap (λ c. cond c ((e.0, f e.1) ∷ es) (e ∷ alter test f es)) t ∙ ap (λ l. e ∷ l) (more rest)
