-- What was written so far of rows and of blocks, and what is left.
use Rattle.std.proofs.Common.{◌≡◌, ℕ, ◌+◌, ◌<◌, List, [], ◌∷◌, ◌++◌, map, take, drop, get_or, length, sym, ap, subst, ◌∙◌, append-nil, append_assoc}
use Rattle.std.specs.Prelude.{Option, Some, flat_map, slice_get, option_map, ℤ}
use Rattle.std.proofs.Common.{None}
use Rattle.std.specs.List.{AllByRecursion}
use Rattle.std.specs.Iterator.{Yields}
use Rattle.std.specs.Map.Iter.{TakesFirst}
use Rattle.std.proofs.lemmas.Grind.{flat_map-append}
use Rattle.std.proofs.lemmas.List.{map-append, take-append-drop}
use Rattle.std.proofs.lemmas.Map.Iter.{rest_so_far, rest_more}
use Rattle.std.proofs.lemmas.Option.{same_Some}
use Rattle.std.proofs.lemmas.List.{take_more}
use Rattle.metrics_core.specs.Outside.{GrewByPrefix}
use Rattle.metrics_core.proofs.Grown.{grew_prefix-longer}
use Rattle.metrics_registry.specs.Live.{LiveSeries}
use Rattle.prom_exporter.specs.Rows.{kept_row, row_at, row_if}

-- what is a prefix of some bytes is one of more bytes
pub prefix_of_more : (a b : Option (List ℕ)) (some rest whole : List ℕ) → whole ≡ some ++ rest → GrewByPrefix a b some → GrewByPrefix a b whole
prefix_of_more a b some rest whole is prefix = subst (GrewByPrefix a b) (sym is) (grew_prefix-longer a b some rest prefix)

-- ---- a row

module _ {X : Type 0} (shown : X → ℤ) where
  row_found : (name labels : List ℕ) (cell : X) (o : Option (LiveSeries X)) → Some cell ≡ option_map (λ (s : LiveSeries X). s.cell) o → row_if shown name (Some labels) o ≡ kept_row shown name labels cell
  row_found name labels cell None e = cc
  row_found name labels cell (Some s) e = ap (kept_row shown name labels) (sym (same_Some cell s.cell e))

  pub row_at-found : (name : List ℕ) (label_sets : List (List ℕ)) (live : List (LiveSeries X)) (place : ℕ) (labels : List ℕ) (cell : X) → slice_get label_sets place ≡ Some labels → Some cell ≡ option_map (λ (s : LiveSeries X). s.cell) (slice_get live place)
      → row_at shown name label_sets live place ≡ kept_row shown name labels cell
  row_at-found name label_sets live place labels cell at found = ap (λ o. row_if shown name o (slice_get live place)) at ∙ row_found name labels cell (slice_get live place) found

pub row_pushed : (b f h s n e : List ℕ) → ((((b ++ f) ++ h) ++ s) ++ n) ++ e ≡ b ++ ((((f ++ h) ++ s) ++ n) ++ e)
row_pushed b f h s n e = simp append_assoc

-- ---- rows, one place after another

module _ (row : ℕ → List ℕ) (places : List ℕ) where
  pub rows-more : (bytes : List ℕ) (i : ℕ) → i < length places → (bytes ++ flat_map row (take i places)) ++ row (get_or places i 0) ≡ bytes ++ flat_map row (take (i + 1) places)
  rows-more bytes i here =
      append_assoc bytes (flat_map row (take i places)) (row (get_or places i 0))
      ∙ ap (λ l. bytes ++ l)
      (sym (ap (flat_map row) (take_more places i 0 here)
      ∙ flat_map-append row (take i places) (get_or places i 0 ∷ [])
      ∙ ap (λ l. flat_map row (take i places) ++ l) (append-nil (row (get_or places i 0)))))

  pub rows-rest : (bytes : List ℕ) (i : ℕ) → bytes ++ flat_map row places ≡ (bytes ++ flat_map row (take i places)) ++ flat_map row (drop i places)
  rows-rest bytes i =
      ap (λ l. bytes ++ flat_map row l) (sym (take-append-drop i places))
      ∙ ap (λ l. bytes ++ l) (flat_map-append row (take i places) (drop i places))
      ∙ sym (append_assoc bytes (flat_map row (take i places)) (flat_map row (drop i places)))

-- ---- blocks, one family after another

module _ {E X : Type 0} (block : X → List ℕ) (seen : E → X) where
  abbrev pub blocks : List E → List ℕ
  blocks es = flat_map block (map seen es)

  blocks-append : (es fs : List E) → blocks (es ++ fs) ≡ blocks es ++ blocks fs
  blocks-append es fs = ap (flat_map block) (map-append seen es fs) ∙ flat_map-append block (map seen es) (map seen fs)

  blocks-push : (es : List E) (e : E) → blocks (es ++ e ∷ []) ≡ blocks es ++ block (seen e)
  blocks-push es e = blocks-append es (e ∷ []) ∙ ap (λ l. blocks es ++ l) (append-nil (block (seen e)))

  -- a loop over all has gone over some, and others are left
  module _ {A : Type 0} (deref : A → E) (some : List A) where
    pub blocks-yielded : (all start left : List E) → start ≡ all → Yields (TakesFirst deref) start some left → blocks all ≡ blocks (map deref some) ++ blocks left
    blocks-yielded all start left from yielded = ap blocks (sym from ∙ rest_so_far deref some start left yielded) ∙ blocks-append (map deref some) left

    -- one more
    pub blocks-yielded_push : (x : A) → blocks (map deref (some ++ x ∷ [])) ≡ blocks (map deref some) ++ block (seen (deref x))
    blocks-yielded_push x = ap blocks (map-append deref some (x ∷ [])) ∙ blocks-push (map deref some) (deref x)

    pub blocks-yielded_more : (all start left after : List E) (x : A) (r : Option A) → start ≡ all → Yields (TakesFirst deref) start some left → r ≡ Some x → TakesFirst deref left r after
        → blocks all ≡ (blocks (map deref some) ++ block (seen (deref x))) ++ blocks after
    blocks-yielded_more all start left after x r from yielded is step =
        blocks-yielded all start left from yielded
        ∙ ap (λ l. blocks (map deref some) ++ blocks l) (rest_more deref left after r x is step)
        ∙ sym (append_assoc (blocks (map deref some)) (block (seen (deref x))) (blocks after))

-- what holds of each thing that is seen holds of one in the middle
pub all_yielded : {E X : Type 0} (Q : X → Type 0) (seen : E → X) (before after : List E) (e : E) → AllByRecursion Q (map seen (before ++ e ∷ after)) → Q (seen e)
all_yielded Q seen [] after e all = all.0
all_yielded Q seen (x ∷ before) after e all = all_yielded Q seen before after e all.1
