-- Keys that are kept one behind the other: one more, and the one at a place.
use Rattle.std.proofs.Common.{◌≡◌, ℕ, zero, suc, ◌+◌, ◌-◌, ◌<◌, ◌≤◌, true, List, [], ◌∷◌, ◌++◌, length, take, drop, get_or, Some, refl, sym, ap, subst, ◌∙◌, arith, append_assoc, length-append, zero-add}
use Rattle.std.specs.Prelude.{flat_map, nat_lt, slice_get, slice_range}
use Rattle.std.proofs.Math.Seq.{take-append_seam, drop-append_seam}
use Rattle.std.proofs.lemmas.Grind.{flat_map-append}
use Rattle.std.proofs.lemmas.Bool.Decides.{nat_tests}
use Rattle.std.proofs.lemmas.List.{append-nil, map_push}
use Rattle.std.proofs.lemmas.Option.{none-some, same_Some, slice_get-get_or}
use Rattle.metrics_core.specs.Keys.{KeyText}
use Rattle.dsd_writer.specs.Lines.{tags_text}
use Rattle.dsd_writer.specs.Kept.{AreKept, StandInOrder, StandsFrom, keys_at, kept_text}
use Rattle.dsd_writer.specs.declared.kept_keys.KeptPlace.{KeptPlace}

-- the text of the keys at these places
abbrev pub text_at : List KeptPlace → List ℕ
text_at places = flat_map kept_text (keys_at places)

-- the text of a key ends where its place does
pub ends : (begin : ℕ) (place : KeptPlace) → StandsFrom begin place → place.end ≡ begin + length (kept_text place.key.value)
ends begin place stands = omega (arith, stands.name, stands.tags, length-append place.key.value.name (tags_text place.key.value.labels))

-- what stands behind the first key ends where all of them do
behind_first : (begin : ℕ) (place : KeptPlace) (places : List KeptPlace) → StandsFrom begin place → begin + length (text_at (place ∷ places)) ≡ place.end + length (text_at places)
behind_first begin place places stands = omega (arith, ends begin place stands, length-append (kept_text place.key.value) (text_at places))

-- ---- one more

order-more : (begin : ℕ) (places : List KeptPlace) (place : KeptPlace) → StandInOrder begin places → StandsFrom (begin + length (text_at places)) place → StandInOrder begin (places ++ place ∷ [])
order-more begin [] place order stands = (subst (λ n. StandsFrom n place) (let none : begin + 0 ≡ begin = omega arith in none) stands, tt)
order-more begin (p ∷ places) place order stands =
    (order.0, order-more p.end places place order.1 (subst (λ n. StandsFrom n place) (behind_first begin p places order.0) stands))

pub are-more : (text : List ℕ) (places : List KeptPlace) (place : KeptPlace) (key : KeyText) → AreKept text places → StandsFrom (length text) place → place.key.value ≡ key → AreKept (text ++ kept_text key) (places ++ place ∷ [])
are-more text places place key kept stands is = record {
  whole =
      ap (λ t. t ++ kept_text key) kept.whole
      ∙ ap (λ k. text_at places ++ kept_text k) (sym is)
      ∙ ap (λ t. text_at places ++ t) (sym (append-nil (kept_text place.key.value)))
      ∙ sym (flat_map-append kept_text (keys_at places) (place.key.value ∷ []))
      ∙ ap (flat_map kept_text) (sym (map_push (λ (p : KeptPlace). p.key.value) places place));
  in_order = order-more 0 places place kept.in_order (subst (λ n. StandsFrom n place) (ap length kept.whole ∙ sym (zero-add (length (text_at places)))) stands);
}

pub keys-more : (places : List KeptPlace) (place : KeptPlace) (key : KeyText) → place.key.value ≡ key → keys_at (places ++ place ∷ []) ≡ keys_at places ++ key ∷ []
keys-more places place key is = map_push (λ (p : KeptPlace). p.key.value) places place ∙ ap (λ k. keys_at places ++ k ∷ []) is

-- ---- the one at a place

-- the name and the tags of the key stand there in the text
pub record StandsIn (text : List ℕ) (place : KeptPlace) : Type 0 where
  pub begins : place.begin ≤ place.middle
  pub ends : place.middle ≤ place.end
  pub within : place.end ≤ length text
  pub name : slice_range text place.begin place.middle ≡ place.key.value.name
  pub tags : slice_range text place.middle place.end ≡ tags_text place.key.value.labels

-- a part of a text, behind so many bytes
part : (front text rest : List ℕ) (begin end : ℕ) → begin ≡ length front → end ≡ begin + length text → slice_range (front ++ (text ++ rest)) begin end ≡ text
part front text rest begin end first last =
    let long : end - begin ≡ length text = omega (arith, last) in
    ap (λ n. take (end - begin) (drop n (front ++ (text ++ rest)))) first
    ∙ ap (take (end - begin)) (drop-append_seam front (text ++ rest))
    ∙ ap (λ n. take n (text ++ rest)) long
    ∙ take-append_seam text rest

stands-in : (front rest : List ℕ) (begin : ℕ) (place : KeptPlace) → begin ≡ length front → StandsFrom begin place → StandsIn (front ++ (kept_text place.key.value ++ rest)) place
stands-in front rest begin place first stands =
    let name = place.key.value.name in
    let tags = tags_text place.key.value.labels in
    let whole : front ++ ((name ++ tags) ++ rest) ≡ front ++ (name ++ (tags ++ rest)) = ap (λ t. front ++ t) (append_assoc name tags rest) in
    let behind : front ++ (name ++ (tags ++ rest)) ≡ (front ++ name) ++ (tags ++ rest) = sym (append_assoc front name (tags ++ rest)) in
    let middle : place.middle ≡ length (front ++ name) = omega (arith, first, stands.name, length-append front name) in
    record {
      begins = omega (arith, stands.begins, stands.name);
      ends = omega (arith, stands.tags);
      within = omega (arith, first, stands.name, stands.tags, length-append front ((name ++ tags) ++ rest), length-append (name ++ tags) rest, length-append name tags);
      name = ap (λ t. slice_range t place.begin place.middle) whole ∙ part front name (tags ++ rest) place.begin place.middle (stands.begins ∙ first) (let e : place.middle ≡ place.begin + length name = omega (arith, stands.begins, stands.name) in e);
      tags = ap (λ t. slice_range t place.middle place.end) (whole ∙ behind) ∙ part (front ++ name) tags rest place.middle place.end middle stands.tags;
    }

found-from : (front : List ℕ) (begin : ℕ) (places : List KeptPlace) (n : ℕ) (place : KeptPlace) → begin ≡ length front → StandInOrder begin places → slice_get places n ≡ Some place → StandsIn (front ++ text_at places) place
found-from front begin [] n place first order at = absurd (none-some place at)
found-from front begin (p ∷ places) zero place first order at =
    subst (StandsIn (front ++ text_at (p ∷ places))) (same_Some p place at) (stands-in front (text_at places) begin p first order.0)
found-from front begin (p ∷ places) (suc n) place first order at =
    let text = kept_text p.key.value in
    let next : p.end ≡ length (front ++ text) = omega (arith, first, ends begin p order.0, length-append front text) in
    subst (λ t. StandsIn t place) (append_assoc front text (text_at places)) (found-from (front ++ text) p.end places n place next order.1 at)

stands-at : (text : List ℕ) (places : List KeptPlace) (n : ℕ) (place : KeptPlace) → AreKept text places → slice_get places n ≡ Some place → StandsIn text place
stands-at text places n place kept at = subst (λ t. StandsIn t place) (sym kept.whole) (found-from [] 0 places n place refl kept.in_order at)

within : {i n : ℕ} → nat_lt i n ≡ true → i < n
within {i} {n} is = grind (arith, nat_tests)

-- what the program finds at a place
pub found-at : (text bytes : List ℕ) (items places : List KeptPlace) (n : ℕ) (place : KeptPlace) → bytes ≡ text → places ≡ items → true ≡ nat_lt n (length places) → place ≡ get_or places n place
    → AreKept text items → StandsIn bytes place × (slice_get items n ≡ Some place)
found-at text bytes items places n place same listed inside is kept =
    let there : slice_get items n ≡ Some place = ap (λ l. slice_get l n) (sym listed) ∙ slice_get-get_or places n place (within (sym inside)) ∙ ap Some (sym is) in
    (subst (λ t. StandsIn t place) (sym same) (stands-at text items n place kept there), there)
