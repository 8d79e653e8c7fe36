-- Tags: what is read is their spelling, and each spelling is read.
use Rattle.std.proofs.Common.{◌≡◌, ℕ, ◌+◌, ◌<◌, false, List, [], ◌∷◌, ◌++◌, map, length, Option, Some, None, refl, sym, ap, subst, ◌∙◌, append-nil, arith}
use Rattle.std.specs.Prelude.{All, nat_lt}
use Rattle.std.specs.List.{AllZip, join_with_byte, position_or_len, before_first, after_first}
use Rattle.std.proofs.lemmas.List.{length-map}
use Rattle.std.proofs.lemmas.List.Elements.{All-nil, All-cons, All-head, All-tail, All-append, All-take, All-drop}
use Rattle.std.proofs.lemmas.Option.{cond_some, same_Some}
use Rattle.metrics_core.specs.Characters.{comma, colon}
use Rattle.metrics_core.specs.Keys.{LabelText}
use Rattle.dsd_writer.specs.Lines.{tag_text, value_behind}
use Rattle.dsd_lines.specs.Grammar.{IsPlain, IsTag, IsTagValue, bar, ends_key, ends_value}
use Rattle.dsd_lines.specs.Reading.{◌>>=◌, is, pieces, behind_first, each, plain_of, tag_value_of, tag_of, tags_of}
use Rattle.dsd_lines.proofs.Decimals.{bind_some}
use Rattle.dsd_lines.proofs.Joined.{Free, with_stop, cut_whole, cut_nowhere, cut_there, before_free, pieces_free, pieces_keep, pieces_some, pieces_join, join_pieces}
use Rattle.dsd_lines.proofs.Plain.{plain_takes, plain_again, key_ends, value_ends, key_apart, value_apart}

-- ---- each of some texts

module _ {A : Type 0} (read : List ℕ → Option A) (P : List ℕ → Type 0) (Spells : List ℕ → A → Type 0) where
  pub each_takes : ((text : List ℕ) (a : A) → P text → read text ≡ Some a → Spells text a) → (texts : List (List ℕ)) (xs : List A) → All P texts → each read texts ≡ Some xs → AllZip Spells texts xs
  each_takes takes [] xs all e = subst (AllZip Spells []) (same_Some [] xs e) tt
  each_takes takes (text ∷ texts) xs all e =
      let m = bind_some (read text) (λ first. each read texts >>= λ others. Some (first ∷ others)) xs e in
      let k = bind_some (each read texts) (λ others. Some (m.0 ∷ others)) xs m.2 in
      subst (AllZip Spells (text ∷ texts)) (same_Some (m.0 ∷ k.0) xs k.2)
      (takes text m.0 (All-head P text texts all) m.1, each_takes takes texts k.0 (All-tail P text texts all) k.1)

  pub each_again : ((text : List ℕ) (a : A) → Spells text a → read text ≡ Some a) → (texts : List (List ℕ)) (xs : List A) → AllZip Spells texts xs → each read texts ≡ Some xs
  each_again again [] [] h = refl
  each_again again [] (x ∷ xs) h = absurd h
  each_again again (text ∷ texts) [] h = absurd h
  each_again again (text ∷ texts) (x ∷ xs) h = rw (again text x h.0, each_again again texts xs h.1) refl

-- ---- one tag

abbrev Spelled : List ℕ → LabelText → Type 0
Spelled text tag = (text ≡ tag_text tag) × IsTag tag

value_is : (value : List ℕ) → IsPlain ends_value value → IsTagValue value
value_is [] h = tt
value_is (c ∷ value) h = h

behind_colon : (value : List ℕ) → 0 < length value → value_behind value ≡ colon ∷ value
behind_colon [] some = absurd (omega (arith, some))
behind_colon (c ∷ value) some = refl

-- what stands behind the first colon has what holds of each character of the text
behind_keeps : (P : ℕ → Type 0) (text rest : List ℕ) → behind_first colon text ≡ Some rest → All P text → All P rest
behind_keeps P text rest e all =
    let n = position_or_len (is colon) text in
    subst (All P) (cond_some (nat_lt n (length text)) (after_first (is colon) text) rest e).1 (All-drop P (n + 1) text all)

abbrev IsValueBehind : Option (List ℕ) → List ℕ → Type 0
IsValueBehind behind value = (with_stop colon behind ≡ value_behind value) × IsTagValue value

value_takes : (text value : List ℕ) (behind : Option (List ℕ)) → behind_first colon text ≡ behind → Free comma text → Free bar text → tag_value_of behind ≡ Some value → IsValueBehind behind value
value_takes text value None found no_comma no_bar e = subst (IsValueBehind None) (same_Some [] value e) (refl, tt)
value_takes text value (Some rest) found no_comma no_bar e =
    let h = plain_takes rest value e in
    let free_comma = behind_keeps (λ c. is comma c ≡ false) text rest found no_comma in
    let free_bar = behind_keeps (λ c. is bar c ≡ false) text rest found no_bar in
    let plain : IsPlain ends_value rest = record { some = h.1; utf8 = h.2; none = λ k d within. value_ends _ (free_comma k d within) (free_bar k d within) (h.3 k d within) } in
    subst (IsValueBehind (Some rest)) h.0 (sym (behind_colon rest h.1), value_is rest plain)

tag_takes : (text : List ℕ) (tag : LabelText) → Free comma text × Free bar text → tag_of text ≡ Some tag → Spelled text tag
unfolding tag_of
tag_takes text tag free e =
    let front = before_first (is colon) text in
    let behind = behind_first colon text in
    let m = bind_some (plain_of front) (λ key. tag_value_of behind >>= λ value. Some (record { key = key; value = value })) tag e in
    let k = bind_some (tag_value_of behind) (λ value. Some (record { key = m.0; value = value })) tag m.2 in
    let key = plain_takes front m.0 m.1 in
    let value = value_takes text k.0 behind refl free.0 free.1 k.1 in
    let n = position_or_len (is colon) text in
    let no_comma = All-take (λ c. is comma c ≡ false) n text free.0 in
    let no_bar = All-take (λ c. is bar c ≡ false) n text free.1 in
    let no_colon = before_free colon text in
    let plain : IsPlain ends_key front = record { some = key.1; utf8 = key.2; none = λ k d within. key_ends _ (no_comma k d within) (no_colon k d within) (no_bar k d within) (key.3 k d within) } in
    subst (Spelled text) (same_Some (record { key = m.0; value = k.0 }) tag k.2)
    (cut_whole colon text ∙ (λ j. key.0 j ++ value.0 j), (subst (IsPlain ends_key) key.0 plain, value.1))

tag_again : (text : List ℕ) (tag : LabelText) → Spelled text tag → tag_of text ≡ Some tag
unfolding tag_of
tag_again text tag h = ap tag_of h.0 ∙ by tag.key tag.value h.1.0 h.1.1
  where
    by : (key value : List ℕ) → IsPlain ends_key key → IsTagValue value → tag_of (key ++ value_behind value) ≡ Some (record { key = key; value = value })
    by key [] k v =
        let cut = cut_nowhere colon key (λ i d within. (key_apart _ (k.none i d within)).1) in
        ap tag_of (append-nil key) ∙ rw (cut.0, cut.1, plain_again ends_key key (λ c e. (key_apart c e).3) k) refl
    by key (c ∷ value) k v =
        let cut = cut_there colon key (c ∷ value) (λ i d within. (key_apart _ (k.none i d within)).1) in
        rw (cut.0, cut.1, plain_again ends_key key (λ c e. (key_apart c e).3) k, plain_again ends_value (c ∷ value) (λ c e. (value_apart c e).2) v) refl

-- ---- all tags

texts_are : (texts : List (List ℕ)) (tags : List LabelText) → AllZip Spelled texts tags → (texts ≡ map tag_text tags) × All IsTag tags
texts_are [] [] h = (refl, All-nil IsTag)
texts_are [] (tag ∷ tags) h = absurd h
texts_are (text ∷ texts) [] h = absurd h
texts_are (text ∷ texts) (tag ∷ tags) h =
    let others = texts_are texts tags h.1 in
    ((λ j. h.0.0 j ∷ others.0 j), All-cons IsTag tag tags h.0.1 others.1)

are_spelled : (tags : List LabelText) → All IsTag tags → AllZip Spelled (map tag_text tags) tags
are_spelled [] all = tt
are_spelled (tag ∷ tags) all = ((refl, All-head IsTag tag tags all), are_spelled tags (All-tail IsTag tag tags all))

pub tags_take : (text : List ℕ) (tags : List LabelText) → Free bar text → tags_of text ≡ Some tags → (text ≡ join_with_byte comma (map tag_text tags)) × All IsTag tags × (0 < length tags)
tags_take text tags no_bar e =
    let texts = pieces comma text in
    let no_comma = pieces_free comma text in
    let no_bars = pieces_keep (λ c. is bar c ≡ false) comma text no_bar in
    let spelled = each_takes tag_of (λ t. Free comma t × Free bar t) Spelled tag_takes texts tags (λ k d within. (no_comma k d within, no_bars k d within)) e in
    let are = texts_are texts tags spelled in
    (sym (join_pieces comma text) ∙ ap (join_with_byte comma) are.0, are.1, counted texts tags spelled (pieces_some comma text))
  where
    counted : (texts : List (List ℕ)) (tags : List LabelText) → AllZip Spelled texts tags → 0 < length texts → 0 < length tags
    counted [] tags h some = absurd (omega (arith, some))
    counted (text ∷ texts) [] h some = absurd h
    counted (text ∷ texts) (tag ∷ tags) h some = omega arith

-- a character that a tag can't have stands in no spelling of one
pub tag_free : (stop : ℕ) → is stop colon ≡ false → ((c : ℕ) → ends_key c ≡ false → is stop c ≡ false) → ((c : ℕ) → ends_value c ≡ false → is stop c ≡ false) → (tag : LabelText) → IsTag tag → Free stop (tag_text tag)
tag_free stop other key_ok value_ok tag h =
    All-append (λ c. is stop c ≡ false) tag.key (value_behind tag.value) (λ i d within. key_ok _ (h.0.none i d within)) (by tag.value h.1)
  where
    by : (value : List ℕ) → IsTagValue value → Free stop (value_behind value)
    by [] v = All-nil (λ c. is stop c ≡ false)
    by (c ∷ value) v = All-cons (λ c. is stop c ≡ false) colon (c ∷ value) other (λ i d within. value_ok _ (v.none i d within))

pub tags_free : (stop : ℕ) → is stop colon ≡ false → ((c : ℕ) → ends_key c ≡ false → is stop c ≡ false) → ((c : ℕ) → ends_value c ≡ false → is stop c ≡ false) → (tags : List LabelText) → All IsTag tags → All (Free stop) (map tag_text tags)
tags_free stop other key_ok value_ok [] all = All-nil (Free stop)
tags_free stop other key_ok value_ok (tag ∷ tags) all =
    All-cons (Free stop) (tag_text tag) (map tag_text tags) (tag_free stop other key_ok value_ok tag (All-head IsTag tag tags all)) (tags_free stop other key_ok value_ok tags (All-tail IsTag tag tags all))

pub tags_again : (tags : List LabelText) → All IsTag tags → 0 < length tags → tags_of (join_with_byte comma (map tag_text tags)) ≡ Some tags
tags_again tags all some =
    let texts = map tag_text tags in
    let free = tags_free comma refl (λ c e. (key_apart c e).0) (λ c e. (value_apart c e).0) tags all in
    ap (each tag_of) (pieces_join comma texts (omega (arith, some, length-map tags tag_text)) free)
    ∙ each_again tag_of (λ _. Unit {0}) Spelled tag_again texts tags (are_spelled tags all)
