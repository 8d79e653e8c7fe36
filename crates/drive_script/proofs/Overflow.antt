-- Labels that are shown with the key of the label of overflow series, and heads that have none.
use Rattle.std.proofs.Common.{◌≡◌, ◌≢◌, ℕ, Bool, true, false, ◌==◌, List, [], ◌∷◌, ◌++◌, map, get_or, drop, refl, sym, ap, ◌∙◌, chars}
use Rattle.std.specs.Prelude.{bytes_eq, codes, fold, IsUtf8, string_bytes, ◌||◌, if◌then◌else◌}
use Rattle.std.specs.Char.{encode_utf8}
use Rattle.std.specs.List.{list_any}
use Rattle.std.specs.Str.{encode_utf8_all}
use Rattle.std.specs.declared.string.String.{String}
use Rattle.std.specs.declared.alloc.Global.{Global as Heap}
use Rattle.std.proofs.lemmas.Bool.{or_from, or_left, or_right, or_parts, false≢true}
use Rattle.std.proofs.lemmas.List.Folds.{list_any-append}
use Rattle.std.proofs.lemmas.List.Sums.{fold_push}
use Rattle.std.proofs.lemmas.Slice.Eq.{bytes_eq-Decides}
use Rattle.std.proofs.lemmas.Str.{encodes-chars, IsUtf8-string_bytes}
use Rattle.metrics_core.specs.Characters.{underscore}
use Rattle.metrics_core.specs.Keys.{LabelText, KeyText, label_set, put_label}
use Rattle.metrics_core.specs.declared.kinds.MetricKind.TheVariants as kinds
use Rattle.metrics_core.specs.Kinds.{kind_text}
use Rattle.prom_format.specs.LabelSets.{labels_of}
use Rattle.prom_format.specs.Lines.{head_text, shown_label}
use Rattle.prom_format.specs.Names.{kept_or_underscore, sanitized_characters, sanitized_label_name, begins_label_name}
use Rattle.prom_format.specs.PlainKeys.{has_key}
use Rattle.prom_format.proofs.NameLaws.{sanitized_label_name-of_name}
use Rattle.drive_script.specs.Heads.{shows_overflow}
use Rattle.drive_script.specs.Valid.{Head, head_of, overflow_head}
use Rattle.drive_script.proofs.HeadSteps.{heads_told}

-- ---- a name without `_` is made of itself alone

kept_is : (allowed : ℕ → Bool) (c d : ℕ) → (d == underscore) ≡ false → kept_or_underscore allowed c ≡ d → c ≡ d
kept_is allowed c d other e = by (allowed c) e
  where
    by : (b : Bool) → (if b then c else underscore) ≡ d → c ≡ d
    by true f = f
    by false f = let same : (d == underscore) ≡ true = ap (λ x. x == underscore) (sym f) in absurd (false≢true (sym other ∙ same))

abbrev HasUnderscore : List ℕ → Bool
HasUnderscore text = list_any (λ d. d == underscore) text

all_kept : (allowed : ℕ → Bool) (cs ds : List ℕ) → HasUnderscore ds ≡ false → map (kept_or_underscore allowed) cs ≡ ds → cs ≡ ds
all_kept allowed [] [] none e = refl
all_kept allowed [] (d ∷ ds) none e = absurd cc
all_kept allowed (c ∷ cs) [] none e = absurd cc
all_kept allowed (c ∷ cs) (d ∷ ds) none e =
    let parts = or_parts (d == underscore) (HasUnderscore ds) none in
    (λ j. kept_is allowed c d parts.0 (ap (λ l. get_or l 0 0) e) j ∷ all_kept allowed cs ds parts.1 (ap (λ l. drop 1 l) e) j)

made_of_itself : (first : ℕ → Bool) (cs : List ℕ) (d : ℕ) (ds : List ℕ) → HasUnderscore (d ∷ ds) ≡ false → sanitized_characters first cs ≡ d ∷ ds → cs ≡ d ∷ ds
made_of_itself first [] d ds none e =
    let parts = or_parts (d == underscore) (HasUnderscore ds) none in
    let same : (d == underscore) ≡ true = ap (λ l. get_or l 0 0 == underscore) (sym e) in
    absurd (false≢true (sym parts.0 ∙ same))
made_of_itself first (c ∷ cs) d ds none e =
    let parts = or_parts (d == underscore) (HasUnderscore ds) none in
    (λ j. kept_is first c d parts.0 (ap (λ l. get_or l 0 0) e) j ∷ all_kept _ cs ds parts.1 (ap (λ l. drop 1 l) e) j)

only_overflow : (key : List ℕ) → IsUtf8 key → sanitized_label_name key ≡ codes "overflow" → key ≡ codes "overflow"
unfolding encode_utf8
only_overflow key utf8 e = sym (encodes-chars key utf8) ∙ ap encode_utf8_all (made_of_itself begins_label_name (chars key) 111 (codes "verflow") refl e)

overflow_stays : sanitized_label_name (codes "overflow") ≡ codes "overflow"
overflow_stays = sanitized_label_name-of_name (codes "overflow") refl

-- ---- the test of a label

same_tests : (p q : Bool) → (p ≡ true → q ≡ true) → (q ≡ true → p ≡ true) → p ≡ q
same_tests true true f g = refl
same_tests true false f g = sym (f refl)
same_tests false true f g = g refl
same_tests false false f g = refl

-- what tells whether a text is `overflow` tells whether it is shown so
pub shown_decided : (key : List ℕ) (same : Bool) → IsUtf8 key → (same ≡ true → key ≡ codes "overflow") → (key ≡ codes "overflow" → same ≡ true) → same ≡ bytes_eq (sanitized_label_name key) (codes "overflow")
shown_decided key same utf8 is from =
    same_tests same (bytes_eq (sanitized_label_name key) (codes "overflow"))
    (λ e. (bytes_eq-Decides (sanitized_label_name key) (codes "overflow")).1 (ap sanitized_label_name (is e) ∙ overflow_stays))
    (λ e. from (only_overflow key utf8 ((bytes_eq-Decides (sanitized_label_name key) (codes "overflow")).0 e)))

pub globals_shown : (entries : List (String Heap × String Heap)) → has_key (labels_of entries) (codes "overflow") ≡ false → list_any shows_overflow (labels_of entries) ≡ false
globals_shown [] none = refl
globals_shown ((key, value) ∷ entries) none =
    let text = string_bytes key in
    let parts = or_parts (bytes_eq (codes "overflow") text) (has_key (labels_of entries) (codes "overflow")) none in
    let tells = shown_decided text (bytes_eq (codes "overflow") text) (IsUtf8-string_bytes key)
    (λ e. sym ((bytes_eq-Decides (codes "overflow") text).0 e)) (λ e. (bytes_eq-Decides (codes "overflow") text).1 (sym e)) in
    or_from (bytes_eq (sanitized_label_name text) (codes "overflow")) (list_any shows_overflow (labels_of entries)) (sym tells ∙ parts.0) (globals_shown entries parts.1)

-- ---- label sets without such a label, and with it

put_others : (labels : List LabelText) (label : LabelText) → list_any shows_overflow labels ≡ false → shows_overflow label ≡ false → list_any shows_overflow (put_label labels label) ≡ false
put_others [] label none other = or_from (shows_overflow label) false other refl
put_others (first ∷ labels) label none other =
    let parts = or_parts (shows_overflow first) (list_any shows_overflow labels) none in
    by (bytes_eq first.key label.key) parts.0 parts.1 (put_others labels label parts.1 other)
  where
    by : (b : Bool) → shows_overflow first ≡ false → list_any shows_overflow labels ≡ false → list_any shows_overflow (put_label labels label) ≡ false
        → list_any shows_overflow (if b then label ∷ labels else first ∷ put_label labels label) ≡ false
    by true no_first rest behind = or_from (shows_overflow label) (list_any shows_overflow labels) other rest
    by false no_first rest behind = or_from (shows_overflow first) (list_any shows_overflow (put_label labels label)) no_first behind

fold_others : (done labels : List LabelText) → list_any shows_overflow done ≡ false → list_any shows_overflow labels ≡ false → list_any shows_overflow (fold put_label done labels) ≡ false
fold_others done [] none others = none
fold_others done (label ∷ labels) none others =
    let parts = or_parts (shows_overflow label) (list_any shows_overflow labels) others in
    fold_others (put_label done label) labels (put_others done label none parts.0) parts.1

put_shown : (labels : List LabelText) (label : LabelText) → shows_overflow label ≡ true → list_any shows_overflow (put_label labels label) ≡ true
put_shown [] label shown = or_left (shows_overflow label) false shown
put_shown (first ∷ labels) label shown = by (bytes_eq first.key label.key) (put_shown labels label shown)
  where
    by : (b : Bool) → list_any shows_overflow (put_label labels label) ≡ true → list_any shows_overflow (if b then label ∷ labels else first ∷ put_label labels label) ≡ true
    by true behind = or_left (shows_overflow label) (list_any shows_overflow labels) shown
    by false behind = or_right (shows_overflow first) (list_any shows_overflow (put_label labels label)) behind

-- whether one of some shown labels is that of overflow series
abbrev has_shown : List LabelText → Bool
has_shown labels = list_any (λ (l : LabelText). bytes_eq l.key (codes "overflow")) labels

shown_any : (labels : List LabelText) → has_shown (map shown_label labels) ≡ list_any shows_overflow labels
shown_any [] = refl
shown_any (label ∷ labels) = ap (λ b. shows_overflow label || b) (shown_any labels)

module _ (globals : List LabelText) (key : KeyText) (name : List ℕ) where
  abbrev overflow_label : LabelText
  overflow_label = record { key = codes "overflow"; value = codes "true" }

  with_it : has_shown (map shown_label (label_set globals (overflow_label ∷ []))) ≡ true
  with_it =
      shown_any (label_set globals (overflow_label ∷ [])) ∙ ap (list_any shows_overflow) (fold_push put_label [] globals overflow_label)
      ∙ put_shown (fold put_label [] globals) overflow_label ((bytes_eq-Decides (sanitized_label_name (codes "overflow")) (codes "overflow")).1 overflow_stays)

  -- where no label is shown so, the head is no overflow series'
  pub others_apart : list_any shows_overflow globals ≡ false → list_any shows_overflow key.labels ≡ false → head_of globals key ≢ overflow_head globals name
  others_apart no_global none same =
      let all = list_any-append shows_overflow globals key.labels ∙ or_from (list_any shows_overflow globals) (list_any shows_overflow key.labels) no_global none in
      let without : has_shown (map shown_label (label_set globals key.labels)) ≡ false = shown_any (label_set globals key.labels) ∙ fold_others [] (globals ++ key.labels) refl all in
      false≢true (sym without ∙ ap (λ (h : Head). has_shown h.labels) same ∙ with_it)

-- ---- the texts of two heads

pub texts_told : (globals : List LabelText) (a b : KeyText) → head_text (head_of globals a).name (head_of globals a).labels ≡ head_text (head_of globals b).name (head_of globals b).labels → head_of globals a ≡ head_of globals b
texts_told globals a b e = (heads_told globals (record { kind = kinds.Counter; key = a }) (record { kind = kinds.Counter; key = b }) (ap (λ t. kind_text kinds.Counter ++ codes " " ++ t) e)).1
