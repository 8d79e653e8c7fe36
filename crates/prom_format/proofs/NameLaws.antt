-- What sanitizing makes is a name, and a name stays as it is. The full name of a row is a metric name.
use Rattle.std.proofs.Common.{◌≡◌, ℕ, ◌<◌, ◌-◌, Bool, true, List, [], ◌∷◌, ◌++◌, map, length, take, refl, sym, ap, ◌∙◌, subst, arith, chars, Some, None}
use Rattle.std.specs.Prelude.{◌||◌, Option, IfSome}
use Rattle.std.specs.List.{list_all}
use Rattle.std.specs.Str.{IsAscii}
use Rattle.std.proofs.lemmas.Bool.{and_from, and_parts, or_left, cond_both, cond-true, false≢true}
use Rattle.std.proofs.lemmas.Bool.Decides.{nat_tests}
use Rattle.std.proofs.Math.Seq.{take-append_seam}
use Rattle.std.proofs.lemmas.List.{length-append}
use Rattle.std.proofs.lemmas.List.Folds.{list_all-append}
use Rattle.std.proofs.lemmas.Str.{chars-IsAscii}
use Rattle.std.proofs.lemmas.Str.Ascii.{IsAscii-nil, IsAscii-cons}
use Rattle.metrics_core.specs.Characters.{is_digit, underscore}
use Rattle.metrics_core.specs.declared.units.Unit.{Unit as UnitOf}
use Rattle.metrics_core.specs.declared.units.Unit.TheVariants.{Count, Percent, Seconds, Milliseconds, Microseconds, Nanoseconds, Tebibytes, Gibibytes, Mebibytes, Kibibytes, Bytes, TerabitsPerSecond, GigabitsPerSecond, MegabitsPerSecond, KilobitsPerSecond, BitsPerSecond, CountPerSecond}
use Rattle.prom_format.specs.Names.{begins_metric_name, begins_label_name, is_name, IsMetricName, IsLabelName, kept_or_underscore, sanitized_characters, sanitized_metric_name, sanitized_label_name, ends_in, with_word, unit_word, standing_suffix, with_unit_word, with_unit_word_of, with_unit, with_suffix, full_name}
use Rattle.prom_format.proofs.SuffixLemmas.{HasEnd-standing_suffix}

-- ---- what sanitizing makes

-- whether a character may stand behind the first one, where `first` says which may begin
abbrev later : (ℕ → Bool) → ℕ → Bool
later first c = first c || is_digit c

kept_passes : (allowed : ℕ → Bool) → allowed underscore ≡ true → (c : ℕ) → allowed (kept_or_underscore allowed c) ≡ true
kept_passes allowed passes c = cond_both (allowed c) c underscore (λ x. allowed x ≡ true) (λ e. e) (λ _. passes)

all_kept_pass : (allowed : ℕ → Bool) → allowed underscore ≡ true → (cs : List ℕ) → list_all allowed (map (kept_or_underscore allowed) cs) ≡ true
all_kept_pass allowed passes [] = refl
all_kept_pass allowed passes (c ∷ cs) = and_from _ _ (kept_passes allowed passes c) (all_kept_pass allowed passes cs)

made_is_name : (first : ℕ → Bool) → first underscore ≡ true → (cs : List ℕ) → is_name first (sanitized_characters first cs) ≡ true
made_is_name first passes [] = and_from _ _ passes refl
made_is_name first passes (c ∷ cs) =
    and_from _ _ (kept_passes first passes c) (all_kept_pass (later first) (or_left (first underscore) (is_digit underscore) passes) cs)

pub sanitized_metric_name-is_name : (text : List ℕ) → IsMetricName (sanitized_metric_name text)
sanitized_metric_name-is_name text = made_is_name begins_metric_name refl (chars text)

pub sanitized_label_name-is_name : (text : List ℕ) → IsLabelName (sanitized_label_name text)
sanitized_label_name-is_name text = made_is_name begins_label_name refl (chars text)

-- ---- names stay

all_stay : (allowed : ℕ → Bool) (cs : List ℕ) → list_all allowed cs ≡ true → map (kept_or_underscore allowed) cs ≡ cs
all_stay allowed [] all = refl
all_stay allowed (c ∷ cs) all =
    let parts = and_parts (allowed c) (list_all allowed cs) all in
    ap (λ d. d ∷ map (kept_or_underscore allowed) cs) (cond-true (allowed c) c underscore parts.0) ∙ ap (λ ds. c ∷ ds) (all_stay allowed cs parts.1)

name_stays : (first : ℕ → Bool) (text : List ℕ) → is_name first text ≡ true → sanitized_characters first text ≡ text
name_stays first [] named = absurd (false≢true named)
name_stays first (c ∷ cs) named =
    let parts = and_parts (first c) (list_all (later first) cs) named in
    ap (λ d. d ∷ map (kept_or_underscore (later first)) cs) (cond-true (first c) c underscore parts.0) ∙ ap (λ ds. c ∷ ds) (all_stay (later first) cs parts.1)

-- the characters of a name are ASCII
abbrev Ascii : (ℕ → Bool) → Type 0
Ascii allowed = (c : ℕ) → allowed c ≡ true → c < 128

all_ascii : (allowed : ℕ → Bool) → Ascii allowed → (cs : List ℕ) → list_all allowed cs ≡ true → IsAscii cs
all_ascii allowed low [] all = IsAscii-nil
all_ascii allowed low (c ∷ cs) all =
    let parts = and_parts (allowed c) (list_all allowed cs) all in
    IsAscii-cons c cs (low c parts.0) (all_ascii allowed low cs parts.1)

name_ascii : (first : ℕ → Bool) → Ascii first → Ascii (later first) → (text : List ℕ) → is_name first text ≡ true → IsAscii text
name_ascii first low low_later [] named = IsAscii-nil
name_ascii first low low_later (c ∷ cs) named =
    let parts = and_parts (first c) (list_all (later first) cs) named in
    IsAscii-cons c cs (low c parts.0) (all_ascii (later first) low_later cs parts.1)

pub sanitized_metric_name-of_name : (text : List ℕ) → IsMetricName text → sanitized_metric_name text ≡ text
sanitized_metric_name-of_name text named =
    ap (sanitized_characters begins_metric_name) (chars-IsAscii text (name_ascii begins_metric_name (λ c e. grind (arith, nat_tests)) (λ c e. grind (arith, nat_tests)) text named))
    ∙ name_stays begins_metric_name text named

pub sanitized_label_name-of_name : (text : List ℕ) → IsLabelName text → sanitized_label_name text ≡ text
sanitized_label_name-of_name text named =
    ap (sanitized_characters begins_label_name) (chars-IsAscii text (name_ascii begins_label_name (λ c e. grind (arith, nat_tests)) (λ c e. grind (arith, nat_tests)) text named))
    ∙ name_stays begins_label_name text named

-- ---- full names

-- all characters may stand behind the first one of a metric name
abbrev AreLater : List ℕ → Type 0
AreLater cs = list_all (later begins_metric_name) cs ≡ true

later_name : (name : List ℕ) → IsMetricName name → AreLater name
later_name [] named = absurd (false≢true named)
later_name (c ∷ cs) named =
    let parts = and_parts (begins_metric_name c) (list_all (later begins_metric_name) cs) named in
    and_from _ _ (or_left (begins_metric_name c) (is_digit c) parts.0) parts.1

later_append : (xs ys : List ℕ) → AreLater xs → AreLater ys → AreLater (xs ++ ys)
later_append xs ys hx hy = list_all-append (later begins_metric_name) xs ys ∙ and_from _ _ hx hy

later_parts : (xs ys : List ℕ) → AreLater (xs ++ ys) → AreLater xs × AreLater ys
later_parts xs ys h = and_parts _ _ (sym (list_all-append (later begins_metric_name) xs ys) ∙ h)

name_append : (name more : List ℕ) → IsMetricName name → AreLater more → IsMetricName (name ++ more)
name_append [] more named all = absurd (false≢true named)
name_append (c ∷ cs) more named all =
    let parts = and_parts (begins_metric_name c) (list_all (later begins_metric_name) cs) named in
    and_from _ _ parts.0 (later_append cs more parts.1 all)

-- a name put between the front and the rest of a name
name_between : (front name rest : List ℕ) → IsMetricName (front ++ rest) → IsMetricName name → IsMetricName ((front ++ name) ++ rest)
name_between [] name rest whole named = name_append name rest named (later_name rest whole)
name_between (c ∷ cs) name rest whole named =
    let parts = and_parts (begins_metric_name c) (list_all (later begins_metric_name) (cs ++ rest)) whole in
    let both = later_parts cs rest parts.1 in
    and_from _ _ parts.0 (later_append (cs ++ name) rest (later_append cs name both.0 (later_name name named)) both.1)

word_between : (front word rest : List ℕ) → IsMetricName (front ++ rest) → AreLater word → IsMetricName (with_word front word ++ rest)
word_between front word rest whole all =
    cond_both (ends_in front word) front (front ++ underscore ∷ word) (λ t. IsMetricName (t ++ rest)) (λ _. whole)
    (λ _. name_between front (underscore ∷ word) rest whole all)

unit_later : (unit : UnitOf) → IfSome (unit_word unit) AreLater
unit_later Count = tt
unit_later Percent = refl
unit_later Seconds = refl
unit_later Milliseconds = refl
unit_later Microseconds = refl
unit_later Nanoseconds = refl
unit_later Tebibytes = refl
unit_later Gibibytes = refl
unit_later Mebibytes = refl
unit_later Kibibytes = refl
unit_later Bytes = refl
unit_later TerabitsPerSecond = refl
unit_later GigabitsPerSecond = refl
unit_later MegabitsPerSecond = refl
unit_later KilobitsPerSecond = refl
unit_later BitsPerSecond = refl
unit_later CountPerSecond = refl

-- the front of a name, without the suffix that it ends with
front_is : (name front suffix : List ℕ) → name ≡ front ++ suffix → take (length name - length suffix) name ≡ front
front_is name front suffix split =
    let n : length name - length suffix ≡ length front = omega (arith, ap length split, length-append front suffix) in
    ap (λ k. take k name) n ∙ ap (take (length front)) split ∙ take-append_seam front suffix

with_unit_word-is_name : (name word : List ℕ) → IsMetricName name → AreLater word → IsMetricName (with_unit_word name word)
with_unit_word-is_name name word named all =
    let (front, split) = HasEnd-standing_suffix name in
    let whole : IsMetricName (front ++ standing_suffix name) = subst IsMetricName split named in
    subst (λ f. IsMetricName (with_word f word ++ standing_suffix name)) (sym (front_is name front (standing_suffix name) split)) (word_between front word (standing_suffix name) whole all)

word_of-is_name : (name : List ℕ) (word : Option (List ℕ)) → IsMetricName name → IfSome word AreLater → IsMetricName (with_unit_word_of name word)
word_of-is_name name None named all = named
word_of-is_name name (Some word) named all = with_unit_word-is_name name word named all

with_unit-is_name : (name : List ℕ) (unit : Option UnitOf) → IsMetricName name → IsMetricName (with_unit name unit)
with_unit-is_name name None named = named
with_unit-is_name name (Some unit) named = word_of-is_name name (unit_word unit) named (unit_later unit)

with_suffix-is_name : (name : List ℕ) (suffix : Option (List ℕ)) → IsMetricName name → IfSome suffix IsMetricName → IsMetricName (with_suffix name suffix)
with_suffix-is_name name None named words = named
with_suffix-is_name name (Some word) named words =
    cond_both (ends_in name word) name (name ++ underscore ∷ word) IsMetricName (λ _. named) (λ _. name_append name (underscore ∷ word) named (later_name word words))

pub full_name-is_name : (name : List ℕ) (unit : Option UnitOf) (suffix : Option (List ℕ)) → IsMetricName name → IfSome suffix IsMetricName → IsMetricName (full_name name unit suffix)
full_name-is_name name unit suffix named words = with_suffix-is_name (with_unit name unit) suffix (with_unit-is_name name unit named) words
