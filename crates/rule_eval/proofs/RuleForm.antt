-- Rule lines: what is read is the rule that a line says, each rule line is read, and none has a newline.
use Rattle.std.proofs.Common.{◌≡◌, ℕ, ◌+◌, ◌-◌, ◌*◌, ◌^◌, ◌<◌, ◌≤◌, Bool, true, false, not, ◌==◌, List, [], ◌∷◌, ◌++◌, map, length, Some, None, refl, sym, ap, subst, ◌∙◌, append_assoc, arith, inl, inr, lit<}
use Rattle.std.specs.Prelude.{codes, decimal, ℤ}
use Rattle.std.specs.List.{list_all}
use Rattle.std.specs.Str.Parse.{AllDigits, digits_value}
use Rattle.std.proofs.lemmas.Bool.{and_parts}
use Rattle.std.proofs.lemmas.Bool.Decides.{nat_tests}
use Rattle.std.proofs.lemmas.Fmt.{decimal_is_IsNumeral}
use Rattle.std.proofs.lemmas.Grind.{flat_map-append}
use Rattle.std.proofs.lemmas.List.{append-nil}
use Rattle.std.proofs.lemmas.List.Elements.{All-nil, All-cons, All-append}
use Rattle.std.proofs.lemmas.Option.{same_Some}
use Rattle.metrics_core.specs.Numbers.{one}
use Rattle.prom_format.specs.Printed.{escaped_label_value}
use Rattle.drive_script.specs.Words.{spaced, quoted, sign, point_and, greatest, IsDec}
use Rattle.drive_script.specs.Reading.{both, seen, after, behind, standing, fixed_at, positive_at, text_at}
use Rattle.drive_script.proofs.Readers.{IsReader, Ends, Anywhere, stops_less, SpellsBoth, both_reads, SpellsSeen, seen_reads, SpellsAfter, after_reads, standing_takes, or_some, whole_takes, whole_again}
use Rattle.drive_script.proofs.Spaced.{WordEnds, ends_word}
use Rattle.drive_script.proofs.Decimals.{SpellsPositive, positive_reads, SpellsDec, fixed_reads}
use Rattle.drive_script.proofs.TextFields.{SpellsText, text_reads}
use Rattle.drive_script.proofs.HeaderForms.{behind_spaces, words_spaced}
use Rattle.rule_eval.specs.Rules.{RuleText, side_word, IsRuleLine}
use Rattle.rule_eval.specs.Reading.{name_at, keys_at, side_at, bound_at, Condition, condition_at, RuleParts, rule_of_parts, grouped_at, summed_at, parts_at, rule_at}
use Rattle.rule_eval.proofs.WordBytes.{NoNewline, none_is, name_word, word_no_newline, digits_no_newline, escaped_no_newline}
use Rattle.rule_eval.proofs.NameReader.{SpellsName, name_reads}
use Rattle.rule_eval.proofs.KeyReader.{NoText, keys_text, SpellsKeys, keys_read}

-- ---- the side of a bound

abbrev pub side_text : Bool → List ℕ
side_text true = codes " over "
side_text false = codes " under "

abbrev SpellsSide : Bool → List ℕ → Type 0
SpellsSide over front = front ≡ side_text over

side_takes : (bytes : List ℕ) (over : Bool) (rest : List ℕ) → side_at bytes ≡ Some (over, rest) → (front : List ℕ) × SpellsSide over front × (bytes ≡ front ++ rest)
unfolding side_at
side_takes bytes over rest e = elim (or_some (standing (codes " over ") true bytes) _ (over, rest) e) [ inl f ↦ given true f | inr f ↦ given false f ]
  where
    given : (side : Bool) → standing (side_text side) side bytes ≡ Some (over, rest) → (front : List ℕ) × SpellsSide over front × (bytes ≡ front ++ rest)
    given side f = let h = standing_takes (side_text side) side over bytes rest f in (side_text side, ap side_text h.0, h.1)

side_again : (over : Bool) (front rest : List ℕ) → SpellsSide over front → Anywhere rest → side_at (front ++ rest) ≡ Some (over, rest)
unfolding side_at behind
side_again true front rest h stop = ap (λ l. side_at (l ++ rest)) h
side_again false front rest h stop = ap (λ l. side_at (l ++ rest)) h

side_reads : IsReader side_at SpellsSide Anywhere
side_reads = record { takes = side_takes; again = side_again }

-- ---- the condition

abbrev SpellsPages : ℕ → List ℕ → Type 0
SpellsPages = SpellsAfter (codes " for ") (SpellsPositive 1000)

abbrev SpellsBound : ℤ × ℕ → List ℕ → Type 0
SpellsBound = SpellsBoth SpellsDec (λ _. SpellsPages)

abbrev SpellsCondition : Condition → List ℕ → Type 0
SpellsCondition = SpellsBoth SpellsSide (λ _. SpellsBound)

pages_read : IsReader (after (codes " for ") (positive_at 1000)) SpellsPages Ends
pages_read = after_reads (codes " for ") (positive_at 1000) (SpellsPositive 1000) Ends (stops_less (positive_at 1000) (SpellsPositive 1000) WordEnds Ends (positive_reads 1000 (lit< tt)) ends_word)

bound_reads : IsReader bound_at SpellsBound Ends
bound_reads = both_reads fixed_at (λ _. after (codes " for ") (positive_at 1000)) SpellsDec (λ _. SpellsPages) WordEnds Ends fixed_reads (λ _. pages_read)
    (λ a b y rest h stop. subst (λ l. WordEnds (l ++ rest)) (sym h.2) refl)

condition_reads : IsReader condition_at SpellsCondition Ends
unfolding condition_at
condition_reads = both_reads side_at (λ _. bound_at) SpellsSide (λ _. SpellsBound) Anywhere Ends side_reads (λ _. bound_reads) (λ a b y rest h stop. tt)

-- ---- the parts

abbrev SpellsGrouped : List (List ℕ) × Condition → List ℕ → Type 0
SpellsGrouped = SpellsBoth (SpellsAfter (codes " by") SpellsKeys) (λ _. SpellsCondition)

abbrev SpellsSummed : List ℕ × (List (List ℕ) × Condition) → List ℕ → Type 0
SpellsSummed = SpellsBoth (SpellsAfter (codes " sum ") SpellsName) (λ _. SpellsGrouped)

abbrev SpellsParts : RuleParts → List ℕ → Type 0
SpellsParts = SpellsAfter (codes "rule ") (SpellsBoth SpellsText (λ _. SpellsSummed))

no_text : (over : Bool) (rest : List ℕ) → NoText (side_text over ++ rest)
no_text true rest = refl
no_text false rest = refl

before_condition : (condition : Condition) (y rest : List ℕ) → SpellsCondition condition y → NoText (y ++ rest)
before_condition condition y rest (side, bound, is_side, is_bound, split) =
    subst NoText (sym (ap (λ l. l ++ rest) (split ∙ ap (λ l. l ++ bound) is_side) ∙ append_assoc (side_text condition.0) bound rest)) (no_text condition.0 (bound ++ rest))

grouped_read : IsReader grouped_at SpellsGrouped Ends
grouped_read = both_reads (after (codes " by") keys_at) (λ _. condition_at) (SpellsAfter (codes " by") SpellsKeys) (λ _. SpellsCondition) NoText Ends
    (after_reads (codes " by") keys_at SpellsKeys NoText keys_read) (λ _. condition_reads) (λ a b y rest h stop. before_condition b y rest h)

before_keys : (grouped : List (List ℕ) × Condition) (y rest : List ℕ) → SpellsGrouped grouped y → WordEnds (y ++ rest)
before_keys grouped y rest (by_keys, condition, (keys, are_keys, behind_by), is_condition, split) =
    subst (λ l. WordEnds (l ++ rest)) (sym (split ∙ ap (λ l. l ++ condition) behind_by)) refl

summed_reads : IsReader summed_at SpellsSummed Ends
summed_reads = both_reads (after (codes " sum ") name_at) (λ _. grouped_at) (SpellsAfter (codes " sum ") SpellsName) (λ _. SpellsGrouped) WordEnds Ends
    (after_reads (codes " sum ") name_at SpellsName WordEnds name_reads) (λ _. grouped_read) (λ a b y rest h stop. before_keys b y rest h)

titled_reads : IsReader (both text_at (λ _. summed_at)) (SpellsBoth SpellsText (λ _. SpellsSummed)) Ends
titled_reads = both_reads text_at (λ _. summed_at) SpellsText (λ _. SpellsSummed) Anywhere Ends
    text_reads (λ _. summed_reads) (λ a b y rest h stop. tt)

rule_reads : IsReader (seen rule_of_parts parts_at) (SpellsSeen rule_of_parts SpellsParts) Ends
rule_reads = seen_reads rule_of_parts parts_at SpellsParts Ends (after_reads (codes "rule ") (both text_at (λ _. summed_at)) (SpellsBoth SpellsText (λ _. SpellsSummed)) Ends titled_reads)

-- ---- the text of a line

abbrev condition_text : Bool → List ℕ → ℕ → List ℕ
condition_text over bound pages = side_text over ++ (bound ++ (codes " for " ++ decimal pages))

abbrev grouped_text : RuleText → List ℕ → List ℕ
grouped_text rule bound = (codes " by" ++ keys_text rule.keys) ++ condition_text rule.over bound rule.pages

abbrev summed_text : RuleText → List ℕ → List ℕ
summed_text rule bound = (codes " sum " ++ rule.name) ++ grouped_text rule bound

abbrev line_text : RuleText → List ℕ → List ℕ
line_text rule bound = codes "rule " ++ (quoted rule.title ++ summed_text rule bound)

condition_words : (over : Bool) (bound : List ℕ) (pages : ℕ) → behind_spaces (side_word over ∷ bound ∷ codes "for" ∷ decimal pages ∷ []) ≡ condition_text over bound pages
condition_words true bound pages = ap (λ l. codes " over " ++ (bound ++ (codes " for " ++ l))) (append-nil (decimal pages))
condition_words false bound pages = ap (λ l. codes " under " ++ (bound ++ (codes " for " ++ l))) (append-nil (decimal pages))

keyed_words : (keys : List (List ℕ)) (words : List (List ℕ)) → spaced (codes "by" ∷ (map quoted keys ++ words)) ≡ codes "by" ++ (keys_text keys ++ behind_spaces words)
keyed_words keys words = words_spaced (codes "by") (map quoted keys ++ words) ∙ ap (λ l. codes "by" ++ l) (flat_map-append (λ word. codes " " ++ word) (map quoted keys) words)

line_words : (rule : RuleText) (bound : List ℕ)
    → spaced (codes "rule" ∷ quoted rule.title ∷ codes "sum" ∷ rule.name ∷ codes "by" ∷ (map quoted rule.keys ++ side_word rule.over ∷ bound ∷ codes "for" ∷ decimal rule.pages ∷ [])) ≡ line_text rule bound
line_words rule bound =
    ap (λ l. codes "rule " ++ (quoted rule.title ++ (codes " sum " ++ (rule.name ++ (codes " " ++ l)))))
    (keyed_words rule.keys (side_word rule.over ∷ bound ∷ codes "for" ∷ decimal rule.pages ∷ []) ∙ ap (λ l. codes "by" ++ (keys_text rule.keys ++ l)) (condition_words rule.over bound rule.pages))

-- ---- a line and its rule

line_of_parts : (parts : RuleParts) (line : List ℕ) → SpellsParts parts line → IsRuleLine line (rule_of_parts parts)
line_of_parts parts line (behind_rule, (title, summed, is_title, is_summed, titled), ruled) =
    let (named, grouped, (name, is_name, behind_sum), is_grouped, summed_split) = is_summed in
    let (by_keys, condition, (keys, are_keys, behind_by), is_condition, grouped_split) = is_grouped in
    let (side, bounded, is_side, is_bounded, condition_split) = is_condition in
    let (bound, paged, is_bound, (pages, are_pages, behind_for), bounded_split) = is_bounded in
    let condition_is : condition ≡ condition_text parts.1.1.1.0 bound parts.1.1.1.1.1 = condition_split ∙ (λ j. is_side j ++ (bounded_split ∙ ap (λ l. bound ++ l) (behind_for ∙ ap (λ l. codes " for " ++ l) are_pages.1.0)) j) in
    let grouped_is : grouped ≡ (codes " by" ++ keys_text parts.1.1.0) ++ condition_text parts.1.1.1.0 bound parts.1.1.1.1.1 = grouped_split ∙ (λ j. (behind_by ∙ ap (λ l. codes " by" ++ l) are_keys.1) j ++ condition_is j) in
    let summed_is : summed ≡ (codes " sum " ++ parts.1.0) ++ ((codes " by" ++ keys_text parts.1.1.0) ++ condition_text parts.1.1.1.0 bound parts.1.1.1.1.1) = summed_split ∙ (λ j. (behind_sum ∙ ap (λ l. codes " sum " ++ l) is_name.1) j ++ grouped_is j) in
    record {
      title = is_title.0;
      name = is_name.0;
      keys = are_keys.0;
      pages = (are_pages.0, are_pages.1.1);
      bound = bound;
      bounds = is_bound;
      spelled = ruled ∙ ap (λ l. codes "rule " ++ l) (titled ∙ (λ j. is_title.1 j ++ summed_is j)) ∙ sym (line_words (rule_of_parts parts) bound);
    }

abbrev parts_of : RuleText → RuleParts
parts_of rule = (rule.title, (rule.name, (rule.keys, (rule.over, (rule.bound, rule.pages)))))

parts_of_line : (rule : RuleText) (line : List ℕ) → IsRuleLine line rule → SpellsParts (parts_of rule) line
parts_of_line rule line h =
    let pages : SpellsPages rule.pages (codes " for " ++ decimal rule.pages) = (decimal rule.pages, (h.pages.0, (refl, h.pages.1)), refl) in
    let condition : SpellsCondition (rule.over, (rule.bound, rule.pages)) (condition_text rule.over h.bound rule.pages) = (side_text rule.over, h.bound ++ (codes " for " ++ decimal rule.pages), refl, (h.bound, codes " for " ++ decimal rule.pages, h.bounds, pages, refl), refl) in
    let grouped : SpellsGrouped (rule.keys, (rule.over, (rule.bound, rule.pages))) ((codes " by" ++ keys_text rule.keys) ++ condition_text rule.over h.bound rule.pages) = (codes " by" ++ keys_text rule.keys, condition_text rule.over h.bound rule.pages, (keys_text rule.keys, (h.keys, refl), refl), condition, refl) in
    let summed : SpellsSummed (rule.name, (rule.keys, (rule.over, (rule.bound, rule.pages)))) (summed_text rule h.bound) = (codes " sum " ++ rule.name, (codes " by" ++ keys_text rule.keys) ++ condition_text rule.over h.bound rule.pages, (rule.name, (h.name, refl), refl), grouped, refl) in (
      quoted rule.title ++ summed_text rule h.bound,
      (quoted rule.title, summed_text rule h.bound, (h.title, refl), summed, refl),
      h.spelled ∙ line_words rule h.bound,
    )

-- what is read is the rule that the line says
pub rule_takes : (line : List ℕ) (rule : RuleText) → rule_at line ≡ Some rule → IsRuleLine line rule
unfolding rule_at
rule_takes line rule e =
    let (parts, is, spelled) = whole_takes _ _ Ends rule_reads line rule e in
    subst (IsRuleLine line) is (line_of_parts parts line spelled)

pub rule_again : (line : List ℕ) (rule : RuleText) → IsRuleLine line rule → rule_at line ≡ Some rule
unfolding rule_at
rule_again line rule h = whole_again _ _ Ends rule_reads refl line rule (parts_of rule, refl, parts_of_line rule line h)

-- a line that is not read says no rule
pub no_rule : (line : List ℕ) → rule_at line ≡ None → (rule : RuleText) → ¬ IsRuleLine line rule
no_rule line none rule h = let read = rule_again line rule h in cc

-- a line says one rule at most
pub one_rule : (line : List ℕ) (rule other : RuleText) → IsRuleLine line rule → IsRuleLine line other → rule ≡ other
one_rule line rule other h k = same_Some rule other (sym (rule_again line rule h) ∙ rule_again line other k)

-- ---- newlines

decimal_no_newline : (n : ℕ) → n < 2 ^ 64 → NoNewline (decimal n)
decimal_no_newline n small = digits_no_newline (decimal n) (decimal_is_IsNumeral n small).0.1

quoted_no_newline : (text : List ℕ) → NoNewline (quoted text)
quoted_no_newline text =
    All-append none_is (codes "\"" ++ escaped_label_value text) (codes "\"") (All-append none_is (codes "\"") (escaped_label_value text) (word_no_newline (codes "\"") refl) (escaped_no_newline text)) (word_no_newline (codes "\"") refl)

keys_no_newline : (keys : List (List ℕ)) → NoNewline (keys_text keys)
keys_no_newline [] = All-nil none_is
keys_no_newline (key ∷ keys) =
    All-append none_is (codes " " ++ quoted key) (keys_text keys) (All-cons none_is 32 (quoted key) (λ e. absurd (omega arith)) (quoted_no_newline key)) (keys_no_newline keys)

point_no_newline : (digits : List ℕ) → AllDigits 10 digits → NoNewline (point_and digits)
point_no_newline [] all = All-nil none_is
point_no_newline (d ∷ digits) all = All-cons none_is 46 (d ∷ digits) (λ e. absurd (omega arith)) (digits_no_newline (d ∷ digits) all)

sign_no_newline : (negative : Bool) → NoNewline (sign negative)
sign_no_newline true = word_no_newline (codes "-") refl
sign_no_newline false = All-nil none_is

whole_small : (negative : Bool) (whole n : ℕ) → whole * one + n ≤ greatest negative → whole < 2 ^ 64
whole_small true whole n h = omega (arith, h)
whole_small false whole n h = omega (arith, h)

dec_no_newline : (word : List ℕ) (value : ℤ) → IsDec word value → NoNewline word
dec_no_newline word value h =
    subst NoNewline (sym h.spelled) (
    All-append none_is (sign h.negative ++ decimal h.whole) (point_and h.digits)
    (All-append none_is (sign h.negative) (decimal h.whole) (sign_no_newline h.negative) (decimal_no_newline h.whole (whole_small h.negative h.whole (digits_value 10 h.digits * 10 ^ (9 - length h.digits)) h.fits)))
    (point_no_newline h.digits h.each_digit)
    )

literal_no_newline : (literal : List ℕ) → list_all (λ c. not (c == 10)) literal ≡ true → NoNewline literal
literal_no_newline [] h = All-nil none_is
literal_no_newline (c ∷ literal) h =
    let parts = and_parts (not (c == 10)) (list_all (λ d. not (d == 10)) literal) h in
    let first : not (c == 10) ≡ true = parts.0 in
    All-cons none_is c literal (λ e. grind (arith, nat_tests)) (literal_no_newline literal parts.1)

side_no_newline : (over : Bool) → NoNewline (side_text over)
side_no_newline true = literal_no_newline (codes " over ") refl
side_no_newline false = literal_no_newline (codes " under ") refl

condition_no_newline : (over : Bool) (bound : List ℕ) (value : ℤ) (pages : ℕ) → IsDec bound value → pages ≤ 1000 → NoNewline (condition_text over bound pages)
condition_no_newline over bound value pages dec few =
    All-append none_is (side_text over) (bound ++ (codes " for " ++ decimal pages)) (side_no_newline over)
    (All-append none_is bound (codes " for " ++ decimal pages) (dec_no_newline bound value dec)
    (All-append none_is (codes " for ") (decimal pages) (literal_no_newline (codes " for ") refl) (decimal_no_newline pages (omega (arith, few)))))

pub rule_no_newline : (line : List ℕ) (rule : RuleText) → IsRuleLine line rule → NoNewline line
rule_no_newline line rule h =
    let condition = condition_no_newline rule.over h.bound rule.bound rule.pages h.bounds h.pages.1 in
    let keyed = All-append none_is (codes " by") (keys_text rule.keys) (literal_no_newline (codes " by") refl) (keys_no_newline rule.keys) in
    let named = All-append none_is (codes " sum ") rule.name (literal_no_newline (codes " sum ") refl) (word_no_newline rule.name (name_word rule.name h.name)) in
    let grouped = All-append none_is (codes " by" ++ keys_text rule.keys) (condition_text rule.over h.bound rule.pages) keyed condition in
    let summed = All-append none_is (codes " sum " ++ rule.name) ((codes " by" ++ keys_text rule.keys) ++ condition_text rule.over h.bound rule.pages) named grouped in
    let titled = All-append none_is (quoted rule.title) (summed_text rule h.bound) (quoted_no_newline rule.title) summed in
    subst NoNewline (sym (h.spelled ∙ line_words rule h.bound)) (All-append none_is (codes "rule ") (quoted rule.title ++ summed_text rule h.bound) (literal_no_newline (codes "rule ") refl) titled)
