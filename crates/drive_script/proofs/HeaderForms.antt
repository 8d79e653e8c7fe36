-- A header line is read as what it says.
use Rattle.std.proofs.Common.{◌≡◌, ℕ, ◌-◌, ◌^◌, ◌<◌, Bool, true, false, List, [], ◌∷◌, ◌++◌, Option, Some, None, refl, sym, ap, subst, ◌∙◌, append_assoc, arith, inl, inr, lit<}
use Rattle.std.specs.Prelude.{bytes_eq, codes, decimal, ℤ, IsUtf8, flat_map, option_map, Result, Ok, Err, IfOk, MatchOption, if◌then◌else◌}
use Rattle.std.proofs.lemmas.List.{append-nil}
use Rattle.std.proofs.lemmas.Option.{same_Some}
use Rattle.std.proofs.lemmas.Slice.Eq.{bytes_eq-Decides}
use Rattle.metrics_core.specs.Keys.{LabelText}
use Rattle.metrics_core.specs.Kinds.{KindMask}
use Rattle.prom_format.specs.Matchers.{MatcherText, Full, Prefix, Suffix, matcher_bytes}
use Rattle.drive_script.specs.Words.{spaced, quoted, AreDecs, form_word, IsLabelUtf8}
use Rattle.drive_script.specs.Script.{NativeLine, HeaderLine, Quantiles, Buckets, BucketsFor, NativeFor, Summary, Idle, Naming, Units, Global, SeriesLimit, Limit, Mode, NamePrefix, GlobalTag, HistogramKind, Header, IsLine, AreHeaderWords}
use Rattle.drive_script.specs.Reading.{◌or◌, both, seen, after, behind, standing, whole, number_at, positive_at, fixed_at, values_at, text_at, matcher_form_at, matcher_of, matcher_at, mask_at, quantiles_at, buckets_at, buckets_for_at, native_numbers_at, native_of_parts, native_for_at, summary_at, idle_at, label_line_at, series_limit_at, limit_at, prefix_at, switch_at, payload_line_at}
use Rattle.drive_script.specs.Texts.{header_of}
use Rattle.drive_script.specs.declared.headers.HeaderLine.{HeaderLine as HeaderOf}
use Rattle.drive_script.specs.declared.headers.MatcherForm.{MatcherForm}
use Rattle.drive_script.specs.declared.headers.MatcherForm.TheVariants as forms
use Rattle.drive_script.proofs.Readers.{IsReader, Ends, Anywhere, stops_less, SpellsBoth, both_reads, SpellsSeen, seen_reads, SpellsAfter, after_reads, standing_takes, or_some, whole_takes, whole_again}
use Rattle.drive_script.proofs.Spaced.{WordEnds, SpellsEach, each_reads, ends_word}
use Rattle.drive_script.proofs.Decimals.{SpellsNumber, number_words, SpellsPositive, positive_reads, SpellsDec, fixed_reads}
use Rattle.drive_script.proofs.Masks.{SpellsMask, mask_reads}
use Rattle.drive_script.proofs.TextFields.{SpellsText, text_reads, label_spelled, label_spells, label_seen_reads}

-- ---- words, each behind a space

abbrev pub behind_spaces : List (List ℕ) → List ℕ
behind_spaces words = flat_map (λ word. codes " " ++ word) words

pub words_spaced : (first : List ℕ) (words : List (List ℕ)) → spaced (first ∷ words) ≡ first ++ behind_spaces words
words_spaced first [] = sym (append-nil first)
words_spaced first (word ∷ words) = ap (λ l. first ++ (codes " " ++ l)) (words_spaced word words)

pub number_to_end : (most : ℕ) → most < 2 ^ 64 → IsReader (number_at most) (SpellsNumber most) Ends
number_to_end most small = stops_less (number_at most) (SpellsNumber most) WordEnds Ends (number_words most small) ends_word

-- ---- values

abbrev SpellsValues : List ℤ → List ℕ → Type 0
SpellsValues values front = (decs : List (List ℕ)) × AreDecs decs values × (front ≡ behind_spaces decs)

decs_spelled : (values : List ℤ) (front : List ℕ) → SpellsEach SpellsDec values front → SpellsValues values front
decs_spelled [] front h = ([], tt, h)
decs_spelled (value ∷ values) front (word, others, dec, more, split) =
    let (decs, are, rest) = decs_spelled values others more in
    (word ∷ decs, (dec, are), split ∙ ap (λ l. codes " " ++ (word ++ l)) rest)

spelled_decs : (decs : List (List ℕ)) (values : List ℤ) → AreDecs decs values → SpellsEach SpellsDec values (behind_spaces decs)
spelled_decs [] [] h = refl
spelled_decs [] (value ∷ values) h = absurd h
spelled_decs (word ∷ decs) [] h = absurd h
spelled_decs (word ∷ decs) (value ∷ values) h = (word, behind_spaces decs, h.0, spelled_decs decs values h.1, refl)

values_reads : IsReader values_at SpellsValues Ends
unfolding values_at
values_reads = record {
  takes = λ bytes values rest e. let h = reads.takes bytes values rest e in (h.0, decs_spelled values h.0 h.1, h.2);
  again = λ values front rest h stop. reads.again values front rest (subst (SpellsEach SpellsDec values) (sym h.2) (spelled_decs h.0 values h.1)) stop;
}
  where
    reads : IsReader values_at (SpellsEach SpellsDec) Ends
    reads = each_reads fixed_at SpellsDec WordEnds fixed_reads (λ rest stop. stop)

-- a word and values behind it
module _ (name : List ℕ) (line : List ℕ) (values : List ℤ) where
  list_takes : whole (after name values_at) line ≡ Some values → (decs : List (List ℕ)) × AreDecs decs values × (line ≡ spaced (name ∷ decs))
  list_takes e =
      let (front, (decs, are, is), split) = whole_takes _ _ Ends (after_reads name values_at SpellsValues Ends values_reads) line values e in
      (decs, are, split ∙ ap (λ l. name ++ l) is ∙ sym (words_spaced name decs))

  list_again : (decs : List (List ℕ)) → AreDecs decs values → line ≡ spaced (name ∷ decs) → whole (after name values_at) line ≡ Some values
  list_again decs are is = whole_again _ _ Ends (after_reads name values_at SpellsValues Ends values_reads) refl line values (behind_spaces decs, (decs, are, refl), is ∙ words_spaced name decs)

pub quantiles_takes : (line : List ℕ) (values : List ℤ) → quantiles_at line ≡ Some values → IsLine line (Header (Quantiles values))
unfolding quantiles_at
quantiles_takes line values e =
    let (decs, are, is) = list_takes (codes "quantiles") line values e in
    record { words = codes "quantiles" ∷ decs; formed = (decs, are, refl); spelled = is }

pub quantiles_again : (line : List ℕ) (values : List ℤ) → IsLine line (Header (Quantiles values)) → quantiles_at line ≡ Some values
unfolding quantiles_at
quantiles_again line values h = list_again (codes "quantiles") line values h.formed.0 h.formed.1 (h.spelled ∙ ap spaced h.formed.2)

pub buckets_takes : (line : List ℕ) (values : List ℤ) → buckets_at line ≡ Some values → IsLine line (Header (Buckets values))
unfolding buckets_at
buckets_takes line values e =
    let (decs, are, is) = list_takes (codes "buckets") line values e in
    record { words = codes "buckets" ∷ decs; formed = (decs, are, refl); spelled = is }

pub buckets_again : (line : List ℕ) (values : List ℤ) → IsLine line (Header (Buckets values)) → buckets_at line ≡ Some values
unfolding buckets_at
buckets_again line values h = list_again (codes "buckets") line values h.formed.0 h.formed.1 (h.spelled ∙ ap spaced h.formed.2)

-- ---- matchers

abbrev form_text : MatcherForm → List ℕ
form_text forms.Full = codes "full "
form_text forms.Prefix = codes "prefix "
form_text forms.Suffix = codes "suffix "

abbrev SpellsForm : MatcherForm → List ℕ → Type 0
SpellsForm form front = front ≡ form_text form

form_takes : (bytes : List ℕ) (form : MatcherForm) (rest : List ℕ) → matcher_form_at bytes ≡ Some (form, rest) → (front : List ℕ) × SpellsForm form front × (bytes ≡ front ++ rest)
unfolding matcher_form_at
form_takes bytes form rest e =
    elim (or_some (standing (codes "full ") forms.Full bytes) _ (form, rest) e) [
      | inl f ↦ given forms.Full f
      | inr f ↦ elim (or_some (standing (codes "prefix ") forms.Prefix bytes) _ (form, rest) f) [ inl g ↦ given forms.Prefix g | inr g ↦ given forms.Suffix g ]
    ]
  where
    given : (f : MatcherForm) → standing (form_text f) f bytes ≡ Some (form, rest) → (front : List ℕ) × SpellsForm form front × (bytes ≡ front ++ rest)
    given f e = let h = standing_takes (form_text f) f form bytes rest e in (form_text f, ap form_text h.0, h.1)

form_again : (form : MatcherForm) (front rest : List ℕ) → SpellsForm form front → Anywhere rest → matcher_form_at (front ++ rest) ≡ Some (form, rest)
unfolding matcher_form_at behind
form_again forms.Full front rest h stop = ap (λ l. matcher_form_at (l ++ rest)) h
form_again forms.Prefix front rest h stop = ap (λ l. matcher_form_at (l ++ rest)) h
form_again forms.Suffix front rest h stop = ap (λ l. matcher_form_at (l ++ rest)) h

form_reads : IsReader matcher_form_at SpellsForm Anywhere
form_reads = record { takes = form_takes; again = form_again }

abbrev SpellsMatcher : MatcherText → List ℕ → Type 0
SpellsMatcher matcher front = IsUtf8 (matcher_bytes matcher) × (front ≡ form_word matcher ++ (codes " " ++ quoted (matcher_bytes matcher)))

abbrev matcher_of_parts : MatcherForm × List ℕ → MatcherText
matcher_of_parts parts = matcher_of parts.0 parts.1

abbrev SpellsParts : MatcherForm × List ℕ → List ℕ → Type 0
SpellsParts = SpellsBoth SpellsForm (λ _. SpellsText)

matcher_spelled : (form : MatcherForm) (text front : List ℕ) → IsUtf8 text → front ≡ form_text form ++ quoted text → SpellsMatcher (matcher_of form text) front
matcher_spelled forms.Full text front utf8 split = (utf8, split)
matcher_spelled forms.Prefix text front utf8 split = (utf8, split)
matcher_spelled forms.Suffix text front utf8 split = (utf8, split)

matcher_spells : (matcher : MatcherText) (front : List ℕ) → SpellsMatcher matcher front → SpellsSeen matcher_of_parts SpellsParts matcher front
matcher_spells (Full text) front h = ((forms.Full, text), refl, (codes "full ", quoted text, refl, (h.0, refl), h.1))
matcher_spells (Prefix text) front h = ((forms.Prefix, text), refl, (codes "prefix ", quoted text, refl, (h.0, refl), h.1))
matcher_spells (Suffix text) front h = ((forms.Suffix, text), refl, (codes "suffix ", quoted text, refl, (h.0, refl), h.1))

matcher_reads : IsReader matcher_at SpellsMatcher Anywhere
unfolding matcher_at
matcher_reads = record { takes = takes; again = λ matcher front rest h stop. reads.again matcher front rest (matcher_spells matcher front h) stop }
  where
    reads : IsReader matcher_at (SpellsSeen matcher_of_parts SpellsParts) Anywhere
    reads = seen_reads matcher_of_parts (both matcher_form_at (λ _. text_at)) SpellsParts Anywhere (both_reads matcher_form_at (λ _. text_at) SpellsForm (λ _. SpellsText) Anywhere Anywhere form_reads (λ _. text_reads) (λ a b y rest h stop. tt))

    takes : (bytes : List ℕ) (matcher : MatcherText) (rest : List ℕ) → matcher_at bytes ≡ Some (matcher, rest) → (front : List ℕ) × SpellsMatcher matcher front × (bytes ≡ front ++ rest)
    takes bytes matcher rest e =
        let (front, (parts, is, (x, y, form, text, split)), all) = reads.takes bytes matcher rest e in
        (front, subst (λ m. SpellsMatcher m front) is (matcher_spelled parts.0 parts.1 front text.0 (split ∙ (λ j. form j ++ text.1 j))), all)

-- ---- buckets-for lines

abbrev SpellsRule : MatcherText × List ℤ → List ℕ → Type 0
SpellsRule = SpellsBoth SpellsMatcher (λ _. SpellsValues)

rule_reads : IsReader (after (codes "buckets-for ") (both matcher_at (λ _. values_at))) (SpellsAfter (codes "buckets-for ") SpellsRule) Ends
rule_reads = after_reads (codes "buckets-for ") _ SpellsRule Ends (both_reads matcher_at (λ _. values_at) SpellsMatcher (λ _. SpellsValues) Anywhere Ends matcher_reads (λ _. values_reads) (λ a b y rest h stop. tt))

rule_spaced : (form text : List ℕ) (decs : List (List ℕ)) → spaced (codes "buckets-for" ∷ form ∷ text ∷ decs) ≡ codes "buckets-for " ++ ((form ++ (codes " " ++ text)) ++ behind_spaces decs)
rule_spaced form text decs =
    ap (λ l. codes "buckets-for " ++ (form ++ (codes " " ++ l))) (words_spaced text decs)
    ∙ ap (λ l. codes "buckets-for " ++ l) (sym (append_assoc form (codes " " ++ text) (behind_spaces decs)))

pub buckets_for_takes : (line : List ℕ) (matcher : MatcherText) (values : List ℤ) → buckets_for_at line ≡ Some (matcher, values) → IsLine line (Header (BucketsFor matcher values))
unfolding buckets_for_at
buckets_for_takes line matcher values e =
    let (front, (x, y, is_matcher, (decs, are, is), split), all) = whole_takes _ _ Ends rule_reads line (matcher, values) e in
    record {
      words = codes "buckets-for" ∷ form_word matcher ∷ quoted (matcher_bytes matcher) ∷ decs;
      formed = (decs, is_matcher.0, are, refl);
      spelled = all ∙ ap (λ l. codes "buckets-for " ++ l) (split ∙ (λ j. is_matcher.1 j ++ is j)) ∙ sym (rule_spaced (form_word matcher) (quoted (matcher_bytes matcher)) decs);
    }

pub buckets_for_again : (line : List ℕ) (matcher : MatcherText) (values : List ℤ) → IsLine line (Header (BucketsFor matcher values)) → buckets_for_at line ≡ Some (matcher, values)
unfolding buckets_for_at
buckets_for_again line matcher values h =
    let (decs, utf8, are, words_are) = h.formed in
    let front : List ℕ = form_word matcher ++ (codes " " ++ quoted (matcher_bytes matcher)) in
    whole_again _ _ Ends rule_reads refl line (matcher, values)
    (front ++ behind_spaces decs, (front, behind_spaces decs, (utf8, refl), (decs, are, refl), refl), h.spelled ∙ ap spaced words_are ∙ rule_spaced (form_word matcher) (quoted (matcher_bytes matcher)) decs)

-- ---- summary lines and idle lines

abbrev SpellsTime : ℕ → List ℕ → Type 0
SpellsTime = SpellsAfter (codes " ") (SpellsNumber (2 ^ 64 - 1))

time_reads : IsReader (after (codes " ") (number_at (2 ^ 64 - 1))) SpellsTime Ends
time_reads = after_reads (codes " ") (number_at (2 ^ 64 - 1)) (SpellsNumber (2 ^ 64 - 1)) Ends (number_to_end (2 ^ 64 - 1) (lit< tt))

-- a time begins with a space
time_stops : (n : ℕ) (y rest : List ℕ) → SpellsTime n y → WordEnds (y ++ rest)
time_stops n y rest h = subst (λ l. WordEnds (l ++ rest)) (sym h.2) refl

abbrev SpellsSummary : ℕ × ℕ → List ℕ → Type 0
SpellsSummary = SpellsBoth (SpellsPositive (2 ^ 32 - 1)) (λ _. SpellsTime)

summary_reads : IsReader (after (codes "summary ") (both (positive_at (2 ^ 32 - 1)) (λ _. after (codes " ") (number_at (2 ^ 64 - 1))))) (SpellsAfter (codes "summary ") SpellsSummary) Ends
summary_reads = after_reads (codes "summary ") _ SpellsSummary Ends (both_reads (positive_at (2 ^ 32 - 1)) (λ _. after (codes " ") (number_at (2 ^ 64 - 1))) (SpellsPositive (2 ^ 32 - 1)) (λ _. SpellsTime) WordEnds Ends
    (positive_reads (2 ^ 32 - 1) (lit< tt)) (λ _. time_reads) (λ a b y rest h stop. time_stops b y rest h))

pub summary_takes : (line : List ℕ) (count duration : ℕ) → summary_at line ≡ Some (count, duration) → IsLine line (Header (Summary count duration))
unfolding summary_at
summary_takes line count duration e =
    let (front, (x, y, (some, number), (z, time, behind_space), split), all) = whole_takes _ _ Ends summary_reads line (count, duration) e in
    record {
      words = codes "summary" ∷ decimal count ∷ decimal duration ∷ [];
      formed = (some, omega (arith, number.1), omega (arith, time.1), refl);
      spelled = all ∙ ap (λ l. codes "summary " ++ l) (split ∙ (λ j. number.0 j ++ (behind_space ∙ ap (λ l. codes " " ++ l) time.0) j));
    }

pub summary_again : (line : List ℕ) (count duration : ℕ) → IsLine line (Header (Summary count duration)) → summary_at line ≡ Some (count, duration)
unfolding summary_at
summary_again line count duration h =
    let (some, count_fits, duration_fits, words_are) = h.formed in
    whole_again _ _ Ends summary_reads refl line (count, duration) (
      decimal count ++ (codes " " ++ decimal duration),
      (decimal count, codes " " ++ decimal duration, (some, (refl, omega (arith, count_fits))), (decimal duration, (refl, omega (arith, duration_fits)), refl), refl),
      h.spelled ∙ ap spaced words_are,
    )

abbrev SpellsIdle : KindMask × ℕ → List ℕ → Type 0
SpellsIdle = SpellsBoth SpellsMask (λ _. SpellsTime)

idle_reads : IsReader (after (codes "idle ") (both mask_at (λ _. after (codes " ") (number_at (2 ^ 64 - 1))))) (SpellsAfter (codes "idle ") SpellsIdle) Ends
idle_reads = after_reads (codes "idle ") _ SpellsIdle Ends (both_reads mask_at (λ _. after (codes " ") (number_at (2 ^ 64 - 1))) SpellsMask (λ _. SpellsTime) WordEnds Ends
    mask_reads (λ _. time_reads) (λ a b y rest h stop. time_stops b y rest h))

pub idle_takes : (line : List ℕ) (mask : KindMask) (timeout : ℕ) → idle_at line ≡ Some (mask, timeout) → IsLine line (Header (Idle mask timeout))
unfolding idle_at
idle_takes line mask timeout e =
    let (front, (letters, y, is_mask, (z, time, behind_space), split), all) = whole_takes _ _ Ends idle_reads line (mask, timeout) e in
    record {
      words = codes "idle" ∷ letters ∷ decimal timeout ∷ [];
      formed = (letters, is_mask, omega (arith, time.1), refl);
      spelled = all ∙ ap (λ l. codes "idle " ++ l) (split ∙ ap (λ l. letters ++ l) (behind_space ∙ ap (λ l. codes " " ++ l) time.0));
    }

pub idle_again : (line : List ℕ) (mask : KindMask) (timeout : ℕ) → IsLine line (Header (Idle mask timeout)) → idle_at line ≡ Some (mask, timeout)
unfolding idle_at
idle_again line mask timeout h =
    let (letters, is_mask, fits, words_are) = h.formed in
    whole_again _ _ Ends idle_reads refl line (mask, timeout) (
      letters ++ (codes " " ++ decimal timeout),
      (letters, codes " " ++ decimal timeout, is_mask, (decimal timeout, (refl, omega (arith, fits)), refl), refl),
      h.spelled ∙ ap spaced words_are,
    )

-- ---- native-for lines

abbrev SpellsSpacedDec : ℤ → List ℕ → Type 0
SpellsSpacedDec = SpellsAfter (codes " ") SpellsDec

abbrev SpellsCountAndDec : ℕ × ℤ → List ℕ → Type 0
SpellsCountAndDec = SpellsBoth (SpellsNumber (2 ^ 32 - 1)) (λ _. SpellsSpacedDec)

abbrev SpellsNumbers : ℤ × (ℕ × ℤ) → List ℕ → Type 0
SpellsNumbers = SpellsBoth SpellsDec (λ _. SpellsAfter (codes " ") SpellsCountAndDec)

-- what begins with a space
spaced_stops : (x y rest : List ℕ) → y ≡ codes " " ++ x → WordEnds (y ++ rest)
spaced_stops x y rest e = subst (λ l. WordEnds (l ++ rest)) (sym e) refl

pub fixed_to_end : IsReader fixed_at SpellsDec Ends
fixed_to_end = stops_less fixed_at SpellsDec WordEnds Ends fixed_reads ends_word

numbers_read : IsReader native_numbers_at SpellsNumbers Ends
numbers_read = both_reads fixed_at (λ _. after (codes " ") (both (number_at (2 ^ 32 - 1)) (λ _. after (codes " ") fixed_at))) SpellsDec (λ _. SpellsAfter (codes " ") SpellsCountAndDec) WordEnds Ends fixed_reads
    (λ _. after_reads (codes " ") (both (number_at (2 ^ 32 - 1)) (λ _. after (codes " ") fixed_at)) SpellsCountAndDec Ends
    (both_reads (number_at (2 ^ 32 - 1)) (λ _. after (codes " ") fixed_at) (SpellsNumber (2 ^ 32 - 1)) (λ _. SpellsSpacedDec) WordEnds Ends (number_words (2 ^ 32 - 1) (lit< tt))
    (λ _. after_reads (codes " ") fixed_at SpellsDec Ends fixed_to_end) (λ a b y rest h stop. spaced_stops h.0 y rest h.2)))
    (λ a b y rest h stop. spaced_stops h.0 y rest h.2)

abbrev SpellsNativeParts : MatcherText × (ℤ × (ℕ × ℤ)) → List ℕ → Type 0
SpellsNativeParts = SpellsBoth SpellsMatcher (λ _. SpellsAfter (codes " ") SpellsNumbers)

native_reads : IsReader (after (codes "native-for ") (seen native_of_parts (both matcher_at (λ _. after (codes " ") native_numbers_at)))) (SpellsAfter (codes "native-for ") (SpellsSeen native_of_parts SpellsNativeParts)) Ends
native_reads = after_reads (codes "native-for ") _ (SpellsSeen native_of_parts SpellsNativeParts) Ends (seen_reads native_of_parts _ SpellsNativeParts Ends
    (both_reads matcher_at (λ _. after (codes " ") native_numbers_at) SpellsMatcher (λ _. SpellsAfter (codes " ") SpellsNumbers) Anywhere Ends matcher_reads
    (λ _. after_reads (codes " ") native_numbers_at SpellsNumbers Ends numbers_read) (λ a b y rest h stop. tt)))

native_spaced : (form text factor count threshold : List ℕ) → spaced (codes "native-for" ∷ form ∷ text ∷ factor ∷ count ∷ threshold ∷ []) ≡ codes "native-for " ++ ((form ++ (codes " " ++ text)) ++ (codes " " ++ (factor ++ (codes " " ++ (count ++ (codes " " ++ threshold))))))
native_spaced form text factor count threshold =
    ap (λ l. codes "native-for " ++ l) (sym (append_assoc form (codes " " ++ text) (codes " " ++ (factor ++ (codes " " ++ (count ++ (codes " " ++ threshold)))))))

pub native_for_takes : (line : List ℕ) (native : NativeLine) → native_for_at line ≡ Some native → IsLine line (Header (NativeFor native))
unfolding native_for_at
native_for_takes line native e =
    let (x, (parts, is, spelled), line_is) = whole_takes _ _ Ends native_reads line native e in
    let (m, y, is_matcher, (z, numbers, y_is), x_is) = spelled in
    let (factor, w, is_factor, (v, more, w_is), z_is) = numbers in
    let (count, u, is_count, (threshold, is_threshold, u_is), v_is) = more in
    let matcher = parts.0 in
    let whole_line : line ≡ codes "native-for " ++ ((form_word matcher ++ (codes " " ++ quoted (matcher_bytes matcher))) ++ (codes " " ++ (factor ++ (codes " " ++ (decimal parts.1.1.0 ++ (codes " " ++ threshold)))))) =
    line_is ∙ ap (λ l. codes "native-for " ++ l) (x_is ∙ (λ j. is_matcher.1 j ++ (y_is ∙ ap (λ l. codes " " ++ l) (z_is ∙ ap (λ l. factor ++ l) (w_is ∙ ap (λ l. codes " " ++ l) (v_is ∙ (λ k. is_count.0 k ++ u_is k))))) j)) in
    subst (λ (n : NativeLine). IsLine line (Header (NativeFor n))) is
    (record {
      words = codes "native-for" ∷ form_word matcher ∷ quoted (matcher_bytes matcher) ∷ factor ∷ decimal parts.1.1.0 ∷ threshold ∷ [];
      formed = (factor, threshold, is_matcher.0, is_factor, omega (arith, is_count.1), is_threshold, refl);
      spelled = whole_line ∙ sym (native_spaced (form_word matcher) (quoted (matcher_bytes matcher)) factor (decimal parts.1.1.0) threshold);
    })

pub native_for_again : (line : List ℕ) (native : NativeLine) → IsLine line (Header (NativeFor native)) → native_for_at line ≡ Some native
unfolding native_for_at
native_for_again line native h =
    let (factor, threshold, utf8, is_factor, fits, is_threshold, words_are) = h.formed in
    let front : List ℕ = form_word native.matcher ++ (codes " " ++ quoted (matcher_bytes native.matcher)) in
    let count : List ℕ = decimal native.max_buckets in
    let last : List ℕ = codes " " ++ threshold in
    let others : List ℕ = count ++ last in
    let numbers : List ℕ = factor ++ (codes " " ++ others) in
    whole_again _ _ Ends native_reads refl line native (
      front ++ (codes " " ++ numbers),
      (
        (native.matcher, (native.factor, (native.max_buckets, native.threshold))),
        refl,
        (front, codes " " ++ numbers, (utf8, refl), (numbers, (factor, codes " " ++ others, is_factor, (others, (count, last, (refl, omega (arith, fits)), (threshold, is_threshold, refl), refl), refl), refl), refl), refl),
      ),
      h.spelled ∙ ap spaced words_are ∙ native_spaced (form_word native.matcher) (quoted (matcher_bytes native.matcher)) factor count threshold,
    )

-- ---- global lines and dsd-global lines

module _ (word line : List ℕ) (label : LabelText) where
  abbrev label_spelling : List ℕ
  label_spelling = word ++ (quoted label.key ++ (codes " " ++ quoted label.value))

  label_line_takes : label_line_at word line ≡ Some label → IsLabelUtf8 label × (line ≡ label_spelling)
  unfolding label_line_at
  label_line_takes e =
      let read = after_reads word _ _ Anywhere (label_seen_reads (codes " ")) in
      let (front, spelled, split) = whole_takes _ _ Anywhere read line label e in
      let is = label_spelled (codes " ") label front spelled in
      (is.0, split ∙ ap (λ l. word ++ l) is.1)

  label_line_again : IsLabelUtf8 label → line ≡ label_spelling → label_line_at word line ≡ Some label
  unfolding label_line_at
  label_line_again utf8 is =
      let read = after_reads word _ _ Anywhere (label_seen_reads (codes " ")) in
      let front : List ℕ = quoted label.key ++ (codes " " ++ quoted label.value) in
      whole_again _ _ Anywhere read tt line label (front, label_spells (codes " ") label front utf8 refl, is)

pub global_takes : (line : List ℕ) (label : LabelText) → label_line_at (codes "global ") line ≡ Some label → IsLine line (Header (Global label))
global_takes line label e =
    let is = label_line_takes (codes "global ") line label e in
    record { words = codes "global" ∷ quoted label.key ∷ quoted label.value ∷ []; formed = (is.0, refl); spelled = is.1 }

pub global_again : (line : List ℕ) (label : LabelText) → IsLine line (Header (Global label)) → label_line_at (codes "global ") line ≡ Some label
global_again line label h = label_line_again (codes "global ") line label h.formed.0 (h.spelled ∙ ap spaced h.formed.1)

tag_takes : (line : List ℕ) (label : LabelText) → label_line_at (codes "dsd-global ") line ≡ Some label → IsLine line (Header (GlobalTag label))
tag_takes line label e =
    let is = label_line_takes (codes "dsd-global ") line label e in
    record { words = codes "dsd-global" ∷ quoted label.key ∷ quoted label.value ∷ []; formed = (is.0, refl); spelled = is.1 }

pub tag_again : (line : List ℕ) (label : LabelText) → IsLine line (Header (GlobalTag label)) → label_line_at (codes "dsd-global ") line ≡ Some label
tag_again line label h = label_line_again (codes "dsd-global ") line label h.formed.0 (h.spelled ∙ ap spaced h.formed.1)

-- ---- series-limit lines

series_limit_reads : IsReader (after (codes "series-limit ") (positive_at (2 ^ 32 - 1))) (SpellsAfter (codes "series-limit ") (SpellsPositive (2 ^ 32 - 1))) Ends
series_limit_reads = after_reads (codes "series-limit ") (positive_at (2 ^ 32 - 1)) (SpellsPositive (2 ^ 32 - 1)) Ends
    (stops_less (positive_at (2 ^ 32 - 1)) (SpellsPositive (2 ^ 32 - 1)) WordEnds Ends (positive_reads (2 ^ 32 - 1) (lit< tt)) ends_word)

pub series_limit_takes : (line : List ℕ) (limit : ℕ) → series_limit_at line ≡ Some limit → IsLine line (Header (SeriesLimit limit))
unfolding series_limit_at
series_limit_takes line limit e =
    let (front, (some, number), split) = whole_takes _ _ Ends series_limit_reads line limit e in
    record { words = codes "series-limit" ∷ decimal limit ∷ []; formed = (some, omega (arith, number.1), refl); spelled = split ∙ ap (λ l. codes "series-limit " ++ l) number.0 }

pub series_limit_again : (line : List ℕ) (limit : ℕ) → IsLine line (Header (SeriesLimit limit)) → series_limit_at line ≡ Some limit
unfolding series_limit_at
series_limit_again line limit h =
    let (some, fits, words_are) = h.formed in
    whole_again _ _ Ends series_limit_reads refl line limit (decimal limit, (some, (refl, omega (arith, fits))), h.spelled ∙ ap spaced words_are)

-- ---- dsd-limit lines and dsd-prefix lines

limit_reads : IsReader (after (codes "dsd-limit ") (number_at (2 ^ 64 - 1))) (SpellsAfter (codes "dsd-limit ") (SpellsNumber (2 ^ 64 - 1))) Ends
limit_reads = after_reads (codes "dsd-limit ") (number_at (2 ^ 64 - 1)) (SpellsNumber (2 ^ 64 - 1)) Ends (number_to_end (2 ^ 64 - 1) (lit< tt))

limit_takes : (line : List ℕ) (limit : ℕ) → limit_at line ≡ Some limit → IsLine line (Header (Limit limit))
unfolding limit_at
limit_takes line limit e =
    let (front, number, split) = whole_takes _ _ Ends limit_reads line limit e in
    record { words = codes "dsd-limit" ∷ decimal limit ∷ []; formed = (omega (arith, number.1), refl); spelled = split ∙ ap (λ l. codes "dsd-limit " ++ l) number.0 }

pub limit_again : (line : List ℕ) (limit : ℕ) → IsLine line (Header (Limit limit)) → limit_at line ≡ Some limit
unfolding limit_at
limit_again line limit h = whole_again _ _ Ends limit_reads refl line limit (decimal limit, (refl, omega (arith, h.formed.0)), h.spelled ∙ ap spaced h.formed.1)

prefix_reads : IsReader (after (codes "dsd-prefix ") text_at) (SpellsAfter (codes "dsd-prefix ") SpellsText) Anywhere
prefix_reads = after_reads (codes "dsd-prefix ") text_at SpellsText Anywhere text_reads

prefix_takes : (line text : List ℕ) → prefix_at line ≡ Some text → IsLine line (Header (NamePrefix text))
unfolding prefix_at
prefix_takes line text e =
    let (front, is_text, split) = whole_takes _ _ Anywhere prefix_reads line text e in
    record { words = codes "dsd-prefix" ∷ quoted text ∷ []; formed = (is_text.0, refl); spelled = split ∙ ap (λ l. codes "dsd-prefix " ++ l) is_text.1 }

pub prefix_again : (line text : List ℕ) → IsLine line (Header (NamePrefix text)) → prefix_at line ≡ Some text
unfolding prefix_at
prefix_again line text h = whole_again _ _ Anywhere prefix_reads tt line text (quoted text, (h.formed.0, refl), h.spelled ∙ ap spaced h.formed.1)

-- a line that is read in one of these forms
mapped_some : {A B : Type 0} (f : A → B) (o : Option A) (y : B) → option_map f o ≡ Some y → (x : A) × (o ≡ Some x) × (f x ≡ y)
mapped_some f None y e = absurd cc
mapped_some f (Some x) y e = (x, refl, same_Some (f x) y e)

payload_takes : (line : List ℕ) (says : HeaderLine) → payload_line_at line ≡ Some says → IsLine line (Header says)
payload_takes line says e =
    elim (or_some (option_map GlobalTag (label_line_at (codes "dsd-global ") line)) _ says e) [
      | inl f ↦ let m = mapped_some GlobalTag (label_line_at (codes "dsd-global ") line) says f in subst (λ h. IsLine line (Header h)) m.2 (tag_takes line m.0 m.1)
      | inr f ↦ elim (or_some (option_map Limit (limit_at line)) _ says f) [
        | inl g ↦ let m = mapped_some Limit (limit_at line) says g in subst (λ h. IsLine line (Header h)) m.2 (limit_takes line m.0 m.1)
        | inr g ↦ let m = mapped_some NamePrefix (prefix_at line) says g in subst (λ h. IsLine line (Header h)) m.2 (prefix_takes line m.0 m.1)
      ]
    ]

none_mapped : {A B : Type 0} (f : A → B) (o : Option A) → option_map f o ≡ None → o ≡ None
none_mapped f None e = refl
none_mapped f (Some x) e = absurd cc

or_none : {A : Type 0} (o p : Option A) → (o or p) ≡ None → (o ≡ None) × (p ≡ None)
or_none None p e = (refl, e)
or_none (Some x) p e = absurd cc

-- ---- lines whose bytes are always the same

pub switch_takes : (line : List ℕ) (says : HeaderLine) → switch_at line ≡ Some says → IsLine line (Header says)
switch_takes line says e = naming (units (conservative (aggressive (h_kind (d_kind (λ f. absurd cc)))))) e
  where
    -- the line is this word, or is read as another
    by : (spelling : List ℕ) (header : HeaderLine) (other : Option HeaderLine) (b : Bool) → bytes_eq line spelling ≡ b → IsLine spelling (Header header) → (other ≡ Some says → IsLine line (Header says)) → (if b then Some header else other) ≡ Some says → IsLine line (Header says)
    by spelling header other true is h rest f =
        subst (λ l. IsLine l (Header says)) (sym ((bytes_eq-Decides line spelling).0 is)) (subst (λ h. IsLine spelling (Header h)) (same_Some header says f) h)
    by spelling header other false is h rest f = rest f

    two_words : (first second : List ℕ) (header : HeaderLine) → AreHeaderWords (first ∷ second ∷ []) header → IsLine (spaced (first ∷ second ∷ [])) (Header header)
    two_words first second header formed = record { words = first ∷ second ∷ []; formed = formed; spelled = refl }

    naming : {other : Option HeaderLine} → (other ≡ Some says → IsLine line (Header says)) → (if bytes_eq line (codes "naming on") then Some Naming else other) ≡ Some says → IsLine line (Header says)
    naming {other} = by (codes "naming on") Naming other (bytes_eq line (codes "naming on")) refl (two_words (codes "naming") (codes "on") Naming refl)

    units : {other : Option HeaderLine} → (other ≡ Some says → IsLine line (Header says)) → (if bytes_eq line (codes "units on") then Some Units else other) ≡ Some says → IsLine line (Header says)
    units {other} = by (codes "units on") Units other (bytes_eq line (codes "units on")) refl (two_words (codes "units") (codes "on") Units refl)

    conservative : {other : Option HeaderLine} → (other ≡ Some says → IsLine line (Header says)) → (if bytes_eq line (codes "dsd-mode conservative") then Some (Mode false) else other) ≡ Some says → IsLine line (Header says)
    conservative {other} = by (codes "dsd-mode conservative") (Mode false) other (bytes_eq line (codes "dsd-mode conservative")) refl (two_words (codes "dsd-mode") (codes "conservative") (Mode false) refl)

    aggressive : {other : Option HeaderLine} → (other ≡ Some says → IsLine line (Header says)) → (if bytes_eq line (codes "dsd-mode aggressive") then Some (Mode true) else other) ≡ Some says → IsLine line (Header says)
    aggressive {other} = by (codes "dsd-mode aggressive") (Mode true) other (bytes_eq line (codes "dsd-mode aggressive")) refl (two_words (codes "dsd-mode") (codes "aggressive") (Mode true) refl)

    h_kind : {other : Option HeaderLine} → (other ≡ Some says → IsLine line (Header says)) → (if bytes_eq line (codes "dsd-kind h") then Some (HistogramKind true) else other) ≡ Some says → IsLine line (Header says)
    h_kind {other} = by (codes "dsd-kind h") (HistogramKind true) other (bytes_eq line (codes "dsd-kind h")) refl (two_words (codes "dsd-kind") (codes "h") (HistogramKind true) refl)

    d_kind : {other : Option HeaderLine} → (other ≡ Some says → IsLine line (Header says)) → (if bytes_eq line (codes "dsd-kind d") then Some (HistogramKind false) else other) ≡ Some says → IsLine line (Header says)
    d_kind {other} = by (codes "dsd-kind d") (HistogramKind false) other (bytes_eq line (codes "dsd-kind d")) refl (two_words (codes "dsd-kind") (codes "d") (HistogramKind false) refl)

pub naming_again : (line : List ℕ) → IsLine line (Header Naming) → switch_at line ≡ Some Naming
naming_again line h = ap switch_at (h.spelled ∙ ap spaced h.formed)

pub units_again : (line : List ℕ) → IsLine line (Header Units) → switch_at line ≡ Some Units
units_again line h = ap switch_at (h.spelled ∙ ap spaced h.formed)

pub mode_again : (line : List ℕ) (aggressive : Bool) → IsLine line (Header (Mode aggressive)) → switch_at line ≡ Some (Mode aggressive)
mode_again line true h = ap switch_at (h.spelled ∙ ap spaced h.formed)
mode_again line false h = ap switch_at (h.spelled ∙ ap spaced h.formed)

pub kind_again : (line : List ℕ) (histograms : Bool) → IsLine line (Header (HistogramKind histograms)) → switch_at line ≡ Some (HistogramKind histograms)
kind_again line true h = ap switch_at (h.spelled ∙ ap spaced h.formed)
kind_again line false h = ap switch_at (h.spelled ∙ ap spaced h.formed)

-- ---- no reading

-- a line that is read in none of the forms is no header line
pub no_header : (line : List ℕ) → label_line_at (codes "global ") line ≡ None → buckets_for_at line ≡ None → buckets_at line ≡ None → quantiles_at line ≡ None → summary_at line ≡ None → idle_at line ≡ None → series_limit_at line ≡ None → native_for_at line ≡ None → switch_at line ≡ None → payload_line_at line ≡ None
    → (says : HeaderLine) → ¬ IsLine line (Header says)
no_header line g bf b q s i l n sw p = by
  where
    others : (label_line_at (codes "dsd-global ") line ≡ None) × (limit_at line ≡ None) × (prefix_at line ≡ None)
    others =
        let tag = or_none (option_map GlobalTag (label_line_at (codes "dsd-global ") line)) _ p in
        let rest = or_none (option_map Limit (limit_at line)) _ tag.1 in
        (none_mapped GlobalTag (label_line_at (codes "dsd-global ") line) tag.0, none_mapped Limit (limit_at line) rest.0, none_mapped NamePrefix (prefix_at line) rest.1)

    differ : {A : Type 0} (o : Option A) (x : A) → o ≡ None → o ≡ Some x → ⊥
    differ o x none some = absurd cc

    by : (says : HeaderLine) → ¬ IsLine line (Header says)
    by (Quantiles values) h = differ (quantiles_at line) values q (quantiles_again line values h)
    by (Buckets values) h = differ (buckets_at line) values b (buckets_again line values h)
    by (BucketsFor matcher values) h = differ (buckets_for_at line) (matcher, values) bf (buckets_for_again line matcher values h)
    by (NativeFor native) h = differ (native_for_at line) native n (native_for_again line native h)
    by (Summary count duration) h = differ (summary_at line) (count, duration) s (summary_again line count duration h)
    by (Idle mask timeout) h = differ (idle_at line) (mask, timeout) i (idle_again line mask timeout h)
    by Naming h = differ (switch_at line) Naming sw (naming_again line h)
    by Units h = differ (switch_at line) Units sw (units_again line h)
    by (Global label) h = differ (label_line_at (codes "global ") line) label g (global_again line label h)
    by (SeriesLimit limit) h = differ (series_limit_at line) limit l (series_limit_again line limit h)
    by (Limit limit) h = differ (limit_at line) limit others.1 (limit_again line limit h)
    by (Mode aggressive) h = differ (switch_at line) (Mode aggressive) sw (mode_again line aggressive h)
    by (NamePrefix text) h = differ (prefix_at line) text others.2 (prefix_again line text h)
    by (GlobalTag label) h = differ (label_line_at (codes "dsd-global ") line) label others.0 (tag_again line label h)
    by (HistogramKind histograms) h = differ (switch_at line) (HistogramKind histograms) sw (kind_again line histograms h)

-- the last form that is tried
pub payload_read : {E : Type 0} (line : List ℕ) (r : Result (Option HeaderOf) E) → IfOk r (λ read. option_map header_of read ≡ payload_line_at line) → (payload_line_at line ≡ None → (says : HeaderLine) → ¬ IsLine line (Header says))
    → IfOk r (λ read. MatchOption read ((says : HeaderLine) → ¬ IsLine line (Header says)) (λ says. IsLine line (Header (header_of says))))
payload_read line (Ok None) e none = none (sym e)
payload_read line (Ok (Some header)) e none = payload_takes line (header_of header) (sym e)
payload_read line (Err refused) e none = tt
