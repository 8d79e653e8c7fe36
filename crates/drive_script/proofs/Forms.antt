-- A line is read as what it says, and so it says at most one thing.
use Rattle.std.proofs.Common.{◌≡◌, ℕ, ◌+◌, ◌-◌, ◌^◌, ◌<◌, Bool, true, false, ◌==◌, List, [], ◌∷◌, ◌++◌, map, get_or, take, drop, Option, Some, None, refl, sym, ap, subst, ◌∙◌, append_assoc, arith, inl, inr, lit<}
use Rattle.std.specs.Prelude.{bytes_eq, codes, decimal, ℤ, IfSome, option_map, if◌then◌else◌}
use Rattle.std.proofs.lemmas.Bool.Decides.{nat_tests}
use Rattle.std.proofs.lemmas.Fmt.{decimal_digit}
use Rattle.std.proofs.lemmas.List.{take-append-drop}
use Rattle.std.proofs.lemmas.Option.{same_Some, some_pair_parts}
use Rattle.std.proofs.lemmas.Slice.Eq.{bytes_eq-Decides}
use Rattle.metrics_core.specs.Keys.{LabelText, KeyText}
use Rattle.metrics_core.specs.Kinds.{kind_text}
use Rattle.metrics_core.specs.Units.{unit_text}
use Rattle.metrics_core.specs.UnitLaws.{unit_of, unit_of-text}
use Rattle.metrics_core.specs.declared.units.Unit.{Unit as UnitOf}
use Rattle.metrics_core.specs.declared.units.Unit.TheVariants as units
use Rattle.metrics_core.specs.declared.kinds.MetricKind.{MetricKind}
use Rattle.metrics_core.specs.declared.kinds.MetricKind.TheVariants as kinds
use Rattle.drive_script.specs.Words.{spaced, quoted, label_word, unit_word}
use Rattle.drive_script.specs.Script.{SetupLine, Register, Describe, Act, Inc, Abs, Add, Sub, Set, Rec, RecN, CallLine, HeaderLine, Quantiles, Buckets, BucketsFor, NativeFor, Summary, Idle, Naming, Units, Global, SeriesLimit, Limit, Mode, NamePrefix, GlobalTag, HistogramKind, ScriptLine, Header, Round, Setup, CallOf, IsLine, AreActWords}
use Rattle.drive_script.specs.Reading.{◌>>=◌, ◌or◌, both, seen, after, behind, standing, number_at, positive_at, fixed_at, text_at, labels_at, word_length, unit_named, unit_at, verb_at, kind_word_at, registered_kind_at, argument_at, quantiles_at, buckets_at, buckets_for_at, native_for_at, summary_at, idle_at, label_line_at, series_limit_at, limit_at, prefix_at, switch_at, round_at, description_of_parts, description_at, describe_at, Registered, register_at, CallParts, call_parts_at, call_of_parts, call_at}
use Rattle.drive_script.specs.declared.lines.Verb.{Verb}
use Rattle.drive_script.specs.declared.lines.Verb.TheVariants as verbs
use Rattle.drive_script.proofs.Fields.{bind_some}
use Rattle.drive_script.proofs.Readers.{IsReader, Ends, Anywhere, stops_less, SpellsBoth, both_reads, SpellsSeen, seen_reads, SpellsAfter, after_reads, standing_takes, or_some, whole_takes, whole_again}
use Rattle.drive_script.proofs.Spaced.{WordEnds, ends_word}
use Rattle.drive_script.proofs.Decimals.{NoDigit, SpellsNumber, number_reads, SpellsPositive, positive_reads, SpellsDec, fixed_reads}
use Rattle.drive_script.proofs.TextFields.{SpellsText, text_reads, spaced_labels, SpellsLabels, labels_read}
use Rattle.drive_script.proofs.HeaderForms.{behind_spaces, words_spaced, number_to_end, fixed_to_end, quantiles_again, buckets_again, buckets_for_again, native_for_again, summary_again, idle_again, naming_again, units_again, mode_again, kind_again, global_again, tag_again, series_limit_again, limit_again, prefix_again}

-- ---- round lines

round_reads : IsReader (after (codes "round ") (number_at (2 ^ 64 - 1))) (SpellsAfter (codes "round ") (SpellsNumber (2 ^ 64 - 1))) Ends
round_reads = after_reads (codes "round ") (number_at (2 ^ 64 - 1)) (SpellsNumber (2 ^ 64 - 1)) Ends (number_to_end (2 ^ 64 - 1) (lit< tt))

pub round_takes : (line : List ℕ) (moment : ℕ) → round_at line ≡ Some moment → IsLine line (Round moment)
unfolding round_at
round_takes line moment e =
    let (front, number, split) = whole_takes _ _ Ends round_reads line moment e in
    record { words = codes "round" ∷ decimal moment ∷ []; formed = (omega (arith, number.1), refl); spelled = split ∙ ap (λ l. codes "round " ++ l) number.0 }

pub round_again : (line : List ℕ) (moment : ℕ) → IsLine line (Round moment) → round_at line ≡ Some moment
unfolding round_at
round_again line moment h = whole_again _ _ Ends round_reads refl line moment (decimal moment, (refl, omega (arith, h.formed.0)), h.spelled ∙ ap spaced h.formed.1)

-- ---- register lines

abbrev kind_word : MetricKind → List ℕ
kind_word kind = kind_text kind ++ codes " "

abbrev register_text : MetricKind → List ℕ
register_text kind = codes "register " ++ kind_word kind

abbrev SpellsKindWord : MetricKind → List ℕ → Type 0
SpellsKindWord kind front = front ≡ kind_word kind

kind_word_takes : (bytes : List ℕ) (kind : MetricKind) (rest : List ℕ) → kind_word_at bytes ≡ Some (kind, rest) → (front : List ℕ) × SpellsKindWord kind front × (bytes ≡ front ++ rest)
unfolding kind_word_at
kind_word_takes bytes kind rest e = by e
  where
    given : (literal : List ℕ) (k : MetricKind) → literal ≡ kind_word k → standing literal k bytes ≡ Some (kind, rest) → (front : List ℕ) × SpellsKindWord kind front × (bytes ≡ front ++ rest)
    given literal k is f = let h = standing_takes literal k kind bytes rest f in (literal, is ∙ ap kind_word h.0, h.1)

    by : (standing (codes "counter ") kinds.Counter bytes or standing (codes "gauge ") kinds.Gauge bytes or standing (codes "histogram ") kinds.Histogram bytes) ≡ Some (kind, rest)
        → (front : List ℕ) × SpellsKindWord kind front × (bytes ≡ front ++ rest)
    by f =
        elim (or_some (standing (codes "counter ") kinds.Counter bytes) _ (kind, rest) f) [
          | inl g ↦ given (codes "counter ") kinds.Counter refl g
          | inr g ↦ elim (or_some (standing (codes "gauge ") kinds.Gauge bytes) _ (kind, rest) g) [ inl h ↦ given (codes "gauge ") kinds.Gauge refl h | inr h ↦ given (codes "histogram ") kinds.Histogram refl h ]
        ]

kind_word_again : (kind : MetricKind) (front rest : List ℕ) → SpellsKindWord kind front → Anywhere rest → kind_word_at (front ++ rest) ≡ Some (kind, rest)
unfolding kind_word_at behind
kind_word_again kinds.Counter front rest h stop = ap (λ l. kind_word_at (l ++ rest)) h
kind_word_again kinds.Gauge front rest h stop = ap (λ l. kind_word_at (l ++ rest)) h
kind_word_again kinds.Histogram front rest h stop = ap (λ l. kind_word_at (l ++ rest)) h

kind_word_reads : IsReader kind_word_at SpellsKindWord Anywhere
kind_word_reads = record { takes = kind_word_takes; again = kind_word_again }

abbrev SpellsKind : MetricKind → List ℕ → Type 0
SpellsKind = SpellsAfter (codes "register ") SpellsKindWord

kind_reads : IsReader registered_kind_at SpellsKind Anywhere
unfolding registered_kind_at
kind_reads = after_reads (codes "register ") kind_word_at SpellsKindWord Anywhere kind_word_reads

abbrev SpellsKey : List ℕ × List LabelText → List ℕ → Type 0
SpellsKey = SpellsBoth SpellsText (λ _. SpellsLabels)

abbrev SpellsRegistered : Registered → List ℕ → Type 0
SpellsRegistered = SpellsBoth SpellsKind (λ _. SpellsKey)

key_reads : IsReader (both text_at (λ _. labels_at)) SpellsKey Ends
key_reads = both_reads text_at (λ _. labels_at) SpellsText (λ _. SpellsLabels) Anywhere Ends text_reads (λ _. labels_read) (λ a b y rest h stop. tt)

register_reads : IsReader (both registered_kind_at (λ _. both text_at (λ _. labels_at))) SpellsRegistered Ends
register_reads = both_reads registered_kind_at (λ _. both text_at (λ _. labels_at)) SpellsKind (λ _. SpellsKey) Anywhere Ends kind_reads (λ _. key_reads) (λ a b y rest h stop. tt)

abbrev pub key_of : Registered → KeyText
key_of registered = record { name = registered.1.0; labels = registered.1.1 }

-- labels behind a first word
spaced_words : (first : List ℕ) (labels : List LabelText) → spaced (first ∷ map label_word labels) ≡ first ++ spaced_labels labels
spaced_words first labels = words_spaced first (map label_word labels) ∙ ap (λ l. first ++ l) (behind_labels labels)
  where
    behind_labels : (labels : List LabelText) → behind_spaces (map label_word labels) ≡ spaced_labels labels
    behind_labels [] = refl
    behind_labels (label ∷ labels) = ap (λ l. codes " " ++ (label_word label ++ l)) (behind_labels labels)

register_spaced : (kind : MetricKind) (name : List ℕ) (labels : List LabelText) → spaced (codes "register" ∷ kind_text kind ∷ quoted name ∷ map label_word labels) ≡ register_text kind ++ (quoted name ++ spaced_labels labels)
register_spaced kind name labels =
    ap (λ l. codes "register " ++ (kind_text kind ++ (codes " " ++ l))) (spaced_words (quoted name) labels)
    ∙ ap (λ l. codes "register " ++ l) (sym (append_assoc (kind_text kind) (codes " ") (quoted name ++ spaced_labels labels)))

pub register_takes : (line : List ℕ) (kind : MetricKind) (key : KeyText) → register_at line ≡ Some (kind, (key.name, key.labels)) → IsLine line (Setup (Register kind key))
unfolding register_at
register_takes line kind key e =
    let (x, y, is_kind, is_key, split) = whole_takes _ _ Ends register_reads line (kind, (key.name, key.labels)) e in
    let (u, v, is_name, are_labels, key_split) = is_key in
    record {
      words = codes "register" ∷ kind_text kind ∷ quoted key.name ∷ map label_word key.labels;
      formed = ((is_name.0, are_labels.0), refl);
      spelled = split ∙ (λ j. (is_kind.2 ∙ ap (λ l. codes "register " ++ l) is_kind.1) j ++ (key_split ∙ (λ k. is_name.1 k ++ are_labels.1 k)) j) ∙ sym (register_spaced kind key.name key.labels);
    }

pub register_again : (line : List ℕ) (kind : MetricKind) (key : KeyText) → IsLine line (Setup (Register kind key)) → register_at line ≡ Some (kind, (key.name, key.labels))
unfolding register_at
register_again line kind key h =
    whole_again _ _ Ends register_reads refl line (kind, (key.name, key.labels))
    (register_text kind, quoted key.name ++ spaced_labels key.labels, (kind_word kind, refl, refl), (quoted key.name, spaced_labels key.labels, (h.formed.0.0, refl), (h.formed.0.1, refl), refl), h.spelled ∙ ap spaced h.formed.1 ∙ register_spaced kind key.name key.labels)

-- ---- describe lines

-- a space stands next
abbrev SpaceNext : List ℕ → Type 0
SpaceNext rest = (others : List ℕ) × (rest ≡ codes " " ++ others)

abbrev SpellsUnit : Option UnitOf → List ℕ → Type 0
SpellsUnit unit front = front ≡ unit_word unit

named_takes : (word : List ℕ) (unit : Option UnitOf) → unit_named word ≡ Some unit → word ≡ unit_word unit
named_takes word unit e = by (bytes_eq word (codes "-")) refl e
  where
    of_text : (o : Option UnitOf) → unit_of word ≡ o → (o >>= λ u. Some (Some u)) ≡ Some unit → word ≡ unit_word unit
    of_text None is f = absurd cc
    of_text (Some u) is f = sym (subst (λ o. IfSome o (λ u. unit_text u ≡ word)) is (unit_of-text word)) ∙ ap unit_word (same_Some (Some u) unit f)

    by : (b : Bool) → bytes_eq word (codes "-") ≡ b → (if b then Some None else (unit_of word >>= λ u. Some (Some u))) ≡ Some unit → word ≡ unit_word unit
    by true is f = (bytes_eq-Decides word (codes "-")).0 is ∙ ap unit_word (same_Some None unit f)
    by false is f = of_text (unit_of word) refl f

unit_takes : (bytes : List ℕ) (unit : Option UnitOf) (rest : List ℕ) → unit_at bytes ≡ Some (unit, rest) → (front : List ℕ) × SpellsUnit unit front × (bytes ≡ front ++ rest)
unfolding unit_at
unit_takes bytes unit rest e =
    let n = word_length bytes in
    let m = bind_some (unit_named (take n bytes)) (λ u. Some (u, drop n bytes)) (unit, rest) e in
    let same = some_pair_parts m.0 unit (drop n bytes) rest m.2 in
    (take n bytes, named_takes (take n bytes) unit (m.1 ∙ ap Some same.0), sym (take-append-drop n bytes) ∙ ap (λ l. take n bytes ++ l) same.1)

unit_again : (unit : Option UnitOf) (front rest : List ℕ) → SpellsUnit unit front → SpaceNext rest → unit_at (front ++ rest) ≡ Some (unit, rest)
unfolding unit_at
unit_again unit front rest h (others, is) = (λ j. unit_at (h j ++ is j)) ∙ by unit ∙ ap (λ l. Some (unit, l)) (sym is)
  where
    by : (unit : Option UnitOf) → unit_at (unit_word unit ++ (codes " " ++ others)) ≡ Some (unit, codes " " ++ others)
    by None = refl
    by (Some units.Count) = refl
    by (Some units.Percent) = refl
    by (Some units.Seconds) = refl
    by (Some units.Milliseconds) = refl
    by (Some units.Microseconds) = refl
    by (Some units.Nanoseconds) = refl
    by (Some units.Tebibytes) = refl
    by (Some units.Gibibytes) = refl
    by (Some units.Mebibytes) = refl
    by (Some units.Kibibytes) = refl
    by (Some units.Bytes) = refl
    by (Some units.TerabitsPerSecond) = refl
    by (Some units.GigabitsPerSecond) = refl
    by (Some units.MegabitsPerSecond) = refl
    by (Some units.KilobitsPerSecond) = refl
    by (Some units.BitsPerSecond) = refl
    by (Some units.CountPerSecond) = refl

unit_reads : IsReader unit_at SpellsUnit SpaceNext
unit_reads = record { takes = unit_takes; again = unit_again }

abbrev SpellsSpacedText : List ℕ → List ℕ → Type 0
SpellsSpacedText = SpellsAfter (codes " ") SpellsText

abbrev SpellsUnitAndText : Option UnitOf × List ℕ → List ℕ → Type 0
SpellsUnitAndText = SpellsBoth SpellsUnit (λ _. SpellsSpacedText)

abbrev SpellsNamed : List ℕ × (Option UnitOf × List ℕ) → List ℕ → Type 0
SpellsNamed = SpellsBoth SpellsText (λ _. SpellsAfter (codes " ") SpellsUnitAndText)

abbrev SpellsDescription : MetricKind × (List ℕ × (Option UnitOf × List ℕ)) → List ℕ → Type 0
SpellsDescription = SpellsBoth SpellsKindWord (λ _. SpellsNamed)

unit_and_text_read : IsReader (both unit_at (λ _. after (codes " ") text_at)) SpellsUnitAndText Anywhere
unit_and_text_read = both_reads unit_at (λ _. after (codes " ") text_at) SpellsUnit (λ _. SpellsSpacedText) SpaceNext Anywhere unit_reads
    (λ _. after_reads (codes " ") text_at SpellsText Anywhere text_reads) (λ a b y rest h stop. (h.0 ++ rest, ap (λ l. l ++ rest) h.2))

named_read : IsReader (both text_at (λ _. after (codes " ") (both unit_at (λ _. after (codes " ") text_at)))) SpellsNamed Anywhere
named_read = both_reads text_at (λ _. after (codes " ") (both unit_at (λ _. after (codes " ") text_at))) SpellsText (λ _. SpellsAfter (codes " ") SpellsUnitAndText) Anywhere Anywhere text_reads
    (λ _. after_reads (codes " ") (both unit_at (λ _. after (codes " ") text_at)) SpellsUnitAndText Anywhere unit_and_text_read) (λ a b y rest h stop. tt)

describe_reads : IsReader (after (codes "describe ") (seen description_of_parts description_at)) (SpellsAfter (codes "describe ") (SpellsSeen description_of_parts SpellsDescription)) Anywhere
describe_reads = after_reads (codes "describe ") (seen description_of_parts description_at) (SpellsSeen description_of_parts SpellsDescription) Anywhere
    (seen_reads description_of_parts description_at SpellsDescription Anywhere
    (both_reads kind_word_at (λ _. both text_at (λ _. after (codes " ") (both unit_at (λ _. after (codes " ") text_at)))) SpellsKindWord (λ _. SpellsNamed) Anywhere Anywhere kind_word_reads (λ _. named_read) (λ a b y rest h stop. tt)))

describe_spaced : (kind : MetricKind) (name unit text : List ℕ) → spaced (codes "describe" ∷ kind_text kind ∷ name ∷ unit ∷ text ∷ []) ≡ codes "describe " ++ (kind_word kind ++ (name ++ (codes " " ++ (unit ++ (codes " " ++ text)))))
describe_spaced kind name unit text = ap (λ l. codes "describe " ++ l) (sym (append_assoc (kind_text kind) (codes " ") (name ++ (codes " " ++ (unit ++ (codes " " ++ text))))))

pub describe_takes : (line : List ℕ) (setup : SetupLine) → describe_at line ≡ Some setup → IsLine line (Setup setup)
unfolding describe_at
describe_takes line setup e =
    let (x, (parts, is, spelled), line_is) = whole_takes _ _ Anywhere describe_reads line setup e in
    let (k, y, is_kind, named, x_is) = spelled in
    let (n, z, is_name, (w, behind_name, z_is), y_is) = named in
    let (u, v, is_unit, (t, is_text, v_is), w_is) = behind_name in
    let whole_line : line ≡ codes "describe " ++ (kind_word parts.0 ++ (quoted parts.1.0 ++ (codes " " ++ (unit_word parts.1.1.0 ++ (codes " " ++ quoted parts.1.1.1))))) =
    line_is ∙ ap (λ l. codes "describe " ++ l) (x_is ∙ (λ i. is_kind i ++ (y_is ∙ (λ j. is_name.1 j ++ (z_is ∙ ap (λ l. codes " " ++ l) (w_is ∙ (λ m. is_unit m ++ (v_is ∙ ap (λ l. codes " " ++ l) is_text.1) m))) j)) i)) in
    subst (λ (s : SetupLine). IsLine line (Setup s)) is
    (record {
      words = codes "describe" ∷ kind_text parts.0 ∷ quoted parts.1.0 ∷ unit_word parts.1.1.0 ∷ quoted parts.1.1.1 ∷ [];
      formed = (is_name.0, is_text.0, refl);
      spelled = whole_line ∙ sym (describe_spaced parts.0 (quoted parts.1.0) (unit_word parts.1.1.0) (quoted parts.1.1.1));
    })

pub describe_again : (line : List ℕ) (kind : MetricKind) (name : List ℕ) (unit : Option UnitOf) (text : List ℕ) → IsLine line (Setup (Describe kind name unit text)) → describe_at line ≡ Some (Describe kind name unit text)
unfolding describe_at
describe_again line kind name unit text h =
    let last : List ℕ = codes " " ++ quoted text in
    let named : List ℕ = unit_word unit ++ last in
    let others : List ℕ = quoted name ++ (codes " " ++ named) in
    whole_again _ _ Anywhere describe_reads tt line (Describe kind name unit text) (
      kind_word kind ++ others,
      (
        (kind, (name, (unit, text))),
        refl,
        (kind_word kind, others, refl, (quoted name, codes " " ++ named, (h.formed.0, refl), (named, (unit_word unit, last, refl, (quoted text, (h.formed.1, refl), refl), refl), refl), refl), refl),
      ),
      h.spelled ∙ ap spaced h.formed.2 ∙ describe_spaced kind (quoted name) (unit_word unit) (quoted text),
    )

-- ---- call lines

abbrev verb_word : Verb → List ℕ
verb_word verbs.Inc = codes "inc"
verb_word verbs.Abs = codes "abs"
verb_word verbs.Add = codes "add"
verb_word verbs.Sub = codes "sub"
verb_word verbs.Set = codes "set"
verb_word verbs.Rec = codes "rec"
verb_word verbs.RecN = codes "recn"

abbrev verb_text : Verb → List ℕ
verb_text verb = codes " " ++ (verb_word verb ++ codes " ")

abbrev SpellsVerb : Verb → List ℕ → Type 0
SpellsVerb verb front = front ≡ verb_text verb

verb_takes : (bytes : List ℕ) (verb : Verb) (rest : List ℕ) → verb_at bytes ≡ Some (verb, rest) → (front : List ℕ) × SpellsVerb verb front × (bytes ≡ front ++ rest)
unfolding verb_at
verb_takes bytes verb rest e = by e
  where
    given : (literal : List ℕ) (v : Verb) → literal ≡ verb_text v → standing literal v bytes ≡ Some (verb, rest) → (front : List ℕ) × SpellsVerb verb front × (bytes ≡ front ++ rest)
    given literal v is f = let h = standing_takes literal v verb bytes rest f in (literal, is ∙ ap verb_text h.0, h.1)

    by_last : (standing (codes " set ") verbs.Set bytes or standing (codes " rec ") verbs.Rec bytes or standing (codes " recn ") verbs.RecN bytes) ≡ Some (verb, rest) → (front : List ℕ) × SpellsVerb verb front × (bytes ≡ front ++ rest)
    by_last f =
        elim (or_some (standing (codes " set ") verbs.Set bytes) _ (verb, rest) f) [
          | inl g ↦ given (codes " set ") verbs.Set refl g
          | inr g ↦ elim (or_some (standing (codes " rec ") verbs.Rec bytes) _ (verb, rest) g) [ inl h ↦ given (codes " rec ") verbs.Rec refl h | inr h ↦ given (codes " recn ") verbs.RecN refl h ]
        ]

    by : (standing (codes " inc ") verbs.Inc bytes or standing (codes " abs ") verbs.Abs bytes or standing (codes " add ") verbs.Add bytes or standing (codes " sub ") verbs.Sub bytes or standing (codes " set ") verbs.Set bytes or standing (codes " rec ") verbs.Rec bytes or standing (codes " recn ") verbs.RecN bytes) ≡ Some (verb, rest)
        → (front : List ℕ) × SpellsVerb verb front × (bytes ≡ front ++ rest)
    by f =
        elim (or_some (standing (codes " inc ") verbs.Inc bytes) _ (verb, rest) f) [
          | inl g ↦ given (codes " inc ") verbs.Inc refl g
          | inr g ↦ elim (or_some (standing (codes " abs ") verbs.Abs bytes) _ (verb, rest) g) [
            | inl h ↦ given (codes " abs ") verbs.Abs refl h
            | inr h ↦ elim (or_some (standing (codes " add ") verbs.Add bytes) _ (verb, rest) h) [
              | inl k ↦ given (codes " add ") verbs.Add refl k
              | inr k ↦ elim (or_some (standing (codes " sub ") verbs.Sub bytes) _ (verb, rest) k) [ inl m ↦ given (codes " sub ") verbs.Sub refl m | inr m ↦ by_last m ]
            ]
          ]
        ]

verb_again : (verb : Verb) (front rest : List ℕ) → SpellsVerb verb front → Anywhere rest → verb_at (front ++ rest) ≡ Some (verb, rest)
unfolding verb_at behind
verb_again verbs.Inc front rest h stop = ap (λ l. verb_at (l ++ rest)) h
verb_again verbs.Abs front rest h stop = ap (λ l. verb_at (l ++ rest)) h
verb_again verbs.Add front rest h stop = ap (λ l. verb_at (l ++ rest)) h
verb_again verbs.Sub front rest h stop = ap (λ l. verb_at (l ++ rest)) h
verb_again verbs.Set front rest h stop = ap (λ l. verb_at (l ++ rest)) h
verb_again verbs.Rec front rest h stop = ap (λ l. verb_at (l ++ rest)) h
verb_again verbs.RecN front rest h stop = ap (λ l. verb_at (l ++ rest)) h

verb_reads : IsReader verb_at SpellsVerb Anywhere
verb_reads = record { takes = verb_takes; again = verb_again }

abbrev SpellsCount : (ℕ → Act) → Act → List ℕ → Type 0
SpellsCount act = SpellsSeen act (SpellsNumber (2 ^ 64 - 1))

abbrev SpellsValue : (ℤ → Act) → Act → List ℕ → Type 0
SpellsValue act = SpellsSeen act SpellsDec

-- a value, and behind a space how many times it is recorded
abbrev SpellsTimes : ℤ × ℕ → List ℕ → Type 0
SpellsTimes = SpellsBoth SpellsDec (λ _. SpellsAfter (codes " ") (SpellsPositive 1000000))

abbrev samples_act : ℤ × ℕ → Act
samples_act samples = RecN samples.0 samples.1

abbrev SpellsArgument : Verb → Act → List ℕ → Type 0
SpellsArgument verbs.Inc = SpellsCount Inc
SpellsArgument verbs.Abs = SpellsCount Abs
SpellsArgument verbs.Add = SpellsValue Add
SpellsArgument verbs.Sub = SpellsValue Sub
SpellsArgument verbs.Set = SpellsValue Set
SpellsArgument verbs.Rec = SpellsValue Rec
SpellsArgument verbs.RecN = SpellsSeen samples_act SpellsTimes

times_read : IsReader (both fixed_at (λ _. after (codes " ") (positive_at 1000000))) SpellsTimes Ends
times_read = both_reads fixed_at (λ _. after (codes " ") (positive_at 1000000)) SpellsDec (λ _. SpellsAfter (codes " ") (SpellsPositive 1000000)) WordEnds Ends fixed_reads
    (λ _. after_reads (codes " ") (positive_at 1000000) (SpellsPositive 1000000) Ends (stops_less (positive_at 1000000) (SpellsPositive 1000000) WordEnds Ends (positive_reads 1000000 (lit< tt)) ends_word))
    (λ a b y rest h stop. subst (λ l. WordEnds (l ++ rest)) (sym h.2) refl)

argument_reads : (verb : Verb) → IsReader (argument_at verb) (SpellsArgument verb) Ends
argument_reads verbs.Inc = seen_reads Inc (number_at (2 ^ 64 - 1)) (SpellsNumber (2 ^ 64 - 1)) Ends (number_to_end (2 ^ 64 - 1) (lit< tt))
argument_reads verbs.Abs = seen_reads Abs (number_at (2 ^ 64 - 1)) (SpellsNumber (2 ^ 64 - 1)) Ends (number_to_end (2 ^ 64 - 1) (lit< tt))
argument_reads verbs.Add = seen_reads Add fixed_at SpellsDec Ends fixed_to_end
argument_reads verbs.Sub = seen_reads Sub fixed_at SpellsDec Ends fixed_to_end
argument_reads verbs.Set = seen_reads Set fixed_at SpellsDec Ends fixed_to_end
argument_reads verbs.Rec = seen_reads Rec fixed_at SpellsDec Ends fixed_to_end
argument_reads verbs.RecN = seen_reads samples_act (both fixed_at (λ _. after (codes " ") (positive_at 1000000))) SpellsTimes Ends times_read

abbrev SpellsHandled : Verb → ℕ × Act → List ℕ → Type 0
SpellsHandled verb = SpellsBoth (SpellsNumber (2 ^ 32 - 1)) (λ _. SpellsAfter (codes " ") (SpellsArgument verb))

abbrev SpellsParts : CallParts → List ℕ → Type 0
SpellsParts = SpellsBoth (SpellsNumber 7) (λ _. SpellsBoth SpellsVerb SpellsHandled)

handled_reads : (verb : Verb) → IsReader (both (number_at (2 ^ 32 - 1)) (λ _. after (codes " ") (argument_at verb))) (SpellsHandled verb) Ends
handled_reads verb = both_reads (number_at (2 ^ 32 - 1)) (λ _. after (codes " ") (argument_at verb)) (SpellsNumber (2 ^ 32 - 1)) (λ _. SpellsAfter (codes " ") (SpellsArgument verb)) NoDigit Ends
    (number_reads (2 ^ 32 - 1) (lit< tt)) (λ _. after_reads (codes " ") (argument_at verb) (SpellsArgument verb) Ends (argument_reads verb))
    (λ a b y rest h stop. subst (λ l. NoDigit (l ++ rest)) (sym h.2) refl)

no_digit_at_verb : (verb : Verb) (rest : List ℕ) → NoDigit (verb_text verb ++ rest)
no_digit_at_verb verb rest = refl

parts_read : IsReader call_parts_at SpellsParts Ends
parts_read = both_reads (number_at 7) (λ _. both verb_at (λ verb. both (number_at (2 ^ 32 - 1)) (λ _. after (codes " ") (argument_at verb)))) (SpellsNumber 7) (λ _. SpellsBoth SpellsVerb SpellsHandled) NoDigit Ends
    (number_reads 7 (lit< tt))
    (λ _. both_reads verb_at (λ verb. both (number_at (2 ^ 32 - 1)) (λ _. after (codes " ") (argument_at verb))) SpellsVerb SpellsHandled Anywhere Ends verb_reads handled_reads (λ a b y rest h stop. tt))
    (λ a b y rest h stop. subst (λ l. NoDigit (l ++ rest)) (sym (h.4 ∙ ap (λ l. l ++ h.1) h.2)) (subst NoDigit (sym (append_assoc (verb_text b.0) h.1 rest)) (no_digit_at_verb b.0 (h.1 ++ rest))))

-- the words behind the handle: a value, or a value and a count
record ActWords (verb : Verb) (handle : ℕ) (act : Act) (argument : List ℕ) : Type 0 where
  first : List ℕ
  others : List (List ℕ)
  words_are : argument ≡ spaced (first ∷ others)
  formed : AreActWords (verb_word verb ∷ decimal handle ∷ first ∷ others) handle act

-- the words of an act, from its verb and its argument
act_words : (verb : Verb) (handle : ℕ) (act : Act) (argument : List ℕ) → SpellsArgument verb act argument → ActWords verb handle act argument
act_words verb handle act argument = by verb
  where
    one_word : (verb : Verb) (act : Act) → AreActWords (verb_word verb ∷ decimal handle ∷ argument ∷ []) handle act → ActWords verb handle act argument
    one_word verb act formed = record { first = argument; others = []; words_are = refl; formed = formed }

    by : (verb : Verb) → SpellsArgument verb act argument → ActWords verb handle act argument
    by verbs.Inc (n, is, number) = subst (λ a. ActWords verbs.Inc handle a argument) is (one_word verbs.Inc (Inc n) (omega (arith, number.1), ap (λ l. codes "inc" ∷ decimal handle ∷ l ∷ []) number.0))
    by verbs.Abs (n, is, number) = subst (λ a. ActWords verbs.Abs handle a argument) is (one_word verbs.Abs (Abs n) (omega (arith, number.1), ap (λ l. codes "abs" ∷ decimal handle ∷ l ∷ []) number.0))
    by verbs.Add (v, is, dec) = subst (λ a. ActWords verbs.Add handle a argument) is (one_word verbs.Add (Add v) (argument, dec, refl))
    by verbs.Sub (v, is, dec) = subst (λ a. ActWords verbs.Sub handle a argument) is (one_word verbs.Sub (Sub v) (argument, dec, refl))
    by verbs.Set (v, is, dec) = subst (λ a. ActWords verbs.Set handle a argument) is (one_word verbs.Set (Set v) (argument, dec, refl))
    by verbs.Rec (v, is, dec) = subst (λ a. ActWords verbs.Rec handle a argument) is (one_word verbs.Rec (Rec v) (argument, dec, refl))
    by verbs.RecN (samples, is, (dec, behind_dec, is_dec, (count, is_count, behind_space), split)) =
        subst (λ a. ActWords verbs.RecN handle a argument) is
        (record {
          first = dec;
          others = decimal samples.1 ∷ [];
          words_are = split ∙ ap (λ l. dec ++ l) (behind_space ∙ ap (λ l. codes " " ++ l) is_count.1.0);
          formed = (dec, is_dec, is_count.0, is_count.1.1, refl);
        })

-- the verb and the argument, from the words of an act
record Worded (words : List (List ℕ)) (handle : ℕ) (act : Act) : Type 0 where
  verb : Verb
  first : List ℕ
  others : List (List ℕ)
  spelled : SpellsArgument verb act (spaced (first ∷ others))
  words_are : words ≡ verb_word verb ∷ decimal handle ∷ first ∷ others

worded : (words : List (List ℕ)) (handle : ℕ) (act : Act) → AreActWords words handle act → Worded words handle act
worded words handle (Inc n) h = record { verb = verbs.Inc; first = decimal n; others = []; spelled = (n, refl, (refl, omega (arith, h.0))); words_are = h.1 }
worded words handle (Abs n) h = record { verb = verbs.Abs; first = decimal n; others = []; spelled = (n, refl, (refl, omega (arith, h.0))); words_are = h.1 }
worded words handle (Add v) h = record { verb = verbs.Add; first = h.0; others = []; spelled = (v, refl, h.1); words_are = h.2 }
worded words handle (Sub v) h = record { verb = verbs.Sub; first = h.0; others = []; spelled = (v, refl, h.1); words_are = h.2 }
worded words handle (Set v) h = record { verb = verbs.Set; first = h.0; others = []; spelled = (v, refl, h.1); words_are = h.2 }
worded words handle (Rec v) h = record { verb = verbs.Rec; first = h.0; others = []; spelled = (v, refl, h.1); words_are = h.2 }
worded words handle (RecN v n) (dec, is_dec, some, few, words_are) = record {
  verb = verbs.RecN;
  first = dec;
  others = decimal n ∷ [];
  spelled = ((v, n), refl, (dec, codes " " ++ decimal n, is_dec, (decimal n, (some, (refl, few)), refl), refl));
  words_are = words_are;
}

call_spaced : (verb : Verb) (lane handle first : List ℕ) (others : List (List ℕ)) → spaced (lane ∷ verb_word verb ∷ handle ∷ first ∷ others) ≡ lane ++ (verb_text verb ++ (handle ++ (codes " " ++ spaced (first ∷ others))))
call_spaced verb lane handle first others = ap (λ l. lane ++ (codes " " ++ l)) (sym (append_assoc (verb_word verb) (codes " ") (handle ++ (codes " " ++ spaced (first ∷ others)))))

pub call_takes : (line : List ℕ) (call : CallLine) → call_at line ≡ Some call → IsLine line (CallOf call)
unfolding call_at
call_takes line call e =
    let (parts, is, spelled_parts) = whole_takes _ _ Ends (seen_reads call_of_parts call_parts_at SpellsParts Ends parts_read) line call e in
    let (x, y, lane, others, split) = spelled_parts in
    let (u, v, verb, handled, verb_split) = others in
    let (w, z, handle, (argument, spelled, behind_space), handle_split) = handled in
    let whole_line : line ≡ decimal parts.0 ++ (verb_text parts.1.0 ++ (decimal parts.1.1.0 ++ (codes " " ++ argument))) =
    split ∙ (λ j. lane.0 j ++ (verb_split ∙ (λ k. verb k ++ (handle_split ∙ (λ m. handle.0 m ++ behind_space m)) k)) j) in
    let w = act_words parts.1.0 parts.1.1.0 parts.1.1.1 argument spelled in
    subst (λ (c : CallLine). IsLine line (CallOf c)) is
    (record {
      words = decimal parts.0 ∷ verb_word parts.1.0 ∷ decimal parts.1.1.0 ∷ w.first ∷ w.others;
      formed = (verb_word parts.1.0 ∷ decimal parts.1.1.0 ∷ w.first ∷ w.others, w.formed, omega (arith, lane.1), omega (arith, handle.1), refl);
      spelled = whole_line ∙ ap (λ l. decimal parts.0 ++ (verb_text parts.1.0 ++ (decimal parts.1.1.0 ++ (codes " " ++ l)))) w.words_are ∙ sym (call_spaced parts.1.0 (decimal parts.0) (decimal parts.1.1.0) w.first w.others);
    })

pub call_again : (line : List ℕ) (call : CallLine) → IsLine line (CallOf call) → call_at line ≡ Some call
unfolding call_at
call_again line call h =
    let (rest, act, lane_fits, handle_fits, words_are) = h.formed in
    let w = worded rest call.handle call.act act in
    let argument = spaced (w.first ∷ w.others) in
    let whole_line : line ≡ decimal call.lane ++ (verb_text w.verb ++ (decimal call.handle ++ (codes " " ++ argument))) =
    h.spelled ∙ ap spaced (words_are ∙ ap (λ l. decimal call.lane ∷ l) w.words_are) ∙ call_spaced w.verb (decimal call.lane) (decimal call.handle) w.first w.others in
    whole_again _ _ Ends (seen_reads call_of_parts call_parts_at SpellsParts Ends parts_read) refl line call (
      (call.lane, (w.verb, (call.handle, call.act))),
      refl,
      (
        decimal call.lane,
        verb_text w.verb ++ (decimal call.handle ++ (codes " " ++ argument)),
        (refl, omega (arith, lane_fits)),
        (verb_text w.verb, decimal call.handle ++ (codes " " ++ argument), refl, (decimal call.handle, codes " " ++ argument, (refl, omega (arith, handle_fits)), (argument, w.spelled, refl), refl), refl),
        whole_line,
      ),
    )

-- ---- one reading

-- what a line says, read in one form after another
abbrev pub registered_line : Registered → ScriptLine
registered_line registered = Setup (Register registered.0 (key_of registered))

-- a line that is read in none of the forms says nothing
pub no_reading : (line : List ℕ) → call_at line ≡ None → round_at line ≡ None → register_at line ≡ None → describe_at line ≡ None → ((header : HeaderLine) → ¬ IsLine line (Header header)) → (says : ScriptLine) → ¬ IsLine line says
no_reading line no_call no_round no_register no_description no_header (Header header) h = no_header header h
no_reading line no_call no_round no_register no_description no_header (Round moment) h = let read = round_again line moment h in cc
no_reading line no_call no_round no_register no_description no_header (Setup (Register kind key)) h = let read = register_again line kind key h in cc
no_reading line no_call no_round no_register no_description no_header (Setup (Describe kind name unit text)) h = let read = describe_again line kind name unit text h in cc
no_reading line no_call no_round no_register no_description no_header (CallOf call) h = let read = call_again line call h in cc

-- the forms of line
data Form : Type 0 where
  quantiles : Form
  buckets : Form
  buckets_for : Form
  native_for : Form
  summary : Form
  idle : Form
  switch : Form
  global : Form
  series_limit : Form
  limit : Form
  prefix : Form
  tag : Form
  round : Form
  describe : Form
  register : Form
  call : Form

abbrev form_of : ScriptLine → Form
form_of (Header (Quantiles values)) = quantiles
form_of (Header (Buckets values)) = buckets
form_of (Header (BucketsFor matcher values)) = buckets_for
form_of (Header (NativeFor native)) = native_for
form_of (Header (Summary count duration)) = summary
form_of (Header (Idle mask timeout)) = idle
form_of (Header Naming) = switch
form_of (Header Units) = switch
form_of (Header (Global label)) = global
form_of (Header (SeriesLimit n)) = series_limit
form_of (Header (Limit n)) = limit
form_of (Header (Mode aggressive)) = switch
form_of (Header (NamePrefix text)) = prefix
form_of (Header (GlobalTag label)) = tag
form_of (Header (HistogramKind histograms)) = switch
form_of (Round moment) = round
form_of (Setup (Describe kind name unit text)) = describe
form_of (Setup (Register kind key)) = register
form_of (CallOf call_line) = call

-- which form a line has, by some of its bytes
abbrev payload_form : ℕ → Form
payload_form c =
    if c == 103 then tag
    else if c == 108 then limit
    else if c == 112 then prefix
    else switch

abbrev form_at : List ℕ → Form
form_at (c ∷ d ∷ line) =
    if c == 103 then global
    else if c == 114 then (if d == 111 then round else register)
    else if c == 113 then quantiles
    else if c == 115 then (if d == 101 then series_limit else summary)
    else if c == 105 then idle
    else if c == 98 then (if get_or line 5 0 == 45 then buckets_for else buckets)
    else if c == 110 then (if get_or line 0 0 == 116 then native_for else switch)
    else if c == 117 then switch
    else if c == 100 then (if d == 101 then describe else payload_form (get_or line 2 0))
    else call
form_at _ = call

-- a line read in one form
abbrev read_as : Form → List ℕ → Option ScriptLine
read_as quantiles line = option_map (λ values. Header (Quantiles values)) (quantiles_at line)
read_as buckets line = option_map (λ values. Header (Buckets values)) (buckets_at line)
read_as buckets_for line = option_map (λ rule. Header (BucketsFor rule.0 rule.1)) (buckets_for_at line)
read_as native_for line = option_map (λ native. Header (NativeFor native)) (native_for_at line)
read_as summary line = option_map (λ s. Header (Summary s.0 s.1)) (summary_at line)
read_as idle line = option_map (λ i. Header (Idle i.0 i.1)) (idle_at line)
read_as switch line = option_map Header (switch_at line)
read_as global line = option_map (λ label. Header (Global label)) (label_line_at (codes "global ") line)
read_as series_limit line = option_map (λ n. Header (SeriesLimit n)) (series_limit_at line)
read_as limit line = option_map (λ n. Header (Limit n)) (limit_at line)
read_as prefix line = option_map (λ text. Header (NamePrefix text)) (prefix_at line)
read_as tag line = option_map (λ label. Header (GlobalTag label)) (label_line_at (codes "dsd-global ") line)
read_as round line = option_map Round (round_at line)
read_as describe line = option_map Setup (describe_at line)
read_as register line = option_map registered_line (register_at line)
read_as call line = option_map CallOf (call_at line)

read_so : (line : List ℕ) (says : ScriptLine) → IsLine line says → read_as (form_of says) line ≡ Some says
read_so line (Header (Quantiles values)) h = ap (option_map (λ values. Header (Quantiles values))) (quantiles_again line values h)
read_so line (Header (Buckets values)) h = ap (option_map (λ values. Header (Buckets values))) (buckets_again line values h)
read_so line (Header (BucketsFor matcher values)) h = ap (option_map (λ rule. Header (BucketsFor rule.0 rule.1))) (buckets_for_again line matcher values h)
read_so line (Header (NativeFor native)) h = ap (option_map (λ native. Header (NativeFor native))) (native_for_again line native h)
read_so line (Header (Summary count duration)) h = ap (option_map (λ s. Header (Summary s.0 s.1))) (summary_again line count duration h)
read_so line (Header (Idle mask timeout)) h = ap (option_map (λ i. Header (Idle i.0 i.1))) (idle_again line mask timeout h)
read_so line (Header Naming) h = ap (option_map Header) (naming_again line h)
read_so line (Header Units) h = ap (option_map Header) (units_again line h)
read_so line (Header (Global label)) h = ap (option_map (λ label. Header (Global label))) (global_again line label h)
read_so line (Header (SeriesLimit n)) h = ap (option_map (λ n. Header (SeriesLimit n))) (series_limit_again line n h)
read_so line (Header (Limit n)) h = ap (option_map (λ n. Header (Limit n))) (limit_again line n h)
read_so line (Header (Mode aggressive)) h = ap (option_map Header) (mode_again line aggressive h)
read_so line (Header (NamePrefix text)) h = ap (option_map (λ text. Header (NamePrefix text))) (prefix_again line text h)
read_so line (Header (GlobalTag label)) h = ap (option_map (λ label. Header (GlobalTag label))) (tag_again line label h)
read_so line (Header (HistogramKind histograms)) h = ap (option_map Header) (kind_again line histograms h)
read_so line (Round moment) h = ap (option_map Round) (round_again line moment h)
read_so line (Setup (Register kind key)) h = ap (option_map registered_line) (register_again line kind key h)
read_so line (Setup (Describe kind name unit text)) h = ap (option_map Setup) (describe_again line kind name unit text h)
read_so line (CallOf call_line) h = ap (option_map CallOf) (call_again line call_line h)

-- a line whose first byte is a digit
digit_form : (d : ℕ) (line : List ℕ) → d < 10 → form_at ((48 + d) ∷ line) ≡ call
digit_form d [] small = refl
digit_form d (c ∷ line) small = grind (arith, nat_tests)

buckets_form : (decs : List (List ℕ)) → form_at (codes "buckets" ++ behind_spaces decs) ≡ buckets
buckets_form [] = refl
buckets_form (word ∷ decs) = refl

formed : (line : List ℕ) (says : ScriptLine) → IsLine line says → form_at line ≡ form_of says
formed line (Header (Quantiles values)) h = ap form_at (h.spelled ∙ ap spaced h.formed.2 ∙ words_spaced (codes "quantiles") h.formed.0)
formed line (Header (Buckets values)) h = ap form_at (h.spelled ∙ ap spaced h.formed.2 ∙ words_spaced (codes "buckets") h.formed.0) ∙ buckets_form h.formed.0
formed line (Header (BucketsFor matcher values)) h = ap form_at (h.spelled ∙ ap spaced h.formed.3)
formed line (Header (Summary count duration)) h = ap form_at (h.spelled ∙ ap spaced h.formed.3)
formed line (Header (Idle mask timeout)) h = ap form_at (h.spelled ∙ ap spaced h.formed.3)
formed line (Header (NativeFor native)) h = ap form_at (h.spelled ∙ ap spaced h.formed.6)
formed line (Header Naming) h = ap form_at (h.spelled ∙ ap spaced h.formed)
formed line (Header Units) h = ap form_at (h.spelled ∙ ap spaced h.formed)
formed line (Header (Global label)) h = ap form_at (h.spelled ∙ ap spaced h.formed.1)
formed line (Header (SeriesLimit n)) h = ap form_at (h.spelled ∙ ap spaced h.formed.2)
formed line (Header (Limit n)) h = ap form_at (h.spelled ∙ ap spaced h.formed.1)
formed line (Header (Mode aggressive)) h = ap form_at (h.spelled ∙ ap spaced h.formed)
formed line (Header (NamePrefix text)) h = ap form_at (h.spelled ∙ ap spaced h.formed.1)
formed line (Header (GlobalTag label)) h = ap form_at (h.spelled ∙ ap spaced h.formed.1)
formed line (Header (HistogramKind histograms)) h = ap form_at (h.spelled ∙ ap spaced h.formed)
formed line (Round moment) h = ap form_at (h.spelled ∙ ap spaced h.formed.1)
formed line (Setup (Register kind key)) h = ap form_at (h.spelled ∙ ap spaced h.formed.1)
formed line (Setup (Describe kind name unit text)) h = ap form_at (h.spelled ∙ ap spaced h.formed.2)
formed line (CallOf line_call) h =
    let (rest, act, lane_fits, handle_fits, words_are) = h.formed in
    let w = worded rest line_call.handle line_call.act act in
    let behind_lane : List ℕ = verb_text w.verb ++ (decimal line_call.handle ++ (codes " " ++ spaced (w.first ∷ w.others))) in
    let whole_line : line ≡ decimal line_call.lane ++ behind_lane = h.spelled ∙ ap spaced (words_are ∙ ap (λ l. decimal line_call.lane ∷ l) w.words_are) ∙ call_spaced w.verb (decimal line_call.lane) (decimal line_call.handle) w.first w.others in
    ap form_at (whole_line ∙ ap (λ l. l ++ behind_lane) (decimal_digit line_call.lane (omega (arith, lane_fits)))) ∙ digit_form line_call.lane behind_lane (omega (arith, lane_fits))

-- a line is read in its form
read_in_form : (line : List ℕ) (says : ScriptLine) → IsLine line says → read_as (form_at line) line ≡ Some says
read_in_form line says h = ap (λ f. read_as f line) (formed line says h) ∙ read_so line says h

-- a line that could only be a series-limit line, and isn't, says nothing
pub no_series_limit : (rest : List ℕ) → series_limit_at (codes "se" ++ rest) ≡ None → (says : ScriptLine) → ¬ IsLine (codes "se" ++ rest) says
no_series_limit rest none says h =
    let read : option_map (λ n. Header (SeriesLimit n)) (series_limit_at (codes "se" ++ rest)) ≡ Some says = read_in_form (codes "se" ++ rest) says h in
    let none_read : None ≡ Some says = ap (option_map (λ n. Header (SeriesLimit n))) (sym none) ∙ read in
    cc

pub one_reading : (line : List ℕ) (s t : ScriptLine) → IsLine line s → IsLine line t → s ≡ t
one_reading line s t a b = same_Some s t (sym (read_in_form line s a) ∙ read_in_form line t b)
