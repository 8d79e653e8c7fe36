-- No line is shorter than five bytes: a colon, a digit, a bar, a type and a newline.
use Rattle.std.proofs.Common.{ℕ, ◌*◌, ◌<◌, ◌≤◌, ◌/◌, ◌%◌, ◌==◌, true, false, cond, List, [], ◌∷◌, ◌++◌, length, map, arith, subst, length-append}
use Rattle.std.specs.Prelude.{All, ℤ, decimal, unsigned_abs, if◌then◌else◌}
use Rattle.std.proofs.lemmas.List.Elements.{All-head, All-tail, All-cons, All-nil}
use Rattle.std.specs.Int.{is_negative}
use Rattle.metrics_core.specs.Characters.{full_stop, minus_sign, newline}
use Rattle.metrics_core.specs.Numbers.{dogstatsd_number, fraction_text, one, padded, without_trailing_zeros}
use Rattle.metrics_core.specs.declared.numbers.Fixed.{Fixed as FixedOf}
use Rattle.dsd_writer.specs.Cuts.{joined, full_cut}
use Rattle.dsd_writer.specs.Items.{type_text}
use Rattle.dsd_writer.specs.declared.items.LineType.{LineType as LineTypeOf}
use Rattle.dsd_writer.specs.declared.items.LineType.TheVariants.{Counter, Gauge, Histogram, Distribution}
use Rattle.dsd_writer.specs.Lines.{ItemText, kept_values, line_fits, line_of, lines_of, rate_text, spelled_values, tags_text, timestamp_text, values_text}
use Rattle.dsd_writer.proofs.Best.{best_lines}

abbrev pub AreSome : List (List ℕ) → Type 0
AreSome texts = All (λ text. 0 < length text) texts

pub one_some : (text : List ℕ) → 0 < length text → AreSome (text ∷ [])
one_some text some = All-cons (λ (text : List ℕ). 0 < length text) text [] some (All-nil (λ (text : List ℕ). 0 < length text))

pub type_some : (type : LineTypeOf) → 0 < length (type_text type)
type_some Counter = omega arith
type_some Gauge = omega arith
type_some Histogram = omega arith
type_some Distribution = omega arith

pub number_some : (value : ℤ) → 0 < length (dogstatsd_number value)
number_some value =
    let sign = if is_negative value then minus_sign ∷ [] else [] in
    let whole = decimal (unsigned_abs value / one) in
    let fraction = fraction_text (full_stop ∷ 48 ∷ []) (unsigned_abs value % one) in
    omega (arith, length-append (sign ++ whole) fraction, fraction_some (unsigned_abs value % one))
  where
    fraction_some : (fraction : ℕ) → 0 < length (fraction_text (full_stop ∷ 48 ∷ []) fraction)
    fraction_some fraction =
        elim (fraction == 0) as (λ b. 0 < length (cond b (full_stop ∷ 48 ∷ []) (full_stop ∷ without_trailing_zeros (padded 9 fraction)))) [
          | true ↦ omega arith
          | false ↦ omega arith
        ]

pub spelled_some : (values : List FixedOf) → AreSome (spelled_values values)
spelled_some [] = All-nil (λ (text : List ℕ). 0 < length text)
spelled_some (value ∷ values) =
    All-cons (λ (text : List ℕ). 0 < length text) (dogstatsd_number value.0) (spelled_values values) (number_some value.0) (spelled_some values)

kept_some : (limit : ℕ) (item : ItemText) (values : List (List ℕ)) → AreSome values → AreSome (kept_values limit item values)
kept_some limit item [] some = some
kept_some limit item (value ∷ values) some =
    let rest = kept_some limit item values (All-tail (λ (text : List ℕ). 0 < length text) value values some) in
    elim (line_fits limit item (value ∷ [])) as (λ b. AreSome (cond b (value ∷ kept_values limit item values) (kept_values limit item values))) [
      | true ↦ All-cons (λ (text : List ℕ). 0 < length text) value (kept_values limit item values) (All-head (λ (text : List ℕ). 0 < length text) value values some) rest
      | false ↦ rest
    ]

behind_some : (run rest : List (List ℕ)) → AreSome (run ++ rest) → AreSome rest
behind_some [] rest some = some
behind_some (value ∷ run) rest some = behind_some run rest (All-tail (λ (text : List ℕ). 0 < length text) value (run ++ rest) some)

line_of_five : (item : ItemText) (value : List ℕ) (run : List (List ℕ)) → 0 < length item.type → 0 < length value → 5 ≤ length (line_of item (value ∷ run))
line_of_five item value run type some =
    let ending = item.type ++ rate_text item.rate ++ tags_text item.tags ++ timestamp_text item.timestamp in
    omega (
      arith,
      type,
      some,
      length-append (item.name ++ values_text (value ∷ run)) (124 ∷ ending ++ newline ∷ []),
      length-append item.name (values_text (value ∷ run)),
      length-append value (values_text run),
      length-append ending (newline ∷ []),
      length-append (item.type ++ rate_text item.rate ++ tags_text item.tags) (timestamp_text item.timestamp),
      length-append (item.type ++ rate_text item.rate) (tags_text item.tags),
      length-append item.type (rate_text item.rate),
    )

five_each : (item : ItemText) (runs : List (List (List ℕ))) → 0 < length item.type → All (λ run. 0 < length run) runs → AreSome (joined runs) → All (λ line. 5 ≤ length line) (map (line_of item) runs)
five_each item [] type runs_some some = All-nil (λ (line : List ℕ). 5 ≤ length line)
five_each item ([] ∷ runs) type runs_some some = absurd (omega (arith, All-head (λ (run : List (List ℕ)). 0 < length run) [] runs runs_some))
five_each item ((value ∷ run) ∷ runs) type runs_some some =
    All-cons (λ (line : List ℕ). 5 ≤ length line) (line_of item (value ∷ run)) (map (line_of item) runs)
    (line_of_five item value run type (All-head (λ (text : List ℕ). 0 < length text) value (run ++ joined runs) some))
    (five_each item runs type (All-tail (λ (run : List (List ℕ)). 0 < length run) (value ∷ run) runs runs_some)
    (behind_some run (joined runs) (All-tail (λ (text : List ℕ). 0 < length text) value (run ++ joined runs) some)))

sum_of_five : (lines : List (List ℕ)) → All (λ line. 5 ≤ length line) lines → 5 * length lines ≤ length (joined lines)
sum_of_five [] five = omega arith
sum_of_five (line ∷ lines) five =
    omega (
      arith,
      All-head (λ (line : List ℕ). 5 ≤ length line) line lines five,
      length-append line (joined lines),
      sum_of_five lines (All-tail (λ (line : List ℕ). 5 ≤ length line) line lines five),
    )

-- the lines of an item with a type, and of values that each have a digit
pub five_bytes_each : (limit : ℕ) (item : ItemText) (values : List (List ℕ)) → 0 < length item.type → AreSome values → 5 * length (lines_of limit item values) ≤ length (joined (lines_of limit item values))
five_bytes_each limit item values type some =
    let runs = full_cut (line_fits limit item) (kept_values limit item values) in
    let cut = (best_lines limit item values).full.cut in
    sum_of_five (map (line_of item) runs) (five_each item runs type cut.some (subst (λ (vs : List (List ℕ)). AreSome vs) cut.whole (kept_some limit item values some)))
