-- How much room one line with one number takes.
use Rattle.std.proofs.Common.{◌≡◌, ℕ, ◌+◌, ◌-◌, ◌*◌, ◌/◌, ◌%◌, ◌^◌, ◌<◌, ◌≤◌, ◌==◌, Bool, true, false, cond, List, [], ◌∷◌, ◌++◌, length, refl, arith, length-append}
use Rattle.std.specs.Prelude.{ℤ, pos, negsuc, FitsSigned, decimal, replicate, unsigned_abs, if◌then◌else◌}
use Rattle.std.specs.Int.{is_negative, w64}
use Rattle.std.proofs.Math.Nat.{mod-lt, div-le_self}
use Rattle.std.proofs.lemmas.List.{length-replicate}
use Rattle.std.proofs.lemmas.Fmt.{length-decimal-le}
use Rattle.metrics_core.specs.Characters.{full_stop, minus_sign}
use Rattle.metrics_core.specs.Numbers.{before_zeros, dogstatsd_number, fraction_text, one, padded, without_trailing_zeros}
use Rattle.std.proofs.lemmas.Bool.{le-leb}
use Rattle.std.proofs.lemmas.Bool.Decides.{nat_tests}
use Rattle.dsd_writer.specs.Cuts.{joined}
use Rattle.dsd_writer.specs.Lines.{ItemText, ending_of, line_fits, line_of, lines_of, values_text}
use Rattle.dsd_writer.specs.Writers.{stored_bytes}
use Rattle.dsd_writer.proofs.Appended.{one_line, no_line}
use Rattle.dsd_writer.proofs.Spare.{added_at_most}

pub line_of_one : (item : ItemText) (text : List ℕ) → length (line_of item (text ∷ [])) ≡ length (line_of item []) + (1 + length text)
line_of_one item text =
    omega (
      arith,
      length-append (item.name ++ values_text (text ∷ [])) (ending_of item),
      length-append item.name (values_text (text ∷ [])),
      length-append text [],
      length-append (item.name ++ []) (ending_of item),
      length-append item.name (values_text []),
    )

pub room_of_one : (limit bound : ℕ) (item : ItemText) (text : List ℕ)
    → (length (line_of item (text ∷ [])) ≤ limit → length (line_of item (text ∷ [])) + 4 ≤ bound)
    → length (joined (lines_of limit item (text ∷ []))) + 4 * length (lines_of limit item (text ∷ [])) ≤ bound
room_of_one limit bound item text within =
    elim (line_fits limit item (text ∷ [])) as (λ b. line_fits limit item (text ∷ []) ≡ b → length (joined (lines_of limit item (text ∷ []))) + 4 * length (lines_of limit item (text ∷ [])) ≤ bound) [
      | true ↦ λ e.
          let short : length (line_of item (text ∷ [])) ≤ limit = grind (arith, nat_tests) in
          let enough = within short in
          rw (one_line limit item text e) (omega (arith, length-append (line_of item (text ∷ [])) []))
      | false ↦ λ e. rw (no_line limit item text e) (omega arith)
    ] refl

-- ---- the texts of numbers are short

pub count_short : (n : ℕ) → n < 2 ^ 64 → length (decimal n) ≤ 255
count_short n small = omega (arith, length-decimal-le 20 n (omega arith) (omega arith) small)

trimmed_short : (d : ℕ) (ds : List ℕ) → length (before_zeros d ds) ≤ 1 + length ds
trimmed_short d [] = elim (d == 48) as (λ b. length (cond b [] (d ∷ [])) ≤ 1) [ true ↦ omega arith | false ↦ omega arith ]
trimmed_short d (e ∷ es) = omega arith

without_zeros_short : (ds : List ℕ) → length (without_trailing_zeros ds) ≤ length ds
without_zeros_short [] = omega arith
without_zeros_short (d ∷ ds) = omega (arith, trimmed_short d (without_trailing_zeros ds), without_zeros_short ds)

padded_short : (n : ℕ) → n < 2 ^ 64 → length (padded 9 n) ≤ 29
padded_short n small =
    let digits = length-decimal-le 20 n (omega arith) (omega arith) small in
    omega (arith, length-append (replicate (9 - length (decimal n)) 48) (decimal n), length-replicate {A = ℕ} (9 - length (decimal n)) 48)

fraction_short : (n : ℕ) → n < 2 ^ 64 → length (fraction_text (full_stop ∷ 48 ∷ []) n) ≤ 30
fraction_short n small =
    elim (n == 0) as (λ b. length (cond b (full_stop ∷ 48 ∷ []) (full_stop ∷ without_trailing_zeros (padded 9 n))) ≤ 30) [
      | true ↦ omega arith
      | false ↦ omega (arith, without_zeros_short (padded 9 n), padded_short n small)
    ]

sign_short : (b : Bool) → length (cond b (minus_sign ∷ []) []) ≤ 1
sign_short true = omega arith
sign_short false = omega arith

pub number_short : (value : ℤ) → unsigned_abs value < 2 ^ 64 → length (dogstatsd_number value) ≤ 255
number_short value small =
    let sign = if is_negative value then minus_sign ∷ [] else [] in
    let whole = decimal (unsigned_abs value / one) in
    let fraction = fraction_text (full_stop ∷ 48 ∷ []) (unsigned_abs value % one) in
    let rest : unsigned_abs value % one < one = mod-lt (unsigned_abs value) (omega arith) in
    let quotient : unsigned_abs value / one ≤ unsigned_abs value = div-le_self (unsigned_abs value) one in
    omega (
      arith,
      sign_short (is_negative value),
      length-decimal-le 20 (unsigned_abs value / one) (omega arith) (omega arith) (omega arith),
      fraction_short (unsigned_abs value % one) (omega arith),
      length-append (sign ++ whole) fraction,
      length-append sign whole,
    )

fits_abs : (value : ℤ) → FitsSigned w64 value → unsigned_abs value < 2 ^ 64
fits_abs (pos n) fits = omega (arith, fits)
fits_abs (negsuc n) fits = omega (arith, fits)

pub value_short : (value : ℤ) → FitsSigned w64 value → length (dogstatsd_number value) ≤ 255
value_short value fits = number_short value (fits_abs value fits)

-- what further lines add is within what they take with four bytes before each
pub adds_within : (on_stream : Bool) (limit most spare : ℕ) (lines more : List (List ℕ))
    → length (joined more) + 4 * length more ≤ most → most ≤ spare
    → stored_bytes on_stream limit (lines ++ more) - stored_bytes on_stream limit lines ≤ spare
adds_within true limit most spare lines more within enough = omega (arith, added_at_most true limit lines more)
adds_within false limit most spare lines more within enough = omega (arith, added_at_most false limit lines more)
