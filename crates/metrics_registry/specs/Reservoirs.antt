-- A sample of values that come one after another (reservoir sampling with words that are handed in; this project's rule).
use Rattle.std.specs.Prelude.{ℕ, ◌-◌, ◌*◌, ◌/◌, ◌%◌, max, nat_lt, nat_le, List, [], ◌∷◌, ◌++◌, length, drop, slice_set, pos, if◌then◌else◌}
use Rattle.metrics_core.specs.declared.numbers.Fixed.{Fixed as FixedOf}
use Rattle.metrics_core.specs.Devices.{one_more}
use Rattle.metrics_core.specs.Numbers.{one}

-- how many values it keeps at most, how many came so far (a count that stays at 2 ^ 64 - 1), and which are kept
pub record ReservoirText : Type 0 where
  pub size : ℕ
  pub count : ℕ
  pub values : List FixedOf

abbrev pub empty_reservoir : ℕ → ReservoirText
empty_reservoir size = record { size = size; count = 0; values = [] }

-- a value is put at the place that a word names, where there is such a place, and otherwise isn't kept
abbrev pub put_at : ℕ → ℕ → List FixedOf → FixedOf → List FixedOf
put_at size place values value = if nat_lt place size then slice_set values place value else values

-- a value comes while there is room: it is kept. Later it comes with a word, whose rest modulo the new count is the place
abbrev pub with_kept : ReservoirText → FixedOf → ReservoirText
with_kept r value = record { size = r.size; count = one_more r.count; values = r.values ++ value ∷ [] }

abbrev pub with_sampled : ReservoirText → ℕ → FixedOf → ReservoirText
with_sampled r word value = record { size = r.size; count = one_more r.count; values = put_at r.size (word % one_more r.count) r.values value }

-- the first of the words
abbrev pub first_word : List ℕ → ℕ
first_word [] = 0
first_word (word ∷ words) = word

-- a value comes, and a word is drawn for it where there is no room
abbrev pub with_value : ReservoirText → List ℕ → FixedOf → ReservoirText
with_value r words value = if nat_lt r.count r.size then with_kept r value else with_sampled r (first_word words) value

abbrev pub drawn_for_one : ReservoirText → ℕ
drawn_for_one r = if nat_lt r.count r.size then 0 else 1

-- values come one after another, with words that are drawn for them in turn
abbrev pub with_values : ReservoirText → List ℕ → List FixedOf → ReservoirText
with_values r words [] = r
with_values r words (value ∷ values) = with_values (with_value r words value) (drop (drawn_for_one r) words) values

-- the sample of values, in a reservoir of a size
abbrev pub reservoir : ℕ → List ℕ → List FixedOf → List FixedOf
reservoir size words values = (with_values (empty_reservoir size) words values).values

-- how many words are drawn for values that come to an empty reservoir: one for each past its size
abbrev pub draws : ℕ → List FixedOf → ℕ
draws size values = length values - size

-- the rate of a sample in billionths: 1 while all values are kept, then size / count rounded down, and at least one billionth
abbrev pub sample_rate : ℕ → ℕ → FixedOf
sample_rate size count = record { 0 = if nat_le count size then pos one else pos (max 1 (size * one / count)) }
