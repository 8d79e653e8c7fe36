-- The window of a summary (this project's rule).
use Rattle.std.specs.Prelude.{ℕ, ◌+◌, ◌-◌, ◌*◌, ◌/◌, ◌&&◌, ◌||◌, nat_lt, nat_le, List, [], ◌∷◌, map, ℤ, filter, flat_map, replicate, zip, if◌then◌else◌}
use Rattle.metrics_core.specs.Calls.{Call, Record}

-- a sample and its moment
pub record Sample : Type 0 where
  pub value : ℤ
  pub moment : ℕ

-- the samples of one call, and of a histogram's calls in order
abbrev pub timed_samples_of : Call → List Sample
timed_samples_of (Record v moment n) = replicate n (record { value = v; moment = moment })
timed_samples_of _ = []

abbrev pub timed_samples : List Call → List Sample
timed_samples calls = flat_map timed_samples_of calls

-- The samples fall into buckets of a width; a sample's begin is that of its bucket. Behind a sample with begin b, one
-- at m has the same begin where m is within the width. Where that bucket is past the span its begin is m. Otherwise
-- it is the greatest moment that is b plus a multiple of the width and isn't after m.
abbrev pub begin_behind : ℕ → ℕ → ℕ → ℕ → ℕ
begin_behind width span b m =
    if nat_lt m (b + width) then b
    else if nat_le span m && nat_le b (m - span) then m
    else b + (m - b) / width * width

-- the begins of the samples at these moments, behind one with begin b
abbrev pub begins_behind : ℕ → ℕ → ℕ → List ℕ → List ℕ
begins_behind width span b [] = []
begins_behind width span b (m ∷ ms) =
    begin_behind width span b m ∷ begins_behind width span (begin_behind width span b m) ms

-- the begins of all samples; the first one's is its moment
abbrev pub begins : ℕ → ℕ → List ℕ → List ℕ
begins width span [] = []
begins width span (m ∷ ms) = m ∷ begins_behind width span m ms

-- the values of the window at t: the samples whose begin is after t less the span, or all where t is less than the span
abbrev pub window : ℕ → ℕ → ℕ → List Sample → List ℤ
window width span t samples =
    map (λ (sample, begin). sample.value)
    (filter (λ (sample, begin). nat_lt t span || nat_lt (t - span) begin)
    (zip samples (begins width span (map (λ s. s.moment) samples))))
