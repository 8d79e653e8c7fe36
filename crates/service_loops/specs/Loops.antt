-- What loops do.
use Rattle.std.specs.Prelude.{◌≡◌, ℕ, zero, suc, ◌+◌, Bool, true, false, Option, None, Some, IfSome, List, length, ◌<◌, slice_index_or, ⊤}

-- what was asked told how many rounds are to come
abbrev pub AskedOf : ℕ → Bool → Option ℕ → Type 0
AskedOf n true new = (n ≡ 0) × (new ≡ Some 0)
AskedOf n false new = (m : ℕ) × (n ≡ suc m) × (new ≡ Some m)

-- whether it is over was asked of what may tell how many rounds are to come
abbrev pub Asked : Option ℕ → Bool → Option ℕ → Type 0
Asked None over new = ⊤
Asked (Some n) over new = AskedOf n over new

-- a step was made so many times
abbrev pub Runs : {S : Type 0} → (S → S → Type 0) → ℕ → S → S → Type 0
Runs does zero old new = new ≡ old
Runs {S} does (suc n) old new = (middle : S) × Runs does n old middle × does middle new

-- a step was made some number of times, the number that was told where it was told
pub record RunsUntil {S : Type 0} (does : S → S → Type 0) (left : Option ℕ) (old new : S) : Type 0 where
  pub times : ℕ
  pub runs : Runs does times old new
  pub told : IfSome left (λ n. times ≡ n)

-- each of some lanes ran
abbrev pub RanEach : {L : Type 0} → (L → L → Type 0) → List L → List L → Type 0
RanEach {L} ran xs ys = (i : ℕ) (d : L) → i < length xs → ran (slice_index_or xs i d) (slice_index_or ys i d)

-- a lane that there was ran, and where there was none there is none
abbrev pub RanIfAny : {L : Type 0} → (L → L → Type 0) → Option L → Option L → Type 0
RanIfAny ran None after = after ≡ None
RanIfAny {L} ran (Some lane) after = (ended : L) × (after ≡ Some ended) × ran lane ended

-- what told how many rounds are to come tells how many are left after so many
abbrev pub Left : Option ℕ → ℕ → Option ℕ → Type 0
Left None times now = ⊤
Left (Some n) times now = (m : ℕ) × (now ≡ Some m) × (n ≡ times + m)
