-- What is known of an option once a test of it was made.
use Rattle.std.proofs.Common.{◌≡◌, true, false}
use Rattle.std.specs.Prelude.{Option, Some, None, MatchOption}
use Rattle.std.specs.Option.{is_some, is_none}

pub absent : {A : Type 0} (P : Type 0) (Q : A → Type 0) (o : Option A) → is_none o ≡ true → MatchOption o P Q → P
absent P Q None e h = h
absent P Q (Some a) e h = absurd cc

pub present : {A : Type 0} (P Q : Type 0) (o : Option A) → is_none o ≡ false → MatchOption o P (λ _. Q) → Q
present P Q None e h = absurd cc
present P Q (Some a) e h = h

pub not_some : {A : Type 0} (P : Type 0) (Q : A → Type 0) (o : Option A) → is_some o ≡ false → MatchOption o P Q → P
not_some P Q None e h = h
not_some P Q (Some a) e h = absurd cc

pub is_present : {A : Type 0} (P Q : Type 0) (o : Option A) → is_some o ≡ true → MatchOption o P (λ _. Q) → Q
is_present P Q None e h = absurd cc
is_present P Q (Some a) e h = h
