-- What a page that was written to a text says of the text.
use Rattle.std.proofs.Common.{◌≡◌, ◌⊎◌, ◌∙◌, ℕ, List, [], ◌++◌, Option, Some, ap, inl, inr}
use Rattle.std.specs.Prelude.{unwrap_or}
use Rattle.metrics_core.specs.Outside.{GrewBy}
use Rattle.page_texts.specs.Written.{Written}

-- the text is what was written to an empty sink
pub grew_text : (before after : Written) (body : List ℕ) → before ≡ record { bytes = []; faults = 0 } → GrewBy (Some before.bytes) (Some after.bytes) body → after.bytes ≡ body
grew_text before after body new grew = ap (λ (o : Option (List ℕ)). unwrap_or o []) grew ∙ ap (λ (w : Written). w.bytes ++ body) new

-- what a refusal left, without what was written
pub unwritten : {A B Y : Type 0} (P Q : Y → Type 0) → (A × B) ⊎ ((y : Y) × P y × Q y) → A ⊎ ((y : Y) × P y)
unwritten P Q (inl w) = inl w.0
unwritten P Q (inr p) = inr (p.0, p.1)
