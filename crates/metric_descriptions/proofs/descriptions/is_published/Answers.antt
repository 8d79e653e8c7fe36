use Rattle.std.proofs.Common.{true, refl, sym}
use Rattle.std.specs.Prelude.{string_bytes}
use Rattle.metric_descriptions.proofs.Books.{known-there}
use Rattle.metric_descriptions.proofs.descriptions.is_published.Goals as goal

pub returns : goal.returns
returns c = sym (known-there _ (λ _ _. true) c.args.writer.now (string_bytes c.args.name.now) _ _ c.requires c.contains_key.ensures refl)
