use Rattle.std.proofs.Common.{true}
use Rattle.std.specs.Prelude.{string_bytes}
use Rattle.metric_descriptions.proofs.Books.{answered}
use Rattle.metric_descriptions.proofs.descriptions.find.Goals as goal

pub returns : goal.returns
returns c = answered _ (λ _ _. true) c.args.writer.now (string_bytes c.args.name.now) _ c.requires c.get_one.ensures
