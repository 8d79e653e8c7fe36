use Rattle.std.proofs.Common.{◌≡◌, ap, ◌∙◌, sym, subst}
use Rattle.std.specs.Prelude.{IfSome}
use Rattle.metrics_core.specs.Units.{unit_text}
use Rattle.metrics_core.specs.UnitLaws.{unit_of, unit_of-text, unit_of-unit_text}
use Rattle.metrics_core.proofs.units.Unit.from_string.Goals as goal

-- what is found is the unit of the text
pub returns-clause-known : goal.returns-clause-known
returns-clause-known c = λ unit e. c.unit_among.ensures ∙ ap unit_of e ∙ unit_of-unit_text unit

pub returns-clause-others : goal.returns-clause-others
returns-clause-others c =
    subst (λ found. IfSome found (λ unit. unit_text unit ≡ c.args.text.now)) (sym c.unit_among.ensures) (unit_of-text c.args.text.now)
