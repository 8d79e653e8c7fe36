use Rattle.std.proofs.Common.{◌≡◌, subst}
use Rattle.std.specs.Prelude.{IfOk, string_bytes}
use Rattle.statsd_bridge.specs.Bridge.{state_at}
use Rattle.statsd_bridge.specs.Hearing.{shown_by}
use Rattle.statsd_bridge.proofs.bridge.Bridge.render.Goals as goal

pub returns-clause-page : goal.returns-clause-page
returns-clause-page g c = subst (λ b. IfOk c.render.result (λ text. string_bytes text ≡ shown_by c.args.moment (state_at b))) c.self.view_is c.render.ensures.page
