use Rattle.std.proofs.Common.{sym, subst, Some}
use Rattle.dsd_forwarder.specs.Held.{Updates}
use Rattle.service_metrics.specs.Heard.{IfAny}
use Rattle.service_metrics.proofs.Parts.{if_any}
use Rattle.service_metrics.proofs.gauge.change_flushed.Goals as goal

pub returns-in-Absolute : goal.returns-in-Absolute
returns-in-Absolute g c =
    (c.set.ensures.0, subst (λ change. IfAny (Updates change) c.args.part.now (Some c.set.new.self)) (sym c.in-Absolute.is) (if_any _ _ c.in-Some.is c.set.ensures.1))

pub returns-in-Increment : goal.returns-in-Increment
returns-in-Increment g c =
    (c.increment.ensures.0, subst (λ change. IfAny (Updates change) c.args.part.now (Some c.increment.new.self)) (sym c.in-Increment.is) (if_any _ _ c.in-Some.is c.increment.ensures.1))

pub returns-in-Decrement : goal.returns-in-Decrement
returns-in-Decrement g c =
    (c.decrement.ensures.0, subst (λ change. IfAny (Updates change) c.args.part.now (Some c.decrement.new.self)) (sym c.in-Decrement.is) (if_any _ _ c.in-Some.is c.decrement.ensures.1))
