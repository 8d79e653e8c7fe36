use Rattle.std.proofs.Common.{sym, subst, Some}
use Rattle.service_metrics.specs.Heard.{IfAny, PagedChanges, call_of}
use Rattle.service_metrics.proofs.Parts.{if_any}
use Rattle.service_metrics.proofs.gauge.change_paged.Goals as goal

pub returns-in-Absolute : goal.returns-in-Absolute
returns-in-Absolute c =
    (c.set.ensures.call.0, subst (λ change. IfAny (PagedChanges (call_of change)) c.args.part.now (Some c.set.new.self)) (sym c.in-Absolute.is) (if_any _ _ c.in-Some.is (record { cell = c.set.ensures.cell; made = c.set.ensures.call.1 })))

pub returns-in-Increment : goal.returns-in-Increment
returns-in-Increment c =
    (c.increment.ensures.call.0, subst (λ change. IfAny (PagedChanges (call_of change)) c.args.part.now (Some c.increment.new.self)) (sym c.in-Increment.is) (if_any _ _ c.in-Some.is (record { cell = c.increment.ensures.cell; made = c.increment.ensures.call.1 })))

pub returns-in-Decrement : goal.returns-in-Decrement
returns-in-Decrement c =
    (c.decrement.ensures.call.0, subst (λ change. IfAny (PagedChanges (call_of change)) c.args.part.now (Some c.decrement.new.self)) (sym c.in-Decrement.is) (if_any _ _ c.in-Some.is (record { cell = c.decrement.ensures.cell; made = c.decrement.ensures.call.1 })))
