use Rattle.std.proofs.Common.{rules, sym, ap, ◌∙◌, [], ◌∷◌, ◌++◌}
use Rattle.dsd_exporter.specs.Exporter.{Cells, keys_of, settings_of}
use Rattle.dsd_exporter.proofs.GaugeKeys.{gauge_made, key_at, keys-new, none_is_new, one_is_new}
use Rattle.dsd_exporter.proofs.state.State.add_gauge.Goals as goal

pub invariant_of-self-in_default : goal.invariant_of-self-in_default
invariant_of-self-in_default c =
    let old = c.self.inside.series in
    let new = c.register_gauge.new.self in
    let count = c.gauge_count-count.result in
    let none = c.in_default.ensures ∙ ap (key_at count) c.gauges-gauges.ensures in
    c.self.invariant ∙ sym (ap (λ (s : Cells). keys_of s.gauges) (none_is_new _ c.args.key c.in_ok-id.id old new count c.gauge_count-count.ensures c.in_ok-id.ensures.registered none))

pub returns-in_default-clause-registered : goal.returns-in_default-clause-registered
returns-in_default-clause-registered c = rw (← c.self.view_is) (gauge_made _ _ c.args.key c.in_ok-id.id c.self.inside.series c.register_gauge.new.self (λ cell made. search rules) c.in_ok-id.ensures.registered)

pub invariant_of-self-in-Ok : goal.invariant_of-self-in-Ok
invariant_of-self-in-Ok c =
    let old = c.self.inside.series in
    let new = c.register_gauge.new.self in
    let count = c.gauge_count-count.result in
    let some = c.in-Some.ensures ∙ ap (key_at count) c.gauges-gauges.ensures in
    let made = one_is_new _ c.args.key c.in_ok-id.id old new count c.gauge_count-count.ensures c.in-Some.key.now c.in_ok-id.ensures.registered some in
    c.in-Ok.ensures.pushed
    ∙ ap (λ keys. keys ++ c.in-Some.key.now ∷ []) c.self.invariant
    ∙ sym (keys-new _ c.args.key c.in_ok-id.id old new count c.gauge_count-count.ensures c.in-Some.key.now made)

pub returns-in-Ok-clause-registered : goal.returns-in-Ok-clause-registered
returns-in-Ok-clause-registered c = rw (← c.self.view_is) (gauge_made _ _ c.args.key c.in_ok-id.id c.self.inside.series c.register_gauge.new.self (λ cell made. search rules) c.in_ok-id.ensures.registered)

pub take_back_gauge-requires : goal.take_back_gauge-requires
take_back_gauge-requires c =
    let old = c.self.inside.series in
    let new = c.register_gauge.new.self in
    let count = c.gauge_count-count.result in
    let some = c.in-Some.ensures ∙ ap (key_at count) c.gauges-gauges.ensures in
    let made = one_is_new _ c.args.key c.in_ok-id.id old new count c.gauge_count-count.ensures c.in-Some.key.now c.in_ok-id.ensures.registered some in
    (old, (c.args.key, made.cell, c.made-made.ensures.numbered, made.now_is))

pub invariant_of-self-in-Err : goal.invariant_of-self-in-Err
invariant_of-self-in-Err c =
    let old = c.self.inside.series in
    let new = c.register_gauge.new.self in
    let count = c.gauge_count-count.result in
    let some = c.in-Some.ensures ∙ ap (key_at count) c.gauges-gauges.ensures in
    let made = one_is_new _ c.args.key c.in_ok-id.id old new count c.gauge_count-count.ensures c.in-Some.key.now c.in_ok-id.ensures.registered some in
    c.in-Err.ensures.refused ∙ c.self.invariant ∙ sym (ap (λ (s : Cells). keys_of s.gauges) (c.take_back_gauge.ensures old (c.args.key, made.cell, c.made-made.ensures.numbered, made.now_is)))

pub returns-in-Err-clause-absent : goal.returns-in-Err-clause-absent
returns-in-Err-clause-absent c =
    let old = c.self.inside.series in
    let new = c.register_gauge.new.self in
    let count = c.gauge_count-count.result in
    let some = c.in-Some.ensures ∙ ap (key_at count) c.gauges-gauges.ensures in
    let made = one_is_new _ c.args.key c.in_ok-id.id old new count c.gauge_count-count.ensures c.in-Some.key.now c.in_ok-id.ensures.registered some in
    rw (← c.self.view_is) made.absent

pub returns-in-Err-clause-refused : goal.returns-in-Err-clause-refused
returns-in-Err-clause-refused c =
    let old = c.self.inside.series in
    let new = c.register_gauge.new.self in
    let count = c.gauge_count-count.result in
    let some = c.in-Some.ensures ∙ ap (key_at count) c.gauges-gauges.ensures in
    let made = one_is_new _ c.args.key c.in_ok-id.id old new count c.gauge_count-count.ensures c.in-Some.key.now c.in_ok-id.ensures.registered some in
    rw (← c.self.view_is) (ap (λ (s : Cells). record { settings = settings_of c.self.inside.configuration; series = s }) (c.take_back_gauge.ensures old (c.args.key, made.cell, c.made-made.ensures.numbered, made.now_is)))
