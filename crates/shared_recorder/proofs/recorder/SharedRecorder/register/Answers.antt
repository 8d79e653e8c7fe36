use Rattle.std.proofs.Common.{◌≡◌, ap, sym, ◌∙◌, subst}
use Rattle.metrics_core.specs.declared.kinds.SeriesId.{SeriesId}
use Rattle.prom_exporter.specs.Exporter.{Exporter, state_of}
use Rattle.shared_recorder.specs.declared.entries.RecorderEntry.TheVariants.{Register}
use Rattle.shared_recorder.specs.Setup.{setup, Step}
use Rattle.shared_recorder.proofs.Setups.{number_setup, register_setup}
use Rattle.shared_recorder.proofs.Standing.{after_call, made}
use Rattle.shared_recorder.proofs.recorder.SharedRecorder.register.Goals as goal

pub leave-requires-clause-value : goal.leave-requires-clause-value
leave-requires-clause-value g c =
    let z = c.deref_mut.result.now in
    let y = c.register.new.self in
    let entry = Register c.args.kind c.args.key.now c.in-Ok.id.number in
    let did : (y.settings ≡ z.settings) × Step z.settings entry (setup (state_of z)) (setup (state_of y)) = (
      c.register.ensures.settings,
      (
        ap (λ (i : SeriesId). i.number) c.in-Ok.ensures.id ∙ sym (number_setup c.args.kind c.args.key.now (state_of z)),
        ap setup c.in-Ok.ensures.registered ∙ register_setup c.args.kind c.args.key.now (state_of z),
      ),
    ) in
    let done = subst (λ (z : Exporter). (y.settings ≡ z.settings) × Step z.settings entry (setup (state_of z)) (setup (state_of y))) c.deref_mut.ensures.value did in
    after_call c.args.pass.now.seat.me c.enter-state.new.seat.me c.count_registration.new.seat.me entry c.enter-state.result y c.enter-state.ensures.entered c.count_registration.ensures.counted done.0 done.1

pub returns-in-Ok-clause-registered : goal.returns-in-Ok-clause-registered
returns-in-Ok-clause-registered g c =
    let z = c.deref_mut.result.now in
    let y = c.register.new.self in
    let entry = Register c.args.kind c.args.key.now c.in-Ok.id.number in
    let did : (y.settings ≡ z.settings) × Step z.settings entry (setup (state_of z)) (setup (state_of y)) = (
      c.register.ensures.settings,
      (
        ap (λ (i : SeriesId). i.number) c.in-Ok.ensures.id ∙ sym (number_setup c.args.kind c.args.key.now (state_of z)),
        ap setup c.in-Ok.ensures.registered ∙ register_setup c.args.kind c.args.key.now (state_of z),
      ),
    ) in
    let done = subst (λ (z : Exporter). (y.settings ≡ z.settings) × Step z.settings entry (setup (state_of z)) (setup (state_of y))) c.deref_mut.ensures.value did in (
      ap (λ (i : SeriesId). i.kind) c.in-Ok.ensures.id,
      made c.args.pass.now.seat.me c.enter-state.new.seat.me c.count_registration.new.seat.me c.leave.new.seat.me entry c.enter-state.result (setup (state_of y)) c.enter-state.ensures.entered c.count_registration.ensures.counted c.leave.ensures.left done.1,
    )
