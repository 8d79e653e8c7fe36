use Rattle.std.proofs.Common.{◌≡◌, ap, sym, ◌∙◌, subst}
use Rattle.metrics_core.specs.declared.kinds.SeriesId.{SeriesId}
use Rattle.dsd_exporter.specs.Exporter.{Exporter}
use Rattle.shared_flushes.specs.declared.entries.StateEntry.TheVariants.{Register}
use Rattle.shared_flushes.specs.Registrations.{Step, bare}
use Rattle.shared_flushes.proofs.Bare.{given_bare, registered_bare}
use Rattle.shared_flushes.proofs.Standing.{after_call, made}
use Rattle.shared_flushes.proofs.state.SharedState.register.Goals as goal

pub leave-requires-clause-value : goal.leave-requires-clause-value
leave-requires-clause-value g c =
    let z = c.deref_mut.result.now in
    let y = c.register_in.new.state in
    let entry = Register c.args.kind c.args.key.now c.in-Ok.id.number in
    let did : (y.settings ≡ z.settings) × Step entry (bare z.series) (bare y.series) = (
      c.register_in.ensures.settings,
      (
        ap (λ (i : SeriesId). i.number) c.in-Ok.ensures.id ∙ sym (given_bare c.args.kind c.args.key.now z.series),
        registered_bare c.args.kind c.args.key.now z.series y.series c.in-Ok.ensures.registered,
      ),
    ) in
    let done = subst (λ (z : Exporter). (y.settings ≡ z.settings) × Step entry (bare z.series) (bare y.series)) c.deref_mut.ensures.value did in
    after_call c.args.pass.now.seat.me c.enter-state.new.seat.me c.count_registration.new.seat.me entry c.enter-state.result y c.enter-state.ensures.entered c.count_registration.ensures.counted done.0 done.1

pub returns-in-Ok-clause-registered : goal.returns-in-Ok-clause-registered
returns-in-Ok-clause-registered g c =
    let z = c.deref_mut.result.now in
    let y = c.register_in.new.state in
    let entry = Register c.args.kind c.args.key.now c.in-Ok.id.number in
    let did : Step entry (bare z.series) (bare y.series) = (
      ap (λ (i : SeriesId). i.number) c.in-Ok.ensures.id ∙ sym (given_bare c.args.kind c.args.key.now z.series),
      registered_bare c.args.kind c.args.key.now z.series y.series c.in-Ok.ensures.registered,
    ) in (
      ap (λ (i : SeriesId). i.kind) c.in-Ok.ensures.id,
      made c.args.pass.now.seat.me c.enter-state.new.seat.me c.count_registration.new.seat.me c.leave.new.seat.me entry c.enter-state.result y c.enter-state.ensures.entered c.count_registration.ensures.counted c.leave.ensures.left
          (subst (λ (z : Exporter). Step entry (bare z.series) (bare y.series)) c.deref_mut.ensures.value did),
    )
