use Rattle.std.proofs.Common.{◌≡◌, ℕ, List, ap, subst, sym, ◌∙◌}
use Rattle.std.specs.Prelude.{Option}
use Rattle.metrics_core.specs.Outside.{GrewBy, GrewByPrefix}
use Rattle.prom_format.specs.Pages.{page_text}
use Rattle.prom_exporter.specs.Exporter.{AreTimely, Exporter, default_settings, families_shown, state_of}
use Rattle.prom_exporter.specs.Families.{ExporterSettings}
use Rattle.dsd_receiver.specs.Streams.{IsTakenIn}
use Rattle.dsd_receiver.proofs.ReceivedMoments.{received_timely}
use Rattle.dsd_receiver.proofs.ReceivedPages.{received_prefix, received_whole, writing_leaves}
use Rattle.dsd_receiver.proofs.streams.receive_page.Goals as goal

pub write_page-written-requires-clause-timely : goal.write_page-written-requires-clause-timely
write_page-written-requires-clause-timely g c =
    let taken : IsTakenIn c.args.bytes.now c.in-Ok.received (state_of c.receive_stream.new.receiver) = c.in-Ok.ensures.received in
    subst (λ (e : Exporter). AreTimely 0 e) (sym c.into_state-state.ensures.same) (received_timely c.receive_stream.new.receiver taken.counted.readings taken.state_is)

pub returns-in-Ok-written-clause-received : goal.returns-in-Ok-written-clause-received
returns-in-Ok-written-clause-received g c =
    let e : Exporter = c.into_state-state.result in
    let written : Option (List ℕ) = g.K.Sink.written c.args.out.now in
    let written' : Option (List ℕ) = g.K.Sink.written c.write_page-written.new.out in
    let settings : e.settings ≡ default_settings = ap (λ (x : Exporter). x.settings) c.into_state-state.ensures.same ∙ c.receive_stream.ensures.settings ∙ c.requires.settings in
    let taken : IsTakenIn c.args.bytes.now c.in-Ok.received (state_of e) = subst (λ (x : Exporter). IsTakenIn c.args.bytes.now c.in-Ok.received (state_of x)) (sym c.into_state-state.ensures.same) c.in-Ok.ensures.received in
    let P : ExporterSettings → Type 0 = λ s. GrewBy written written' (page_text (families_shown s 0 (state_of e))) in
    received_whole c.args.bytes.now c.in-Ok.received (state_of e) written written' taken (subst P settings c.in-Ok-written.ensures.page)

pub returns-in-Err-written-clause-leaves : goal.returns-in-Err-written-clause-leaves
returns-in-Err-written-clause-leaves g c =
    let e : Exporter = c.into_state-state.result in
    let written : Option (List ℕ) = g.K.Sink.written c.args.out.now in
    let written' : Option (List ℕ) = g.K.Sink.written c.write_page-written.new.out in
    let settings : e.settings ≡ default_settings = ap (λ (x : Exporter). x.settings) c.into_state-state.ensures.same ∙ c.receive_stream.ensures.settings ∙ c.requires.settings in
    let taken : IsTakenIn c.args.bytes.now c.in-Ok.received (state_of e) = subst (λ (x : Exporter). IsTakenIn c.args.bytes.now c.in-Ok.received (state_of x)) (sym c.into_state-state.ensures.same) c.in-Ok.ensures.received in
    let P : ExporterSettings → Type 0 = λ s. GrewByPrefix written written' (page_text (families_shown s 0 (state_of e))) in
    writing_leaves c.args.bytes.now written written' _ _ c.in-Err-written.ensures.refused
    (received_prefix c.args.bytes.now c.in-Ok.received (state_of e) written written' taken (subst P settings c.in-Err-written.ensures.prefix))
