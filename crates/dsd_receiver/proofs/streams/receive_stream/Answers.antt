use Rattle.std.proofs.Common.{◌≡◌, ◌≢◌, ℕ, ◌+◌, ◌≤◌, List, [], ◌∷◌, ◌++◌, length, refl, sym, subst, ◌∙◌}
use Rattle.std.specs.Prelude.{MatchOption, Option, true}
use Rattle.std.specs.declared.alloc.Global.{Global}
use Rattle.std.specs.declared.vec.Vec.{Vec}
use Rattle.std.proofs.lemmas.Result.{IfErr-weaker, IfOk-weaker}
use Rattle.dsd_writer.specs.Lines.{framed}
use Rattle.prom_exporter.specs.Exporter.{state_of}
use Rattle.dsd_lines.specs.declared.dialects.Dialect.TheVariants.{DogStatsd}
use Rattle.dsd_lines.specs.Frames.{AreFrames, BeginsNoFrame, Splits}
use Rattle.dsd_lines.specs.Payloads.{payload_lines}
use Rattle.dsd_receiver.specs.Receiving.{IsApplied}
use Rattle.dsd_receiver.specs.Streams.{IsIntakeFault, IsTakenIn}
use Rattle.dsd_receiver.specs.declared.streams.Received.{Received}
use Rattle.dsd_receiver.specs.declared.streams.StreamFault.{StreamFault}
use Rattle.dsd_receiver.specs.declared.streams.StreamFault.TheVariants as stream
use Rattle.dsd_receiver.proofs.ReceivedStreams.{IsTakenSoFar, all_received, cut_after, none_taken, one_more}
use Rattle.dsd_receiver.proofs.streams.receive_stream.Goals as goal

pub loop-payload-init : goal.loop-payload-init
loop-payload-init g c = record {
  so_far = none_taken c.args.bytes.now c.feed.new.self (state_of c.args.receiver.now) (c.in-Ok.ensures.split [] [] c.new-frames.ensures.split) c.requires.empty;
  settings = refl;
}

pub loop-payload-preserved : goal.loop-payload-preserved
loop-payload-preserved g c =
    let bytes : List ℕ = c.args.bytes.now in
    let old : List ℕ = c.loop-payload.frames in
    let new : List ℕ = c.next_frame.new.self in
    let so_far : IsTakenSoFar bytes old c.loop-payload.received (state_of c.loop-payload.receiver) = c.loop-payload.invariant.so_far in
    let payload : List ℕ = c.in-Ok-Some.payload.items in
    let Front : Option (Vec ℕ Global) → Type 0 = λ next. MatchOption next (BeginsNoFrame old × (new ≡ old)) (λ frame. old ≡ framed true frame.items ++ new) in
    let Split : Option (Vec ℕ Global) → Type 0 = λ next. MatchOption next (AreFrames bytes so_far.frames) (λ frame. Splits bytes (so_far.frames ++ frame.items ∷ []) new) in
    let front : old ≡ framed true payload ++ new = subst Front c.in-Ok-Some.field-0-is c.in-Ok-Some.ensures.frame in
    let split : Splits bytes (so_far.frames ++ payload ∷ []) new = subst Split c.in-Ok-Some.field-0-is (c.in-Ok-Some.ensures.split bytes so_far.frames so_far.split) in
    record {
      so_far = one_more bytes old payload new c.loop-payload.received c.and-received.result c.in-Ok-apply_payload.applied (state_of c.loop-payload.receiver) (state_of c.apply_payload.new.self)
          so_far front split
          (subst (λ p. IsApplied DogStatsd 0 (payload_lines p) (state_of c.loop-payload.receiver) c.in-Ok-apply_payload.applied (state_of c.apply_payload.new.self)) c.deref.ensures.value c.in-Ok-apply_payload.ensures.applied)
          (subst (λ p. c.in-Ok-apply_payload.applied.lines + c.in-Ok-apply_payload.applied.bad ≤ length p) c.deref.ensures.value c.in-Ok-apply_payload.ensures.few)
          c.and-received.ensures.frames c.and-received.ensures.lines c.and-received.ensures.bad;
      settings = c.apply_payload.ensures.settings ∙ c.loop-payload.invariant.settings;
    }

pub returns-in-Ok-None-clause-received : goal.returns-in-Ok-None-clause-received
returns-in-Ok-None-clause-received g c =
    let new : List ℕ = c.next_frame.new.self in
    let old : List ℕ = c.loop-payload.frames in
    let Front : Option (Vec ℕ Global) → Type 0 = λ next. MatchOption next (BeginsNoFrame old × (new ≡ old)) (λ frame. old ≡ framed true frame.items ++ new) in
    let none : BeginsNoFrame old × (new ≡ old) = subst Front c.in-Ok-None.field-0-is c.in-Ok-None.ensures.frame in
    IfOk-weaker c.whole.result (λ (all : Received). (all ≡ c.loop-payload.received) × (new ≡ [])) (λ (all : Received). IsTakenIn c.args.bytes.now all (state_of c.loop-payload.receiver)) (λ all is. subst (λ (r : Received). IsTakenIn c.args.bytes.now r (state_of c.loop-payload.receiver)) (sym is.0)
    (all_received c.args.bytes.now old c.loop-payload.received (state_of c.loop-payload.receiver) c.loop-payload.invariant.so_far (sym none.1 ∙ is.1))) c.whole.ensures.whole

pub returns-in-Ok-None-clause-refused : goal.returns-in-Ok-None-clause-refused
returns-in-Ok-None-clause-refused g c =
    let new : List ℕ = c.next_frame.new.self in
    let old : List ℕ = c.loop-payload.frames in
    let Front : Option (Vec ℕ Global) → Type 0 = λ next. MatchOption next (BeginsNoFrame old × (new ≡ old)) (λ frame. old ≡ framed true frame.items ++ new) in
    let none : BeginsNoFrame old × (new ≡ old) = subst Front c.in-Ok-None.field-0-is c.in-Ok-None.ensures.frame in
    IfErr-weaker c.whole.result (λ (fault : StreamFault). (fault ≡ stream.Cut c.loop-payload.received.frames) × (new ≢ [])) (IsIntakeFault c.args.bytes.now) (λ fault is. subst (λ (f : StreamFault). IsIntakeFault c.args.bytes.now f) (sym is.0)
    (cut_after c.args.bytes.now old c.loop-payload.received (state_of c.loop-payload.receiver) c.loop-payload.invariant.so_far (λ e. is.1 (none.1 ∙ e)) none.0)) c.whole.ensures.cut
