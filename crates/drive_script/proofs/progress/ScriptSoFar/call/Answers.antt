use Rattle.std.proofs.Common.{◌≡◌, ◌+◌, ◌-◌, ◌∙◌, sym, ap, subst, set, refl, arith, rules, true}
use Rattle.std.specs.Prelude.{vec_len, IsTrue}
use Rattle.prom_format.specs.LabelSets.{labels_of}
use Rattle.drive_script.specs.Heads.{AreNoted}
use Rattle.drive_script.specs.Growth.{AddsCall}
use Rattle.drive_script.specs.Texts.{call_line_of, script_so_far, settings_of}
use Rattle.drive_script.specs.Valid.{sample_count}
use Rattle.drive_script.specs.declared.script.Round.{Round}
use Rattle.drive_script.proofs.Growth.{none_registered, call_samples}
use Rattle.drive_script.proofs.Steps.{script_with, call_added, kinds_of}
use Rattle.drive_script.proofs.progress.ScriptSoFar.call.Goals as goal

pub returns-then-not-has_handle : goal.returns-then-not-has_handle
returns-then-not-has_handle c = record {
  next = λ said known later new h.
      let has : IsTrue c.has_handle.result = (c.has_handle.ensures said known).1 h.1.handle in
      absurd cc;
}

pub returns : goal.returns
returns c = record {
  next = λ said known.
      let old = c.args.self.now in
      let settings = settings_of old.settings in
      let call = call_line_of c.args.call in
      let round = c.in-Some-last_mut.round.now in
      -- what is left is what was left without this line's samples
      let left : c.in-Some.samples_left + sample_count call.act ≡ old.samples_left = search rules in
      let has_handle : c.has_handle.result ≡ true = search rules in
      let pushed : Round = record { moment = round.moment; setup = round.setup; calls = c.push.new.self } in
      let next : AddsCall (script_so_far old) call (script_with settings (set old.rounds.items (vec_len old.rounds - 1) pushed)) =
      call_added settings old.rounds.items (vec_len old.rounds) old.rounds.ok.0 (c.in-Some-last_mut.ensures.variant.0 refl) round c.in-Some-last_mut.ensures.value c.push.new.self c.args.call c.in_ok-push.ensures.items
      ((c.has_handle.ensures said known).0 has_handle) (omega (arith, known.samples, left)) in
      let same = none_registered _ _ _ next in (
        said,
        (refl, next),
        record {
          globals = known.globals;
          kinds = known.kinds ∙ ap kinds_of (sym same);
          heads = subst (AreNoted (labels_of old.heads.globals.entries) old.heads.table) (sym same) known.heads;
          samples = omega (arith, known.samples, left, call_samples _ _ _ next.before next.round next.last next.grown);
          order = known.order;
        },
      );
}
