use Rattle.std.proofs.Common.{◌≡◌, ◌+◌, ◌-◌, ◌∙◌, sym, ap, subst, set, arith, [], refl}
use Rattle.std.specs.Prelude.{string_bytes, vec_len}
use Rattle.std.proofs.lemmas.List.{get_or_default}
use Rattle.prom_format.specs.LabelSets.{labels_of}
use Rattle.drive_script.specs.Heads.{AreNoted}
use Rattle.drive_script.specs.Script.{SetupLine, Describe}
use Rattle.drive_script.specs.Taking.{MaySetUp}
use Rattle.drive_script.specs.Texts.{settings_of, script_so_far}
use Rattle.drive_script.specs.declared.script.Round.{Round}
use Rattle.drive_script.proofs.Growth.{setup_samples}
use Rattle.drive_script.proofs.Steps.{script_with, description_added, still_registered, kinds_of}
use Rattle.drive_script.proofs.progress.ScriptSoFar.describe.Goals as goal

pub returns-then-not-may_set_up : goal.returns-then-not-may_set_up
returns-then-not-may_set_up c = record { next = λ said known few later new h. (rw c.if-not-may_set_up.true at c.may_set_up.ensures) _ new h.1 }

pub returns : goal.returns
returns c = record {
  next = λ said known few.
      let old = c.args.self.now in
      let rounds = old.rounds in
      let settings = settings_of old.settings in
      let round = c.in-Some.round.now in
      let says : SetupLine = Describe c.args.kind (string_bytes c.args.name) c.args.unit (string_bytes c.args.description) in
      let may : MaySetUp old = rw c.if-not-may_set_up.false at c.may_set_up.ensures in
      let last = c.in-Some.ensures.value in
      let some = c.in-Some.ensures.variant.0 refl in
      let pushed = c.in_ok-push.ensures.items in
      let same : may.round ≡ round = may.last ∙ get_or_default rounds.items (vec_len rounds - 1) may.round round (omega (arith, some, rounds.ok.0)) ∙ sym last in
      let no_call : round.calls.items ≡ [] = ap (λ (r : Round). r.calls.items) (sym same) ∙ may.no_call in
      let grown = script_with settings (set rounds.items (vec_len rounds - 1) (record { moment = round.moment; setup = c.push.new.self; calls = round.calls })) in
      let all = still_registered settings rounds.items (vec_len rounds) rounds.ok.0 some round last c.push.new.self _ pushed no_call says refl refl in
      let added = description_added settings rounds.items (vec_len rounds) rounds.ok.0 some round last c.push.new.self _ pushed no_call says refl refl few in (
        said,
        (refl, added),
        record {
          globals = known.globals;
          kinds = known.kinds ∙ ap kinds_of (sym all);
          heads = subst (AreNoted (labels_of old.heads.globals.entries) old.heads.table) (sym all) known.heads;
          samples = ap (λ n. n + old.samples_left) (setup_samples (script_so_far old) grown says added) ∙ known.samples;
          order = known.order;
        },
      );
}
