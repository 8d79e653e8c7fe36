use Rattle.std.proofs.Common.{◌≡◌, ◌≤◌, ◌+◌, List, [], map, refl, sym, ap, subst, ◌∙◌, rules}
use Rattle.std.specs.Prelude.{All, vec_len}
use Rattle.std.specs.List.Sorted.{IsNonDecreasingBy}
use Rattle.std.proofs.lemmas.List.{nil_from_length}
use Rattle.std.proofs.lemmas.List.Elements.{All-nil}
use Rattle.prom_format.specs.LabelSets.{labels_of}
use Rattle.drive_script.specs.Script.{RoundText}
use Rattle.drive_script.specs.Heads.{AreNoted}
use Rattle.drive_script.specs.Growth.{BeginsRound}
use Rattle.drive_script.specs.Texts.{round_of, settings_of, script_so_far}
use Rattle.drive_script.specs.declared.script.Round.{Round}
use Rattle.drive_script.proofs.Growth.{round_registered, round_samples}
use Rattle.drive_script.proofs.Steps.{script_with, round_begun, none_after, kinds_of}
use Rattle.drive_script.proofs.progress.ScriptSoFar.begin_round.Goals as goal
use Rattle.drive_script.proofs.progress.ScriptSoFar.begin_round.Goals.{In_ok-push, in_default-via-in-None-1, in_default-via-in-Some+else-moment-last}

-- no round so far is after the moment
not_before : (c : In_ok-push) → IsNonDecreasingBy (λ (r : RoundText). r.moment) (map round_of c.args.self.now.rounds.items) → All (λ (r : RoundText). r.moment ≤ c.args.moment) (map round_of c.args.self.now.rounds.items)
not_before c sorted =
    let rounds = c.args.self.now.rounds in
    elim c.in_default.branch [
      | in_default-via-in-None-1 w ↦
          let none : rounds.items ≡ [] = nil_from_length rounds.items (search rules) in
          subst (λ rs. All (λ (r : RoundText). r.moment ≤ c.args.moment) (map round_of rs)) (sym none) (All-nil (λ (r : RoundText). r.moment ≤ c.args.moment))
      | in_default-via-in-Some+else-moment-last w ↦ none_after rounds.items (vec_len rounds) w.in-Some.last.now c.args.moment rounds.ok.0 (search rules) (search rules) sorted (search rules)
    ]

pub returns-2 : goal.returns-2
returns-2 c =
    let old = c.args.self.now in
    let round : Round = record { moment = c.args.moment; setup = c.new.result; calls = c.new-2.result } in
    record {
      next = λ said known sorted.
          let begins : BeginsRound (script_so_far old) c.args.moment (script_with (settings_of old.settings) c.push.new.self.items) =
          subst (λ rs. BeginsRound (script_so_far old) c.args.moment (script_with (settings_of old.settings) rs)) (sym {A = List Round} c.in_ok-push.ensures.items)
          (round_begun (settings_of old.settings) old.rounds.items round c.new.ensures.items c.new-2.ensures.items (not_before c sorted)) in
          let same = round_registered (script_so_far old) (script_with (settings_of old.settings) c.push.new.self.items) c.args.moment begins in (
            said,
            (refl, begins),
            record {
              globals = known.globals;
              kinds = known.kinds ∙ ap kinds_of (sym same);
              heads = subst (AreNoted (labels_of old.heads.globals.entries) old.heads.table) (sym same) known.heads;
              samples = ap (λ n. n + old.samples_left) (round_samples (script_so_far old) (script_with (settings_of old.settings) c.push.new.self.items) c.args.moment begins) ∙ known.samples;
              order = known.order;
            },
          );
    }
