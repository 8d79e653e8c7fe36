use Rattle.std.proofs.Common.{◌≡◌, ◌∷◌, ◌++◌, ◌+◌, ◌-◌, ◌∙◌, sym, ap, subst, set, arith, [], refl}
use Rattle.std.specs.Prelude.{All, vec_len}
use Rattle.std.proofs.lemmas.List.{get_or_default, map_push}
use Rattle.prom_format.specs.LabelSets.{labels_of}
use Rattle.drive_script.specs.Heads.{AreNoted}
use Rattle.drive_script.specs.Texts.{settings_of, script_so_far}
use Rattle.drive_script.specs.Taking.{MayRegister}
use Rattle.drive_script.specs.declared.script.Round.{Round}
use Rattle.drive_script.specs.Valid.{Registration, registered, PrintApart, SparesOverflow}
use Rattle.drive_script.specs.Script.{Register}
use Rattle.drive_script.proofs.Growth.{setup_samples}
use Rattle.drive_script.proofs.Steps.{script_with, register_added, key_registered, kinds_of}
use Rattle.drive_script.proofs.progress.ScriptSoFar.register.Goals as goal

pub returns-then-not-may_register : goal.returns-then-not-may_register
returns-then-not-may_register c = record { next = λ said known later new h. (rw c.if-not-may_register.true at (c.may_register.ensures said known)) c.args.kind c.args.key new h.1 }

pub returns-then-not-branch : goal.returns-then-not-branch
returns-then-not-branch c = record {
  next = λ said known later new h.
      let refused = rw c.if-not-branch.true at (c.in_ok-spares_overflow.ensures said c.args.kind known) in
      refused h.1.spares;
}

pub returns-then-not-branch-2 : goal.returns-then-not-branch-2
returns-then-not-branch-2 c = record {
  next = λ said known later new h.
      let old = c.args.self.now in
      let tested = rw c.deref.ensures.value at (c.in_ok-note.ensures.apart (rw c.deref.ensures.value known.heads)) in
      let refused : ¬ All (λ r. PrintApart (labels_of old.heads.globals.entries) r (record { kind = c.args.kind; key = c.args.key })) (registered (script_so_far old)) = rw c.if-not-branch-2.true at tested in
      refused (subst (λ globals. All (λ r. PrintApart globals r (record { kind = c.args.kind; key = c.args.key })) (registered (script_so_far old))) (sym known.globals) h.1.apart);
}

pub returns : goal.returns
returns c = record {
  next = λ said known.
      let old = c.args.self.now in
      let rounds = old.rounds in
      let settings = settings_of old.settings in
      let new : Registration = record { kind = c.args.kind; key = c.args.key } in
      let earlier = registered (script_so_far old) in
      let may : MayRegister old = rw c.if-not-may_register.false at (c.may_register.ensures said known) in
      let tested = rw c.deref.ensures.value at (c.in_ok-note.ensures.apart (rw c.deref.ensures.value known.heads)) in
      let noted : AreNoted (labels_of old.heads.globals.entries) c.note.new.self.table (earlier ++ new ∷ []) × All (λ r. PrintApart (labels_of old.heads.globals.entries) r new) earlier = rw c.if-not-branch-2.false at tested in
      let apart = subst (λ globals. All (λ r. PrintApart globals r new) earlier) known.globals noted.1 in
      let spares : SparesOverflow settings new = rw c.if-not-branch.false at (c.in_ok-spares_overflow.ensures said c.args.kind known) in
      let last = c.in-Some.ensures.value in
      let some = c.in-Some.ensures.variant.0 refl in
      let pushed = c.in_ok-push-2.ensures.items in
      let same : may.set_up.round ≡ c.in-Some.round.now = may.set_up.last ∙ get_or_default rounds.items (vec_len rounds - 1) may.set_up.round c.in-Some.round.now (omega (arith, some, rounds.ok.0)) ∙ sym last in
      let no_call : c.in-Some.round.now.calls.items ≡ [] = ap (λ (r : Round). r.calls.items) (sym same) ∙ may.set_up.no_call in
      let grown = script_with settings (set rounds.items (vec_len rounds - 1) (record { moment = c.in-Some.round.now.moment; setup = c.push-2.new.self; calls = c.in-Some.round.now.calls })) in
      let all = key_registered settings rounds.items (vec_len rounds) rounds.ok.0 some c.in-Some.round.now last c.push-2.new.self _ pushed no_call c.args.kind c.args.key refl in
      let added = register_added settings rounds.items (vec_len rounds) rounds.ok.0 some c.in-Some.round.now last c.push-2.new.self _ pushed no_call c.args.kind c.args.key refl may.room apart spares in (
        said,
        (refl, added),
        record {
          globals = ap (λ globals. labels_of globals.entries) c.in_ok-note.ensures.globals ∙ known.globals;
          kinds = c.in_ok-push.ensures.items ∙ ap (λ ks. ks ++ c.args.kind ∷ []) known.kinds ∙ sym (ap kinds_of all ∙ map_push (λ (r : Registration). r.kind) earlier new);
          heads = subst (λ globals. AreNoted (labels_of globals.entries) c.note.new.self.table (registered grown)) (sym c.in_ok-note.ensures.globals)
              (subst (AreNoted (labels_of old.heads.globals.entries) c.note.new.self.table) (sym all) noted.0);
          samples = ap (λ n. n + old.samples_left) (setup_samples (script_so_far old) grown (Register c.args.kind c.args.key) added) ∙ known.samples;
          order = known.order;
        },
      );
}
