use Rattle.std.proofs.Common.{◌≡◌, ◌≤◌, ℕ, List, length, subst, sym}
use Rattle.std.specs.Prelude.{IfSome}
use Rattle.metrics_core.specs.Outside.{Rose}
use Rattle.script_player.specs.Headline.{script_limit}
use Rattle.program_words.specs.Reading.{IsUnread}
use Rattle.program_words.specs.Answers.{LeavesSource}
use Rattle.program_words.proofs.DriveSteps.{read_as, script_reads, status_handed_on, unread_script, unread_whole}
use Rattle.script_player.proofs.Returned.{if_handed_on}
use Rattle.program_words.proofs.driving.read_whole_script.Goals as goal

pub returns-in_err-bytes-clause-refused : goal.returns-in_err-bytes-clause-refused
returns-in_err-bytes-clause-refused g c =
    let left = g.S.Source.left c.args.source.now in
    let Failed : Type 0 = Rose (g.S.Source.faults c.args.source.now) (g.S.Source.faults c.read_all.new.source) in
    if_handed_on c.from_residual.result _ (IsUnread left Failed) c.from_residual.ensures.1 (unread_whole left Failed _ c.in_err-bytes.ensures.refused)

pub returns-clause-read : goal.returns-clause-read
returns-clause-read g c =
    let Whole : List ℕ → Type 0 = λ items. IfSome (g.S.Source.left c.args.source.now) (λ bytes. items ≡ bytes) in
    let Within : List ℕ → Type 0 = λ items. length items ≤ script_limit in
    read_as c.read_script_beside.result _ c.deref.result.now (subst Whole (sym c.deref.ensures.value) c.in_ok-bytes.ensures.whole) (subst Within (sym c.deref.ensures.value) c.in_ok-bytes.ensures.within) c.read_script_beside.ensures.valid

pub returns-clause-refused : goal.returns-clause-refused
returns-clause-refused g c =
    let Whole : List ℕ → Type 0 = λ items. IfSome (g.S.Source.left c.args.source.now) (λ bytes. items ≡ bytes) in
    let Within : List ℕ → Type 0 = λ items. length items ≤ script_limit in
    unread_script c.read_script_beside.result _ _ c.deref.result.now (subst Whole (sym c.deref.ensures.value) c.in_ok-bytes.ensures.whole) (subst Within (sym c.deref.ensures.value) c.in_ok-bytes.ensures.within) c.read_script_beside.ensures.refused

pub returns-in_err-bytes-clause-left : goal.returns-in_err-bytes-clause-left
returns-in_err-bytes-clause-left g c =
    let left = g.S.Source.left c.args.source.now in
    let after = g.S.Source.left c.read_all.new.source in
    status_handed_on c.from_residual.result c.in_err-bytes.field-0.0 (λ status. IfSome left (λ bytes. LeavesSource bytes after status)) c.from_residual.ensures.1 c.in_err-bytes.ensures.left

pub returns-clause-left : goal.returns-clause-left
returns-clause-left g c = script_reads c.deref.result.now (g.S.Source.left c.args.source.now) (g.S.Source.left c.read_all.new.source) c.read_script_beside.result c.read_script_beside.ensures.refused c.in_ok-bytes.ensures.left
