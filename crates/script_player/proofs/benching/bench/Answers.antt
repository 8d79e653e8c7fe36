use Rattle.std.proofs.Common.{ap, sym, subst, ◌∙◌}
use Rattle.std.specs.Prelude.{Some}
use Rattle.dsd_addresses.specs.Remotes.{remote_text}
use Rattle.dsd_exporter.specs.declared.sending.FlushReport.{FlushReport}
use Rattle.bench_scripts.specs.Bench.{bench_script, bench_settings_text}
use Rattle.script_player.specs.Agent.{default_agent}
use Rattle.script_player.specs.Faults.{AreAllowed}
use Rattle.script_player.specs.Benched.{keeps_none}
use Rattle.script_player.specs.Flushes.{ForSomeFlushes, flush_start}
use Rattle.script_player.specs.Player.{first_player}
use Rattle.script_player.specs.Sent.{Delivers, none_sent}
use Rattle.script_player.proofs.BenchSteps.{bench_report, unbenched}
use Rattle.script_player.proofs.Returned.{on_handed_on}
use Rattle.script_player.proofs.benching.bench.Goals as goal

pub new-requires : goal.new-requires
new-requires g c =
    let to = remote_text c.default_agent-to.result in
    record { allowed = subst (AreAllowed to) (sym c.in_ok-settings.ensures) (c.settings_are_allowed.ensures to) }

pub play_bench-played-requires-clause-start : goal.play_bench-played-requires-clause-start
play_bench-played-requires-clause-start g c κs within = c.in_ok-player.ensures ∙ (λ i. first_player (c.in_ok-settings.ensures i) (c.default_agent-to.ensures i))

pub play_bench-played-requires-clause-aimed : goal.play_bench-played-requires-clause-aimed
play_bench-played-requires-clause-aimed g c κs within = c.in_ok-aim.ensures.aimed ∙ ap Some c.default_agent-to.ensures

pub returns-in_err-aim-clause-prefix : goal.returns-in_err-aim-clause-prefix
returns-in_err-aim-clause-prefix g c = on_handed_on c.from_residual.result _ (unbenched c.args.count c.requires.some _)

pub returns-in_err-settings-clause-prefix : goal.returns-in_err-settings-clause-prefix
returns-in_err-settings-clause-prefix g c = on_handed_on c.from_residual-in_err-settings.result _ (unbenched c.args.count c.requires.some _)

pub returns-in_err-player-clause-prefix : goal.returns-in_err-player-clause-prefix
returns-in_err-player-clause-prefix g c = on_handed_on c.from_residual-in_err-player.result _ (unbenched c.args.count c.requires.some _)

pub returns-clause-reported : goal.returns-clause-reported
returns-clause-reported g c =
    let report = c.report_of.result in
    let P : FlushReport → Type 0
    = λ now. ForSomeFlushes bench_settings_text flush_start (bench_script c.args.count).rounds (λ flushes. Delivers bench_settings_text default_agent flushes keeps_none keeps_none none_sent now) in
    bench_report c.args.count report c.report_of.ensures.pages c.report_of.ensures.fits (subst P (sym (c.report_of.ensures.counts ∙ c.end-report.ensures)) c.in_ok-played.ensures.played.sent)
