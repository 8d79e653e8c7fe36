use Rattle.std.proofs.Common.{length, ◌≤◌, arith}
use Rattle.script_player.proofs.RoundLines.{lines_most}
use Rattle.script_player.proofs.lane_lines.RoundLinesLaneLines.walk.Goals as goal

pub returns-clause-room : goal.returns-clause-room
returns-clause-room c =
    let own = c.args.self.now in
    let most = lines_most own.moment own.calls.items in
    omega (arith, most)
