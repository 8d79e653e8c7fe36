use Rattle.std.proofs.Common.{◌≡◌, ◌+◌, ◌<◌, ◌∷◌, ◌++◌, ◌∙◌, suc, sym, take, drop, length, arith}
use Rattle.std.proofs.lemmas.List.{take_rest}
use Rattle.metrics_core.specs.Characters.{line}
use Rattle.page_relay.specs.Streams.{ended_lines}
use Rattle.page_relay.proofs.BadLines.{line_end, ended_none, ended_first}
use Rattle.page_relay.proofs.reader.split_line.Goals as goal

pub returns-then-end-bytes-clause-split : goal.returns-then-end-bytes-clause-split
returns-then-end-bytes-clause-split c = ended_none c.args.bytes.now (sym c.count_before-end.ensures.count ∙ c.if-end-bytes.true)

pub returns-then-end-bytes-clause-shorter : goal.returns-then-end-bytes-clause-shorter
returns-then-end-bytes-clause-shorter c = ended_none c.args.bytes.now (sym c.count_before-end.ensures.count ∙ c.if-end-bytes.true)

pub returns-clause-split : goal.returns-clause-split
returns-clause-split c =
    let bytes = c.args.bytes.now in
    let end = c.count_before-end.result in
    let count : end ≡ line_end bytes = c.count_before-end.ensures.count in
    let found : line_end bytes < length bytes = omega arith in
    let first = ended_first bytes found in
    let more : suc (line_end bytes) ≡ end + 1 = omega arith in
    rw take_rest (
      first.split ∙ (λ j. line (take (sym count j) bytes) ++ drop (more j) bytes),
      first.ended ∙ (λ j. take (sym count j) bytes ∷ ended_lines (drop (more j) bytes)),
    )
