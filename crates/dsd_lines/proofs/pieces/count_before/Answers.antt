use Rattle.std.proofs.Common.{◌≡◌, ◌∙◌, ap, length, rules, tests}
use Rattle.std.specs.Prelude.{position, unwrap_or}
use Rattle.std.proofs.lemmas.Iterator.{YieldsList-from_slice}
use Rattle.std.proofs.lemmas.Iterator.Search.{position_from_yields_List}
use Rattle.dsd_lines.specs.Reading.{is}
use Rattle.dsd_lines.proofs.Cuts.{position_or_length}
use Rattle.dsd_lines.proofs.pieces.count_before.Goals as goal

pub returns-clause-count : goal.returns-clause-count
returns-clause-count c =
    let found : c.position.result ≡ position (is c.args.stop) c.args.bytes.now = position_from_yields_List (is c.args.stop) _ _ c.position.result c.position.ensures.ran (YieldsList-from_slice c.args.bytes.now cc) (λ x b q k. search (rules, tests)) in
    c.unwrap_or.ensures ∙ ap (λ o. unwrap_or o (length c.args.bytes.now)) found ∙ position_or_length (is c.args.stop) c.args.bytes.now
