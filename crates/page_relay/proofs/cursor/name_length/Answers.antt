use Rattle.std.proofs.Common.{◌≡◌, ◌∙◌, ap, length, not, rules, tests}
use Rattle.std.specs.Prelude.{position, unwrap_or}
use Rattle.std.proofs.lemmas.Iterator.{YieldsList-from_slice}
use Rattle.std.proofs.lemmas.Iterator.Search.{position_from_yields_List}
use Rattle.page_relay.specs.Reading.{stands_in_name}
use Rattle.page_relay.proofs.Names.{position_or_length}
use Rattle.page_relay.proofs.cursor.name_length.Goals as goal

pub returns-clause-count : goal.returns-clause-count
returns-clause-count c =
    let found : c.position.result ≡ position (λ b. not (stands_in_name c.args.colons b)) c.args.bytes.now = position_from_yields_List (λ b. not (stands_in_name c.args.colons b)) _ _ c.position.result c.position.ensures.ran (YieldsList-from_slice c.args.bytes.now cc) (λ x b q k. search (rules, tests)) in
    c.unwrap_or.ensures ∙ ap (λ o. unwrap_or o (length c.args.bytes.now)) found ∙ position_or_length (λ b. not (stands_in_name c.args.colons b)) c.args.bytes.now
