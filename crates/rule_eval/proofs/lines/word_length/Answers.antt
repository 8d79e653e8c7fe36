use Rattle.std.proofs.Common.{◌≡◌, ℕ, Bool, ◌==◌, ◌∙◌, ap, length, rules, tests}
use Rattle.std.specs.Prelude.{position, unwrap_or}
use Rattle.std.proofs.lemmas.Iterator.{YieldsList-from_slice}
use Rattle.std.proofs.lemmas.Iterator.Search.{position_from_yields_List}
use Rattle.drive_script.proofs.Fields.{position_or_length}
use Rattle.rule_eval.proofs.lines.word_length.Goals as goal

abbrev is_space : ℕ → Bool
is_space b = b == 32

pub returns-clause-count : goal.returns-clause-count
returns-clause-count c =
    let found : c.position.result ≡ position is_space c.args.bytes.now = position_from_yields_List is_space _ _ c.position.result c.position.ensures.ran (YieldsList-from_slice c.args.bytes.now cc) (λ x b q k. search (rules, tests)) in
    c.unwrap_or.ensures ∙ ap (λ o. unwrap_or o (length c.args.bytes.now)) found ∙ position_or_length is_space c.args.bytes.now
