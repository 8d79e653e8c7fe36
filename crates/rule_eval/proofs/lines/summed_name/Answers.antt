use Rattle.std.proofs.Common.{◌≡◌, true, false, Some, take, drop, subst, sym, ap, ◌∙◌, rules}
use Rattle.std.specs.Prelude.{codes, IsUtf8, string_bytes}
use Rattle.prom_format.specs.Names.{is_name, begins_metric_name}
use Rattle.drive_script.specs.Reading.{behind, word_length}
use Rattle.rule_eval.proofs.NameReader.{word_named, word_unnamed, word_other}
use Rattle.rule_eval.proofs.lines.summed_name.Goals as goal

pub returns-in_default : goal.returns-in_default
returns-in_default c =
    let rest = c.literal.new.self.rest.now in
    let taken : behind (codes " sum ") c.args.cursor.now.rest.now ≡ Some rest = search rules in
    let word : c.split_at.result.0.now ≡ take (word_length rest) rest = c.split_at.ensures.front ∙ ap (λ n. take n rest) c.word_length.ensures.count in
    rw taken (word_other rest (λ utf8. c.in_default.ensures.cases.0 (subst IsUtf8 (sym word) utf8)))

pub returns-then-not-is_metric_name : goal.returns-then-not-is_metric_name
returns-then-not-is_metric_name c =
    let rest = c.literal.new.self.rest.now in
    let taken : behind (codes " sum ") c.args.cursor.now.rest.now ≡ Some rest = search rules in
    let word : c.split_at.result.0.now ≡ take (word_length rest) rest = c.split_at.ensures.front ∙ ap (λ n. take n rest) c.word_length.ensures.count in
    let other : is_name begins_metric_name c.split_at.result.0.now ≡ false = search rules in
    rw taken (word_unnamed rest (subst (λ l. is_name begins_metric_name l ≡ false) word other))

pub returns : goal.returns
returns c =
    let rest = c.literal.new.self.rest.now in
    let taken : behind (codes " sum ") c.args.cursor.now.rest.now ≡ Some rest = search rules in
    let word : c.split_at.result.0.now ≡ take (word_length rest) rest = c.split_at.ensures.front ∙ ap (λ n. take n rest) c.word_length.ensures.count in
    let left : c.split_at.result.1.now ≡ drop (word_length rest) rest = c.split_at.ensures.back ∙ ap (λ n. drop n rest) c.word_length.ensures.count in
    let named : is_name begins_metric_name c.split_at.result.0.now ≡ true = search rules in
    let name : string_bytes c.in_ok-from_str.field-0 ≡ c.split_at.result.0.now = search rules in
    rw taken (word_named rest (subst (λ l. is_name begins_metric_name l ≡ true) word named) ∙ (λ j. Some ((sym word ∙ sym name) j, sym left j)))
