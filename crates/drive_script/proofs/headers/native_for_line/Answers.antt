use Rattle.std.proofs.Common.{◌≡◌, Some, None, ap, sym, ◌∙◌, rules}
use Rattle.std.specs.Prelude.{codes, option_map}
use Rattle.prom_format.specs.MatcherTexts.{matcher_text}
use Rattle.drive_script.specs.Reading.{behind, after, whole, matcher_at, native_numbers_at, native_of_parts}
use Rattle.drive_script.proofs.Parts.{native_read}
use Rattle.drive_script.proofs.headers.native_for_line.Goals as goal

pub returns-in-Some-native_numbers : goal.returns-in-Some-native_numbers
unfolding behind
returns-in-Some-native_numbers c =
    let line = c.args.line.now in
    let word : behind (codes "native-for ") line ≡ Some c.literal.new.self.rest.now = search rules in
    let matcher : matcher_at c.literal.new.self.rest.now ≡ Some (matcher_text c.in-Some-2.matcher, c.matcher.new.self.rest.now) = search rules in
    let numbers : whole (after (codes " ") native_numbers_at) c.matcher.new.self.rest.now ≡ Some (c.in-Some-native_numbers.factor.0, (c.in-Some-native_numbers.max_buckets, c.in-Some-native_numbers.threshold.0)) = search rules in
    sym (native_read line c.literal.new.self.rest.now c.matcher.new.self.rest.now (matcher_text c.in-Some-2.matcher) word matcher ∙ ap (option_map (λ numbers. native_of_parts (matcher_text c.in-Some-2.matcher, numbers))) numbers)

pub returns-in-None : goal.returns-in-None
unfolding behind
returns-in-None c =
    let line = c.args.line.now in
    let word : behind (codes "native-for ") line ≡ Some c.literal.new.self.rest.now = search rules in
    let matcher : matcher_at c.literal.new.self.rest.now ≡ Some (matcher_text c.in-Some-2.matcher, c.matcher.new.self.rest.now) = search rules in
    let numbers : whole (after (codes " ") native_numbers_at) c.matcher.new.self.rest.now ≡ None = search rules in
    sym (native_read line c.literal.new.self.rest.now c.matcher.new.self.rest.now (matcher_text c.in-Some-2.matcher) word matcher ∙ ap (option_map (λ numbers. native_of_parts (matcher_text c.in-Some-2.matcher, numbers))) numbers)
