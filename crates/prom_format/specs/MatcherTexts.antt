-- What a contract sees of a matcher.
use Rattle.std.specs.String.{string_bytes}
use Rattle.prom_format.specs.declared.matchers.Matcher.{Matcher}
use Rattle.prom_format.specs.declared.matchers.Matcher.TheVariants as kinds
use Rattle.prom_format.specs.Matchers.{MatcherText, Full, Prefix, Suffix}

abbrev pub matcher_text : Matcher → MatcherText
matcher_text (kinds.Full text) = Full (string_bytes text)
matcher_text (kinds.Prefix text) = Prefix (string_bytes text)
matcher_text (kinds.Suffix text) = Suffix (string_bytes text)
