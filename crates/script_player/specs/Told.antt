-- What an exporter is told of a script's settings.
use Rattle.std.specs.Prelude.{ℕ, List, ℤ}
use Rattle.std.specs.declared.vec.Vec.{Vec}
use Rattle.std.specs.declared.alloc.Global.{Global}
use Rattle.metrics_core.specs.declared.numbers.Fixed.{Fixed}
use Rattle.prom_format.specs.declared.matchers.Matcher.{Matcher}
use Rattle.prom_format.specs.Matchers.{MatcherText, sanitized_matcher}
use Rattle.prom_format.specs.MatcherTexts.{matcher_text}
use Rattle.native_histograms.specs.Native.{NativeText}
use Rattle.drive_script.specs.Texts.{values_of}
use Rattle.script_player.specs.Play.{native_text}

-- the bounds of the names that a matcher fits, under the matcher as it is sanitized
abbrev pub rule_told : Matcher × Vec Fixed Global → MatcherText × List ℤ
rule_told rule = (sanitized_matcher (matcher_text rule.0), values_of rule.1.items)

-- a native histogram of the names that a matcher fits, alike
abbrev pub native_told : Matcher × Fixed × ℕ × Fixed → MatcherText × NativeText
native_told line = (sanitized_matcher (matcher_text line.0), native_text line.1.0 line.2 line.3.0)
