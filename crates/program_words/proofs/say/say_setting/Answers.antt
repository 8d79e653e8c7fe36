use Rattle.std.proofs.Common.{ap, refl}
use Rattle.metrics_core.specs.Characters.{line}
use Rattle.program_words.proofs.Sayings.{setting_said}
use Rattle.program_words.proofs.say.say_setting.Goals as goal

pub returns-in-Empty : goal.returns-in-Empty
returns-in-Empty g c = record { said = setting_said _ _ _ _ _ _ c.in-Empty.is refl c.say.ensures.said }

pub returns-in-ZeroDuration : goal.returns-in-ZeroDuration
returns-in-ZeroDuration g c = record { said = setting_said _ _ _ _ _ _ c.in-ZeroDuration.is refl c.say-in-ZeroDuration.ensures.said }

pub returns-in-SpanTooLong : goal.returns-in-SpanTooLong
returns-in-SpanTooLong g c = record { said = setting_said _ _ _ _ _ _ c.in-SpanTooLong.is refl c.say-in-SpanTooLong.ensures.said }

pub returns-in-Native : goal.returns-in-Native
returns-in-Native g c = record { said = setting_said _ _ _ _ _ _ c.in-Native.is (ap line c.as_bytes.ensures.value) c.say-in-Native.ensures.said }

pub returns-in-Limit : goal.returns-in-Limit
returns-in-Limit g c = record { said = setting_said _ _ _ _ _ _ c.in-Limit.is refl c.say_limit.ensures.said }
