-- What is read from the front of a rule line, from left to right. That a line is read as the rule that it says, and as
-- nothing else, is proved.
use Rattle.std.specs.Prelude.{ℕ, zero, suc, Bool, true, false, nat_eq, List, [], ◌∷◌, length, take, drop, ℤ, Option, Some, None, codes, if◌then◌else◌}
use Rattle.std.specs.List.{starts_with}
use Rattle.prom_format.specs.Names.{is_name, begins_metric_name}
use Rattle.drive_script.specs.Reading.{◌>>=◌, ◌or◌, Reader, both, seen, after, standing, whole, word_length, fixed_at, positive_at, text_at}
use Rattle.rule_eval.specs.Rules.{RuleText}

abbrev pub name_of : List ℕ → Option (List ℕ)
name_of word = if is_name begins_metric_name word then Some word else None

-- a metric name, in the bytes before the next space
unfoldable pub name_at : Reader (List ℕ)
name_at bytes = do
  name ← name_of (take (word_length bytes) bytes)
  Some (name, drop (word_length bytes) bytes)

-- a space and a quote stand next
abbrev pub begins_text : List ℕ → Bool
begins_text bytes = starts_with nat_eq bytes (codes " \"")

-- texts as long as another begins, each behind a space; there are at most so many
abbrev pub some_texts_at : ℕ → Reader (List (List ℕ))
some_texts_at zero bytes = if begins_text bytes then None else Some ([], bytes)
some_texts_at (suc most) bytes =
    if begins_text bytes then (after (codes " ") text_at bytes >>= λ first. some_texts_at most first.1 >>= λ others. Some (first.0 ∷ others.0, others.1))
    else Some ([], bytes)

-- the texts of a rule's keys
unfoldable pub keys_at : Reader (List (List ℕ))
keys_at bytes = some_texts_at (length bytes) bytes

-- whether sums have to be over a bound, by the word before it
unfoldable pub side_at : Reader Bool
side_at bytes = standing (codes " over ") true bytes or standing (codes " under ") false bytes

-- the bound, and the number of pages
abbrev pub bound_at : Reader (ℤ × ℕ)
bound_at = both fixed_at (λ _. after (codes " for ") (positive_at 1000))

-- the side, the bound and the number of pages
abbrev pub Condition : Type 0
Condition = Bool × (ℤ × ℕ)

unfoldable pub condition_at : Reader Condition
condition_at = both side_at (λ _. bound_at)

-- title, name, keys and condition
abbrev pub RuleParts : Type 0
RuleParts = List ℕ × (List ℕ × (List (List ℕ) × Condition))

abbrev pub rule_of_parts : RuleParts → RuleText
rule_of_parts parts = record {
  title = parts.0;
  name = parts.1.0;
  keys = parts.1.1.0;
  over = parts.1.1.1.0;
  bound = parts.1.1.1.1.0;
  pages = parts.1.1.1.1.1;
}

-- the keys and what is behind them, the name and what is behind it, and the whole
abbrev pub grouped_at : Reader (List (List ℕ) × Condition)
grouped_at = both (after (codes " by") keys_at) (λ _. condition_at)

abbrev pub summed_at : Reader (List ℕ × (List (List ℕ) × Condition))
summed_at = both (after (codes " sum ") name_at) (λ _. grouped_at)

abbrev pub parts_at : Reader RuleParts
parts_at = after (codes "rule ") (both text_at (λ _. summed_at))

-- a rule line
unfoldable pub rule_at : List ℕ → Option RuleText
rule_at line = whole (seen rule_of_parts parts_at) line
