-- The grammar of rules (this project's format): which lines are rules, and which line is the first that is none.
use Rattle.std.specs.Prelude.{◌≡◌, ◌≢◌, ℕ, ◌+◌, ◌≤◌, Bool, List, [], ◌∷◌, ◌++◌, map, length, ℤ, codes, decimal, flat_map, IsUtf8, All, string_bytes, if◌then◌else◌}
use Rattle.std.specs.List.{AllZip}
use Rattle.metrics_core.specs.Characters.{newline, line}
use Rattle.prom_format.specs.Names.{IsMetricName}
use Rattle.drive_script.specs.Words.{spaced, quoted, IsDec}
use Rattle.rule_eval.specs.declared.rules.Rule.{Rule}
use Rattle.rule_eval.specs.declared.rules.RuleFault.{RuleFault}
use Rattle.rule_eval.specs.declared.rules.RuleFault.TheVariants as faults

-- what a rule says: its title, the name of the rows that it sums and the keys that it groups them by, on which side of
-- the bound (in billionths) a sum passes, and on how many pages in a row it has to
pub record RuleText : Type 0 where
  pub title : List ℕ
  pub name : List ℕ
  pub keys : List (List ℕ)
  pub over : Bool
  pub bound : ℤ
  pub pages : ℕ

-- what the program's value stands for
abbrev pub rule_text : Rule → RuleText
rule_text rule = record {
  title = string_bytes rule.title;
  name = string_bytes rule.name;
  keys = map string_bytes rule.keys.items;
  over = rule.over;
  bound = rule.bound.0;
  pages = rule.pages;
}

-- a rule asks for 1 to 1000 pages
abbrev pub AsksForPages : RuleText → Type 0
AsksForPages rule = (1 ≤ rule.pages) × (rule.pages ≤ 1000)

abbrev pub side_word : Bool → List ℕ
side_word over = if over then codes "over" else codes "under"

-- rule TEXT sum NAME by TEXT .. over DEC for NAT, or `under` in place of `over`
pub record IsRuleLine (text : List ℕ) (rule : RuleText) : Type 0 where
  pub title : IsUtf8 rule.title
  pub name : IsMetricName rule.name
  pub keys : All IsUtf8 rule.keys
  pub pages : AsksForPages rule
  pub bound : List ℕ
  pub bounds : IsDec bound rule.bound
  pub spelled : text ≡ spaced (codes "rule" ∷ quoted rule.title ∷ codes "sum" ∷ rule.name ∷ codes "by"
      ∷ (map quoted rule.keys ++ side_word rule.over ∷ bound ∷ codes "for" ∷ decimal rule.pages ∷ []))

-- rule lines, and the line `pages` behind them; the rest are the pages
pub record AreRules (bytes : List ℕ) (rules : List RuleText) (rest : List ℕ) : Type 0 where
  pub lines : List (List ℕ)
  pub each : AllZip IsRuleLine lines rules
  pub spelled : bytes ≡ flat_map line lines ++ (line (codes "pages") ++ rest)

-- the first line of the bytes, without its newline
pub record BeginsWithLine (bytes text : List ℕ) : Type 0 where
  pub rest : List ℕ
  pub split : bytes ≡ line text ++ rest
  pub whole : All (λ c. c ≢ newline) text

-- Line l, from 1, is the first that is neither a rule nor `pages`, and `pages` is not among those before it. Where the
-- lines end before, it is the one behind the last.
pub record IsFirstBadRule (bytes : List ℕ) (l : ℕ) : Type 0 where
  pub rules : List RuleText
  pub lines : List (List ℕ)
  pub rest : List ℕ
  pub each : AllZip IsRuleLine lines rules
  pub spelled : bytes ≡ flat_map line lines ++ rest
  pub no_pages : ¬ BeginsWithLine rest (codes "pages")
  pub no_rule : (text : List ℕ) (rule : RuleText) → BeginsWithLine rest text → ¬ IsRuleLine text rule
  pub place : l ≡ length lines + 1

-- why bytes are no rules; want of memory is free
abbrev pub IsRuleFault : List ℕ → RuleFault → Type 0
IsRuleFault bytes (faults.Line l) = IsFirstBadRule bytes l
IsRuleFault bytes faults.Memory = Unit {0}
