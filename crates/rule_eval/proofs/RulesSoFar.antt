-- What was read of rules so far, and what follows where they end.
use Rattle.std.proofs.Common.{◌≡◌, ℕ, ◌+◌, ◌-◌, ◌≤◌, List, [], ◌∷◌, ◌++◌, length, drop, refl, sym, ap, subst, ◌∙◌, append_assoc, arith}
use Rattle.std.specs.Prelude.{codes, flat_map}
use Rattle.std.specs.List.{AllZip}
use Rattle.std.proofs.lemmas.Grind.{flat_map-append}
use Rattle.std.proofs.lemmas.List.{append-nil, drop_at, length-append}
use Rattle.metrics_core.specs.Characters.{line}
use Rattle.rule_eval.specs.Rules.{RuleText, IsRuleLine, AreRules, BeginsWithLine, IsFirstBadRule}
use Rattle.rule_eval.proofs.WordBytes.{NoNewline}
use Rattle.rule_eval.proofs.LinesTold.{line_told}

-- these rules stand before the rest, and line l is the next one
pub record RulesSoFar (bytes : List ℕ) (rules : List RuleText) (rest : List ℕ) (l : ℕ) : Type 0 where
  lines : List (List ℕ)
  each : AllZip IsRuleLine lines rules
  spelled : bytes ≡ flat_map line lines ++ rest
  place : l ≡ length lines + 1

-- each line has a byte at least
few_lines : (lines : List (List ℕ)) → length lines ≤ length (flat_map line lines)
few_lines [] = omega arith
few_lines (text ∷ lines) = omega (arith, few_lines lines, length-append (line text) (flat_map line lines), length-append text (10 ∷ []))

pub place_within : (bytes : List ℕ) (rules : List RuleText) (rest : List ℕ) (l : ℕ) → RulesSoFar bytes rules rest l → l ≤ length bytes + 1
place_within bytes rules rest l h = omega (arith, h.place, few_lines h.lines, ap length h.spelled, length-append (flat_map line h.lines) rest)

pub rest_within : (bytes : List ℕ) (rules : List RuleText) (rest : List ℕ) (l : ℕ) → RulesSoFar bytes rules rest l → length rest ≤ length bytes
rest_within bytes rules rest l h = omega (arith, ap length h.spelled, length-append (flat_map line h.lines) rest)

-- the bytes behind the next line are the last ones
pub behind_within : (rest text behind bytes : List ℕ) → rest ≡ line text ++ behind → length rest ≤ length bytes → length behind ≤ length bytes
behind_within rest text behind bytes split within = omega (arith, ap length split, length-append (line text) behind)

pub behind_last : (bytes : List ℕ) (rules : List RuleText) (rest : List ℕ) (l : ℕ) (text behind : List ℕ) → RulesSoFar bytes rules rest l → rest ≡ line text ++ behind → drop (length bytes - length behind) bytes ≡ behind
behind_last bytes rules rest l text behind h split =
    let front : List ℕ = flat_map line h.lines ++ line text in
    let whole : bytes ≡ front ++ behind = h.spelled ∙ ap (λ r. flat_map line h.lines ++ r) split ∙ sym (append_assoc (flat_map line h.lines) (line text) behind) in
    let count : length bytes - length behind ≡ length front = omega (arith, ap length whole, length-append front behind) in
    (λ j. drop (count j) (whole j)) ∙ drop_at front behind (length front) refl

pub none_read : (bytes : List ℕ) → RulesSoFar bytes [] bytes 1
none_read bytes = record { lines = []; each = tt; spelled = refl; place = refl }

each_more : (lines : List (List ℕ)) (rules : List RuleText) (text : List ℕ) (rule : RuleText) → AllZip IsRuleLine lines rules → IsRuleLine text rule → AllZip IsRuleLine (lines ++ text ∷ []) (rules ++ rule ∷ [])
each_more [] [] text rule each is = (is, tt)
each_more [] (r ∷ rules) text rule each is = absurd each
each_more (t ∷ lines) [] text rule each is = absurd each
each_more (t ∷ lines) (r ∷ rules) text rule each is = (each.0, each_more lines rules text rule each.1 is)

pub one_more_rule : (bytes : List ℕ) (rules : List RuleText) (rest : List ℕ) (l : ℕ) (text behind : List ℕ) (rule : RuleText) → RulesSoFar bytes rules rest l → rest ≡ line text ++ behind → IsRuleLine text rule → RulesSoFar bytes (rules ++ rule ∷ []) behind (l + 1)
one_more_rule bytes rules rest l text behind rule h split is = record {
  lines = h.lines ++ text ∷ [];
  each = each_more h.lines rules text rule h.each is;
  spelled =
      let front : flat_map line (h.lines ++ text ∷ []) ≡ flat_map line h.lines ++ line text = flat_map-append line h.lines (text ∷ []) ∙ ap (λ t. flat_map line h.lines ++ t) (append-nil (line text)) in
      h.spelled ∙ ap (λ r. flat_map line h.lines ++ r) split ∙ sym (append_assoc (flat_map line h.lines) (line text) behind) ∙ ap (λ f. f ++ behind) (sym front);
  place = omega (arith, h.place, length-append h.lines (text ∷ []));
}

pub rules_end : (bytes : List ℕ) (rules : List RuleText) (rest : List ℕ) (l : ℕ) (text behind : List ℕ) → RulesSoFar bytes rules rest l → rest ≡ line text ++ behind → text ≡ codes "pages" → AreRules bytes rules behind
rules_end bytes rules rest l text behind h split is = record { lines = h.lines; each = h.each; spelled = h.spelled ∙ ap (λ r. flat_map line h.lines ++ r) (split ∙ ap (λ t. line t ++ behind) is) }

-- the next line is neither a rule nor `pages`
pub bad_line : (bytes : List ℕ) (rules : List RuleText) (rest : List ℕ) (l : ℕ) (text behind : List ℕ) → RulesSoFar bytes rules rest l → rest ≡ line text ++ behind → NoNewline text → (text ≡ codes "pages" → ⊥) → ((rule : RuleText) → ¬ IsRuleLine text rule) → IsFirstBadRule bytes l
bad_line bytes rules rest l text behind h split whole no_pages no_rule = record {
  rules = rules;
  lines = h.lines;
  rest = rest;
  each = h.each;
  spelled = h.spelled;
  no_pages = λ begins. no_pages (sym (first (codes "pages") begins));
  no_rule = λ other rule begins is. no_rule rule (subst (λ t. IsRuleLine t rule) (first other begins) is);
  place = h.place;
}
  where
    first : (other : List ℕ) → BeginsWithLine rest other → other ≡ text
    first other begins = (line_told other text begins.rest behind begins.whole whole (sym begins.split ∙ split)).0

-- no line is left
pub no_line : (bytes : List ℕ) (rules : List RuleText) (rest : List ℕ) (l : ℕ) → RulesSoFar bytes rules rest l → ((text : List ℕ) → ¬ BeginsWithLine rest text) → IsFirstBadRule bytes l
no_line bytes rules rest l h none = record {
  rules = rules;
  lines = h.lines;
  rest = rest;
  each = h.each;
  spelled = h.spelled;
  no_pages = none (codes "pages");
  no_rule = λ text rule begins is. none text begins;
  place = h.place;
}
