-- What is written and counted of some pages, and of one more.
use Rattle.std.proofs.Common.{◌≡◌, ℕ, suc, ◌+◌, ◌<◌, ◌≤◌, List, [], ◌∷◌, ◌++◌, length, map, get_or, refl, sym, ap, ◌∙◌, append_assoc, arith}
use Rattle.std.specs.Prelude.{All, flat_map, filter, ℤ, codes, decimal}
use Rattle.std.proofs.lemmas.List.{append-nil, length-append}
use Rattle.std.proofs.lemmas.List.Elements.{All-nil, All-cons, All-head, All-tail, All-append}
use Rattle.std.proofs.lemmas.Option.{slice_get-get_or}
use Rattle.metrics_core.specs.Characters.{line, newline}
use Rattle.metrics_core.specs.Numbers.{page_number}
use Rattle.prom_format.specs.Pages.{Family, labels_text}
use Rattle.drive_script.specs.Words.{quoted}
use Rattle.rule_eval.specs.Firing.{FiringText, Group, fires, firings, firings_from, firings_on, groups_on, rule_firings, value_on}
use Rattle.rule_eval.specs.FiringText.{count_fired, evaluated_text, firing_line, labels_of, line_of, lines_from}
use Rattle.rule_eval.specs.Rules.{RuleText}

on_push : (rules : List RuleText) (before pages : List (List Family)) (page : List Family) → firings_on rules before (pages ++ page ∷ []) ≡ firings_on rules before pages ++ firings rules (before ++ pages) page ∷ []
on_push rules before [] page = ap (λ b. firings rules b page ∷ []) (sym (append-nil before))
on_push rules before (first ∷ pages) page =
    ap (λ l. firings rules before first ∷ l) (on_push rules (before ++ first ∷ []) pages page
    ∙ ap (λ b. firings_on rules (before ++ first ∷ []) pages ++ firings rules b page ∷ []) (append_assoc before (first ∷ []) pages))

on_length : (rules : List RuleText) (before pages : List (List Family)) → length (firings_on rules before pages) ≡ length pages
on_length rules before [] = refl
on_length rules before (page ∷ pages) = ap suc (on_length rules (before ++ page ∷ []) pages)

from_push : (rules : List RuleText) (n : ℕ) (fired : List (List FiringText)) (last : List FiringText) → lines_from rules n (fired ++ last ∷ []) ≡ lines_from rules n fired ++ flat_map (line_of rules (n + length fired)) last
from_push rules n [] last = append-nil (flat_map (line_of rules n) last) ∙ ap (λ k. flat_map (line_of rules k) last) (omega arith)
from_push rules n (first ∷ fired) last =
    ap (λ l. flat_map (line_of rules n) first ++ l) (from_push rules (suc n) fired last ∙ ap (λ k. lines_from rules (suc n) fired ++ flat_map (line_of rules k) last) (omega arith))
    ∙ sym (append_assoc (flat_map (line_of rules n) first) (lines_from rules (suc n) fired) (flat_map (line_of rules (n + length (first ∷ fired))) last))

-- the text of one more page
pub text_push : (rules : List RuleText) (pages : List (List Family)) (page : List Family) (n : ℕ) → n ≡ length pages + 1
    → evaluated_text rules (pages ++ page ∷ []) ≡ evaluated_text rules pages ++ flat_map (line_of rules n) (firings rules pages page)
text_push rules pages page n is =
    let last = firings rules pages page in
    let place : 1 + length (firings_on rules [] pages) ≡ n = omega (arith, is, on_length rules [] pages) in
    ap (lines_from rules 1) (on_push rules [] pages page) ∙ from_push rules 1 (firings_on rules [] pages) last
    ∙ ap (λ k. evaluated_text rules pages ++ flat_map (line_of rules k) last) place

joined_push : (fired : List (List FiringText)) (last : List FiringText) → length (flat_map (λ l. l) (fired ++ last ∷ [])) ≡ length (flat_map (λ l. l) fired) + length last
joined_push [] last = ap length (append-nil last) ∙ omega arith
joined_push (first ∷ fired) last =
    length-append first (flat_map (λ l. l) (fired ++ last ∷ [])) ∙ ap (λ k. length first + k) (joined_push fired last)
    ∙ omega (arith, length-append first (flat_map (λ l. l) fired))

-- how many lines they are
pub count_push : (rules : List RuleText) (pages : List (List Family)) (page : List Family) → count_fired rules (pages ++ page ∷ []) ≡ count_fired rules pages + length (firings rules pages page)
count_push rules pages page = ap (λ l. length (flat_map (λ x. x) l)) (on_push rules [] pages page) ∙ joined_push (firings_on rules [] pages) (firings rules pages page)

-- ---- each line has a byte at least

abbrev OfRules : ℕ → FiringText → Type 0
OfRules most firing = firing.rule < most

of_rule : (n most : ℕ) (rule : RuleText) (page : List Family) (groups : List Group) → n < most
    → All (OfRules most) (map (λ group. record { rule = n; group = group; value = value_on rule page group }) groups)
of_rule n most rule page [] h = All-nil (OfRules most)
of_rule n most rule page (group ∷ groups) h = All-cons (OfRules most) (record { rule = n; group = group; value = value_on rule page group }) (map (λ g. record { rule = n; group = g; value = value_on rule page g }) groups) h (of_rule n most rule page groups h)

of_rules : (n most : ℕ) (rules : List RuleText) (before : List (List Family)) (page : List Family) → n + length rules ≡ most → All (OfRules most) (firings_from n rules before page)
of_rules n most [] before page is = All-nil (OfRules most)
of_rules n most (rule ∷ rules) before page is =
    All-append (OfRules most) (rule_firings n rule before page) (firings_from (suc n) rules before page)
    (of_rule n most rule page (filter (fires rule (before ++ page ∷ [])) (groups_on rule page)) (omega (arith, is)))
    (of_rules (suc n) most rules before page (omega (arith, is)))

-- a line has its newline
ended : (text : List ℕ) → 0 < length (line text)
ended text = omega (arith, length-append text (newline ∷ []))

some_bytes : (page : ℕ) (rule : RuleText) (group : Group) (value : ℤ) → 0 < length (firing_line page rule group value)
some_bytes page rule group value =
    ended (decimal page ++ codes " " ++ quoted rule.title ++ codes " {" ++ labels_text (labels_of rule.keys group) ++ codes "} " ++ page_number value)

line_some : (rules : List RuleText) (page : ℕ) (firing : FiringText) → firing.rule < length rules → 0 < length (line_of rules page firing)
line_some [] page firing h = absurd (omega (arith, h))
line_some (rule ∷ rules) page firing h =
    let found = slice_get-get_or (rule ∷ rules) firing.rule rule h in
    rw found (some_bytes page (get_or (rule ∷ rules) firing.rule rule) firing.group firing.value)

long : (rules : List RuleText) (page : ℕ) (fired : List FiringText) → All (OfRules (length rules)) fired → length fired ≤ length (flat_map (line_of rules page) fired)
long rules page [] h = omega arith
long rules page (firing ∷ fired) h =
    omega (arith, line_some rules page firing (All-head (OfRules (length rules)) firing fired h), long rules page fired (All-tail (OfRules (length rules)) firing fired h), length-append (line_of rules page firing) (flat_map (line_of rules page) fired))

pub lines_long : (rules : List RuleText) (n : ℕ) (before : List (List Family)) (page : List Family) → length (firings rules before page) ≤ length (flat_map (line_of rules n) (firings rules before page))
lines_long rules n before page = long rules n (firings rules before page) (of_rules 0 (length rules) rules before page (omega arith))
