-- Rules are read in one way, and bytes have at most one first line that is no rule.
use Rattle.std.proofs.Common.{◌≡◌, ℕ, List, [], ◌∷◌, ◌++◌, length, refl, sym, subst, ◌∙◌, append_assoc, arith}
use Rattle.std.specs.Prelude.{codes, flat_map}
use Rattle.std.specs.List.{AllZip}
use Rattle.metrics_core.specs.Characters.{line}
use Rattle.prom_format.proofs.ReadOnce.{first_same}
use Rattle.rule_eval.specs.Rules.{RuleText, IsRuleLine, AreRules, BeginsWithLine, IsFirstBadRule}
use Rattle.rule_eval.proofs.WordBytes.{NoNewline, word_no_newline}
use Rattle.rule_eval.proofs.LinesTold.{line_told}
use Rattle.rule_eval.proofs.RuleForm.{one_rule, rule_no_newline}

abbrev pages : List ℕ
pages = codes "pages"

pages_whole : NoNewline pages
pages_whole = word_no_newline pages refl

-- `pages` is no rule
pages_no_rule : (text : List ℕ) (rule : RuleText) → text ≡ pages → ¬ IsRuleLine text rule
pages_no_rule text rule is h =
    let first = first_same 112 114 _ _ (sym is ∙ h.spelled) in
    omega (arith, first)

-- ---- lines at the front of the same bytes

-- what stands behind the first line
behind_first : (text other : List ℕ) (xs ys : List (List ℕ)) (r s : List ℕ) → NoNewline text → NoNewline other → flat_map line (text ∷ xs) ++ r ≡ flat_map line (other ∷ ys) ++ s → (text ≡ other) × (flat_map line xs ++ r ≡ flat_map line ys ++ s)
behind_first text other xs ys r s whole whole_other e =
    line_told text other (flat_map line xs ++ r) (flat_map line ys ++ s) whole whole_other (sym (append_assoc (line text) (flat_map line xs) r) ∙ e ∙ append_assoc (line other) (flat_map line ys) s)

begins : (bytes text : List ℕ) (rule : RuleText) (xs : List (List ℕ)) (r : List ℕ) → IsRuleLine text rule → bytes ≡ flat_map line (text ∷ xs) ++ r → BeginsWithLine bytes text
begins bytes text rule xs r is e = record { rest = flat_map line xs ++ r; split = e ∙ append_assoc (line text) (flat_map line xs) r; whole = rule_no_newline text rule is }

ends_begins : (bytes rest : List ℕ) → bytes ≡ line pages ++ rest → BeginsWithLine bytes pages
ends_begins bytes rest e = record { rest = rest; split = e; whole = pages_whole }

-- a rule line is not the line `pages`
rule_not_pages : (text : List ℕ) (rule : RuleText) (xs : List (List ℕ)) (r rest : List ℕ) → IsRuleLine text rule → flat_map line (text ∷ xs) ++ r ≡ line pages ++ rest → ⊥
rule_not_pages text rule xs r rest is e =
    pages_no_rule text rule (line_told text pages (flat_map line xs ++ r) rest (rule_no_newline text rule is) pages_whole (sym (append_assoc (line text) (flat_map line xs) r) ∙ e)).0 is

-- ---- rules

rules_told : (xs ys : List (List ℕ)) (rules others : List RuleText) (rest other_rest : List ℕ) → AllZip IsRuleLine xs rules → AllZip IsRuleLine ys others
    → flat_map line xs ++ (line pages ++ rest) ≡ flat_map line ys ++ (line pages ++ other_rest) → (rules ≡ others) × (rest ≡ other_rest)
rules_told [] [] [] [] rest other_rest hx hy e = (refl, (line_told pages pages rest other_rest pages_whole pages_whole e).1)
rules_told [] [] [] (q ∷ qs) rest other_rest hx hy e = absurd hy
rules_told [] [] (p ∷ ps) qs rest other_rest hx hy e = absurd hx
rules_told [] (y ∷ ys) rules [] rest other_rest hx hy e = absurd hy
rules_told [] (y ∷ ys) rules (q ∷ qs) rest other_rest hx hy e = absurd (rule_not_pages y q ys (line pages ++ other_rest) rest hy.0 (sym e))
rules_told (x ∷ xs) ys [] others rest other_rest hx hy e = absurd hx
rules_told (x ∷ xs) [] (p ∷ ps) others rest other_rest hx hy e = absurd (rule_not_pages x p xs (line pages ++ rest) other_rest hx.0 e)
rules_told (x ∷ xs) (y ∷ ys) (p ∷ ps) [] rest other_rest hx hy e = absurd hy
rules_told (x ∷ xs) (y ∷ ys) (p ∷ ps) (q ∷ qs) rest other_rest hx hy e =
    let first = behind_first x y xs ys (line pages ++ rest) (line pages ++ other_rest) (rule_no_newline x p hx.0) (rule_no_newline y q hy.0) e in
    let others_told = rules_told xs ys ps qs rest other_rest hx.1 hy.1 first.1 in
    let rule : p ≡ q = one_rule y p q (subst (λ t. IsRuleLine t p) first.0 hx.0) hy.0 in
    ((λ j. rule j ∷ others_told.0 j), others_told.1)

pub rules_same : (bytes rest other_rest : List ℕ) (rules others : List RuleText) → AreRules bytes rules rest → AreRules bytes others other_rest → (rules ≡ others) × (rest ≡ other_rest)
rules_same bytes rest other_rest rules others h k = rules_told h.lines k.lines rules others rest other_rest h.each k.each (sym h.spelled ∙ k.spelled)

-- ---- first bad lines

-- no rule begins here
abbrev NoRule : List ℕ → Type 0
NoRule rest = (text : List ℕ) (rule : RuleText) → BeginsWithLine rest text → ¬ IsRuleLine text rule

as_many : (xs ys : List (List ℕ)) (rules others : List RuleText) (r s : List ℕ) → AllZip IsRuleLine xs rules → AllZip IsRuleLine ys others → NoRule r → NoRule s → flat_map line xs ++ r ≡ flat_map line ys ++ s → length xs ≡ length ys
as_many [] [] rules others r s hx hy nx ny e = refl
as_many [] (y ∷ ys) rules [] r s hx hy nx ny e = absurd hy
as_many [] (y ∷ ys) rules (q ∷ qs) r s hx hy nx ny e = absurd (nx y q (begins r y q ys s hy.0 e) hy.0)
as_many (x ∷ xs) ys [] others r s hx hy nx ny e = absurd hx
as_many (x ∷ xs) [] (p ∷ ps) others r s hx hy nx ny e = absurd (ny x p (begins s x p xs r hx.0 (sym e)) hx.0)
as_many (x ∷ xs) (y ∷ ys) (p ∷ ps) [] r s hx hy nx ny e = absurd hy
as_many (x ∷ xs) (y ∷ ys) (p ∷ ps) (q ∷ qs) r s hx hy nx ny e =
    let first = behind_first x y xs ys r s (rule_no_newline x p hx.0) (rule_no_newline y q hy.0) e in
    let same = as_many xs ys ps qs r s hx.1 hy.1 nx ny first.1 in
    omega arith

pub bad_rules_same : (bytes : List ℕ) (k l : ℕ) → IsFirstBadRule bytes k → IsFirstBadRule bytes l → k ≡ l
bad_rules_same bytes k l h i =
    let same = as_many h.lines i.lines h.rules i.rules h.rest i.rest h.each i.each h.no_rule i.no_rule (sym h.spelled ∙ i.spelled) in
    omega (arith, h.place, i.place)

never_both : (xs ys : List (List ℕ)) (rules others : List RuleText) (r rest : List ℕ) → AllZip IsRuleLine xs rules → AllZip IsRuleLine ys others → NoRule r → ¬ BeginsWithLine r pages → flat_map line xs ++ r ≡ flat_map line ys ++ (line pages ++ rest) → ⊥
never_both [] [] rules others r rest hx hy nx np e = np (ends_begins r rest e)
never_both [] (y ∷ ys) rules [] r rest hx hy nx np e = absurd hy
never_both [] (y ∷ ys) rules (q ∷ qs) r rest hx hy nx np e = nx y q (begins r y q ys (line pages ++ rest) hy.0 e) hy.0
never_both (x ∷ xs) ys [] others r rest hx hy nx np e = absurd hx
never_both (x ∷ xs) [] (p ∷ ps) others r rest hx hy nx np e = rule_not_pages x p xs r rest hx.0 e
never_both (x ∷ xs) (y ∷ ys) (p ∷ ps) [] r rest hx hy nx np e = absurd hy
never_both (x ∷ xs) (y ∷ ys) (p ∷ ps) (q ∷ qs) r rest hx hy nx np e =
    let first = behind_first x y xs ys r (line pages ++ rest) (rule_no_newline x p hx.0) (rule_no_newline y q hy.0) e in
    never_both xs ys ps qs r rest hx.1 hy.1 nx np first.1

pub bad_rule_refuses : (bytes rest : List ℕ) (l : ℕ) (rules : List RuleText) → IsFirstBadRule bytes l → ¬ AreRules bytes rules rest
bad_rule_refuses bytes rest l rules h k = never_both h.lines k.lines h.rules rules h.rest rest h.each k.each h.no_rule h.no_pages (sym h.spelled ∙ k.spelled)
