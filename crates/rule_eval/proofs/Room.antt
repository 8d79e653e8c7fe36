-- How many rules and lines some bytes have at most.
use Rattle.std.proofs.Common.{◌≡◌, ℕ, ◌+◌, ◌≤◌, Bool, true, false, List, [], ◌∷◌, ◌++◌, length, refl, ap, arith}
use Rattle.std.specs.Prelude.{All, codes, flat_map, nat_eq}
use Rattle.std.specs.List.{AllZip}
use Rattle.std.proofs.lemmas.List.{length-append}
use Rattle.std.proofs.lemmas.List.Elements.{All-nil, All-cons}
use Rattle.metrics_core.specs.Characters.{line, newline}
use Rattle.page_relay.specs.Streams.{ended_lines, in_front}
use Rattle.page_relay.specs.Values.{IsReadingFault}
use Rattle.page_relay.specs.declared.faults.RelayFault.{RelayFault}
use Rattle.page_relay.specs.declared.faults.RelayFault.TheVariants as relay
use Rattle.rule_eval.specs.Rules.{AreRules, AsksForPages, IsRuleLine, RuleText}
use Rattle.rule_eval.specs.Streams.{place_of}

front_length : (c : ℕ) (lines : List (List ℕ)) → length (in_front c lines) ≡ length lines
front_length c [] = refl
front_length c (first ∷ lines) = refl

ended_step : (t : Bool) (c : ℕ) (bytes : List ℕ) → nat_eq c newline ≡ t → length (ended_lines bytes) ≤ length bytes → length (ended_lines (c ∷ bytes)) ≤ length (c ∷ bytes)
ended_step true c bytes e within = rw e (omega (arith, within))
ended_step false c bytes e within = rw e (omega (arith, within, front_length c (ended_lines bytes)))

ended_within : (bytes : List ℕ) → length (ended_lines bytes) ≤ length bytes
ended_within [] = omega arith
ended_within (c ∷ bytes) = ended_step (nat_eq c newline) c bytes refl (ended_within bytes)

-- the line of a fault of reading is one of the bytes, or the one behind the last
pub place_within : (bytes : List ℕ) (fault : RelayFault) → IsReadingFault bytes fault → place_of fault ≤ length bytes + 1
place_within bytes (relay.Syntax l) h = omega (arith, h.is_line.1, ended_within bytes)
place_within bytes (relay.Conflict page name) h = absurd h
place_within bytes relay.WriteFault h = absurd h
place_within bytes relay.Memory h = omega arith

each_asks : (lines : List (List ℕ)) (rules : List RuleText) → AllZip IsRuleLine lines rules → All AsksForPages rules
each_asks [] [] h = All-nil AsksForPages
each_asks [] (rule ∷ rules) h = absurd h
each_asks (text ∷ lines) [] h = absurd h
each_asks (text ∷ lines) (rule ∷ rules) (is, others) = All-cons AsksForPages rule rules is.pages (each_asks lines rules others)

-- each rule that was read asks for 1 to 1000 pages
pub rules_ask : (bytes rest : List ℕ) (rules : List RuleText) → AreRules bytes rules rest → All AsksForPages rules
rules_ask bytes rest rules are = each_asks are.lines rules are.each

each_long : (lines : List (List ℕ)) (rules : List RuleText) → AllZip IsRuleLine lines rules → length rules ≤ length (flat_map line lines)
each_long [] [] h = omega arith
each_long [] (rule ∷ rules) h = absurd h
each_long (text ∷ lines) [] h = omega arith
each_long (text ∷ lines) (rule ∷ rules) (is, others) =
    omega (arith, each_long lines rules others, length-append (line text) (flat_map line lines), length-append text (newline ∷ []))

-- there are no more rules than bytes
pub rules_within : (bytes rest : List ℕ) (rules : List RuleText) → AreRules bytes rules rest → length rules ≤ length bytes
rules_within bytes rest rules are =
    omega (arith, each_long are.lines rules are.each, ap length are.spelled, length-append (flat_map line are.lines) (line (codes "pages") ++ rest))
