use Rattle.std.proofs.Common.{◌≡◌, ◌≢◌, List, ℕ, [], ◌∷◌, ◌++◌, sym, ap, ◌∙◌, subst, append_assoc, string_bytes, arith}
use Rattle.std.specs.Prelude.{MatchOption, codes}
use Rattle.std.proofs.lemmas.Str.Pattern.{strip_suffix_char}
use Rattle.prom_format.specs.PrintedRows.{opened}
use Rattle.prom_format.proofs.PrintedRows.{opened-closed, set-ends}
use Rattle.prom_format.proofs.rows.push_opened.Goals as goal

pub returns-in_ok-push_str-in-Some-2-clause-ok : goal.returns-in_ok-push_str-in-Some-2-clause-ok
returns-in_ok-push_str-in-Some-2-clause-ok c =
    let text = c.args.labels.now in
    let found = strip_suffix_char 125 text c.strip_suffix.result c.strip_suffix.ensures.cases (omega arith) in
    let closed : text ≡ c.in-Some.front.now ++ 125 ∷ [] = subst (λ r. MatchOption r ((front : List ℕ) → text ≢ front ++ 125 ∷ []) (λ x. text ≡ x.now ++ 125 ∷ [])) c.in-Some.is found in
    c.in_ok-push_str-in-Some-2.ensures.bytes
    ∙ ap (λ bytes. bytes ++ codes ",") c.in_ok-push_str-in-Some.ensures.bytes
    ∙ append_assoc (string_bytes c.args.buffer.now) c.in-Some.front.now (codes ",")
    ∙ ap (λ rest. string_bytes c.args.buffer.now ++ rest) (sym (ap opened closed ∙ opened-closed c.in-Some.front.now 125))

pub returns-in_ok-push_str-in-None-clause-ok : goal.returns-in_ok-push_str-in-None-clause-ok
returns-in_ok-push_str-in-None-clause-ok c =
    let text = c.args.labels.now in
    let found = strip_suffix_char 125 text c.strip_suffix.result c.strip_suffix.ensures.cases (omega arith) in
    let open_not : (front : List ℕ) → text ≢ front ++ 125 ∷ [] = subst (λ r. MatchOption r ((front : List ℕ) → text ≢ front ++ 125 ∷ []) (λ x. text ≡ x.now ++ 125 ∷ [])) c.in-None.is found in
    c.in_ok-push_str-in-None.ensures.bytes
    ∙ ap (λ rest. string_bytes c.args.buffer.now ++ rest) (sym (ap opened (set-ends c.requires.0 text c.requires.1 open_not)))
