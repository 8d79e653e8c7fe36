-- Runs and firings of all rules, rule by rule and page by page.
use Rattle.std.proofs.Common.{◌≡◌, ℕ, zero, suc, ◌+◌, ◌<◌, All, List, [], ◌∷◌, ◌++◌, map, length, length-take, take, slice_get, ℤ, Option, Some, None, Bor, option_copied, refl, sym, ap, subst, append_assoc, append-nil, ◌∙◌, arith}
use Rattle.std.proofs.lemmas.Option.{slice_get_past, slice_get_read}
use Rattle.std.specs.Slice.{IsItemAt}
use Rattle.std.proofs.lemmas.List.{length-map, map-append}
use Rattle.std.proofs.lemmas.List.Elements.{All-head, All-tail}
use Rattle.std.specs.declared.snapshot.Snapshot.{Snapshot}
use Rattle.prom_format.specs.Pages.{Family}
use Rattle.page_relay.specs.Values.{families_of}
use Rattle.page_relay.specs.declared.pages.Page.{Page}
use Rattle.rule_eval.specs.Rules.{AsksForPages, RuleText}
use Rattle.rule_eval.specs.Firing.{Evaluation, FiringText, Group, firings, firings_from, rule_firings}
use Rattle.rule_eval.specs.Evaluating.{AllGoOn, GoOn, IsKept, Runs, entries_text, fired_from, fired_of, kept_run, pages_seen, run_in, runs_at, runs_text, sums_on}
use Rattle.rule_eval.proofs.Held.{fired_of-is, kept_after}

-- ---- rule by rule

-- what stands at a place of a list with one more item
pub slice_get-push : {X : Type 0} (xs : List X) (x : X) (n : ℕ) → n < length xs → slice_get (xs ++ x ∷ []) n ≡ slice_get xs n
slice_get-push [] x n below = absurd (omega arith)
slice_get-push (y ∷ xs) x zero below = refl
slice_get-push (y ∷ xs) x (suc n) below = slice_get-push xs x n (omega arith)

pub slice_get-last : {X : Type 0} (xs : List X) (x : X) (n : ℕ) → n ≡ length xs → slice_get (xs ++ x ∷ []) n ≡ Some x
slice_get-last [] x zero at = refl
slice_get-last [] x (suc n) at = absurd (omega arith)
slice_get-last (y ∷ xs) x zero at = absurd (omega arith)
slice_get-last (y ∷ xs) x (suc n) at = slice_get-last xs x n (omega arith)

data Place {X : Type 0} (xs : List X) (x : X) (n : ℕ) (found : X) : Type 0 where
  before : n < length xs → slice_get xs n ≡ Some found → Place xs x n found
  last : n ≡ length xs → x ≡ found → Place xs x n found

place_in : {X : Type 0} (xs : List X) (x : X) (n : ℕ) (found : X) → slice_get (xs ++ x ∷ []) n ≡ Some found → Place xs x n found
place_in [] x zero found at = last refl (cc)
place_in [] x (suc n) found at = absurd (cc)
place_in (y ∷ xs) x zero found at = before (omega arith) at
place_in (y ∷ xs) x (suc n) found at = later (place_in xs x n found at)
  where
    later : Place xs x n found → Place (y ∷ xs) x (suc n) found
    later (before below is) = before (omega arith) is
    later (last is same) = last (omega arith) same

module _ (before_runs : List Runs) (page : List Family) where
  -- the runs of one more rule
  pub all_go_on-push : (rules : List RuleText) (rule : RuleText) (runs : List Runs) (new : Runs) → length runs ≡ length rules
      → AllGoOn rules before_runs page runs
      → GoOn rule (runs_at before_runs (length rules)) (sums_on rule page) (entries_text new.entries)
      → AllGoOn (rules ++ rule ∷ []) before_runs page (runs ++ new ∷ [])
  all_go_on-push rules rule runs new long so_far here n found at = by (place_in rules rule n found at)
    where
      by : Place rules rule n found → GoOn found (runs_at before_runs n) (sums_on found page) (runs_at (runs ++ new ∷ []) n)
      by (before below is) =
          let same : runs_at (runs ++ new ∷ []) n ≡ runs_at runs n = ap runs_text (slice_get-push runs new n (omega arith)) in
          subst (GoOn found (runs_at before_runs n) (sums_on found page)) (sym same) (so_far n found is)
      by (last is same) =
          let there : runs_at (runs ++ new ∷ []) n ≡ entries_text new.entries = ap runs_text (slice_get-last runs new n (is ∙ sym long)) in
          subst (λ r. GoOn r (runs_at before_runs n) (sums_on r page) (runs_at (runs ++ new ∷ []) n)) same
          (subst (GoOn rule (runs_at before_runs n) (sums_on rule page)) (sym there)
          (subst (λ m. GoOn rule (runs_at before_runs m) (sums_on rule page) (entries_text new.entries)) (sym is) here))

  -- what fires of one more rule
  pub fired_from-push : (n : ℕ) (rules : List RuleText) (rule : RuleText)
      → fired_from n (rules ++ rule ∷ []) before_runs page
      ≡ fired_from n rules before_runs page ++ fired_of (n + length rules) rule (runs_at before_runs (n + length rules)) (sums_on rule page)
  fired_from-push n [] rule =
      let here : n ≡ n + 0 = omega arith in
      append-nil (fired_of n rule (runs_at before_runs n) (sums_on rule page))
      ∙ ap (λ m. fired_of m rule (runs_at before_runs m) (sums_on rule page)) here
  fired_from-push n (first ∷ rules) rule =
      let further : suc n + length rules ≡ n + length (first ∷ rules) = omega arith in
      let own = fired_of n first (runs_at before_runs n) (sums_on first page) in
      ap (λ l. own ++ l) (fired_from-push (suc n) rules rule ∙ ap (λ m. fired_from (suc n) rules before_runs page ++ fired_of m rule (runs_at before_runs m) (sums_on rule page)) further)
      ∙ sym (append_assoc own (fired_from (suc n) rules before_runs page) (fired_of (n + length (first ∷ rules)) rule (runs_at before_runs (n + length (first ∷ rules))) (sums_on rule page)))

module _ (before_runs : List Runs) (page : List Family) (rules : List RuleText) (rule : RuleText) (n : ℕ) (kept : Option Runs) (sums : List (Group × ℤ))
    (at : n ≡ length rules) (kept_is : kept ≡ slice_get before_runs n) (sums_are : sums ≡ sums_on rule page) where
  pub all_go_on_next : (runs : List Runs) (new : Runs) → length runs ≡ n → AllGoOn rules before_runs page runs
      → GoOn rule (runs_text kept) sums (entries_text new.entries)
      → AllGoOn (rules ++ rule ∷ []) before_runs page (runs ++ new ∷ [])
  all_go_on_next runs new long so_far here =
      let there : GoOn rule (runs_at before_runs n) (sums_on rule page) (entries_text new.entries) =
      subst (λ s. GoOn rule (runs_at before_runs n) s (entries_text new.entries)) sums_are
      (subst (λ k. GoOn rule (runs_text k) sums (entries_text new.entries)) kept_is here) in
      all_go_on-push before_runs page rules rule runs new (long ∙ at) so_far
      (subst (λ m. GoOn rule (runs_at before_runs m) (sums_on rule page) (entries_text new.entries)) at there)

  pub fired_next : (old new : List FiringText) → old ≡ fired_from 0 rules before_runs page
      → new ≡ old ++ fired_of n rule (runs_text kept) sums
      → new ≡ fired_from 0 (rules ++ rule ∷ []) before_runs page
  fired_next old new so_far put =
      let from_first : n ≡ 0 + length rules = omega arith in
      put
      ∙ (λ j. so_far j ++ fired_of n rule (runs_text (kept_is j)) (sums_are j))
      ∙ ap (λ m. fired_from 0 rules before_runs page ++ fired_of m rule (runs_at before_runs m) (sums_on rule page)) from_first
      ∙ sym (fired_from-push before_runs page 0 rules rule)

-- what `get` of a slice answers
pub got : {X : Type 0} (xs : List X) (i : ℕ) (r : Option (Bor X)) → IsItemAt xs i r → option_copied r ≡ slice_get xs i
got xs i None found = sym (slice_get_past xs i found.3)
got xs i (Some x) found = sym (slice_get_read xs (length xs) i x.now refl found.3.0 found.1)

-- how many items a loop took
pub length_so_far : {X Y : Type 0} (f : X → Y) (xs : List X) (i : ℕ) → i < length xs → i ≡ length (map f (take i xs))
length_so_far f xs i below =
    let taken : length (take i xs) ≡ i = omega (arith, length-take i xs) in
    sym (length-map (take i xs) f ∙ taken)

-- ---- page by page

module _ (pages : List (List Family)) (page : List Family) (runs : List Runs) where
  fired_from-is : (n : ℕ) (rules : List RuleText) → All AsksForPages rules
      → ((m : ℕ) (rule : RuleText) → slice_get rules m ≡ Some rule → (group : Group) → run_in (runs_at runs (n + m)) group ≡ kept_run rule pages group)
      → fired_from n rules runs page ≡ firings_from n rules pages page
  fired_from-is n [] asks kept = refl
  fired_from-is n (rule ∷ rules) asks kept =
      let here : n + 0 ≡ n = omega arith in
      let own = λ (group : Group). subst (λ m. run_in (runs_at runs m) group ≡ kept_run rule pages group) here (kept 0 rule refl group) in
      let rest = λ (m : ℕ) (r : RuleText) (at : slice_get rules m ≡ Some r) (group : Group).
      let further : n + suc m ≡ suc n + m = omega arith in
      subst (λ k. run_in (runs_at runs k) group ≡ kept_run r pages group) further (kept (suc m) r at group) in
      ap (λ l. l ++ fired_from (suc n) rules runs page) (fired_of-is rule page pages (runs_at runs n) own (All-head AsksForPages rule rules asks).0 n)
      ∙ ap (λ l. rule_firings n rule pages page ++ l) (fired_from-is (suc n) rules (All-tail AsksForPages rule rules asks) rest)

  -- what fires on the page
  pub fired_is : (rules : List RuleText) → IsKept rules pages runs → fired_from 0 rules runs page ≡ firings rules pages page
  fired_is rules kept = fired_from-is 0 rules kept.asks from_first
    where
      from_first : (m : ℕ) (rule : RuleText) → slice_get rules m ≡ Some rule → (group : Group) → run_in (runs_at runs (0 + m)) group ≡ kept_run rule pages group
      from_first m rule at group =
          let here : m ≡ 0 + m = omega arith in
          subst (λ k. run_in (runs_at runs k) group ≡ kept_run rule pages group) here (kept.runs_are m rule at group)

  -- what is kept behind the page
  pub kept_next : (rules : List RuleText) (runs' : List Runs) → IsKept rules pages runs → AllGoOn rules runs page runs'
      → IsKept rules (pages ++ page ∷ []) runs'
  kept_next rules runs' kept go_on = record {
    asks = kept.asks;
    few = kept.few;
    runs_are = λ n rule at group. kept_after rule page pages (runs_at runs n) (kept.runs_are n rule at) (runs_at runs' n) (go_on n rule at) group;
  }

pub pages_seen-push : (seen seen' : List (Snapshot Page)) (one : Snapshot Page) (page : Page) → seen' ≡ seen ++ one ∷ [] → one.value ≡ page
    → pages_seen seen' ≡ pages_seen seen ++ families_of page ∷ []
pages_seen-push seen seen' one page pushed is =
    ap pages_seen pushed
    ∙ map-append (λ (p : Snapshot Page). families_of p.value) seen (one ∷ [])
    ∙ ap (λ p. pages_seen seen ++ families_of p ∷ []) is

abbrev pub evaluation : List RuleText → List (List Family) → Evaluation
evaluation rules pages = record { rules = rules; pages = pages }
