-- Each call keeps the rule, whatever the object and whatever is shared.
use Rattle.std.proofs.Common.{◌≡◌, ℕ, true, List, [], ◌∷◌, ◌++◌, set, refl, sym, ◌∙◌, subst}
use mathlib.Core.Option.{some}
use lib.ListN.{get_elem?}
use Rattle.atomic_table.proofs.Lists.{set_again}
use Rattle.legal_history.specs.declared.history.Entry.{Entry}
use Rattle.legal_history.specs.declared.history.View.{View}
use Rattle.legal_history.specs.History.{calls, said, after, looked, first, nobody, lender, child, taker, Legal, Sees}
use Rattle.legal_history.proofs.Steps.{step, look, lend, take_back, begins, sees}
use Rattle.legal_history.proofs.Lists.{calls-append}
use Rattle.legal_history.specs.Object.{Runs, Keeps, Made, Told}

module _ {S C : Type 0} (Step : C → S → S → Type 0) (start : S) where
  -- one more call
  pub runs_more : (x y z : S) (cs : List C) (c : C) → Runs Step x cs y → Step c y z → Runs Step x (cs ++ c ∷ []) z
  runs_more x y z [] c e s = (z, subst (λ (w : S). Step c w z) (sym e) s, refl)
  runs_more x y z (d ∷ cs) c r s = (r.0, r.1, runs_more r.0 y z cs c r.2 s)

  pub turn : (x y : S) (views : List (View C)) (id : ℕ) (v : View C) (c : C) → v.live ≡ true → Step c x y → Keeps Step start x views → get_elem? views id ≡ some v
      → (w : View C) × Keeps Step start y (set views id w) × Made Step start c v w
  turn x y views id v c live s k at = (
    after v k.log (c ∷ []),
    record {
      log = k.log ++ said v.number (c ∷ []);
      runs = subst (λ cs. Runs Step start cs y) (sym (calls-append k.log (said v.number (c ∷ [])))) (runs_more start x y (calls k.log) c k.runs s);
      legal = step k.log views id v (c ∷ []) k.legal at live;
    },
    (k.log, x, y, sees k.log views id v k.legal at live, k.runs, s, refl),
  )

  pub tells : (x : S) (views : List (View C)) (id : ℕ) (v : View C) → v.live ≡ true → Keeps Step start x views → get_elem? views id ≡ some v → Told Step start v x
  tells x views id v live k at = (k.log, sees k.log views id v k.legal at live, k.runs)

  pub looks : (x : S) (views : List (View C)) (id : ℕ) (v : View C) → v.live ≡ true → Keeps Step start x views → get_elem? views id ≡ some v
      → (w : View C) × Keeps Step start x (set views id w) × ((log : List (Entry C)) × Sees v log × (w ≡ looked v log))
  looks x views id v live k at = (looked v k.log, record { log = k.log; runs = k.runs; legal = look k.log views id v k.legal at live }, (k.log, sees k.log views id v k.legal at live, refl))

  pub forks : (x : S) (views : List (View C)) (id : ℕ) (v : View C) → v.live ≡ true → v.number ≡ 0 → Keeps Step start x views → get_elem? views id ≡ some v → Keeps Step start x (set views id (lender v) ++ child v ∷ [])
  forks x views id v live root k at =
      let z : id ≡ 0 = sym (k.legal.each id v at live).number ∙ root in
      record {
        log = k.log;
        runs = k.runs;
        legal = subst (λ n. Legal k.log (set views n (lender v) ++ child v ∷ [])) (sym z) (lend k.log views v k.legal (subst (λ n. get_elem? views n ≡ some v) z at) live);
      }

  pub merges : (x : S) (views : List (View C)) (id : ℕ) (v : View C) (other : ℕ) (w : View C) → v.live ≡ true → v.number ≡ 0 → w.live ≡ true → Keeps Step start x views → get_elem? views id ≡ some v → ¬ (other ≡ id)
      → get_elem? (set views id (taker v w)) other ≡ some w → Keeps Step start x (set (set views id (taker v w)) other nobody)
  merges x views id v other w live root alive k at apart there =
      let z : id ≡ 0 = sym (k.legal.each id v at live).number ∙ root in
      record {
        log = k.log;
        runs = k.runs;
        legal = subst (λ n. Legal k.log (set (set views n (taker v w)) other nobody)) (sym z)
            (take_back k.log views v other w k.legal (subst (λ n. get_elem? views n ≡ some v) z at) live (λ q. apart (q ∙ sym z)) (subst (λ n. get_elem? (set views n (taker v w)) other ≡ some w) z there) alive);
      }

  pub opens : Keeps {C = C} Step start start (first ∷ [])
  opens = record { log = []; runs = refl; legal = begins }

  pub keeps_same : (x : S) (views : List (View C)) (id : ℕ) (v : View C) → Keeps Step start x views → get_elem? views id ≡ some v → Keeps Step start x (set views id v)
  keeps_same x views id v k at = record { log = k.log; runs = k.runs; legal = subst (Legal k.log) (sym (set_again views id v at)) k.legal }
