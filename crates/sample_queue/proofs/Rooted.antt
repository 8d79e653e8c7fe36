-- Each step of a queue keeps its history legal, in which only the root takes entries out.
use Rattle.std.proofs.Common.{◌≡◌, ℕ, true, List, [], ◌∷◌, ◌++◌, set, refl, sym, ◌∙◌, subst}
use mathlib.Core.Option.{some}
use lib.ListN.{get_elem?}
use Rattle.legal_history.specs.declared.history.Entry.{Entry as EntryOf}
use Rattle.legal_history.specs.declared.history.View.{View}
use Rattle.legal_history.specs.History.{calls, said, after, first, nobody, lender, child, taker, Legal}
use Rattle.legal_history.specs.Object.{Runs, Made}
use Rattle.legal_history.proofs.Steps.{step, lend, take_back, begins, sees}
use Rattle.legal_history.proofs.Lists.{calls-append}
use Rattle.legal_history.proofs.Objects.{runs_more}
use Rattle.sample_queue.specs.declared.calls.QueueCall.{QueueCall}
use Rattle.sample_queue.specs.Queues.{Entries, QueueStep, PushOrOwn, OthersPush, KeepsRooted, Finds}

module _ {T : Type 0} where
  others-append : (own : ℕ) (xs ys : List (EntryOf (QueueCall T))) → OthersPush own xs → OthersPush own ys → OthersPush own (xs ++ ys)
  others-append own [] ys here then = then
  others-append own (x ∷ xs) ys here then = (here.0, others-append own xs ys here.1 then)

  -- a call of a pass that may make it
  pub turns : (x y : Entries T) (views : List (View (QueueCall T))) (id : ℕ) (v : View (QueueCall T)) (c : QueueCall T) → v.live ≡ true → PushOrOwn 0 v.number c → QueueStep c x y → KeepsRooted x views
      → get_elem? views id ≡ some v → (w : View (QueueCall T)) × KeepsRooted y (set views id w) × Made QueueStep [] c v w
  turns x y views id v c live may s rooted at =
      let k = rooted.0 in (
        after v k.log (c ∷ []),
        (
          record {
            log = k.log ++ said v.number (c ∷ []);
            runs = subst (λ cs. Runs QueueStep [] cs y) (sym (calls-append k.log (said v.number (c ∷ [])))) (runs_more QueueStep [] [] x y (calls k.log) c k.runs s);
            legal = step k.log views id v (c ∷ []) k.legal at live;
          },
          others-append 0 k.log (said v.number (c ∷ [])) rooted.1 (may, tt),
        ),
        (k.log, x, y, sees k.log views id v k.legal at live, k.runs, s, refl),
      )

  -- the root finds what the queue holds
  pub finds : (items : Entries T) (views : List (View (QueueCall T))) (id : ℕ) (v : View (QueueCall T)) → v.live ≡ true → v.number ≡ 0 → KeepsRooted items views → get_elem? views id ≡ some v → Finds v items
  finds items views id v live root rooted at =
      let k = rooted.0 in
      (k.log, sees k.log views id v k.legal at live, k.runs, subst (λ n. OthersPush n k.log) (sym root) rooted.1)

  pub forks : (items : Entries T) (views : List (View (QueueCall T))) (id : ℕ) (v : View (QueueCall T)) → v.live ≡ true → v.number ≡ 0 → KeepsRooted items views → get_elem? views id ≡ some v
      → KeepsRooted items (set views id (lender v) ++ child v ∷ [])
  forks items views id v live root rooted at =
      let k = rooted.0 in
      let z : id ≡ 0 = sym (k.legal.each id v at live).number ∙ root in (
        record {
          log = k.log;
          runs = k.runs;
          legal = subst (λ n. Legal k.log (set views n (lender v) ++ child v ∷ [])) (sym z) (lend k.log views v k.legal (subst (λ n. get_elem? views n ≡ some v) z at) live);
        },
        rooted.1,
      )

  pub merges : (items : Entries T) (views : List (View (QueueCall T))) (id : ℕ) (v : View (QueueCall T)) (other : ℕ) (w : View (QueueCall T)) → v.live ≡ true → v.number ≡ 0 → w.live ≡ true → KeepsRooted items views
      → get_elem? views id ≡ some v → ¬ (other ≡ id) → get_elem? (set views id (taker v w)) other ≡ some w → KeepsRooted items (set (set views id (taker v w)) other nobody)
  merges items views id v other w live root alive rooted at apart there =
      let k = rooted.0 in
      let z : id ≡ 0 = sym (k.legal.each id v at live).number ∙ root in (
        record {
          log = k.log;
          runs = k.runs;
          legal = subst (λ n. Legal k.log (set (set views n (taker v w)) other nobody)) (sym z)
              (take_back k.log views v other w k.legal (subst (λ n. get_elem? views n ≡ some v) z at) live (λ q. apart (q ∙ sym z)) (subst (λ n. get_elem? (set views n (taker v w)) other ≡ some w) z there) alive);
        },
        rooted.1,
      )

  pub opens : KeepsRooted {T = T} [] (first ∷ [])
  opens = (record { log = []; runs = refl; legal = begins }, tt)
