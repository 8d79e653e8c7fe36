-- What stands in a queue after calls.
use Rattle.std.proofs.Common.{◌≡◌, ℕ, ◌==◌, Bool, true, false, List, [], ◌∷◌, ◌++◌, drop, refl, sym, ap, ◌∙◌, append_assoc}
use Rattle.std.proofs.lemmas.List.{append-nil}
use Rattle.std.proofs.lemmas.Bool.{eq-eqb}
use Rattle.legal_history.specs.declared.history.Entry.{Entry as EntryOf}
use Rattle.legal_history.specs.History.{calls, calls_by, keep}
use Rattle.legal_history.specs.Object.{Runs}
use Rattle.legal_history.proofs.Orders.{not_kept}
use Rattle.sample_queue.specs.declared.calls.QueueCall.TheVariants.{Push, Pop}
use Rattle.sample_queue.specs.Queues.{Calls, Entries, QueueStep, PushOrOwn, OthersPush, pushed, popped}
use Rattle.histogram_series.specs.Entries.{TimedCall, TimedEntry, held_after, samples_of_entry}
use Rattle.histogram_series.specs.Growth.{PushesStandBehind, CallsTellSamples}
use Rattle.legal_history.proofs.Lists.{calls-append}

module _ {T : Type 0} where
  -- it is what a queue of one thread holds
  pub held-runs : (es : Entries T) (cs : Calls T) (fs : Entries T) → Runs QueueStep es cs fs → held_after es cs ≡ fs
  held-runs es [] fs run = run
  held-runs es (Push e ∷ cs) fs run = ap (λ q. held_after q cs) (sym run.1) ∙ held-runs run.0 cs fs run.2
  held-runs es (Pop e ∷ cs) fs run = ap (λ q. held_after (drop 1 q) cs) run.1 ∙ held-runs run.0 cs fs run.2

  pub held-append : (es : Entries T) (cs ds : Calls T) → held_after es (cs ++ ds) ≡ held_after (held_after es cs) ds
  held-append es [] ds = refl
  held-append es (Push e ∷ cs) ds = held-append (es ++ e ∷ []) cs ds
  held-append es (Pop e ∷ cs) ds = held-append (drop 1 es) cs ds

  pub popped-append : (cs ds : Calls T) → popped (cs ++ ds) ≡ popped cs ++ popped ds
  popped-append [] ds = refl
  popped-append (Push e ∷ cs) ds = popped-append cs ds
  popped-append (Pop e ∷ cs) ds = ap (λ es. e ∷ es) (popped-append cs ds)

  pub pushed-append : (cs ds : Calls T) → pushed (cs ++ ds) ≡ pushed cs ++ pushed ds
  pushed-append [] ds = refl
  pushed-append (Push e ∷ cs) ds = ap (λ es. e ∷ es) (pushed-append cs ds)
  pushed-append (Pop e ∷ cs) ds = pushed-append cs ds

  -- of calls without one of this pass the rest has none either
  none_behind : (b : Bool) (c : T) (cs : List T) → keep b c cs ≡ [] → cs ≡ []
  none_behind true c cs none = cc
  none_behind false c cs none = none

-- a push of another pass stands behind
held-one : (own by : ℕ) (call : TimedCall) (es : List TimedEntry) (more : List (EntryOf TimedCall)) → keep (by == own) call (calls_by own more) ≡ [] → PushOrOwn own by call
    → ((fs : List TimedEntry) → calls_by own more ≡ [] → held_after fs (calls more) ≡ fs ++ pushed (calls more))
    → held_after es (call ∷ calls more) ≡ es ++ pushed (call ∷ calls more)
held-one own by (Push e) es more none other rest =
    rest (es ++ e ∷ []) (none_behind (by == own) (Push e) (calls_by own more) none) ∙ append_assoc es (e ∷ []) (pushed (calls more))
held-one own by (Pop e) es more none other rest =
    absurd (not_kept (by == own) (Pop e) (calls_by own more) (eq-eqb by own other) none)

-- where a pass made none of the calls, and the others made pushes alone, what they pushed stands behind
pub held-pushes : (own : ℕ) (es : List TimedEntry) (more : List (EntryOf TimedCall)) → calls_by own more ≡ [] → OthersPush own more
    → held_after es (calls more) ≡ es ++ pushed (calls more)
held-pushes own es [] none others = sym (append-nil es)
held-pushes own es (x ∷ more) none others =
    held-one own x.by x.call es more none others.0 (λ fs none_more. held-pushes own fs more none_more others.1)

pub others-parts : (own : ℕ) (xs ys : List (EntryOf TimedCall)) → OthersPush own (xs ++ ys) → OthersPush own xs × OthersPush own ys
others-parts own [] ys others = (tt, others)
others-parts own (x ∷ xs) ys others = let rest = others-parts own xs ys others.1 in ((others.0, rest.0), rest.1)

pub pushes_behind : PushesStandBehind
pushes_behind v w more mine seen none others =
    (λ i. popped (mine i) ++ held_after [] (calls (seen i)))
    ∙ ap (λ es. popped v.mine ++ es)
    (ap (held_after []) (calls-append v.seen more) ∙ held-append [] (calls v.seen) (calls more) ∙ held-pushes v.number (held_after [] (calls v.seen)) more none others)
    ∙ sym (append_assoc (popped v.mine) (held_after [] (calls v.seen)) (pushed (calls more)))

pub calls_tell : CallsTellSamples
calls_tell [] = refl
calls_tell (e ∷ es) = ap (λ samples. samples_of_entry e ++ samples) (calls_tell es)
