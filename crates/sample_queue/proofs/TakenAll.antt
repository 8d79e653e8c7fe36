-- A pass that found the queue empty has taken out all that it has seen pushed.
use Rattle.std.proofs.Common.{◌≡◌, ◌==◌, ℕ, Bool, true, false, List, [], ◌∷◌, ◌++◌, refl, sym, ap, ◌∙◌, subst, append_assoc, eq-eqb}
use Rattle.std.proofs.lemmas.List.{append-nil}
use Rattle.legal_history.specs.declared.history.Entry.{Entry as EntryOf}
use Rattle.legal_history.specs.declared.history.View.{View}
use Rattle.legal_history.specs.History.{calls, calls_by, keep}
use Rattle.legal_history.specs.Object.{Runs}
use Rattle.legal_history.proofs.Lists.{calls-append, no_more}
use Rattle.sample_queue.specs.declared.calls.QueueCall.{QueueCall}
use Rattle.sample_queue.specs.declared.calls.QueueCall.TheVariants.{Push, Pop}
use Rattle.sample_queue.specs.Queues.{Calls, Entries, QueueStep, PushOrOwn, OthersPush, Holds, FoundEmpty, HasTakenAll, pushed, popped}
use Rattle.sample_queue.proofs.InOrder.{in_order}

module _ {T : Type 0} where
  pushed-append : (cs ds : Calls T) → pushed (cs ++ ds) ≡ pushed cs ++ pushed ds
  pushed-append [] ds = refl
  pushed-append (Push e ∷ cs) ds = ap (λ l. e ∷ l) (pushed-append cs ds)
  pushed-append (Pop e ∷ cs) ds = pushed-append cs ds

  others-front : (own : ℕ) (xs ys : List (EntryOf (QueueCall T))) → OthersPush own (xs ++ ys) → OthersPush own xs
  others-front own [] ys others = tt
  others-front own (x ∷ xs) ys others = (others.0, others-front own xs ys others.1)

  -- a run has a middle
  run_front : (x : Entries T) (cs ds : Calls T) (y : Entries T) → Runs QueueStep x (cs ++ ds) y → (m : Entries T) × Runs QueueStep x cs m
  run_front x [] ds y r = (x, refl)
  run_front x (c ∷ cs) ds y r = let rest = run_front r.0 cs ds y r.2 in (rest.0, (r.0, r.1, rest.1))

  front_none : (xs ys : Entries T) → xs ++ ys ≡ [] → xs ≡ []
  front_none [] ys e = refl
  front_none (x ∷ xs) ys e = absurd (cc)

  keep_push : (b : Bool) (e : _) (cs : Calls T) → popped (keep b (Push e) cs) ≡ popped cs
  keep_push true e cs = refl
  keep_push false e cs = refl

  one_own : (own by : ℕ) (c : QueueCall T) (cs ds : Calls T) → PushOrOwn own by c → popped cs ≡ popped ds → popped (c ∷ cs) ≡ popped (keep (by == own) c ds)
  one_own own by (Push e) cs ds may same = same ∙ sym (keep_push (by == own) e ds)
  one_own own by (Pop e) cs ds may same = ap (λ l. e ∷ l) same ∙ ap (λ b. popped (keep b (Pop e) ds)) (sym (eq-eqb by own may))

  -- where the others push alone, all that was given out the pass took itself
  popped_own : (own : ℕ) (log : List (EntryOf (QueueCall T))) → OthersPush own log → popped (calls log) ≡ popped (calls_by own log)
  popped_own own [] others = refl
  popped_own own (x ∷ log) others = one_own own x.by x.call (calls log) (calls_by own log) others.0 (popped_own own log others.1)

  module _ (v : View (QueueCall T)) (empty : FoundEmpty v) where
    abbrev log : List (EntryOf (QueueCall T))
    log = empty.0

    abbrev gap : List (EntryOf (QueueCall T))
    gap = empty.1.begins.0

    split : calls log ≡ calls v.seen ++ calls gap
    split = ap calls (sym empty.1.begins.1) ∙ calls-append v.seen gap

    middle : (left : Entries T) × Runs QueueStep [] (calls v.seen) left
    middle = run_front [] (calls v.seen) (calls gap) [] (subst (λ (cs : Calls T). Runs QueueStep [] cs []) split empty.2)

    front : pushed (calls v.seen) ≡ popped v.mine ++ middle.0
    front =
        in_order [] (calls v.seen) middle.0 middle.1
        ∙ ap (λ es. es ++ middle.0)
        (popped_own v.number v.seen (others-front v.number v.seen gap (subst (OthersPush v.number) (sym empty.1.begins.1) empty.3)) ∙ ap popped empty.1.own_seen)

    none : middle.0 ≡ []
    none =
        front_none middle.0 (pushed (calls gap))
        (no_more (popped v.mine) (middle.0 ++ pushed (calls gap))
        (sym (append_assoc (popped v.mine) middle.0 (pushed (calls gap)))
        ∙ ap (λ es. es ++ pushed (calls gap)) (sym front)
        ∙ sym (pushed-append (calls v.seen) (calls gap))
        ∙ ap pushed (sym split)
        ∙ in_order [] (calls log) [] empty.2
        ∙ append-nil (popped (calls log))
        ∙ popped_own v.number log empty.3
        ∙ ap popped empty.1.own))

    pub taken_all : HasTakenAll v
    taken_all = sym (front ∙ ap (λ es. popped v.mine ++ es) none ∙ append-nil (popped v.mine))

    -- nothing is left of what it has seen
    pub holds_none : Holds v []
    holds_none = subst (Runs QueueStep [] (calls v.seen)) none middle.1
