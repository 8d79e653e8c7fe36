-- A queue of one thread gives its entries in order, and its calls determine what it holds.
use Rattle.std.proofs.Common.{◌≡◌, List, [], ◌∷◌, ◌++◌, refl, sym, ap, ◌∙◌, subst, append_assoc, Option, Some, None}
use Rattle.std.specs.Prelude.{MatchOption}
use Rattle.std.proofs.lemmas.List.{append-nil}
use Rattle.legal_history.specs.declared.history.View.{View}
use Rattle.legal_history.specs.declared.history.Entry.{Entry as EntryOf}
use Rattle.legal_history.specs.History.{calls}
use Rattle.legal_history.specs.Object.{Runs, Made}
use Rattle.sample_queue.specs.declared.calls.SampleEntry.{SampleEntry}
use Rattle.sample_queue.specs.declared.calls.QueueCall.{QueueCall}
use Rattle.sample_queue.specs.declared.calls.QueueCall.TheVariants.{Push, Pop}
use Rattle.sample_queue.specs.Queues.{QueueStep, FoundEmpty, pushed, popped, front}

module _ {T : Type 0} where
  pub in_order : (q : List (SampleEntry T)) (cs : List (QueueCall T)) (items : List (SampleEntry T)) → Runs QueueStep q cs items → q ++ pushed cs ≡ popped cs ++ items
  in_order q [] items e = append-nil q ∙ e
  in_order q (Push x ∷ cs) items r = sym (append_assoc q (x ∷ []) (pushed cs)) ∙ (ap (λ l. l ++ pushed cs) (sym r.1) ∙ in_order r.0 cs items r.2)
  in_order q (Pop x ∷ cs) items r = ap (λ l. l ++ pushed cs) r.1 ∙ ap (λ l. x ∷ l) (in_order r.0 cs items r.2)

  tails : (x : SampleEntry T) (xs ys : List (SampleEntry T)) → x ∷ xs ≡ x ∷ ys → xs ≡ ys
  tails x xs ys e = cc

  pub one_end : (q r : List (SampleEntry T)) (cs : List (QueueCall T)) (xs ys : List (SampleEntry T)) → q ≡ r → Runs QueueStep q cs xs → Runs QueueStep r cs ys → xs ≡ ys
  one_end q r [] xs ys e a b = sym a ∙ (e ∙ b)
  one_end q r (Push x ∷ cs) xs ys e a b = one_end a.0 b.0 cs xs ys (a.1 ∙ (ap (λ l. l ++ x ∷ []) e ∙ sym b.1)) a.2 b.2
  one_end q r (Pop x ∷ cs) xs ys e a b = one_end a.0 b.0 cs xs ys (tails x a.0 b.0 (sym a.1 ∙ (e ∙ b.1))) a.2 b.2

  -- with no other pass out, a pop answers the front entry of what the history leaves
  pub alone : (P : Type 0) (v w : View (QueueCall T)) (r : Option (SampleEntry T)) → MatchOption r ((w ≡ v) × FoundEmpty v) (λ e. Made QueueStep [] (Pop e) v w × P) → v.number ≡ 0 → v.out ≡ 0
      → (items : List (SampleEntry T)) → Runs QueueStep [] (calls v.seen) items → r ≡ front items
  alone P v w None m root none items run =
      let t = m.1 in
      ap front (one_end [] [] (calls v.seen) [] items refl (subst (λ (l : List (EntryOf (QueueCall T))). Runs QueueStep [] (calls l) []) (t.1.whole root none).0 t.2) run)
  alone P v w (Some e) m root none items run =
      let t = m.0 in
      ap front (sym t.5) ∙ ap front (one_end [] [] (calls v.seen) t.1 items refl (subst (λ (l : List (EntryOf (QueueCall T))). Runs QueueStep [] (calls l) t.1) (t.3.whole root none).0 t.4) run)

  -- with no other pass out, a pop finds what the history leaves
  pub found : (v w : View (QueueCall T)) (r : Option (SampleEntry T)) → MatchOption r ((w ≡ v) × FoundEmpty v) (λ e. Made QueueStep [] (Pop e) v w) → v.number ≡ 0 → v.out ≡ 0 → (items : List (SampleEntry T)) × Runs QueueStep [] (calls v.seen) items × (r ≡ front items)
  found v w None m root none = let t = m.1 in ([], subst (λ (l : List (EntryOf (QueueCall T))). Runs QueueStep [] (calls l) []) (t.1.whole root none).0 t.2, refl)
  found v w (Some e) m root none = (m.1, subst (λ (l : List (EntryOf (QueueCall T))). Runs QueueStep [] (calls l) m.1) (m.3.whole root none).0 m.4, ap front (sym m.5))
