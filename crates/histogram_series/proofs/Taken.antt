-- Entries that a pass takes out of the queue, and what the series then knows of.
use Rattle.std.proofs.Common.{◌≡◌, List, [], ◌∷◌, ◌++◌, drop, sym, ap, ◌∙◌, subst, append_assoc}
use Rattle.std.proofs.lemmas.List.{append-nil}
use Rattle.legal_history.specs.declared.history.Entry.{Entry as EntryOf}
use Rattle.legal_history.specs.declared.history.View.{View}
use Rattle.legal_history.specs.History.{calls, calls_by, said}
use Rattle.legal_history.proofs.Lists.{calls-append, none_added}
use Rattle.sample_queue.specs.declared.calls.QueueCall.TheVariants.{Pop}
use Rattle.sample_queue.specs.Queues.{FoundEmpty, OthersPush, pushed, popped}
use Rattle.histogram_series.specs.Entries.{TimedCall, TimedEntry, held_after, queued, entries_known}
use Rattle.histogram_series.specs.Drains.{TakesOne, TakesOut, Grows}
use Rattle.sample_queue.proofs.TakenAll.{holds_none}
use Rattle.histogram_series.proofs.Held.{held-runs, held-append, popped-append, pushed-append, held-pushes, others-parts}

abbrev pub Home : View TimedCall → Type 0
Home v = (v.number ≡ 0) × (v.out ≡ 0)

-- an entry was taken out of what the history that was found leaves
one-entries : (v w : View TimedCall) (e : TimedEntry) (m : TakesOne v e w) → entries_known w ≡ popped v.mine ++ held_after [] (calls m.0)
one-entries v w e m =
    let before : held_after [] (calls m.0) ≡ e ∷ m.2 = held-runs [] (calls m.0) m.1 m.4 ∙ m.5 in
    let mine : popped w.mine ≡ popped v.mine ++ e ∷ [] = ap (λ (u : View TimedCall). popped u.mine) m.6 ∙ popped-append v.mine (Pop e ∷ []) in
    let after : queued w ≡ m.2 =
    ap queued m.6
    ∙ ap (held_after []) (calls-append m.0 (said v.number (Pop e ∷ [])))
    ∙ held-append [] (calls m.0) (Pop e ∷ [])
    ∙ ap (drop 1) before in
    (λ i. mine i ++ after i) ∙ append_assoc (popped v.mine) (e ∷ []) m.2 ∙ ap (λ es. popped v.mine ++ es) (sym before)

one-number : (v w : View TimedCall) (e : TimedEntry) → TakesOne v e w → (w.number ≡ v.number) × (w.out ≡ v.out)
one-number v w e m = (ap (λ (u : View TimedCall). u.number) m.6, ap (λ (u : View TimedCall). u.out) m.6)

one-home : (v w : View TimedCall) (e : TimedEntry) → Home v → TakesOne v e w → Home w × (entries_known w ≡ entries_known v)
one-home v w e home m =
    let same = one-number v w e m in (
      (same.0 ∙ home.0, same.1 ∙ home.1),
      one-entries v w e m ∙ ap (λ log. popped v.mine ++ held_after [] (calls log)) (m.3.whole home.0 home.1).0,
    )

one-grows : (v w : View TimedCall) (e : TimedEntry) → TakesOne v e w → Grows v w
one-grows v w e m =
    let gap : List (EntryOf TimedCall) = m.3.begins.0 in
    let found : v.seen ++ gap ≡ m.0 = m.3.begins.1 in
    let own : List (EntryOf TimedCall) = said v.number (Pop e ∷ []) in
    let more : List (EntryOf TimedCall) = gap ++ own in (
      more,
      ap (λ (u : View TimedCall). u.seen) m.6 ∙ ap (λ log. log ++ own) (sym found) ∙ append_assoc v.seen gap own,
      λ others.
          (let none = none_added v.number v.seen gap (ap (λ log. calls_by v.number log) found ∙ m.3.own ∙ sym m.3.own_seen) in
          let held : held_after [] (calls m.0) ≡ queued v ++ pushed (calls gap) =
          ap (λ log. held_after [] (calls log)) (sym found)
          ∙ ap (held_after []) (calls-append v.seen gap)
          ∙ held-append [] (calls v.seen) (calls gap)
          ∙ held-pushes v.number (queued v) gap none (others-parts v.number gap own others).0 in
          let news : pushed (calls more) ≡ pushed (calls gap) = ap pushed (calls-append gap own) ∙ pushed-append (calls gap) (calls own) ∙ append-nil (pushed (calls gap)) in
          one-entries v w e m
          ∙ ap (λ es. popped v.mine ++ es) (held ∙ ap (λ es. queued v ++ es) (sym news))
          ∙ sym (append_assoc (popped v.mine) (queued v) (pushed (calls more)))),
    )

grows-none : (v : View TimedCall) → Grows v v
grows-none v = ([], sym (append-nil v.seen), λ others. sym (append-nil (entries_known v)))

grows-both : (v u w : View TimedCall) → u.number ≡ v.number → Grows v u → Grows u w → Grows v w
grows-both v u w same first then =
    let more : List (EntryOf TimedCall) = first.0 ++ then.0 in (
      more,
      then.1 ∙ ap (λ seen. seen ++ then.0) first.1 ∙ append_assoc v.seen first.0 then.0,
      λ others.
          (let parts = others-parts v.number first.0 then.0 others in
          then.2 (subst (λ own. OthersPush own then.0) (sym same) parts.1)
          ∙ ap (λ es. es ++ pushed (calls then.0)) (first.2 parts.0)
          ∙ append_assoc (entries_known v) (pushed (calls first.0)) (pushed (calls then.0))
          ∙ ap (λ es. entries_known v ++ es) (sym (ap pushed (calls-append first.0 then.0) ∙ pushed-append (calls first.0) (calls then.0)))),
    )

-- entries taken out one after the other: those that come behind are what other passes pushed
pub out-grows : (v w : View TimedCall) (out : List TimedEntry) → TakesOut v out w → Grows v w
out-grows v w [] taken = subst (Grows v) taken (grows-none v)
out-grows v w (e ∷ out) taken = grows-both v taken.0 w (one-number v taken.0 e taken.1).0 (one-grows v taken.0 e taken.1) (out-grows taken.0 w out taken.2)

-- with no pass out, they are as before
pub out-home : (v w : View TimedCall) (out : List TimedEntry) → Home v → TakesOut v out w → Home w × (entries_known w ≡ entries_known v)
out-home v w [] home taken = (subst Home taken home, ap entries_known (sym taken))
out-home v w (e ∷ out) home taken =
    let one = one-home v taken.0 e home taken.1 in
    let rest = out-home taken.0 w out one.0 taken.2 in
    (rest.0, rest.1 ∙ one.1)

-- nothing is left of what the pass has seen of a queue that it found empty
pub empty-none : (v : View TimedCall) → FoundEmpty v → queued v ≡ []
empty-none v empty = held-runs [] (calls v.seen) [] (holds_none v empty)
