-- What a drain leaves of a series.
use Rattle.std.proofs.Common.{◌≡◌, [], ◌∷◌, ◌++◌, Option, None, Some, true, sym, ap, ◌∙◌, subst}
use Rattle.std.specs.Prelude.{is_some}
use Rattle.std.proofs.lemmas.Fn.{FoldsTo-push}
use Rattle.std.proofs.lemmas.List.{append-nil}
use Rattle.legal_history.specs.History.{calls}
use Rattle.sample_queue.specs.Queues.{FoundEmpty, GivesOut, popped, pushed}
use Rattle.sample_queue.proofs.TakenAll.{taken_all}
use Rattle.histogram_series.specs.Entries.{TimedEntry, queued}
use Rattle.histogram_series.specs.Series.{SampleSeries, IsHome, entries, but_waiting, recorded}
use Rattle.histogram_series.specs.Drains.{TakesOne, TakesNext, Drains, Grows, with_none_waiting}
use Rattle.histogram_series.proofs.Taken.{out-grows, out-home, empty-none}

pub drains-none : (s t : SampleSeries) → t ≡ s → Drains s t
drains-none s t same = record { cell = ap (λ (u : SampleSeries). u.cell) same; kind = ap (λ (u : SampleSeries). u.kind) same; out = []; taken = ap (λ (u : SampleSeries). u.root) (sym same) }

-- to record the entry that waits takes nothing out
pub drains-recorded : (s t u : SampleSeries) → Drains s t → u ≡ with_none_waiting t → Drains s u
drains-recorded s t u so_far same =
    subst (Drains s) (sym same) (record { cell = so_far.cell; kind = so_far.kind; out = so_far.out; taken = so_far.taken })

pub drains-next : (s t u : SampleSeries) → Drains s t → TakesNext t u → Drains s u
drains-next s t u so_far next = record {
  cell = ap (λ (v : SampleSeries). v.cell) next.2 ∙ so_far.cell;
  kind = ap (λ (v : SampleSeries). v.kind) next.2 ∙ so_far.kind;
  out = so_far.out ++ next.0 ∷ [];
  taken = FoldsTo-push TakesOne s.root so_far.out t.root next.0 u.root so_far.taken next.1;
}

module _ (s t : SampleSeries) (drains : Drains s t) where
  pub drains-grow : Grows s.root t.root
  drains-grow = out-grows s.root t.root drains.out drains.taken

  pub drains-same : IsHome s → entries t ≡ entries s
  drains-same home = (out-home s.root t.root drains.out home drains.taken).1

  pub drains-empty : FoundEmpty t.root → queued t.root ≡ []
  drains-empty empty = empty-none t.root empty

  -- all that the series' own pass has seen pushed is recorded
  pub drains-seen : t.stray ≡ None → FoundEmpty t.root → recorded t ≡ pushed (calls t.root.seen)
  drains-seen none empty = ap (λ stray. but_waiting stray (popped t.root.mine)) none ∙ taken_all t.root empty

  pub drains-all : t.stray ≡ None → FoundEmpty t.root → IsHome s → recorded t ≡ entries s
  drains-all none empty home =
      ap (λ stray. but_waiting stray (popped t.root.mine)) none
      ∙ sym (append-nil (popped t.root.mine))
      ∙ ap (λ es. popped t.root.mine ++ es) (sym (drains-empty empty))
      ∙ drains-same home

-- the next entry was taken out, where there was one
pub next-taken : (answer : Option TimedEntry) (found s t : SampleSeries) → found ≡ s → GivesOut found.root answer t.root → t.cell ≡ found.cell → t.kind ≡ found.kind → t.stray ≡ answer
    → is_some answer ≡ true → TakesNext s t
next-taken None found s t is gives cell kind stray some = cc
next-taken (Some e) found s t is gives cell kind stray some = (
  e,
  subst (λ (u : SampleSeries). TakesOne u.root e t.root) is gives,
  (λ i. record { cell = cell i; root = t.root; stray = stray i; kind = kind i }) ∙ ap (λ (u : SampleSeries). record u { root = t.root; stray = Some e }) is,
)
