-- Entries that are taken out of a queue one after the other, and their samples.
use Rattle.std.proofs.Common.{◌≡◌, ℕ, ◌<◌, List, [], ◌∷◌, ◌++◌, length, replicate, refl, sym, ap, subst, ◌∙◌, append_assoc, arith}
use Rattle.std.specs.Prelude.{slice_index_or}
use Rattle.std.proofs.lemmas.List.{append-nil, length-replicate}
use Rattle.std.proofs.lemmas.List.Folds.{length-flat_map-take}
use Rattle.metrics_core.specs.declared.numbers.Fixed.{Fixed as FixedOf}
use Rattle.legal_history.specs.declared.history.View.{View}
use Rattle.sample_queue.specs.declared.calls.SampleEntry.{SampleEntry}
use Rattle.sample_queue.specs.declared.calls.QueueCall.{QueueCall}
use Rattle.dsd_exporter.specs.Samples.{samples_in}
use Rattle.dsd_exporter.specs.Exporter.{Queued}
use Rattle.dsd_exporter.specs.Flushing.{TakesOne, TakesOut, Drains}

abbrev Entries : Type 0
Entries = List (SampleEntry FixedOf)

out_then : (u v w : View (QueueCall FixedOf)) (a b : Entries) → TakesOut u a v → TakesOut v b w → TakesOut u (a ++ b) w
out_then u v w [] b first then = subst (λ x. TakesOut x b w) (sym first) then
out_then u v w (e ∷ a) b first then = (first.0, first.1, out_then first.0 v w a b first.2 then)

pub drains_none : (s t : Queued) → t.cell ≡ s.cell → t.root ≡ s.root → t.taken ≡ s.taken → Drains s t
drains_none s t cell root taken = record { cell = cell; out = []; root = sym root; taken = taken ∙ sym (append-nil s.taken) }

pub drains_one : (s t : Queued) (e : SampleEntry FixedOf) → t.cell ≡ s.cell → TakesOne s.root e t.root → t.taken ≡ s.taken ++ e ∷ [] → Drains s t
drains_one s t e cell one taken = record { cell = cell; out = e ∷ []; root = (t.root, one, refl); taken = taken }

pub drains_then : (s t u : Queued) → Drains s t → Drains t u → Drains s u
drains_then s t u a b = record {
  cell = b.cell ∙ a.cell;
  out = a.out ++ b.out;
  root = out_then s.root t.root u.root a.out b.out a.root b.root;
  taken = b.taken ∙ ap (λ l. l ++ b.out) a.taken ∙ append_assoc s.taken a.out b.out;
}

pub drains_same : (s : Queued) → Drains s s
drains_same s = drains_none s s refl refl refl

-- an entry that stands for a sample
pub some_samples : (es : Entries) (i : ℕ) (e : SampleEntry FixedOf) → i < length es → 0 < (slice_index_or es i e).count → 0 < length (samples_in es)
some_samples es i e here some =
    let x = slice_index_or es i e in
    let within = length-flat_map-take (λ (y : SampleEntry FixedOf). replicate y.count y.item) es i e here in
    let many = length-replicate x.count x.item in
    omega (arith, some, within, many)
