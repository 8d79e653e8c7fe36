use Rattle.std.proofs.Common.{◌≡◌, ℕ, refl, sym, ap, ⊎_elim}
use Rattle.metrics_core.specs.declared.calls.SeriesCall.TheVariants.{Increment, Absolute, Add, Subtract, Set}
use Rattle.metrics_core.specs.declared.numbers.Fixed.{Fixed}
use Rattle.sample_queue.specs.Series.{sample_of_call}
use Rattle.sample_queue.proofs.series.Sample+tuple2+Fixed+u64.of_call.Goals as goal

pub returns-in-Record : goal.returns-in-Record
returns-in-Record c = rw c.in-Record.is refl

pub returns-in-Increment : goal.returns-in-Increment
returns-in-Increment c =
    let call = c.args.call.now in
    ⊎_elim (λ (e : (n : ℕ) × (call ≡ Increment n)). ap sample_of_call (sym e.1))
    (⊎_elim (λ (e : (n : ℕ) × (call ≡ Absolute n)). ap sample_of_call (sym e.1))
    (⊎_elim (λ (e : (v : Fixed) × (call ≡ Add v)). ap sample_of_call (sym e.1))
    (⊎_elim (λ (e : (v : Fixed) × (call ≡ Subtract v)). ap sample_of_call (sym e.1))
    (λ (e : (v : Fixed) × (call ≡ Set v)). ap sample_of_call (sym e.1)))))
    c.in-Increment.is
