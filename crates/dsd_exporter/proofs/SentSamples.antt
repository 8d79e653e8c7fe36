-- What is sent of the samples of a histogram.
use Rattle.std.proofs.Common.{◌≡◌, ℕ, ◌<◌, List, [], ◌∷◌, ◌++◌, length, Option, Some, None, refl, sym, ap, subst, ◌∙◌, arith}
use Rattle.metrics_core.specs.declared.numbers.Fixed.{Fixed as FixedOf}
use Rattle.metrics_core.specs.Keys.{KeyText, LabelText}
use Rattle.metrics_registry.specs.Reservoirs.{ReservoirText, reservoir, sample_rate}
use Rattle.dsd_writer.specs.Writers.{WriterText}
use Rattle.dsd_exporter.specs.State.{DogStatsDSettings, prefix_before, histogram_items}
use Rattle.dsd_exporter.specs.Updates.{UpdateText}
use Rattle.dsd_exporter.specs.Flushing.{Sends, DrawsFor, SendsSamples, IsSample, samples_item}

abbrev with_size : DogStatsDSettings → Option ℕ → DogStatsDSettings
with_size settings size = record settings { reservoir_size = size }

sampled_items : (base : DogStatsDSettings) (size : ℕ) (tags : List LabelText) (moment : ℕ) (key : KeyText) (words : List ℕ) (samples : List FixedOf) → 0 < length samples
    → samples_item base.distributions (prefix_before base.name_prefix key.name) key tags (Some (sample_rate size (length samples))) (reservoir size words samples) (length samples) ∷ []
    ≡ histogram_items (with_size base (Some size)) tags moment key words samples
sampled_items base size tags moment key words [] some = absurd (omega (arith, some))
sampled_items base size tags moment key words (x ∷ samples) some = refl

whole_items : (base : DogStatsDSettings) (tags : List LabelText) (moment : ℕ) (key : KeyText) (words : List ℕ) (samples : List FixedOf) → 0 < length samples
    → samples_item base.distributions (prefix_before base.name_prefix key.name) key tags None samples (length samples) ∷ [] ≡ histogram_items (with_size base None) tags moment key words samples
whole_items base tags moment key words [] some = absurd (omega (arith, some))
whole_items base tags moment key words (x ∷ samples) some = refl

module _ (settings : DogStatsDSettings) (key : KeyText) (samples : List FixedOf) (w v : WriterText) (u n : UpdateText) (to_come left : Option (ℕ → ℕ)) (some : 0 < length samples)
    (prefix : Option (List ℕ)) (named : prefix ≡ prefix_before settings.name_prefix key.name) where
  -- a sample of them was sent
  pub sampled_sends : (size : ℕ) → settings.reservoir_size ≡ Some size → (kept : ReservoirText) → IsSample size samples kept to_come left → (rate : FixedOf) → rate ≡ sample_rate kept.size kept.count
      → (values : List FixedOf) → values ≡ kept.values → ((updates : ℕ) → Sends (samples_item settings.distributions prefix key w.global_tags (Some rate) values updates ∷ []) w v u n)
      → (words : List ℕ) × DrawsFor settings samples words to_come left × SendsSamples settings key samples words w v u n
  sampled_sends size sized kept sample rate is values same sent =
      let settings_is : with_size settings (Some size) ≡ settings = ap (with_size settings) (sym sized) in
      subst (λ s. (words : List ℕ) × DrawsFor s samples words to_come left × SendsSamples s key samples words w v u n) settings_is (
        sample.words,
        record { drawn = sample.drawn; many = sample.many },
        λ moment more.
            subst (λ items. Sends items w v u n)
            ((λ j. samples_item settings.distributions (named j) key w.global_tags (Some ((is ∙ sample.rate) j)) ((same ∙ sample.values more) j) (length samples) ∷ [])
            ∙ sampled_items settings size w.global_tags moment key (sample.words ++ more) samples some) (sent (length samples)),
      )

  -- all of them were sent
  pub whole_sends : settings.reservoir_size ≡ None → left ≡ to_come → (values : List FixedOf) → values ≡ samples
      → ((updates : ℕ) → Sends (samples_item settings.distributions prefix key w.global_tags None values updates ∷ []) w v u n)
      → (words : List ℕ) × DrawsFor settings samples words to_come left × SendsSamples settings key samples words w v u n
  whole_sends sized none values same sent =
      let settings_is : with_size settings None ≡ settings = ap (with_size settings) (sym sized) in
      subst (λ s. (words : List ℕ) × DrawsFor s samples words to_come left × SendsSamples s key samples words w v u n) settings_is (
        [],
        record { drawn = none; many = refl },
        λ moment more.
            subst (λ items. Sends items w v u n)
            ((λ j. samples_item settings.distributions (named j) key w.global_tags None (same j) (length samples) ∷ []) ∙ whole_items settings w.global_tags moment key more samples some) (sent (length samples)),
      )
