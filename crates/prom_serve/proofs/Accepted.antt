-- One connection after another.
use Rattle.std.proofs.Common.{◌≡◌, ℕ, zero, suc, ◌+◌, ◌-◌, ◌%◌, ◌^◌, ◌<◌, ◌⊎◌, Bool, true, false, List, [], ◌∷◌, ◌++◌, Option, None, Some, length, take, sym, ap, subst, ◌∙◌, refl, inl, inr, arith, add-one, add-zero, add_assoc, length-append, append_assoc}
use Rattle.std.specs.Prelude.{IsTrue, IsSome, IfSome, All}
use Rattle.metrics_core.specs.Outside.{GrewBy}
use Rattle.std.proofs.Math.Nat.{mod-add-mod}
use Rattle.std.proofs.lemmas.List.{append-nil, take_all, take_at}
use Rattle.std.proofs.lemmas.List.Elements.{All-push, All-weaker}
use Rattle.std.proofs.lemmas.Bool.{true≢false}
use Rattle.std.proofs.lemmas.Option.{same_Some}
use Rattle.std.specs.declared.net.ip_addr.IpAddr.{IpAddr}
use Rattle.net_addresses.specs.Addresses.{NetworkText}
use Rattle.prom_format.specs.Pages.{body_text}
use Rattle.prom_exporter.specs.State.{PrometheusState, page_step}
use Rattle.prom_exporter.specs.Families.{ExporterSettings, families_written}
use Rattle.prom_exporter.specs.Stepped.{Steps, DrainsEach, DrainsInPart}
use Rattle.prom_exporter.proofs.PagesAgain.{page_step-again}
use Rattle.prom_exporter.specs.Exporter.{Exporter, AllHome, AreTimely, state_of, written_page}
use Rattle.page_answers.specs.Asking.{IsAnswered}
use Rattle.page_answers.specs.Connections.{Ended, Told, IsFresh, CountedOn}
use Rattle.prom_serve.specs.Refusals.{excepted}
use Rattle.prom_serve.specs.declared.errors.ServeError.{ServeError}
use Rattle.prom_serve.specs.declared.errors.ServeError.TheVariants.{FailedToCreateHTTPListener, Memory}
use Rattle.prom_serve.specs.Serving.{MayRender, StaysHome, Renders, IsAnsweredBy, IsAnsweredFirst, IsRendered, IsServed, IsShown, Listening, Accepts, AcceptsOne, AcceptsNone, Serves, ServesInPart, ShowsPage}

-- ---- counts

pub counted_more : (a b c n m : ℕ) → CountedOn a b n → CountedOn b c m → CountedOn a c (n + m)
counted_more a b c n m first next =
    next ∙ (sym (mod-add-mod b (2 ^ 64) m) ∙ (ap (λ (k : ℕ). (k + m) % 2 ^ 64) first ∙ (mod-add-mod (a + n) (2 ^ 64) m ∙ ap (λ (k : ℕ). k % 2 ^ 64) (add_assoc a n m))))

pub counted_none : (a : ℕ) → CountedOn a a 0
counted_none a = rw add-zero refl

-- ---- renders

pub renders_next : (moment n : ℕ) (old middle new : Exporter) → Renders moment n old middle → MayRender moment middle new → Renders moment (n + 1) old new
renders_next moment n old middle new first next = rw add-one (middle, first, next)

-- where no pass is out renders make the page step, if anything
next_state : (moment : ℕ) (old middle new : Exporter) → middle.settings ≡ old.settings → (state_of new ≡ page_step middle.settings.idle moment (state_of middle)) ⊎ (state_of new ≡ state_of middle)
    → (state_of middle ≡ state_of old) ⊎ (state_of middle ≡ page_step old.settings.idle moment (state_of old)) → (state_of new ≡ state_of old) ⊎ (state_of new ≡ page_step old.settings.idle moment (state_of old))
next_state moment old middle new settings (inl step) (inl same) = inr (step ∙ (λ j. page_step (settings j).idle moment (same j)))
next_state moment old middle new settings (inl step) (inr stepped) = inr (step ∙ (λ j. page_step (settings j).idle moment (stepped j)) ∙ page_step-again old.settings.idle moment (state_of old))
next_state moment old middle new settings (inr kept) (inl same) = inl (kept ∙ same)
next_state moment old middle new settings (inr kept) (inr stepped) = inr (kept ∙ stepped)

steps_settings : (moment : ℕ) (old new : Exporter) → Steps moment old new ⊎ DrainsEach DrainsInPart old new → new.settings ≡ old.settings
steps_settings moment old new (inl steps) = steps.settings
steps_settings moment old new (inr drains) = ap (λ (e : Exporter). e.settings) drains.1

renders_settings : (moment n : ℕ) (old new : Exporter) → Renders moment n old new → new.settings ≡ old.settings
renders_settings moment zero old new same = ap (λ (e : Exporter). e.settings) same
renders_settings moment (suc n) old new (middle, first, inl same) = ap (λ (e : Exporter). e.settings) same ∙ renders_settings moment n old middle first
renders_settings moment (suc n) old new (middle, first, inr rendered) = steps_settings moment middle new rendered.steps ∙ renders_settings moment n old middle first

pub renders_home : (moment n : ℕ) (old new : Exporter) → AllHome old → Renders moment n old new → StaysHome moment old new
renders_home moment zero old new home same = record { home = subst AllHome (sym same) home; state = inl (ap state_of same) }
renders_home moment (suc n) old new home (middle, first, inl same) =
    let stays = renders_home moment n old middle home first in
    subst (StaysHome moment old) (sym same) stays
renders_home moment (suc n) old new home (middle, first, inr rendered) =
    let stays = renders_home moment n old middle home first in
    record {
      home = rendered.home stays.home;
      state = next_state moment old middle new (renders_settings moment n old middle first) (rendered.stepped stays.home) stays.state;
    }

-- then the page stays the same
abbrev page_written : ExporterSettings → ℕ → PrometheusState → List ℕ
page_written settings moment s = body_text (families_written settings moment (page_step settings.idle moment s))

page_stays : (moment : ℕ) (old new : Exporter) → new.settings ≡ old.settings → (state_of new ≡ state_of old) ⊎ (state_of new ≡ page_step old.settings.idle moment (state_of old)) → written_page moment new ≡ written_page moment old
page_stays moment old new settings (inl same) = (λ j. page_written (settings j) moment (same j))
page_stays moment old new settings (inr stepped) =
    (λ j. page_written (settings j) moment (stepped j))
    ∙ ap (λ (s : PrometheusState). body_text (families_written old.settings moment s)) (page_step-again old.settings.idle moment (state_of old))

-- a render that answered, or not
pub rendered_by : {A B C : Type 0} (moment : ℕ) (old new : Exporter) → Steps moment old new ⊎ (A × DrainsEach DrainsInPart old new × C) → (AllHome old → AllHome new)
    → (AllHome old → (state_of new ≡ page_step old.settings.idle moment (state_of old)) ⊎ (B × (state_of new ≡ state_of old))) → ((t : ℕ) → AllHome old → AreTimely t old → AreTimely t new) → IsRendered moment old new
rendered_by {A} {B} {C} moment old new steps home stepped timely = record { steps = steps_by steps; home = home; stepped = λ at_home. stepped_by (stepped at_home); timely = timely moment }
  where
    steps_by : Steps moment old new ⊎ (A × DrainsEach DrainsInPart old new × C) → Steps moment old new ⊎ DrainsEach DrainsInPart old new
    steps_by (inl whole) = inl whole
    steps_by (inr part) = inr part.1

    stepped_by : (state_of new ≡ page_step old.settings.idle moment (state_of old)) ⊎ (B × (state_of new ≡ state_of old)) → (state_of new ≡ page_step old.settings.idle moment (state_of old)) ⊎ (state_of new ≡ state_of old)
    stepped_by (inl step) = inl step
    stepped_by (inr kept) = inr kept.1

-- what is told of a connection that was answered and given back
pub ended_by : (networks : Option (List NetworkText)) (moment : ℕ) (old new : Exporter) (who who_after : Option IpAddr) (finished after : Option (List Ended)) (start told : Option Told) (faults : ℕ) → who_after ≡ who → IfSome start IsFresh
    → (IsSome finished → IsSome start) → (IsSome start → IsSome told) → IsAnsweredFirst networks moment old new who start told
    → IfSome told (λ t. GrewBy finished after (record { who = who_after; told = t; faults = faults } ∷ []))
    → IfSome finished (λ before. (ended : Ended) × (after ≡ Some (before ++ ended ∷ [])) × (IsTrue true → ended.faults ≡ 0 → IsAnsweredBy networks moment old new ended.who ended.told))
ended_by networks moment old new who who_after None after start told faults same fresh tells told_on answered grew = tt
ended_by networks moment old new who who_after (Some before) after None told faults same fresh tells told_on answered grew = absurd (true≢false (sym (tells refl)))
ended_by networks moment old new who who_after (Some before) after (Some s) None faults same fresh tells told_on answered grew = absurd (true≢false (sym (told_on refl)))
ended_by networks moment old new who who_after (Some before) after (Some s) (Some t) faults same fresh tells told_on answered grew =
    let one = answered fresh in
    let told_is : one.0 ≡ t = sym (same_Some t one.0 one.1) in (
      record { who = who_after; told = t; faults = faults },
      grew,
      (λ truly no_faults. subst (λ (x : Told). IsAnsweredBy networks moment old new who_after x) told_is (subst (λ (w : Option IpAddr). IsAnsweredBy networks moment old new w one.0) (sym same) one.2)),
    )

-- a peer that was served saw the page of the exporter as it was
pub served_shown : (networks : Option (List NetworkText)) (moment : ℕ) (exporter : Exporter) → AllHome exporter → (ended : Ended) → IsServed networks moment exporter ended → IsShown networks moment exporter ended
served_shown networks moment exporter home ended served no_faults = by (served no_faults)
  where
    by : (most : ℕ) × (before after : Exporter) × Renders moment most exporter before × MayRender moment before after × IsAnsweredBy networks moment before after ended.who ended.told
        → IsAnswered networks (written_page moment exporter) ended.who ended.told
    by (most, before, after, renders, may, inl (page, is, answered)) =
        let stays = renders_home moment most exporter before home renders in
        let same : page ≡ written_page moment exporter = is.home stays.home ∙ page_stays moment exporter before (renders_settings moment most exporter before renders) stays.state in
        subst (λ (p : List ℕ). IsAnswered networks p ended.who ended.told) same answered
    by (most, before, after, renders, may, inr (same, always)) = always (written_page moment exporter)

all_shown : (networks : Option (List NetworkText)) (moment : ℕ) (exporter : Exporter) → AllHome exporter → (ended : List Ended) → All (IsServed networks moment exporter) ended → All (IsShown networks moment exporter) ended
all_shown networks moment exporter home ended = All-weaker (IsServed networks moment exporter) (IsShown networks moment exporter) (served_shown networks moment exporter home) ended

shows_page : (networks : Option (List NetworkText)) (moment accepted last : ℕ) (exporter left : Exporter) (old new : Listening) → Accepts networks moment accepted last exporter left old new
    → ShowsPage networks moment accepted last exporter old.finished new.finished
shows_page networks moment accepted last exporter left old new accepts home = by old.finished accepts.finished
  where
    by : (o : Option (List Ended))
        → IfSome o (λ before. (ended : List Ended) × (new.finished ≡ Some (before ++ ended)) × (length ended ≡ accepted) × All (IsServed networks moment exporter) (take (accepted - last) ended))
        → IfSome o (λ before. (ended : List Ended) × (new.finished ≡ Some (before ++ ended)) × (length ended ≡ accepted) × All (IsShown networks moment exporter) (take (accepted - last) ended))
    by None none = tt
    by (Some before) (ended, is, long, all) = (ended, is, long, all_shown networks moment exporter home (take (accepted - last) ended) all)

pub serves : (networks : Option (List NetworkText)) (moment accepted last : ℕ) (exporter left : Exporter) (old new : Listening) → Accepts networks moment accepted last exporter left old new
    → Serves networks moment accepted last exporter left old new
serves networks moment accepted last exporter left old new accepts = record {
  accepts = accepts;
  pages = shows_page networks moment accepted last exporter left old new accepts;
}

-- ---- connections

module _ (networks : Option (List NetworkText)) (moment : ℕ) where
  pub none_accepted : (last : ℕ) (exporter : Exporter) (listening : Listening) → Accepts networks moment 0 last exporter exporter listening listening
  none_accepted last exporter listening = record {
    given = counted_none listening.given;
    renders = refl;
    finished = nothing_ended listening.finished;
  }
    where
      nothing_ended : (o : Option (List Ended)) → IfSome o (λ before. (ended : List Ended) × (o ≡ Some (before ++ ended)) × (length ended ≡ 0) × All (IsServed networks moment exporter) (take (0 - last) ended))
      nothing_ended None = tt
      nothing_ended (Some before) = ([], ap Some (sym (append-nil before)), refl, rw (take_all {A = Ended} (0 - last) [] (omega arith)) (λ k d h. absurd (omega (arith, h))))

  module _ (n : ℕ) (start old new : Exporter) where
    -- so many connections were given back, and all but the last few of them were served
    abbrev Behind : ℕ → ℕ → Option (List Ended) → List Ended → Type 0
    Behind accepted last now before = (ended : List Ended) × (now ≡ Some (before ++ ended)) × (length ended ≡ accepted) × All (IsServed networks moment start) (take (accepted - last) ended)

    -- one more was given back
    abbrev OneBehind : Bool → Option (List Ended) → List Ended → Type 0
    OneBehind was_served now before = (ended : Ended) × (now ≡ Some (before ++ ended ∷ []))
        × (IsTrue was_served → ended.faults ≡ 0 → IsAnsweredBy networks moment old new ended.who ended.told)

    -- what is shown of those that were served
    abbrev StepsOn : Bool → ℕ → Type 0
    StepsOn was_served last = (before : List Ended) (ended : Ended) → length before ≡ n → All (IsServed networks moment start) (take (n - 0) before)
        → (IsTrue was_served → ended.faults ≡ 0 → IsAnsweredBy networks moment old new ended.who ended.told)
        → All (IsServed networks moment start) (take (n + 1 - last) (before ++ ended ∷ []))

    served_step : Renders moment n start old → MayRender moment old new → StepsOn true 0
    served_step renders one before ended long all answered =
        let whole : take (n - 0) before ≡ before = take_all (n - 0) before (omega arith) in
        let longer : take (n + 1 - 0) (before ++ ended ∷ []) ≡ before ++ ended ∷ [] = take_all (n + 1 - 0) (before ++ ended ∷ []) (omega (arith, length-append before (ended ∷ []))) in
        rw longer (All-push (IsServed networks moment start) before ended (rw whole at all) (λ no_faults. (n, old, new, renders, one, answered refl no_faults)))

    refused_step : StepsOn false 1
    refused_step before ended long all answered =
        let whole : take (n - 0) before ≡ before = take_all (n - 0) before (omega arith) in
        let same : take (n + 1 - 1) (before ++ ended ∷ []) ≡ before = take_at before (ended ∷ []) (n + 1 - 1) (omega arith) in
        rw same (rw whole at all)

    behind_next : (was_served : Bool) (last : ℕ) → StepsOn was_served last → (first now after : Option (List Ended))
        → IfSome first (Behind n 0 now) → IfSome now (OneBehind was_served after) → IfSome first (Behind (n + 1) last after)
    behind_next was_served last step None now after some one = tt
    behind_next was_served last step (Some before) now after (ended, is, long, all) one =
        let more = subst (λ (o : Option (List Ended)). IfSome o (OneBehind was_served after)) is one in (
          ended ++ more.0 ∷ [],
          more.1 ∙ ap Some (append_assoc before ended (more.0 ∷ [])),
          omega (arith, length-append ended (more.0 ∷ []), long),
          step ended more.0 long all more.2,
        )

    module _ (first now after : Listening) where
      pub served_next : Accepts networks moment n 0 start old first now → AcceptsOne networks moment true old new now after → Accepts networks moment (n + 1) 0 start new first after
      served_next some one =
          record {
            given = counted_more first.given now.given after.given n 1 some.given one.given;
            renders = renders_next moment n start old new some.renders one.renders;
            finished = behind_next true 0 (served_step some.renders one.renders) first.finished now.finished after.finished some.finished one.finished;
          }

      pub refused_next : Accepts networks moment n 0 start old first now → AcceptsOne networks moment false old new now after → Accepts networks moment (n + 1) 1 start new first after
      refused_next some one = record {
        given = counted_more first.given now.given after.given n 1 some.given one.given;
        renders = renders_next moment n start old new some.renders one.renders;
        finished = behind_next false 1 refused_step first.finished now.finished after.finished some.finished one.finished;
      }

      -- none was accepted, and nothing changed
      pub same_next : Accepts networks moment n 0 start old first now → AcceptsNone old new now after → Accepts networks moment n 0 start new first after
      same_next some none = record {
        given = rw none.given some.given;
        renders = rw none.state some.renders;
        finished = rw none.finished some.finished;
      }

      -- where the next one was refused
      pub refused_by : (error : ServeError) (count : ℕ) → n < count → Accepts networks moment n 0 start old first now
          → (error ≡ Memory → AcceptsOne networks moment false old new now after)
          → (error ≡ FailedToCreateHTTPListener → AcceptsNone old new now after)
          → ServesInPart networks moment count (excepted error) start new first after
      refused_by FailedToCreateHTTPListener count room some memory failed = (n, omega (arith, room), serves networks moment n 0 start new first after (same_next some (failed refl)))
      refused_by Memory count room some memory failed = (n + 1, omega (arith, room), serves networks moment (n + 1) 1 start new first after (refused_next some (memory refl)))
