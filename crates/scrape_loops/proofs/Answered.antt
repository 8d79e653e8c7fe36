-- How a peer was answered.
use Rattle.std.proofs.Common.{add-zero, ◌+◌, ◌%◌, ◌^◌, ◌≡◌, ◌⊎◌, inl, inr, ℕ, Bool, List, [], ◌∷◌, ◌++◌, Option, None, Some, subst, sym, ap, ◌∙◌, refl, false, true}
use Rattle.std.proofs.Math.Nat.{mod-mod}
use Rattle.std.proofs.lemmas.Bool.{true≢false}
use Rattle.std.proofs.lemmas.Option.{same_Some}
use Rattle.metrics_core.specs.Outside.{GrewBy}
use Rattle.std.specs.Prelude.{IsTrue, IsSome, IfSome, ◌↔◌}
use Rattle.std.specs.declared.net.ip_addr.IpAddr.{IpAddr}
use Rattle.net_addresses.specs.Addresses.{NetworkText}
use Rattle.page_answers.specs.Answers.{IsAnswer}
use Rattle.page_answers.specs.Asked.{asked_text}
use Rattle.page_answers.specs.Asking.{IsAllowed, IsAnswered}
use Rattle.page_answers.specs.declared.answers.Asked.{Asked}
use Rattle.page_answers.specs.Connections.{Told, Ended, CountedOn, IsFresh, Wrote, with_written}
use Rattle.page_answers.specs.Readings.{WereRead, with_read}
use Rattle.scrape_loops.specs.Serving.{IsAnsweredBy, IsAnsweredFirst}

module _ {S : Type 0} (shows : S → ℕ → List ℕ → S → Type 0) (networks : Option (List NetworkText)) (moment : ℕ) (old new : S) (who : Option IpAddr) (middle after : Option Told) (allowed : Bool)
    (head answer : List ℕ) where
  -- what is told of a new connection whose head was read and whose answer was written
  first_told : (before : Told) (earlier left : List ℕ) → IsFresh before
      → (let told : Told = record { earlier = earlier; taken = head; left = left; written = answer } in with_written (with_read before earlier head left) answer ≡ told)
  first_told before earlier left fresh = rw (fresh.0, fresh.1) refl

  -- the answer is one by the page that was shown, or one whatever the page is
  abbrev Answered : Type 0
  Answered = ((page : List ℕ) × shows old moment page new × IsAnswer allowed head page answer) ⊎ ((new ≡ old) × ((page : List ℕ) → IsAnswer allowed head page answer))

  answered_either : (told : Told) → ((page : List ℕ) → IsAnswer allowed head page answer → IsAnswered networks page who told) → Answered → IsAnsweredBy shows networks moment old new who told
  answered_either told answered (inl (page, is, by)) = inl (page, is, answered page by)
  answered_either told answered (inr (same, always)) = inr (same, λ page. answered page (always page))

  pub answered_first : (start : Option Told) → (IsTrue allowed ↔ IsAllowed networks who) → Answered
      → IfSome start (λ before. WereRead before middle head) → Wrote middle after answer → IsAnsweredFirst shows networks moment old new who start after
  answered_first None is_allowed answers read wrote = tt
  answered_first (Some before) is_allowed answers read wrote = λ fresh.
      let written = subst (λ (o : Option Told). Wrote o after answer) read.told wrote in
      let told : Told = record { earlier = read.earlier; taken = head; left = read.left; written = answer } in (
        told,
        written ∙ ap Some (first_told before read.earlier read.left fresh),
        answered_either told (λ page is_answer. record { allowed = allowed; is_allowed = is_allowed; ends = read.ends; answer = is_answer }) answers,
      )

-- what is asked is answered so
pub asked_either : {S : Type 0} (shows : S → ℕ → List ℕ → S → Type 0) (moment : ℕ) (old new : S) (asked : Asked) (allowed : Bool) (head items : List ℕ) → ((page : List ℕ) → IsAnswer allowed head page (asked_text asked page))
    → ((page : List ℕ) × shows old moment page new × (items ≡ asked_text asked page)) ⊎ ((new ≡ old) × ((page : List ℕ) → items ≡ asked_text asked page))
    → ((page : List ℕ) × shows old moment page new × IsAnswer allowed head page items) ⊎ ((new ≡ old) × ((page : List ℕ) → IsAnswer allowed head page items))
asked_either shows moment old new asked allowed head items is (inl (page, shown, same)) = inl (page, shown, rw same (is page))
asked_either shows moment old new asked allowed head items is (inr (kept, same)) = inr (kept, λ page. rw (same page) (is page))

-- what is told of a connection that was given back
pub given_back : (who : Option IpAddr) (finished after : Option (List Ended)) (told : Option Told) (faults : ℕ) → (IsSome finished → IsSome told)
    → IfSome told (λ t. GrewBy finished after (record { who = who; told = t; faults = faults } ∷ []))
    → IfSome finished (λ before. (ended : Ended) × (after ≡ Some (before ++ ended ∷ [])))
given_back who None after told faults tells grew = tt
given_back who (Some before) after None faults tells grew = absurd (true≢false (sym (tells refl)))
given_back who (Some before) after (Some t) faults tells grew = (record { who = who; told = t; faults = faults }, grew)

-- what is told of a connection that was answered and given back
pub ended_by : {S : Type 0} (shows : S → ℕ → List ℕ → S → Type 0) (networks : Option (List NetworkText)) (moment : ℕ) (old new : S) (who who_after : Option IpAddr) (finished after : Option (List Ended)) (start told : Option Told) (faults : ℕ)
    → who_after ≡ who → IfSome start IsFresh
    → (IsSome finished → IsSome start) → (IsSome start → IsSome told) → IsAnsweredFirst shows networks moment old new who start told
    → IfSome told (λ t. GrewBy finished after (record { who = who_after; told = t; faults = faults } ∷ []))
    → IfSome finished (λ before. (ended : Ended) × (after ≡ Some (before ++ ended ∷ [])) × IsAnsweredBy shows networks moment old new ended.who ended.told)
ended_by shows networks moment old new who who_after None after start told faults same fresh tells told_on answered grew = tt
ended_by shows networks moment old new who who_after (Some before) after None told faults same fresh tells told_on answered grew = absurd (true≢false (sym (tells refl)))
ended_by shows networks moment old new who who_after (Some before) after (Some s) None faults same fresh tells told_on answered grew = absurd (true≢false (sym (told_on refl)))
ended_by shows networks moment old new who who_after (Some before) after (Some s) (Some t) faults same fresh tells told_on answered grew =
    let one = answered fresh in
    let told_is : one.0 ≡ t = sym (same_Some t one.0 one.1) in (
      record { who = who_after; told = t; faults = faults },
      grew,
      subst (λ (x : Told). IsAnsweredBy shows networks moment old new who_after x) told_is (subst (λ (w : Option IpAddr). IsAnsweredBy shows networks moment old new w one.0) (sym same) one.2),
    )

-- ---- counts

pub counted_none : (a : ℕ) → CountedOn a a 0
counted_none a = rw add-zero refl

pub counted_one : (a : ℕ) → CountedOn a ((a + 1) % 2 ^ 64) 1
counted_one a = mod-mod (a + 1) (2 ^ 64)
