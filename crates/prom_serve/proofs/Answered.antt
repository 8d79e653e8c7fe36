-- How a peer was answered.
use Rattle.std.proofs.Common.{◌≡◌, ◌⊎◌, inl, inr, ℕ, Bool, List, Option, None, Some, subst, ap, ◌∙◌, refl}
use Rattle.std.specs.Prelude.{IsTrue, IfSome, ◌↔◌}
use Rattle.std.specs.declared.net.ip_addr.IpAddr.{IpAddr}
use Rattle.net_addresses.specs.Addresses.{NetworkText}
use Rattle.prom_exporter.specs.Exporter.{Exporter}
use Rattle.page_answers.specs.Answers.{IsAnswer}
use Rattle.page_answers.specs.Asked.{asked_text}
use Rattle.page_answers.specs.declared.answers.Asked.{Asked}
use Rattle.page_answers.specs.Connections.{Told, IsFresh, Wrote, with_written}
use Rattle.page_answers.specs.Readings.{WereRead, with_read}
use Rattle.page_answers.specs.Asking.{IsAllowed, IsAnswered}
use Rattle.prom_serve.specs.Serving.{IsPageAt, IsAnsweredBy, IsAnsweredFirst}

module _ (networks : Option (List NetworkText)) (moment : ℕ) (exporter_old exporter_new : Exporter) (who : Option IpAddr) (middle after : Option Told) (allowed : Bool) (head answer : List ℕ) where
  -- what is told of a new connection whose head was read and whose answer was written
  first_told : (before : Told) (earlier left : List ℕ) → IsFresh before
      → (let told : Told = record { earlier = earlier; taken = head; left = left; written = answer } in with_written (with_read before earlier head left) answer ≡ told)
  first_told before earlier left fresh = rw (fresh.0, fresh.1) refl

  -- the answer is one by the page that was rendered, or one whatever the page is
  abbrev Answers : Type 0
  Answers =
      ((page : List ℕ) × IsPageAt moment exporter_old exporter_new page × IsAnswer allowed head page answer)
      ⊎ ((exporter_new ≡ exporter_old) × ((page : List ℕ) → IsAnswer allowed head page answer))

  answered_either : (told : Told) → ((page : List ℕ) → IsAnswer allowed head page answer → IsAnswered networks page who told) → Answers → IsAnsweredBy networks moment exporter_old exporter_new who told
  answered_either told answered (inl (page, is, by)) = inl (page, is, answered page by)
  answered_either told answered (inr (same, always)) = inr (same, λ page. answered page (always page))

  pub answered_first : (start : Option Told) → (IsTrue allowed ↔ IsAllowed networks who) → Answers
      → IfSome start (λ before. WereRead before middle head) → Wrote middle after answer → IsAnsweredFirst networks moment exporter_old exporter_new who start after
  answered_first None is_allowed answers read wrote = tt
  answered_first (Some before) is_allowed answers read wrote = λ fresh.
      let written = subst (λ (o : Option Told). Wrote o after answer) read.told wrote in
      let told : Told = record { earlier = read.earlier; taken = head; left = read.left; written = answer } in (
        told,
        written ∙ ap Some (first_told before read.earlier read.left fresh),
        answered_either told (λ page is_answer. record { allowed = allowed; is_allowed = is_allowed; ends = read.ends; answer = is_answer }) answers,
      )

-- what is asked is answered so
pub asked_either : (moment : ℕ) (old new : Exporter) (asked : Asked) (allowed : Bool) (head items : List ℕ) → ((page : List ℕ) → IsAnswer allowed head page (asked_text asked page))
    → ((page : List ℕ) × IsPageAt moment old new page × (items ≡ asked_text asked page)) ⊎ ((new ≡ old) × ((page : List ℕ) → items ≡ asked_text asked page))
    → ((page : List ℕ) × IsPageAt moment old new page × IsAnswer allowed head page items) ⊎ ((new ≡ old) × ((page : List ℕ) → IsAnswer allowed head page items))
asked_either moment old new asked allowed head items is (inl (page, shown, same)) = inl (page, shown, rw same (is page))
asked_either moment old new asked allowed head items is (inr (kept, same)) = inr (kept, λ page. rw (same page) (is page))
