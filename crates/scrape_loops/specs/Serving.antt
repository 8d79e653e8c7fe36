-- What serving pages does.
use Rattle.std.specs.Prelude.{◌≡◌, ℕ, ◌⊎◌, List, [], ◌∷◌, ◌++◌, Option, None, Some, IfSome}
use Rattle.std.specs.declared.net.ip_addr.IpAddr.{IpAddr}
use Rattle.net_addresses.specs.Addresses.{NetworkText}
use Rattle.metrics_core.specs.Words.{DrawsOne}
use Rattle.page_answers.specs.Connections.{Told, Ended, IsFresh, CountedOn}
use Rattle.page_answers.specs.Asking.{IsAnswered}

module _ {S : Type 0} (shows : S → ℕ → List ℕ → S → Type 0) where
  -- a peer was answered: by the page that was just shown, or by what is the answer whatever the page is, and then none was shown
  abbrev pub IsAnsweredBy : Option (List NetworkText) → ℕ → S → S → Option IpAddr → Told → Type 0
  IsAnsweredBy networks moment old new who told =
      ((page : List ℕ) × shows old moment page new × IsAnswered networks page who told) ⊎ ((new ≡ old) × ((page : List ℕ) → IsAnswered networks page who told))

  -- and so was the peer of a connection that tells and of which nothing was read before
  abbrev pub IsAnsweredFirst : Option (List NetworkText) → ℕ → S → S → Option IpAddr → Option Told → Option Told → Type 0
  IsAnsweredFirst networks moment pages_old pages_new who old new =
      IfSome old (λ before. IsFresh before → (told : Told) × (new ≡ Some told) × IsAnsweredBy networks moment pages_old pages_new who told)

-- one page was shown at a moment, or refused, or none was asked for
abbrev pub MayShow : {S : Type 0} → (S → ℕ → List ℕ → S → Type 0) → (S → ℕ → S → Type 0) → ℕ → S → S → Type 0
MayShow shows misses moment old new = (new ≡ old) ⊎ (((page : List ℕ) × shows old moment page new) ⊎ misses old moment new)

-- a connection was accepted at a moment and given back, and its peer was answered
pub record Answers {S : Type 0} (shows : S → ℕ → List ℕ → S → Type 0) (networks : Option (List NetworkText)) (to_come_old to_come_new : Option (ℕ → ℕ)) (pages_old pages_new : S)
    (finished_old finished_new : Option (List Ended)) : Type 0 where
  pub moment : ℕ
  pub drawn : DrawsOne to_come_old moment to_come_new
  pub finished : IfSome finished_old (λ before. (ended : Ended) × (finished_new ≡ Some (before ++ ended ∷ [])) × IsAnsweredBy shows networks moment pages_old pages_new ended.who ended.told)

-- a connection was accepted and given back, and failed
pub record Misses {S : Type 0} (shows : S → ℕ → List ℕ → S → Type 0) (misses : S → ℕ → S → Type 0) (to_come_old to_come_new : Option (ℕ → ℕ)) (pages_old pages_new : S)
    (finished_old finished_new : Option (List Ended)) : Type 0 where
  pub moment : ℕ
  pub drawn : DrawsOne to_come_old moment to_come_new ⊎ (to_come_new ≡ to_come_old)
  pub shown : MayShow shows misses moment pages_old pages_new
  pub finished : IfSome finished_old (λ before. (ended : Ended) × (finished_new ≡ Some (before ++ ended ∷ [])))

-- what a loop serves with, and what it has done
pub record Desk (S : Type 0) : Type 0 where
  pub allowed : Option (List NetworkText)
  pub pages : S
  pub to_come : Option (ℕ → ℕ)
  pub finished : Option (List Ended)
  pub served : ℕ
  pub failed : ℕ

-- one round: a peer was answered, or a connection failed, or none was accepted
pub record Visits {S : Type 0} (shows : S → ℕ → List ℕ → S → Type 0) (misses : S → ℕ → S → Type 0) (old new : Desk S) : Type 0 where
  pub allowed : new.allowed ≡ old.allowed
  pub answered : ℕ
  pub lost : ℕ
  pub served : CountedOn old.served new.served answered
  pub failed : CountedOn old.failed new.failed lost
  pub one : ((answered ≡ 1) × (lost ≡ 0) × Answers shows old.allowed old.to_come new.to_come old.pages new.pages old.finished new.finished)
      ⊎ (((answered ≡ 0) × (lost ≡ 1) × Misses shows misses old.to_come new.to_come old.pages new.pages old.finished new.finished)
      ⊎ ((answered ≡ 0) × (lost ≡ 0) × (new.pages ≡ old.pages) × (new.to_come ≡ old.to_come) × (new.finished ≡ old.finished)))

-- what one connection that was given back had of the pages: its peer was answered by the page at a moment, or by what is the answer whatever the page is, or it failed
abbrev pub Round : {S : Type 0} → (S → ℕ → List ℕ → S → Type 0) → (S → ℕ → S → Type 0) → Option (List NetworkText) → Ended → S → S → Type 0
Round shows misses networks ended old new = (moment : ℕ) × (IsAnsweredBy shows networks moment old new ended.who ended.told ⊎ MayShow shows misses moment old new)

-- the pages were shown for one connection after another
abbrev pub Rounds : {S : Type 0} → (S → ℕ → List ℕ → S → Type 0) → (S → ℕ → S → Type 0) → Option (List NetworkText) → List Ended → S → S → Type 0
Rounds shows misses networks [] old new = new ≡ old
Rounds {S} shows misses networks (e ∷ es) old new = (middle : S) × Round shows misses networks e old middle × Rounds shows misses networks es middle new

-- the connections that were given back, where they are told, are those of before and further ones, for which the pages were shown in order
abbrev pub ServedInOrder : {S : Type 0} → (S → ℕ → List ℕ → S → Type 0) → (S → ℕ → S → Type 0) → Option (List NetworkText) → Option (List Ended) → Option (List Ended) → S → S → Type 0
ServedInOrder shows misses networks finished_old finished_new old new =
    IfSome finished_old (λ before. (ended : List Ended) × (finished_new ≡ Some (before ++ ended)) × Rounds shows misses networks ended old new)
