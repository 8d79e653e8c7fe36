-- What serving does to its connections, to its listener and to the exporter.
use Rattle.std.specs.Prelude.{◌≡◌, ℕ, zero, suc, ◌+◌, ◌-◌, ◌≤◌, ◌⊎◌, Bool, IsTrue, List, [], ◌∷◌, ◌++◌, length, take, Option, Some, IfSome, All}
use Rattle.std.specs.declared.net.ip_addr.IpAddr.{IpAddr}
use Rattle.net_addresses.specs.Addresses.{NetworkText}
use Rattle.prom_exporter.specs.State.{page_step}
use Rattle.prom_exporter.specs.Exporter.{Exporter, AllHome, AreTimely, state_of, written_body, written_page}
use Rattle.prom_exporter.specs.Stepped.{Steps, DrainsEach, DrainsInPart}
use Rattle.page_answers.specs.Connections.{Told, Ended, IsFresh, CountedOn}
use Rattle.prom_serve.specs.declared.serving.Served.{Served}
pub use Rattle.page_answers.specs.Asking.{IsAnswered}

-- ---- renders

-- one render at a moment: the page step was made, or histograms were drained in part, where memory was refused
pub record IsRendered (moment : ℕ) (old new : Exporter) : Type 0 where
  pub steps : Steps moment old new ⊎ DrainsEach DrainsInPart old new
  pub home : AllHome old → AllHome new
  pub stepped : AllHome old → (state_of new ≡ page_step old.settings.idle moment (state_of old)) ⊎ (state_of new ≡ state_of old)
  pub timely : AllHome old → AreTimely moment old → AreTimely moment new

-- the bytes are the page that a render at a moment wrote
pub record IsPageAt (moment : ℕ) (old new : Exporter) (page : List ℕ) : Type 0 where
  pub shown : page ≡ written_body moment new
  pub home : AllHome old → page ≡ written_page moment old

-- one render at a moment, or none
abbrev pub MayRender : ℕ → Exporter → Exporter → Type 0
MayRender moment old new = (new ≡ old) ⊎ IsRendered moment old new

-- no pass is out, and the exporter has seen what it had seen, or the page step of that
pub record StaysHome (moment : ℕ) (old new : Exporter) : Type 0 where
  pub home : AllHome new
  pub state : (state_of new ≡ state_of old) ⊎ (state_of new ≡ page_step old.settings.idle moment (state_of old))

-- at most so many renders at a moment
abbrev pub Renders : ℕ → ℕ → Exporter → Exporter → Type 0
Renders moment zero old new = new ≡ old
Renders moment (suc most) old new = (middle : Exporter) × Renders moment most old middle × MayRender moment middle new

-- ---- connections

-- a peer was answered: by the page that was just rendered, or by what is the answer whatever the page is, and then none was rendered
abbrev pub IsAnsweredBy : Option (List NetworkText) → ℕ → Exporter → Exporter → Option IpAddr → Told → Type 0
IsAnsweredBy networks moment old new who told =
    ((page : List ℕ) × IsPageAt moment old new page × IsAnswered networks page who told)
    ⊎ ((new ≡ old) × ((page : List ℕ) → IsAnswered networks page who told))

-- and so was the peer of a connection that tells and of which nothing was read before
abbrev pub IsAnsweredFirst : Option (List NetworkText) → ℕ → Exporter → Exporter → Option IpAddr → Option Told → Option Told → Type 0
IsAnsweredFirst networks moment exporter_old exporter_new who old new =
    IfSome old (λ before. IsFresh before → (told : Told) × (new ≡ Some told) × IsAnsweredBy networks moment exporter_old exporter_new who told)

-- a connection that was given back without faults was answered, the exporter being what earlier renders at the moment had left
abbrev pub IsServed : Option (List NetworkText) → ℕ → Exporter → Ended → Type 0
IsServed networks moment exporter ended =
    ended.faults ≡ 0
    → (most : ℕ) × (before after : Exporter) × Renders moment most exporter before × MayRender moment before after × IsAnsweredBy networks moment before after ended.who ended.told

-- it was answered by the page of the exporter as it was
abbrev pub IsShown : Option (List NetworkText) → ℕ → Exporter → Ended → Type 0
IsShown networks moment exporter ended = ended.faults ≡ 0 → IsAnswered networks (written_page moment exporter) ended.who ended.told

-- ---- a call

-- what a listener has given and, where it tells, what was given back to it
pub record Listening : Type 0 where
  pub given : ℕ
  pub finished : Option (List Ended)

-- so many connections were accepted and given back, each of which may have rendered once, and all but the last few were served
pub record Accepts (networks : Option (List NetworkText)) (moment : ℕ) (accepted last : ℕ) (exporter_old exporter_new : Exporter) (old new : Listening) : Type 0 where
  pub given : CountedOn old.given new.given accepted
  pub renders : Renders moment accepted exporter_old exporter_new
  pub finished : IfSome old.finished (λ before.
      (ended : List Ended) × (new.finished ≡ Some (before ++ ended)) × (length ended ≡ accepted) × All (IsServed networks moment exporter_old) (take (accepted - last) ended))

-- one connection was accepted and given back, which may have rendered once, and was served
pub record AcceptsOne (networks : Option (List NetworkText)) (moment : ℕ) (was_served : Bool) (exporter_old exporter_new : Exporter) (old new : Listening) : Type 0 where
  pub given : CountedOn old.given new.given 1
  pub renders : MayRender moment exporter_old exporter_new
  pub finished : IfSome old.finished (λ before.
      (ended : Ended) × (new.finished ≡ Some (before ++ ended ∷ []))
      × (IsTrue was_served → ended.faults ≡ 0 → IsAnsweredBy networks moment exporter_old exporter_new ended.who ended.told))

-- no connection was accepted
pub record AcceptsNone (exporter_old exporter_new : Exporter) (old new : Listening) : Type 0 where
  -- the exporter is as it was
  pub state : exporter_new ≡ exporter_old
  -- no connection was given
  pub given : new.given ≡ old.given
  -- and none was given back
  pub finished : new.finished ≡ old.finished

-- Where no pass is out, each peer that was served saw the page of the exporter as it was.
abbrev pub ShowsPage : Option (List NetworkText) → ℕ → ℕ → ℕ → Exporter → Option (List Ended) → Option (List Ended) → Type 0
ShowsPage networks moment accepted last exporter old new =
    AllHome exporter → IfSome old (λ before.
    (ended : List Ended) × (new ≡ Some (before ++ ended)) × (length ended ≡ accepted) × All (IsShown networks moment exporter) (take (accepted - last) ended))

-- so many connections were served, but for the last few
pub record Serves (networks : Option (List NetworkText)) (moment : ℕ) (accepted last : ℕ) (exporter_old exporter_new : Exporter) (old new : Listening) : Type 0 where
  -- they were accepted and given back
  pub accepts : Accepts networks moment accepted last exporter_old exporter_new old new
  -- and, where no pass is out, each peer saw the page of the exporter as it was
  pub pages : ShowsPage networks moment accepted last exporter_old old.finished new.finished

-- at most so many were
abbrev pub ServesInPart : Option (List NetworkText) → ℕ → ℕ → ℕ → Exporter → Exporter → Listening → Listening → Type 0
ServesInPart networks moment count last exporter_old exporter_new old new =
    (accepted : ℕ) × (accepted ≤ count) × Serves networks moment accepted last exporter_old exporter_new old new

-- ---- counts

-- what is answered of so many connections
pub record IsCounted (count before after : ℕ) (served : Served) : Type 0 where
  -- each was served or failed
  pub total : served.served + served.failed ≡ count
  -- and so many more were lost as failed
  pub lost : CountedOn before after served.failed
