-- Whom the page is shown, and how a peer is answered.
use Rattle.std.specs.Prelude.{◌≡◌, ℕ, ◌↔◌, Bool, IsTrue, List, Option, None, Some, ⊤}
use Rattle.std.specs.List.{Any}
use Rattle.std.specs.declared.net.ip_addr.IpAddr.{IpAddr}
use Rattle.net_addresses.specs.Addresses.{NetworkText, Holds}
use Rattle.page_answers.specs.Answers.{IsAnswer}
use Rattle.page_answers.specs.Connections.{Told}
use Rattle.page_answers.specs.Readings.{EndsReading}

-- ---- whom the page is shown

-- every peer is allowed where no list of networks is given, and otherwise one whose address a network of the list holds
abbrev pub IsAllowed : Option (List NetworkText) → Option IpAddr → Type 0
IsAllowed None who = ⊤
IsAllowed (Some networks) None = ⊥
IsAllowed (Some networks) (Some address) = Any (λ network. Holds network address) networks

-- a peer was answered: the bytes up to the end of the reading by that page
pub record IsAnswered (networks : Option (List NetworkText)) (page : List ℕ) (who : Option IpAddr) (told : Told) : Type 0 where
  pub allowed : Bool
  pub is_allowed : IsTrue allowed ↔ IsAllowed networks who
  pub ends : EndsReading told.earlier told.taken told.left
  pub answer : IsAnswer allowed told.taken page told.written
