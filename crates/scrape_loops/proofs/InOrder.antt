-- One round after another.
use Rattle.std.proofs.Common.{◌≡◌, ◌⊎◌, inl, inr, ℕ, zero, suc, List, [], ◌∷◌, ◌++◌, Option, None, Some, subst, sym, ap, ◌∙◌, refl, append_assoc}
use Rattle.std.specs.Prelude.{IfSome}
use Rattle.std.proofs.lemmas.List.{append-nil}
use Rattle.net_addresses.specs.Addresses.{NetworkText}
use Rattle.page_answers.specs.Connections.{Ended}
use Rattle.service_loops.specs.Loops.{Runs}
use Rattle.scrape_loops.specs.Serving.{Desk, Visits, Answers, Misses, MayShow, Round, Rounds, IsAnsweredBy, ServedInOrder}

module _ {S : Type 0} (shows : S → ℕ → List ℕ → S → Type 0) (misses : S → ℕ → S → Type 0) where
  rounds_then : (networks : Option (List NetworkText)) (es : List Ended) (e : Ended) (old middle new : S) → Rounds shows misses networks es old middle → Round shows misses networks e middle new
      → Rounds shows misses networks (es ++ e ∷ []) old new
  rounds_then networks [] e old middle new same one = (new, subst (λ s. Round shows misses networks e s new) same one, refl)
  rounds_then networks (x ∷ xs) e old middle new (first, at, rest) one = (first, at, rounds_then networks xs e first middle new rest one)

  module _ (networks : Option (List NetworkText)) (before : List Ended) (old middle new : Desk S) where
    abbrev Grown : Desk S → Type 0
    Grown d = (ended : List Ended) × (d.finished ≡ Some (before ++ ended)) × Rounds shows misses networks ended old.pages d.pages

    -- one connection more
    one_more : (g : Grown middle) → IfSome middle.finished (λ b. (e : Ended) × (new.finished ≡ Some (b ++ e ∷ [])) × Round shows misses networks e middle.pages new.pages) → Grown new
    one_more (ended, is, rounds) more =
        let (e, now, round) = subst (λ o. IfSome o (λ b. (e : Ended) × (new.finished ≡ Some (b ++ e ∷ [])) × Round shows misses networks e middle.pages new.pages)) is more in (
          ended ++ e ∷ [],
          now ∙ ap Some (append_assoc before ended (e ∷ [])),
          rounds_then networks ended e old.pages middle.pages new.pages rounds round,
        )

    -- none more
    none_more : Grown middle → new.pages ≡ middle.pages → new.finished ≡ middle.finished → Grown new
    none_more (ended, is, rounds) pages finished = (ended, finished ∙ is, subst (λ s. Rounds shows misses networks ended old.pages s) (sym pages) rounds)

  answered_round : (networks : Option (List NetworkText)) (to_come_old to_come_new : Option (ℕ → ℕ)) (pages_old pages_new : S) (old new : Option (List Ended)) → Answers shows networks to_come_old to_come_new pages_old pages_new old new
      → IfSome old (λ b. (e : Ended) × (new ≡ Some (b ++ e ∷ [])) × Round shows misses networks e pages_old pages_new)
  answered_round networks tc td pages_old pages_new None new answers = tt
  answered_round networks tc td pages_old pages_new (Some b) new answers = let f = answers.finished in (f.0, f.1, (answers.moment, inl f.2))

  lost_round : (networks : Option (List NetworkText)) (to_come_old to_come_new : Option (ℕ → ℕ)) (pages_old pages_new : S) (old new : Option (List Ended)) → Misses shows misses to_come_old to_come_new pages_old pages_new old new
      → IfSome old (λ b. (e : Ended) × (new ≡ Some (b ++ e ∷ [])) × Round shows misses networks e pages_old pages_new)
  lost_round networks tc td pages_old pages_new None new lost = tt
  lost_round networks tc td pages_old pages_new (Some b) new lost = let f = lost.finished in (f.0, f.1, (lost.moment, inr lost.shown))

  one_step : (networks : Option (List NetworkText)) (before : List Ended) (old middle new : Desk S) → middle.allowed ≡ networks → Grown networks before old middle new middle → Visits shows misses middle new → Grown networks before old middle new new
  one_step networks before old middle new allowed grown visits = by visits.one
    where
      by : ((visits.answered ≡ 1) × (visits.lost ≡ 0) × Answers shows middle.allowed middle.to_come new.to_come middle.pages new.pages middle.finished new.finished)
          ⊎ (((visits.answered ≡ 0) × (visits.lost ≡ 1) × Misses shows misses middle.to_come new.to_come middle.pages new.pages middle.finished new.finished)
          ⊎ ((visits.answered ≡ 0) × (visits.lost ≡ 0) × (new.pages ≡ middle.pages) × (new.to_come ≡ middle.to_come) × (new.finished ≡ middle.finished)))
          → Grown networks before old middle new new
      by (inl (a, l, answers)) = one_more networks before old middle new grown
          (answered_round networks _ _ _ _ _ _ (subst (λ n. Answers shows n middle.to_come new.to_come middle.pages new.pages middle.finished new.finished) allowed answers))
      by (inr (inl (a, l, lost))) = one_more networks before old middle new grown (lost_round networks _ _ _ _ _ _ lost)
      by (inr (inr (a, l, pages, to_come, finished))) = none_more networks before old middle new grown pages finished

  -- the rounds of a loop over what a desk stands for
  pub in_order : {X : Type 0} (desk : X → Desk S) (before : List Ended) (times : ℕ) (old new : X) → (desk old).finished ≡ Some before → Runs (λ x y. Visits shows misses (desk x) (desk y)) times old new
      → ((desk new).allowed ≡ (desk old).allowed) × ((ended : List Ended) × ((desk new).finished ≡ Some (before ++ ended)) × Rounds shows misses (desk old).allowed ended (desk old).pages (desk new).pages)
  in_order desk before zero old new is same =
      let d = ap desk same in (
        ap (λ (x : Desk S). x.allowed) d,
        ([], ap (λ (x : Desk S). x.finished) d ∙ (is ∙ ap Some (sym (append-nil before))), ap (λ (x : Desk S). x.pages) d),
      )
  in_order desk before (suc times) old new is (middle, first, visit) =
      let so_far = in_order desk before times old middle is first in
      (visit.allowed ∙ so_far.0, one_step (desk old).allowed before (desk old) (desk middle) (desk new) so_far.0 so_far.1 visit)

  pub served_in_order : {X : Type 0} (desk : X → Desk S) (times : ℕ) (old new : X) → Runs (λ x y. Visits shows misses (desk x) (desk y)) times old new
      → (finished : Option (List Ended)) → (desk old).finished ≡ finished → ServedInOrder shows misses (desk old).allowed finished (desk new).finished (desk old).pages (desk new).pages
  served_in_order desk times old new runs None is = tt
  served_in_order desk times old new runs (Some before) is = (in_order desk before times old new is runs).1
