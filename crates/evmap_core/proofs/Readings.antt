-- What a reader has read.
use Rattle.std.proofs.Common.{Some, None, Option, ◌≡◌, inl, inr, true, false, fold, refl, sym, ap, ◌∙◌, subst}
use Rattle.std.specs.Option.{option_map}
use Rattle.evmap_contents.specs.declared.write.Write.{Write}
use Rattle.evmap_contents.specs.declared.write.Contents.{Contents}
use Rattle.evmap_contents.specs.Fold.{made_with}
use Rattle.evmap_contents.specs.Views.{contents}
use Rattle.evmap_core.specs.declared.known_fronts.KnownFronts.{KnownFronts}
use Rattle.evmap_core.specs.declared.store.Store.{Store}
use Rattle.evmap_core.specs.Front.{Reads, NotYet, HasRead, HasNotRead, Answers, Sees, IsFrontFor}

module _ {L V M P : Type 0} (step : Contents L V M → Write L V M P → Contents L V M) where
  -- a reader that is as before has read nothing
  pub unread-same : (before after : Option (KnownFronts L V M P)) → after ≡ before → HasNotRead step before after
  unread-same None after e = e
  unread-same (Some v) after e = (v, e, inl refl)

module _ {K L : Type 0} (plain : K → L) {V M P : Type 0} (step : Contents L V M → Write L V M P → Contents L V M) {S X H : Type 0} where
  -- the copy that was seen is what the front leaves
  pub reads : (v : KnownFronts L V M P) (x : Store K V M P S X H) (w : KnownFronts L V M P) → Sees plain step v x x w → Reads step v w (contents plain x.inner)
  reads v x w h = (h.0, (λ j. option_map (λ (m : M). fold step (made_with m) (h.1 j)) (h.2 j)) ∙ ap (λ (c : Contents L V M). Some c) (sym h.3))

  pub not-ready : (v : KnownFronts L V M P) (x : Store K V M P S X H) (w u : KnownFronts L V M P) → Sees plain step v x x w → u ≡ w → x.inner.ready ≡ false → NotYet step v u
  not-ready v x w u h is early = inr (contents plain x.inner, subst (λ (z : KnownFronts L V M P). Reads step v z (contents plain x.inner)) (sym is) (reads v x w h), early)

  -- a front that was read, once the reader has left it
  pub has-read : (found : Contents L V M → Type 0) (before after : Option (KnownFronts L V M P)) (v : KnownFronts L V M P) (x : Store K V M P S X H) (w u : KnownFronts L V M P) → before ≡ Some v → after ≡ Some u → u ≡ w
      → Sees plain step v x x w → x.inner.ready ≡ true → found (contents plain x.inner) → HasRead step found before after
  has-read found before after v x w u b a is h late there =
      (v, u, b, a, contents plain x.inner, subst (λ (z : KnownFronts L V M P). Reads step v z (contents plain x.inner)) (sym is) (reads v x w h), late, there)

  -- what a call answers of the front that it read, once the reader is back
  pub answered : (found : Contents L V M → Type 0) (unread : Type 0) (before after : Option (KnownFronts L V M P)) (x : Store K V M P S X H) (w : KnownFronts L V M P) → IsFrontFor plain step before x w → x.inner.ready ≡ true → after ≡ Some w → found (contents plain x.inner)
      → Answers step found unread before after
  answered found unread before after x w front late a there = inl (has-read found before after front.0 x w w front.1 a refl front.2 late there)

  -- nor has one that found a front from before the first publish
  pub unread-early : (before after : Option (KnownFronts L V M P)) (x : Store K V M P S X H) (w : KnownFronts L V M P) → IsFrontFor plain step before x w → after ≡ Some w → x.inner.ready ≡ false → HasNotRead step before after
  unread-early before after x w front a early = subst (λ o. HasNotRead step o after) (sym front.1) (w, a, not-ready front.0 x w w front.2 refl early)
