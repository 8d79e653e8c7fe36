use Rattle.std.proofs.Common.{rules, ◌≡◌, ◌++◌, ◌∷◌, [], ◌<◌, ◌-◌, List, length, take, subst, sym, ap, ◌∙◌, refl, Ok, Err, OnErr, false, inl, inr, All, length-append, arith}
use Rattle.std.specs.Prelude.{IfOk, IfSome, IfNone, is_some}
use Rattle.std.specs.List.{list_any}
use Rattle.std.proofs.Math.Seq.{take-append_seam}
use Rattle.std.specs.declared.result.Result.{Result}
use Rattle.std.proofs.lemmas.Option.{slice_get_read}
use Rattle.metrics_core.specs.Keys.{KeyText, key_eq}
use Rattle.metrics_core.specs.KeyLaws.{key_eq_laws}
use Rattle.metrics_core.specs.declared.kinds.SeriesId.{SeriesId}
use Rattle.metrics_registry.specs.Live.{Registers}
use Rattle.metrics_registry.specs.Stored.{live_of, AreStored}
use Rattle.metrics_registry.specs.declared.columns.Series.{Series}
use Rattle.metrics_registry.proofs.StoredSeries.{id_of_key-none, id_of_key-at, live_of-push, stored-push}
use Rattle.metrics_registry.proofs.columns.Column.register.Goals as goal

pub index-requires : goal.index-requires
index-requires g c =
    let inside : c.in-Some.place < length c.args.self.now.items.items = subst (λ n. c.in-Some.place < n) c.requires.stored.beside (subst (λ o. IfSome o (λ place. place < length c.args.keys.now.keys)) c.in-Some.is c.in-Ok.ensures.within) in
    search rules

pub returns-in_default-clause-absent : goal.returns-in_default-clause-absent
returns-in_default-clause-absent g c =
    id_of_key-none key_eq_laws.symm c.args.key c.args.keys.now.keys c.args.self.now.items.items c.requires.stored.beside c.in_default.ensures.absent

pub returns-in-Some-clause-registered : goal.returns-in-Some-clause-registered
returns-in-Some-clause-registered g c =
    let within : c.in-Some.place < length c.args.keys.now.keys = subst (λ o. IfSome o (λ place. place < length c.args.keys.now.keys)) c.in-Some.is c.in-Ok.ensures.within in
    let inside : c.in-Some.place < length c.args.self.now.items.items = subst (λ n. c.in-Some.place < n) c.requires.stored.beside within in
    let kept : c.enter.new.self.keys ≡ c.args.keys.now.keys = subst (λ o. IfSome o (λ _. c.enter.new.self.keys ≡ c.args.keys.now.keys)) c.in-Some.is c.in-Ok.ensures.kept in
    inl (
      id_of_key-at key_eq_laws.symm c.args.key c.args.keys.now.keys c.args.self.now.items.items c.in-Some.place c.index.result.now c.requires.stored.beside
          (sym c.in-Ok.ensures.index ∙ c.in-Some.is) (slice_get_read _ _ _ _ refl inside c.index.ensures),
      ap (λ ks. live_of ks c.args.self.now.items.items) kept,
    )

-- all but the last of keys and one more
but_last : (ks : List KeyText) (key : KeyText) → take (length (ks ++ key ∷ []) - 1) (ks ++ key ∷ []) ≡ ks
but_last ks key = ap (λ n. take n (ks ++ key ∷ [])) (omega (arith, length-append ks (key ∷ []))) ∙ take-append_seam ks (key ∷ [])

module _ {X M : Type 0} (IsMade : X → Type 0) (key : KeyText) (new : SeriesId) (ks entered ks' : List KeyText) (ss ss' : List (Series X))
    (fresh : list_any (key_eq key) ks ≡ false) (stored : AreStored ks ss) (is_entered : entered ≡ ks ++ key ∷ []) where
  put : (r : Result SeriesId M) → IfOk r (λ given. (given ≡ new) × (ks' ≡ entered) × ((cell : X) × IsMade cell × (ss' ≡ ss ++ record { id = new; cell = cell } ∷ [])))
      → IfOk r (λ given. Registers IsMade key new given (live_of ks ss) (live_of ks' ss'))
  put (Ok given) (is, keys, (cell, made, items)) =
      inr (
        id_of_key-none key_eq_laws.symm key ks ss stored.beside fresh,
        is,
        (cell, made, (λ j. live_of ((keys ∙ is_entered) j) (items j)) ∙ live_of-push ks ss key (record { id = new; cell = cell }) stored.beside),
      )
  put (Err e) h = tt

  still_stored : All (λ series. series.id.number < new.number) (live_of ks ss) → (r : Result SeriesId M)
      → IfOk r (λ given. (given ≡ new) × (ks' ≡ entered) × ((cell : X) × IsMade cell × (ss' ≡ ss ++ record { id = new; cell = cell } ∷ [])))
      → OnErr r ((ks' ≡ take (length entered - 1) entered) × (ss' ≡ ss)) → AreStored ks' ss'
  still_stored above (Ok given) (is, keys, (cell, made, items)) refused =
      rw (keys ∙ is_entered, items) (stored-push ks ss key (record { id = new; cell = cell }) stored above)
  still_stored above (Err e) h refused =
      rw (refused.0 ∙ ap (λ l. take (length l - 1) l) is_entered ∙ but_last ks key, refused.1) stored

-- what holds in any case holds after an error
in_any_case : {A E : Type 0} {P : Type 0} (r : Result A E) → P → OnErr r P
in_any_case (Ok a) p = tt
in_any_case (Err e) p = p

pub returns-in-None-clause-registered : goal.returns-in-None-clause-registered
returns-in-None-clause-registered g c =
    put _ c.args.key c.args.id c.args.keys.now.keys c.enter.new.self.keys c.put_last.new.keys.keys c.args.self.now.items.items c.put_last.new.self.items.items
    (sym c.in-Ok.ensures.found ∙ ap is_some c.in-None.is) c.requires.stored
    (subst (λ o. IfNone o (c.enter.new.self.keys ≡ c.args.keys.now.keys ++ c.args.key ∷ [])) c.in-None.is c.in-Ok.ensures.added)
    c.put_last.result c.put_last.ensures.put

pub returns-in-None-clause-absent : goal.returns-in-None-clause-absent
returns-in-None-clause-absent g c =
    in_any_case c.put_last.result (id_of_key-none key_eq_laws.symm c.args.key c.args.keys.now.keys c.args.self.now.items.items c.requires.stored.beside (sym c.in-Ok.ensures.found ∙ ap is_some c.in-None.is))

pub returns-in-None-clause-stored : goal.returns-in-None-clause-stored
returns-in-None-clause-stored g c =
    still_stored _ c.args.key c.args.id c.args.keys.now.keys c.enter.new.self.keys c.put_last.new.keys.keys c.args.self.now.items.items c.put_last.new.self.items.items
    (sym c.in-Ok.ensures.found ∙ ap is_some c.in-None.is) c.requires.stored
    (subst (λ o. IfNone o (c.enter.new.self.keys ≡ c.args.keys.now.keys ++ c.args.key ∷ [])) c.in-None.is c.in-Ok.ensures.added)
    c.requires.above c.put_last.result c.put_last.ensures.put c.put_last.ensures.refused
