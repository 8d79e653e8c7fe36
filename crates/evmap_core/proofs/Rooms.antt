-- The copy that is not shown, in a map that was just made.
use Rattle.std.proofs.Common.{◌≡◌, ◌<◌, ◌+◌, ℕ, List, [], ◌∷◌, fold, take, drop, length, sym, ap, ◌∙◌, arith}
use Rattle.std.proofs.Math.Logic.{∥∥₁_elim}
use base.Stored.{Coded-set, coded_ℕ}
use Rattle.std.proofs.Math.Seq.{take-nil}
use Rattle.std.proofs.lemmas.List.{length-append, length-drop, length-take-le}
use Rattle.std.specs.declared.sync.Arc.{Arc}
use Rattle.left_right.specs.Log.{InStep}
use Rattle.evmap_contents.specs.declared.write.Write.{Write}
use Rattle.evmap_contents.specs.declared.write.Contents.{Contents}
use Rattle.evmap_contents.specs.Views.{write_of}
use Rattle.evmap_core.specs.declared.store.Store.{Store}
use Rattle.evmap_core.specs.declared.store.CopyState.{CopyState}
use Rattle.evmap_core.specs.Stored.{made_for, state_of, new_state, with_write}

module _ {K L : Type 0} (plain : K → L) {V M P Z : Type 0} (step : Contents L V M → Write L V M P → Contents L V M) where
  -- each write that is absorbed counts
  counted : (ops : List (Write K (Arc V Z) (Arc M Z) P)) (s : CopyState L V M P) → length (fold (with_write plain step) s ops).writes ≡ length s.writes + length ops
  counted [] s = omega arith
  counted (o ∷ ops) s =
      let rest = counted ops (with_write plain step s o) in
      let one = length-append s.writes (write_of plain o ∷ []) in
      omega (arith, rest, one)

  module _ {S X H : Type 0} (shown spare : Store K V M P S X H) (m : M) (n : ℕ) where
    -- nothing is logged then, so the two copies are alike
    alike : (log : List (Write K (Arc V Z) (Arc M Z) P)) (behind ahead : ℕ) → state_of plain shown ≡ new_state m n → drop behind log ≡ [] → InStep (with_write plain step) (state_of plain shown) (state_of plain spare) log behind ahead
        → state_of plain spare ≡ new_state m n
    alike [] behind ahead new none h =
        ap (fold (with_write plain step) (state_of plain spare)) (sym (take-nil behind)) ∙ h.3 ∙ ap (fold (with_write plain step) (state_of plain shown)) (take-nil ahead) ∙ new
    alike (o ∷ log) behind ahead new none h =
        let left = sym (length-drop behind (o ∷ log)) ∙ ap length none in
        let some : 0 < behind = omega (arith, left) in
        let first : fold (with_write plain step) (state_of plain spare) (take behind (o ∷ log)) ≡ state_of plain shown
        = h.3 ∙ ap (λ a. fold (with_write plain step) (state_of plain shown) (take a (o ∷ log))) (h.2 some) in
        let many = sym (counted (take behind (o ∷ log)) (state_of plain spare)) ∙ ap (λ s. length s.writes) (first ∙ new) in
        let taken = length-take-le behind (o ∷ log) h.0 in
        absurd (omega (arith, many, taken, some))

    pub made-alike : (log : List (Write K (Arc V Z) (Arc M Z) P)) (behind ahead : ℕ) → state_of plain shown ≡ new_state m n → drop behind log ≡ [] → ∥ InStep (with_write plain step) (state_of plain shown) (state_of plain spare) log behind ahead ∥₁
        → made_for spare ≡ n
    made-alike log behind ahead new none h = ∥∥₁_elim h (Coded-set coded_ℕ _ _) (λ t. ap (λ s. s.room) (alike log behind ahead new none t))
