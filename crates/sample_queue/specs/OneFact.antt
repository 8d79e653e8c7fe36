-- That a pass is one of a queue is one fact: it has at most one proof.
use mathlib.Core.Path.{◌≡◌, refl, sym, ap, ◌∙◌, subst, subst_refl, path_j, sym_refl}
use mathlib.Core.HLevel.{prop→set, Unit-prop}
use base.Stored.{Coded-set, coded×, coded_ℕ}
use Rattle.std.specs.Prelude.{Option, Some, None}
use Rattle.std.specs.declared.alloc.Global.{Global}
use Rattle.sample_queue.specs.declared.pass.SamplePass.{SamplePass}
use Rattle.sample_queue.specs.declared.queue.SampleQueue.{SampleQueue}
use Rattle.sample_queue.specs.Passes.{IsSamplePass}

module _ {X : Type 0} where
  -- that an option is None is said by a word that computes
  abbrev IsNone : Option X → Type 0
  IsNone None = Unit {0}
  IsNone (Some x) = ⊥

  none_once : (o : Option X) → IsProp (IsNone o)
  none_once None a b = Unit-prop a b
  none_once (Some x) a b = absurd a

  says : (o : Option X) → None ≡ o → IsNone o
  says o p = subst IsNone p tt

  told : (o : Option X) → IsNone o → None ≡ o
  told None e = refl
  told (Some x) e = absurd e

  told_what_it_says : (o : Option X) (p : None ≡ o) → told o (says o p) ≡ p
  unfolding told says
  told_what_it_says o p = path_j (λ o p. told o (says o p) ≡ p) (ap (told None) (subst_refl IsNone {x = None} tt)) p

  turned_twice : {o : Option X} (p : o ≡ None) → sym (sym p) ≡ p
  turned_twice p = path_j (λ o p. sym (sym p) ≡ p) (ap (λ r. sym r) sym_refl ∙ sym_refl) p

  -- whatever the option would hold
  is_none_once : (o : Option X) → IsProp (o ≡ None)
  is_none_once o p q =
      let same : sym p ≡ sym q = sym (told_what_it_says o (sym p)) ∙ (ap (told o) (none_once o (says o (sym p)) (says o (sym q))) ∙ told_what_it_says o (sym q)) in
      sym (turned_twice p) ∙ (ap (λ r. sym r) same ∙ turned_twice q)

one_heap : IsProp Global
one_heap a b = refl

pub one_sample_pass : {T : Type 0} (queue : SampleQueue T) (pass : SamplePass T) → IsProp (IsSamplePass queue pass)
one_sample_pass queue pass p q i = (
  (
    Coded-set (coded× coded_ℕ coded_ℕ) pass.seat.web queue.queue.web p.0.0 q.0.0 i,
    prop→set one_heap pass.seat.heap queue.queue.heap p.0.1 q.0.1 i,
  ),
  is_none_once pass.seat.me.hand p.1 q.1 i,
  is_none_once pass.seat.me.spare p.2 q.2 i,
)
