use Rattle.std.proofs.Common.{◌≡◌, suc, false, ◌++◌, ◌∷◌, take, drop, sym, ap, subst, ◌∙◌}
use Rattle.std.specs.List.{list_any}
use Rattle.std.proofs.Math.Seq.{drop-cons}
use Rattle.std.proofs.lemmas.List.{take-append-drop}
use Rattle.metrics_core.specs.Keys.{key_eq}
use Rattle.metrics_registry.specs.KeyRuns.{RanksRise}
use Rattle.metrics_registry.proofs.KeyRuns.{none_before}
use Rattle.metrics_registry.proofs.key_list.numbered.Goals as goal

pub add_copy-requires : goal.add_copy-requires
add_copy-requires c =
    let ks = c.args.keys.now in
    let i = c.loop-key.key-index in
    let key = c.key-item.result in
    let here : drop i ks ≡ key ∷ drop (suc i) ks =
    drop-cons ks i key c.loop-key-test.true ∙ ap (λ k. k ∷ drop (suc i) ks) (sym c.key-item.is) in
    let whole : ks ≡ take i ks ++ key ∷ drop (suc i) ks = sym (take-append-drop i ks) ∙ ap (λ list. take i ks ++ list) here in
    record { new = subst (λ list. list_any (key_eq key) list ≡ false) (sym c.loop-key.invariant) (none_before (take i ks) (drop (suc i) ks) key (subst RanksRise whole c.requires)) }
