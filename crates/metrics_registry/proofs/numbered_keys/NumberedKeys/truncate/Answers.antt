use Rattle.std.proofs.Common.{◌≡◌, ◌-◌, ◌+◌, ◌<◌, ◌≤◌, ◌⊎◌, inl, inr, List, length, take, sym, ap, ◌∙◌, refl, arith}
use Rattle.std.proofs.lemmas.List.{length-take-le, take-take, take_all}
use Rattle.std.proofs.lemmas.Bool.{cases_lt}
use Rattle.metrics_core.specs.Keys.{KeyText}
use Rattle.metrics_registry.proofs.numbered_keys.NumberedKeys.truncate.Goals as goal

pub loop-init : goal.loop-init
loop-init c = (sym (take_all _ c.args.self.now.keys (omega arith)), λ few. refl)

pub loop-preserved : goal.loop-preserved
loop-preserved c =
    let ks = c.args.self.now.keys in
    let m = length ks - (c.loop.counter - c.args.count) in
    let long : length c.loop.self.keys ≡ m = ap length c.loop.invariant.0 ∙ length-take-le m ks (omega arith) in
    let next : length c.loop.self.keys - 1 ≡ length ks - (c.loop.counter + 1 - c.args.count) = omega (arith, long, c.loop-test.true, c.len-end.ensures.len, c.loop.auto.counter) in (
      c.pop.ensures ∙ (λ j. take (next j) (c.loop.invariant.0 j)) ∙ take-take (length ks - (c.loop.counter + 1 - c.args.count)) m ks (omega (arith, c.loop.auto.counter)),
      λ few. absurd (omega (arith, few, c.loop-test.true, c.loop.auto.counter)),
    )

pub returns : goal.returns
returns c = record { keys = c.loop.invariant.0 ∙ by (cases_lt c.len-end.result c.args.count) }
  where
    ks : List KeyText
    ks = c.args.self.now.keys

    by : (c.len-end.result < c.args.count) ⊎ (c.args.count ≤ c.len-end.result) → take (length ks - (c.loop.counter - c.args.count)) ks ≡ take c.args.count ks
    by (inl few) =
        take_all (length ks - (c.loop.counter - c.args.count)) ks (omega (arith, c.loop.invariant.1 few)) ∙ sym (take_all c.args.count ks (omega (arith, few, c.len-end.ensures.len)))
    by (inr many) =
        let same : length ks - (c.loop.counter - c.args.count) ≡ c.args.count = omega (arith, c.loop-test.false, c.len-end.ensures.len, c.loop.auto.counter-end many, many) in
        ap (λ n. take n ks) same
