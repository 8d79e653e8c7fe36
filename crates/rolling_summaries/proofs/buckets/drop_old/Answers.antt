use Rattle.std.proofs.Common.{◌≡◌, ◌<◌, ◌-◌, ◌*◌, false, [], ◌∷◌, ◌++◌, length, get_or, Some, refl, sym, ap, subst, ◌∙◌, arith}
use Rattle.std.specs.Prelude.{option_to_list}
use Rattle.rolling_summaries.specs.Summaries.{in_window, kept_in_window, Apart}
use Rattle.rolling_summaries.proofs.Ordered.{kept-oldest, kept-dropped, Apart-front}
use Rattle.rolling_summaries.proofs.buckets.drop_old.Goals as goal

pub returns-then-holds : goal.returns-then-holds
returns-then-holds c =
    let w = c.args.window in
    let kept = c.loop-oldest.kept in
    let oldest = c.in-Some.oldest.now in
    let some : 0 < length kept.items = omega (arith, kept.ok.0, c.in-Some.ensures.variant.0 refl) in
    sym (kept-oldest w.width (w.limit * w.width) w.now kept.items oldest c.loop-oldest.invariant.apart some
    (c.in-Some.ensures.lookup ∙ ap (λ n. get_or kept.items (n - 1) oldest) kept.ok.0) (sym c.holds.ensures ∙ c.if-holds.true))
    ∙ c.loop-oldest.invariant.same

pub loop-oldest-preserved-else-holds : goal.loop-oldest-preserved-else-holds
loop-oldest-preserved-else-holds c =
    let w = c.args.window in
    let oldest = c.in-Some.oldest.now in
    let left = c.pop_back-out.new.self.items in
    let some : 0 < c.loop-oldest.kept.len = c.in-Some.ensures.variant.0 refl in
    let last : c.loop-oldest.kept.items ≡ left ++ oldest ∷ [] =
    c.pop_back-out.ensures.items
    ∙ ap (λ r. left ++ option_to_list r) (c.pop_back-out.ensures.value oldest some ∙ ap Some (sym c.in-Some.ensures.lookup))
    in
    let out : in_window (w.limit * w.width) w.now oldest.begin ≡ false = sym c.holds.ensures ∙ c.if-holds.false in
    record {
      apart = Apart-front w.width left (oldest ∷ []) (subst (Apart w.width) last c.loop-oldest.invariant.apart);
      same = sym (ap (kept_in_window (w.limit * w.width) w.now) last ∙ kept-dropped (w.limit * w.width) w.now left oldest out) ∙ c.loop-oldest.invariant.same;
    }
