use mir.Val.{bool_byte}
use Rattle.std.proofs.Common.{◌≡◌, ◌≤◌, ◌++◌, ◌∷◌, [], ℕ, List, Bool, true, false, cond, length, length-append, append_assoc, append-nil, arith, refl, sym, ap, subst, ◌∙◌}
use Rattle.dsd_writer.specs.Left.{payloads_left}
use Rattle.dsd_exporter.specs.Sending.{HandsOut}
use Rattle.dsd_exporter.proofs.Handed.{next, hands_more, sent-more, all-counted}
use Rattle.dsd_exporter.proofs.sending.send_payloads.Goals as goal

pub loop-number-preserved : goal.loop-number-preserved
loop-number-preserved g c =
    let so_far = c.loop-number.invariant in
    let one = c.send_payload-is_sent in
    let p = c.in-Some.payload.now in
    let more = sent-more so_far.done p one.result so_far.outcomes in
    let byte : (b : Bool) → bool_byte b ≡ cond b 1 0 = λ b. elim b as (λ k. bool_byte k ≡ cond k 1 0) [ true ↦ refl | false ↦ refl ] in
    let from : c.from-sent.result ≡ cond one.result 1 0 = c.from-sent.ensures ∙ byte one.result in
    let at_most : (b : Bool) → cond b 1 0 ≤ 1 = λ b. elim b as (λ k. cond k 1 0 ≤ 1) [ true ↦ omega arith | false ↦ omega arith ] in
    let few = at_most one.result in
    let never_falls = one.ensures.never_falls in
    record {
      outcomes = next so_far.done p one.result so_far.outcomes;
      done = so_far.done ++ p ∷ [];
      split = so_far.split ∙ ap (λ l. so_far.done ++ l) c.in-Some.ensures.next ∙ sym (append_assoc so_far.done (p ∷ []) (payloads_left c.next_payload.new.self));
      many = (let both = length-append so_far.done (p ∷ []) in omega (arith, both, so_far.many));
      hands = hands_more so_far.done p one.result so_far.outcomes _ _ _ _ _ _ _ _ _ _ _ so_far.hands so_far.aimed one.ensures.handed;
      sent = omega (arith, more, from, so_far.sent);
      few = omega (arith, from, few, so_far.few);
      all = so_far.all;
      aimed = one.ensures.aimed ∙ so_far.aimed;
      never_falls = omega (arith, never_falls, so_far.never_falls);
    }

pub returns-clause-handed : goal.returns-clause-handed
returns-clause-handed g c =
    let so_far = c.loop-number.invariant in
    let end = c.loop-number-test.false in
    let most = c.loop-number.auto._number-end in
    let split = ap length so_far.split ∙ length-append so_far.done (payloads_left c.loop-number.payloads) in
    let none : length (payloads_left c.loop-number.payloads) ≡ 0 = omega (arith, split, so_far.many, so_far.all, end, most) in
    let empty : (l : List (List ℕ)) → length l ≡ 0 → l ≡ [] = λ l is. elim l as (λ l. length l ≡ 0 → l ≡ []) [ [] ↦ λ is. refl | x ∷ l ↦ λ is. absurd (omega (arith, is)) ] is in
    let all = all-counted so_far.outcomes in
    let each = ap length so_far.hands.each in
    let whole = sym (so_far.split ∙ ap (λ l. so_far.done ++ l) (empty (payloads_left c.loop-number.payloads) none) ∙ append-nil so_far.done) in (
      so_far.outcomes,
      subst (λ l. HandsOut l so_far.outcomes (g.L.Link.aimed c.args.link.now) (g.L.Link.sent c.args.link.now) (g.L.Link.sent c.loop-number.link) (g.L.Link.faults c.args.link.now) (g.L.Link.faults c.loop-number.link)
          c.args.telemetry.now c.loop-number.telemetry) whole so_far.hands,
      (so_far.sent, omega (arith, all, each, split, none, so_far.sent, so_far.all, so_far.few)),
    )
