use Rattle.std.proofs.Common.{◌≡◌, ◌++◌, ◌-◌, ◌+◌, ◌∙◌, refl, take, replicate, ap, sym, rules}
use Rattle.page_relay.proofs.Values.{places_begin, places_more, places_end}
use Rattle.page_relay.proofs.lines.read_digits.Goals as goal

pub loop-places-init : goal.loop-places-init
loop-places-init c =
    let text = c.args.text.now in
    let front = take c.count_before-point.result text in
    let digits : c.extend_from_slice-2.new.self.items ≡ front ++ c.bytes_behind-fraction.result.now = search rules in
    let begins = places_begin text c.extend_from_slice-2.new.self.items front c.bytes_behind-fraction.result.now c.count_before-point.result c.count_before-point.ensures.count refl c.bytes_behind-fraction.ensures digits in
    begins

pub loop-places-preserved : goal.loop-places-preserved
loop-places-preserved c =
    ap (λ l. l ++ replicate (9 - (c.loop-places.places + 1)) 48) c.in_ok-push.ensures.items ∙ places_more c.loop-places.digits.items c.loop-places.places c.loop-places-test.true ∙ c.loop-places.invariant

pub returns : goal.returns
returns c = sym (places_end c.loop-places.digits.items c.loop-places.places c.loop-places-test.false) ∙ c.loop-places.invariant
