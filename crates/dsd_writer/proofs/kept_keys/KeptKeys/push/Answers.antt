use Rattle.std.proofs.Common.{[], ◌∷◌, ◌++◌, length, ap, sym, subst, ◌∙◌}
use Rattle.dsd_writer.specs.Kept.{AreKept, StandsFrom, keys_at, kept_text}
use Rattle.dsd_writer.proofs.KeptTexts.{are-more, keys-more}
use Rattle.dsd_writer.proofs.kept_keys.KeptKeys.push.Goals as goal

pub invariant_of-self-2 : goal.invariant_of-self-2
invariant_of-self-2 c =
    let text = c.self.inside.text.items in
    let places = c.self.inside.places.items in
    let place = c.push_key-place.result in
    let key = c.args.key.now in
    let bytes = c.push_key-place.ensures.items ∙ ap (λ t. t ++ kept_text key) c.in_ok-reserve.ensures.items in
    let items = c.push_reserved.ensures.items ∙ ap (λ l. l ++ place ∷ []) c.in_ok-reserve-2.ensures.items in
    let stands = subst (λ t. StandsFrom (length t) place) c.in_ok-reserve.ensures.items c.push_key-place.ensures.stands in
    subst (λ t. AreKept t c.push_reserved.new.self.items) (sym bytes)
    (subst (AreKept (text ++ kept_text key)) (sym items) (are-more text places place key c.self.invariant stands c.push_key-place.ensures.key))

pub returns-clause-pushed : goal.returns-clause-pushed
returns-clause-pushed c =
    let places = c.self.inside.places.items in
    let place = c.push_key-place.result in
    let key = c.args.key.now in
    let items = c.push_reserved.ensures.items ∙ ap (λ l. l ++ place ∷ []) c.in_ok-reserve-2.ensures.items in
    ap keys_at items ∙ keys-more places place key c.push_key-place.ensures.key ∙ ap (λ l. l ++ key ∷ []) c.self.view_is
