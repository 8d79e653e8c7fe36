use Rattle.std.proofs.Common.{◌≡◌, ◌++◌, ◌∷◌, [], ℕ, ◌<◌, List, map, take, length, get_or, refl, sym, ap, ◌∙◌, arith, ℤ, pos}
use Rattle.std.specs.Prelude.{Option, Some, None, flat_map, option_map, unwrap_or, string_bytes}
use Rattle.std.proofs.lemmas.List.{take_more, get_or-map, flat_map_more}
use Rattle.metrics_core.specs.declared.numbers.Fixed.{Fixed}
use Rattle.metrics_core.specs.Fixed.{of_billionths}
use Rattle.metrics_registry.specs.Quantiles.{nearest_rank}
use Rattle.distribution_rows.specs.Lines.{quantile_line, value_line}
use Rattle.distribution_rows.proofs.parts.push_quantiles.Goals as goal

same_value : (o : Option ℤ) → unwrap_or (option_map (λ (v : Fixed). v.0) (option_map of_billionths o)) (pos 0) ≡ unwrap_or o (pos 0)
same_value None = refl
same_value (Some v) = refl

value_here : (values : List (Option Fixed)) (qs : List ℕ) (bag : List ℤ) (i q : ℕ) (d : Option Fixed) → values ≡ map (λ p. option_map of_billionths (nearest_rank p bag)) qs → i < length qs → q ≡ get_or qs i q
    → unwrap_or (option_map (λ (v : Fixed). v.0) (get_or values i d)) (pos 0) ≡ unwrap_or (nearest_rank q bag) (pos 0)
value_here values qs bag i q d are within is =
    ap (λ o. unwrap_or (option_map (λ (v : Fixed). v.0) o) (pos 0)) (ap (λ l. get_or l i d) are ∙ get_or-map (λ p. option_map of_billionths (nearest_rank p bag)) qs i q d within ∙ ap (λ p. option_map of_billionths (nearest_rank p bag)) (sym is))
    ∙ same_value (nearest_rank q bag)

pub loop-place-preserved : goal.loop-place-preserved
loop-place-preserved c =
    let name = c.args.name.now in
    let labels = c.args.labels.now in
    let qs = c.args.quantiles.now in
    let i = c.loop-place.place in
    let q = c.index-quantiles-place.result in
    let within : i < length qs = omega arith in
    let value = value_here c.as_slice-values.result.now qs c.args.bag.now i q _ (c.as_slice-values.ensures.value ∙ c.in_ok-values.ensures) within c.index-quantiles-place.is in
    c.in_ok-push_quantile.ensures
    ∙ (λ j. c.loop-place.invariant j ++ quantile_line name labels q (value j))
    ∙ flat_map_more (value_line name labels c.args.bag.now) (string_bytes c.args.buffer.now) (take i qs) q
    ∙ ap (λ l. string_bytes c.args.buffer.now ++ flat_map (value_line name labels c.args.bag.now) l) (ap (λ x. take i qs ++ x ∷ []) c.index-quantiles-place.is ∙ sym (take_more qs i q within))
