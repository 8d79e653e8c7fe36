use Rattle.std.proofs.Common.{◌≡◌, ◌+◌, true, false, w32, w64, arith, sym, ap, subst, ◌∙◌, rules}
use Rattle.std.specs.Prelude.{pos, ◌-ℤ◌, int_lt, FitsSigned, unsigned_abs, neg_ℤ}
use Rattle.std.specs.Int.{cast_signed, cast_unsigned}
use Rattle.std.proofs.lemmas.Int.{ints, to_z-of_z}
use Rattle.std.proofs.lemmas.Result.{on_ok_weaker, on_err_weaker}
use Rattle.metrics_core.specs.Numbers.{in_64_bits}
use Rattle.native_histograms.specs.Filled.{buckets_text}
use Rattle.native_histograms.specs.Native.{index_of, is_positive, is_negative}
use Rattle.native_histograms.specs.Placed.{Sides, Places, Adds}
use Rattle.native_histograms.proofs.Filled.{lt-int_lt, adds_positive, adds_negative, adds_zero, opens_positive, opens_negative}
use Rattle.native_histograms.proofs.buckets.Buckets.add.Goals as goal

pub returns-then-value-threshold-clause-added : goal.returns-then-value-threshold-clause-added
returns-then-value-threshold-clause-added c =
    let v = c.args.value.0 in
    let n = c.args.count in
    let config = c.args.config.now in
    let depth = c.args.self.now.depth in
    let range = c.zero_threshold-threshold.ensures.in_range in
    let fits : FitsSigned w64 v = search rules in
    let found : FitsSigned w32 c.index_of-index.result = search rules in
    let threshold = c.zero_threshold-threshold.ensures.threshold in
    let over = c.if-value-threshold.true in
    let is : is_positive config v ≡ true = lt-int_lt config.threshold v (omega (arith, ints)) in
    let index : cast_signed w32 (cast_unsigned w32 c.index_of-index.result) ≡ index_of depth (unsigned_abs v) =
    to_z-of_z w32 c.index_of-index.result found ∙ c.index_of-index.ensures ∙ ap (index_of depth) (c.unsigned_abs.ensures.value ∙ ap unsigned_abs (to_z-of_z w64 v fits)) in
    let old : Sides = record { depth = depth; side = c.args.self.now.positive.entries; other = c.args.self.now.negative.entries } in
    let new : Sides = record { depth = c.place.new.depth; side = c.place.new.side.entries; other = c.place.new.other.entries } in
    on_ok_weaker c.place.result (λ placed.
    adds_positive config range v n fits c.requires is old new c.args.self.now.zeros
    (subst (λ k. Places config.max_buckets old (k, n) new) index (subst (λ m. Places m old (cast_signed w32 (cast_unsigned w32 c.index_of-index.result), n) new) c.max_buckets-most.ensures placed)))
    c.place.ensures.placed

pub returns-then-value-threshold-2-clause-added : goal.returns-then-value-threshold-2-clause-added
returns-then-value-threshold-2-clause-added c =
    let v = c.args.value.0 in
    let n = c.args.count in
    let config = c.args.config.now in
    let depth = c.args.self.now.depth in
    let range = c.zero_threshold-threshold.ensures.in_range in
    let least = range.threshold in
    let fits : FitsSigned w64 v = search rules in
    let bounds : FitsSigned w64 c.zero_threshold-threshold.result.0 = search rules in
    let found : FitsSigned w32 c.index_of-index-then-value-threshold-2.result = search rules in
    let threshold = c.zero_threshold-threshold.ensures.threshold in
    let at_most : is_positive config v ≡ false =
    (λ j. int_lt (sym (to_z-of_z w64 c.zero_threshold-threshold.result.0 bounds ∙ threshold) j) (sym (to_z-of_z w64 v fits) j)) ∙ c.if-value-threshold.false in
    let under = c.if-value-threshold-2.true in
    let is : is_negative config v ≡ true = lt-int_lt v (neg_ℤ config.threshold) (omega (arith, ints)) in
    let index : cast_signed w32 (cast_unsigned w32 c.index_of-index-then-value-threshold-2.result) ≡ index_of depth (unsigned_abs v) =
    to_z-of_z w32 c.index_of-index-then-value-threshold-2.result found ∙ c.index_of-index-then-value-threshold-2.ensures
    ∙ ap (index_of depth) (c.unsigned_abs-then-value-threshold-2.ensures.value ∙ ap unsigned_abs (to_z-of_z w64 v fits)) in
    let old : Sides = record { depth = depth; side = c.args.self.now.negative.entries; other = c.args.self.now.positive.entries } in
    let new : Sides = record { depth = c.place-then-value-threshold-2.new.depth; side = c.place-then-value-threshold-2.new.side.entries; other = c.place-then-value-threshold-2.new.other.entries } in
    on_ok_weaker c.place-then-value-threshold-2.result (λ placed.
    adds_negative config range v n fits c.requires at_most is old new c.args.self.now.zeros
    (subst (λ k. Places config.max_buckets old (k, n) new) index
    (subst (λ m. Places m old (cast_signed w32 (cast_unsigned w32 c.index_of-index-then-value-threshold-2.result), n) new) c.max_buckets-most.ensures placed)))
    c.place-then-value-threshold-2.ensures.placed

pub returns-else-value-threshold-2-clause-added : goal.returns-else-value-threshold-2-clause-added
returns-else-value-threshold-2-clause-added c =
    let v = c.args.value.0 in
    let n = c.args.count in
    let config = c.args.config.now in
    let range = c.zero_threshold-threshold.ensures.in_range in
    let least = range.threshold in
    let fits : FitsSigned w64 v = search rules in
    let bounds : FitsSigned w64 c.zero_threshold-threshold.result.0 = search rules in
    let threshold = c.zero_threshold-threshold.ensures.threshold in
    let at_most : is_positive config v ≡ false =
    (λ j. int_lt (sym (to_z-of_z w64 c.zero_threshold-threshold.result.0 bounds ∙ threshold) j) (sym (to_z-of_z w64 v fits) j)) ∙ c.if-value-threshold.false in
    let minus : cast_signed w64 (cast_unsigned w64 (pos 0 -ℤ cast_signed w64 (cast_unsigned w64 c.zero_threshold-threshold.result.0))) ≡ neg_ℤ config.threshold = omega (arith, ints) in
    let at_least : is_negative config v ≡ false = (λ j. int_lt (sym (to_z-of_z w64 v fits) j) (sym minus j)) ∙ c.if-value-threshold-2.false in
    subst (λ m. Adds config (buckets_text c.args.self.now) (v, n) (record (buckets_text c.args.self.now) { zeros = in_64_bits (c.args.self.now.zeros + m) })) (sym c.from.ensures)
    (adds_zero config v n fits c.requires at_most at_least (buckets_text c.args.self.now))

pub returns-then-value-threshold-clause-opens : goal.returns-then-value-threshold-clause-opens
returns-then-value-threshold-clause-opens c =
    let v = c.args.value.0 in
    let config = c.args.config.now in
    let fits : FitsSigned w64 v = search rules in
    let found : FitsSigned w32 c.index_of-index.result = search rules in
    let threshold = c.zero_threshold-threshold.ensures.threshold in
    let over = c.if-value-threshold.true in
    let is : is_positive config v ≡ true = lt-int_lt config.threshold v (omega (arith, ints)) in
    let index : cast_signed w32 (cast_unsigned w32 c.index_of-index.result) ≡ index_of c.args.self.now.depth (unsigned_abs v) =
    to_z-of_z w32 c.index_of-index.result found ∙ c.index_of-index.ensures ∙ ap (index_of c.args.self.now.depth) (c.unsigned_abs.ensures.value ∙ ap unsigned_abs (to_z-of_z w64 v fits)) in
    on_err_weaker c.place.result (opens_positive config c.args.self.now.depth c.args.self.now.positive.entries c.args.self.now.negative.entries v (cast_signed w32 (cast_unsigned w32 c.index_of-index.result)) is index) c.place.ensures.absent

pub returns-then-value-threshold-2-clause-opens : goal.returns-then-value-threshold-2-clause-opens
returns-then-value-threshold-2-clause-opens c =
    let v = c.args.value.0 in
    let config = c.args.config.now in
    let range = c.zero_threshold-threshold.ensures.in_range in
    let least = range.threshold in
    let fits : FitsSigned w64 v = search rules in
    let bounds : FitsSigned w64 c.zero_threshold-threshold.result.0 = search rules in
    let found : FitsSigned w32 c.index_of-index-then-value-threshold-2.result = search rules in
    let threshold = c.zero_threshold-threshold.ensures.threshold in
    let at_most : is_positive config v ≡ false =
    (λ j. int_lt (sym (to_z-of_z w64 c.zero_threshold-threshold.result.0 bounds ∙ threshold) j) (sym (to_z-of_z w64 v fits) j)) ∙ c.if-value-threshold.false in
    let under = c.if-value-threshold-2.true in
    let is : is_negative config v ≡ true = lt-int_lt v (neg_ℤ config.threshold) (omega (arith, ints)) in
    let index : cast_signed w32 (cast_unsigned w32 c.index_of-index-then-value-threshold-2.result) ≡ index_of c.args.self.now.depth (unsigned_abs v) =
    to_z-of_z w32 c.index_of-index-then-value-threshold-2.result found ∙ c.index_of-index-then-value-threshold-2.ensures
    ∙ ap (index_of c.args.self.now.depth) (c.unsigned_abs-then-value-threshold-2.ensures.value ∙ ap unsigned_abs (to_z-of_z w64 v fits)) in
    on_err_weaker c.place-then-value-threshold-2.result
    (opens_negative config c.args.self.now.depth c.args.self.now.positive.entries c.args.self.now.negative.entries v (cast_signed w32 (cast_unsigned w32 c.index_of-index-then-value-threshold-2.result)) at_most is index)
    c.place-then-value-threshold-2.ensures.absent
