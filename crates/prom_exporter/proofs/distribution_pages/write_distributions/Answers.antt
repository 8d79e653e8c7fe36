use Rattle.std.proofs.Common.{◌≡◌, ◌++◌, ℕ, List, map, sym, ap, subst, ◌∙◌, arith, append-nil}
use Rattle.std.specs.Prelude.{Option, flat_map, string_bytes}
use Rattle.std.specs.Map.Iter.{deref_pair}
use Rattle.std.proofs.lemmas.Map.Iter.{rest_so_far, rest_all}
use Rattle.std.proofs.lemmas.Result.{err_from_is_err_and}
use Rattle.metrics_core.specs.Keys.{LabelText}
use Rattle.prom_exporter.specs.Rows.{RowsText, family_kept}
use Rattle.distributions.specs.Kinds.{kind_for}
use Rattle.prom_exporter.specs.SampledRows.{shown_word, block_under, sampled_block}
use Rattle.prom_exporter.specs.Sending.{SendsMore, SendsPrefix}
use Rattle.prom_exporter.proofs.Progress.{sends_behind, sends_prefix_behind, sends_prefix_more}
use Rattle.prom_exporter.proofs.Written.{blocks, blocks-yielded_push, blocks-yielded_more}
use Rattle.prom_exporter.proofs.distribution_pages.write_distributions.Given.{Over}
use Rattle.prom_exporter.proofs.distribution_pages.write_distributions.Goals as goal
use Rattle.prom_exporter.proofs.distribution_pages.write_distributions.Goals.{In-Some}

-- the block of this family
block_is : (g : Over) (c : In-Some g) (globals : List LabelText) (t : ℕ) (word : Option (List ℕ)) (name places : List ℕ) → word ≡ shown_word (kind_for c.args.distributions.now name) → name ≡ string_bytes c.in-Some.name.now → places ≡ c.in-Some.places.now.items
    → block_under c.args.naming.now globals t c.args.series.now word (string_bytes c.in-Some.name.now, places) ≡ sampled_block c.args.naming.now globals t c.args.series.now c.args.distributions.now (family_kept (deref_pair (c.in-Some.name, c.in-Some.places)))
block_is g c globals t word name places shown named placed =
    ap (λ w. block_under c.args.naming.now globals t c.args.series.now w (string_bytes c.in-Some.name.now, places)) (shown ∙ ap (λ n. shown_word (kind_for c.args.distributions.now n)) named)
    ∙ ap (λ l. sampled_block c.args.naming.now globals t c.args.series.now c.args.distributions.now (string_bytes c.in-Some.name.now, l)) placed

-- all blocks: those so far, this one, and those behind it
whole : (g : Over) (c : In-Some g) (globals : List LabelText) (t : ℕ) → (let block = sampled_block c.args.naming.now globals t c.args.series.now c.args.distributions.now in
    flat_map block c.args.rows.now.families
    ≡ (blocks block family_kept (map deref_pair c.loop-name.yielded) ++ block (family_kept (deref_pair (c.in-Some.name, c.in-Some.places)))) ++ blocks block family_kept c.next.new.self)
whole g c globals t =
    let block = sampled_block c.args.naming.now globals t c.args.series.now c.args.distributions.now in
    ap (λ (r : RowsText). flat_map block r.families) (sym c.rows.view_is)
    ∙ blocks-yielded_more block family_kept deref_pair c.loop-name.yielded c.rows.inside.families.entries c.into_iter-name-iterator.result c.loop-name.name-iterator c.next.new.self (c.in-Some.name, c.in-Some.places) c.next.result
    (c.into_iter-name-iterator.ensures.into_iter_gives ∙ c.iter-name-items.ensures.rest) c.loop-name.yielded_by c.in-Some.is c.next.ensures.steps

pub returns-in_err-write_family-clause-prefix : goal.returns-in_err-write_family-clause-prefix
returns-in_err-write_family-clause-prefix g c =
    let refusal = err_from_is_err_and c.from_residual.result c.from_residual.ensures.1 in
    let at = goal.at.returns-in_err-write_family-clause-prefix g c in
    rw refusal.1 (λ globals shown.
    (let P : List ℕ → Type 0 = SendsPrefix (g.K.Sink.written c.args.sink.now) (g.K.Sink.written c.write_family.new.sink) (string_bytes c.args.buffer.now) in
    let Q : List ℕ → Type 0 = SendsPrefix (g.K.Sink.written c.loop-name.sink) (g.K.Sink.written c.write_family.new.sink) (string_bytes c.loop-name.buffer) in
    let here = subst Q (block_is g at.In-Some globals c.args.moment _ _ _ c.type_word-word.ensures c.as_str.ensures.value c.as_slice-places.ensures.value) (c.in_err-write_family.ensures.prefix globals shown) in
    subst P (sym (whole g at.In-Some globals c.args.moment)) (sends_prefix_more _ _ _ _ _ (sends_prefix_behind _ _ _ _ _ _ _ (c.loop-name.invariant.sent globals shown) here))))

pub loop-name-preserved : goal.loop-name-preserved
loop-name-preserved g c = record {
  sent = λ globals shown.
      (let at = goal.at.loop-name-preserved g c in
      let block = sampled_block c.args.naming.now globals c.args.moment c.args.series.now c.args.distributions.now in
      let P : List ℕ → Type 0 = SendsMore (g.K.Sink.written c.args.sink.now) (g.K.Sink.written c.write_family.new.sink) (string_bytes c.args.buffer.now) (string_bytes c.write_family.new.buffer) in
      let Q : List ℕ → Type 0 = SendsMore (g.K.Sink.written c.loop-name.sink) (g.K.Sink.written c.write_family.new.sink) (string_bytes c.loop-name.buffer) (string_bytes c.write_family.new.buffer) in
      let here = subst Q (block_is g at.In-Some globals c.args.moment _ _ _ c.type_word-word.ensures c.as_str.ensures.value c.as_slice-places.ensures.value) (c.in_ok-write_family.ensures.sent globals shown) in
      subst P (sym (blocks-yielded_push block family_kept deref_pair c.loop-name.yielded (c.in-Some.name, c.in-Some.places)))
      (sends_behind _ _ _ _ _ _ _ _ (c.loop-name.invariant.sent globals shown) here));
  never_falls = omega arith;
}

pub returns-clause-sent : goal.returns-clause-sent
returns-clause-sent g c = λ globals shown.
    (let block = sampled_block c.args.naming.now globals c.args.moment c.args.series.now c.args.distributions.now in
    let P : List ℕ → Type 0 = SendsMore (g.K.Sink.written c.args.sink.now) (g.K.Sink.written c.loop-name.sink) (string_bytes c.args.buffer.now) (string_bytes c.loop-name.buffer) in
    let gone = sym (c.into_iter-name-iterator.ensures.into_iter_gives ∙ c.iter-name-items.ensures.rest) ∙ rest_so_far deref_pair c.loop-name.yielded c.into_iter-name-iterator.result c.loop-name.name-iterator c.loop-name.yielded_by in
    let none = rest_all deref_pair c.loop-name.name-iterator c.next.new.self c.next.result c.in-None.is c.next.ensures.steps in
    let all = ap (λ (r : RowsText). flat_map block r.families) (sym c.rows.view_is) ∙ ap (blocks block family_kept) (gone ∙ ap (λ l. map deref_pair c.loop-name.yielded ++ l) none ∙ append-nil (map deref_pair c.loop-name.yielded)) in
    subst P (sym all) (c.loop-name.invariant.sent globals shown))
