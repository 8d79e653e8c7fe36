use Rattle.std.proofs.Common.{◌≡◌, ◌+◌, ◌++◌, ℕ, List, [], Some, map, take, drop, sym, ap, subst, ◌∙◌, arith}
use Rattle.std.specs.Prelude.{flat_map, option_map, slice_get, string_bytes}
use Rattle.std.specs.Option.{option_copied}
use Rattle.std.proofs.lemmas.List.{length-map, take_all}
use Rattle.std.proofs.lemmas.Option.{slice_get-map}
use Rattle.std.proofs.lemmas.Result.{err_from_is_err_and}
use Rattle.metrics_core.specs.Characters.{line}
use Rattle.prom_format.specs.Pages.{type_text}
use Rattle.prom_exporter.specs.Naming.{shown_name, title_text}
use Rattle.prom_exporter.specs.Rows.{family_kept, kept_block, row_at}
use Rattle.prom_exporter.specs.Sending.{SendsMore, SendsPrefix}
use Rattle.prom_exporter.proofs.Printing.{blocks-all, blocks-next}
use Rattle.prom_exporter.proofs.Progress.{block_cut, block_more, block_none, block_stopped}
use Rattle.prom_exporter.proofs.pages.write_blocks.Given.{Over}
use Rattle.prom_exporter.proofs.pages.write_blocks.Goals as goal
use Rattle.prom_exporter.proofs.pages.write_blocks.Goals.{In-Some, In_ok-write_title, In_ok-write_family}

-- the family at the index
there : (g : Over) (c : In-Some g) → slice_get (map family_kept c.args.families.now.entries) c.loop-index.index ≡ Some (string_bytes c.in-Some.name.now, c.in-Some.places.now.items)
there g c = slice_get-map family_kept c.args.families.now.entries c.loop-index.index ∙ ap (option_map family_kept) (sym c.in-Some.ensures.entry)

-- so with its places as they are lent
placed : (g : Over) (c : In-Some g) (places : List ℕ) → places ≡ c.in-Some.places.now.items → slice_get (map family_kept c.args.families.now.entries) c.loop-index.index ≡ Some (string_bytes c.in-Some.name.now, places)
placed g c places same = there g c ∙ ap (λ (l : List ℕ). Some (string_bytes c.in-Some.name.now, l)) (sym same)

-- all blocks: those so far, this one and those behind it
whole : (g : Over) (c : In-Some g) → (let block = kept_block g.C.Shown.shown c.args.naming.now (option_copied c.args.suffix) c.args.family_type c.args.label_sets.now c.args.series.now in
    flat_map block (map family_kept c.args.families.now.entries) ≡ (flat_map block (take c.loop-index.index (map family_kept c.args.families.now.entries)) ++ block (string_bytes c.in-Some.name.now, c.in-Some.places.now.items)) ++ flat_map block (drop (c.loop-index.index + 1) (map family_kept c.args.families.now.entries)))
whole g c = blocks-all (kept_block g.C.Shown.shown c.args.naming.now (option_copied c.args.suffix) c.args.family_type c.args.label_sets.now c.args.series.now) (map family_kept c.args.families.now.entries) c.loop-index.index (string_bytes c.in-Some.name.now, c.in-Some.places.now.items) (there g c)

-- the lines above the rows wait
titled : (g : Over) (c : In_ok-write_title g) → string_bytes c.write_title.new.buffer ≡ string_bytes c.loop-index.buffer ++ title_text c.args.naming.now (option_copied c.args.suffix) (type_text c.args.family_type) (string_bytes c.in-Some.name.now)
titled g c =
    c.in_ok-write_title.ensures.title
    ∙ ap (λ word. string_bytes c.loop-index.buffer ++ title_text c.args.naming.now (option_copied c.args.suffix) word (string_bytes c.in-Some.name.now)) c.as_str.ensures.text

-- the rows were sent or wait
rowed : (g : Over) (c : In_ok-write_family g) → slice_get (map family_kept c.args.families.now.entries) c.loop-index.index ≡ Some (string_bytes c.in-Some.name.now, c.as_slice.result.now)
    → SendsMore (g.K.Sink.written c.loop-index.sink) (g.K.Sink.written c.write_family.new.sink) (string_bytes c.write_title.new.buffer) (string_bytes c.write_family.new.buffer)
    (flat_map (row_at g.C.Shown.shown (shown_name c.args.naming.now (option_copied c.args.suffix) (string_bytes c.in-Some.name.now)) c.args.label_sets.now c.args.series.now) c.in-Some.places.now.items)
rowed g c at =
    let P : List ℕ → List ℕ → Type 0 = λ name places. SendsMore (g.K.Sink.written c.loop-index.sink) (g.K.Sink.written c.write_family.new.sink) (string_bytes c.write_title.new.buffer) (string_bytes c.write_family.new.buffer) (flat_map (row_at g.C.Shown.shown name c.args.label_sets.now c.args.series.now) places) in
    subst (λ name. P name c.in-Some.places.now.items) (c.as_str-in-loop-index.ensures.value ∙ c.in_ok-write_title.ensures.named)
    (subst (P c.as_str-in-loop-index.result.now) c.as_slice.ensures.value (c.in_ok-write_family.ensures.sends (map family_kept c.args.families.now.entries) (string_bytes c.in-Some.name.now) at c.loop-index.invariant.printed).0)

pub returns-in_err-write_title-clause-sends : goal.returns-in_err-write_title-clause-sends
returns-in_err-write_title-clause-sends g c =
    let refusal = err_from_is_err_and c.from_residual.result c.from_residual.ensures.1 in
    rw refusal.1 (tt, block_none _ _ _ _ _ c.loop-index.invariant.sent _ _ _ (whole g (goal.at.returns-in_err-write_title-clause-sends g c).In-Some))

pub returns-in_err-write_family-clause-printed : goal.returns-in_err-write_family-clause-printed
returns-in_err-write_family-clause-printed g c =
    let at = goal.at.returns-in_err-write_family-clause-printed g c in
    c.write_family.ensures.printed (map family_kept c.args.families.now.entries) (string_bytes c.in-Some.name.now) (placed g at.In-Some c.as_slice.result.now c.as_slice.ensures.value) c.loop-index.invariant.printed

pub returns-in_err-write_family-clause-sends : goal.returns-in_err-write_family-clause-sends
returns-in_err-write_family-clause-sends g c =
    let refusal = err_from_is_err_and c.from_residual-in_err-write_family.result c.from_residual-in_err-write_family.ensures.1 in
    let at = goal.at.returns-in_err-write_family-clause-sends g c in
    let P : List ℕ → List ℕ → Type 0 = λ name places. SendsPrefix (g.K.Sink.written c.loop-index.sink) (g.K.Sink.written c.write_family.new.sink) (string_bytes c.write_title.new.buffer) (flat_map (row_at g.C.Shown.shown name c.args.label_sets.now c.args.series.now) places) in
    let prefix = subst (λ name. P name c.in-Some.places.now.items) (c.as_str-in-loop-index.ensures.value ∙ c.in_ok-write_title.ensures.named)
    (subst (P c.as_str-in-loop-index.result.now) c.as_slice.ensures.value (c.in_err-write_family.ensures.sends (map family_kept c.args.families.now.entries) (string_bytes c.in-Some.name.now) (placed g at.In-Some c.as_slice.result.now c.as_slice.ensures.value) c.loop-index.invariant.printed).1) in
    rw refusal.1 (tt, block_cut _ _ _ _ _ c.loop-index.invariant.sent _ _ _ _ (titled g at.In_ok-write_title) prefix (line []) _ _ (whole g at.In-Some))

pub returns-in_err-end_block-clause-printed : goal.returns-in_err-end_block-clause-printed
returns-in_err-end_block-clause-printed g c =
    let at = goal.at.returns-in_err-end_block-clause-printed g c in
    c.in_ok-write_family.ensures.printed (map family_kept c.args.families.now.entries) (string_bytes c.in-Some.name.now) (placed g at.In-Some c.as_slice.result.now c.as_slice.ensures.value) c.loop-index.invariant.printed

pub returns-in_err-end_block-clause-sends : goal.returns-in_err-end_block-clause-sends
returns-in_err-end_block-clause-sends g c =
    let refusal = err_from_is_err_and c.from_residual-in_err-end_block.result c.from_residual-in_err-end_block.ensures.1 in
    let at = goal.at.returns-in_err-end_block-clause-sends g c in
    let rows = rowed g at.In_ok-write_family (placed g at.In-Some c.as_slice.result.now c.as_slice.ensures.value) in
    rw refusal.1 (tt, block_stopped _ _ _ _ _ c.loop-index.invariant.sent _ _ _ _ (titled g at.In_ok-write_title) _ rows (line []) _ _ (whole g at.In-Some))

pub loop-index-preserved : goal.loop-index-preserved
loop-index-preserved g c =
    let at = goal.at.loop-index-preserved g c in
    let block = kept_block g.C.Shown.shown c.args.naming.now (option_copied c.args.suffix) c.args.family_type c.args.label_sets.now c.args.series.now in
    let rows = rowed g at.In_ok-write_family (placed g at.In-Some c.as_slice.result.now c.as_slice.ensures.value) in
    record {
      printed = c.in_ok-write_family.ensures.printed (map family_kept c.args.families.now.entries) (string_bytes c.in-Some.name.now) (placed g at.In-Some c.as_slice.result.now c.as_slice.ensures.value) c.loop-index.invariant.printed;
      sent = block_more _ _ _ _ _ c.loop-index.invariant.sent _ _ _ _ (titled g at.In_ok-write_title) _ rows _ (line []) _ c.in_ok-end_block.ensures (blocks-next block (map family_kept c.args.families.now.entries) c.loop-index.index (string_bytes c.in-Some.name.now, c.in-Some.places.now.items) (there g at.In-Some));
      never_falls = omega (arith, c.in_ok-write_family.ensures.fails.2);
    }

pub returns-clause-sends : goal.returns-clause-sends
returns-clause-sends g c =
    let many = length-map c.args.families.now.entries family_kept in
    let block = kept_block g.C.Shown.shown c.args.naming.now (option_copied c.args.suffix) c.args.family_type c.args.label_sets.now c.args.series.now in
    let P : List ℕ → Type 0 = SendsMore (g.K.Sink.written c.args.sink.now) (g.K.Sink.written c.loop-index.sink) (string_bytes c.args.buffer.now) (string_bytes c.loop-index.buffer) in
    (subst P (ap (flat_map block) (take_all c.loop-index.index (map family_kept c.args.families.now.entries) (omega (arith, many, c.len-index-end.ensures.len)))) c.loop-index.invariant.sent, tt)
