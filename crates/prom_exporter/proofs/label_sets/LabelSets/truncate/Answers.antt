use Rattle.std.proofs.Common.{◌≤◌, ◌∷◌, length, take, sym, ap, subst, ◌∙◌, refl, arith}
use Rattle.std.specs.Prelude.{string_bytes, slice_index}
use Rattle.std.specs.Str.{IsUtf8}
use Rattle.prom_exporter.specs.Pieces.{pieces, AreCuts}
use Rattle.prom_exporter.proofs.PieceTexts.{are_front, length-pieces, split-there, take-everything}
use Rattle.prom_exporter.proofs.label_sets.LabelSets.truncate.Goals as goal

pub returns-then-count-len : goal.returns-then-count-len
returns-then-count-len c =
    let many = ap length (sym c.self.view_is) ∙ length-pieces (string_bytes c.self.inside.text) 0 c.self.inside.ends.items in
    sym (take-everything c.args.count c.args.self.now (let few : length c.args.self.now ≤ c.args.count = omega (arith, many, c.if-count-len.true, c.len.ensures, c.self.inside.ends.ok.0) in few))

pub truncate-requires-2 : goal.truncate-requires-2
truncate-requires-2 c = λ within. split-there _ _ _ refl (are_front (string_bytes c.self.inside.text) c.self.inside.ends.items c.args.count c.begin_at-end.result (subst IsUtf8 c.as_str-text.ensures.value c.as_str-text.utf8) (let few : c.args.count ≤ length c.self.inside.ends.items = omega (arith, c.if-count-len.false, c.len.ensures, c.self.inside.ends.ok.0) in few) (c.begin_at-end.ensures ∙ ap (λ l. slice_index (0 ∷ l) c.args.count) c.as_slice.ensures.value) c.self.invariant).boundary

pub invariant_of-self : goal.invariant_of-self
invariant_of-self c =
    let front = are_front (string_bytes c.self.inside.text) c.self.inside.ends.items c.args.count c.begin_at-end.result (subst IsUtf8 c.as_str-text.ensures.value c.as_str-text.utf8) (let few : c.args.count ≤ length c.self.inside.ends.items = omega (arith, c.if-count-len.false, c.len.ensures, c.self.inside.ends.ok.0) in few) (c.begin_at-end.ensures ∙ ap (λ l. slice_index (0 ∷ l) c.args.count) c.as_slice.ensures.value) c.self.invariant in
    subst (λ l. AreCuts l 0 c.truncate.new.self.items) (sym c.truncate-2.ensures.bytes) (subst (AreCuts (take c.begin_at-end.result (string_bytes c.self.inside.text)) 0) (sym c.truncate.ensures.items) front.cuts)

pub returns : goal.returns
returns c =
    let front = are_front (string_bytes c.self.inside.text) c.self.inside.ends.items c.args.count c.begin_at-end.result (subst IsUtf8 c.as_str-text.ensures.value c.as_str-text.utf8) (let few : c.args.count ≤ length c.self.inside.ends.items = omega (arith, c.if-count-len.false, c.len.ensures, c.self.inside.ends.ok.0) in few) (c.begin_at-end.ensures ∙ ap (λ l. slice_index (0 ∷ l) c.args.count) c.as_slice.ensures.value) c.self.invariant in
    (λ j. pieces (c.truncate-2.ensures.bytes j) 0 (c.truncate.ensures.items j)) ∙ front.texts ∙ ap (take c.args.count) c.self.view_is
