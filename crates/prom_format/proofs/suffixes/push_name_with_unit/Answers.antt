use Rattle.std.proofs.Common.{◌≡◌, ◌++◌, ◌-◌, length, sym, ap, ◌∙◌, arith, subst, length-append, string_bytes}
use Rattle.std.specs.Str.{IsCharBoundary}
use Rattle.std.proofs.lemmas.Str.{IsCharBoundary-at_seam}
use Rattle.prom_format.specs.Names as names
use Rattle.prom_format.proofs.Kept.{Begins-append, Begins-trans}
use Rattle.prom_format.proofs.SuffixLemmas.{HasEnd-standing_suffix}
use Rattle.prom_format.proofs.suffixes.push_name_with_unit.Goals as goal

pub overflow_sub-name : goal.overflow_sub-name
overflow_sub-name c =
    let cut = HasEnd-standing_suffix c.args.name.now in
    let lengths = ap length cut.1 in
    let same = ap length c.standing_suffix-suffix.ensures in
    omega (arith, length-append cut.0 (names.standing_suffix c.args.name.now))

pub range-front-requires-clause-end_boundary : goal.range-front-requires-clause-end_boundary
range-front-requires-clause-end_boundary c =
    let name = c.args.name.now in
    let suffix = c.standing_suffix-suffix.result.now in
    let cut = HasEnd-standing_suffix name in
    let split : name ≡ cut.0 ++ suffix = cut.1 ∙ ap (λ s. cut.0 ++ s) (sym c.standing_suffix-suffix.ensures) in
    let lengths = ap length split in
    let front : length cut.0 ≡ length name - length suffix = omega (arith, length-append cut.0 suffix) in
    subst (IsCharBoundary name) front (IsCharBoundary-at_seam name cut.0 suffix split c.standing_suffix-suffix.utf8)

pub returns-in_err-push_word-clause-kept : goal.returns-in_err-push_word-clause-kept
returns-in_err-push_word-clause-kept c =
    let old = string_bytes c.args.buffer.now in
    Begins-trans old (string_bytes c.push_str-2.new.self) _ (Begins-append old _ _ c.in_ok-push_str-2.ensures.bytes) c.push_word.ensures.kept
