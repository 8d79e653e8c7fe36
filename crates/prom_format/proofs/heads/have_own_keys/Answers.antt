use Rattle.std.proofs.Common.{◌≡◌, false, sym, ap, ◌∙◌, arith}
use Rattle.std.proofs.lemmas.List.{nil_from_length}
use Rattle.prom_format.specs.LabelSets.{labels_of}
use Rattle.prom_format.specs.PlainKeys.{has_key, have_own_keys}
use Rattle.prom_format.proofs.OwnKeys.{found_is, label_set_own, own_step}
use Rattle.prom_format.proofs.heads.have_own_keys.Goals as goal
use Rattle.prom_format.proofs.heads.have_own_keys.Goals.{else-any_global-via-then-any_global+else-contains_key, else-any_global-via-else-any_global}

pub loop-label-preserved : goal.loop-label-preserved
loop-label-preserved c =
    let entries = c.args.globals.now.entries in
    let globals = labels_of entries in
    let label = c.in-Some.label.now in
    let others = c.in-Some.others.now in
    let fresh : has_key globals label.key ≡ false =
    elim c.else-any_global.branch [
      | else-any_global-via-then-any_global+else-contains_key w ↦
          sym (ap (has_key globals) w.key.ensures.text)
          ∙ sym (found_is w.key.result.now entries)
          ∙ sym w.contains_key.ensures
          ∙ w.if-contains_key.false
      | else-any_global-via-else-any_global w ↦
          ap (λ labels. has_key (labels_of labels) label.key) (nil_from_length entries (omega arith))
    ] in
    let apart : has_key others label.key ≡ false =
    ap (has_key others) (sym c.key-in-Some.ensures.text) ∙ sym c.has_key.ensures ∙ c.if-has_key.false in
    own_step (has_key globals label.key) (has_key others label.key) (have_own_keys globals others) fresh apart
    ∙ ap (have_own_keys globals) (sym c.in-Some.ensures.cases.0)
    ∙ c.loop-label.invariant

pub returns : goal.returns
returns c =
    let entries = c.args.globals.now.entries in
    let none = nil_from_length _ c.in_default.ensures.cases in
    let own = sym c.loop-label.invariant ∙ ap (have_own_keys (labels_of entries)) none in
    λ _. label_set_own entries c.args.labels.now c.len-any_global.ensures.unique own
