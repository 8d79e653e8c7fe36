use Rattle.std.proofs.Common.{◌≡◌, false, [], ◌∷◌, sym, ap, ◌∙◌, rules}
use Rattle.std.specs.Prelude.{codes, string_bytes}
use Rattle.std.specs.List.{list_any}
use Rattle.std.proofs.lemmas.Bool.{false≢true}
use Rattle.std.proofs.lemmas.Slice.Eq.{bytes_eq-Decides}
use Rattle.metrics_core.specs.Keys.{KeyText}
use Rattle.prom_format.specs.LabelSets.{labels_of}
use Rattle.prom_format.specs.Lines.{head_text}
use Rattle.prom_format.specs.Names.{sanitized_metric_name}
use Rattle.prom_format.specs.PlainKeys.{has_key}
use Rattle.prom_format.proofs.OwnKeys.{found_is}
use Rattle.drive_script.specs.Heads.{shows_overflow}
use Rattle.drive_script.specs.Valid.{Head, head_of}
use Rattle.drive_script.proofs.Overflow.{globals_shown, others_apart, texts_told}
use Rattle.drive_script.proofs.heads.Heads.prints_as_overflow.Goals as goal

pub returns-then-not-shows_overflow : goal.returns-then-not-shows_overflow
returns-then-not-shows_overflow c =
    let entries = c.args.self.now.globals.entries in
    let globals = labels_of entries in
    let key = c.args.key.now in
    let not_found : c.contains_key.result ≡ false = search rules in
    let not_shown : c.shows_overflow.result ≡ false = search rules in
    let no_global : has_key globals (codes "overflow") ≡ false = sym (found_is (codes "overflow") entries) ∙ sym c.contains_key.ensures ∙ not_found in
    let none : list_any shows_overflow key.labels ≡ false = sym c.shows_overflow.ensures ∙ not_shown in (
      λ is. absurd (false≢true is),
      λ alike. absurd (others_apart globals key (sanitized_metric_name key.name) (globals_shown entries no_global) none alike),
    )

pub returns : goal.returns
returns c =
    let globals = labels_of c.args.self.now.globals.entries in
    let key = c.args.key.now in
    let overflow : KeyText = record { name = sanitized_metric_name key.name; labels = record { key = codes "overflow"; value = codes "true" } ∷ [] } in
    let text = λ (h : Head). head_text h.name h.labels in
    let made : c.from_parts-overflow.result ≡ overflow =
    c.from_parts-overflow.ensures.parts
    ∙ (λ j. record { name = (c.from.ensures ∙ c.requires) j; labels = (c.in_ok-vec.ensures.items ∙ ap (λ l. l ∷ []) c.from_static_parts-label.ensures.parts) j }) in
    let first : string_bytes c.in_ok-head.head ≡ text (head_of globals key) = c.in_ok-head.ensures.head in
    let second : string_bytes c.in_ok-row_head.field-0 ≡ text (head_of globals overflow) = c.in_ok-row_head.ensures.head ∙ ap (λ (k : KeyText). text (head_of globals k)) made in
    let tells = bytes_eq-Decides (string_bytes c.in_ok-head.head) (string_bytes c.in_ok-row_head.field-0) in (
      λ is. texts_told globals key overflow (sym first ∙ tells.0 (sym c.eq.ensures ∙ is) ∙ second),
      λ alike. c.eq.ensures ∙ tells.1 (first ∙ ap text alike ∙ sym second),
    )
