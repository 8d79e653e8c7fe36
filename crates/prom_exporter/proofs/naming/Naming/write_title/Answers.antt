use Rattle.std.proofs.Common.{◌≡◌, List, ℕ, ◌++◌, None, sym, ap, subst, ◌∙◌}
use Rattle.std.specs.Prelude.{Option, option_map, option_and_then, if◌then◌else◌, string_bytes}
use Rattle.std.specs.Option.{option_copied}
use Rattle.std.proofs.lemmas.Result.{on_ok_weaker}
use Rattle.metrics_core.specs.declared.units.Unit.{Unit as UnitOf}
use Rattle.metric_descriptions.specs.Said.{said}
use Rattle.prom_format.specs.Names.{full_name}
use Rattle.prom_format.specs.Lines.{help_line, type_line}
use Rattle.prom_exporter.specs.Naming.{NamingText, unit_in, shown_name, title_text}
use Rattle.prom_exporter.proofs.Titles.{unit_found, titled, titled_plain}
use Rattle.prom_exporter.proofs.naming.Naming.write_title.Goals as goal
use Rattle.prom_exporter.proofs.naming.Naming.write_title.Goals.{in-Some+in_ok-write_help_line, in_default}

abbrev naming_of : goal.After-write_type_line → NamingText
naming_of c = record { units = c.self.inside.units; published = c.self.inside.descriptions.now.published }

-- the unit is the one that stands in names
unit_is : (c : goal.After-write_type_line) → c.shown_unit-unit.result ≡ unit_in (naming_of c) (string_bytes c.args.name.now)
unit_is c =
    let P : NamingText → Type 0 = λ n. c.shown_unit-unit.result ≡ (if n.units then option_and_then (λ (w : List ℕ × Option UnitOf). w.1) (option_map said c.of-described.result) else None) in
    unit_found (naming_of c) (string_bytes c.args.name.now) c.of-described.result c.of-described.ensures c.shown_unit-unit.result (subst P (sym c.self.view_is) c.shown_unit-unit.ensures)

pub returns-clause-title : goal.returns-clause-title
returns-clause-title c =
    let naming = naming_of c in
    let name = string_bytes c.args.name.now in
    let suffix = option_copied c.args.suffix in
    let type = c.args.metric_type.now in
    let unit = c.shown_unit-unit.result in
    let before = string_bytes c.args.buffer.now in
    let whole = ap (λ (n : NamingText). before ++ title_text n suffix type name) c.self.view_is in
    elim c.match-described.branch [
      | in-Some+in_ok-write_help_line w ↦ on_ok_weaker c.write_type_line.result
          (λ is. is
          ∙ ap (λ n. string_bytes c.match-described.buffer ++ type_line n unit suffix type) c.as_str-2.ensures.value
          ∙ ap (λ l. l ++ type_line name unit suffix type)
          (ap string_bytes w.buffer-is ∙ w.in_ok-write_help_line.ensures.ok ∙ ap (λ n. before ++ help_line n unit suffix w.in-Some.described.text.now) w.as_str-in-Some.ensures.value)
          ∙ titled naming name c.of-described.result c.of-described.ensures suffix type unit (unit_is c) before w.in-Some.described w.in-Some.is
          ∙ whole) c.write_type_line.ensures.ok
      | in_default w ↦ on_ok_weaker c.write_type_line.result
          (λ is. is
          ∙ ap (λ n. string_bytes c.match-described.buffer ++ type_line n unit suffix type) c.as_str-2.ensures.value
          ∙ ap (λ l. l ++ type_line name unit suffix type) (ap string_bytes w.buffer-is)
          ∙ titled_plain naming name c.of-described.result c.of-described.ensures suffix type unit (unit_is c) before w.in_default.is
          ∙ whole) c.write_type_line.ensures.ok
    ]

pub returns-clause-named : goal.returns-clause-named
returns-clause-named c =
    let name = string_bytes c.args.name.now in
    let suffix = option_copied c.args.suffix in
    on_ok_weaker c.write_type_line.result
    (λ is. c.in_ok-write_full_name.ensures.ok
    ∙ (λ j. (c.clear.ensures.bytes j) ++ full_name (c.as_str.ensures.value j) (unit_is c j) suffix)
    ∙ ap (λ (n : NamingText). shown_name n suffix name) c.self.view_is) c.write_type_line.ensures.ok
