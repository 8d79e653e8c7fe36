-- The lines above the rows of a family, from what is said of its name.
use Rattle.std.proofs.Common.{◌≡◌, ℕ, List, ◌++◌, None, Some, refl, sym, ap, ◌∙◌, append_assoc}
use Rattle.std.specs.Prelude.{Option, option_map, option_and_then, if◌then◌else◌}
use Rattle.metrics_core.specs.declared.units.Unit.{Unit as UnitOf}
use Rattle.metric_descriptions.specs.declared.descriptions.Described.{Described}
use Rattle.metric_descriptions.specs.Descriptions.{Description, description_of}
use Rattle.metric_descriptions.specs.Said.{said}
use Rattle.metric_descriptions.specs.Written.{written}
use Rattle.prom_format.specs.Names.{full_name}
use Rattle.prom_format.specs.Printed.{canonical_description}
use Rattle.prom_format.specs.Lines.{help_line, type_line}
use Rattle.prom_format.specs.Pages.{help_text}
use Rattle.prom_exporter.specs.Naming.{NamingText, unit_in, help_in, title_text}

abbrev Words : Type 0
Words = List ℕ × Option UnitOf

help_written : (o : Option Description) → option_map (λ (d : Description). canonical_description d.text) o ≡ option_map (λ (w : Words). canonical_description w.0) (option_map written o)
help_written None = refl
help_written (Some d) = refl

unit_written : (o : Option Description) → option_and_then (λ (d : Description). d.unit) o ≡ option_and_then (λ (w : Words). w.1) (option_map written o)
unit_written None = refl
unit_written (Some d) = refl

module _ (naming : NamingText) (name : List ℕ) (described : Option Described) (is : option_map said described ≡ option_map written (description_of naming.published name)) where
  help_is : help_in naming name ≡ option_map (λ (w : Words). canonical_description w.0) (option_map said described)
  help_is = help_written (description_of naming.published name) ∙ ap (option_map (λ (w : Words). canonical_description w.0)) (sym is)

  -- the unit that was found is the one that stands in names
  pub unit_found : (unit : Option UnitOf) → unit ≡ (if naming.units then option_and_then (λ (w : Words). w.1) (option_map said described) else None) → unit ≡ unit_in naming name
  unit_found unit found = found ∙ ap (λ o. if naming.units then o else None) (ap (option_and_then (λ (w : Words). w.1)) is ∙ sym (unit_written (description_of naming.published name)))

  module _ (suffix : Option (List ℕ)) (type : List ℕ) (unit : Option UnitOf) (unit_is : unit ≡ unit_in naming name) (before : List ℕ) where
    abbrev title : List ℕ → Option (List ℕ) → Option UnitOf → List ℕ
    title b help u = b ++ (help_text (full_name name u suffix) help ++ type_line name u suffix type)

    pub titled_plain : described ≡ None → before ++ type_line name unit suffix type ≡ before ++ title_text naming suffix type name
    titled_plain none = ap (λ u. before ++ type_line name u suffix type) unit_is ∙ ap (λ help. title before help (unit_in naming name)) (sym (help_is ∙ ap (λ d. option_map (λ (w : Words). canonical_description w.0) (option_map said d)) none))

    pub titled : (d : Described) → described ≡ Some d → (before ++ help_line name unit suffix d.text.now) ++ type_line name unit suffix type ≡ before ++ title_text naming suffix type name
    titled d some =
        append_assoc before (help_line name unit suffix d.text.now) (type_line name unit suffix type)
        ∙ ap (λ u. title before (Some (canonical_description d.text.now)) u) unit_is
        ∙ ap (λ help. title before help (unit_in naming name)) (sym (help_is ∙ ap (λ o. option_map (λ (w : Words). canonical_description w.0) (option_map said o)) some))
