-- What the program's values stand for.
use Rattle.std.specs.Prelude.{ℕ, List, map, string_bytes}
use Rattle.std.specs.Option.{option_map}
use Rattle.std.specs.declared.string.String.{String}
use Rattle.std.specs.declared.alloc.Global.{Global}
use Rattle.metrics_core.specs.Keys.{LabelText}
use Rattle.metrics_core.specs.Outside.{Rose}
use Rattle.prom_format.specs.Pages as text
use Rattle.page_relay.specs.Merge.{IsConflict}
use Rattle.page_relay.specs.Streams.{IsFirstBadLine}
use Rattle.page_relay.specs.declared.faults.RelayFault.{RelayFault}
use Rattle.page_relay.specs.declared.faults.RelayFault.TheVariants as faults
use Rattle.page_relay.specs.declared.pages.Family.{Family}
use Rattle.page_relay.specs.declared.pages.Page.{Page}
use Rattle.page_relay.specs.declared.pages.PageRow.{PageRow}

abbrev pub label_of : String Global × String Global → LabelText
label_of label = record { key = string_bytes label.0; value = string_bytes label.1 }

abbrev pub row_of : PageRow → text.Row
row_of row = record { name = string_bytes row.name; labels = map label_of row.labels.items; value = row.value }

abbrev pub family_of : Family → text.Family
family_of family = record {
  help = option_map string_bytes family.help;
  name = string_bytes family.name;
  type = family.shape;
  rows = map row_of family.rows.items;
}

abbrev pub families_of : Page → List text.Family
families_of page = map family_of page.families.items

-- the cause of a refused reading: bytes that are no stream, with their first bad line; want of memory is free
abbrev pub IsReadingFault : List ℕ → RelayFault → Type 0
IsReadingFault bytes (faults.Syntax line) = IsFirstBadLine bytes line
IsReadingFault bytes (faults.Conflict page name) = ⊥
IsReadingFault bytes faults.WriteFault = ⊥
IsReadingFault bytes faults.Memory = Unit {0}

-- the cause of a refused writing: the faults of the sink rose; want of memory is free
abbrev pub IsWritingFault : ℕ → ℕ → RelayFault → Type 0
IsWritingFault old new (faults.Syntax line) = ⊥
IsWritingFault old new (faults.Conflict page name) = ⊥
IsWritingFault old new faults.WriteFault = Rose old new
IsWritingFault old new faults.Memory = Unit {0}

-- the cause of a refused merge: a family that doesn't merge with those before it; want of memory is free
abbrev pub IsMergeFault : List (List text.Family) → RelayFault → Type 0
IsMergeFault pages (faults.Syntax line) = ⊥
IsMergeFault pages (faults.Conflict page name) = IsConflict pages page (string_bytes name)
IsMergeFault pages faults.WriteFault = ⊥
IsMergeFault pages faults.Memory = Unit {0}
