-- What a clause sees of a read handle and of a factory.
use Rattle.std.specs.Prelude.{◌≡◌, List, Option, Some}
use Rattle.std.specs.Option.{option_map}
use Rattle.std.specs.Arc.{arc_value}
use Rattle.std.specs.declared.alloc.Global.{Global}
use Rattle.left_right.specs.Sides.{view}
use Rattle.left_right.specs.declared.reader.Reader.{Reader}
use Rattle.left_right.specs.declared.reader.Factory.{Factory}
use Rattle.atomic_table.specs.Seated.{TableId}
use Rattle.evmap_core.specs.declared.known_fronts.KnownFronts.{KnownFronts}
use Rattle.evmap_core.specs.declared.store.Store.{Store}
use Rattle.evmap_core.specs.declared.published.Published.{Published}
use Rattle.evmap_core.specs.declared.factory.ReadHandleFactory.{ReadHandleFactory}
use Rattle.evmap_core.specs.declared.reader.ReadHandle.{ReadHandle}
use Rattle.evmap_contents.specs.declared.write.Write.{Write}
use Rattle.evmap_contents.specs.declared.write.Contents.{Contents}
use Rattle.evmap_core.specs.Stored.{writes_of}
use Rattle.evmap_core.specs.Front.{StartsWith, newcomer, IsFrontFor}

module _ {K V M P S L H : Type 0} where
  -- its reader; nothing while a guard has it, or where a guard was forgotten
  abbrev pub reader_of : ReadHandle K V M P S L H → Option (Reader (Store K V M P S L H) (KnownFronts L V M P) Published Global)
  reader_of h = h.reader

  -- what it has seen and was told of; nothing while a guard has its reader, or where a guard was forgotten
  abbrev pub known : ReadHandle K V M P S L H → Option (KnownFronts L V M P)
  known h = option_map (λ r. view r.place) h.reader

  -- the table at which its reader sits; nothing while a guard has it, or where a guard was forgotten
  abbrev pub seat_of : ReadHandle K V M P S L H → Option TableId
  seat_of h = option_map (λ r. r.place.table_id) h.reader

  -- the table at which the readers of a factory sit
  abbrev pub table_of : Factory (Store K V M P S L H) (KnownFronts L V M P) Published Global → TableId
  table_of from = (arc_value from.board).shared.table_id

  -- which map a factory is of: the table at which its readers sit
  abbrev pub map_of_factory : ReadHandleFactory K V M P S L H → TableId
  map_of_factory f = table_of f.from

  -- which map a read handle is of: that of the factory that it keeps
  abbrev pub map_of : ReadHandle K V M P S L H → TableId
  map_of h = map_of_factory h.factory

  -- a new handle of a map: its reader sits at the map's table, has seen nothing, and was told of nothing
  abbrev pub IsFresh : ReadHandle K V M P S L H → TableId → Type 0
  IsFresh h map = (known h ≡ Some newcomer) × (seat_of h ≡ Some map) × (map_of h ≡ map)

-- whatever front is shown to the reader of a handle begins with these writes
abbrev pub ShowsBehind : {K V M P S L H : Type 0} → (K → L) → (Contents L V M → Write L V M P → Contents L V M) → ReadHandle K V M P S L H → List (Write L V M P) → Type 0
ShowsBehind {K} {V} {M} {P} {S} {L} {H} plain step h writes = (x : Store K V M P S L H) (w : KnownFronts L V M P) → IsFrontFor plain step (known h) x w → StartsWith (writes_of plain x) writes
