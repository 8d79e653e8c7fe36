-- What a clause sees of the stored writes and of a copy of the map.
use Rattle.std.specs.Arc.{arc_value}
use Rattle.std.specs.declared.sync.Arc.{Arc}
use Rattle.evmap_contents.specs.declared.write.Write.{Write}
use Rattle.evmap_contents.specs.declared.write.Write.TheVariants.{Insert, Update, Clear, RemoveValue, RemoveEntry, Purge, Retain, Fit, FitAll, Reserve, RemovePlaces, SetMeta, Ready}
use Rattle.evmap_contents.specs.declared.write.Contents.{Contents}
use Rattle.evmap_contents.specs.declared.inner.Inner.{Inner}
use Rattle.value_bags.specs.Entries.{with_keys}

module _ {K L : Type 0} (plain : K → L) where
  -- a stored write, as the list of writes has it
  abbrev pub write_of : {V M P Z : Type 0} → Write K (Arc V Z) (Arc M Z) P → Write L V M P
  write_of (Insert k v) = Insert (plain k) (arc_value v)
  write_of (Update k v) = Update (plain k) (arc_value v)
  write_of (Clear k) = Clear (plain k)
  write_of (RemoveValue k v) = RemoveValue (plain k) (arc_value v)
  write_of (RemoveEntry k) = RemoveEntry (plain k)
  write_of Purge = Purge
  write_of (Retain k p) = Retain (plain k) p
  write_of (Fit k) = Fit (plain k)
  write_of FitAll = FitAll
  write_of (Reserve k n) = Reserve (plain k) n
  write_of (RemovePlaces places) = RemovePlaces places
  write_of (SetMeta m) = SetMeta (arc_value m)
  write_of Ready = Ready

  -- what a map shows: its entries in order, its meta, and whether it was published
  abbrev pub contents : {V M S P H : Type 0} → Inner K V M S P H → Contents L V M
  contents it = record { entries = with_keys plain it.map.entries; meta = arc_value it.meta; ready = it.ready }
