-- The properties of the fields of an entry that is stored.
use Rattle.o5_codec.specs.declared.read.table_entry.TableEntry.TheInside.{Inside}
use Rattle.o5_codec.specs.Decoded.{IsMeant}

-- the meaning of each string agrees with its bytes
pub record IsTableEntry (e : Inside) : Type 0 where
  pub first : IsMeant e.first
  pub second : IsMeant e.second
