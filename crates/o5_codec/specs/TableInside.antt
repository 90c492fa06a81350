-- The properties of the fields of a table that is written.
use Rattle.std.specs.Prelude.{◌≡◌, ◌^◌, reverse}
use Rattle.std.specs.HashMap as hash
use Rattle.o5_codec.specs.declared.write.indexed_table.IndexedTable.TheInside.{Inside}
use Rattle.o5_codec.specs.Table.{table_limit}
use Rattle.o5_codec.specs.Formed.{same_entry}
use Rattle.o5_codec.specs.Indexed.{IsIndexed}

-- the ring has room for `table_limit` entries, its entries are distinct, and the map has exactly the entries of the
-- ring, each with its number
pub record IsTable (t : Inside) : Type 0 where
  pub capacity : t.ring.capacity ≡ table_limit
  pub indexed : IsIndexed (2 ^ 64) table_limit t.next (reverse t.ring.items) (λ e. hash.get_by (same_entry e) t.numbers)
