-- The string table of a segment (the OSM wiki's page on o5m), the newest entry first.
use Rattle.std.specs.Prelude.{ℕ, zero, suc, ◌+◌, Bool, nat_le, List, ◌∷◌, length, reverse, filter, take, slice_get}
use Rattle.std.specs.Prelude.{Option, None, if◌then◌else◌}
use Rattle.o5_codec.specs.Entry.{EntryStrings}

-- the most entries of a table
unfoldable pub table_limit : ℕ
table_limit = 15_000

-- the most bytes that the two strings of a stored entry have together. The zero bytes that end them aren't counted,
-- which is an own rule of this project.
abbrev pub longest_entry : ℕ
longest_entry = 250

-- an entry that is short enough to be stored
abbrev pub is_short : EntryStrings → Bool
is_short e = nat_le (length e.first + length e.second) longest_entry

-- the table after an inline entry
abbrev pub table_with : EntryStrings → List EntryStrings → List EntryStrings
table_with e table = if is_short e then take table_limit (e ∷ table) else table

-- the table after some inline entries, which come earliest first: the last `table_limit` of those that are short
abbrev pub table_of : List EntryStrings → List EntryStrings
table_of entries = take table_limit (reverse (filter is_short entries))

-- the entry of a reference; 1 is the one stored last
abbrev pub entry_at : List EntryStrings → ℕ → Option EntryStrings
entry_at table zero = None
entry_at table (suc n) = slice_get table n
