-- A property of each segment: the strings of its table have no zero byte, since a zero byte ends a string.
use Rattle.std.specs.Prelude.{ℕ, Bool, not, ◌&&◌, ◌==◌, List}
use Rattle.std.specs.List.{list_all}
use Rattle.o5_codec.specs.declared.read.segment.Segment.{Segment}
use Rattle.o5_codec.specs.Entry.{EntryStrings}

abbrev pub has_no_zero : List ℕ → Bool
has_no_zero bytes = list_all (λ b. not (b == 0)) bytes

abbrev pub is_entry : EntryStrings → Bool
is_entry e = has_no_zero e.first && has_no_zero e.second

-- no string of the table has a zero byte
abbrev pub is_sound : Segment → Bool
is_sound s = list_all is_entry s.table
