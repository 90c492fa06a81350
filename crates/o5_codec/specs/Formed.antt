-- The string table of a segment that is written (the OSM wiki's page on o5m).
-- Own rules of this project: each entry keeps its form, and a reference names only an entry of the same form.
use Rattle.std.specs.Prelude.{ℕ, ◌+◌, Bool, true, false, ◌&&◌, List, [], ◌∷◌, ◌++◌, take, Option, Some, None}
use Rattle.std.specs.Prelude.{if◌then◌else◌}
use Rattle.std.specs.Option.{option_map}
use Rattle.std.specs.Str.{bytes_eq}
use Rattle.o5_codec.specs.declared.strings.Form.{Form}
use Rattle.o5_codec.specs.declared.strings.Form.TheVariants.{Pair, Single}
use Rattle.o5_codec.specs.Entry.{EntryStrings}
use Rattle.o5_codec.specs.StringPair.{entry_of}
use Rattle.o5_codec.specs.Table.{table_limit, is_short}
use Rattle.o5_codec.specs.Shortest.{shortest_number}

-- a pair, or a single string, whose second string is empty
pub record FormedEntry : Type 0 where
  pub form : Form
  pub strings : EntryStrings

abbrev pub formed_entry : Form → List ℕ → List ℕ → FormedEntry
formed_entry form first second = record { form = form; strings = entry_of first second }

abbrev pub same_form : Form → Form → Bool
same_form Pair Pair = true
same_form Pair Single = false
same_form Single Pair = false
same_form Single Single = true

-- the form and both strings are equal
abbrev pub same_entry : FormedEntry → FormedEntry → Bool
same_entry x y =
    same_form x.form y.form && (bytes_eq x.strings.first y.strings.first && bytes_eq x.strings.second y.strings.second)

-- the inline form of strings
abbrev pub inline_bytes : Form → EntryStrings → List ℕ
inline_bytes Pair e = 0 ∷ e.first ++ 0 ∷ e.second ++ 0 ∷ []
inline_bytes Single e = 0 ∷ e.first ++ 0 ∷ []

-- the reference that names the entry, if the table has it; 1 is the one stored last
abbrev pub reference_to : FormedEntry → List FormedEntry → Option ℕ
reference_to e [] = None
reference_to e (x ∷ table) = if same_entry e x then Some 1 else option_map (λ n. n + 1) (reference_to e table)

-- the table after an inline entry
abbrev pub formed_table_with : FormedEntry → List FormedEntry → List FormedEntry
formed_table_with e table = if is_short e.strings then take table_limit (e ∷ table) else table

-- the bytes of an entry: its reference if it has one, else its inline form
abbrev pub strings_bytes : FormedEntry → Option ℕ → List ℕ
strings_bytes e None = inline_bytes e.form e.strings
strings_bytes e (Some n) = shortest_number n

-- the table after an entry is written: a reference stores nothing
abbrev pub formed_table_after : FormedEntry → Option ℕ → List FormedEntry → List FormedEntry
formed_table_after e None table = formed_table_with e table
formed_table_after e (Some n) table = table
