-- Pairs of strings and single strings in a data set (the OSM wiki's page on o5m).
use Rattle.std.specs.Prelude.{ℕ, ◌+◌, Bool, ◌==◌, List, [], ◌∷◌, position, take, drop, Option, Some, None, Result, Ok}
use Rattle.std.specs.Prelude.{Err, if◌then◌else◌}
use Rattle.o5_codec.specs.declared.reason.O5Reason.{O5Reason}
use Rattle.o5_codec.specs.declared.reason.O5Reason.TheVariants.{BadText, BadReference}
use Rattle.o5_codec.specs.declared.strings.Form.{Form}
use Rattle.o5_codec.specs.declared.strings.Form.TheVariants.{Pair, Single}
use Rattle.o5_codec.specs.declared.read.strings.StringRef.{StringRef}
use Rattle.o5_codec.specs.declared.read.strings.StringRef.TheVariants.{Inline, Reference}
use Rattle.o5_codec.specs.Results.{and_then}
use Rattle.o5_codec.specs.Number.{number_at}
use Rattle.o5_codec.specs.Entry.{EntryStrings}
use Rattle.o5_codec.specs.Table.{table_with, entry_at}

abbrev pub is_zero : ℕ → Bool
is_zero b = b == 0

-- the bytes before the offset of a zero byte, and those after it
abbrev pub split_at_end : List ℕ → Option ℕ → Result (List ℕ × List ℕ) O5Reason
split_at_end bytes None = Err BadText
split_at_end bytes (Some end) = Ok (take end bytes, drop (end + 1) bytes)

-- the string at the front, which ends at the first zero byte, and the bytes after it
unfoldable pub string_at : List ℕ → Result (List ℕ × List ℕ) O5Reason
string_at bytes = split_at_end bytes (position is_zero bytes)

abbrev pub entry_of : List ℕ → List ℕ → EntryStrings
entry_of first second = record { first = first; second = second }

-- the strings after the zero byte that begins an inline pair or single string
unfoldable pub inline_at : Form → List ℕ → Result (EntryStrings × List ℕ) O5Reason
inline_at Pair bytes = and_then (string_at bytes) (λ x. and_then (string_at x.1) (λ y. Ok (entry_of x.0 y.0, y.1)))
inline_at Single bytes = and_then (string_at bytes) (λ x. Ok (entry_of x.0 [], x.1))

-- the inline pair or single string after its zero byte, as a `StringRef`
abbrev pub inline_spelled : Form → List ℕ → Result (StringRef × List ℕ) O5Reason
inline_spelled form bytes = and_then (inline_at form bytes) (λ x. Ok (Inline x.0, x.1))

-- the pair or single string at the front, and the bytes after it: inline after a zero byte, else a reference
unfoldable pub spelled_at : Form → List ℕ → Result (StringRef × List ℕ) O5Reason
spelled_at form [] = Err BadText
spelled_at form (b ∷ bytes) =
    if b == 0 then inline_spelled form bytes
    else and_then (number_at (b ∷ bytes)) (λ x. Ok (Reference x.0, x.1))

abbrev pub entry_or_fault : Option EntryStrings → Result EntryStrings O5Reason
entry_or_fault None = Err BadReference
entry_or_fault (Some e) = Ok e

-- the strings that are spelled. A reference names both strings of an entry, in whichever form the entry was stored,
-- which is an own rule of this project.
abbrev pub strings_of : List EntryStrings → StringRef → Result EntryStrings O5Reason
strings_of table (Inline e) = Ok e
strings_of table (Reference n) = entry_or_fault (entry_at table n)

-- the table after some strings; a reference stores nothing
abbrev pub table_after : StringRef → List EntryStrings → List EntryStrings
table_after (Inline e) table = table_with e table
table_after (Reference n) table = table

-- the strings at the front, the table after them, and the bytes after them
unfoldable pub strings_at : Form → List EntryStrings → List ℕ →
    Result (EntryStrings × List EntryStrings × List ℕ) O5Reason
strings_at form table bytes =
    and_then (spelled_at form bytes) (λ x. and_then (strings_of table x.0) (λ e. Ok (e, table_after x.0 table, x.1)))
