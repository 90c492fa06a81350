-- The bytes of a stored string, and the properties of its meaning.
use Rattle.std.specs.Prelude.{ℕ, ◌≡◌, ⊤, List, Ok, encode_utf8_all}
use Rattle.o5_codec.specs.declared.read.table_entry.Decoded.{Decoded}
use Rattle.o5_codec.specs.declared.read.table_entry.Decoded.TheVariants.{Uid, Text, Unknown}
use Rattle.o5_codec.specs.Text.{text_of, uid_of}

-- the bytes of the string
abbrev pub bytes_of : Decoded → List ℕ
bytes_of (Uid uid spelled) = spelled.items
bytes_of (Text text) = encode_utf8_all text
bytes_of (Unknown bytes) = bytes.items

-- the bytes spell the user id, or the text
abbrev pub IsMeant : Decoded → Type 0
IsMeant (Uid uid spelled) = uid_of spelled.items ≡ Ok uid
IsMeant (Text text) = text_of (encode_utf8_all text) ≡ Ok text
IsMeant (Unknown bytes) = ⊤
