-- Texts in the strings of data sets (the OSM wiki's page on o5m).
use Rattle.std.specs.Prelude.{ℕ, ◌∷◌, List, [], Result, Ok, Err, if◌then◌else◌}
use Rattle.std.specs.Str.{chars, is_utf8}
use Rattle.osm_model.specs.declared.meta.Meta.{Meta}
use Rattle.osm_model.specs.declared.tags.Tag.{Tag}
use Rattle.o5_codec.specs.declared.reason.O5Reason.{O5Reason}
use Rattle.o5_codec.specs.declared.reason.O5Reason.TheVariants.{BadNumber, NotUtf8}
use Rattle.o5_codec.specs.Results.{and_then}
use Rattle.o5_codec.specs.Entry.{EntryStrings}
use Rattle.o5_codec.specs.Number.{number_at}
use Rattle.o5_codec.specs.Base.{within_range}

-- the characters of a string
unfoldable pub text_of : List ℕ → Result (List ℕ) O5Reason
text_of bytes = if is_utf8 bytes then Ok (chars bytes) else Err NotUtf8

-- a tag: its key and its value
unfoldable pub tag_of : EntryStrings → Result Tag O5Reason
tag_of e =
    and_then (text_of e.first) (λ key. and_then (text_of e.second) (λ value. Ok (record { key = key; value = value })))

-- a number that was read, if no bytes come after it
abbrev pub whole_number : ℕ × List ℕ → Result ℕ O5Reason
whole_number (n, []) = within_range n
whole_number (n, b ∷ bytes) = Err BadNumber

-- a user id; an empty string means 0
unfoldable pub uid_of : List ℕ → Result ℕ O5Reason
uid_of [] = Ok 0
uid_of (b ∷ bytes) = and_then (number_at (b ∷ bytes)) whole_number

-- a user id and a user name
unfoldable pub user_of : EntryStrings → Result (ℕ × List ℕ) O5Reason
user_of e = and_then (uid_of e.first) (λ uid. and_then (text_of e.second) (λ name. Ok (uid, name)))

-- metadata, with its user replaced by the user that was read
abbrev pub and_user : Meta → Result (ℕ × List ℕ) O5Reason → Result Meta O5Reason
and_user m reading = and_then reading (λ user. Ok (record m { uid = user.0; user = user.1 }))
