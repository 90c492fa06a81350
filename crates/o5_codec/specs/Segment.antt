-- The contents of a segment so far, and the steps of a data set before its body (the OSM wiki's page on o5m).
use Rattle.std.specs.Prelude.{ℕ, ℤ, ◌==◌, List, [], ◌∷◌, Option, Some, None, Result, Ok, Err, if◌then◌else◌}
use Rattle.osm_model.specs.declared.meta.Meta.{Meta}
use Rattle.o5_codec.specs.declared.reason.O5Reason.{O5Reason}
use Rattle.o5_codec.specs.declared.reason.O5Reason.TheVariants.{NoVersion}
use Rattle.o5_codec.specs.declared.base.Bases.{Bases}
use Rattle.o5_codec.specs.declared.read.segment.Segment.{Segment}
use Rattle.o5_codec.specs.Author.{Author}
use Rattle.o5_codec.specs.declared.strings.Form.TheVariants.{Pair}
use Rattle.o5_codec.specs.Results.{and_then}
use Rattle.o5_codec.specs.Entry.{EntryStrings}
use Rattle.o5_codec.specs.Number.{number_at, signed_at}
use Rattle.o5_codec.specs.Base.{moved_id, moved_number, within_range}
use Rattle.o5_codec.specs.StringPair.{strings_at}
use Rattle.o5_codec.specs.Text.{user_of}

-- a value, the segment after it, and the bytes after it
abbrev pub ReadStep : Type 0 → Type 0
ReadStep X = Result (X × Segment × List ℕ) O5Reason

abbrev pub with_bases : Segment → Bases → Segment
with_bases s bases = record s { bases = bases }

abbrev pub with_table : Segment → List EntryStrings → Segment
with_table s table = record s { table = table }

-- the object's id, by its difference to that of the object before it, of any kind
unfoldable pub id_at : Segment → List ℕ → ReadStep ℤ
id_at s bytes = and_then (signed_at bytes) (λ x. and_then (moved_id s.bases.id x.0) (λ id.
    Ok (id, with_bases s (record s.bases { id = id }), x.1)))

-- a version number from 1 to 4294967295, and the bytes after it
abbrev pub nonzero_version : ℕ × List ℕ → Result (ℕ × List ℕ) O5Reason
nonzero_version x = if x.0 == 0 then Err NoVersion else and_then (within_range x.0) (λ n. Ok (n, x.1))

unfoldable pub version_at : List ℕ → Result (ℕ × List ℕ) O5Reason
version_at bytes = and_then (number_at bytes) nonzero_version

-- a time; 0 is none
unfoldable pub time_at : Segment → List ℕ → ReadStep ℕ
time_at s bytes = and_then (signed_at bytes) (λ x. and_then (moved_number s.bases.time x.0) (λ time.
    Ok (time, with_bases s (record s.bases { time = time }), x.1)))

unfoldable pub changeset_at : Segment → List ℕ → ReadStep ℕ
changeset_at s bytes = and_then (signed_at bytes) (λ x. and_then (moved_number s.bases.changeset x.0) (λ changeset.
    Ok (changeset, with_bases s (record s.bases { changeset = changeset }), x.1)))

unfoldable pub user_at : Segment → List ℕ → ReadStep (ℕ × List ℕ)
user_at s bytes =
    and_then (strings_at Pair s.table bytes) (λ x. and_then (user_of x.0) (λ user. Ok (user, with_table s x.1, x.2)))

abbrev pub author : ℕ → ℕ → List ℕ → Author
author changeset uid user = record { changeset = changeset; uid = uid; user = user }

-- the user after a changeset; none if the data set ends (own rule of this project)
unfoldable pub author_after_changeset : ℕ × Segment × List ℕ → ReadStep Author
author_after_changeset (changeset, s, []) = Ok (author changeset 0 [], s, [])
author_after_changeset (changeset, s, b ∷ bytes) =
    and_then (user_at s (b ∷ bytes)) (λ x. Ok (author changeset x.0.0 x.0.1, x.1, x.2))

-- changeset and user; they are omitted if there is no time
unfoldable pub author_at : ℕ → Segment → List ℕ → ReadStep Author
author_at time s bytes =
    if time == 0 then Ok (author 0 0 [], s, bytes) else and_then (changeset_at s bytes) author_after_changeset

abbrev pub time_of : ℕ → Option ℕ
time_of time = if time == 0 then None else Some time

abbrev pub meta_of : ℕ → ℕ → Author → Meta
meta_of version time a =
    record { version = version; time = time_of time; changeset = a.changeset; uid = a.uid; user = a.user }

-- version number, time, changeset and user
unfoldable pub meta_at : Segment → List ℕ → ReadStep Meta
meta_at s bytes =
    and_then (version_at bytes) (λ v. and_then (time_at s v.1) (λ t. and_then (author_at t.0 t.1 t.2) (λ a.
    Ok (meta_of v.0 t.0 a.0, a.1, a.2))))

-- metadata, with its author replaced by the author that was read
abbrev pub and_author : Meta → ReadStep Author → ReadStep Meta
and_author m reading =
    and_then reading (λ a. Ok (record m { changeset = a.0.changeset; uid = a.0.uid; user = a.0.user }, a.1, a.2))

-- metadata, with its user replaced by the user that was read
abbrev pub and_user_read : Meta → ReadStep (ℕ × List ℕ) → ReadStep Meta
and_user_read m reading = and_then reading (λ x. Ok (record m { uid = x.0.0; user = x.0.1 }, x.1, x.2))
