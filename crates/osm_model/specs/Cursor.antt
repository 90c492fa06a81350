-- The rest of a canonical line from a position in the version on (own definitions of this project, for `LineBytes`).
use Rattle.std.specs.Prelude.{◌≡◌, ℕ, Bool, true, false, List, [], ◌∷◌, ◌++◌, ◌<◌, length, codes, Option, MatchOption}
use Rattle.std.specs.Str.{chars}
use Rattle.osm_model.specs.declared.line_bytes.Field.{Field}
use Rattle.osm_model.specs.declared.line_bytes.Field.TheVariants as field
use Rattle.osm_model.specs.declared.line_bytes.LinePosition.{LinePosition}
use Rattle.osm_model.specs.declared.line_bytes.LinePosition.TheVariants as position
use Rattle.osm_model.specs.declared.line_bytes.Continuation.{Continuation}
use Rattle.osm_model.specs.declared.line_bytes.Chunk.{Chunk}
use Rattle.osm_model.specs.declared.line_bytes.Chunk.TheVariants as chunk
use Rattle.osm_model.specs.declared.line_bytes.LineBytes.{LineBytes}
use Rattle.osm_model.specs.declared.small_buffer.SmallBuffer.{SmallBuffer}
use Rattle.osm_model.specs.Escape.{escape}
use Rattle.osm_model.specs.Joined.{join_with}
use Rattle.osm_model.specs.Data.{VersionData, tags_of}
use Rattle.osm_model.specs.Append.{head_text}
use Rattle.osm_model.specs.Line.{tag_text, reference_text, member_text, list_text, kind_fields}
use Rattle.osm_model.specs.SmallBuffer.{bytes_left}

-- items, each after a comma
abbrev pub more_text : {X : Type 0} → (X → List ℕ) → List X → List ℕ
more_text text [] = []
more_text text (x ∷ xs) = 44 ∷ (text x ++ more_text text xs)

-- items from the first on, or after the first
abbrev pub items_text : {X : Type 0} → Bool → (X → List ℕ) → List X → List ℕ
items_text true text xs = list_text text xs
items_text false text xs = more_text text xs

-- ---- the line from a field on
abbrev pub from_kind : VersionData → List ℕ
from_kind v = 32 ∷ join_with 32 (kind_fields v.body)

abbrev pub from_tags : VersionData → List ℕ
from_tags v = codes " T" ++ (list_text tag_text (tags_of v.body) ++ from_kind v)

abbrev pub from_head : VersionData → List ℕ
from_head v = head_text v ++ (escape v.user ++ from_tags v)

abbrev pub from_field : VersionData → Field → List ℕ
from_field v field.Head = from_head v
from_field v field.Tags = from_tags v
from_field v field.Kind = from_kind v

-- the line from a position on
abbrev pub bytes_from : VersionData → LinePosition → List ℕ
bytes_from v (position.Field f) = from_field v f
bytes_from v (position.Equals value tags) = codes "="
    ++ (escape value.now ++ (more_text tag_text tags.now ++ from_kind v))
bytes_from v (position.MoreTags tags) = more_text tag_text tags.now ++ from_kind v
bytes_from v (position.References is_first ids) = items_text is_first reference_text ids.now
bytes_from v (position.Members is_first members) = items_text is_first member_text members.now
bytes_from v (position.At role members) = codes "@" ++ (escape role.now ++ more_text member_text members.now)
bytes_from v position.End = []

-- a text, and then the line from a position on
abbrev pub from_next : VersionData → Continuation → List ℕ
from_next v next = escape (chars next.text.now) ++ bytes_from v next.position

-- `bytes` are those of the buffer, at least one, and then those of `next`
abbrev pub Emits : VersionData → List ℕ → SmallBuffer → Continuation → Type 0
Emits v bytes small_buffer next = (bytes ≡ bytes_left small_buffer ++ from_next v next) ×
    (0 < length (bytes_left small_buffer))

-- as `Emits`, with the continuation in `result`; but without bytes `result` is `None`
abbrev pub EmitsOrEnds : VersionData → List ℕ → SmallBuffer → Option Continuation → Type 0
EmitsOrEnds v bytes small_buffer result = MatchOption result (bytes ≡ []) (λ next. Emits v bytes small_buffer next)

-- the bytes of a chunk
abbrev pub chunk_text : Chunk → SmallBuffer → List ℕ
chunk_text chunk.SmallBuffer small_buffer = bytes_left small_buffer
chunk_text (chunk.Plain bytes) small_buffer = bytes.now

-- the remaining bytes of the current run
abbrev pub chunk_of : LineBytes → List ℕ
chunk_of c = chunk_text c.chunk c.small_buffer

-- the bytes after the current run
abbrev pub after_chunk : LineBytes → List ℕ
after_chunk c = from_next c.version.now c.next

-- all remaining bytes
abbrev pub remaining_bytes : LineBytes → List ℕ
remaining_bytes c = chunk_of c ++ after_chunk c
