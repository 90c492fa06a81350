-- The keys of OPL lines: own rules of this project.
use Rattle.std.specs.Prelude.{◌≡◌, ◌⊎◌, ℕ, ℤ, Bool, true, false, not, ◌&&◌, ◌==◌, List, [], ◌∷◌, ◌++◌}
use Rattle.std.specs.Prelude.{Option, Some, None, Result, Ok, Err}
use Rattle.std.specs.Ordering.{is_lt}
use Rattle.osm_model.specs.declared.kind.Kind.{Kind}
use Rattle.osm_model.specs.declared.object.Key.{Key}
use Rattle.osm_model.specs.declared.object.Object.{Object}
use Rattle.osm_model.specs.Data.{VersionData}
use Rattle.osm_model.specs.Kind.{kind_letter}
use Rattle.osm_model.specs.Order.{key_of, key_order}
use Rattle.opl_line.specs.Content.{SpellsId, SpellsNumeral}
use Rattle.opl_line.specs.Delimiter.{is_blank, is_line_end, split_first}
use Rattle.opl_line.specs.Reading.{is_skipped, reading_object}
use Rattle.opl_line.specs.Spells.{Spells, SpellsNothing}
use Rattle.opl_line.specs.declared.reason.OplReason.{OplReason}
use Rattle.opl_line.specs.declared.reason.OplReason.TheVariants as opl

-- is the key below the key before it, if there is one?
abbrev pub is_key_below : Key → Option Key → Bool
is_key_below key None = false
is_key_below key (Some before) = is_lt (key_order key before)

-- the object of a kind and an id, if a field has them
abbrev pub object_if_read : Result (Kind × ℤ) OplReason → Option Object
object_if_read (Ok (kind, id)) = Some (record { kind = kind; id = id })
object_if_read (Err reason) = None

-- The object that a line names: that of its first field, if this is the letter of a kind and an id. The other fields
-- make no difference, so a line that spells no version may name an object.
unfoldable pub named_object : List ℕ → Option Object
named_object line = object_if_read (reading_object (split_first is_blank line).0)

-- the line isn't skipped, it names the key's object, and each version that it spells has this key
pub record IsKeyOf (line : List ℕ) (key : Key) : Type 0 where
  pub kept : is_skipped line ≡ false
  pub spelled : (v : VersionData) → Spells line v → key_of v ≡ key
  pub names : named_object line ≡ Some key.object

-- the first line of some bytes, without its end
abbrev pub first_line : List ℕ → List ℕ
first_line bytes = (split_first is_line_end bytes).0

-- the line at the front of the bytes has this key, whatever follows the bytes
abbrev pub IsKeyOfFront : List ℕ → Key → Type 0
IsKeyOfFront bytes key = (more : List ℕ) → IsKeyOf (first_line (bytes ++ more)) key

-- the result of reading the key of a line
abbrev pub IsKeyRead : List ℕ → Result (Option Key) OplReason → Type 0
IsKeyRead line (Ok (Some key)) = IsKeyOf line key
IsKeyRead line (Ok None) = is_skipped line ≡ true
IsKeyRead line (Err reason) = (reason ≡ opl.Memory) ⊎ SpellsNothing line

-- ---- the parts of a line of the usual form
-- a numeral, and then the rest
abbrev pub BeginsWithNumeral : List ℕ → ℕ → List ℕ → Type 0
BeginsWithNumeral text n rest = (digits : List ℕ) × (text ≡ digits ++ rest) × SpellsNumeral digits n

-- an id, and then the rest
abbrev pub BeginsWithId : List ℕ → ℤ → List ℕ → Type 0
BeginsWithId text id rest = (field : List ℕ) × (text ≡ field ++ rest) × SpellsId field id

-- an object, a space, `v` and a version number, and then the rest
pub record BeginsAsVersion (text : List ℕ) (key : Key) (rest : List ℕ) : Type 0 where
  pub id : List ℕ
  pub number : List ℕ
  pub is : text ≡ kind_letter key.object.kind ∷ (id ++ 32 ∷ 118 ∷ (number ++ rest))
  pub spells_id : SpellsId id key.object.id
  pub spells_number : SpellsNumeral number key.number

-- does the line or a field end before this text?
abbrev pub is_field_end : List ℕ → Bool
is_field_end [] = true
is_field_end (b ∷ bs) = b == 32

-- ---- the keys of several versions
-- do the keys of the versions not fall, from the key before them on?
abbrev pub keys_rise : Option Key → List VersionData → Bool
keys_rise before [] = true
keys_rise before (v ∷ versions) = not (is_key_below (key_of v) before) && keys_rise (Some (key_of v)) versions

-- the key of the last of the versions, or else the key before them
abbrev pub last_key : Option Key → List VersionData → Option Key
last_key before [] = before
last_key before (v ∷ versions) = last_key (Some (key_of v)) versions
