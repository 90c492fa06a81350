-- The keys of the data sets of o5 files: own rules of this project.
use Rattle.std.specs.Prelude.{◌≡◌, ◌⊎◌, ℕ, ℤ, pos, true, false, List, [], ◌∷◌, ◌++◌, length}
use Rattle.std.specs.Prelude.{Option, Some, None, Ok}
use Rattle.std.specs.List.{flat_map}
use Rattle.osm_model.specs.declared.object.Key.{Key}
use Rattle.o5_codec.specs.Base.{moved_id}
use Rattle.o5_codec.specs.Number.{SpellsNumber}
use Rattle.o5_codec.specs.Spelling.{NumberAtFront, SignedAtFront}
use Rattle.osm_files.specs.declared.set_key.KeyPart.{KeyPart}
use Rattle.osm_files.specs.LineKey.{is_key_below}
use Rattle.osm_files.specs.O5.{o5m_header, o5c_header, end_byte, is_lone, IsOtherType, FilePart}
use Rattle.osm_files.specs.O5.{Reset, Lone, Skipped, Object, part_bytes}

-- the content of a data set begins with this id, by its difference to the base, and with this version number
abbrev pub BeginsWithKey : ℤ → List ℕ → ℤ → ℕ → Type 0
BeginsWithKey base content id number = (difference : ℤ) × (after rest : List ℕ)
    × SignedAtFront content (difference, after) × (moved_id base difference ≡ Ok id)
    × NumberAtFront after (number, rest)

-- The key of a part of a file, none if the part is of no object, and the base of ids after the part. `base` is the base
-- before it.
abbrev pub HasKey : ℤ → FilePart → Option Key → ℤ → Type 0
HasKey base Reset key next = (key ≡ None) × (next ≡ pos 0)
HasKey base (Lone b) key next = (is_lone b ≡ true) × (key ≡ None) × (next ≡ base)
HasKey base (Skipped b size content) key next =
    IsOtherType b × SpellsNumber size (length content) × (key ≡ None) × (next ≡ base)
HasKey base (Object k size content) key next = SpellsNumber size (length content)
    × ((number : ℕ) × BeginsWithKey base content next number
    × (key ≡ Some (record { object = record { kind = k; id = next }; number = number })))

-- the bytes are a part with this key
abbrev pub IsPartOf : ℤ → KeyPart → List ℕ → Type 0
IsPartOf base part bytes = (p : FilePart) × (bytes ≡ part_bytes p) × HasKey base p part.key part.base

-- the key, if there is one, isn't below the key before it; `after` is the last key
abbrev pub KeyRises : Option Key → Option Key → Option Key → Type 0
KeyRises before None after = before ≡ after
KeyRises before (Some key) after = (is_key_below key before ≡ false) × (Some key ≡ after)

-- The keys of the parts don't fall, from the key `before` and the base of ids `base` on. `after` is the last key, and
-- `next` is the base after the parts.
abbrev pub AreKeyed : ℤ → Option Key → List FilePart → ℤ → Option Key → Type 0
AreKeyed base before [] next after = (base ≡ next) × (before ≡ after)
AreKeyed base before (p ∷ parts) next after = (key : Option Key) × (middle : ℤ) × (last : Option Key)
    × HasKey base p key middle × KeyRises before key last × AreKeyed middle last parts next after

-- the bytes are parts whose keys don't fall
abbrev pub AreKeyedSets : ℤ → Option Key → List ℕ → ℤ → Option Key → Type 0
AreKeyedSets base before bytes next after =
    (parts : List FilePart) × (bytes ≡ flat_map part_bytes parts) × AreKeyed base before parts next after

-- the bytes are the data sets of a file, after its header and before its end, and their keys don't fall
abbrev pub StartKeyedSets : List ℕ → Type 0
StartKeyedSets bytes = (next : ℤ) × (after : Option Key) × AreKeyedSets (pos 0) None bytes next after

-- the bytes are a header, parts whose keys don't fall, and the end byte
abbrev pub IsKeyedFile : List ℕ → Type 0
IsKeyedFile bytes = (header sets : List ℕ) × ((header ≡ o5m_header) ⊎ (header ≡ o5c_header))
    × (bytes ≡ header ++ (sets ++ end_byte ∷ [])) × StartKeyedSets sets
