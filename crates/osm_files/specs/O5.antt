-- o5m and o5c files: a header, data sets and the mark of the end (the OSM wiki's page on o5m; that both are read in the
-- same way is an own rule).
use Rattle.std.specs.Prelude.{◌≡◌, ◌⊎◌, ℕ, Bool, true, false, ◌==◌, ◌&&◌, nat_le, List, [], ◌∷◌, ◌++◌, length, Option}
use Rattle.std.specs.Prelude.{Some, None, if◌then◌else◌}
use Rattle.std.specs.List.{flat_map}
use Rattle.osm_model.specs.declared.kind.Kind.{Kind}
use Rattle.osm_model.specs.declared.kind.Kind.TheVariants as kind
use Rattle.osm_model.specs.Data.{VersionData}
use Rattle.o5_codec.specs.declared.read.segment.Segment.{Segment}
use Rattle.o5_codec.specs.Number.{SpellsNumber}
use Rattle.o5_codec.specs.Decoder.{new_segment}
use Rattle.o5_codec.specs.Spelling.{SpellsSet}

-- the header of o5m: a reset byte, and a data set of the type e0 whose four bytes are the letters o5m2
abbrev pub o5m_header : List ℕ
o5m_header = 255 ∷ 224 ∷ 4 ∷ 111 ∷ 53 ∷ 109 ∷ 50 ∷ []

-- the header of o5c: the same with the letters o5c2
abbrev pub o5c_header : List ℕ
o5c_header = 255 ∷ 224 ∷ 4 ∷ 111 ∷ 53 ∷ 99 ∷ 50 ∷ []

-- the byte that ends a file
abbrev pub end_byte : ℕ
end_byte = 254

-- the byte that begins a segment
abbrev pub reset_byte : ℕ
reset_byte = 255

-- the type byte of a kind's data sets
abbrev pub type_byte : Kind → ℕ
type_byte kind.Node = 16
type_byte kind.Way = 17
type_byte kind.Relation = 18

-- the kind of object of a type byte
abbrev pub kind_of_type : ℕ → Option Kind
kind_of_type b = if b == 16 then Some kind.Node
    else (if b == 17 then Some kind.Way else (if b == 18 then Some kind.Relation else None))

-- a lone byte, which is skipped
abbrev pub is_lone : ℕ → Bool
is_lone b = nat_le 240 b && nat_le b 253

-- the type byte of a data set that is skipped: any byte that isn't the end, a reset, a lone byte or of a kind of object
abbrev pub IsOtherType : ℕ → Type 0
IsOtherType b = ((b == end_byte) ≡ false) × ((b == reset_byte) ≡ false) × (is_lone b ≡ false) × (kind_of_type b ≡ None)

-- the parts between the header and the end: a reset, a lone byte, a skipped data set, an object's data set
pub data FilePart : Type 0 where
  Reset : FilePart
  Lone : ℕ → FilePart
  Skipped : ℕ → List ℕ → List ℕ → FilePart
  Object : Kind → List ℕ → List ℕ → FilePart

-- the bytes of a part; a data set is its type byte, the length of its content, and the content
abbrev pub part_bytes : FilePart → List ℕ
part_bytes Reset = reset_byte ∷ []
part_bytes (Lone b) = b ∷ []
part_bytes (Skipped b size content) = b ∷ size ++ content
part_bytes (Object k size content) = type_byte k ∷ size ++ content

-- the parts spell these versions, relative to the segment before them
abbrev pub PartsSpell : Segment → List FilePart → List VersionData → Type 0
PartsSpell s [] versions = versions ≡ []
PartsSpell s (Reset ∷ parts) versions = PartsSpell new_segment parts versions
PartsSpell s (Lone b ∷ parts) versions = (is_lone b ≡ true) × PartsSpell s parts versions
PartsSpell s (Skipped b size content ∷ parts) versions = IsOtherType b × SpellsNumber size (length content)
    × PartsSpell s parts versions
PartsSpell s (Object k size content ∷ parts) versions =
    SpellsNumber size (length content)
    × ((v : VersionData) × (next : Segment) × (others : List VersionData) × (versions ≡ v ∷ others)
    × SpellsSet k s content (v, next) × PartsSpell next parts others)

-- the bytes are a header, parts that spell these versions, and the mark of the end
pub record O5File (bytes : List ℕ) (versions : List VersionData) : Type 0 where
  pub header : List ℕ
  pub parts : List FilePart
  pub begins : (header ≡ o5m_header) ⊎ (header ≡ o5c_header)
  pub whole : bytes ≡ header ++ (flat_map part_bytes parts ++ end_byte ∷ [])
  pub spelled : PartsSpell new_segment parts versions
