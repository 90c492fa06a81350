-- The contents of fields in OPL lines, and what they spell, as the OPL manual has them. This project's own rules are:
-- the characters that are written as themselves, the limits of an escape, leading zeros, and the form of coordinates.
use Rattle.std.specs.Prelude.{◌≡◌, ◌≤◌, ℕ, ℤ, pos, neg_ℤ, ◌+◌, ◌-◌, ◌*◌, ◌^◌, Bool, true, false, List, [], ◌∷◌, ◌++◌}
use Rattle.std.specs.Prelude.{length, codes, encode_utf8, Option, None, Some}
use Rattle.std.specs.List.{list_all}
use Rattle.std.specs.Str.{chars}
use Rattle.osm_model.specs.declared.kind.Kind.{Kind}
use Rattle.osm_model.specs.declared.tags.Tag.{Tag}
use Rattle.osm_model.specs.declared.members.Member.{Member}
use Rattle.osm_model.specs.Kind.{kind_letter}
use Rattle.osm_model.specs.New.{is_time}
use Rattle.osm_model.specs.Time.{time_text}
use Rattle.osm_model.specs.Pairwise.{Pairwise}
use Rattle.opl_line.specs.declared.bytes.cut.Delimiter.TheVariants.{Commas, Equals, Ats}
use Rattle.opl_line.specs.Delimiter.{is_end, split_first, split_all}
use Rattle.opl_line.specs.Number.{is_numeral, decimal_value}
use Rattle.opl_line.specs.Text.{is_literal, scalar_of}

-- one decimal digit or more, and the number that they write
pub record SpellsNumeral (digits : List ℕ) (n : ℕ) : Type 0 where
  pub numeral : is_numeral digits ≡ true
  pub value : decimal_value digits ≡ n

-- a number that is at most a bound
pub record SpellsNumber (most : ℕ) (digits : List ℕ) (n : ℕ) : Type 0 where
  pub digits_spell : SpellsNumeral digits n
  pub bound : n ≤ most

-- a version number, a changeset or a user id: a number of 32 bits
abbrev pub SpellsNumber32 : List ℕ → ℕ → Type 0
SpellsNumber32 = SpellsNumber 4_294_967_295

-- a number of 32 bits; an empty content spells 0
pub data SpellsCount : List ℕ → ℕ → Type 0 where
  no_count : SpellsCount [] 0
  some_count : (digits : List ℕ) (n : ℕ) → SpellsNumber32 digits n → SpellsCount digits n

-- an id: a number up to 4611686018427387903, with or without a minus sign
pub data SpellsId : List ℕ → ℤ → Type 0 where
  plain_id : (digits : List ℕ) (n : ℕ) → SpellsNumber 4_611_686_018_427_387_903 digits n → SpellsId digits (pos n)
  minus_id : (digits : List ℕ) (n : ℕ) → SpellsNumber 4_611_686_018_427_387_903 digits n →
      SpellsId (45 ∷ digits) (neg_ℤ (pos n))

-- `V` for visible, `D` for deleted
pub data SpellsDeleted : List ℕ → Bool → Type 0 where
  visible_mark : SpellsDeleted (codes "V") false
  deleted_mark : SpellsDeleted (codes "D") true

-- the one text of a time; an empty content spells no time
pub record SpellsTime (bytes : List ℕ) (time : Option ℕ) : Type 0 where
  pub spelled : bytes ≡ time_text time
  pub range : is_time time ≡ true

-- degrees in units of 10^-7 degree: 1 to 3 digits, and then nothing, or a point and 1 to 7 decimals
pub data SpellsDegrees : List ℕ → ℕ → Type 0 where
  whole_degrees : (digits : List ℕ) (n : ℕ) → SpellsNumeral digits n → length digits ≤ 3 →
      SpellsDegrees digits (n * 10_000_000)
  with_decimals : (digits decimals : List ℕ) (n d : ℕ) → SpellsNumeral digits n → length digits ≤ 3 →
      SpellsNumeral decimals d → length decimals ≤ 7 →
      SpellsDegrees (digits ++ 46 ∷ decimals) (n * 10_000_000 + d * 10 ^ (7 - length decimals))

-- a coordinate: degrees, with or without a minus sign, whose units are a number of 32 bits
pub data SpellsCoordinate : List ℕ → ℤ → Type 0 where
  plain_degrees : (bytes : List ℕ) (units : ℕ) → SpellsDegrees bytes units → units ≤ 2_147_483_647 →
      SpellsCoordinate bytes (pos units)
  minus_degrees : (bytes : List ℕ) (units : ℕ) → SpellsDegrees bytes units → units ≤ 2_147_483_648 →
      SpellsCoordinate (45 ∷ bytes) (neg_ℤ (pos units))

-- a coordinate; an empty content spells none
pub data SpellsOptionalCoordinate : List ℕ → Option ℤ → Type 0 where
  no_place : SpellsOptionalCoordinate [] None
  some_place : (bytes : List ℕ) (units : ℤ) → SpellsCoordinate bytes units → SpellsOptionalCoordinate bytes (Some units)

-- Bytes spell a text in UTF-8: all bytes are written as themselves; or some are, an escape (`%`, digits and `%`)
-- follows them, and the rest spells a text.
pub data SpellsText : List ℕ → List ℕ → Type 0 where
  raw : (text : List ℕ) → list_all is_literal text ≡ true → SpellsText text text
  escaped : (front digits rest text : List ℕ) (c : ℕ) → list_all is_literal front ≡ true →
      scalar_of digits ≡ Some c → SpellsText rest text →
      SpellsText (front ++ 37 ∷ (digits ++ 37 ∷ rest)) (front ++ (encode_utf8 c ++ text))

-- the characters of the text that bytes spell
pub record SpellsCharacters (bytes : List ℕ) (cs : List ℕ) : Type 0 where
  pub text : List ℕ
  pub spelled : SpellsText bytes text
  pub characters : cs ≡ chars text

-- a key and a value, with an equals sign between them and no other
pub record SpellsTag (bytes : List ℕ) (tag : Tag) : Type 0 where
  pub key : List ℕ
  pub value : List ℕ
  pub parted : split_all (is_end Equals) bytes ≡ key ∷ value ∷ []
  pub spells_key : SpellsCharacters key tag.key
  pub spells_value : SpellsCharacters value tag.value

-- the letter of a node and an id
pub record SpellsReference (bytes : List ℕ) (id : ℤ) : Type 0 where
  pub digits : List ℕ
  pub lettered : bytes ≡ 110 ∷ digits
  pub spelled : SpellsId digits id

-- a letter of a kind and an id
pub record SpellsObject (bytes : List ℕ) (kind : Kind) (id : ℤ) : Type 0 where
  pub digits : List ℕ
  pub lettered : bytes ≡ kind_letter kind ∷ digits
  pub spelled : SpellsId digits id

-- an object, and a role after the first at sign
pub record SpellsMember (bytes : List ℕ) (member : Member) : Type 0 where
  pub object : List ℕ
  pub role : List ℕ
  pub parted : split_first (is_end Ats) bytes ≡ (object, Some role)
  pub names : SpellsObject object member.kind member.id
  pub spells_role : SpellsCharacters role member.role

-- an empty text spells no item; any other one is cut at its commas, and each piece spells an item
abbrev pub SpellsList : {X : Type 0} → (List ℕ → X → Type 0) → List ℕ → List X → Type 0
SpellsList Spells [] items = items ≡ []
SpellsList Spells (b ∷ bs) items = Pairwise Spells (split_all (is_end Commas) (b ∷ bs)) items
