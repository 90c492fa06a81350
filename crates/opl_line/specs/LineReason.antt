-- The reasons for which an OPL line is refused. The manual has no reasons. Two rules are this project's own: the set of
-- reasons, and that the leftmost faulty field decides.
use Rattle.std.specs.Prelude.{◌≡◌, ◌⊎◌, ℕ, ℤ, Bool, true, false, ◌==◌, List, [], ◌∷◌, ◌++◌, map, filter, nat_eq, codes}
use Rattle.std.specs.Prelude.{unwrap_or, Some, None, Err}
use Rattle.std.specs.List.{IsDistinct, list_any}
use Rattle.std.specs.Str.{IsUtf8}
use Rattle.osm_model.specs.declared.kind.Kind.{Kind}
use Rattle.osm_model.specs.declared.kind.Kind.TheVariants.{Node, Way, Relation}
use Rattle.osm_model.specs.Kind.{kind_letter}
use Rattle.osm_model.specs.New.{is_dated}
use Rattle.osm_model.specs.Pairwise.{Pairwise}
use Rattle.opl_line.specs.declared.bytes.cut.Delimiter.TheVariants.{Blanks, Commas, Equals, Ats}
use Rattle.opl_line.specs.declared.general.field.Fields.{Fields}
use Rattle.opl_line.specs.declared.reason.OplReason.{OplReason}
use Rattle.opl_line.specs.declared.reason.OplReason.TheVariants.{NotUtf8, UnknownKind, UnknownField, RepeatedField}
use Rattle.opl_line.specs.declared.reason.OplReason.TheVariants.{BadText, BadList, NoVersion, NoTime, NoLocation}
use Rattle.opl_line.specs.declared.reason.OplReason.TheVariants.{Memory}
use Rattle.opl_line.specs.Delimiter.{is_end, split_first, split_all}
use Rattle.opl_line.specs.Number.{reading_id, reading_coordinate}
use Rattle.opl_line.specs.Time.{reading_time}
use Rattle.opl_line.specs.Item.{item_reason}
use Rattle.opl_line.specs.Field.{reading_number_32, reading_count, reading_deleted, reading_optional}
use Rattle.opl_line.specs.Content.{SpellsCharacters, SpellsTag, SpellsReference, SpellsObject, SpellsMember}
use Rattle.opl_line.specs.Part.{LinePart, letter_of, SpellsPart}
use Rattle.opl_line.specs.Reading.{is_skipped, meta_of, reading_line}
use Rattle.opl_line.specs.Spells.{is_full, fields_of_parts, SpellsParts, SpellsNothing}

-- ---- contents

-- the bytes spell no text
abbrev pub SpellsNoText : List ℕ → Type 0
SpellsNoText bytes = (cs : List ℕ) → SpellsCharacters bytes cs → ⊥

-- Why bytes name no object. They don't begin with the letter of a kind: then the reason is `other`. Or the id after the
-- letter is faulty: then the reason is `of_id` of the id's reason. A list has other reasons than the first field.
pub data ObjectReason (other : OplReason) (of_id : OplReason → OplReason) : List ℕ → OplReason → Type 0 where
  no_kind : (bytes : List ℕ) → ((k : Kind) (digits : List ℕ) → bytes ≡ kind_letter k ∷ digits → ⊥) →
      ObjectReason other of_id bytes other
  no_id : (k : Kind) (digits : List ℕ) (reason : OplReason) → reading_id digits ≡ Err reason →
      ObjectReason other of_id (kind_letter k ∷ digits) (of_id reason)

-- Why bytes are no tag: they don't have exactly one equals sign; or the key or the value is no text.
pub data TagReason : List ℕ → OplReason → Type 0 where
  uneven : (bytes : List ℕ) → ((key value : List ℕ) → split_all (is_end Equals) bytes ≡ key ∷ value ∷ [] → ⊥) →
      TagReason bytes BadList
  no_text : (bytes key value : List ℕ) → split_all (is_end Equals) bytes ≡ key ∷ value ∷ [] →
      SpellsNoText key ⊎ SpellsNoText value → TagReason bytes BadText

-- Why bytes are no reference: they don't begin with the letter of a node, or the id is faulty.
pub data ReferenceReason : List ℕ → OplReason → Type 0 where
  no_letter : (bytes : List ℕ) → ((digits : List ℕ) → bytes ≡ 110 ∷ digits → ⊥) → ReferenceReason bytes BadList
  no_number : (digits : List ℕ) (reason : OplReason) → reading_id digits ≡ Err reason →
      ReferenceReason (110 ∷ digits) (item_reason reason)

-- Why bytes are no member: they have no at sign; the text before the first one names no object; or the text after it is
-- no text of OPL.
pub data MemberReason : List ℕ → OplReason → Type 0 where
  no_at : (bytes object : List ℕ) → split_first (is_end Ats) bytes ≡ (object, None) → MemberReason bytes BadList
  no_name : (bytes object role : List ℕ) (reason : OplReason) → split_first (is_end Ats) bytes ≡ (object, Some role) →
      ObjectReason BadList item_reason object reason → MemberReason bytes reason
  no_role : (bytes object role : List ℕ) (k : Kind) (id : ℤ) → split_first (is_end Ats) bytes ≡ (object, Some role) →
      SpellsObject object k id → SpellsNoText role → MemberReason bytes BadText

-- the first of several pieces that spells no item, and the reason
pub record FirstReason {X : Type 0} (SpellsItem : List ℕ → X → Type 0) (ItemReason : List ℕ → OplReason → Type 0)
    (pieces : List (List ℕ)) (reason : OplReason) : Type 0 where
  pub front : List (List ℕ)
  pub items : List X
  pub fine : Pairwise SpellsItem front items
  pub piece : List ℕ
  pub later : List (List ℕ)
  pub parted : pieces ≡ front ++ piece ∷ later
  pub faulty : ItemReason piece reason

-- why bytes are no list: the first faulty item between commas decides; without bytes the list has no items and no
-- reason
abbrev pub ListReason : {X : Type 0} → (List ℕ → X → Type 0) → (List ℕ → OplReason → Type 0) → List ℕ → OplReason →
    Type 0
ListReason SpellsItem ItemReason [] reason = ⊥
ListReason SpellsItem ItemReason (b ∷ bs) reason =
    FirstReason SpellsItem ItemReason (split_all (is_end Commas) (b ∷ bs)) reason

-- why the content after a letter is faulty
pub data ContentReason : ℕ → List ℕ → OplReason → Type 0 where
  number : (content : List ℕ) (reason : OplReason) → reading_number_32 content ≡ Err reason →
      ContentReason 118 content reason
  deleted : (content : List ℕ) (reason : OplReason) → reading_deleted content ≡ Err reason →
      ContentReason 100 content reason
  changeset : (content : List ℕ) (reason : OplReason) → reading_count content ≡ Err reason →
      ContentReason 99 content reason
  time : (content : List ℕ) (reason : OplReason) → reading_optional reading_time content ≡ Err reason →
      ContentReason 116 content reason
  uid : (content : List ℕ) (reason : OplReason) → reading_count content ≡ Err reason → ContentReason 105 content reason
  user : (content : List ℕ) → SpellsNoText content → ContentReason 117 content BadText
  tags : (content : List ℕ) (reason : OplReason) → ListReason SpellsTag TagReason content reason →
      ContentReason 84 content reason
  longitude : (content : List ℕ) (reason : OplReason) → reading_optional reading_coordinate content ≡ Err reason →
      ContentReason 120 content reason
  latitude : (content : List ℕ) (reason : OplReason) → reading_optional reading_coordinate content ≡ Err reason →
      ContentReason 121 content reason
  references : (content : List ℕ) (reason : OplReason) → ListReason SpellsReference ReferenceReason content reason →
      ContentReason 78 content reason
  members : (content : List ℕ) (reason : OplReason) → ListReason SpellsMember MemberReason content reason →
      ContentReason 77 content reason

-- ---- fields

-- the letters of the fields that only one kind of object has
abbrev pub body_letters : Kind → List ℕ
body_letters Node = codes "xy"
body_letters Way = codes "N"
body_letters Relation = codes "M"

-- the letters of the fields after the object
abbrev pub letters_of : Kind → List ℕ
letters_of k = codes "vdctiuT" ++ body_letters k

abbrev pub is_among : ℕ → List ℕ → Bool
is_among letter letters = list_any (λ l. letter == l) letters

-- Why a field after fields with the letters `met` is faulty: its letter is among `met`; or objects of the kind have no
-- field with its letter; or its content is faulty.
pub data FieldReason (k : Kind) (met : List ℕ) : List ℕ → OplReason → Type 0 where
  repeated : (letter : ℕ) (content : List ℕ) → is_among letter met ≡ true →
      FieldReason k met (letter ∷ content) RepeatedField
  unknown : (letter : ℕ) (content : List ℕ) → is_among letter met ≡ false → is_among letter (letters_of k) ≡ false →
      FieldReason k met (letter ∷ content) UnknownField
  ill_formed : (letter : ℕ) (content : List ℕ) (reason : OplReason) → is_among letter met ≡ false →
      is_among letter (letters_of k) ≡ true → ContentReason letter content reason →
      FieldReason k met (letter ∷ content) reason

-- the leftmost faulty one of the fields after the object, and its reason
pub record FieldsReason (k : Kind) (fields : List (List ℕ)) (reason : OplReason) : Type 0 where
  pub front : List (List ℕ)
  pub parts : List LinePart
  pub fine : Pairwise (SpellsPart k) (filter is_full front) parts
  pub different : IsDistinct nat_eq (map letter_of parts)
  pub field : List ℕ
  pub later : List (List ℕ)
  pub parted : fields ≡ front ++ field ∷ later
  pub faulty : FieldReason k (map letter_of parts) field reason

-- ---- the whole line

-- a visible node without a longitude or without a latitude
pub record LacksLocation (k : Kind) (fields : Fields) : Type 0 where
  pub node : k ≡ Node
  pub visible : unwrap_or fields.deleted false ≡ false
  pub lacks : (unwrap_or fields.longitude None ≡ None) ⊎ (unwrap_or fields.latitude None ≡ None)

-- why fields without a fault make no version: the first reason that applies
pub data WholeReason (k : Kind) (fields : Fields) : OplReason → Type 0 where
  no_version : unwrap_or fields.number 0 ≡ 0 → WholeReason k fields NoVersion
  no_time : (unwrap_or fields.number 0 ≡ 0 → ⊥) → is_dated (meta_of fields) ≡ false → WholeReason k fields NoTime
  no_location : (unwrap_or fields.number 0 ≡ 0 → ⊥) → is_dated (meta_of fields) ≡ true → LacksLocation k fields →
      WholeReason k fields NoLocation

-- Why a line that isn't skipped is refused: it isn't UTF-8; else its first field names no object; else the leftmost
-- faulty field decides; else all fields together.
pub data LineReason : List ℕ → OplReason → Type 0 where
  not_utf8 : (line : List ℕ) → is_skipped line ≡ false → (IsUtf8 line → ⊥) → LineReason line NotUtf8
  no_object : (line object : List ℕ) (others : List (List ℕ)) (reason : OplReason) → is_skipped line ≡ false →
      IsUtf8 line → split_all (is_end Blanks) line ≡ object ∷ others → ObjectReason UnknownKind (λ r. r) object reason →
      LineReason line reason
  faulty_field : (line object : List ℕ) (others : List (List ℕ)) (k : Kind) (id : ℤ) (reason : OplReason) →
      is_skipped line ≡ false → IsUtf8 line → split_all (is_end Blanks) line ≡ object ∷ others →
      SpellsObject object k id →
      FieldsReason k others reason → LineReason line reason
  no_whole : (line : List ℕ) (k : Kind) (id : ℤ) (parts : List LinePart) (reason : OplReason) →
      SpellsParts line k id parts →
      WholeReason k (fields_of_parts parts) reason → LineReason line reason

-- ---- laws

-- A line with a reason is refused for it, and a refused line is refused for its reason.
abbrev pub ReasonIsReported : Type 0
ReasonIsReported = (line : List ℕ) (reason : OplReason) → LineReason line reason → reading_line line ≡ Err reason

abbrev pub ReportedIsReason : Type 0
ReportedIsReason = (line : List ℕ) (reason : OplReason) → reading_line line ≡ Err reason → LineReason line reason

-- the line has this reason and no other
pub record HasOneReason (line : List ℕ) : Type 0 where
  pub reason : OplReason
  pub has : LineReason line reason
  pub only : (other : OplReason) → LineReason line other → other ≡ reason

-- A line that is neither skipped nor spells a version has exactly one reason.
abbrev pub NeitherHasOneReason : Type 0
NeitherHasOneReason = (line : List ℕ) → SpellsNothing line → HasOneReason line

-- A line that has a reason is neither skipped nor spells a version.
abbrev pub ReasonSpellsNothing : Type 0
ReasonSpellsNothing = (line : List ℕ) (reason : OplReason) → LineReason line reason → SpellsNothing line

-- Out of memory is no reason of a line.
abbrev pub MemoryIsNoReason : Type 0
MemoryIsNoReason = (line : List ℕ) → LineReason line Memory → ⊥
