-- The fields of an OPL line, as the OPL manual has them. This project's own rules are: fields may have any order, a
-- field may be empty, and no field is repeated.
use Rattle.std.specs.Prelude.{ℕ, Bool, true, false, ◌==◌, List, [], ◌∷◌, Option, Some, None, is_some, Result, Ok, Err}
use Rattle.std.specs.Prelude.{if◌then◌else◌}
use Rattle.osm_model.specs.declared.kind.Kind.{Kind}
use Rattle.osm_model.specs.declared.kind.Kind.TheVariants.{Node, Way, Relation}
use Rattle.opl_line.specs.declared.general.field.Fields.{Fields}
use Rattle.opl_line.specs.declared.reason.OplReason.{OplReason}
use Rattle.opl_line.specs.declared.reason.OplReason.TheVariants.{UnknownField, RepeatedField, BadText}
use Rattle.opl_line.specs.Results.{and_then, as_value}
use Rattle.opl_line.specs.Number.{reading_number, reading_coordinate}
use Rattle.opl_line.specs.Time.{reading_time}
use Rattle.opl_line.specs.Text.{reading_text}
use Rattle.opl_line.specs.Item.{reading_list, reading_tag, reading_reference, reading_member}

-- the fields of a line that has none
abbrev pub no_fields : Fields
no_fields = record {
  number = None;
  deleted = None;
  changeset = None;
  time = None;
  uid = None;
  user = None;
  tags = None;
  longitude = None;
  latitude = None;
  references = None;
  members = None;
}

-- a number of 32 bits
abbrev pub reading_number_32 : List ℕ → Result ℕ OplReason
reading_number_32 = reading_number 4_294_967_295

-- a number of 32 bits; an empty content is 0
abbrev pub reading_count : List ℕ → Result ℕ OplReason
reading_count [] = Ok 0
reading_count (b ∷ bs) = reading_number_32 (b ∷ bs)

-- `V` for visible, `D` for deleted
abbrev pub reading_deleted : List ℕ → Result Bool OplReason
reading_deleted [] = Err BadText
reading_deleted (b ∷ []) = if b == 86 then Ok false else (if b == 68 then Ok true else Err BadText)
reading_deleted (b ∷ c ∷ more) = Err BadText

-- a content that may be empty
abbrev pub reading_optional : {X : Type 0} → (List ℕ → Result X OplReason) → List ℕ → Result (Option X) OplReason
reading_optional reading [] = Ok None
reading_optional reading (b ∷ bs) = as_value (λ x. Some x) (reading (b ∷ bs))

-- a field with the letter was read
abbrev pub has_field : Fields → ℕ → Bool
has_field fields letter =
    if letter == 118 then is_some fields.number
    else (if letter == 100 then is_some fields.deleted
    else (if letter == 99 then is_some fields.changeset
    else (if letter == 116 then is_some fields.time
    else (if letter == 105 then is_some fields.uid
    else (if letter == 117 then is_some fields.user
    else (if letter == 84 then is_some fields.tags
    else (if letter == 120 then is_some fields.longitude
    else (if letter == 121 then is_some fields.latitude
    else (if letter == 78 then is_some fields.references
    else (if letter == 77 then is_some fields.members
    else false))))))))))

-- the fields with one more that only one kind of object has
abbrev pub with_body_field : Kind → ℕ → List ℕ → Fields → Result Fields OplReason
with_body_field Node letter content fields =
    if letter == 120 then as_value (λ x. record fields { longitude = Some x })
    (reading_optional reading_coordinate content)
    else (if letter == 121 then as_value (λ y. record fields { latitude = Some y })
    (reading_optional reading_coordinate content)
    else Err UnknownField)
with_body_field Way letter content fields =
    if letter == 78 then as_value (λ ids. record fields { references = Some ids })
    (reading_list reading_reference content) else Err UnknownField
with_body_field Relation letter content fields =
    if letter == 77 then as_value (λ ms. record fields { members = Some ms }) (reading_list reading_member content)
    else Err UnknownField

-- the fields with one more, from its letter and its content
abbrev pub with_field : Kind → ℕ → List ℕ → Fields → Result Fields OplReason
with_field kind letter content fields =
    if letter == 118 then as_value (λ n. record fields { number = Some n }) (reading_number_32 content)
    else (if letter == 100 then as_value (λ d. record fields { deleted = Some d }) (reading_deleted content)
    else (if letter == 99 then as_value (λ n. record fields { changeset = Some n }) (reading_count content)
    else (if letter == 116 then as_value (λ t. record fields { time = Some t }) (reading_optional reading_time content)
    else (if letter == 105 then as_value (λ n. record fields { uid = Some n }) (reading_count content)
    else (if letter == 117 then as_value (λ t. record fields { user = Some t }) (reading_text content)
    else (if letter == 84 then as_value (λ ts. record fields { tags = Some ts }) (reading_list reading_tag content)
    else with_body_field kind letter content fields))))))

-- the fields with one more; an empty field, as between two blanks, adds nothing
abbrev pub reading_field : Kind → List ℕ → Fields → Result Fields OplReason
reading_field kind [] fields = Ok fields
reading_field kind (letter ∷ content) fields = if has_field fields letter then Err RepeatedField
    else with_field kind letter content fields

-- the fields in sequence; the first faulty one decides
unfoldable pub reading_fields : Kind → List (List ℕ) → Fields → Result Fields OplReason
reading_fields kind [] fields = Ok fields
reading_fields kind (field ∷ more) fields = and_then (reading_field kind field fields) (reading_fields kind more)
