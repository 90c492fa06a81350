-- A whole OPL line, read field by field.
use Rattle.std.specs.Prelude.{ℕ, ℤ, Bool, true, false, not, ◌==◌, List, [], ◌∷◌, drop, Option, Some, None, unwrap_or}
use Rattle.std.specs.Prelude.{Result, Ok, Err, if◌then◌else◌}
use Rattle.std.specs.Str.{is_utf8}
use Rattle.osm_model.specs.declared.kind.Kind.{Kind}
use Rattle.osm_model.specs.declared.kind.Kind.TheVariants as kind
use Rattle.osm_model.specs.declared.body.Body.{Body}
use Rattle.osm_model.specs.declared.body.Body.TheVariants.{Deleted, Node, Way, Relation}
use Rattle.osm_model.specs.declared.tags.Tag.{Tag}
use Rattle.osm_model.specs.declared.meta.Meta.{Meta}
use Rattle.osm_model.specs.declared.fault.ValueFault.{ValueFault}
use Rattle.osm_model.specs.declared.fault.ValueFault.TheVariants as fault
use Rattle.osm_model.specs.Data.{VersionData}
use Rattle.osm_model.specs.New.{is_dated, version_or_fault}
use Rattle.opl_line.specs.declared.bytes.cut.Delimiter.TheVariants.{Blanks}
use Rattle.opl_line.specs.declared.general.field.Fields.{Fields}
use Rattle.opl_line.specs.declared.reason.OplReason.{OplReason}
use Rattle.opl_line.specs.declared.reason.OplReason.TheVariants.{NotUtf8, UnknownKind, OutOfRange, BadText, NoVersion}
use Rattle.opl_line.specs.declared.reason.OplReason.TheVariants.{NoTime, NoLocation, Memory}
use Rattle.opl_line.specs.Results.{and_then, as_value}
use Rattle.opl_line.specs.Delimiter.{is_end, split_first, pieces_of}
use Rattle.opl_line.specs.Number.{reading_id}
use Rattle.opl_line.specs.Item.{first_kind}
use Rattle.opl_line.specs.Field.{no_fields, reading_fields}

-- an empty line, or a comment, which begins with `#`
abbrev pub is_skipped : List ℕ → Bool
is_skipped [] = true
is_skipped (b ∷ bs) = b == 35

-- the kind and the id of an object, from the kind of its letter, if it is one, and the digits
abbrev pub reading_kind_and_id : Option Kind → List ℕ → Result (Kind × ℤ) OplReason
reading_kind_and_id None digits = Err UnknownKind
reading_kind_and_id (Some kind) digits = as_value (λ id. (kind, id)) (reading_id digits)

-- the first field: a letter and an id
abbrev pub reading_object : List ℕ → Result (Kind × ℤ) OplReason
reading_object field = reading_kind_and_id (first_kind field) (drop 1 field)

-- the metadata of the fields
abbrev pub meta_of : Fields → Meta
meta_of fields = record {
  version = unwrap_or fields.number 0;
  time = unwrap_or fields.time None;
  changeset = unwrap_or fields.changeset 0;
  uid = unwrap_or fields.uid 0;
  user = unwrap_or fields.user [];
}

abbrev pub reading_location : Option ℤ → Option ℤ → List Tag → Result Body OplReason
reading_location None lat tags = Err NoLocation
reading_location (Some lon) None tags = Err NoLocation
reading_location (Some lon) (Some lat) tags = Ok (Node lon lat tags)

-- the body of a visible object
abbrev pub reading_visible : Kind → Fields → Result Body OplReason
reading_visible kind.Node fields = reading_location (unwrap_or fields.longitude None) (unwrap_or fields.latitude None)
    (unwrap_or fields.tags [])
reading_visible kind.Way fields = Ok (Way (unwrap_or fields.references []) (unwrap_or fields.tags []))
reading_visible kind.Relation fields = Ok (Relation (unwrap_or fields.members []) (unwrap_or fields.tags []))

-- a deleted object keeps only its kind
abbrev pub reading_body : Kind → Fields → Result Body OplReason
reading_body kind fields = if unwrap_or fields.deleted false then Ok (Deleted kind) else reading_visible kind fields

-- the reason of a line whose data has a fault
abbrev pub reason_of : ValueFault → OplReason
reason_of fault.IdRange = OutOfRange
reason_of fault.NoVersion = NoVersion
reason_of fault.NumberRange = OutOfRange
reason_of fault.TimeRange = OutOfRange
reason_of fault.ZeroInText = BadText
reason_of fault.Memory = Memory
reason_of fault.NoTime = NoTime

abbrev pub unless_fault : Result VersionData ValueFault → Result VersionData OplReason
unless_fault (Ok v) = Ok v
unless_fault (Err f) = Err (reason_of f)

-- the version of an object with all its fields
abbrev pub reading_whole : Kind → ℤ → Fields → Result VersionData OplReason
reading_whole kind id fields =
    if unwrap_or fields.number 0 == 0 then Err NoVersion
    else (if not (is_dated (meta_of fields)) then Err NoTime
    else and_then (reading_body kind fields) (λ body. unless_fault (version_or_fault id (meta_of fields) body)))

-- the version of a line that is not skipped
unfoldable pub reading_version : List ℕ → Result VersionData OplReason
reading_version line =
    let parts = split_first (is_end Blanks) line in
    and_then (reading_object parts.0) (λ object.
    and_then (reading_fields object.0 (pieces_of (is_end Blanks) parts.1) no_fields)
    (reading_whole object.0 object.1))

-- the version of a line, or None for a line that is skipped
abbrev pub reading_line : List ℕ → Result (Option VersionData) OplReason
reading_line line =
    if is_skipped line then Ok None
    else (if is_utf8 line then as_value (λ v. Some v) (reading_version line) else Err NotUtf8)
