-- The items of lists in OPL lines: tags, references and members, as the OPL manual has them. The reasons of faulty
-- items are this project's own.
use Rattle.std.specs.Prelude.{ℕ, ℤ, ◌==◌, List, [], ◌∷◌, drop, Option, Some, None, Result, Ok, Err, if◌then◌else◌}
use Rattle.osm_model.specs.declared.kind.Kind.{Kind}
use Rattle.osm_model.specs.declared.kind.Kind.TheVariants.{Node, Way, Relation}
use Rattle.osm_model.specs.declared.tags.Tag.{Tag}
use Rattle.osm_model.specs.declared.members.Member.{Member}
use Rattle.opl_line.specs.declared.bytes.cut.Delimiter.TheVariants.{Commas, Equals, Ats}
use Rattle.opl_line.specs.declared.reason.OplReason.{OplReason}
use Rattle.opl_line.specs.declared.reason.OplReason.TheVariants.{OutOfRange, BadList}
use Rattle.opl_line.specs.Results.{and_then, as_value, with_reason}
use Rattle.opl_line.specs.Delimiter.{is_end, split_first, split_all}
use Rattle.opl_line.specs.Number.{reading_id}
use Rattle.opl_line.specs.Text.{reading_text}

-- the items in sequence; the first faulty one decides
unfoldable pub reading_items : {X : Type 0} → (List ℕ → Result X OplReason) → List (List ℕ) → Result (List X) OplReason
reading_items reading [] = Ok []
reading_items reading (piece ∷ pieces) = and_then (reading piece)
    (λ x. as_value (λ xs. x ∷ xs) (reading_items reading pieces))

-- an empty text has no item; any other one is cut at its commas
abbrev pub reading_list : {X : Type 0} → (List ℕ → Result X OplReason) → List ℕ → Result (List X) OplReason
reading_list reading [] = Ok []
reading_list reading (b ∷ bs) = reading_items reading (split_all (is_end Commas) (b ∷ bs))

-- a key and a value, from the pieces between equals signs
abbrev pub tag_of_pieces : List (List ℕ) → Result Tag OplReason
tag_of_pieces [] = Err BadList
tag_of_pieces (key ∷ []) = Err BadList
tag_of_pieces (key ∷ value ∷ []) = and_then (reading_text key)
    (λ k. as_value (λ v. record { key = k; value = v }) (reading_text value))
tag_of_pieces (key ∷ value ∷ other ∷ more) = Err BadList

-- `key=value`
abbrev pub reading_tag : List ℕ → Result Tag OplReason
reading_tag text = tag_of_pieces (split_all (is_end Equals) text)

-- the reason of an item whose id is refused for a reason
abbrev pub item_reason : OplReason → OplReason
item_reason OutOfRange = OutOfRange
item_reason _ = BadList

abbrev pub reading_item_id : List ℕ → Result ℤ OplReason
reading_item_id text = with_reason item_reason (reading_id text)

-- `n1`
abbrev pub reading_reference : List ℕ → Result ℤ OplReason
reading_reference [] = Err BadList
reading_reference (letter ∷ digits) = if letter == 110 then reading_item_id digits else Err BadList

-- the kind of a letter: `n`, `w` or `r`
abbrev pub kind_of_letter : ℕ → Option Kind
kind_of_letter letter = if letter == 110 then Some Node
    else (if letter == 119 then Some Way else (if letter == 114 then Some Relation else None))

-- the kind of the letter that a text begins with
abbrev pub first_kind : List ℕ → Option Kind
first_kind [] = None
first_kind (letter ∷ rest) = kind_of_letter letter

-- a member's object, from its kind and the digits of its id
abbrev pub reading_named : Option Kind → List ℕ → Result (Kind × ℤ) OplReason
reading_named None digits = Err BadList
reading_named (Some kind) digits = as_value (λ id. (kind, id)) (reading_item_id digits)

-- `w1`
abbrev pub reading_object_name : List ℕ → Result (Kind × ℤ) OplReason
reading_object_name text = reading_named (first_kind text) (drop 1 text)

-- a member, from the texts of its object and of its role
abbrev pub member_of_parts : List ℕ × Option (List ℕ) → Result Member OplReason
member_of_parts parts = elim parts.1 as (λ _. Result Member OplReason) [
  | None ↦ Err BadList
  | Some role ↦ and_then (reading_object_name parts.0)
      (λ object. as_value (λ r. record { kind = object.0; id = object.1; role = r }) (reading_text role))
]

-- `w1@role`, cut at the first at sign
abbrev pub reading_member : List ℕ → Result Member OplReason
reading_member text = member_of_parts (split_first (is_end Ats) text)
