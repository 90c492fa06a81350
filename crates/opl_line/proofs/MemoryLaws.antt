-- No reading is refused for the reason Memory.
use Rattle.std.proofs.Common.{◌≡◌, ℕ, ◌+◌, ◌-◌, ◌*◌, ◌^◌, Bool, true, false, cond, eqb, leb, ltb, ◌&&◌, List, [], ◌∷◌, length, map, Option}
use Rattle.std.proofs.Common.{Some, None, Result, Ok, Err, refl, ap, ◌∙◌}
use Rattle.std.specs.Option.{ok_or}
use Rattle.osm_model.specs.declared.kind.Kind.{Kind}
use Rattle.opl_line.specs.declared.general.field.Fields.{Fields}
use Rattle.opl_line.specs.declared.reason.OplReason.{OplReason}
use Rattle.opl_line.specs.declared.reason.OplReason.TheVariants.{NotUtf8, UnknownKind, UnknownField, RepeatedField, BadNumber, OutOfRange}
use Rattle.opl_line.specs.declared.reason.OplReason.TheVariants.{BadTime, BadCoordinate, BadText, BadList, NoVersion, NoTime, NoLocation}
use Rattle.opl_line.specs.declared.reason.OplReason.TheVariants.{Memory}
use Rattle.opl_line.specs.Results.{and_then, as_value}
use Rattle.opl_line.specs.Number.{is_numeral, decimal_value, up_to, reading_number, is_negative, without_sign, with_sign, reading_id}
use Rattle.opl_line.specs.Number.{reading_short_numeral, decimals_value, reading_degrees, reading_units, degree_parts, reading_coordinate}
use Rattle.opl_line.specs.Time.{reading_date, reading_clock, epoch, reading_moment, reading_time}
use Rattle.opl_line.specs.Item.{item_reason}
use Rattle.opl_line.specs.Field.{reading_number_32, reading_count, reading_deleted, reading_optional}
use Rattle.opl_line.specs.Content.{SpellsTag, SpellsReference, SpellsMember}
use Rattle.opl_line.specs.Part.{letter_of}
use Rattle.opl_line.specs.Spells.{fields_of_parts}
use Rattle.opl_line.specs.LineReason.{ObjectReason, no_kind, no_id, TagReason, uneven, no_text, ReferenceReason, no_letter, no_number}
use Rattle.opl_line.specs.LineReason.{MemberReason, no_at, no_name, no_role, ListReason, ContentReason, number, deleted, changeset, time}
use Rattle.opl_line.specs.LineReason.{uid, user, tags, longitude, latitude, references, members, FieldReason, repeated, unknown, ill_formed}
use Rattle.opl_line.specs.LineReason.{WholeReason, no_version, no_time, no_location, LineReason, not_utf8, no_object, faulty_field}
use Rattle.opl_line.specs.LineReason.{no_whole, MemoryIsNoReason}
use Rattle.opl_line.proofs.ReasonLaws.{still_refused}

-- ---- readings
taken_as : {X Y : Type 0} (f : X → Y) (said : Result X OplReason) → (said ≡ Err Memory → ⊥) → as_value f said ≡ Err Memory → ⊥
taken_as f said none e = none (still_refused f said Memory e)

then_taken : {X Y : Type 0} (said : Result X OplReason) (next : X → Result Y OplReason) → (said ≡ Err Memory → ⊥) →
    ((x : X) → next x ≡ Err Memory → ⊥) → and_then said next ≡ Err Memory → ⊥
then_taken (Ok x) next none more e = more x e
then_taken (Err reason) next none more e = let same : reason ≡ Memory = cc in none (ap (λ r. Err r) same)

number_takes : (most : ℕ) (text : List ℕ) → reading_number most text ≡ Err Memory → ⊥
number_takes most text =
    elim (is_numeral text) as (λ t. cond t (up_to most (decimal_value text)) (Err BadNumber) ≡ Err Memory → ⊥) [
      | true ↦ elim (leb (decimal_value text) most) as
          (λ t. cond t (Ok (decimal_value text)) (Err OutOfRange) ≡ Err Memory → ⊥) [ true ↦ λ e. cc | false ↦ λ e. cc ]
      | false ↦ λ e. cc
    ]

count_takes : (text : List ℕ) → reading_count text ≡ Err Memory → ⊥
count_takes [] e = cc
count_takes (b ∷ bs) e = number_takes 4_294_967_295 (b ∷ bs) e

id_takes : (text : List ℕ) → reading_id text ≡ Err Memory → ⊥
id_takes text = taken_as (with_sign (is_negative text)) (reading_number 4_611_686_018_427_387_903 (without_sign text))
    (number_takes 4_611_686_018_427_387_903 (without_sign text))

deleted_takes : (text : List ℕ) → reading_deleted text ≡ Err Memory → ⊥
deleted_takes [] e = cc
deleted_takes (b ∷ []) e =
    elim (eqb b 86) as (λ t. cond t (Ok false) (cond (eqb b 68) (Ok true) (Err BadText)) ≡ Err Memory → ⊥) [
      | true ↦ λ h. cc
      | false ↦ elim (eqb b 68) as (λ t. cond t (Ok true) (Err BadText) ≡ Err Memory → ⊥) [ true ↦ λ h. cc | false ↦ λ h. cc ]
    ] e
deleted_takes (b ∷ c ∷ more) e = cc

optional_takes : {X : Type 0} (reading : List ℕ → Result X OplReason) → ((text : List ℕ) → reading text ≡ Err Memory → ⊥) →
    (text : List ℕ) → reading_optional reading text ≡ Err Memory → ⊥
optional_takes reading none [] e = cc
optional_takes reading none (b ∷ bs) e = taken_as (λ x. Some x) (reading (b ∷ bs)) (none (b ∷ bs)) e

some_takes : {X : Type 0} (o : Option X) → ok_or o BadTime ≡ Err Memory → ⊥
some_takes None e = cc
some_takes (Some x) e = cc

moment_takes : (seconds : ℕ) → reading_moment seconds ≡ Err Memory → ⊥
moment_takes seconds =
    elim (ltb epoch seconds && ltb seconds (epoch + 2 ^ 32)) as
    (λ t. cond t (Ok (seconds - epoch)) (Err OutOfRange) ≡ Err Memory → ⊥) [ true ↦ λ e. cc | false ↦ λ e. cc ]

time_takes : (text : List ℕ) → reading_time text ≡ Err Memory → ⊥
time_takes text =
    let of_clock = λ (days : ℕ). and_then (ok_or (reading_clock text) BadTime) (λ (second : ℕ). reading_moment (86_400 * days + second)) in
    elim (eqb (length text) 20) as (λ t. cond t (and_then (ok_or (reading_date text) BadTime) of_clock) (Err BadTime) ≡ Err Memory → ⊥) [
      | true ↦ then_taken (ok_or (reading_date text) BadTime) of_clock (some_takes (reading_date text))
          (λ days. then_taken (ok_or (reading_clock text) BadTime) (λ (second : ℕ). reading_moment (86_400 * days + second))
          (some_takes (reading_clock text)) (λ second. moment_takes (86_400 * days + second)))
      | false ↦ λ e. cc
    ]

short_takes : (most : ℕ) (text : List ℕ) → reading_short_numeral most text ≡ Err Memory → ⊥
short_takes most text =
    elim (is_numeral text && leb (length text) most) as
    (λ t. cond t (Ok (decimal_value text)) (Err BadCoordinate) ≡ Err Memory → ⊥) [ true ↦ λ e. cc | false ↦ λ e. cc ]

degrees_take : (whole : List ℕ) (decimals : Option (List ℕ)) → reading_degrees whole decimals ≡ Err Memory → ⊥
degrees_take whole None = taken_as (λ n. n * 10_000_000) (reading_short_numeral 3 whole) (short_takes 3 whole)
degrees_take whole (Some decimals) =
    then_taken (reading_short_numeral 3 whole) (λ (n : ℕ).
    as_value (λ (d : ℕ). n * 10_000_000 + decimals_value decimals d) (reading_short_numeral 7 decimals)) (short_takes 3 whole)
    (λ n. taken_as (λ d. n * 10_000_000 + decimals_value decimals d) (reading_short_numeral 7 decimals) (short_takes 7 decimals))

units_take : (negative : Bool) (n : ℕ) → reading_units negative n ≡ Err Memory → ⊥
units_take negative n =
    elim (leb n (cond negative 2_147_483_648 2_147_483_647)) as
    (λ t. cond t (Ok (with_sign negative n)) (Err OutOfRange) ≡ Err Memory → ⊥) [ true ↦ λ e. cc | false ↦ λ e. cc ]

coordinate_takes : (text : List ℕ) → reading_coordinate text ≡ Err Memory → ⊥
coordinate_takes text =
    let parts = degree_parts (without_sign text) in
    then_taken (reading_degrees parts.0 parts.1) (reading_units (is_negative text)) (degrees_take parts.0 parts.1)
    (units_take (is_negative text))

-- ---- reasons
refused_apart : {X : Type 0} (said : Result X OplReason) (reason : OplReason) → (said ≡ Err Memory → ⊥) → said ≡ Err reason →
    reason ≡ Memory → ⊥
refused_apart said reason none e is = none (e ∙ ap (λ r. Err r) is)

item_apart : (reason : OplReason) → item_reason reason ≡ Memory → ⊥
item_apart NotUtf8 e = cc
item_apart UnknownKind e = cc
item_apart UnknownField e = cc
item_apart RepeatedField e = cc
item_apart BadNumber e = cc
item_apart OutOfRange e = cc
item_apart BadTime e = cc
item_apart BadCoordinate e = cc
item_apart BadText e = cc
item_apart BadList e = cc
item_apart NoVersion e = cc
item_apart NoTime e = cc
item_apart NoLocation e = cc
item_apart Memory e = cc

tag_apart : (bytes : List ℕ) (reason : OplReason) → TagReason bytes reason → reason ≡ Memory → ⊥
tag_apart bytes reason (uneven bytes' none) e = cc
tag_apart bytes reason (no_text bytes' key value is which) e = cc

reference_apart : (bytes : List ℕ) (reason : OplReason) → ReferenceReason bytes reason → reason ≡ Memory → ⊥
reference_apart bytes reason (no_letter bytes' none) e = cc
reference_apart bytes reason (no_number digits bad at) e = item_apart bad e

name_apart : (bytes : List ℕ) (reason : OplReason) → ObjectReason BadList item_reason bytes reason → reason ≡ Memory → ⊥
name_apart bytes reason (no_kind bytes' none) e = cc
name_apart bytes reason (no_id k digits bad at) e = item_apart bad e

member_apart : (bytes : List ℕ) (reason : OplReason) → MemberReason bytes reason → reason ≡ Memory → ⊥
member_apart bytes reason (no_at bytes' object is) e = cc
member_apart bytes reason (no_name bytes' object role bad is faulty) e = name_apart object bad faulty e
member_apart bytes reason (no_role bytes' object role k id is names none) e = cc

list_apart : {X : Type 0} (SpellsItem : List ℕ → X → Type 0) (ItemReason : List ℕ → OplReason → Type 0) →
    ((bytes : List ℕ) (reason : OplReason) → ItemReason bytes reason → reason ≡ Memory → ⊥) →
    (content : List ℕ) (reason : OplReason) → ListReason SpellsItem ItemReason content reason → reason ≡ Memory → ⊥
list_apart SpellsItem ItemReason apart [] reason r e = r
list_apart SpellsItem ItemReason apart (b ∷ bs) reason r e = apart r.piece reason r.faulty e

content_apart : (letter : ℕ) (content : List ℕ) (reason : OplReason) → ContentReason letter content reason → reason ≡ Memory → ⊥
content_apart letter content reason (number content' bad at) e =
    refused_apart (reading_number_32 content') bad (number_takes 4_294_967_295 content') at e
content_apart letter content reason (deleted content' bad at) e = refused_apart (reading_deleted content') bad (deleted_takes content') at e
content_apart letter content reason (changeset content' bad at) e = refused_apart (reading_count content') bad (count_takes content') at e
content_apart letter content reason (time content' bad at) e =
    refused_apart (reading_optional reading_time content') bad (optional_takes reading_time time_takes content') at e
content_apart letter content reason (uid content' bad at) e = refused_apart (reading_count content') bad (count_takes content') at e
content_apart letter content reason (user content' none) e = cc
content_apart letter content reason (tags content' bad r) e = list_apart SpellsTag TagReason tag_apart content' bad r e
content_apart letter content reason (longitude content' bad at) e =
    refused_apart (reading_optional reading_coordinate content') bad (optional_takes reading_coordinate coordinate_takes content') at e
content_apart letter content reason (latitude content' bad at) e =
    refused_apart (reading_optional reading_coordinate content') bad (optional_takes reading_coordinate coordinate_takes content') at e
content_apart letter content reason (references content' bad r) e =
    list_apart SpellsReference ReferenceReason reference_apart content' bad r e
content_apart letter content reason (members content' bad r) e = list_apart SpellsMember MemberReason member_apart content' bad r e

field_apart : (k : Kind) (met : List ℕ) (field : List ℕ) (reason : OplReason) → FieldReason k met field reason → reason ≡ Memory → ⊥
field_apart k met field reason (repeated letter content again) e = cc
field_apart k met field reason (unknown letter content fresh other) e = cc
field_apart k met field reason (ill_formed letter content bad fresh known faulty) e = content_apart letter content bad faulty e

object_apart : (bytes : List ℕ) (reason : OplReason) → ObjectReason UnknownKind (λ r. r) bytes reason → reason ≡ Memory → ⊥
object_apart bytes reason (no_kind bytes' none) e = cc
object_apart bytes reason (no_id k digits bad at) e = refused_apart (reading_id digits) bad (id_takes digits) at e

whole_apart : (k : Kind) (fields : Fields) (reason : OplReason) → WholeReason k fields reason → reason ≡ Memory → ⊥
whole_apart k fields reason (no_version none) e = cc
whole_apart k fields reason (no_time some undated) e = cc
whole_apart k fields reason (no_location some dated lacks) e = cc

line_apart : (text : List ℕ) (reason : OplReason) → LineReason text reason → reason ≡ Memory → ⊥
line_apart text reason (not_utf8 text' kept other) e = cc
line_apart text reason (no_object text' object others bad kept utf8 parted faulty) e = object_apart object bad faulty e
line_apart text reason (faulty_field text' object others k id bad kept utf8 parted names faulty) e =
    field_apart k (map letter_of faulty.parts) faulty.field bad faulty.faulty e
line_apart text reason (no_whole text' k id parts bad line_parts faulty) e = whole_apart k (fields_of_parts parts) bad faulty e

-- No line has the reason Memory.
pub memory_is_no_reason : MemoryIsNoReason
memory_is_no_reason text r = line_apart text Memory r refl
