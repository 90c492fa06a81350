-- A line that is refused is refused for its one reason.
use Rattle.std.proofs.Common.{◌≡◌, ◌⊎◌, ℕ, ℤ, true, false, not, cond, eqb, List, [], ◌∷◌, Option, Some, None, unwrap_or, Result, Ok, Err}
use Rattle.std.proofs.Common.{IfErr, refl, sym, ap, ◌∙◌, subst, inl, inr, ⊎_elim}
use Rattle.std.proofs.lemmas.Bool.{eqb-true, eqb-false}
use Rattle.std.proofs.lemmas.Str.{is_utf8-from_IsUtf8, IsUtf8-from_is_utf8}
use Rattle.std.specs.List.{AllByRecursion}
use Rattle.std.specs.Str.{IsUtf8, is_utf8}
use Rattle.osm_model.specs.declared.kind.Kind.{Kind}
use Rattle.osm_model.specs.declared.kind.Kind.TheVariants as kind
use Rattle.osm_model.specs.declared.tags.Tag.{Tag}
use Rattle.osm_model.specs.declared.body.Body.{Body}
use Rattle.osm_model.specs.declared.body.Body.TheVariants.{Deleted}
use Rattle.osm_model.specs.Id.{is_id}
use Rattle.osm_model.specs.Data.{VersionData}
use Rattle.osm_model.specs.New.{is_dated, version_or_fault}
use Rattle.opl_line.specs.declared.bytes.cut.Delimiter.TheVariants.{Blanks}
use Rattle.opl_line.specs.declared.general.field.Fields.{Fields}
use Rattle.opl_line.specs.declared.reason.OplReason.{OplReason}
use Rattle.opl_line.specs.declared.reason.OplReason.TheVariants.{NotUtf8, NoVersion, NoTime, NoLocation, Memory}
use Rattle.opl_line.specs.Results.{and_then, as_value, OplReads}
use Rattle.opl_line.specs.Delimiter.{is_end, split_first, split_all, pieces_of}
use Rattle.opl_line.specs.Field.{no_fields, reading_fields}
use Rattle.opl_line.specs.Reading.{is_skipped, reading_object, meta_of, reading_location, reading_visible, reading_body, unless_fault}
use Rattle.opl_line.specs.Reading.{reading_whole, reading_version, reading_line}
use Rattle.opl_line.specs.Content.{SpellsObject}
use Rattle.opl_line.specs.Spells.{fields_of_parts, SpellsNothing}
use Rattle.opl_line.specs.LineReason.{LacksLocation, WholeReason, no_version, no_time, no_location, LineReason, not_utf8, no_object}
use Rattle.opl_line.specs.LineReason.{faulty_field, no_whole, ReasonIsReported, ReportedIsReason, HasOneReason, NeitherHasOneReason}
use Rattle.opl_line.specs.LineReason.{ReasonSpellsNothing}
use Rattle.opl_line.proofs.NumeralLaws.{id_complete}
use Rattle.opl_line.proofs.CutLaws.{cut_split}
use Rattle.opl_line.proofs.PartLaws.{parts_of}
use Rattle.opl_line.proofs.ReadingLaws as reading
use Rattle.opl_line.proofs.SpellsLaws.{object_spelled, object_read, first_and_rest, parts_determine, read_is_spelled}
use Rattle.opl_line.proofs.SpellsLaws.{refused_spells_nothing}
use Rattle.opl_line.proofs.SpellsLaws.{skipped_only, not_skipped}
use Rattle.opl_line.proofs.MadeLaws.{made}
use Rattle.opl_line.proofs.ReasonLaws.{still_refused, object_refused, object_reason_reported}
use Rattle.opl_line.proofs.FieldReasonLaws.{fields_refused, fields_reported}
use Rattle.opl_line.proofs.Utf8Laws.{cut_utf8}
use Rattle.opl_line.specs.Within.{AreWithin}
use Rattle.opl_line.proofs.RangeLaws.{id_within, line_within}
use Rattle.opl_line.proofs.WithinLaws.{passes}

-- ---- the location
location_refused : (lon lat : Option ℤ) (tags : List Tag) (reason : OplReason) → reading_location lon lat tags ≡ Err reason →
    (NoLocation ≡ reason) × ((lon ≡ None) ⊎ (lat ≡ None))
location_refused None lat tags reason e = ((let same : NoLocation ≡ reason = cc in same), inl refl)
location_refused (Some lon) None tags reason e = ((let same : NoLocation ≡ reason = cc in same), inr refl)
location_refused (Some lon) (Some lat) tags reason e = cc

visible_refused : (k : Kind) (fields : Fields) (reason : OplReason) → unwrap_or fields.deleted false ≡ false →
    reading_visible k fields ≡ Err reason → (NoLocation ≡ reason) × LacksLocation k fields
visible_refused kind.Node fields reason visible e =
    let l = location_refused (unwrap_or fields.longitude None) (unwrap_or fields.latitude None) (unwrap_or fields.tags []) reason e in
    (l.0, record { node = refl; visible = visible; lacks = l.1 })
visible_refused kind.Way fields reason visible e = cc
visible_refused kind.Relation fields reason visible e = cc

body_refused : (k : Kind) (fields : Fields) (reason : OplReason) → reading_body k fields ≡ Err reason →
    (NoLocation ≡ reason) × LacksLocation k fields
body_refused k fields reason =
    elim (unwrap_or fields.deleted false) as (λ t. unwrap_or fields.deleted false ≡ t →
    cond t (Ok (Deleted k)) (reading_visible k fields) ≡ Err reason → (NoLocation ≡ reason) × LacksLocation k fields) [
      | true ↦ λ deleted e. cc
      | false ↦ λ visible e. visible_refused k fields reason visible e
    ] refl

location_reported : (lon lat : Option ℤ) (tags : List Tag) → (lon ≡ None) ⊎ (lat ≡ None) → reading_location lon lat tags ≡ Err NoLocation
location_reported None lat tags lacks = refl
location_reported (Some lon) None tags lacks = refl
location_reported (Some lon) (Some lat) tags lacks = ⊎_elim (λ e. cc) (λ e. cc) lacks

body_reported : (k : Kind) (fields : Fields) → LacksLocation k fields → reading_body k fields ≡ Err NoLocation
body_reported k fields l =
    let P : Kind → Type 0 = λ x. reading_visible x fields ≡ Err NoLocation in
    ap (λ t. cond t (Ok (Deleted k)) (reading_visible k fields)) l.visible
    ∙ subst P (sym l.node) (location_reported (unwrap_or fields.longitude None) (unwrap_or fields.latitude None)
    (unwrap_or fields.tags []) l.lacks)

-- ---- all fields together
not_zero : (n : ℕ) → (n ≡ 0 → ⊥) → eqb n 0 ≡ false
not_zero n other = elim (eqb n 0) as (λ t. eqb n 0 ≡ t → t ≡ false) [ true ↦ λ e. absurd (other (eqb-true n 0 e)) | false ↦ λ e. refl ] refl

whole_refused : (k : Kind) (id : ℤ) (fields : Fields) (reason : OplReason) → is_id id ≡ true → AreWithin fields →
    reading_whole k id fields ≡ Err reason → WholeReason k fields reason
whole_refused k id fields reason is h refused =
    let n = unwrap_or fields.number 0 in
    let P : OplReason → Type 0 = WholeReason k fields in
    let make = λ (b : Body). unless_fault (version_or_fault id (meta_of fields) b) in
    elim (eqb n 0) as (λ t. eqb n 0 ≡ t → cond t (Err NoVersion)
    (cond (not (is_dated (meta_of fields))) (Err NoTime) (and_then (reading_body k fields) make)) ≡ Err reason →
    WholeReason k fields reason) [
      | true ↦ λ none e. let same : NoVersion ≡ reason = cc in subst P same (no_version (eqb-true n 0 none))
      | false ↦ λ some. elim (is_dated (meta_of fields)) as
          (λ t. is_dated (meta_of fields) ≡ t → cond (not t) (Err NoTime) (and_then (reading_body k fields) make) ≡ Err reason →
          WholeReason k fields reason) [
            | false ↦ λ undated e. let same : NoTime ≡ reason = cc in subst P same (no_time (eqb-false n 0 some) undated)
            | true ↦ λ dated. elim (reading_body k fields) as
                (λ r. reading_body k fields ≡ r → and_then r make ≡ Err reason → WholeReason k fields reason) [
                  | Err bad ↦ λ at e.
                      let same : bad ≡ reason = cc in
                      let l = body_refused k fields bad at in
                      subst P (l.0 ∙ same) (no_location (eqb-false n 0 some) dated l.1)
                  | Ok b ↦ λ at e.
                      let whole = made id (meta_of fields) b (passes k id fields b is h some dated at) in
                      let clash = sym (ap unless_fault whole) ∙ e in cc
                ] refl
          ] refl
    ] refl refused

whole_reported : (k : Kind) (id : ℤ) (fields : Fields) (reason : OplReason) → WholeReason k fields reason →
    reading_whole k id fields ≡ Err reason
whole_reported k id fields reason (no_version none) =
    let make = λ (b : Body). unless_fault (version_or_fault id (meta_of fields) b) in
    ap (λ n. cond (eqb n 0) (Err NoVersion) (cond (not (is_dated (meta_of fields))) (Err NoTime)
    (and_then (reading_body k fields) make))) none
whole_reported k id fields reason (no_time some undated) =
    let make = λ (b : Body). unless_fault (version_or_fault id (meta_of fields) b) in
    ap (λ t. cond t (Err NoVersion) (cond (not (is_dated (meta_of fields))) (Err NoTime) (and_then (reading_body k fields) make)))
    (not_zero (unwrap_or fields.number 0) some)
    ∙ ap (λ t. cond (not t) (Err NoTime) (and_then (reading_body k fields) make)) undated
whole_reported k id fields reason (no_location some dated lacks) =
    let make = λ (b : Body). unless_fault (version_or_fault id (meta_of fields) b) in
    ap (λ t. cond t (Err NoVersion) (cond (not (is_dated (meta_of fields))) (Err NoTime) (and_then (reading_body k fields) make)))
    (not_zero (unwrap_or fields.number 0) some)
    ∙ ap (λ t. cond (not t) (Err NoTime) (and_then (reading_body k fields) make)) dated
    ∙ ap (λ r. and_then r make) (body_reported k fields lacks)

-- ---- the line
fields_fine : (line : List ℕ) (k : Kind) (id : ℤ) (fields : Fields) (reason : OplReason) → is_skipped line ≡ false → IsUtf8 line →
    reading_object (split_first (is_end Blanks) line).0 ≡ Ok (k, id) →
    reading_fields k (pieces_of (is_end Blanks) (split_first (is_end Blanks) line).1) no_fields ≡ Ok fields →
    reading_whole k id fields ≡ Err reason → LineReason line reason
fields_fine line k id fields reason kept utf8 at read e =
    let parts = split_first (is_end Blanks) line in
    let pieces = pieces_of (is_end Blanks) parts.1 in
    let said = parts_of k pieces fields read in
    let names = object_spelled parts.0 k id at in
    let P : List (List ℕ) → Type 0 = λ ps. AllByRecursion IsUtf8 ps in
    let all = subst P (cut_split (is_end Blanks) line) (cut_utf8 Blanks line utf8) in
    no_whole line k id said.parts reason (record {
      utf8 = utf8;
      not_skipped = kept;
      object = parts.0;
      others = pieces;
      fields = cut_split (is_end Blanks) line;
      names = names;
      spelled = said.spelled;
      different = said.different;
    }) (whole_refused k id (fields_of_parts said.parts) reason (id_within names.digits id (id_complete names.digits id names.spelled))
    (line_within k pieces said.parts said.spelled all.1) (ap (reading_whole k id) (sym said.together) ∙ e))

version_refused : (line : List ℕ) (reason : OplReason) → is_skipped line ≡ false → IsUtf8 line → reading_version line ≡ Err reason →
    LineReason line reason
unfolding reading_version
version_refused line reason kept utf8 refused =
    let parts = split_first (is_end Blanks) line in
    let pieces = pieces_of (is_end Blanks) parts.1 in
    let parted = cut_split (is_end Blanks) line in
    let rest = λ (object : Kind × ℤ). and_then (reading_fields object.0 pieces no_fields) (reading_whole object.0 object.1) in
    elim (reading_object parts.0) as (λ r. reading_object parts.0 ≡ r → and_then r rest ≡ Err reason → LineReason line reason) [
      | Err bad ↦ λ at e. let same : bad ≡ reason = cc in
          no_object line parts.0 pieces reason kept utf8 parted (object_refused parts.0 reason (at ∙ ap (λ r. Err r) same))
      | Ok object ↦ λ at. elim (reading_fields object.0 pieces no_fields) as
          (λ r. reading_fields object.0 pieces no_fields ≡ r → and_then r (reading_whole object.0 object.1) ≡ Err reason →
          LineReason line reason) [
            | Err bad ↦ λ read e.
                let same : bad ≡ reason = cc in
                faulty_field line parts.0 pieces object.0 object.1 reason kept utf8 parted (object_spelled parts.0 object.0 object.1 at)
                (fields_refused object.0 pieces reason (read ∙ ap (λ r. Err r) same))
            | Ok fields ↦ λ read e. fields_fine line object.0 object.1 fields reason kept utf8 at read e
          ] refl
    ] refl refused

-- A line that is refused has the reason that is returned.
pub reported_is_reason : ReportedIsReason
reported_is_reason line reason =
    let P : OplReason → Type 0 = LineReason line in
    elim (is_skipped line) as (λ t. is_skipped line ≡ t →
    cond t (Ok None) (cond (is_utf8 line) (as_value (λ w. Some w) (reading_version line)) (Err NotUtf8)) ≡ Err reason →
    LineReason line reason) [
      | true ↦ λ skipped e. cc
      | false ↦ λ kept. elim (is_utf8 line) as (λ t. is_utf8 line ≡ t →
          cond t (as_value (λ w. Some w) (reading_version line)) (Err NotUtf8) ≡ Err reason → LineReason line reason) [
            | true ↦ λ utf8 e. version_refused line reason kept (IsUtf8-from_is_utf8 line utf8)
                (still_refused (λ (w : VersionData). Some w) (reading_version line) reason e)
            | false ↦ λ other e.
                let same : NotUtf8 ≡ reason = cc in
                subst P same (not_utf8 line kept (λ utf8. let clash = sym other ∙ is_utf8-from_IsUtf8 line utf8 in cc))
          ] refl
    ] refl

version_reported : (line : List ℕ) (reason : OplReason) → is_skipped line ≡ false → IsUtf8 line → reading_version line ≡ Err reason →
    reading_line line ≡ Err reason
version_reported line reason kept utf8 e = reading.utf8_line line kept utf8 ∙ ap (as_value (λ w. Some w)) e

object_reported : (line object : List ℕ) (others : List (List ℕ)) (reason : OplReason) → split_all (is_end Blanks) line ≡ object ∷ others →
    reading_object object ≡ Err reason → reading_version line ≡ Err reason
unfolding reading_version
object_reported line object others reason parted e =
    let pieces = pieces_of (is_end Blanks) (split_first (is_end Blanks) line).1 in
    let rest = λ (o : Kind × ℤ). and_then (reading_fields o.0 pieces no_fields) (reading_whole o.0 o.1) in
    ap (λ r. and_then r rest) (ap reading_object (first_and_rest line object others parted).0 ∙ e)

fields_of_line_reported : (line object : List ℕ) (others : List (List ℕ)) (k : Kind) (id : ℤ) (reason : OplReason) →
    split_all (is_end Blanks) line ≡ object ∷ others → SpellsObject object k id → reading_fields k others no_fields ≡ Err reason →
    reading_version line ≡ Err reason
unfolding reading_version
fields_of_line_reported line object others k id reason parted names e =
    let pieces = pieces_of (is_end Blanks) (split_first (is_end Blanks) line).1 in
    let at = first_and_rest line object others parted in
    let rest = λ (o : Kind × ℤ). and_then (reading_fields o.0 pieces no_fields) (reading_whole o.0 o.1) in
    ap (λ r. and_then r rest) (ap reading_object at.0 ∙ object_read object k id names)
    ∙ ap (λ r. and_then r (reading_whole k id)) (ap (λ ps. reading_fields k ps no_fields) at.1 ∙ e)

-- A line that has a reason is refused with it.
pub reason_is_reported : ReasonIsReported
reason_is_reported line reason (not_utf8 line' kept other) = reading.not_utf8 line' kept other
reason_is_reported line reason (no_object line' object others reason' kept utf8 parted faulty) =
    version_reported line' reason' kept utf8 (object_reported line' object others reason' parted
    (object_reason_reported object reason' faulty))
reason_is_reported line reason (faulty_field line' object others k id reason' kept utf8 parted names faulty) =
    version_reported line' reason' kept utf8 (fields_of_line_reported line' object others k id reason' parted names
    (fields_reported k others reason' faulty))
reason_is_reported line reason (no_whole line' k id parts reason' line_parts faulty) =
    version_reported line' reason' line_parts.not_skipped line_parts.utf8
    (parts_determine line' k id parts line_parts ∙ whole_reported k id (fields_of_parts parts) reason' faulty)

neither_by : (line : List ℕ) (result : Result (Option VersionData) OplReason) → SpellsNothing line → reading_line line ≡ result →
    HasOneReason line
neither_by line (Ok None) nothing e = let clash = sym nothing.kept ∙ skipped_only line e in cc
neither_by line (Ok (Some v)) nothing e = absurd (nothing.none v (read_is_spelled line v e))
neither_by line (Err reason) nothing e = record {
  reason = reason;
  has = reported_is_reason line reason e;
  only = (λ other h. let both = sym (reason_is_reported line other h) ∙ e in let same : other ≡ reason = cc in same);
}

-- A line that spells nothing and isn't skipped has exactly one reason.
pub neither_has_one_reason : NeitherHasOneReason
neither_has_one_reason line nothing = neither_by line (reading_line line) nothing refl

-- A line that has a reason spells nothing.
pub reason_spells_nothing : ReasonSpellsNothing
reason_spells_nothing line reason h =
    let e = reason_is_reported line reason h in
    record { kept = not_skipped line reason e; none = λ v s. refused_spells_nothing line reason v e s }

-- a refusal for another reason than Memory has the reason of the line
pub result_reason : (line : List ℕ) (result : Result (Option VersionData) OplReason) → OplReads (reading_line line) result →
    IfErr result (λ reason. (reason ≡ Memory) ⊎ LineReason line reason)
result_reason line (Ok read) h = tt
result_reason line (Err reason) h = ⊎_elim (λ memory. inl memory) (λ refused. inr (reported_is_reason line reason refused)) h
