-- A version is read from a line exactly if the line spells it.
use Rattle.std.proofs.Common.{◌≡◌, ℕ, ℤ, Bool, true, false, not, cond, ◌==◌, List, [], ◌∷◌, Option, Some, None, Result, Ok, Err, refl, sym}
use Rattle.std.proofs.Common.{ap, ◌∙◌, subst, IfOk, IfErr, MatchOption, inl, inr, ⊎_elim, ◌⊎◌}
use Rattle.std.proofs.lemmas.Str.{IsUtf8-from_is_utf8}
use Rattle.std.specs.List.{list_all}
use Rattle.std.specs.Str.{IsUtf8, is_utf8}
use Rattle.osm_model.specs.declared.kind.Kind.{Kind}
use Rattle.osm_model.specs.declared.body.Body.{Body}
use Rattle.osm_model.specs.declared.fault.ValueFault.{ValueFault}
use Rattle.osm_model.specs.Kind.{kind_letter}
use Rattle.osm_model.specs.Data.{VersionData, version_of, ids_of, texts_of}
use Rattle.osm_model.specs.declared.fault.ValueFault.TheVariants as fault
use Rattle.osm_model.specs.Id.{is_id}
use Rattle.osm_model.specs.Text.{is_text}
use Rattle.osm_model.specs.New.{is_number, is_time, is_dated, first_of_tests, first_fault, unless_faulty, version_or_fault}
use Rattle.opl_line.specs.declared.bytes.cut.Delimiter.TheVariants.{Blanks}
use Rattle.opl_line.specs.declared.general.field.Fields.{Fields}
use Rattle.opl_line.specs.declared.reason.OplReason.{OplReason}
use Rattle.opl_line.specs.declared.reason.OplReason.TheVariants.{NotUtf8, NoVersion, NoTime, Memory}
use Rattle.opl_line.specs.Results.{and_then, as_value, OplReads}
use Rattle.opl_line.specs.Delimiter.{is_end, split_first, split_all, pieces_of}
use Rattle.opl_line.specs.Number.{reading_id}
use Rattle.opl_line.specs.Item.{kind_of_letter}
use Rattle.opl_line.specs.Field.{no_fields, reading_fields}
use Rattle.opl_line.specs.Reading.{is_skipped, reading_kind_and_id, reading_object, meta_of, reading_body, unless_fault, reading_whole}
use Rattle.opl_line.specs.Reading.{reading_version, reading_line}
use Rattle.opl_line.specs.Content.{SpellsObject}
use Rattle.opl_line.specs.Part.{LinePart}
use Rattle.opl_line.specs.Spells.{IsVersionOf, fields_of_parts, SpellsParts, Spells, SpellsNothing, ReadIsSpelled, SpelledIsRead}
use Rattle.opl_line.specs.Spells.{OneReading}
use Rattle.opl_line.specs.Spells.{RefusedSpellsNothing, SkippedSpellsNothing}
use Rattle.opl_line.proofs.NumeralLaws.{id_sound, id_complete}
use Rattle.opl_line.proofs.ResultLaws.{both, became}
use Rattle.opl_line.proofs.CutLaws.{cut_split}
use Rattle.opl_line.proofs.ContentLaws.{letter_of_kind, kind_of_its_letter}
use Rattle.opl_line.proofs.PartLaws.{parts_of, read_of}
use Rattle.opl_line.proofs.ReadingLaws.{utf8_line}

-- ---- the first field
pub object_spelled : (field : List ℕ) (k : Kind) (id : ℤ) → reading_object field ≡ Ok (k, id) → SpellsObject field k id
object_spelled [] k id e = cc
object_spelled (letter ∷ digits) k id read =
    elim (kind_of_letter letter) as (λ o. kind_of_letter letter ≡ o → reading_kind_and_id o digits ≡ Ok (k, id) →
    SpellsObject (letter ∷ digits) k id) [
      | None ↦ λ none e. cc
      | Some l ↦ λ is e.
          let b = became (λ (z : ℤ). (l, z)) (reading_id digits) (k, id) e in
          let same : l ≡ k = ap (λ p. p.0) b.became in
          let same_id : b.from ≡ id = ap (λ p. p.1) b.became in
          record {
            digits = digits;
            lettered = ap (λ c. c ∷ digits) (letter_of_kind letter l is ∙ ap kind_letter same);
            spelled = id_sound digits id (b.said_so ∙ ap (λ z. Ok z) same_id);
          }
    ] refl read

-- An object that is spelled is read.
pub object_read : (field : List ℕ) (k : Kind) (id : ℤ) → SpellsObject field k id → reading_object field ≡ Ok (k, id)
object_read field k id s =
    ap reading_object s.lettered
    ∙ ap (λ o. reading_kind_and_id o s.digits) (kind_of_its_letter k)
    ∙ ap (as_value (λ z. (k, z))) (id_complete s.digits id s.spelled)

-- ---- the version of the fields
made_version : (r : Result VersionData ValueFault) (v : VersionData) → unless_fault r ≡ Ok v → r ≡ Ok v
made_version (Ok w) v e = let same : w ≡ v = cc in ap (λ x. Ok x) same
made_version (Err f) v e = cc

whole_spelled : (k : Kind) (id : ℤ) (fields : Fields) (v : VersionData) → reading_whole k id fields ≡ Ok v → IsVersionOf k id fields v
whole_spelled k id fields v =
    let made = λ (body : Body). unless_fault (version_or_fault id (meta_of fields) body) in
    elim ((meta_of fields).version == 0) as (λ t. cond t (Err NoVersion)
    (cond (not (is_dated (meta_of fields))) (Err NoTime) (and_then (reading_body k fields) made)) ≡ Ok v → IsVersionOf k id fields v) [
      | true ↦ λ e. cc
      | false ↦ elim (is_dated (meta_of fields)) as (λ t. cond (not t) (Err NoTime) (and_then (reading_body k fields) made) ≡ Ok v →
          IsVersionOf k id fields v) [
            | true ↦ λ e. let b = both (reading_body k fields) made v e in
                record { body = b.between; has_body = b.done; made = made_version _ v b.then_done }
            | false ↦ λ e. cc
          ]
    ]

-- data of a version has a number, and an author only with a time
passed : (id number numbers time dated text : Bool) →
    first_of_tests ((id, fault.IdRange) ∷ (number, fault.NoVersion) ∷ (numbers, fault.NumberRange) ∷ (time, fault.TimeRange)
    ∷ (dated, fault.NoTime) ∷ (text, fault.ZeroInText) ∷ []) ≡ None →
    (number ≡ false) × (dated ≡ false)
passed true number numbers time dated text e = cc
passed false true numbers time dated text e = cc
passed false false true time dated text e = cc
passed false false false true dated text e = cc
passed false false false false true text e = cc
passed false false false false false text e = (refl, refl)

no_fault : (o : Option ValueFault) (w v : VersionData) → unless_faulty o w ≡ Ok v → o ≡ None
no_fault None w v e = refl
no_fault (Some f) w v e = cc

whole_read : (k : Kind) (id : ℤ) (fields : Fields) (v : VersionData) → IsVersionOf k id fields v → reading_whole k id fields ≡ Ok v
whole_read k id fields v is =
    let meta = meta_of fields in
    let none : first_fault id meta is.body ≡ None = no_fault (first_fault id meta is.body) (version_of id meta is.body) v is.made in
    let numbered = passed (not (list_all is_id (id ∷ ids_of is.body))) (meta.version == 0)
    (not (list_all is_number (meta.version ∷ meta.changeset ∷ meta.uid ∷ []))) (not (is_time meta.time)) (not (is_dated meta))
    (not (list_all is_text (meta.user ∷ texts_of is.body))) none in
    let made = λ (body : Body). unless_fault (version_or_fault id meta body) in
    ap (λ t. cond t (Err NoVersion) (cond (not (is_dated meta)) (Err NoTime) (and_then (reading_body k fields) made))) numbered.0
    ∙ ap (λ t. cond t (Err NoTime) (and_then (reading_body k fields) made)) numbered.1
    ∙ ap (λ r. and_then r made) is.has_body
    ∙ ap unless_fault is.made

-- ---- the whole line
line_spelled : (line : List ℕ) (v : VersionData) → is_skipped line ≡ false → IsUtf8 line → reading_version line ≡ Ok v → Spells line v
unfolding reading_version
line_spelled line v kept utf8 e =
    let parts = split_first (is_end Blanks) line in
    let rest = λ (object : Kind × ℤ). and_then (reading_fields object.0 (pieces_of (is_end Blanks) parts.1) no_fields)
    (reading_whole object.0 object.1) in
    let object = both (reading_object parts.0) rest v e in
    let k = object.between.0 in
    let id = object.between.1 in
    let fields = both (reading_fields k (pieces_of (is_end Blanks) parts.1) no_fields) (reading_whole k id) v object.then_done in
    let said = parts_of k (pieces_of (is_end Blanks) parts.1) fields.between fields.done in
    let P : Fields → Type 0 = λ f. IsVersionOf k id f v in
    record {
      kind = k;
      id = id;
      parts = said.parts;
      line_parts = record {
        utf8 = utf8;
        not_skipped = kept;
        object = parts.0;
        others = pieces_of (is_end Blanks) parts.1;
        fields = cut_split (is_end Blanks) line;
        names = object_spelled parts.0 k id object.done;
        spelled = said.spelled;
        different = said.different;
      };
      version = subst P said.together (whole_spelled k id fields.between v fields.then_done);
    }

-- A line that is read as a version spells it.
pub read_is_spelled : ReadIsSpelled
read_is_spelled line v =
    elim (is_skipped line) as (λ t. is_skipped line ≡ t →
    cond t (Ok None) (cond (is_utf8 line) (as_value (λ w. Some w) (reading_version line)) (Err NotUtf8)) ≡ Ok (Some v) →
    Spells line v) [
      | true ↦ λ skipped e. cc
      | false ↦ λ kept. elim (is_utf8 line) as (λ t. is_utf8 line ≡ t →
          cond t (as_value (λ w. Some w) (reading_version line)) (Err NotUtf8) ≡ Ok (Some v) → Spells line v) [
            | true ↦ λ utf8 e.
                let b = became (λ (w : VersionData). Some w) (reading_version line) (Some v) e in
                let same : b.from ≡ v = (let s = b.became in cc) in
                line_spelled line v kept (IsUtf8-from_is_utf8 line utf8) (b.said_so ∙ ap (λ w. Ok w) same)
            | false ↦ λ other e. cc
          ] refl
    ] refl

-- The first field of a line is its first piece, and the others are the pieces of the rest.
pub first_and_rest : (line object : List ℕ) (others : List (List ℕ)) → split_all (is_end Blanks) line ≡ object ∷ others →
    ((split_first (is_end Blanks) line).0 ≡ object) × (pieces_of (is_end Blanks) (split_first (is_end Blanks) line).1 ≡ others)
first_and_rest line object others e = let same = sym (cut_split (is_end Blanks) line) ∙ e in (cc, cc)

-- the version of a line is that of its object and parts
pub parts_determine : (line : List ℕ) (k : Kind) (id : ℤ) (parts : List LinePart) → SpellsParts line k id parts →
    reading_version line ≡ reading_whole k id (fields_of_parts parts)
unfolding reading_version
parts_determine line k id parts t =
    let pieces = split_first (is_end Blanks) line in
    let at = first_and_rest line t.object t.others t.fields in
    let rest = λ (object : Kind × ℤ). and_then (reading_fields object.0 (pieces_of (is_end Blanks) pieces.1) no_fields)
    (reading_whole object.0 object.1) in
    ap (λ r. and_then r rest) (ap reading_object at.0 ∙ object_read t.object k id t.names)
    ∙ ap (λ r. and_then r (reading_whole k id)) (ap (λ ps. reading_fields k ps no_fields) at.1
    ∙ read_of k t.others parts t.spelled t.different)

version_read : (line : List ℕ) (v : VersionData) → Spells line v → reading_version line ≡ Ok v
version_read line v s = parts_determine line s.kind s.id s.parts s.line_parts ∙ whole_read s.kind s.id (fields_of_parts s.parts) v s.version

-- A line that spells a version is read as it.
pub spelled_is_read : SpelledIsRead
spelled_is_read line v s = utf8_line line s.line_parts.not_skipped s.line_parts.utf8 ∙ ap (as_value (λ w. Some w)) (version_read line v s)

-- A line spells at most one version.
pub one_reading : OneReading
one_reading line v w s t = let same = sym (spelled_is_read line v s) ∙ spelled_is_read line w t in cc

-- A line that is refused spells nothing.
pub refused_spells_nothing : RefusedSpellsNothing
refused_spells_nothing line reason v refused s = let clash = sym refused ∙ spelled_is_read line v s in cc

-- A line that is skipped spells nothing.
pub skipped_spells_nothing : SkippedSpellsNothing
skipped_spells_nothing line v skipped s = let clash = sym skipped ∙ spelled_is_read line v s in cc

-- ---- consequences of results
pub skipped_only : (line : List ℕ) → reading_line line ≡ Ok None → is_skipped line ≡ true
skipped_only line =
    elim (is_skipped line) as (λ t. cond t (Ok None) (cond (is_utf8 line) (as_value (λ w. Some w) (reading_version line)) (Err NotUtf8))
    ≡ Ok None → t ≡ true) [
      | true ↦ λ e. refl
      | false ↦ elim (is_utf8 line) as (λ t. cond t (as_value (λ w. Some w) (reading_version line)) (Err NotUtf8) ≡ Ok None →
          false ≡ true) [
            | true ↦ λ e. let b = became (λ (w : VersionData). Some w) (reading_version line) None e in let clash = b.became in cc
            | false ↦ λ e. cc
          ]
    ]

-- A version that is returned is spelled by the line.
pub result_spelled : (line : List ℕ) (result : Result (Option VersionData) OplReason) → OplReads (reading_line line) result →
    IfOk result (λ read. MatchOption read (is_skipped line ≡ true) (Spells line))
result_spelled line (Ok None) h = skipped_only line h
result_spelled line (Ok (Some v)) h = read_is_spelled line v h
result_spelled line (Err reason) h = tt

-- A line that is refused isn't skipped.
pub not_skipped : (line : List ℕ) (reason : OplReason) → reading_line line ≡ Err reason → is_skipped line ≡ false
not_skipped line reason =
    elim (is_skipped line) as (λ t. cond t (Ok None) (cond (is_utf8 line) (as_value (λ w. Some w) (reading_version line)) (Err NotUtf8))
    ≡ Err reason → t ≡ false) [
      | true ↦ λ e. cc
      | false ↦ λ e. refl
    ]

-- A line that is refused for another reason than Memory spells nothing.
pub result_refused : (line : List ℕ) (result : Result (Option VersionData) OplReason) → OplReads (reading_line line) result →
    IfErr result (λ reason. (reason ≡ Memory) ⊎ SpellsNothing line)
result_refused line (Ok read) h = tt
result_refused line (Err reason) h = ⊎_elim (λ memory. inl memory)
    (λ refused. inr (record { kept = not_skipped line reason refused; none = λ v s. refused_spells_nothing line reason v refused s })) h
