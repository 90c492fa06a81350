-- The fields of a line in UTF-8 have no fault of data.
use Rattle.std.proofs.Common.{◌≡◌, ℕ, ℤ, ◌==◌, true, false, eqb, ◌&&◌, List, None, unwrap_or, Ok, sym, ap, ◌∙◌, subst}
use Rattle.std.specs.List.{AllByRecursion}
use Rattle.std.specs.Str.{IsUtf8}
use Rattle.osm_model.specs.declared.kind.Kind.{Kind}
use Rattle.osm_model.specs.declared.body.Body.{Body}
use Rattle.osm_model.specs.Id.{is_id}
use Rattle.osm_model.specs.declared.meta.Meta.{Meta}
use Rattle.osm_model.specs.Data.{version_of}
use Rattle.osm_model.specs.New.{is_dated, first_fault}
use Rattle.opl_line.specs.declared.bytes.cut.Delimiter.TheVariants.{Blanks}
use Rattle.opl_line.specs.declared.general.field.Fields.{Fields}
use Rattle.opl_line.specs.Delimiter.{is_end, split_first, pieces_of}
use Rattle.opl_line.specs.Field.{no_fields, reading_fields}
use Rattle.opl_line.specs.Reading.{meta_of, reading_body, unless_fault, reading_whole}
use Rattle.opl_line.specs.Within.{AreWithin}
use Rattle.opl_line.proofs.CutLaws.{cut_split}
use Rattle.opl_line.proofs.MadeLaws.{Passes, without_fault, made}
use Rattle.opl_line.proofs.PartLaws.{parts_of}
use Rattle.opl_line.proofs.RangeLaws.{line_within, body_within}
use Rattle.opl_line.proofs.ReadingLaws.{whole_line}
use Rattle.opl_line.proofs.Utf8Laws.{cut_utf8}

-- The fields of a line make data within its ranges.
pub passes : (k : Kind) (id : ℤ) (fields : Fields) (b : Body) → is_id id ≡ true → AreWithin fields →
    eqb (unwrap_or fields.number 0) 0 ≡ false → is_dated (meta_of fields) ≡ true → reading_body k fields ≡ Ok b →
    Passes id (meta_of fields) b
passes k id fields b is h some dated read =
    let w = body_within k fields b h read in
    record {
      ids = (λ i. is i && w.ids i);
      number = some;
      numbers = (λ i. h.number i && (h.changeset i && (h.uid i && true)));
      time = h.time;
      dated = dated;
      texts = (λ i. h.user i && w.texts i);
    }

-- the data has no fault, and makes the version of the line
pub record Sound (k : Kind) (id : ℤ) (fields : Fields) (meta : Meta) (b : Body) : Type 0 where
  pub fault : first_fault id meta b ≡ None
  pub whole : reading_whole k id fields ≡ Ok (version_of id meta b)

-- The fields of a line make data without a fault.
pub sound : (k : Kind) (id : ℤ) (fields : Fields) (meta : Meta) (b : Body) → meta ≡ meta_of fields → is_id id ≡ true → AreWithin fields →
    (meta.version == 0) ≡ false → is_dated meta ≡ true → reading_body k fields ≡ Ok b → Sound k id fields meta b
sound k id fields meta b same is h some dated read =
    let numbered : ((meta_of fields).version == 0) ≡ false = sym (ap (λ m. m.version == 0) same) ∙ some in
    let p = subst (λ m. Passes id m b) (sym same) (passes k id fields b is h numbered (sym (ap is_dated same) ∙ dated) read) in
    record {
      fault = without_fault id meta b p;
      whole = sym (whole_line k id fields meta b same some dated read) ∙ ap unless_fault (made id meta b p);
    }

-- The contents of the fields of a line in UTF-8 are within their ranges.
pub fields_within : (line : List ℕ) (k : Kind) (fields : Fields) → IsUtf8 line →
    reading_fields k (pieces_of (is_end Blanks) (split_first (is_end Blanks) line).1) no_fields ≡ Ok fields → AreWithin fields
fields_within line k fields utf8 read =
    let pieces = pieces_of (is_end Blanks) (split_first (is_end Blanks) line).1 in
    let said = parts_of k pieces fields read in
    let all = subst (AllByRecursion IsUtf8) (cut_split (is_end Blanks) line) (cut_utf8 Blanks line utf8) in
    subst AreWithin (sym said.together) (line_within k pieces said.parts said.spelled all.1)
