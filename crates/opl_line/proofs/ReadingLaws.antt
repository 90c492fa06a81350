-- Whole lines, read.
use Rattle.std.proofs.Common.{◌≡◌, ℕ, ℤ, ◌==◌, true, false, not, cond, List, Some, Result, Ok, Err, refl, sym, ap, ◌∙◌, inl, inr, ⊎_elim}
use Rattle.std.proofs.lemmas.Str.{is_utf8-from_IsUtf8, IsUtf8-from_is_utf8}
use Rattle.std.specs.Str.{IsUtf8, is_utf8}
use Rattle.osm_model.specs.declared.kind.Kind.{Kind}
use Rattle.osm_model.specs.declared.body.Body.{Body}
use Rattle.osm_model.specs.declared.meta.Meta.{Meta}
use Rattle.osm_model.specs.New.{is_dated, version_or_fault}
use Rattle.opl_line.specs.declared.general.field.Fields.{Fields}
use Rattle.opl_line.specs.declared.reason.OplReason.{OplReason}
use Rattle.opl_line.specs.declared.reason.OplReason.TheVariants.{NotUtf8, NoVersion, NoTime}
use Rattle.opl_line.specs.Results.{and_then, as_value, OplReads}
use Rattle.opl_line.specs.Reading.{is_skipped, meta_of, reading_body, unless_fault, reading_whole, reading_version, reading_line}

-- A line that isn't skipped and isn't UTF-8 is refused as NotUtf8.
pub not_utf8 : (line : List ℕ) → is_skipped line ≡ false → (IsUtf8 line → ⊥) → reading_line line ≡ Err NotUtf8
not_utf8 line kept other =
    rw kept (elim (is_utf8 line) as (λ t. is_utf8 line ≡ t →
    cond t (as_value (λ v. Some v) (reading_version line)) (Err NotUtf8) ≡ Err NotUtf8) [
      | true ↦ λ e. absurd (other (IsUtf8-from_is_utf8 line e))
      | false ↦ λ e. refl
    ] refl)

-- A line that isn't skipped and is UTF-8 is read as its version.
pub utf8_line : (line : List ℕ) → is_skipped line ≡ false → IsUtf8 line → reading_line line ≡ as_value (λ v. Some v) (reading_version line)
utf8_line line kept utf8 = rw (kept, is_utf8-from_IsUtf8 line utf8) refl

-- The data of all fields makes the version that they are read as.
pub whole_line : (kind : Kind) (id : ℤ) (fields : Fields) (meta : Meta) (body : Body) → meta ≡ meta_of fields →
    (meta.version == 0) ≡ false → is_dated meta ≡ true → reading_body kind fields ≡ Ok body →
    unless_fault (version_or_fault id meta body) ≡ reading_whole kind id fields
whole_line kind id fields meta body same numbered dated read =
    let numbered_fields : ((meta_of fields).version == 0) ≡ false = sym (ap (λ m. m.version == 0) same) ∙ numbered in
    let dated_fields : is_dated (meta_of fields) ≡ true = sym (ap is_dated same) ∙ dated in
    ap (λ m. unless_fault (version_or_fault id m body)) same
    ∙ sym (
    ap (λ t. cond t (Err NoVersion) (cond (not (is_dated (meta_of fields))) (Err NoTime)
    (and_then (reading_body kind fields) (λ b. unless_fault (version_or_fault id (meta_of fields) b))))) numbered_fields
    ∙ ap (λ t. cond (not t) (Err NoTime) (and_then (reading_body kind fields)
    (λ b. unless_fault (version_or_fault id (meta_of fields) b)))) dated_fields
    ∙ ap (λ r. and_then r (λ b. unless_fault (version_or_fault id (meta_of fields) b))) read
    )

-- the result of a reading with `f` applied to its value
pub as_result : {X Y : Type 0} (f : X → Y) (reading result : Result X OplReason) → OplReads reading result →
    OplReads (as_value f reading) (as_value f result)
as_result f reading (Ok x) h = ap (as_value f) h
as_result f reading (Err reason) h = ⊎_elim (λ memory. inl memory) (λ refused. inr (ap (as_value f) refused)) h
