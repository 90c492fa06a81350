use Rattle.std.proofs.Common.{◌≡◌, inl, inr, ⊎_elim, Some, None, Err, rules, option_copied, ◌∙◌, ap}
use Rattle.opl_line.specs.declared.bytes.cut.Delimiter.TheVariants.{Blanks}
use Rattle.opl_line.specs.Delimiter.{is_end, pieces_of}
use Rattle.opl_line.proofs.FieldLaws.{one_field, refused_field, all_fields}
use Rattle.opl_line.proofs.general.field.Fields.read.Goals as goal

pub returns-in_err-add : goal.returns-in_err-add
returns-in_err-add c =
    let rest : option_copied c.fields.rest ≡ Some c.in-Some.text.now = search rules in
    let e = ap (pieces_of (is_end Blanks)) rest ∙ c.split.ensures.pieces in
    let outcome : c.from_residual.result ≡ Err c.in_err-add.field-0.0 = search rules in
    rw outcome (⊎_elim (λ memory. inl memory) (λ refused.
    inr (c.fields.invariant ∙ refused_field c.args.kind _ _ _ _ _ e refused)) c.in_err-add.ensures)

pub fields-preserved : goal.fields-preserved
fields-preserved c =
    let rest : option_copied c.fields.rest ≡ Some c.in-Some.text.now = search rules in
    let e = ap (pieces_of (is_end Blanks)) rest ∙ c.split.ensures.pieces in
    c.fields.invariant ∙ one_field c.args.kind _ _ _ _ _ e c.in_ok-add.ensures

pub returns : goal.returns
returns c =
    let none : option_copied c.fields.rest ≡ None = search rules in
    c.fields.invariant ∙ all_fields c.args.kind _ _ (ap (pieces_of (is_end Blanks)) none)
