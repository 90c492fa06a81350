use Rattle.std.proofs.Common.{◌≡◌, inl, inr, ⊎_elim, Some, None, Err, rules, option_copied, ◌∙◌, sym, ap}
use Rattle.opl_line.specs.declared.bytes.cut.Delimiter.TheVariants.{Commas}
use Rattle.opl_line.specs.Delimiter.{is_end, pieces_of}
use Rattle.opl_line.proofs.ItemLaws.{reading_on, one_item, refused_item, all_items}
use Rattle.opl_line.proofs.general.item.read_list.Goals as goal

pub returns-in_err-read : goal.returns-in_err-read
returns-in_err-read g c =
    let rest : option_copied c.items.rest ≡ Some c.in-Some.text.now = search rules in
    let e = ap (pieces_of (is_end Commas)) rest ∙ c.split.ensures.pieces in
    let outcome : c.from_residual-in_err-read.result ≡ Err c.in_err-read.field-0.0 = search rules in
    rw outcome (⊎_elim (λ memory. inl memory) (λ refused.
    inr (c.items.invariant ∙ refused_item g.T.Item.reading c.items.items.items _ _ _ _ e refused)) c.in_err-read.ensures)

pub items-preserved : goal.items-preserved
items-preserved g c =
    let rest : option_copied c.items.rest ≡ Some c.in-Some.text.now = search rules in
    let e = ap (pieces_of (is_end Commas)) rest ∙ c.split.ensures.pieces in
    c.items.invariant
    ∙ one_item g.T.Item.reading c.items.items.items c.in_ok-read.field-0 _ _ _ e c.in_ok-read.ensures
    ∙ ap (λ xs. reading_on g.T.Item.reading xs (pieces_of (is_end Commas) (option_copied c.split.result.1)))
    (sym c.in_ok-push.ensures.items)

pub returns : goal.returns
returns g c =
    let none : option_copied c.items.rest ≡ None = search rules in
    c.items.invariant ∙ all_items g.T.Item.reading c.items.items.items _ (ap (pieces_of (is_end Commas)) none)
