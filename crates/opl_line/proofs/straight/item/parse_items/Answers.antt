use Rattle.std.proofs.Common.{◌≡◌, ◌∷◌, ◌++◌, [], sym, ap, ◌∙◌, rules, append_assoc}
use Rattle.osm_model.specs.Line.{list_text}
use Rattle.opl_line.proofs.StraightListLaws.{with_commas, list_ends}
use Rattle.opl_line.proofs.straight.item.parse_items.Goals as goal

pub returns-then-is_empty-clause-text : goal.returns-then-is_empty-clause-text
returns-then-is_empty-clause-text g c =
    let form = g.T.StraightItem.form in
    let before = c.items.items.items in
    let item = c.in_ok-item.item in
    let after = c.in_ok-item.after.now in
    let pushed : c.push.new.self.items ≡ before ++ item ∷ [] = search rules in
    c.items.invariant.text
    ∙ ap (λ t. with_commas form before ++ t) c.in_ok-item.ensures.text
    ∙ sym (append_assoc (with_commas form before) (form item) after)
    ∙ ap (λ t. t ++ after) (sym (ap (list_text form) pushed ∙ list_ends form before item))
