use Rattle.std.proofs.Common.{◌≡◌, ◌∷◌, inr, true, is_some, rules, option_copied}
use Rattle.opl_line.specs.declared.bytes.cut.Delimiter.TheVariants.{Equals}
use Rattle.opl_line.specs.Delimiter.{is_end, split_all, pieces_of}
use Rattle.opl_line.proofs.ItemLaws.{second_equals}
use Rattle.opl_line.proofs.general.item.TagItem.read.Goals as goal

pub returns-then-is_some : goal.returns-then-is_some
returns-then-is_some c =
    let e : split_all (is_end Equals) c.args.text.now ≡ c.split.result.0.now ∷ split_all (is_end Equals) c.in_default-Some.rest.now =
    search rules in
    let f : split_all (is_end Equals) c.in_default-Some.rest.now ≡ c.split-2.result.0.now
    ∷ pieces_of (is_end Equals) (option_copied c.split-2.result.1) = search rules in
    let some : is_some (option_copied c.split-2.result.1) ≡ true = search rules in
    inr (second_equals _ _ _ _ _ e f some)
