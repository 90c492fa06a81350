use Rattle.std.proofs.Common.{◌≡◌, true, ap, ◌∙◌, sym, Some, None, Ok, rules, option_copied}
use Rattle.std.specs.Str.{chars}
use Rattle.std.specs.List.{list_all}
use Rattle.std.specs.Option.{option_map, ok_or}
use Rattle.std.specs.String.{string_bytes}
use Rattle.opl_line.specs.declared.reason.OplReason.TheVariants.{BadText}
use Rattle.opl_line.specs.declared.bytes.cut.Delimiter.TheVariants.{Percents}
use Rattle.opl_line.specs.Delimiter.{is_end, split_first, pieces_of}
use Rattle.opl_line.specs.Text.{is_literal, text_of, text_of_pieces}
use Rattle.opl_line.proofs.TextLaws.{all_read}
use Rattle.opl_line.proofs.RawLaws.{raw_text}
use Rattle.opl_line.proofs.general.text.read_text.Goals as goal

pub returns-in-Ok : goal.returns-in-Ok
returns-in-Ok c =
    let raw : list_all is_literal c.in-Some.raw.now ≡ true = search rules in
    let whole : split_first (is_end Percents) c.args.text.now ≡ (c.in-Some.raw.now, None) = search rules in
    ap (λ parts. ok_or (option_map chars (text_of_pieces parts)) BadText) whole
    ∙ raw_text c.in-Some.raw.now raw
    ∙ ap (λ t. Ok t) (sym c.in-Ok.ensures.characters)

pub returns : goal.returns
returns c =
    let none : option_copied c.escapes.escapes ≡ None = search rules in
    let text : text_of c.args.text.now ≡ Some (string_bytes c.escapes.out) = c.escapes.invariant
    ∙ all_read _ _ (ap (pieces_of (is_end Percents)) none) in
    ap (λ t. ok_or (option_map chars t) BadText) text ∙ ap (λ t. Ok t) (sym c.from_string.ensures.characters)
