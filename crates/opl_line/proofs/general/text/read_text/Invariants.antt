use Rattle.std.proofs.Common.{◌≡◌, option_copied}
use Rattle.std.specs.String.{string_bytes}
use Rattle.opl_line.specs.declared.bytes.cut.Delimiter.TheVariants.{Percents}
use Rattle.opl_line.specs.Delimiter.{is_end, pieces_of}
use Rattle.opl_line.specs.Text.{text_of, text_from}
use Rattle.opl_line.proofs.CutLaws.{left_of}
use Rattle.opl_line.proofs.general.text.read_text.Given as goal

abbrev pub invariant-escapes : goal.invariant-escapes
invariant-escapes l = text_of l.text ≡ text_from (string_bytes l.out) (pieces_of (is_end Percents) (option_copied l.escapes))

abbrev pub decreases-escapes : goal.decreases-escapes
decreases-escapes l = left_of (option_copied l.escapes)
