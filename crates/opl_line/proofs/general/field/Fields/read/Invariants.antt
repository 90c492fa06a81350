use Rattle.std.proofs.Common.{◌≡◌, option_copied}
use Rattle.opl_line.specs.declared.bytes.cut.Delimiter.TheVariants.{Blanks}
use Rattle.opl_line.specs.Delimiter.{is_end, pieces_of}
use Rattle.opl_line.specs.Field.{reading_fields}
use Rattle.opl_line.proofs.CutLaws.{left_of}
use Rattle.opl_line.proofs.general.field.Fields.read.Given as goal

abbrev pub invariant-fields : goal.invariant-fields
invariant-fields l = reading_fields l.fn.kind (pieces_of (is_end Blanks) (option_copied l.fn.text)) l.fn.self
    ≡ reading_fields l.fn.kind (pieces_of (is_end Blanks) (option_copied l.rest)) l.self

abbrev pub decreases-fields : goal.decreases-fields
decreases-fields l = left_of (option_copied l.rest)
