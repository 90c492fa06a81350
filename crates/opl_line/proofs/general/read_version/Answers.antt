use Rattle.std.proofs.Common.{◌≡◌, Ok, rules}
use Rattle.opl_line.specs.declared.bytes.cut.Delimiter.TheVariants.{Blanks}
use Rattle.opl_line.specs.Delimiter.{is_end, split_first, pieces_of}
use Rattle.opl_line.specs.Field.{no_fields, reading_fields}
use Rattle.opl_line.specs.Reading.{reading_version}
use Rattle.opl_line.proofs.WithinLaws.{fields_within}
use Rattle.opl_line.proofs.general.read_version.Goals as goal

pub returns-in_err-kind : goal.returns-in_err-kind
unfolding reading_version
returns-in_err-kind c = search rules

pub returns-in_err-read : goal.returns-in_err-read
unfolding reading_version
returns-in_err-read c = search rules

pub to_version-requires-clause-within : goal.to_version-requires-clause-within
to_version-requires-clause-within c =
    let read : reading_fields c.in_ok-kind.kind (pieces_of (is_end Blanks) (split_first (is_end Blanks) c.args.line.now).1) no_fields
    ≡ Ok c.read.new.self = search rules in
    fields_within c.args.line.now c.in_ok-kind.kind c.read.new.self c.utf8.line read

pub returns : goal.returns
unfolding reading_version
returns c = search rules
