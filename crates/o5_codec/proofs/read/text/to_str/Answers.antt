use Rattle.std.proofs.Common.{ap}
use Rattle.std.proofs.lemmas.Str.{IsUtf8-from_ascii}
use Rattle.std.specs.Str.{chars}
use Rattle.o5_codec.proofs.TextSteps.{text_read}
use Rattle.o5_codec.proofs.read.text.to_str.Goals as goal

pub from_utf8_unchecked-requires : goal.from_utf8_unchecked-requires
from_utf8_unchecked-requires c = IsUtf8-from_ascii _ c.if-is_ascii.ensures.cases

pub returns-then-is_ascii-clause-text : goal.returns-then-is_ascii-clause-text
returns-then-is_ascii-clause-text c = text_read _ _ (IsUtf8-from_ascii _ c.if-is_ascii.ensures.cases)
    (ap chars c.from_utf8_unchecked.ensures)
