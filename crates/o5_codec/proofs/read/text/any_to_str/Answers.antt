use Rattle.std.proofs.Common.{ap}
use Rattle.std.specs.Str.{chars}
use Rattle.o5_codec.proofs.TextSteps.{text_read, text_refused}
use Rattle.o5_codec.proofs.read.text.any_to_str.Goals as goal

pub returns-in-Ok-clause-text : goal.returns-in-Ok-clause-text
returns-in-Ok-clause-text c = text_read _ _ c.in-Ok.ensures.1 (ap chars c.in-Ok.ensures.0)

pub returns-in-Err-clause-text : goal.returns-in-Err-clause-text
returns-in-Err-clause-text c = text_refused _ c.in-Err.ensures
