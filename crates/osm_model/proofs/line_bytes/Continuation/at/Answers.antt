use Rattle.std.proofs.lemmas.Str.{chars-nil}
use Rattle.osm_model.proofs.line_bytes.Continuation.at.Goals as goal

pub returns-clause-text : goal.returns-clause-text
returns-clause-text c = chars-nil
