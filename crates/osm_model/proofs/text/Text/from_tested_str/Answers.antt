use Rattle.std.proofs.Common.{rules}
use Rattle.osm_model.proofs.RawLaws.{plain_whole}
use Rattle.osm_model.proofs.text.Text.from_tested_str.Goals as goal

pub from_raw-requires : goal.from_raw-requires
from_raw-requires c = plain_whole _ _ c.raw_length.ensures.escape (search rules)
