use Rattle.std.proofs.Common.{◌≡◌, take, sym, subst, rules}
use Rattle.osm_model.specs.Escape.{IsPlain}
use Rattle.opl_line.proofs.StraightTextLaws.{raw_bytes, raw_plain, raw_utf8, read_front}
use Rattle.opl_line.proofs.straight.text.parse_text.Goals as goal

pub from_utf8_unchecked-raw-requires : goal.from_utf8_unchecked-raw-requires
from_utf8_unchecked-raw-requires c = raw_utf8 _ (raw_bytes _ c.unescaped_length-length.ensures.raw)

pub returns-clause-text : goal.returns-clause-text
returns-clause-text c = (read_front c.args.bytes.now c.in-Ok.text c.unescaped_length-length.result c.unescaped_length-length.ensures.raw
    (search rules)).spelled

pub returns-clause-valid : goal.returns-clause-valid
returns-clause-valid c = (read_front c.args.bytes.now c.in-Ok.text c.unescaped_length-length.result c.unescaped_length-length.ensures.raw
    (search rules)).valid

pub from_raw-requires : goal.from_raw-requires
from_raw-requires c =
    let front = take c.unescaped_length-length.result c.args.bytes.now in
    let same : c.from_utf8_unchecked-raw.result.now ≡ front = search rules in
    subst IsPlain (sym same) (raw_plain front (raw_bytes front c.unescaped_length-length.ensures.raw))
