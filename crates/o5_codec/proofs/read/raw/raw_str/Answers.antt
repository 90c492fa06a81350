use Rattle.std.proofs.Common.{◌≡◌, true, subst, ap, sym, rules}
use Rattle.std.specs.List.{list_all}
use Rattle.std.specs.Str.{chars}
use Rattle.std.proofs.lemmas.Str.{IsUtf8-from_ascii}
use Rattle.osm_model.specs.Escape.{is_raw_byte, IsPlain}
use Rattle.o5_codec.proofs.RawByteLaws.{raw_ascii, raw_plain}
use Rattle.o5_codec.proofs.TextSteps.{text_read}
use Rattle.o5_codec.proofs.read.raw.raw_str.Goals as goal

pub from_utf8_unchecked-requires : goal.from_utf8_unchecked-requires
from_utf8_unchecked-requires c =
    let raw : list_all is_raw_byte c.args.bytes.now ≡ true = search rules in
    IsUtf8-from_ascii c.args.bytes.now (raw_ascii c.args.bytes.now raw)

pub returns-clause-plain : goal.returns-clause-plain
returns-clause-plain c =
    let raw : list_all is_raw_byte c.args.bytes.now ≡ true = search rules in
    let same : c.from_utf8_unchecked.result.now ≡ c.args.bytes.now = search rules in
    subst IsPlain (sym same) (raw_plain c.args.bytes.now raw)

pub returns-clause-text : goal.returns-clause-text
returns-clause-text c =
    let bytes = c.args.bytes.now in
    let raw : list_all is_raw_byte bytes ≡ true = search rules in
    let same : c.from_utf8_unchecked.result.now ≡ bytes = search rules in
    text_read bytes (chars c.from_utf8_unchecked.result.now) (IsUtf8-from_ascii bytes (raw_ascii bytes raw)) (ap chars same)
