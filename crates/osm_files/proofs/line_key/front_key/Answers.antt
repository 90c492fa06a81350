use Rattle.osm_files.proofs.LineKeyLaws.{usual_front}
use Rattle.osm_files.proofs.line_key.front_key.Goals as goal

pub returns : goal.returns
returns c =
    usual_front c.in_ok-key.key c.args.bytes.now c.in_ok-key.rest.now c.in_ok-strip_byte.field-0.now c.in_ok-key.ensures
    c.in_ok-strip_byte.ensures
