use Rattle.std.proofs.Common.{arith}
use Rattle.osm_model.proofs.HexLaws.{hex_digit_of}
use Rattle.osm_model.proofs.escape.hex_digit.Goals as goal

pub returns : goal.returns
returns c = hex_digit_of c.args.number (omega arith)
