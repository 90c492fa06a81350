use Rattle.std.proofs.Common.{ap, ◌∙◌, ◌+◌, ◌*◌, arith, get_or}
use Rattle.osm_model.specs.declared.put.TheConstants.{PAIRS}
use Rattle.osm_model.proofs.PairLaws.{last_digit}
use Rattle.osm_model.proofs.put.ones.Goals as goal

pub returns : goal.returns
returns c = ap (λ n. get_or PAIRS (2 * n + 1) 0) c.from.ensures ∙ last_digit c.args.number (omega arith)
