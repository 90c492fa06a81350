use Rattle.std.proofs.Common.{rules, [], ◌∷◌}
use Rattle.osm_files.proofs.EndRuleLaws.{last_written}
use Rattle.osm_files.proofs.end_rule.last_after.Goals as goal

pub returns : goal.returns
returns c =
    last_written c.args.last c.args.bytes.now c.copy_from_slice.new.self c.copy_from_slice-2.new.self (0 ∷ 0 ∷ 0 ∷ 0 ∷ 0 ∷ 0 ∷ 0 ∷ [])
    c.min-added.result (search rules) (search rules) c.min-added.ensures c.copy_from_slice.ensures.after c.copy_from_slice-2.ensures.after
