use Rattle.std.proofs.Common.{ap, ◌∙◌}
use Rattle.std.specs.Ordering.{nat_cmp}
use Rattle.osm_model.proofs.RankLaws.{by_rank}
use Rattle.osm_model.specs.Rank.{rank_of}
use Rattle.osm_model.proofs.ranked.RankedOrd.cmp.Goals as goal

pub returns-in_default : goal.returns-in_default
returns-in_default c =
    let one = c.self.invariant ∙ ap rank_of c.self.view_is in
    let other = c.other.invariant ∙ ap rank_of c.other.view_is in
    let by_value = c.cmp.ensures ∙ ap (λ r. nat_cmp r c.other.inside.rank.value) one ∙ ap (nat_cmp _) other in
    by_rank c.args.self.now c.args.other.now c.cmp.result by_value c.in_default.not-Equal
