use Rattle.std.proofs.Common.{◌≡◌, ◌≤◌, take}
use Rattle.osm_mirror.specs.fleet.PlanRun.{refused_count}
use Rattle.osm_mirror.proofs.fleet.plan_run.PlanRun.refused.Given as goal

abbrev pub invariant-replies : goal.invariant-replies
invariant-replies l = (l.count ≤ l.reply-index) × (l.count ≡ refused_count (take l.reply-index l.self.replies.items))
