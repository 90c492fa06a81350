use Rattle.std.proofs.Common.{◌≡◌, subst, arith}
use Rattle.osm_files.specs.Held.{HoldsSorted}
use Rattle.osm_files.specs.Spell.{spell}
use Rattle.osm_mirror.specs.fleet.Mirror.{MirrorData}
use Rattle.osm_mirror.proofs.fleet_laws.MirrorLaws.{spelling_holds, appended_to_empty}
use Rattle.osm_mirror.proofs.fleet.mirror.Mirror.write.Goals as goal

pub returns-in-Ok-clause-written : goal.returns-in-Ok-clause-written
returns-in-Ok-clause-written c =
    subst (λ (m : MirrorData). c.into_vec.result.items ≡ spell c.args.format m.held) c.self.view_is
    (appended_to_empty _ _ _ _ c.in-Ok.ensures.written.appended c.new-out.ensures.bytes c.into_vec.ensures)

pub returns-in-Ok-clause-accepted : goal.returns-in-Ok-clause-accepted
returns-in-Ok-clause-accepted c =
    let sent = c.in-Ok.ensures.written in
    subst (λ (m : MirrorData). HoldsSorted c.into_vec.result.items m.held) c.self.view_is
    (spelling_holds c.args.format c.self.inside.held c.into_vec.result.items c.self.invariant.versions
    (appended_to_empty _ _ _ _ sent.appended c.new-out.ensures.bytes c.into_vec.ensures) (omega (arith, sent.short)))
