use Rattle.std.proofs.Common.{◌≡◌, subst, List, MatchResult}
use Rattle.std.specs.Prelude.{slice_set}
use Rattle.osm_mirror.specs.fleet.Mirror.{MirrorData, after_taking, WhyNotSpelled}
use Rattle.osm_mirror.specs.fleet.Fleet.{mirror_at, IsShort}
use Rattle.osm_mirror.proofs.fleet_laws.FleetLaws.{here}
use Rattle.osm_mirror.proofs.fleet_laws.MirrorLaws.{written_reply, written_after}
use Rattle.osm_mirror.proofs.fleet.Fleet.pass.Goals as goal

pub returns-clause-reply : goal.returns-clause-reply
returns-clause-reply c =
    let from : c.index.result.now ≡ mirror_at c.args.self.now c.args.from =
    subst (λ (ms : List MirrorData). c.index.result.now ≡ mirror_at ms c.args.from) c.self.view_is
    (here c.self.inside.mirrors.items c.args.from c.index.result.now (rw c.self.view_is c.requires.0) c.index.ensures) in
    subst (λ (m : MirrorData). MatchResult c.take.result (λ _. IsShort c.args.format m.held) (WhyNotSpelled c.args.format m.held)) from
    (written_reply c.in_ok-file.file.items c.deref.result.now c.args.format c.index.result.now.held c.take.result c.deref.ensures.value
    c.in_ok-file.ensures.accepted c.in_ok-file.ensures.written c.take.ensures.reply)

pub returns-clause-mirrors : goal.returns-clause-mirrors
returns-clause-mirrors c =
    let from : c.index.result.now ≡ mirror_at c.args.self.now c.args.from =
    subst (λ (ms : List MirrorData). c.index.result.now ≡ mirror_at ms c.args.from) c.self.view_is
    (here c.self.inside.mirrors.items c.args.from c.index.result.now (rw c.self.view_is c.requires.0) c.index.ensures) in
    subst (λ (m : MirrorData). MatchResult c.take.result
    (λ _. c.take.new.self ≡ slice_set c.args.self.now c.args.to (after_taking (mirror_at c.args.self.now c.args.to) m.held))
    (λ _. c.take.new.self ≡ c.args.self.now)) from
    (written_after c.in_ok-file.file.items c.deref.result.now c.index.result.now.held c.take.result c.args.self.now c.take.new.self
    c.args.to c.deref.ensures.value c.in_ok-file.ensures.accepted c.take.ensures.mirrors)
