use Rattle.std.proofs.Common.{◌≡◌, ◌∙◌, ap, subst, List}
use Rattle.std.specs.Prelude.{slice_set}
use Rattle.std.proofs.lemmas.Result.{err_from_is_err_and}
use Rattle.osm_mirror.specs.fleet.Mirror.{MirrorData, new_mirror, after_taking, WhyNotSpelled}
use Rattle.osm_mirror.specs.fleet.Fleet.{mirror_at}
use Rattle.osm_mirror.proofs.fleet_laws.FleetLaws.{here}
use Rattle.osm_mirror.proofs.fleet_laws.MirrorLaws.{given_not_taken, restarted}
use Rattle.osm_mirror.proofs.fleet.Fleet.restart.Goals as goal

pub returns-in_err-take-clause-reply : goal.returns-in_err-take-clause-reply
returns-in_err-take-clause-reply c =
    let p = err_from_is_err_and c.from_residual-in_err-take.result c.from_residual-in_err-take.ensures.1 in
    let old : c.index-old.result.now ≡ mirror_at c.args.self.now c.args.mirror =
    subst (λ (ms : List MirrorData). c.index-old.result.now ≡ mirror_at ms c.args.mirror) c.self.view_is
    (here c.self.inside.mirrors.items c.args.mirror c.index-old.result.now (rw c.self.view_is c.requires) c.index-old.ensures) in
    rw (p.1, p.2) (subst (λ (m : MirrorData). WhyNotSpelled c.args.format m.held c.in_err-take.field-0.0) old
    (given_not_taken c.in_ok-file.file.items c.deref.result.now c.args.format c.index-old.result.now.held c.in_err-take.field-0.0
    c.deref.ensures.value c.in_ok-file.ensures.accepted c.in_err-take.ensures.refused))

pub returns-clause-mirrors : goal.returns-clause-mirrors
returns-clause-mirrors c =
    let old : c.index-old.result.now ≡ mirror_at c.args.self.now c.args.mirror =
    subst (λ (ms : List MirrorData). c.index-old.result.now ≡ mirror_at ms c.args.mirror) c.self.view_is
    (here c.self.inside.mirrors.items c.args.mirror c.index-old.result.now (rw c.self.view_is c.requires) c.index-old.ensures) in
    let is = restarted c.in_ok-file.file.items c.deref.result.now c.index-old.result.now c.new_like-new.result c.take.new.self
    c.deref.ensures.value c.in_ok-file.ensures.accepted c.new_like-new.ensures c.in_ok-take.ensures.taken.holds
    ∙ ap (λ (m : MirrorData). after_taking (new_mirror m.keep) m.held) old in
    λ i. slice_set (c.self.view_is i) c.args.mirror (is i)
