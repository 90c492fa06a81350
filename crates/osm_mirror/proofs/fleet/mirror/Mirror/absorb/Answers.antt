use Rattle.std.proofs.Common.{sym, ap}
use Rattle.osm_model.specs.Sets.{union}
use Rattle.osm_mirror.specs.declared.fleet.keep.Keep.{Keep}
use Rattle.osm_mirror.specs.fleet.Mirror.{kept_part}
use Rattle.osm_mirror.proofs.fleet_laws.MirrorLaws.{absorbed}
use Rattle.osm_mirror.proofs.fleet.mirror.Mirror.absorb.Goals as goal

pub invariant_of-self : goal.invariant_of-self
invariant_of-self c =
    absorbed (record { keep = c.self.inside.keep; held = c.self.inside.held }) c.args.history
    (union c.self.inside.held c.args.history) c.absorb.new.held c.absorb.result c.self.invariant c.requires
    (ap (λ (keep : Keep). kept_part keep (union c.self.inside.held c.args.history)) (sym c.in-Full.is)) c.absorb.ensures

pub invariant_of-self-in-Latest : goal.invariant_of-self-in-Latest
invariant_of-self-in-Latest c =
    absorbed (record { keep = c.self.inside.keep; held = c.self.inside.held }) c.args.history _ c.absorb_newest.new.held
    c.absorb_newest.result c.self.invariant c.requires
    (ap (λ (keep : Keep). kept_part keep (union c.self.inside.held c.args.history)) (sym c.in-Latest.is)) c.absorb_newest.ensures
