use Rattle.std.proofs.Common.{◌≡◌, ap, sym, ◌∙◌, subst}
use Rattle.std.specs.List.Sorted.{IsStrictlySortedBy}
use Rattle.std.specs.Result.{MatchResult}
use Rattle.osm_model.specs.Order.{object_cmp}
use Rattle.osm_model.specs.Sets.{to_list, union}
use Rattle.osm_model.specs.VersionSet.{VersionSet}
use Rattle.osm_merge.specs.Selected.{snapshot}
use Rattle.osm_merge.proofs.TakenLaws.{snapshot_ascends, kept_ascends, newest_enough}
use Rattle.osm_merge.proofs.taking.absorb_newest.Goals as goal

pub take_in-requires-clause-held_ascends : goal.take_in-requires-clause-held_ascends
take_in-requires-clause-held_ascends c = kept_ascends c.args.held.now c.requires

pub take_in-requires-clause-more_ascends : goal.take_in-requires-clause-more_ascends
take_in-requires-clause-more_ascends c = subst (λ (s : VersionSet). IsStrictlySortedBy object_cmp (to_list s)) (sym c.into_snapshot.ensures)
    (snapshot_ascends c.args.more)

pub returns : goal.returns
returns c =
    let same : snapshot (union c.args.held.now c.into_snapshot.result) ≡ snapshot (union c.args.held.now c.args.more) =
    ap (λ (s : VersionSet). snapshot (union c.args.held.now s)) c.into_snapshot.ensures ∙ newest_enough c.args.held.now c.args.more in
    subst (λ (s : VersionSet). MatchResult c.take_in.result (λ _. c.take_in.new.held ≡ s) (λ _. c.take_in.new.held ≡ c.args.held.now)) same
    c.take_in.ensures
