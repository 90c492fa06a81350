use Rattle.std.proofs.Common.{◌<◌, arith, length, slice_index_or, pos}
use Rattle.std.proofs.lemmas.List.{get_or_default}
use Rattle.osm_model.specs.declared.kind.Kind.TheVariants.{Node}
use Rattle.osm_mirror.specs.declared.run.bounds.Found.{Found}
use Rattle.osm_mirror.proofs.run_laws.BoundSearch.{search_on, search_stops, search_over}
use Rattle.osm_mirror.proofs.run.bounds.bound.Goals as goal

-- the object in place of one outside of the list
abbrev none : Found
none = record { object = record { kind = Node; id = pos 0 }; weight = 0 }

pub returns-then-has_shares : goal.returns-then-has_shares
returns-then-has_shares c short =
    let found = c.args.found.now in
    let index = c.found.index in
    let x : Found = slice_index_or found index none in
    let low : index < length found = omega (arith, c.found-test.true) in
    search_stops c.args.number c.args.count found c.requires.ascend index c.found.before c.found.below c.found.last c.found.invariant x
    low (get_or_default found index none x low) c.weight_below-below.result c.weight_of-weight.result c.weight_below-below.ensures
    c.weight_of-weight.ensures c.has_shares.result c.has_shares.ensures short c.if-has_shares.true

pub found-preserved : goal.found-preserved
found-preserved c short =
    let found = c.args.found.now in
    let index = c.found.index in
    let x : Found = slice_index_or found index none in
    let low : index < length found = omega (arith, c.found-test.true) in
    search_on c.args.number c.args.count found c.requires.ascend index c.found.before c.found.below c.found.last c.found.invariant x
    low (get_or_default found index none x low) c.weight_below-below.result c.weight_of-weight.result c.weight_below-below.ensures
    c.weight_of-weight.ensures c.has_shares.result c.has_shares.ensures short c.if-has_shares.false c.saturating_add-before.result
    c.saturating_add-before.ensures

pub returns : goal.returns
returns c short =
    search_over c.args.number c.args.count c.args.found.now c.found.index c.found.before c.found.below c.found.last c.found.invariant
    (omega (arith, c.found-test.false)) short
