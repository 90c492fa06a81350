use Rattle.std.proofs.Common.{rules}
use Rattle.osm_model.proofs.ValidLaws.{valid_version}
use Rattle.osm_model.proofs.version.Version.from_checked_parts.Goals as goal

pub invariant_of-result : goal.invariant_of-result
invariant_of-result c =
    let location = rw (c.finish.ensures.body, c.deref_mut.ensures.value) at c.finish.ensures.location in
    rw (c.finish.ensures.id, c.finish.ensures.kind, c.finish.ensures.meta, c.finish.ensures.body, c.deref_mut.ensures.value)
    (valid_version c.args.parts.value.id c.args.parts.value.meta c.args.parts.value.body c.requires location, search rules)

pub returns-clause-valid : goal.returns-clause-valid
returns-clause-valid c = (invariant_of-result c).0
