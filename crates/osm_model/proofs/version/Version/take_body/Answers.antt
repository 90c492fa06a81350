use Rattle.std.proofs.Common.{rules}
use Rattle.osm_model.specs.Inside.{data_of}
use Rattle.osm_model.proofs.ValidLaws.{without_body}
use Rattle.osm_model.proofs.version.Version.take_body.Goals as goal

pub invariant_of-self : goal.invariant_of-self
invariant_of-self c =
    rw (c.take_body.ensures.id, c.take_body.ensures.kind, c.take_body.ensures.meta, c.take_body.ensures.body, c.deref_mut.ensures.value)
    (without_body (data_of c.self.inside) c.self.inside.parts.value.kind c.self.invariant.0, search rules)
