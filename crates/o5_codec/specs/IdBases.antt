-- Bases of ids are ids.
use Rattle.std.specs.Prelude.{◌≡◌, true}
use Rattle.osm_model.specs.Id.{is_id}
use Rattle.o5_codec.specs.declared.base.Bases.{Bases}

pub record AreIds (b : Bases) : Type 0 where
  pub id : is_id b.id ≡ true
  pub reference : is_id b.reference ≡ true
  pub node_member : is_id b.node_member ≡ true
  pub way_member : is_id b.way_member ≡ true
  pub relation_member : is_id b.relation_member ≡ true
