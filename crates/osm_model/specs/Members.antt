-- The ids and the roles of members (the OSM wiki's page Relation).
use Rattle.std.specs.Prelude.{ℕ, ℤ, List, map}
use Rattle.osm_model.specs.declared.members.Member.{Member}

abbrev pub ids_of_members : List Member → List ℤ
ids_of_members ms = map (λ m. m.id) ms

abbrev pub roles_of : List Member → List (List ℕ)
roles_of ms = map (λ m. m.role) ms
