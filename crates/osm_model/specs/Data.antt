-- The data of a version. Contracts see nothing else of a version. Its parts are those of the OSM wiki's page Elements.
-- One rule is this project's own: the body of a deleted version has a kind and nothing else.
use Rattle.std.specs.Prelude.{ℕ, ℤ, Bool, true, false, List, [], ◌++◌, Option}
use Rattle.osm_model.specs.declared.kind.Kind.{Kind}
use Rattle.osm_model.specs.declared.kind.Kind.TheVariants as kind
use Rattle.osm_model.specs.declared.tags.Tag.{Tag}
use Rattle.osm_model.specs.declared.body.Body.{Body}
use Rattle.osm_model.specs.declared.body.Body.TheVariants.{Deleted, Node, Way, Relation}
use Rattle.osm_model.specs.declared.meta.Meta.{Meta}
use Rattle.osm_model.specs.Tags.{normal_tags, texts_of_tags}
use Rattle.osm_model.specs.Members.{ids_of_members, roles_of}

-- the time in seconds since 1970-01-01T00:00:00Z, and the user name as its characters
pub record VersionData : Type 0 where
  pub id : ℤ
  pub number : ℕ
  pub time : Option ℕ
  pub changeset : ℕ
  pub uid : ℕ
  pub user : List ℕ
  pub body : Body

abbrev pub kind_of : Body → Kind
kind_of (Deleted k) = k
kind_of (Node lon lat tags) = kind.Node
kind_of (Way refs tags) = kind.Way
kind_of (Relation members tags) = kind.Relation

abbrev pub is_deleted : Body → Bool
is_deleted (Deleted k) = true
is_deleted (Node lon lat tags) = false
is_deleted (Way refs tags) = false
is_deleted (Relation members tags) = false

-- a deleted version has no tags
abbrev pub tags_of : Body → List Tag
tags_of (Deleted k) = []
tags_of (Node lon lat tags) = tags
tags_of (Way refs tags) = tags
tags_of (Relation members tags) = tags

-- the ids of the objects that a body names
abbrev pub ids_of : Body → List ℤ
ids_of (Deleted k) = []
ids_of (Node lon lat tags) = []
ids_of (Way refs tags) = refs
ids_of (Relation members tags) = ids_of_members members

-- all roles, keys and values
abbrev pub texts_of : Body → List (List ℕ)
texts_of (Deleted k) = []
texts_of (Node lon lat tags) = texts_of_tags tags
texts_of (Way refs tags) = texts_of_tags tags
texts_of (Relation members tags) = roles_of members ++ texts_of_tags tags

-- a body with its tags ascending, each once
abbrev pub normal_body : Body → Body
normal_body (Deleted k) = Deleted k
normal_body (Node lon lat tags) = Node lon lat (normal_tags tags)
normal_body (Way refs tags) = Way refs (normal_tags tags)
normal_body (Relation members tags) = Relation members (normal_tags tags)

-- the version of an id, metadata and a body, as `Version::new` makes it
abbrev pub version_of : ℤ → Meta → Body → VersionData
version_of id meta body = record {
  id = id;
  number = meta.version;
  time = meta.time;
  changeset = meta.changeset;
  uid =
      meta.uid;
  user = meta.user;
  body = normal_body body;
}
