-- The data that the fields of a `Version` hold, and their invariant.
use Rattle.std.specs.Prelude.{◌≡◌}
use Rattle.osm_model.specs.declared.version.Version.TheInside.{Inside}
use Rattle.osm_model.specs.Data.{VersionData, kind_of}
use Rattle.osm_model.specs.Valid.{IsVersion}

abbrev pub data_of : Inside → VersionData
data_of v = record {
  id = v.parts.value.id;
  number = v.parts.value.meta.version;
  time = v.parts.value.meta.time;
  changeset = v.parts.value.meta.changeset;
  uid = v.parts.value.meta.uid;
  user = v.parts.value.meta.user;
  body =
      v.parts.value.body;
}

abbrev pub HoldsVersion : Inside → Type 0
HoldsVersion v = IsVersion (data_of v) × (v.parts.value.kind ≡ kind_of v.parts.value.body)
