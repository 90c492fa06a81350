-- A history: a finite set of versions.
use Rattle.std.specs.Coded.{Coded}
use Rattle.osm_model.specs.contracts.version.Version as version
use Rattle.osm_model.specs.Order.{version_cmp}
use Rattle.osm_model.specs.Sets as set

abbrev pub VersionSet : Type 0
VersionSet = set.Set version_cmp

abbrev pub version_set_code : Coded VersionSet
version_set_code = set.code (version.the_row).coded
