use Rattle.std.proofs.Common.{subst, sym}
use Rattle.std.specs.List.Sorted.{IsStrictlySortedBy}
use Rattle.osm_model.specs.Order.{version_cmp}
use Rattle.osm_model.proofs.SetLaws.{strict-listed}
use Rattle.osm_model.proofs.tests.an_ascending_list_is_a_history.Goals as goal

pub from_ascending-requires : goal.from_ascending-requires
from_ascending-requires g c = subst (IsStrictlySortedBy version_cmp) (sym c.into_versions-versions.ensures) (strict-listed _)
