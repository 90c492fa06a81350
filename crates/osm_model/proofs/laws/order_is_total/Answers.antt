use Rattle.osm_model.specs.Order.{version_cmp_total}
use Rattle.osm_model.proofs.VersionLaws.{version_cmp-IsAntisymmetric}
use Rattle.osm_model.proofs.laws.order_is_total.Goals as goal

pub returns : goal.returns
returns c = (version_cmp_total, version_cmp-IsAntisymmetric)
