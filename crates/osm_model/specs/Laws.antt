-- Laws of the definitions.
use Rattle.std.specs.Prelude.{◌≡◌, ◌<◌}
use Rattle.std.specs.declared.cmp.Ordering.TheVariants.{Less, Equal}
use Rattle.std.specs.Cmp.{IsTotalOrder}
use Rattle.osm_model.specs.Data.{VersionData}
use Rattle.osm_model.specs.Line.{line}
use Rattle.osm_model.specs.Order.{version_cmp}
use Rattle.osm_model.specs.Rank.{rank_of}

-- two versions with one line are equal (no premise on their ranges is needed)
abbrev pub LineDeterminesData : Type 0
LineDeterminesData = (v w : VersionData) → line v ≡ line w → v ≡ w

-- the order is total, and only equal versions tie
abbrev pub OrderIsTotal : Type 0
OrderIsTotal = IsTotalOrder version_cmp × ((v w : VersionData) → version_cmp v w ≡ Equal → v ≡ w)

-- a version of a lower rank is less
abbrev pub LowerRankIsLess : Type 0
LowerRankIsLess = (v w : VersionData) → rank_of v < rank_of w → version_cmp v w ≡ Less
