-- The kinds of an ascending list never decrease.
use Rattle.std.proofs.Common.{◌≡◌, ℕ, zero, suc, ◌<◌, ◌≤◌, List, [], ◌∷◌, length, get_or, arith}
use Rattle.std.specs.declared.cmp.Ordering.TheVariants.{Less}
use Rattle.std.specs.List.{AllByRecursion}
use Rattle.std.specs.List.Sorted.{IsStrictlySortedBy}
use Rattle.std.proofs.lemmas.Map.Keys.{le_from_not_gt}
use Rattle.osm_model.specs.Kind.{kind_order}
use Rattle.osm_model.specs.Data.{VersionData, kind_of}
use Rattle.osm_model.specs.Order.{version_cmp}
use Rattle.osm_model.specs.KindLaw.{KindsDontFall}
use Rattle.osm_model.proofs.ObjectLaws.{first_not_greater, object_rises}

abbrev rank_of : VersionData → ℕ
rank_of v = kind_order (kind_of v.body)

less_rank : (v w : VersionData) → version_cmp v w ≡ Less → rank_of v ≤ rank_of w
less_rank v w h = le_from_not_gt (rank_of v) (rank_of w)
    (first_not_greater _ _ (first_not_greater _ _ (object_rises v w h)))

before_all : (v : VersionData) (versions : List VersionData) (j : ℕ) (d : VersionData) →
    AllByRecursion (λ w. version_cmp v w ≡ Less) versions → j < length versions → rank_of v ≤ rank_of (get_or versions j d)
before_all v [] j d h inside = absurd (omega arith)
before_all v (w ∷ versions) zero d h inside = less_rank v w h.0
before_all v (w ∷ versions) (suc j) d h inside = before_all v versions j d h.1 (omega arith)

-- In an ascending list no version's kind is below the kind before it.
pub kinds_dont_fall : KindsDontFall
unfolding IsStrictlySortedBy
kinds_dont_fall [] h i j d up inside = absurd (omega arith)
kinds_dont_fall (v ∷ versions) h zero zero d up inside = omega arith
kinds_dont_fall (v ∷ versions) h zero (suc j) d up inside = before_all v versions j d h.0 (omega arith)
kinds_dont_fall (v ∷ versions) h (suc i) zero d up inside = absurd (omega arith)
kinds_dont_fall (v ∷ versions) h (suc i) (suc j) d up inside = kinds_dont_fall versions h.1 i j d (omega arith) (omega arith)
