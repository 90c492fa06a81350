-- Only equal versions tie, and the consequences for histories.
use Rattle.std.proofs.Common.{◌≡◌, ◌↔◌, Bool, true, false, List, refl, sym, ap, subst}
use Rattle.std.specs.Bool.{IsTrue}
use Rattle.std.proofs.lemmas.Bool.{false≢true}
use Rattle.std.specs.Cmp.{tied_itself}
use Rattle.std.specs.declared.cmp.Ordering.{Ordering}
use Rattle.std.specs.declared.cmp.Ordering.TheVariants.{Less, Equal, Greater}
use Rattle.std.specs.Ordering.{ordering_then, eq_by_cmp, is_eq}
use Rattle.std.specs.FinMap.{IsAntisymmetric, slice_cmp-IsAntisymmetric, nat_cmp-IsAntisymmetric}
use Rattle.std.specs.List.Sorted.{IsStrictlySortedBy}
use Rattle.osm_model.specs.Data.{VersionData}
use Rattle.osm_model.specs.Order.{key_cmp, version_cmp, version_cmp_total}
use Rattle.osm_model.specs.Sets.{to_list, from_list, union}
use Rattle.osm_model.specs.Merged.{merge}
use Rattle.osm_model.proofs.LineLaws.{line_injective}
use Rattle.osm_model.proofs.SetLaws.{to_list-from_list}
use Rattle.osm_model.proofs.MergedLaws.{from_list-merged}
use Rattle.osm_model.proofs.TagLaws.{second_equal}

-- Versions that tie are equal.
pub version_cmp-IsAntisymmetric : IsAntisymmetric version_cmp
version_cmp-IsAntisymmetric v w e = line_injective v w (slice_cmp-IsAntisymmetric nat_cmp-IsAntisymmetric _ _ (second_equal _ _ e))

-- Equal versions tie.
pub equal_of_same : (v w : VersionData) → v ≡ w → version_cmp v w ≡ Equal
equal_of_same v w e = subst (λ u. version_cmp v u ≡ Equal) e (tied_itself version_cmp_total v)

-- a test whether data is equal is a test whether versions tie
pub same_test : (r : Bool) (v w : VersionData) → (IsTrue r ↔ (v ≡ w)) → r ≡ eq_by_cmp version_cmp v w
same_test true v w h = sym (ap is_eq (equal_of_same v w (h.0 refl)))
same_test false v w h = elim (version_cmp v w) as (λ o. version_cmp v w ≡ o → false ≡ is_eq o) [
  | Less ↦ λ e. refl
  | Equal ↦ λ e. absurd (false≢true (h.1 (version_cmp-IsAntisymmetric v w e)))
  | Greater ↦ λ e. refl
] refl

-- The set of a strictly ascending list has this list.
pub to_list-view : (vs : List VersionData) → IsStrictlySortedBy version_cmp vs → to_list (from_list {R = version_cmp} vs) ≡ vs
to_list-view vs h = to_list-from_list version_cmp_total version_cmp-IsAntisymmetric vs h

-- The union of two strictly ascending lists is the set of their merge.
pub union-view : (vs ws : List VersionData) → IsStrictlySortedBy version_cmp vs → IsStrictlySortedBy version_cmp ws →
    union (from_list {R = version_cmp} vs) (from_list ws) ≡ from_list (merge version_cmp vs ws)
union-view vs ws h k =
    rw (to_list-view vs h, to_list-view ws k, ← from_list-merged version_cmp_total version_cmp-IsAntisymmetric vs ws)

-- ---- keys
pub less_first : (o p : Ordering) → o ≡ Less → ordering_then o p ≡ Less
less_first o p e = ap (λ r. ordering_then r p) e

-- the version of the lesser key is less
pub less_by_key : (v w : VersionData) → key_cmp v w ≡ Less → version_cmp v w ≡ Less
less_by_key v w e = less_first _ _ (less_first _ _ (less_first _ _ e))
