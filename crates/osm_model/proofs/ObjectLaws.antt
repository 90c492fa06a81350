-- The order of objects: versions ascend by their objects, and the versions of one object are adjacent.
use Rattle.std.proofs.Common.{◌≡◌, true, false, refl, sym, ap, ◌∙◌}
use Rattle.std.proofs.lemmas.Bool.{false≢true}
use Rattle.std.specs.declared.cmp.Ordering.{Ordering}
use Rattle.std.specs.declared.cmp.Ordering.TheVariants.{Less, Equal, Greater}
use Rattle.std.specs.Ordering.{ordering_then, is_lt, is_eq, is_gt, ordering_reverse}
use Rattle.std.specs.Cmp.{upto, Equal-is}
use Rattle.osm_model.specs.declared.object.Object.{Object}
use Rattle.osm_model.specs.Data.{VersionData}
use Rattle.osm_model.specs.Order.{object_order, object_order_total, object_cmp, object_cmp_total, version_cmp}

-- A comparison by two orders that isn't greater isn't greater by the first.
pub first_not_greater : (a b : Ordering) → is_gt (ordering_then a b) ≡ false → is_gt a ≡ false
first_not_greater Less b h = refl
first_not_greater Equal b h = refl
first_not_greater Greater b h = h

-- A version that is less has no greater object.
pub object_rises : (v w : VersionData) → version_cmp v w ≡ Less → is_gt (object_cmp v w) ≡ false
object_rises v w less =
    first_not_greater _ _ (first_not_greater _ _ (first_not_greater _ _ (first_not_greater _ _ (ap is_gt less))))

-- Two results of a comparison both ways, of which neither is greater, tie.
pub no_more : (r s : Ordering) → r ≡ ordering_reverse s → is_gt r ≡ false → is_gt s ≡ false → is_eq r ≡ true
no_more Less Less e h k = absurd (false≢true (ap is_gt e))
no_more Less Equal e h k = absurd (false≢true (ap is_eq e))
no_more Less Greater e h k = absurd (false≢true (sym k))
no_more Equal s e h k = refl
no_more Greater s e h k = absurd (false≢true (sym h))

-- A version between two versions of an object is a version of the object.
pub objects_together : (u v w : VersionData) → version_cmp u v ≡ Less → version_cmp v w ≡ Less → is_eq (object_cmp u w) ≡ true →
    is_eq (object_cmp u v) ≡ true
objects_together u v w uv vw uw =
    let back : is_gt (object_cmp w u) ≡ false = ap is_gt (object_cmp_total.antisymm w u)
    ∙ ap (λ r. is_gt (ordering_reverse r)) ((Equal-is (object_cmp u w)).0 uw) in
    no_more (object_cmp u v) (object_cmp v u) (object_cmp_total.antisymm u v) (object_rises u v uv)
    (upto object_cmp_total v w u (object_rises v w vw) back)

lt_back : (r : Ordering) → is_lt (ordering_reverse r) ≡ is_gt r
lt_back Less = refl
lt_back Equal = refl
lt_back Greater = refl

-- An object is below another one exactly if the other is above it.
pub below_is : (x y : Object) → is_lt (object_order x y) ≡ is_gt (object_order y x)
below_is x y = ap is_lt (object_order_total.antisymm x y) ∙ lt_back (object_order y x)

-- An object that isn't below a second, which isn't below a third, isn't below the third.
pub not_below : (x y z : Object) → is_lt (object_order x y) ≡ false → is_lt (object_order y z) ≡ false → is_lt (object_order x z) ≡ false
not_below x y z h k = below_is x z ∙ upto object_order_total z y x (sym (below_is y z) ∙ k) (sym (below_is x y) ∙ h)
