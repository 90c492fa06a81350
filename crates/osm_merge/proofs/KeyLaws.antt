-- The order of keys: only equal keys tie, and versions ascend by their keys.
use Rattle.std.proofs.Common.{◌≡◌, ℕ, suc, ℤ, pos, negsuc, Bool, true, false, nat_lt, unsigned_abs, refl, sym, ap, ◌∙◌, arith}
use Rattle.std.proofs.lemmas.Bool.{false≢true}
use Rattle.std.proofs.lemmas.Bool.Decides.{nat_tests}
use Rattle.std.specs.declared.cmp.Ordering.TheVariants.{Equal}
use Rattle.std.specs.FinMap.{IsAntisymmetric, nat_cmp-IsAntisymmetric}
use Rattle.std.specs.Ordering.{bool_cmp, is_gt}
use Rattle.osm_model.specs.declared.kind.Kind.{Kind}
use Rattle.osm_model.specs.declared.kind.Kind.TheVariants.{Node, Way, Relation}
use Rattle.osm_model.specs.Data.{VersionData}
use Rattle.osm_model.specs.Kind.{kind_order}
use Rattle.osm_model.specs.Order.{is_positive, object_order, key_order, key_of, version_cmp}
use Rattle.osm_model.proofs.ObjectLaws.{first_not_greater}
use Rattle.osm_model.proofs.TagLaws.{first_equal, second_equal}

-- ---- keys that tie
kinds_equal : (a b : Kind) → kind_order a ≡ kind_order b → a ≡ b
kinds_equal Node Node e = refl
kinds_equal Node Way e = absurd (omega (arith, e))
kinds_equal Node Relation e = absurd (omega (arith, e))
kinds_equal Way Node e = absurd (omega (arith, e))
kinds_equal Way Way e = refl
kinds_equal Way Relation e = absurd (omega (arith, e))
kinds_equal Relation Node e = absurd (omega (arith, e))
kinds_equal Relation Way e = absurd (omega (arith, e))
kinds_equal Relation Relation e = refl

signs_equal : (a b : Bool) → bool_cmp a b ≡ Equal → a ≡ b
signs_equal true true e = refl
signs_equal true false e = cc
signs_equal false true e = cc
signs_equal false false e = refl

above_zero : (n m : ℕ) → n ≡ suc m → nat_lt 0 n ≡ true
above_zero n m e = grind (arith, nat_tests)

ids_equal : (x y : ℤ) → is_positive x ≡ is_positive y → unsigned_abs x ≡ unsigned_abs y → x ≡ y
ids_equal (pos n) (pos m) sign size = ap pos size
ids_equal (pos n) (negsuc m) sign size = absurd (false≢true (sym sign ∙ above_zero n m size))
ids_equal (negsuc n) (pos m) sign size = absurd (false≢true (sign ∙ above_zero m n (sym size)))
ids_equal (negsuc n) (negsuc m) sign size = ap negsuc (omega (arith, size))

object_order-IsAntisymmetric : IsAntisymmetric object_order
object_order-IsAntisymmetric x y e =
    let kind = kinds_equal x.kind y.kind (nat_cmp-IsAntisymmetric _ _ (first_equal _ _ (first_equal _ _ e))) in
    let sign = signs_equal (is_positive x.id) (is_positive y.id) (second_equal _ _ (first_equal _ _ e)) in
    let id = ids_equal x.id y.id sign (nat_cmp-IsAntisymmetric _ _ (second_equal _ _ e)) in
    λ i. record { kind = kind i; id = id i }

-- Keys that tie are equal.
pub key_order-IsAntisymmetric : IsAntisymmetric key_order
key_order-IsAntisymmetric x y e =
    let object = object_order-IsAntisymmetric x.object y.object (first_equal _ _ e) in
    let number = nat_cmp-IsAntisymmetric x.number y.number (second_equal _ _ e) in
    λ i. record { object = object i; number = number i }

-- ---- the keys of versions
-- A version that isn't greater has no greater key.
pub key_rises : (v w : VersionData) → is_gt (version_cmp v w) ≡ false → is_gt (key_order (key_of v) (key_of w)) ≡ false
key_rises v w h = first_not_greater _ _ (first_not_greater _ _ (first_not_greater _ _ h))
