-- A version of a lower rank is less.
use Rattle.std.proofs.Common.{arith, ◌≡◌, ◌≢◌, ◌⊎◌, ℕ, ◌+◌, ◌*◌, ◌-◌, ◌^◌, ◌<◌, ◌≤◌, min, if◌then◌else◌, nat_lt, Bool, true, false, refl}
use Rattle.std.proofs.Common.{sym, ap, ◌∙◌, inl, inr, unsigned_abs}
use Rattle.std.proofs.Math.Nat.{min-le_right}
use Rattle.std.proofs.lemmas.Bool.{cases_lt, lt-ltb, le-ltb}
use Rattle.std.specs.Cmp.{nat_cmp_is}
use Rattle.std.specs.declared.cmp.Ordering.{Ordering}
use Rattle.std.specs.declared.cmp.Ordering.TheVariants.{Less, Equal, Greater}
use Rattle.std.specs.Ordering.{ordering_then, ordering_reverse, nat_cmp, bool_cmp}
use Rattle.osm_model.specs.Kind.{kind_order}
use Rattle.osm_model.specs.Data.{VersionData, kind_of}
use Rattle.osm_model.specs.Order.{is_positive, key_cmp, version_cmp, version_cmp_total}
use Rattle.osm_model.specs.Rank.{kind_and_sign, capped_id, capped_number, rank_of}
use Rattle.osm_model.proofs.VersionLaws.{less_by_key}

abbrev bit : Bool → ℕ
bit b = if b then 1 else 0

less : (x y : ℕ) → x < y → nat_cmp x y ≡ Less
less x y h = sym (nat_cmp_is x y Less h)

same : (x y : ℕ) → x ≡ y → nat_cmp x y ≡ Equal
same x y h = sym (nat_cmp_is x y Equal h)

-- ---- the kind and the sign
of_classes : (k l : ℕ) (p q : Bool) → 2 * k + bit p < 2 * l + bit q → ordering_then (nat_cmp k l) (bool_cmp p q) ≡ Less
of_classes k l false false h = ap (λ o. ordering_then o Equal) (less k l (omega arith))
of_classes k l true false h = rw (less k l (omega arith)) refl
of_classes k l true true h = ap (λ o. ordering_then o Equal) (less k l (omega arith))
of_classes k l false true h = elim (cases_lt k l) [
  | inl m ↦ ap (λ o. ordering_then o Less) (less k l m)
  | inr m ↦ ap (λ o. ordering_then o Less) (same k l (omega arith))
]

of_one_class : (k l : ℕ) (p q : Bool) → 2 * k + bit p ≡ 2 * l + bit q → ordering_then (nat_cmp k l) (bool_cmp p q) ≡ Equal
of_one_class k l false false h = ap (λ o. ordering_then o Equal) (same k l (omega arith))
of_one_class k l true true h = ap (λ o. ordering_then o Equal) (same k l (omega arith))
of_one_class k l true false h = absurd (omega arith)
of_one_class k l false true h = absurd (omega arith)

-- ---- the size of the id and the number
-- the first absolute value of an id that a rank doesn't distinguish from greater ones
abbrev far : ℕ
far = 2 ^ 45 - 1

-- the version number in the last 16 bits of a rank
abbrev turn : ℕ → ℕ → ℕ
turn size number = if nat_lt size far then min number (2 ^ 16 - 1) else 0

turn_near : (size number : ℕ) → size < far → turn size number ≡ min number (2 ^ 16 - 1)
turn_near size number h = ap (λ b. if b then min number (2 ^ 16 - 1) else 0) (lt-ltb size far h)

turn_far : (size number : ℕ) → far ≤ size → turn size number ≡ 0
turn_far size number h = ap (λ b. if b then min number (2 ^ 16 - 1) else 0) (le-ltb size far h)

short_turn : (size number : ℕ) → turn size number < 2 ^ 16
short_turn size number = elim (cases_lt size far) [
  | inl h ↦ omega (arith, turn_near size number h, min-le_right number (2 ^ 16 - 1))
  | inr h ↦ omega (arith, turn_far size number h)
]

-- the lesser of two capped numbers is that of the lesser number
of_capped : (m n most : ℕ) → min m most < min n most → m < n
of_capped m n most h = elim (cases_lt m n) [
  | inl k ↦ k
  | inr k ↦ absurd (grind arith)
]

-- of two versions with one capped id, that of the lesser turn has the lesser number, and both have one id
of_one_reach : (a b m n : ℕ) → min a far ≡ min b far → turn a m < turn b n → (a ≡ b) × (m < n)
of_one_reach a b m n one h = elim (cases_lt b far) [
  | inl k ↦
      let e : a ≡ b = grind (arith, one) in
      let low : min m (2 ^ 16 - 1) < min n (2 ^ 16 - 1) = omega (arith, h, turn_near a m (omega arith), turn_near b n k) in
      (e, of_capped m n (2 ^ 16 - 1) low)
  | inr k ↦ absurd (omega (arith, h, turn_far b n k))
]

-- ---- the rank
-- a number with 16 bits after a front: the fronts decide, and if they are equal, the 16 bits
by_turn : (c d r s : ℕ) → r < 2 ^ 16 → s < 2 ^ 16 → c * 2 ^ 16 + r < d * 2 ^ 16 + s → (c < d) ⊎ ((c ≡ d) × (r < s))
by_turn c d r s low high h = elim (cases_lt c d) [
  | inl k ↦ inl k
  | inr k ↦ let e : c ≡ d = omega arith in inr (e, omega arith)
]

by_reach : (c d r s : ℕ) → r < 2 ^ 45 → s < 2 ^ 45 → c * 2 ^ 45 + r < d * 2 ^ 45 + s → (c < d) ⊎ ((c ≡ d) × (r < s))
by_reach c d r s low high h = elim (cases_lt c d) [
  | inl k ↦ inl k
  | inr k ↦ let e : c ≡ d = omega arith in inr (e, omega arith)
]

one_reach : (c d r s : ℕ) → r < 2 ^ 45 → s < 2 ^ 45 → c * 2 ^ 45 + r ≡ d * 2 ^ 45 + s → (c ≡ d) × (r ≡ s)
one_reach c d r s low high h = let e : c ≡ d = omega arith in (e, omega arith)

module _ (v w : VersionData) where
  short_reach : (u : VersionData) → capped_id u < 2 ^ 45
  short_reach u = omega (arith, min-le_right (unsigned_abs u.id) far)

  -- the order of the kinds, then of the signs
  abbrev class_cmp : Ordering
  class_cmp = ordering_then (nat_cmp (kind_order (kind_of v.body)) (kind_order (kind_of w.body)))
      (bool_cmp (is_positive v.id) (is_positive w.id))

  abbrev size_cmp : Ordering
  size_cmp = nat_cmp (unsigned_abs v.id) (unsigned_abs w.id)

  of_lower_class : kind_and_sign v < kind_and_sign w → class_cmp ≡ Less
  of_lower_class h = of_classes (kind_order (kind_of v.body)) (kind_order (kind_of w.body)) (is_positive v.id) (is_positive w.id) h

  of_class : kind_and_sign v ≡ kind_and_sign w → class_cmp ≡ Equal
  of_class h = of_one_class (kind_order (kind_of v.body)) (kind_order (kind_of w.body)) (is_positive v.id) (is_positive w.id) h

  less_key : (o p q : Ordering) → ordering_then o p ≡ Less → ordering_then (ordering_then o p) q ≡ Less
  less_key o p q e = ap (λ r. ordering_then r q) e

  of_lower_rank : rank_of v < rank_of w → key_cmp v w ≡ Less
  of_lower_rank h =
      elim (by_turn (kind_and_sign v * 2 ^ 45 + capped_id v) (kind_and_sign w * 2 ^ 45 + capped_id w) (capped_number v) (capped_number w)
      (short_turn (unsigned_abs v.id) v.number) (short_turn (unsigned_abs w.id) w.number) h) [
        | inl k ↦ less_key class_cmp size_cmp (nat_cmp v.number w.number)
            (elim (by_reach (kind_and_sign v) (kind_and_sign w) (capped_id v) (capped_id w) (short_reach v) (short_reach w) k) [
              | inl l ↦ ap (λ o. ordering_then o size_cmp) (of_lower_class l)
              | inr l ↦ ap (λ o. ordering_then o size_cmp) (of_class (l.0))
                  ∙ less (unsigned_abs v.id) (unsigned_abs w.id) (of_capped _ _ far (l.1))
            ])
        | inr k ↦
            let one = one_reach (kind_and_sign v) (kind_and_sign w) (capped_id v) (capped_id w) (short_reach v) (short_reach w) (k.0) in
            let late = of_one_reach (unsigned_abs v.id) (unsigned_abs w.id) v.number w.number (one.1) (k.1) in
            ap (λ o. ordering_then (ordering_then o size_cmp) (nat_cmp v.number w.number)) (of_class (one.0))
            ∙ ap (λ o. ordering_then o (nat_cmp v.number w.number)) (same (unsigned_abs v.id) (unsigned_abs w.id) (late.0))
            ∙ less v.number w.number (late.1)
      ]

-- A version of a lower rank is less.
pub lower_is_less : (v w : VersionData) → rank_of v < rank_of w → version_cmp v w ≡ Less
lower_is_less v w h = less_by_key v w (of_lower_rank v w h)

higher_is_greater : (v w : VersionData) → rank_of w < rank_of v → version_cmp v w ≡ Greater
higher_is_greater v w h = version_cmp_total.antisymm v w ∙ ap ordering_reverse (lower_is_less w v h)

-- if the ranks differ, their order is that of the versions
pub by_rank : (v w : VersionData) (r : Ordering) → r ≡ nat_cmp (rank_of v) (rank_of w) → r ≢ Equal → r ≡ version_cmp v w
by_rank v w r is other = elim (cases_lt (rank_of v) (rank_of w)) [
  | inl h ↦ is ∙ less (rank_of v) (rank_of w) h ∙ sym (lower_is_less v w h)
  | inr h ↦ elim (cases_lt (rank_of w) (rank_of v)) [
    | inl k ↦ is ∙ sym (nat_cmp_is (rank_of v) (rank_of w) Greater k) ∙ sym (higher_is_greater v w k)
    | inr k ↦ absurd (other (is ∙ same (rank_of v) (rank_of w) (omega arith)))
  ]
]
