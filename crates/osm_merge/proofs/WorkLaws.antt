-- The loop of the merge ends: each turn lowers the number of versions that are left.
use Rattle.std.proofs.Common.{◌≡◌, ℕ, zero, suc, ◌+◌, ◌<◌, List, [], ◌∷◌, length, get_or, refl, ap, arith, Option, Some, None, IsSome}
use Rattle.std.proofs.Math.ListN.{set}
use Rattle.osm_model.specs.Data.{VersionData}

-- the number of versions still to come of a source, its head included
abbrev pub still_left : Option VersionData → ℕ → ℕ
still_left None left = 0
still_left (Some v) left = left + 1

-- A bound on the turns that are left.
abbrev pub work : List (Option VersionData) → List ℕ → ℕ
work [] lefts = 0
work (x ∷ heads) [] = 0
work (x ∷ heads) (left ∷ lefts) = still_left x left + work heads lefts

fewer_left : (v : VersionData) (given : Option VersionData) (left left2 : ℕ) → (IsSome given → left2 < left)
    → still_left given left2 < still_left (Some v) left
fewer_left v None left left2 h = omega arith
fewer_left v (Some u) left left2 h = let e = h refl in omega (arith, e)

-- Each turn lowers the bound on the turns that are left.
pub less_work : (heads : List (Option VersionData)) (lefts : List ℕ) (w : ℕ) (v : VersionData) (given : Option VersionData) (left2 : ℕ)
    → get_or heads w None ≡ Some v → w < length lefts → (IsSome given → left2 < get_or lefts w 0)
    → work (set heads w given) (set lefts w left2) < work heads lefts
less_work [] lefts w v given left2 e low h = absurd cc
less_work (x ∷ heads) [] w v given left2 e low h = absurd (omega arith)
less_work (x ∷ heads) (left ∷ lefts) zero v given left2 e low h =
    let a = fewer_left v given left left2 h in
    let b : still_left x left ≡ still_left (Some v) left = ap (λ o. still_left o left) e in
    omega (arith, a, b)
less_work (x ∷ heads) (left ∷ lefts) (suc w) v given left2 e low h =
    let a = less_work heads lefts w v given left2 e (omega arith) h in omega (arith, a)
