-- Several bytes, compared with others in one step.
use Rattle.std.proofs.Common.{◌≡◌, ℕ, zero, suc, ◌%◌, ◌^◌, ◌≤◌, Bool, true, false, ◌||◌, cond, eqb, List, [], ◌∷◌, length, map, replicate}
use Rattle.std.proofs.Common.{refl, sym, ap, ◌∙◌, arith, bit_or}
use Rattle.std.proofs.lemmas.List.{length-map}
use Rattle.std.proofs.lemmas.Simd.{map-map, zip2_splat, zip2_of_maps, mask_l-mod}
use lib.Lanes.{zip2, mask_l, top}

-- one value in each lane
pub splat_left : {X Y : Type 0} (f : ℕ → X → Y) (c : ℕ) (v : List X) (n : ℕ) → length v ≡ n → zip2 f (replicate n c) v ≡ map (f c) v
splat_left f c [] zero e = refl
splat_left f c [] (suc n) e = absurd (omega (arith, e))
splat_left f c (x ∷ xs) zero e = absurd (omega (arith, e))
splat_left f c (x ∷ xs) (suc n) e = ap (λ rest. f c x ∷ rest) (splat_left f c xs n (omega (arith, e)))

-- a lane for each byte, with all bits set if it passes
abbrev pub lanes : (ℕ → Bool) → List ℕ → List ℕ
lanes p v = map (λ x. cond (p x) 255 0) v

-- Lanes that are compared with one byte are marked where the test holds.
pub compared : (t : ℕ → ℕ → Bool) (v : List ℕ) (n y : ℕ) → length v ≡ n →
    zip2 (λ a b. cond (t a b) 255 0) v (replicate n y) ≡ lanes (λ x. t x y) v
compared t v n y long = zip2_splat (λ a b. cond (t a b) 255 0) v n y long

both : (s t : Bool) → bit_or (cond s 255 0) (cond t 255 0) ≡ cond (s || t) 255 0
both true true = refl
both true false = refl
both false true = refl
both false false = refl

-- The disjunction of marks marks what either test marks.
pub either : (p q : ℕ → Bool) (v : List ℕ) {a b : List ℕ} → a ≡ lanes p v → b ≡ lanes q v → zip2 bit_or a b ≡ lanes (λ x. p x || q x) v
either p q v e f = zip2_of_maps bit_or (λ x. cond (p x) 255 0) (λ x. cond (q x) 255 0) v e f ∙ ap (λ h. map h v) (λ i x. both (p x) (q x) i)

top_of_mask : (s : Bool) → top 7 (cond s 255 0) ≡ s
top_of_mask true = refl
top_of_mask false = refl

-- the mask has a bit for each byte that passes
pub marked : (p : ℕ → Bool) (v : List ℕ) {z : List ℕ} → z ≡ lanes p v → length v ≤ 64 → mask_l (map (top 7) z) % 2 ^ 64 ≡ mask_l (map p v)
marked p v e few =
    let tops = ap (map (top 7)) e ∙ map-map (top 7) (λ x. cond (p x) 255 0) v ∙ ap (λ h. map h v) (λ i x. top_of_mask (p x) i) in
    ap (λ l. mask_l l % 2 ^ 64) tops ∙ mask_l-mod (map p v) 64 (omega (arith, length-map v p, few))

-- the mask of several bytes, with a bit for each that is one of two
pub two_marked : (p : ℕ → Bool) (one other : ℕ) (is : (x : ℕ) → p x ≡ (eqb x one || eqb x other)) (n : ℕ) (few : n ≤ 64) (v : List ℕ)
    (long : length v ≡ n) → mask_l (map (top 7) (zip2 bit_or (zip2 (λ a b. cond (eqb a b) 255 0) v (replicate n one))
    (zip2 (λ a b. cond (eqb a b) 255 0) v (replicate n other)))) % 2 ^ 64 ≡ mask_l (map p v)
two_marked p one other is n few v long =
    let one_or_other = λ (x : ℕ). eqb x one || eqb x other in
    let two = either (λ x. eqb x one) (λ x. eqb x other) v (compared eqb v n one long) (compared eqb v n other long) in
    marked one_or_other v two (omega (arith, long, few)) ∙ ap (λ h. mask_l (map h v)) (λ i x. sym (is x) i)
