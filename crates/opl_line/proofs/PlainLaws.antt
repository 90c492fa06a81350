-- Texts without an escape, found several bytes at a time.
use Rattle.std.proofs.Common.{◌≡◌, ℕ, ◌%◌, ◌^◌, ◌≤◌, Bool, true, false, not, cond, eqb, leb, ◌&&◌, ◌||◌, bit_or, List, [], ◌∷◌, length}
use Rattle.std.proofs.Common.{take, map, replicate, refl, sym, ap, ◌∙◌, arith, Some, None, position}
use Rattle.std.proofs.lemmas.Bool.Decides.{nat_tests}
use Rattle.std.proofs.lemmas.List.{take_all}
use Rattle.std.specs.List.{list_all}
use Rattle.std.proofs.Math.Bool.{not-not}
use lib.Lanes.{zip2, mask_l, top}
use Rattle.opl_line.specs.Delimiter.{with_byte, split_first}
use Rattle.osm_model.specs.Escape.{is_raw_byte}
use Rattle.opl_line.proofs.CutLaws.{split_at, split_nowhere}
use Rattle.opl_line.proofs.LaneLaws.{lanes, compared, splat_left, either, marked}

-- the text before the first byte that isn't plain
module _ (p : ℕ → Bool) where
  front_fails : (bytes : List ℕ) → list_all (λ b. not (p b)) (split_first p bytes).0 ≡ true
  front_fails [] = refl
  front_fails (b ∷ bs) =
      elim (p b) as (λ t. p b ≡ t → list_all (λ b. not (p b)) (cond t ([], Some bs) (with_byte b (split_first p bs))).0 ≡ true) [
        | true ↦ λ is. refl
        | false ↦ λ is. λ i. not (is i) && front_fails bs i
      ] refl

-- a byte that isn't a raw character by itself
abbrev is_odd : ℕ → Bool
is_odd b = ((((leb b 32 || leb 127 b) || eqb b 37) || eqb b 44) || eqb b 61) || eqb b 64

odd_is : (b : ℕ) → is_odd b ≡ not (is_raw_byte b)
odd_is b = grind (arith, nat_tests)

-- several bytes, compared with others in one step
module _ (n : ℕ) (few : n ≤ 64) (v : List ℕ) (long : length v ≡ n) where
  equal : (b : ℕ) → zip2 (λ x y. cond (eqb x y) 255 0) v (replicate n b) ≡ lanes (λ x. eqb x b) v
  equal b = compared eqb v n b long

  abbrev same : ℕ → List ℕ
  same b = zip2 (λ x y. cond (eqb x y) 255 0) v (replicate n b)

  -- The mask of several bytes has a bit for each byte that isn't raw.
  pub odd_marked : mask_l (map (top 7) (zip2 bit_or
      (zip2 bit_or (zip2 bit_or (zip2 bit_or (zip2 bit_or (zip2 (λ x y. cond (leb x y) 255 0) v (replicate n 32))
      (zip2 (λ x y. cond (leb x y) 255 0) (replicate n 127) v)) (same 37)) (same 44)) (same 61)) (same 64))) % 2 ^ 64
      ≡ mask_l (map (λ x. not (is_raw_byte x)) v)
  odd_marked =
      let edges = either (λ x. leb x 32) (λ x. leb 127 x) v (compared leb v n 32 long)
      (splat_left (λ x y. cond (leb x y) 255 0) 127 v n long) in
      let percents = either (λ x. leb x 32 || leb 127 x) (λ x. eqb x 37) v edges (equal 37) in
      let commas = either (λ x. (leb x 32 || leb 127 x) || eqb x 37) (λ x. eqb x 44) v percents (equal 44) in
      let equals = either (λ x. ((leb x 32 || leb 127 x) || eqb x 37) || eqb x 44) (λ x. eqb x 61) v commas (equal 61) in
      let others = either (λ x. (((leb x 32 || leb 127 x) || eqb x 37) || eqb x 44) || eqb x 61) (λ x. eqb x 64) v equals (equal 64) in
      marked is_odd v others (omega (arith, long, few)) ∙ ap (λ h. mask_l (map h v)) (λ i x. odd_is x i)

-- the bytes before the first that doesn't pass
module _ (passes : ℕ → Bool) where
  abbrev fails : ℕ → Bool
  fails b = not (passes b)

  front_passes : (bytes : List ℕ) → list_all passes (split_first fails bytes).0 ≡ true
  front_passes bytes = ap (λ q. list_all q (split_first fails bytes).0) (λ i b. sym (not-not (passes b)) i) ∙ front_fails fails bytes

  -- The bytes before the first that fails pass.
  pub passing_before : (bytes : List ℕ) (n : ℕ) → position fails bytes ≡ Some n → list_all passes (take n bytes) ≡ true
  passing_before bytes n found = sym (ap (λ parts. list_all passes parts.0) (split_at fails bytes n found).split) ∙ front_passes bytes

  -- If no byte fails, all pass.
  pub passing_throughout : (bytes : List ℕ) → position fails bytes ≡ None → list_all passes (take (length bytes) bytes) ≡ true
  passing_throughout bytes none =
      ap (list_all passes) (take_all (length bytes) bytes (omega arith))
      ∙ sym (ap (λ parts. list_all passes parts.0) (split_nowhere fails bytes none)) ∙ front_passes bytes
