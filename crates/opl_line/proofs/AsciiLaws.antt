-- Sixty-four bytes that are ASCII.
use Rattle.std.proofs.Common.{◌≡◌, ℕ, ◌+◌, ◌%◌, ◌^◌, ◌<◌, ◌≤◌, not, cond, leb, List, length, get_or, map, replicate, sym, ◌∙◌, arith}
use Rattle.std.proofs.lemmas.Bool.{leb-false}
use Rattle.std.proofs.lemmas.Simd.{leading_from_mask_l, run_in_chunk_fails}
use Rattle.std.specs.List.{prefix_len}
use lib.Lanes.{chunk, zip2, mask_l, top}
use Rattle.opl_line.proofs.LaneLaws.{splat_left, marked}

-- each byte from `from` on and below `end` is ASCII
abbrev pub AsciiBetween : List ℕ → ℕ → ℕ → Type 0
AsciiBetween bytes from end = (place : ℕ) → from ≤ place → place < end → get_or bytes place 0 < 128

-- the mask of the bytes that aren't ASCII
module _ (v : List ℕ) (long : length v ≡ 64) where
  -- A mask of the bytes that are 128 or more.
  abbrev pub highs : ℕ
  highs = mask_l (map (top 7) (zip2 (λ x y. cond (leb x y) 255 0) (replicate 64 128) v)) % 2 ^ 64

  -- If no top bit is set, all 64 bytes are ASCII.
  pub none_high : highs ≡ 0 → 64 ≡ prefix_len (λ b. not (leb 128 b)) v
  none_high none =
      let known : highs ≡ mask_l (map (leb 128) v) = marked (leb 128) v (splat_left (λ x y. cond (leb x y) 255 0) 128 v 64 long)
      (omega (arith, long)) in
      sym (leading_from_mask_l (leb 128) v (sym known ∙ none) ∙ long)

-- If a chunk of 64 bytes is ASCII, so is each of its bytes in the text.
pub ascii_there : (bytes : List ℕ) (from : ℕ) → from + 64 ≤ length bytes → 64 ≡ prefix_len (λ b. not (leb 128 b)) (chunk from 64 bytes) →
    AsciiBetween bytes from (from + 64)
ascii_there bytes from room counted place late less =
    leb-false 128 _ (run_in_chunk_fails (leb 128) bytes from 64 64 0 room counted place late less)
