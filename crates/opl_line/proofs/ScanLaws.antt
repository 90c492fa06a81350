-- Several bytes with marks for those of a class.
use Rattle.std.proofs.Common.{◌≡◌, ℕ, ◌+◌, ◌<◌, ◌≤◌, ◌≢◌, Bool, not, List, length, sym, ap, ◌∙◌, arith, inl, inr}
use Rattle.std.proofs.lemmas.Bool.{cases_lt}
use Rattle.std.proofs.lemmas.Simd.{leading_from_mask_l, trailing_mask_l, run_in_chunk_le, run_in_chunk_fails}
use Rattle.std.specs.List.{prefix_len}
use lib.Count.{count_trailing_zeros}
use lib.Lanes.{chunk}
use Rattle.opl_line.specs.Scan.{marks_of}
use Rattle.opl_line.proofs.CutLaws.{NoneBelow}

-- the number of bytes before the first marked one
module _ (p : ℕ → Bool) (n : ℕ) (v : List ℕ) (long : length v ≡ n) where
  -- If no byte is marked, none is of the class.
  pub no_mark : (marks : ℕ) → marks ≡ marks_of p v → marks ≡ 0 → n ≡ prefix_len (λ x. not (p x)) v
  no_mark marks known none = sym (leading_from_mask_l p v (sym known ∙ none) ∙ long)

  -- The lowest mark is that of the first byte of the class.
  pub lowest_mark : n ≤ 64 → (marks : ℕ) → marks ≡ marks_of p v → marks ≢ 0 → count_trailing_zeros 64 marks ≡ prefix_len (λ x. not (p x)) v
  lowest_mark few marks known some =
      let found : 0 < marks_of p v = omega (arith, known, some) in
      ap (count_trailing_zeros 64) known ∙ trailing_mask_l p 64 v (omega (arith, long, few)) found

-- the search after `n` bytes, of which `run` are before the first of the class
module _ (p : ℕ → Bool) (n : ℕ) (bytes : List ℕ) (seen run : ℕ) (room : seen + n ≤ length bytes)
    (counted : run ≡ prefix_len (λ x. not (p x)) (chunk seen n bytes)) (none : NoneBelow p bytes seen) where
  -- No byte before the end of this run is of the class.
  pub none_before : NoneBelow p bytes (seen + run)
  none_before k less = elim
      (cases_lt k seen) [ inl early ↦ none k early | inr late ↦ run_in_chunk_fails p bytes seen n run 0 room counted k late less ]

  -- No byte of the last run is of the class.
  pub none_of_all : n ≤ run → NoneBelow p bytes (seen + n)
  none_of_all whole k less = none_before k (omega (arith, run_in_chunk_le p bytes seen n run 0 room counted, whole, less))
