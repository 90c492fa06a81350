-- One byte of a file.
use Rattle.std.proofs.Common.{◌≡◌, ℕ, zero, suc, ◌<◌, List, [], ◌∷◌, ◌++◌, length, take, drop, get_or, slice_get}
use Rattle.std.proofs.Common.{Option, Some, None, IfSome}
use Rattle.std.proofs.Common.{arith, refl, ap, ◌∙◌}
use Rattle.osm_files.specs.ReadAt.{AreAt, AreLast}

at_first : (n : ℕ) (xs : List ℕ) → slice_get xs n ≡ slice_get (drop n xs) 0
at_first zero xs = refl
at_first (suc n) [] = refl
at_first (suc n) (x ∷ xs) = at_first n xs

-- no byte is left
pub none_at : (known : Option (List ℕ)) (offset : ℕ) → AreLast known offset [] → IfSome known (λ all. slice_get all offset ≡ None)
none_at None offset last = tt
none_at (Some all) offset last = at_first offset all ∙ ap (λ xs. slice_get xs 0) last

first_of : (count : ℕ) (buffer rest : List ℕ) → length buffer ≡ 1 → 0 < count
    → slice_get (take count buffer ++ rest) 0 ≡ Some (get_or buffer 0 0)
first_of count [] rest one some = absurd (omega (arith, one))
first_of zero (b ∷ buffer) rest one some = absurd (omega (arith, some))
first_of (suc n) (b ∷ buffer) rest one some = refl

-- a byte was read
pub one_at : (known : Option (List ℕ)) (offset count : ℕ) (buffer : List ℕ) → length buffer ≡ 1 → 0 < count
    → AreAt known offset (take count buffer) → IfSome known (λ all. slice_get all offset ≡ Some (get_or buffer 0 0))
one_at None offset count buffer one some at = tt
one_at (Some all) offset count buffer one some at =
    at_first offset all ∙ ap (λ xs. slice_get xs 0) at.1 ∙ first_of count buffer at.0 one some
