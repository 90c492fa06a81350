-- Lists that extend to the end of some bytes.
use Rattle.std.specs.Prelude.{ℕ, zero, suc, List, [], ◌∷◌, ◌++◌, length, Result, Ok, Err}
use Rattle.o5_codec.specs.declared.reason.O5Reason.{O5Reason}
use Rattle.o5_codec.specs.declared.reason.O5Reason.TheVariants.{BadText}
use Rattle.o5_codec.specs.declared.read.segment.Segment.{Segment}
use Rattle.o5_codec.specs.Results.{and_then}
use Rattle.o5_codec.specs.Segment.{ReadStep}

module _ {X : Type 0} (item_at : Segment → List ℕ → ReadStep X) where
  -- at most `most` items, to the end of the bytes; each takes at least a byte, so there are no more than there are
  -- bytes
  unfoldable pub items_up_to : ℕ → Segment → List ℕ → Result (List X × Segment) O5Reason
  items_up_to most s [] = Ok ([], s)
  items_up_to zero s (b ∷ bytes) = Err BadText
  items_up_to (suc most) s (b ∷ bytes) =
      and_then (item_at s (b ∷ bytes)) (λ x. and_then (items_up_to most x.1 x.2) (λ more. Ok (x.0 ∷ more.0, more.1)))

  -- items to the end of the bytes, and the segment after them
  unfoldable pub items_at : Segment → List ℕ → Result (List X × Segment) O5Reason
  items_at s bytes = items_up_to (length bytes) s bytes

-- a list with one more item, and the segment and the bytes after it
abbrev pub and_one_more : {X : Type 0} → List X → Result (X × Segment × List ℕ) O5Reason →
    Result (List X × Segment × List ℕ) O5Reason
and_one_more done reading = and_then reading (λ x. Ok (done ++ x.0 ∷ [], x.1, x.2))
