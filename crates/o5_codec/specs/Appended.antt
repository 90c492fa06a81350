-- The bytes that a step appends.
use Rattle.std.specs.Prelude.{◌≡◌, ℕ, List, ◌++◌}
use Rattle.o5_codec.specs.Writing.{EncoderSegment, Spelling}

-- the new bytes are the old ones, followed by those of the spelling, and `reached` is the context after the spelling
pub record AppendsSpelling (before after : List ℕ) (reached : EncoderSegment) (x : Spelling) : Type 0 where
  pub bytes : after ≡ before ++ x.0
  pub segment : reached ≡ x.1
