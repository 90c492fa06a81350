-- Texts cut at some of their bytes.
use Rattle.std.specs.Prelude.{ℕ, Bool, ◌==◌, ◌||◌, List, [], ◌∷◌, Option, Some, None, if◌then◌else◌}
use Rattle.opl_line.specs.declared.bytes.cut.Delimiter.{Delimiter}
use Rattle.opl_line.specs.declared.bytes.cut.Delimiter.TheVariants.{Blanks, Commas, Equals, Ats, Percents, Points}

-- a space or a tab
abbrev pub is_blank : ℕ → Bool
is_blank b = (b == 32) || (b == 9)

-- LF and CR
abbrev pub is_line_end : ℕ → Bool
is_line_end b = (b == 10) || (b == 13)

-- the delimiters at which a text is cut
abbrev pub is_end : Delimiter → ℕ → Bool
is_end Blanks = is_blank
is_end Commas = λ b. b == 44
is_end Equals = λ b. b == 61
is_end Ats = λ b. b == 64
is_end Percents = λ b. b == 37
is_end Points = λ b. b == 46

-- a byte is added to the front of the first piece
abbrev pub with_byte : {X : Type 0} → ℕ → List ℕ × X → List ℕ × X
with_byte b pieces = (b ∷ pieces.0, pieces.1)

-- the text before the first delimiter, and the text after it, if there is a delimiter
abbrev pub split_first : (ℕ → Bool) → List ℕ → List ℕ × Option (List ℕ)
split_first is_end [] = ([], None)
split_first is_end (b ∷ bs) = if is_end b then ([], Some bs) else with_byte b (split_first is_end bs)

-- a byte is added to the front of the first of several pieces
abbrev pub with_first_byte : ℕ → List (List ℕ) → List (List ℕ)
with_first_byte b [] = (b ∷ []) ∷ []
with_first_byte b (piece ∷ pieces) = (b ∷ piece) ∷ pieces

-- the pieces between delimiters; there is one more piece than there are delimiters
abbrev pub split_all : (ℕ → Bool) → List ℕ → List (List ℕ)
split_all is_end [] = [] ∷ []
split_all is_end (b ∷ bs) = if is_end b then [] ∷ split_all is_end bs else with_first_byte b (split_all is_end bs)

-- the pieces of the text after a first piece
abbrev pub pieces_of : (ℕ → Bool) → Option (List ℕ) → List (List ℕ)
pieces_of is_end None = []
pieces_of is_end (Some bytes) = split_all is_end bytes
