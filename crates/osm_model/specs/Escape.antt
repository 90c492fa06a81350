-- The characters of a text in OPL. The form of an escape is that of the OPL manual. Two rules are this project's own:
-- the characters that are raw, and the number of digits of an escape.
use Rattle.std.specs.Prelude.{◌≡◌, ℕ, Bool, nat_lt, ◌&&◌, ◌||◌, List, [], ◌∷◌, ◌++◌, length}
use Rattle.std.specs.Prelude.{encode_utf8, encode_utf8_all, if◌then◌else◌}
use Rattle.std.specs.Char.{len_utf8}
use Rattle.std.specs.Str.{chars}
use Rattle.std.specs.Int.{is_in_range}
use Rattle.std.specs.List.{flat_map, take_while}
use Rattle.osm_model.specs.Numeral.{numeral, pad_zeros}

-- the characters that are written as themselves
abbrev pub is_raw : ℕ → Bool
is_raw c =
    is_in_range 0x21 0x24 c || is_in_range 0x26 0x2B c || is_in_range 0x2D 0x3C c || is_in_range 0x3E 0x3F c
    || is_in_range 0x41 0x7E c || is_in_range 0xA1 0xAC c || is_in_range 0xAE 0x5FF c

-- the bytes that are a raw character by themselves
abbrev pub is_raw_byte : ℕ → Bool
is_raw_byte b = is_raw b && nat_lt b 0x80

-- the least number of digits in an escape
abbrev pub escape_width : ℕ → ℕ
escape_width c = if nat_lt c 0x100 then 2 else 4

-- a character that is not raw: its code point in hexadecimal, between percent signs
unfoldable pub code_escape : ℕ → List ℕ
code_escape c = 37 ∷ (pad_zeros (escape_width c) (numeral 16 c) ++ 37 ∷ [])

-- a character in a line, in UTF-8
unfoldable pub escape_char : ℕ → List ℕ
escape_char c = if is_raw c then encode_utf8 c else code_escape c

-- the characters of a text in a line
abbrev pub escape : List ℕ → List ℕ
escape cs = flat_map escape_char cs

-- the number of bytes of the first of some characters, if it is raw, and else 0
abbrev pub raw_width : List ℕ → ℕ
raw_width [] = 0
raw_width (c ∷ cs) = if is_raw c then len_utf8 c else 0

-- the number of bytes of the raw characters before the first character that isn't raw
abbrev pub raw_length : List ℕ → ℕ
raw_length cs = length (encode_utf8_all (take_while is_raw cs))

-- the bytes of a text that a line has unchanged
abbrev pub IsPlain : List ℕ → Type 0
IsPlain bytes = escape (chars bytes) ≡ bytes
