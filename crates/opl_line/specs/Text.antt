-- Texts in OPL lines, as the OPL manual has them. This project's own rules are: the characters that are written as
-- themselves, and the limits of an escape.
use Rattle.std.specs.Prelude.{ℕ, ◌+◌, ◌*◌, Bool, not, ◌&&◌, ◌||◌, ◌==◌, nat_lt, nat_le, List, [], ◌∷◌, ◌++◌, length}
use Rattle.std.specs.Prelude.{fold, encode_utf8, Option, Some, None, Result, if◌then◌else◌}
use Rattle.std.specs.Option.{option_map, option_and_then, ok_or}
use Rattle.std.specs.List.{list_all}
use Rattle.std.specs.Char.{is_digit, digit_value}
use Rattle.std.specs.Str.{chars}
use lib.Utf8.{scalar}
use Rattle.opl_line.specs.declared.bytes.cut.Delimiter.TheVariants.{Percents}
use Rattle.opl_line.specs.declared.reason.OplReason.{OplReason}
use Rattle.opl_line.specs.declared.reason.OplReason.TheVariants.{BadText}
use Rattle.opl_line.specs.Delimiter.{is_end, split_first, pieces_of}

-- All bytes but NUL, tab, LF, CR, space, percent sign, comma and equals sign are written as themselves. The other eight
-- are ASCII, so a text in UTF-8 can be tested byte by byte.
abbrev pub is_literal : ℕ → Bool
is_literal b = not (b == 0 || b == 9 || b == 10 || b == 13 || b == 32 || b == 37 || b == 44 || b == 61)

-- hexadecimal digits of either case, and the number that they write
abbrev pub is_hex_digit : ℕ → Bool
is_hex_digit c = is_digit c 16

abbrev pub with_hex_digit : ℕ → ℕ → ℕ
with_hex_digit n digit = 16 * n + digit_value digit

abbrev pub hex_value : List ℕ → ℕ
hex_value digits = fold with_hex_digit 0 digits

-- 1 to 8 hexadecimal digits
abbrev pub is_hex : List ℕ → Bool
is_hex digits = nat_lt 0 (length digits) && nat_le (length digits) 8 && list_all is_hex_digit digits

-- the scalar value of Unicode that the digits of an escape name, other than 0
abbrev pub scalar_of : List ℕ → Option ℕ
scalar_of digits = if is_hex digits && (scalar (hex_value digits) && not (hex_value digits == 0))
    then Some (hex_value digits) else None

-- the text `done`, the character of an escape, and the raw piece after it
abbrev pub with_escape : List ℕ → List ℕ → Option ℕ → Option (List ℕ)
with_escape done raw None = None
with_escape done raw (Some c) = if list_all is_literal raw then Some (done ++ encode_utf8 c ++ raw) else None

-- the text `done`, and then escapes and raw pieces in turn
unfoldable pub text_from : List ℕ → List (List ℕ) → Option (List ℕ)
text_from done [] = Some done
text_from done (escape ∷ []) = None
text_from done (escape ∷ raw ∷ more) = option_and_then (λ text. text_from text more)
    (with_escape done raw (scalar_of escape))

-- a raw piece, and then the pieces between percent signs
abbrev pub text_of_pieces : List ℕ × Option (List ℕ) → Option (List ℕ)
text_of_pieces parts = if list_all is_literal parts.0
    then text_from parts.0 (pieces_of (is_end Percents) parts.1) else None

-- the text, in UTF-8, that some bytes spell
abbrev pub text_of : List ℕ → Option (List ℕ)
text_of bytes = text_of_pieces (split_first (is_end Percents) bytes)

-- the characters of the text that some bytes spell
abbrev pub reading_text : List ℕ → Result (List ℕ) OplReason
reading_text bytes = ok_or (option_map chars (text_of bytes)) BadText
