-- Bytes that are raw characters by themselves.
use Rattle.std.proofs.Common.{◌≡◌, ℕ, zero, suc, ◌-◌, ◌<◌, Bool, true, false, T, eqb, eqb→eq, eq-zero-or-pos, inl, inr, ◌&&◌}
use Rattle.std.proofs.Common.{List, [], ◌∷◌, ◌++◌, cond, get_or, ltb, refl, ap, ◌∙◌, arith}
use lib.Ieee.Fits.{and_l, and_r}
use Rattle.std.proofs.lemmas.Bool.{and_parts, ltb-true}
use Rattle.std.proofs.lemmas.Str.{chars-IsAscii, encode_ascii}
use Rattle.std.specs.List.{list_all}
use Rattle.std.specs.Str.{IsAscii}
use Rattle.osm_model.specs.Escape.{escape, escape_char, is_raw, is_raw_byte, IsPlain}
use Rattle.osm_model.proofs.EscapeLaws.{escape_char-raw}
use Rattle.o5_codec.specs.declared.read.raw.TheConstants.{RAW_BYTES}

abbrev is_mark : ℕ → Bool
is_mark n = eqb (get_or RAW_BYTES n 0) (cond (is_raw_byte n) 49 48)

abbrev are_marks : ℕ → Bool
are_marks zero = true
are_marks (suc n) = is_mark n && are_marks n

mark_below : (n byte : ℕ) → T (are_marks n) → byte < n → T (is_mark byte)
mark_below zero byte t h = absurd (omega arith)
mark_below (suc n) byte t h =
    elim (eq-zero-or-pos (n - byte)) [
      | inl z ↦ let e : byte ≡ n = omega arith in rw e (and_l _ (are_marks n) t)
      | inr g ↦ mark_below n byte (and_r _ (are_marks n) t) (omega arith)
    ]

marked : (raw : Bool) → eqb (cond raw 49 48) 49 ≡ raw
marked true = refl
marked false = refl

-- The table has the mark `1` for the raw bytes.
pub raw_mark : (byte : ℕ) → byte < 256 → eqb (get_or RAW_BYTES byte 0) 49 ≡ is_raw_byte byte
raw_mark byte small = ap (λ mark. eqb mark 49) (eqb→eq _ _ (mark_below 256 byte tt small)) ∙ marked (is_raw_byte byte)

-- a raw byte is ASCII
raw_small : (byte : ℕ) → is_raw_byte byte ≡ true → byte < 128
raw_small byte raw = ltb-true byte 0x80 (and_parts (is_raw byte) (ltb byte 0x80) raw).1

-- Raw bytes are ASCII.
pub raw_ascii : (bytes : List ℕ) → list_all is_raw_byte bytes ≡ true → IsAscii bytes
raw_ascii [] raw zero = omega arith
raw_ascii [] raw (suc i) = omega arith
raw_ascii (b ∷ bs) raw zero = raw_small b (and_parts (is_raw_byte b) (list_all is_raw_byte bs) raw).0
raw_ascii (b ∷ bs) raw (suc i) = raw_ascii bs (and_parts (is_raw_byte b) (list_all is_raw_byte bs) raw).1 i

raw_escape : (bytes : List ℕ) → list_all is_raw_byte bytes ≡ true → escape bytes ≡ bytes
raw_escape [] raw = refl
raw_escape (b ∷ bs) raw =
    let both = and_parts (is_raw_byte b) (list_all is_raw_byte bs) raw in
    let parts = and_parts (is_raw b) (ltb b 0x80) both.0 in
    let one : escape_char b ≡ b ∷ [] = escape_char-raw b parts.0 ∙ encode_ascii b (raw_small b both.0) in
    λ i. one i ++ raw_escape bs both.1 i

-- A line has raw bytes as they are.
pub raw_plain : (bytes : List ℕ) → list_all is_raw_byte bytes ≡ true → IsPlain bytes
raw_plain bytes raw = ap escape (chars-IsAscii bytes (raw_ascii bytes raw)) ∙ raw_escape bytes raw
