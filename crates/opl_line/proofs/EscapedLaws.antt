-- Canonical texts are read back.
use Rattle.std.proofs.Common.{◌≡◌, ℕ, ◌+◌, ◌-◌, ◌*◌, ◌/◌, ◌%◌, ◌^◌, ◌<◌, ◌≤◌, true, false, not, cond, eqb, ltb, ◌&&◌, List, [], ◌∷◌, ◌++◌}
use Rattle.std.proofs.Common.{length, replicate, Some, None, refl, sym, ap, ◌∙◌, subst, append_assoc, arith}
use Rattle.std.proofs.lemmas.Bool.{and_parts, le-leb, or_parts, not-true}
use Rattle.std.proofs.lemmas.Bool.Decides.{nat_tests}
use Rattle.std.proofs.lemmas.List.{length-append, length-replicate}
use Rattle.std.proofs.lemmas.List.Folds.{list_all-append}
use Rattle.std.proofs.lemmas.Str.{chars-encodes}
use Rattle.std.specs.List.{list_all}
use Rattle.std.specs.Char.{digit_char}
use lib.Utf8.{encode, encodes, scalar, scalars}
use Rattle.osm_model.specs.Numeral.{numeral, pad_zeros}
use Rattle.osm_model.specs.Escape as model
use Rattle.osm_model.specs.Escape.{escape_width, code_escape, escape_char, escape}
use Rattle.osm_model.specs.Text.{has_zero}
use Rattle.osm_model.proofs.NumeralLaws.{length-numeral-le}
use Rattle.osm_model.proofs.EscapeLaws.{escape_char-raw, escape_char-other}
use Rattle.opl_line.specs.Text.{is_literal, is_hex_digit, with_hex_digit, hex_value, is_hex, scalar_of}
use Rattle.opl_line.specs.Content.{SpellsText, raw, escaped}
use Rattle.opl_line.specs.Canonical.{TextIsReadBack}
use Rattle.opl_line.proofs.CanonicalLaws.{IsRead, is_read, zeros_read}

-- raw bytes in front of a text
raw_front : (front bytes out : List ℕ) → list_all is_literal front ≡ true → SpellsText bytes out →
    SpellsText (front ++ bytes) (front ++ out)
raw_front front bytes out all (raw text more) = raw (front ++ text) (list_all-append is_literal front text ∙ (λ i. all i && more i))
raw_front front bytes out all (escaped f digits rest text c more some spelled) =
    let P : List ℕ → Type 0 = λ b. SpellsText b (front ++ (f ++ (encode c ++ text))) in
    let Q : List ℕ → Type 0 = λ o. SpellsText ((front ++ f) ++ 37 ∷ (digits ++ 37 ∷ rest)) o in
    subst P (append_assoc front f (37 ∷ (digits ++ 37 ∷ rest)))
    (subst Q (append_assoc front f (encode c ++ text))
    (escaped (front ++ f) digits rest text c (list_all-append is_literal front f ∙ (λ i. all i && more i)) some spelled))

high_raw : (b : ℕ) → 128 ≤ b → is_literal b ≡ true
high_raw b h = grind (arith, nat_tests)

model_raw : (c : ℕ) → model.is_raw c ≡ true → is_literal c ≡ true
model_raw c e = grind (arith, nat_tests)

pub raw_encoded : (c : ℕ) → is_literal c ≡ true → list_all is_literal (encode c) ≡ true
unfolding encode
raw_encoded c is =
    let trail = λ (n : ℕ). high_raw (128 + n) (omega arith) in
    elim (ltb c 128) as (λ a. list_all is_literal
    (cond a (c ∷ []) (cond (ltb c 2048) ((192 + c / 64) ∷ (128 + c % 64) ∷ [])
    (cond (ltb c 65536) ((224 + c / 4096) ∷ (128 + c / 64 % 64) ∷ (128 + c % 64) ∷ [])
    ((240 + c / 262144) ∷ (128 + c / 4096 % 64) ∷ (128 + c / 64 % 64) ∷ (128 + c % 64) ∷ [])))) ≡ true) [
      | true ↦ ap (λ t. t && true) is
      | false ↦ elim (ltb c 2048) as (λ a. list_all is_literal
          (cond a ((192 + c / 64) ∷ (128 + c % 64) ∷ [])
          (cond (ltb c 65536) ((224 + c / 4096) ∷ (128 + c / 64 % 64) ∷ (128 + c % 64) ∷ [])
          ((240 + c / 262144) ∷ (128 + c / 4096 % 64) ∷ (128 + c / 64 % 64) ∷ (128 + c % 64) ∷ []))) ≡ true) [
            | true ↦ λ i. high_raw (192 + c / 64) (omega arith) i && (trail (c % 64) i && true)
            | false ↦ elim (ltb c 65536) as (λ a. list_all is_literal
                (cond a ((224 + c / 4096) ∷ (128 + c / 64 % 64) ∷ (128 + c % 64) ∷ [])
                ((240 + c / 262144) ∷ (128 + c / 4096 % 64) ∷ (128 + c / 64 % 64) ∷ (128 + c % 64) ∷ [])) ≡ true) [
                  | true ↦ λ i. high_raw (224 + c / 4096) (omega arith) i && (trail (c / 64 % 64) i && (trail (c % 64) i && true))
                  | false ↦ λ i. high_raw (240 + c / 262144) (omega arith) i
                      && (trail (c / 4096 % 64) i && (trail (c / 64 % 64) i && (trail (c % 64) i && true)))
                ]
          ]
    ]

hex_step : (n d : ℕ) → d < 16 → with_hex_digit n (digit_char d) ≡ 16 * n + d
hex_step n d small = grind (arith, nat_tests)

hex_one : (d : ℕ) → d < 16 → is_hex_digit (digit_char d) ≡ true
hex_one d small = grind (arith, nat_tests)

-- The digits of an escape are read as the code point.
pub escape_digits : (c : ℕ) → IsRead 16 with_hex_digit is_hex_digit c (pad_zeros (escape_width c) (numeral 16 c))
unfolding pad_zeros
escape_digits c = zeros_read 16 with_hex_digit is_hex_digit _ c (numeral 16 c) refl refl
    (is_read 16 with_hex_digit is_hex_digit (omega arith) hex_step hex_one c c (omega arith))

short_escape : (c : ℕ) → c < 16 ^ 6 → length (pad_zeros (escape_width c) (numeral 16 c)) ≤ 8
unfolding pad_zeros
short_escape c small =
    let text = numeral 16 c in
    let short = length-numeral-le 16 6 c (omega arith) (omega arith) small in
    let width : escape_width c ≤ 4 = grind (arith, nat_tests) in
    omega (
      arith,
      length-append (replicate (escape_width c - length text) 48) text,
      length-replicate {A = ℕ} (escape_width c - length text) 48,
    )

scalar_small : (c : ℕ) → scalar c ≡ true → c < 16 ^ 6
scalar_small c e = grind (arith, nat_tests)

named : (digits : List ℕ) (c : ℕ) → IsRead 16 with_hex_digit is_hex_digit c digits → length digits ≤ 8 → scalar c ≡ true → eqb c 0 ≡ false →
    scalar_of digits ≡ Some c
named digits c is short sc other =
    let some : ltb 0 (length digits) ≡ true = (let s = is.some in grind (arith, nat_tests)) in
    let few = le-leb (length digits) 8 short in
    let named_c : (scalar (hex_value digits) && not (eqb (hex_value digits) 0)) ≡ true = ap (λ v. scalar v && not (eqb v 0)) is.value
    ∙ (λ i. sc i && not (other i)) in
    let test : (is_hex digits && (scalar (hex_value digits) && not (eqb (hex_value digits) 0))) ≡ true =
    (λ i. ((some i && few i) && is.digits i) && named_c i) in
    ap (λ t. cond t (Some (hex_value digits)) None) test ∙ ap (λ v. Some v) is.value

escape_spelled : (c : ℕ) (bytes out : List ℕ) → scalar c ≡ true → eqb c 0 ≡ false → SpellsText bytes out →
    SpellsText (code_escape c ++ bytes) (encode c ++ out)
unfolding code_escape
escape_spelled c bytes out sc other spelled =
    let digits = pad_zeros (escape_width c) (numeral 16 c) in
    let P : List ℕ → Type 0 = λ b. SpellsText (37 ∷ b) (encode c ++ out) in
    subst P (sym (append_assoc digits (37 ∷ []) bytes))
    (escaped [] digits bytes out c refl (named digits c (escape_digits c) (short_escape c (scalar_small c sc)) sc other) spelled)

char_spelled : (c : ℕ) (bytes out : List ℕ) → scalar c ≡ true → eqb c 0 ≡ false → SpellsText bytes out →
    SpellsText (escape_char c ++ bytes) (encode c ++ out)
char_spelled c bytes out sc other spelled =
    let P : List ℕ → Type 0 = λ t. SpellsText (t ++ bytes) (encode c ++ out) in
    elim (model.is_raw c) as (λ t. model.is_raw c ≡ t → SpellsText (escape_char c ++ bytes) (encode c ++ out)) [
      | true ↦ λ is. subst P (sym (escape_char-raw c is)) (raw_front (encode c) bytes out (raw_encoded c (model_raw c is)) spelled)
      | false ↦ λ is. subst P (sym (escape_char-other c is)) (escape_spelled c bytes out sc other spelled)
    ] refl

text_spelled : (cs : List ℕ) → scalars cs ≡ true → has_zero cs ≡ false → SpellsText (escape cs) (encodes cs)
text_spelled [] sc none = raw [] refl
text_spelled (c ∷ cs) sc none =
    let all = and_parts (scalar c) (scalars cs) sc in
    let zeros = or_parts (eqb c 0) (has_zero cs) none in
    char_spelled c (escape cs) (encodes cs) all.0 zeros.0 (text_spelled cs all.1 zeros.1)

-- The escaped form of a text spells the text.
pub text_is_read_back : TextIsReadBack
text_is_read_back cs is =
    let parts = and_parts (scalars cs) (not (has_zero cs)) is in
    record {
      text = encodes cs;
      spelled = text_spelled cs parts.0 (not-true (has_zero cs) parts.1);
      characters =
          sym (chars-encodes cs parts.0);
    }
