-- The escaped form of a text determines the text, and holds no separator.
use Rattle.std.proofs.Common.{◌≡◌, ◌≢◌, ℕ, ◌+◌, ◌/◌, ◌%◌, ◌<◌, ◌≤◌, true, false, cond, ltb, List, [], ◌∷◌, ◌++◌, length, refl, sym, ap, ◌∙◌}
use Rattle.std.proofs.Common.{arith, append_assoc, inl}
use Rattle.std.proofs.lemmas.Bool.Decides.{nat_tests}
use Rattle.std.proofs.lemmas.Bool.{true≢false}
use Rattle.std.proofs.Common.{◌-◌, ◌*◌, get_or, take, drop}
use Rattle.std.proofs.lemmas.List.{append-nil, take_rest}
use Rattle.std.proofs.lemmas.Str.{encode_same, encode_ascii}
use lib.Utf8.{encode}
use Rattle.osm_model.specs.Numeral.{numeral, pad_zeros}
use Rattle.osm_model.specs.Escape.{is_raw, escape_width, code_escape, escape_char, escape}
use Rattle.std.specs.Char.{digit_char}
use Rattle.osm_model.proofs.NumeralLaws.{padded_injective, padded_lacks, pad_zeros-step, pad_zeros-digit}
use Rattle.osm_model.proofs.Separators.{Lacks, IsSeparator, space, comma, equals, at, NoDigit, no_digit-separator, split_same, lacks_append}

raw_percent : (c : ℕ) (us vs : List ℕ) → is_raw c ≡ true → encode c ++ us ≡ 37 ∷ vs → ⊥
raw_percent c us vs raw e =
    let same : c ≡ 37 = (encode_same c 37 us vs (e ∙ ap (λ t. t ++ vs) (sym (encode_ascii 37 (omega arith))))).0 in
    true≢false (sym raw ∙ ap is_raw same)

code_escape_same : (c d : ℕ) (us vs : List ℕ) → code_escape c ++ us ≡ code_escape d ++ vs → (c ≡ d) × (us ≡ vs)
unfolding code_escape
code_escape_same c d us vs e =
    let both = split_same 37 (pad_zeros (escape_width c) (numeral 16 c)) (pad_zeros (escape_width d) (numeral 16 d)) us vs
    (padded_lacks 37 16 (escape_width c) c (inl (omega arith)) (omega arith) (omega arith))
    (padded_lacks 37 16 (escape_width d) d (inl (omega arith)) (omega arith) (omega arith))
    (cc (
      append_assoc (pad_zeros (escape_width c) (numeral 16 c)) (37 ∷ []) us,
      append_assoc (pad_zeros (escape_width d) (numeral 16 d)) (37 ∷ []) vs,
    )) in
    (padded_injective 16 (escape_width c) (escape_width d) c d (omega arith) (omega arith) both.0, both.1)

code_escape_percent : (c : ℕ) (us : List ℕ) → (vs : List ℕ) × (code_escape c ++ us ≡ 37 ∷ vs)
unfolding code_escape
code_escape_percent c us = ((pad_zeros (escape_width c) (numeral 16 c) ++ 37 ∷ []) ++ us, refl)

-- the form of one character shows where it ends
escape_char_same : (c d : ℕ) (us vs : List ℕ) → escape_char c ++ us ≡ escape_char d ++ vs → (c ≡ d) × (us ≡ vs)
unfolding escape_char
escape_char_same c d us vs =
    elim (is_raw c) as (λ a. is_raw c ≡ a → cond a (encode c) (code_escape c) ++ us ≡ escape_char d ++ vs → (c ≡ d) × (us ≡ vs)) [
      | true ↦ λ raw. elim (is_raw d) as (λ b. is_raw d ≡ b → encode c ++ us ≡ cond b (encode d) (code_escape d) ++ vs →
          (c ≡ d) × (us ≡ vs)) [
            | true ↦ λ raw' e. encode_same c d us vs e
            | false ↦ λ raw' e. let p = code_escape_percent d vs in absurd (raw_percent c us p.0 raw (e ∙ p.1))
          ] refl
      | false ↦ λ raw. elim (is_raw d) as (λ b. is_raw d ≡ b → code_escape c ++ us ≡ cond b (encode d) (code_escape d) ++ vs →
          (c ≡ d) × (us ≡ vs)) [
            | true ↦ λ raw' e. let p = code_escape_percent c us in absurd (raw_percent d vs p.0 raw' (sym e ∙ p.1))
            | false ↦ λ raw' e. code_escape_same c d us vs e
          ] refl
    ] refl

encode_some : (c : ℕ) (us : List ℕ) → encode c ++ us ≡ [] → ⊥
unfolding encode
encode_some c us e = grind (arith, nat_tests)

escape_char_some : (c : ℕ) (us : List ℕ) → escape_char c ++ us ≡ [] → ⊥
unfolding escape_char code_escape
escape_char_some c us =
    elim (is_raw c) as (λ a. cond a (encode c) (code_escape c) ++ us ≡ [] → ⊥) [
      | true ↦ λ e. encode_some c us e
      | false ↦ λ e. cc
    ]

-- The form of a character has a byte at least.
pub length-escape_char-some : (c : ℕ) → 0 < length (escape_char c)
length-escape_char-some c = not_nil (escape_char c) (λ e. escape_char_some c [] (append-nil (escape_char c) ∙ e))
  where
    not_nil : (xs : List ℕ) → (xs ≡ [] → ⊥) → 0 < length xs
    not_nil [] h = absurd (h refl)
    not_nil (x ∷ xs) h = omega arith

-- Two texts with one escaped form are equal.
pub escape_injective : (cs ds : List ℕ) → escape cs ≡ escape ds → cs ≡ ds
escape_injective [] [] e = refl
escape_injective [] (d ∷ ds) e = absurd (escape_char_some d (escape ds) (sym e))
escape_injective (c ∷ cs) [] e = absurd (escape_char_some c (escape cs) e)
escape_injective (c ∷ cs) (d ∷ ds) e =
    let both = escape_char_same c d (escape cs) (escape ds) e in
    cc (both.0, escape_injective cs ds both.1)

high : (s low n : ℕ) → s < 128 → 128 ≤ low → low + n ≢ s
high s low n h k e = absurd (omega (arith, e))

encode_lacks : (s c : ℕ) → s < 128 → c ≢ s → Lacks s (encode c)
unfolding encode
encode_lacks s c h n =
    elim (ltb c 128) as (λ a. Lacks s (cond a (c ∷ [])
    (cond (ltb c 2048) ((192 + c / 64) ∷ (128 + c % 64) ∷ [])
    (cond (ltb c 65536) ((224 + c / 4096) ∷ (128 + c / 64 % 64) ∷ (128 + c % 64) ∷ [])
    ((240 + c / 262144) ∷ (128 + c / 4096 % 64) ∷ (128 + c / 64 % 64) ∷ (128 + c % 64) ∷ []))))) [
      | true ↦ (n, tt)
      | false ↦ elim (ltb c 2048) as (λ a. Lacks s (cond a ((192 + c / 64) ∷ (128 + c % 64) ∷ [])
          (cond (ltb c 65536) ((224 + c / 4096) ∷ (128 + c / 64 % 64) ∷ (128 + c % 64) ∷ [])
          ((240 + c / 262144) ∷ (128 + c / 4096 % 64) ∷ (128 + c / 64 % 64) ∷ (128 + c % 64) ∷ [])))) [
            | true ↦ (high s 192 _ h (omega arith), (high s 128 _ h (omega arith), tt))
            | false ↦ elim (ltb c 65536) as (λ a. Lacks s (cond a ((224 + c / 4096) ∷ (128 + c / 64 % 64) ∷ (128 + c % 64) ∷ [])
                ((240 + c / 262144) ∷ (128 + c / 4096 % 64) ∷ (128 + c / 64 % 64) ∷ (128 + c % 64) ∷ []))) [
                  | true ↦ (high s 224 _ h (omega arith), (high s 128 _ h (omega arith), (high s 128 _ h (omega arith), tt)))
                  | false ↦ (
                    high s 240 _ h (omega arith),
                    (
                      high s 128 _ h (omega arith),
                      (high s 128 _ h (omega arith), (high s 128 _ h (omega arith), tt)),
                    ),
                  )
                ]
          ]
    ]

-- a separator is ASCII, not raw, and no percent sign
record IsEscaped (s : ℕ) : Type 0 where
  ascii : s < 128
  not_raw : is_raw s ≡ false
  other : 37 ≢ s
  no_digit : NoDigit s

escaped_separator : {s : ℕ} → IsSeparator s → IsEscaped s
escaped_separator space = record {
  ascii = omega arith;
  not_raw = refl;
  other = λ e. absurd (omega (arith, e));
  no_digit =
      no_digit-separator space;
}
escaped_separator comma = record {
  ascii = omega arith;
  not_raw = refl;
  other = λ e. absurd (omega (arith, e));
  no_digit =
      no_digit-separator comma;
}
escaped_separator equals = record {
  ascii = omega arith;
  not_raw = refl;
  other = λ e. absurd (omega (arith, e));
  no_digit =
      no_digit-separator equals;
}
escaped_separator at = record {
  ascii = omega arith;
  not_raw = refl;
  other = λ e. absurd (omega (arith, e));
  no_digit =
      no_digit-separator at;
}

code_escape_lacks : (s c : ℕ) → IsEscaped s → Lacks s (code_escape c)
unfolding code_escape
code_escape_lacks s c p = (
  p.other,
  lacks_append s (pad_zeros (escape_width c) (numeral 16 c)) (37 ∷ [])
      (padded_lacks s 16 (escape_width c) c p.no_digit (omega arith) (omega arith)) (p.other, tt),
)

escape_char_lacks : (s c : ℕ) → IsEscaped s → Lacks s (escape_char c)
unfolding escape_char
escape_char_lacks s c p =
    elim (is_raw c) as (λ a. is_raw c ≡ a → Lacks s (cond a (encode c) (code_escape c))) [
      | true ↦ λ raw. encode_lacks s c p.ascii (λ e. true≢false (sym raw ∙ ap is_raw e ∙ p.not_raw))
      | false ↦ λ raw. code_escape_lacks s c p
    ] refl

-- The escaped form of a text has no separator.
pub escape_lacks : {s : ℕ} (cs : List ℕ) → IsSeparator s → Lacks s (escape cs)
escape_lacks [] p = tt
escape_lacks (c ∷ cs) p = lacks_append _ (escape_char c) (escape cs) (escape_char_lacks _ c (escaped_separator p)) (escape_lacks cs p)

-- The form of a raw character is its UTF-8.
pub escape_char-raw : (c : ℕ) → is_raw c ≡ true → escape_char c ≡ encode c
unfolding escape_char
escape_char-raw c e = rw e

-- The form of any other character is its escape.
pub escape_char-other : (c : ℕ) → is_raw c ≡ false → escape_char c ≡ code_escape c
unfolding escape_char
escape_char-other c e = rw e

four_padded : (c : ℕ) → c < 0x1_0000 → pad_zeros 4 (numeral 16 c)
    ≡ digit_char (c / 0x1000) ∷ digit_char (c / 0x100 % 0x10) ∷ digit_char (c / 0x10 % 0x10) ∷ digit_char (c % 0x10) ∷ []
four_padded c small =
    let second : c / 16 / 16 % 16 ≡ c / 0x100 % 0x10 = omega arith in
    let first : c / 16 / 16 / 16 ≡ c / 0x1000 = omega arith in
    pad_zeros-step 16 2 c (omega arith)
    ∙ ap (λ t. t ++ digit_char (c % 16) ∷ []) (pad_zeros-step 16 1 (c / 16) (omega arith))
    ∙ ap (λ t. (t ++ digit_char (c / 16 % 16) ∷ []) ++ digit_char (c % 16) ∷ []) (pad_zeros-step 16 0 (c / 16 / 16) (omega arith))
    ∙ ap (λ t. ((t ++ digit_char (c / 16 / 16 % 16) ∷ []) ++ digit_char (c / 16 % 16) ∷ []) ++ digit_char (c % 16) ∷ [])
    (pad_zeros-digit 16 (c / 16 / 16 / 16) (omega arith) (omega arith))
    ∙ (λ i. digit_char (first i) ∷ digit_char (second i) ∷ digit_char (c / 16 % 16) ∷ digit_char (c % 16) ∷ [])

four_wide : (c : ℕ) → 0x600 ≤ c → escape_width c ≡ 4
four_wide c low = grind (arith, nat_tests)

four_other : (c : ℕ) → 0x600 ≤ c → is_raw c ≡ false
four_other c low = grind (arith, nat_tests)

-- the escape of a code point from U+0600 to U+FFFF
pub four_digits : (c : ℕ) → 0x600 ≤ c → c < 0x1_0000 → escape_char c
    ≡ 37 ∷ digit_char (c / 0x1000) ∷ digit_char (c / 0x100 % 0x10) ∷ digit_char (c / 0x10 % 0x10) ∷ digit_char (c % 0x10) ∷ 37 ∷ []
unfolding code_escape
four_digits c low small =
    escape_char-other c (four_other c low)
    ∙ ap (λ width. 37 ∷ (pad_zeros width (numeral 16 c) ++ 37 ∷ [])) (four_wide c low)
    ∙ ap (λ digits. 37 ∷ (digits ++ 37 ∷ [])) (four_padded c small)

-- the bytes from the first percent sign to the second
six_bytes : (bytes : List ℕ) → 6 ≤ length bytes → bytes
    ≡ get_or bytes 0 0 ∷ get_or bytes 1 0 ∷ get_or bytes 2 0 ∷ get_or bytes 3 0 ∷ get_or bytes 4 0 ∷ get_or bytes 5 0
    ∷ take (length bytes - 6) (drop 6 bytes)
six_bytes [] more = absurd (omega arith)
six_bytes (a ∷ []) more = absurd (omega arith)
six_bytes (a ∷ b ∷ []) more = absurd (omega arith)
six_bytes (a ∷ b ∷ c ∷ []) more = absurd (omega arith)
six_bytes (a ∷ b ∷ c ∷ d ∷ []) more = absurd (omega arith)
six_bytes (a ∷ b ∷ c ∷ d ∷ e ∷ []) more = absurd (omega arith)
six_bytes (a ∷ b ∷ c ∷ d ∷ e ∷ f ∷ rest) more = ap (λ t. a ∷ b ∷ c ∷ d ∷ e ∷ f ∷ t)
    (sym (take_rest (a ∷ b ∷ c ∷ d ∷ e ∷ f ∷ rest) 6))

-- Four digits between percent signs are the escape of their number, from U+0600 on.
pub four_digits_back : (bytes : List ℕ) (a b c d code : ℕ) → 6 ≤ length bytes → (get_or bytes 0 0 ≡ 37) × (get_or bytes 5 0 ≡ 37) →
    (a < 16) × (get_or bytes 1 0 ≡ digit_char a) → (b < 16) × (get_or bytes 2 0 ≡ digit_char b) →
    (c < 16) × (get_or bytes 3 0 ≡ digit_char c) → (d < 16) × (get_or bytes 4 0 ≡ digit_char d) →
    code ≡ 0x1000 * a + 0x100 * b + 0x10 * c + d → 0x600 ≤ code → code < 0x1_0000 →
    bytes ≡ escape_char code ++ take (length bytes - 6) (drop 6 bytes)
four_digits_back bytes a b c d code more ends first second third fourth is low small =
    let one : a ≡ code / 0x1000 = omega (arith, first.0, second.0, third.0, fourth.0) in
    let two : b ≡ code / 0x100 % 0x10 = omega (arith, first.0, second.0, third.0, fourth.0) in
    let three : c ≡ code / 0x10 % 0x10 = omega (arith, first.0, second.0, third.0, fourth.0) in
    let four : d ≡ code % 0x10 = omega (arith, first.0, second.0, third.0, fourth.0) in
    let rest = take (length bytes - 6) (drop 6 bytes) in
    six_bytes bytes more
    ∙ (λ i. ends.0 i ∷ (first.1 ∙ ap digit_char one) i ∷ (second.1 ∙ ap digit_char two) i ∷ (third.1 ∙ ap digit_char three) i
    ∷ (fourth.1 ∙ ap digit_char four) i ∷ ends.1 i ∷ rest)
    ∙ ap (λ t. t ++ rest) (sym (four_digits code low small))
