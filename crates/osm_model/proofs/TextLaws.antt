-- Texts as characters and as bytes.
use Rattle.std.proofs.Common.{Global, ◌≡◌, ◌≤◌, ℕ, false, eqb, ◌||◌, List, [], ◌∷◌, ◌++◌, refl, ap, sym, subst, ◌∙◌, arith, length}
use lib.Utf8.{encode, encodes}
use Rattle.std.specs.Str.{chars, IsUtf8, encode_utf8_all}
use Rattle.std.specs.String.{string_bytes}
use Rattle.std.specs.declared.string.String.{String}
use Rattle.std.specs.Bool.{OnFalse}
use Rattle.std.specs.List.{list_any}
use Rattle.std.specs.FinMap.{IsAntisymmetric, slice_cmp-IsAntisymmetric, nat_cmp-IsAntisymmetric}
use Rattle.std.proofs.lemmas.Str.{encodes-chars, encodes_same, chars-append, IsUtf8-string_bytes}
use Rattle.std.proofs.lemmas.List.Folds.{list_any-append}
use Rattle.std.proofs.lemmas.Bool.Decides.{nat_tests}
use Rattle.osm_model.specs.declared.text.Storage.{Storage}
use Rattle.osm_model.specs.declared.text.Storage.TheVariants.{InlineRaw, Inline, Heap}
use Rattle.osm_model.specs.Storage.{bytes_of, is_heap}
use Rattle.osm_model.specs.Text.{text_cmp, is_empty}

-- The UTF-8 of the characters of a string is the string's bytes.
pub text_bytes : {Z : Type 0} (s : String Z) → encodes (chars (string_bytes s)) ≡ string_bytes s
text_bytes s = encodes-chars _ (IsUtf8-string_bytes s)

-- Texts that tie are equal.
pub text_cmp-IsAntisymmetric : IsAntisymmetric text_cmp
text_cmp-IsAntisymmetric x y e = encodes_same x y (slice_cmp-IsAntisymmetric nat_cmp-IsAntisymmetric _ _ e)

zero_byte : (c : ℕ) → list_any (λ b. eqb b 0) (encode c) ≡ eqb c 0
unfolding encode
zero_byte c = grind (arith, nat_tests)

-- A text has a byte 0 if and only if it has the character U+0000.
pub zero_bytes : (cs : List ℕ) → list_any (λ b. eqb b 0) (encodes cs) ≡ list_any (λ c. eqb c 0) cs
zero_bytes [] = refl
zero_bytes (c ∷ cs) = list_any-append _ (encode c) (encodes cs) ∙ (λ i. zero_byte c i || zero_bytes cs i)

nonempty_encode : (c : ℕ) (us : List ℕ) → is_empty (encode c ++ us) ≡ false
unfolding encode
nonempty_encode c us = grind (arith, nat_tests)

-- A text has no bytes if and only if it has no characters.
pub empty_bytes : (cs : List ℕ) → is_empty (encodes cs) ≡ is_empty cs
empty_bytes [] = refl
empty_bytes (c ∷ cs) = nonempty_encode c (encodes cs)

-- A text of length 0 is empty.
pub empty_by_length : (bs : List ℕ) → eqb (length bs) 0 ≡ is_empty bs
empty_by_length [] = refl
empty_by_length (b ∷ bs) = grind (arith, nat_tests)

-- The characters of the bytes of a text are the text.
pub text_chars : (bs cs : List ℕ) → IsUtf8 bs → bs ≡ encodes cs → chars bs ≡ cs
text_chars bs cs u e = encodes_same _ _ (encodes-chars bs u ∙ e)

-- Bytes that are appended to a text append their characters.
pub appended_chars : (before more now : List ℕ) → IsUtf8 before → now ≡ before ++ more → chars now ≡ chars before ++ chars more
appended_chars before more now u e = ap chars e ∙ chars-append before more u

-- if the storage isn't `Heap`, a property that holds for the other storages holds
of_value : (P : Type 0) (s : Storage) → OnFalse (is_heap s) P → ((string : String Global) → s ≡ Heap string → ⊥) → P
of_value P (InlineRaw plain) h other = h
of_value P (Inline string) h other = h
of_value P (Heap string) h other = absurd (other string refl)

-- a text whose bytes the value itself holds is short
pub short_text : (bytes text : List ℕ) (s : Storage) → IsUtf8 bytes → bytes ≡ bytes_of s → chars (bytes_of s) ≡ text
    → OnFalse (is_heap s) (length bytes ≤ 24) → ((string : String Global) → s ≡ Heap string → ⊥) → length (encode_utf8_all text) ≤ 24
short_text bytes text s utf8 same is short other =
    subst (λ t. length t ≤ 24) (sym (encodes-chars bytes utf8) ∙ ap encode_utf8_all (ap chars same ∙ is)) (of_value _ s short other)
