-- The pieces of a text in UTF-8 that is cut at ASCII characters, and the texts that they spell.
use Rattle.std.proofs.Common.{◌≡◌, ℕ, zero, suc, ◌+◌, ◌<◌, Bool, true, false, not, cond, eqb, ◌&&◌, ◌||◌, List, [], ◌∷◌, ◌++◌, length}
use Rattle.std.proofs.Common.{get_or, Option, Some, None, refl, sym, ap, ◌∙◌, subst, arith}
use Rattle.std.proofs.lemmas.Bool.{and_parts, not-true}
use Rattle.std.proofs.lemmas.Bool.Decides.{nat_tests}
use Rattle.std.proofs.lemmas.List.{length-append}
use Rattle.std.proofs.lemmas.List.Folds.{list_any-append}
use Rattle.std.proofs.lemmas.Str.{IsUtf8-append, IsUtf8-encode, IsUtf8-take, IsUtf8-drop, IsCharBoundary-before_ascii}
use Rattle.std.proofs.lemmas.Str.{IsCharBoundary-after_ascii, scalars-chars, encodes-chars}
use Rattle.std.proofs.Math.Seq.{take-append_seam, get_or-append_seam, drop-append-add}
use Rattle.std.specs.List.{list_all, list_any, AllByRecursion}
use Rattle.std.specs.Str.{IsUtf8, chars}
use lib.Utf8.{encode, scalar}
use Rattle.osm_model.specs.Text.{has_zero, is_text}
use Rattle.osm_model.proofs.TextLaws.{zero_bytes}
use Rattle.opl_line.specs.declared.bytes.cut.Delimiter.{Delimiter}
use Rattle.opl_line.specs.Delimiter.{is_end, with_byte, split_first, split_all, pieces_of}
use Rattle.opl_line.specs.Text.{is_literal, hex_value, is_hex, scalar_of}
use Rattle.opl_line.specs.Content.{SpellsText, raw, escaped, SpellsCharacters}
use Rattle.opl_line.proofs.CutLaws.{cut_split, ends_ascii}

-- the bytes before and after an ASCII character of a text in UTF-8 are UTF-8
pub utf8_around : (front rest : List ℕ) (b : ℕ) → b < 128 → IsUtf8 (front ++ b ∷ rest) → IsUtf8 front × IsUtf8 rest
utf8_around front rest b ascii utf8 =
    let text = front ++ b ∷ rest in
    let n = length front in
    let within : n < length text = omega (arith, length-append front (b ∷ rest)) in
    let here : get_or text n 0 ≡ b = get_or-append_seam front b rest 0 in
    let low : get_or text n 0 < 128 = omega (arith, here) in (
      subst IsUtf8 (take-append_seam front (b ∷ rest)) (IsUtf8-take text n utf8 (IsCharBoundary-before_ascii text n within low)),
      subst IsUtf8 (drop-append-add front (b ∷ rest) 1) (IsUtf8-drop text (n + 1) utf8 (IsCharBoundary-after_ascii text n utf8 within low)),
    )

-- the split of a text
data IsSplit (p : ℕ → Bool) (bytes : List ℕ) : Type 0 where
  nowhere : split_first p bytes ≡ (bytes, None) → IsSplit p bytes
  here : (front rest : List ℕ) (b : ℕ) → p b ≡ true → bytes ≡ front ++ b ∷ rest → split_first p bytes ≡ (front, Some rest) → IsSplit p bytes

longer : (p : ℕ → Bool) (b : ℕ) (bs : List ℕ) → p b ≡ false → IsSplit p bs → IsSplit p (b ∷ bs)
longer p b bs other (nowhere e) = nowhere (ap (λ t. cond t ([], Some bs) (with_byte b (split_first p bs))) other ∙ ap (with_byte b) e)
longer p b bs other (here front rest end is whole e) =
    here (b ∷ front) rest end is (ap (λ t. b ∷ t) whole)
    (ap (λ t. cond t ([], Some bs) (with_byte b (split_first p bs))) other ∙ ap (with_byte b) e)

is_split : (p : ℕ → Bool) (bytes : List ℕ) → IsSplit p bytes
is_split p [] = nowhere refl
is_split p (b ∷ bs) =
    elim (p b) as (λ t. p b ≡ t → IsSplit p (b ∷ bs)) [
      | true ↦ λ is. here [] bs b is refl (ap (λ t. cond t ([], Some bs) (with_byte b (split_first p bs))) is)
      | false ↦ λ other. longer p b bs other (is_split p bs)
    ] refl

-- The bytes, if there are any, are UTF-8.
abbrev pub OptionUtf8 : Option (List ℕ) → Type 0
OptionUtf8 None = Unit {0}
OptionUtf8 (Some bytes) = IsUtf8 bytes

split_parts : (at : Delimiter) (bytes : List ℕ) → IsUtf8 bytes → IsSplit (is_end at) bytes →
    IsUtf8 (split_first (is_end at) bytes).0 × OptionUtf8 (split_first (is_end at) bytes).1
split_parts at bytes utf8 (nowhere e) =
    let P : List ℕ × Option (List ℕ) → Type 0 = λ s. IsUtf8 s.0 × OptionUtf8 s.1 in
    subst P (sym e) (utf8, tt)
split_parts at bytes utf8 (here front rest b is whole e) =
    let P : List ℕ × Option (List ℕ) → Type 0 = λ s. IsUtf8 s.0 × OptionUtf8 s.1 in
    subst P (sym e) (utf8_around front rest b (ends_ascii at b is) (subst IsUtf8 whole utf8))

-- A text in UTF-8 that is split at a delimiter has pieces in UTF-8.
pub split_utf8 : (at : Delimiter) (bytes : List ℕ) → IsUtf8 bytes →
    IsUtf8 (split_first (is_end at) bytes).0 × OptionUtf8 (split_first (is_end at) bytes).1
split_utf8 at bytes utf8 = split_parts at bytes utf8 (is_split (is_end at) bytes)

cut_parts : (at : Delimiter) (bytes : List ℕ) → ((rest : List ℕ) → length rest < length bytes → IsUtf8 rest →
    AllByRecursion IsUtf8 (split_all (is_end at) rest)) → IsUtf8 bytes → IsSplit (is_end at) bytes →
    AllByRecursion IsUtf8 (split_all (is_end at) bytes)
cut_parts at bytes after utf8 (nowhere e) =
    let P : List ℕ × Option (List ℕ) → Type 0 = λ s. AllByRecursion IsUtf8 (s.0 ∷ pieces_of (is_end at) s.1) in
    let Q : List (List ℕ) → Type 0 = λ ps. AllByRecursion IsUtf8 ps in
    subst Q (sym (cut_split (is_end at) bytes)) (subst P (sym e) (utf8, tt))
cut_parts at bytes after utf8 (here front rest b is whole e) =
    let P : List ℕ × Option (List ℕ) → Type 0 = λ s. AllByRecursion IsUtf8 (s.0 ∷ pieces_of (is_end at) s.1) in
    let Q : List (List ℕ) → Type 0 = λ ps. AllByRecursion IsUtf8 ps in
    let around = utf8_around front rest b (ends_ascii at b is) (subst IsUtf8 whole utf8) in
    let shorter : length rest < length bytes = omega (arith, ap length whole, length-append front (b ∷ rest)) in
    subst Q (sym (cut_split (is_end at) bytes)) (subst P (sym e) (around.0, after rest shorter around.1))

cut_within : (at : Delimiter) (most : ℕ) (bytes : List ℕ) → length bytes < most → IsUtf8 bytes →
    AllByRecursion IsUtf8 (split_all (is_end at) bytes)
cut_within at zero bytes few utf8 = absurd (omega arith)
cut_within at (suc most) bytes few utf8 = cut_parts at bytes (λ rest shorter u. cut_within at most rest (omega arith) u) utf8
    (is_split (is_end at) bytes)

-- All pieces of a text in UTF-8 between delimiters are UTF-8.
pub cut_utf8 : (at : Delimiter) (bytes : List ℕ) → IsUtf8 bytes → AllByRecursion IsUtf8 (split_all (is_end at) bytes)
cut_utf8 at bytes utf8 = cut_within at (suc (length bytes)) bytes (omega arith) utf8

-- ---- texts
abbrev HasNone : List ℕ → Type 0
HasNone bytes = list_any (λ b. eqb b 0) bytes ≡ false

raw_some : (b : ℕ) → is_literal b ≡ true → eqb b 0 ≡ false
raw_some b e = grind (arith, nat_tests)

raw_none : (bytes : List ℕ) → list_all is_literal bytes ≡ true → HasNone bytes
raw_none [] all = refl
raw_none (b ∷ bs) all = let parts = and_parts (is_literal b) (list_all is_literal bs) all in
    λ i. raw_some b parts.0 i || raw_none bs parts.1 i

none_append : (xs ys : List ℕ) → HasNone xs → HasNone ys → HasNone (xs ++ ys)
none_append xs ys a b = list_any-append (λ x. eqb x 0) xs ys ∙ (λ i. a i || b i)

encode_none : (c : ℕ) → eqb c 0 ≡ false → HasNone (encode c)
unfolding encode
encode_none c other = grind (arith, nat_tests)

-- an escape names a scalar value other than 0
named_scalar : (digits : List ℕ) (c : ℕ) → scalar_of digits ≡ Some c → (scalar c ≡ true) × (eqb c 0 ≡ false)
named_scalar digits c =
    let value = hex_value digits in
    let named = scalar value && not (eqb value 0) in
    elim (is_hex digits && named) as (λ t. (is_hex digits && named) ≡ t → cond t (Some value) None ≡ Some c →
    (scalar c ≡ true) × (eqb c 0 ≡ false)) [
      | true ↦ λ is e.
          let same : value ≡ c = cc in
          let parts = and_parts (scalar value) (not (eqb value 0)) (and_parts (is_hex digits) named is).1 in
          (sym (ap scalar same) ∙ parts.0, sym (ap (λ v. eqb v 0) same) ∙ not-true (eqb value 0) parts.1)
      | false ↦ λ is e. cc
    ] refl

text_within : (bytes text : List ℕ) → SpellsText bytes text → IsUtf8 bytes → IsUtf8 text × HasNone text
text_within bytes text (raw text' all) utf8 = (utf8, raw_none text' all)
text_within bytes text (escaped front digits rest text' c all some spelled) utf8 =
    let outer = utf8_around front (digits ++ 37 ∷ rest) 37 (omega arith) utf8 in
    let inner = utf8_around digits rest 37 (omega arith) outer.1 in
    let more = text_within rest text' spelled inner.1 in
    let named = named_scalar digits c some in (
      IsUtf8-append front (encode c ++ text') outer.0 (IsUtf8-append (encode c) text' (IsUtf8-encode c named.0) more.0),
      none_append front (encode c ++ text') (raw_none front all) (none_append (encode c) text' (encode_none c named.1) more.1),
    )

-- The characters that a text in UTF-8 spells have no U+0000.
pub characters_within : (bytes cs : List ℕ) → SpellsCharacters bytes cs → IsUtf8 bytes → is_text cs ≡ true
characters_within bytes cs s utf8 =
    let text = text_within bytes s.text s.spelled utf8 in
    let none : has_zero (chars s.text) ≡ false = sym (zero_bytes (chars s.text))
    ∙ ap (list_any (λ b. eqb b 0)) (encodes-chars s.text text.0) ∙ text.1 in
    ap is_text s.characters ∙ (λ i. scalars-chars s.text text.0 i && not (none i))
