-- The digits of an escape, one by one.
use Rattle.std.proofs.Common.{◌≡◌, ℕ, ◌^◌, ◌<◌, ◌≤◌, true, List, [], ◌∷◌, take, refl, ap, ◌∙◌, arith, Option, Some, None, false, ◌++◌, cond}
use lib.Utf8.{encode}
use Rattle.std.proofs.Math.Nat.{pow-le-pow_right}
use Rattle.std.specs.List.{list_all}
use Rattle.std.specs.Option.{option_and_then}
use Rattle.opl_line.specs.Text.{is_literal, is_hex_digit, hex_value, scalar_of, with_escape, text_from}

-- the first digits, and their value
pub record IsHexTo (digits : List ℕ) (i code : ℕ) : Type 0 where
  pub all_digits : list_all is_hex_digit (take i digits) ≡ true
  pub value : code ≡ hex_value (take i digits)
  pub bound : code < 16 ^ i

-- A code point of fewer than 8 hexadecimal digits is below 2^28.
pub small_code : (i code : ℕ) → i < 8 → code < 16 ^ i → code < 2 ^ 28
small_code i code few below =
    let some : 0 < 16 = omega arith in
    let power : 16 ^ i ≤ 16 ^ 7 = pow-le-pow_right some (let k : i ≤ 7 = omega arith in k) in
    omega arith

-- an escape without its second percent sign is refused
pub never_ended : (done escape : List ℕ) (pieces : List (List ℕ)) → pieces ≡ escape ∷ [] → text_from done pieces ≡ None
unfolding text_from
never_ended done escape pieces e = rw e refl

-- an escape and the raw piece after it are read in one step
pub escape_turn : (done escape raw : List ℕ) (pieces rest more : List (List ℕ)) → pieces ≡ escape ∷ rest → rest ≡ raw ∷ more →
    text_from done pieces ≡ option_and_then (λ text. text_from text more) (with_escape done raw (scalar_of escape))
unfolding text_from
escape_turn done escape raw pieces rest more e f = rw (e, f) refl

-- If no piece is left, the text is `done`.
pub all_read : (done : List ℕ) (pieces : List (List ℕ)) → pieces ≡ [] → text_from done pieces ≡ Some done
unfolding text_from
all_read done pieces e = rw e refl

-- An escape that names no character is refused.
pub bad_scalar : (done escape raw : List ℕ) (pieces rest more : List (List ℕ)) → pieces ≡ escape ∷ rest → rest ≡ raw ∷ more →
    scalar_of escape ≡ None → text_from done pieces ≡ None
bad_scalar done escape raw pieces rest more e f none =
    escape_turn done escape raw pieces rest more e f
    ∙ ap (λ s. option_and_then (λ text. text_from text more) (with_escape done raw s)) none

not_raw : (done raw : List ℕ) (s : Option ℕ) → list_all is_literal raw ≡ false → with_escape done raw s ≡ None
not_raw done raw None other = refl
not_raw done raw (Some c) other = rw other refl

-- A raw piece with a byte that doesn't stand for itself is refused.
pub bad_raw : (done escape raw : List ℕ) (pieces rest more : List (List ℕ)) → pieces ≡ escape ∷ rest → rest ≡ raw ∷ more →
    list_all is_literal raw ≡ false → text_from done pieces ≡ None
bad_raw done escape raw pieces rest more e f other =
    escape_turn done escape raw pieces rest more e f
    ∙ ap (option_and_then (λ text. text_from text more)) (not_raw done raw (scalar_of escape) other)

-- An escape and a raw piece append their characters.
pub one_escape : (done escape raw : List ℕ) (c : ℕ) (pieces rest more : List (List ℕ)) → pieces ≡ escape ∷ rest → rest ≡ raw ∷ more →
    scalar_of escape ≡ Some c → list_all is_literal raw ≡ true →
    text_from done pieces ≡ text_from (done ++ encode c ++ raw) more
one_escape done escape raw c pieces rest more e f some all =
    escape_turn done escape raw pieces rest more e f
    ∙ ap (λ s. option_and_then (λ text. text_from text more) (with_escape done raw s)) some
    ∙ ap (λ t. option_and_then (λ text. text_from text more) (cond t (Some (done ++ encode c ++ raw)) None)) all
