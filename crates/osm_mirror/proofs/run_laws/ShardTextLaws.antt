-- The two numbers in the text of a shard.
use Rattle.std.proofs.Common.{◌≡◌, ℕ, ◌<◌, true, false, eqb, List, [], ◌∷◌, ◌++◌, length, refl, ◌∙◌, arith, length-append}
use Rattle.std.proofs.Common.{rules, tests}
use Rattle.std.proofs.lemmas.Grind.{common_steps}
use Rattle.std.proofs.lemmas.Bool.Decides.{nat_tests}
use Rattle.std.proofs.Math.Seq.{take-append_seam, drop-append-add}
use Rattle.std.specs.Char.{is_ascii_digit}
use Rattle.std.specs.List.{position_or_len, before_first, after_first}
use Rattle.std.specs.Str.{all_ascii_digits}
use Rattle.osm_mirror.specs.Digits.{IsDecimal}
use Rattle.osm_mirror.specs.run.Shard.{SpellsShard}

-- a decimal digit is no slash
no_slash : (c : ℕ) (cs : List ℕ) → all_ascii_digits (c ∷ cs) ≡ true → eqb c 47 ≡ false
no_slash c cs digits = grind (arith, nat_tests)

rest_digits : (c : ℕ) (cs : List ℕ) → all_ascii_digits (c ∷ cs) ≡ true → all_ascii_digits cs ≡ true
rest_digits c cs digits = search (rules, tests)

-- the first slash is after the digits
slash_at : (before after : List ℕ) → all_ascii_digits before ≡ true
    → position_or_len (λ b. eqb b 47) (before ++ 47 ∷ after) ≡ length before
slash_at [] after digits = refl
slash_at (c ∷ cs) after digits = rw (no_slash c cs digits) (grind (arith, slash_at cs after (rest_digits c cs digits)))

-- the two texts around the first slash are those of the two numbers
around_slash : (before after : List ℕ) → all_ascii_digits before ≡ true
    → let text = before ++ 47 ∷ after in (position_or_len (λ b. eqb b 47) text < length text)
    × (before_first (λ b. eqb b 47) text ≡ before) × (after_first (λ b. eqb b 47) text ≡ after)
around_slash before after digits =
    let at = slash_at before after digits in (
      omega (arith, at, length-append before (47 ∷ after)),
      rw at (take-append_seam before (47 ∷ after)),
      rw at (drop-append-add before (47 ∷ after) 1),
    )

-- a text that spells a shard has a slash
pub slash_in : (text : List ℕ) (number count : ℕ) → SpellsShard text number count
    → position_or_len (λ b. eqb b 47) text < length text
slash_in text number count s = rw s.text_is (around_slash s.before s.after s.number_is.digits).0

-- the texts around the first slash spell the two numbers
pub numbers_in : (text x y : List ℕ) (number count : ℕ) → x ≡ before_first (λ b. eqb b 47) text
    → y ≡ after_first (λ b. eqb b 47) text → SpellsShard text number count → IsDecimal x number × IsDecimal y count
numbers_in text x y number count front back s =
    let around = around_slash s.before s.after s.number_is.digits in
    let same_front : x ≡ s.before = front ∙ (rw s.text_is (around.1)) in
    let same_back : y ≡ s.after = back ∙ (rw s.text_is (around.2)) in
    (rw same_front s.number_is, rw same_back s.count_is)
