-- The first cut of a text, and its pieces.
use Rattle.std.proofs.Common.{◌≡◌, ℕ, zero, suc, ◌+◌, ◌<◌, ◌≤◌, Bool, true, false, not, ◌&&◌, cond, List, [], ◌∷◌, ◌++◌, length, take, drop}
use Rattle.std.proofs.Common.{get_or, refl, ap, ◌∙◌, arith, add-one, Option, Some, None, position, ltb}
use Rattle.std.proofs.lemmas.Bool.{and_parts, ltb-true, ltb-false, lt-ltb, le-ltb, not-true}
use Rattle.std.proofs.lemmas.Bool.Decides.{nat_tests}
use Rattle.std.proofs.lemmas.List.Folds.{list_all_more}
use Rattle.std.proofs.lemmas.List.Sums.{passes_at_first, position_or_len_is}
use Rattle.std.proofs.lemmas.Str.{IsCharBoundary-before_ascii, IsCharBoundary-after_ascii}
use Rattle.std.specs.List.{list_all, position_or_len}
use Rattle.std.specs.Str.{IsUtf8, IsCharBoundary}
use Rattle.opl_line.specs.declared.bytes.cut.Delimiter.{Delimiter}
use Rattle.opl_line.specs.declared.bytes.cut.Delimiter.TheVariants.{Blanks, Commas, Equals, Ats, Percents, Points}
use Rattle.opl_line.specs.Delimiter.{is_end, with_byte, split_first, with_first_byte, split_all, pieces_of}

module _ (p : ℕ → Bool) where
  -- the part split off is the first piece
  pub cut_split : (bytes : List ℕ) → split_all p bytes ≡ (split_first p bytes).0 ∷ pieces_of p (split_first p bytes).1
  cut_split [] = refl
  cut_split (b ∷ bs) =
      elim (p b) as (λ t. cond t ([] ∷ split_all p bs) (with_first_byte b (split_all p bs)) ≡
      (cond t ([], Some bs) (with_byte b (split_first p bs))).0
      ∷ pieces_of p (cond t ([], Some bs) (with_byte b (split_first p bs))).1) [
        | true ↦ refl
        | false ↦ ap (with_first_byte b) (cut_split bs)
      ]

  split_found : (bytes : List ℕ) → let n = position_or_len p bytes in n < length bytes →
      split_first p bytes ≡ (take n bytes, Some (drop (n + 1) bytes))
  split_found [] h = absurd (omega (arith, h))
  split_found (b ∷ bs) h =
      let n = position_or_len p bs in
      elim (p b) as (λ t. cond (not t) (1 + n) 0 < suc (length bs) →
      cond t ([], Some bs) (with_byte b (split_first p bs))
      ≡ (take (cond (not t) (1 + n) 0) (b ∷ bs), Some (drop (cond (not t) (1 + n) 0 + 1) (b ∷ bs)))) [
        | true ↦ λ _. refl
        | false ↦ λ k.
            let one : 1 + n ≡ suc n = omega arith in
            let two : suc n + 1 ≡ suc (n + 1) = omega arith in
            rw (one, two) (ap (with_byte b) (split_found bs (omega (arith, k))))
      ] h

  split_none : (bytes : List ℕ) → length bytes ≤ position_or_len p bytes → split_first p bytes ≡ (bytes, None)
  split_none [] h = refl
  split_none (b ∷ bs) h =
      let n = position_or_len p bs in
      elim (p b) as (λ t. suc (length bs) ≤ cond (not t) (1 + n) 0 →
      cond t ([], Some bs) (with_byte b (split_first p bs)) ≡ (b ∷ bs, None)) [
        | true ↦ λ k. absurd (omega (arith, k))
        | false ↦ λ k. ap (with_byte b) (split_none bs (omega (arith, k)))
      ] h

  -- a text is split at the first end
  pub record SplitAt (bytes : List ℕ) (n : ℕ) : Type 0 where
    pub within : n < length bytes
    pub passes : p (get_or bytes n 0) ≡ true
    pub split : split_first p bytes ≡ (take n bytes, Some (drop (n + 1) bytes))

  -- A text is split first at the first byte that passes.
  pub split_at : (bytes : List ℕ) (n : ℕ) → position p bytes ≡ Some n → SplitAt bytes n
  split_at bytes n found =
      let at = position_or_len p bytes in
      elim (ltb at (length bytes)) as (λ t. ltb at (length bytes) ≡ t → cond t (Some at) None ≡ Some n → SplitAt bytes n) [
        | true ↦ λ e f.
            let same : at ≡ n = cc in
            let less = ltb-true _ _ e in
            record {
              within = rw same at less;
              passes = rw same at (passes_at_first p bytes 0 less);
              split = rw same at (split_found bytes less);
            }
        | false ↦ λ e f. cc
      ] refl found

  -- A text in which no byte passes is its own first piece.
  pub split_nowhere : (bytes : List ℕ) → position p bytes ≡ None → split_first p bytes ≡ (bytes, None)
  split_nowhere bytes found =
      let at = position_or_len p bytes in
      elim (ltb at (length bytes)) as (λ t. ltb at (length bytes) ≡ t → cond t (Some at) None ≡ None →
      split_first p bytes ≡ (bytes, None)) [
        | true ↦ λ e f. cc
        | false ↦ λ e f. split_none bytes (ltb-false _ _ e)
      ] refl found

-- the first byte that passes, as a search finds it
module _ (p : ℕ → Bool) (bytes : List ℕ) where
  -- No byte before an offset passes.
  abbrev pub NoneBelow : ℕ → Type 0
  NoneBelow n = (k : ℕ) → k < n → p (get_or bytes k 0) ≡ false

  -- A byte that passes, before which none does, is the first one.
  pub first_at : (n : ℕ) → n < length bytes → NoneBelow n → p (get_or bytes n 0) ≡ true → Some n ≡ position p bytes
  first_at n within none here =
      let at : position_or_len p bytes ≡ n = position_or_len_is p bytes n 0 (omega arith) none (λ _. here) in
      rw (at, lt-ltb n (length bytes) within) refl

  -- If no byte of a text passes, a search finds none.
  pub first_nowhere : NoneBelow (length bytes) → None ≡ position p bytes
  first_nowhere none =
      let at : position_or_len p bytes ≡ length bytes =
      position_or_len_is p bytes (length bytes) 0 (omega arith) none (λ less. absurd (omega (arith, less))) in
      rw (at, le-ltb (length bytes) (length bytes) (omega arith)) refl

  pub none_below : (n : ℕ) → n ≤ length bytes → NoneBelow n → list_all (λ x. not (p x)) (take n bytes) ≡ true
  none_below zero within none = refl
  none_below (suc n) within none =
      let here : p (get_or bytes n 0) ≡ false = none n (omega arith) in
      let before : list_all (λ x. not (p x)) (take n bytes) ≡ true = none_below n (omega arith) (λ k less. none k (omega arith)) in
      rw (← add-one) (list_all_more (λ x. not (p x)) bytes n 0 (omega arith) ∙ (λ i. before i && not (here i)))

-- all bytes that are cut at are ASCII
pub ends_ascii : (at : Delimiter) (b : ℕ) → is_end at b ≡ true → b < 128
ends_ascii Blanks b e = grind (arith, nat_tests)
ends_ascii Commas b e = grind (arith, nat_tests)
ends_ascii Equals b e = grind (arith, nat_tests)
ends_ascii Ats b e = grind (arith, nat_tests)
ends_ascii Percents b e = grind (arith, nat_tests)
ends_ascii Points b e = grind (arith, nat_tests)

-- a text may be cut before a delimiter
pub cut_before : (at : Delimiter) (text : List ℕ) (n : ℕ) → position (is_end at) text ≡ Some n → IsCharBoundary text n
cut_before at text n found = let s = split_at (is_end at) text n found in
    IsCharBoundary-before_ascii text n s.within (ends_ascii at _ s.passes)

-- The offset after a delimiter is a boundary of a character.
pub cut_rest : (at : Delimiter) (text : List ℕ) (n : ℕ) → IsUtf8 text → position (is_end at) text ≡ Some n → IsCharBoundary text (n + 1)
cut_rest at text n utf8 found = let s = split_at (is_end at) text n found in
    IsCharBoundary-after_ascii text n utf8 s.within (ends_ascii at _ s.passes)

-- a number that is less after each split: the length of the remaining text and 1, or 0 if there is none
abbrev pub left_of : Option (List ℕ) → ℕ
left_of None = 0
left_of (Some bytes) = length bytes + 1

module _ (p : ℕ → Bool) where
  -- a text is split at its first delimiter
  pub split_front : (front rest : List ℕ) (b : ℕ) → list_all (λ x. not (p x)) front ≡ true → p b ≡ true →
      split_first p (front ++ b ∷ rest) ≡ (front, Some rest)
  split_front [] rest b none is = rw is refl
  split_front (x ∷ xs) rest b none is =
      let parts = and_parts (not (p x)) (list_all (λ y. not (p y)) xs) none in
      ap (λ t. cond t ([], Some (xs ++ b ∷ rest)) (with_byte x (split_first p (xs ++ b ∷ rest)))) (not-true (p x) parts.0)
      ∙ ap (with_byte x) (split_front xs rest b parts.1 is)

  -- A text of which all bytes fail the test is its own first piece.
  pub split_never : (bytes : List ℕ) → list_all (λ x. not (p x)) bytes ≡ true → split_first p bytes ≡ (bytes, None)
  split_never [] none = refl
  split_never (x ∷ xs) none =
      let parts = and_parts (not (p x)) (list_all (λ y. not (p y)) xs) none in
      ap (λ t. cond t ([], Some xs) (with_byte x (split_first p xs))) (not-true (p x) parts.0) ∙ ap (with_byte x) (split_never xs parts.1)
