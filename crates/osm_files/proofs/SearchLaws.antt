-- A search that continues after the bytes that were searched before.
use Rattle.std.proofs.Common.{◌≡◌, ℕ, zero, suc, ◌+◌, ◌-◌, ◌<◌, ◌≤◌, Bool, true, false, not, cond, List, [], ◌∷◌, length, take, drop, refl}
use Rattle.std.proofs.Common.{sym, ap, ◌∙◌, arith, length-drop, length-take, Some, None, position, ltb}
use Rattle.std.proofs.lemmas.Bool.{ltb-true, ltb-false, lt-ltb, le-ltb}
use Rattle.std.proofs.lemmas.List.{take_rest}
use Rattle.std.specs.List.{position_or_len}
use Rattle.opl_line.specs.Delimiter.{is_line_end, split_first}
use Rattle.opl_line.proofs.CutLaws.{split_at}
use Rattle.osm_files.specs.Units.{line_unit}

module _ (p : ℕ → Bool) where
  -- If no byte fits, the position or length is at least the length.
  pub nowhere : (xs : List ℕ) → position p xs ≡ None → length xs ≤ position_or_len p xs
  nowhere xs none =
      let at = position_or_len p xs in
      elim (ltb at (length xs)) as (λ t. ltb at (length xs) ≡ t → cond t (Some at) None ≡ None → length xs ≤ at) [
        | true ↦ λ e f. cc
        | false ↦ λ e f. ltb-false _ _ e
      ] refl none

  -- If a byte fits, its position is the position or length, and below the length.
  pub somewhere : (xs : List ℕ) (k : ℕ) → position p xs ≡ Some k → (position_or_len p xs ≡ k) × (k < length xs)
  somewhere xs k found =
      let at = position_or_len p xs in
      elim (ltb at (length xs)) as (λ t. ltb at (length xs) ≡ t → cond t (Some at) None ≡ Some k → (at ≡ k) × (k < length xs)) [
        | true ↦ λ e f. (let same : at ≡ k = cc in (same, rw same at (ltb-true _ _ e)))
        | false ↦ λ e f. cc
      ] refl found

  -- if none of the first passes, the others are counted after them
  counted : (xs : List ℕ) (n : ℕ) → n ≤ length xs → n ≤ position_or_len p (take n xs) →
      position_or_len p xs ≡ n + position_or_len p (drop n xs)
  counted xs zero within none = omega arith
  counted [] (suc n) within none = absurd (omega (arith, within))
  counted (x ∷ xs) (suc n) within none =
      elim (p x) as (λ t. suc n ≤ cond (not t) (1 + position_or_len p (take n xs)) 0 →
      cond (not t) (1 + position_or_len p xs) 0 ≡ suc n + position_or_len p (drop n xs)) [
        | true ↦ λ few. absurd (omega (arith, few))
        | false ↦ λ few. (let on = counted xs n (omega (arith, within)) (omega (arith, few)) in omega (arith, on))
      ] none

  module _ (xs : List ℕ) (n : ℕ) (within : n ≤ length xs) (none : position p (take n xs) ≡ None) where
    after : position_or_len p xs ≡ n + position_or_len p (drop n xs)
    after = counted xs n within (omega (arith, nowhere (take n xs) none, length-take n xs, within))

    -- the rest, as a slice of the bytes
    abbrev rest : List ℕ
    rest = take (length xs - n) (drop n xs)

    rest_is : position p (drop n xs) ≡ position p rest
    rest_is = ap (position p) (sym (take_rest xs n))

    -- A search that finds nothing in the rest finds nothing.
    pub none_after : position p rest ≡ None → None ≡ position p xs
    none_after e =
        let far : length xs ≤ n + position_or_len p (drop n xs) = omega (arith, nowhere (drop n xs) (rest_is ∙ e), length-drop n xs) in
        rw (after, le-ltb _ _ far) refl

    -- A search that finds something in the rest finds it that much later.
    pub some_after : (k : ℕ) → position p rest ≡ Some k → Some (n + k) ≡ position p xs
    some_after k e =
        let found = somewhere (drop n xs) k (rest_is ∙ e) in
        let near : n + k < length xs = omega (arith, found.1, length-drop n xs) in
        rw (after, found.0, lt-ltb _ _ near) refl

-- if no line is whole, none ends
pub no_end : (bytes : List ℕ) → line_unit (split_first is_line_end bytes) ≡ None → position is_line_end bytes ≡ None
no_end bytes none =
    elim (position is_line_end bytes) as (λ o. position is_line_end bytes ≡ o → o ≡ None) [
      | None ↦ λ e. refl
      | Some n ↦ λ e. (let there : line_unit (split_first is_line_end bytes) ≡ Some _ =
          ap line_unit (split_at is_line_end bytes n e).split in cc)
    ] refl
