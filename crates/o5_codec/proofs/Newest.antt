-- A ring has its oldest item first, and a table is its reverse: the last items of a list are the first of its reverse.
use Rattle.std.proofs.Common.{◌≡◌, ℕ, zero, suc, ◌-◌, ◌<◌, List, [], ◌∷◌, ◌++◌, reverse, length, take, drop, refl, ap, sym, ◌∙◌, arith}
use Rattle.std.proofs.Common.{Some, None, nat_lt, if◌then◌else◌, inl, inr, length-drop}
use Rattle.std.proofs.lemmas.List.{take-append-drop, reverse-append, length-reverse, take_all, take_at, get_or-reverse, take-take}
use Rattle.std.proofs.lemmas.Bool.{cases_lt, lt-ltb, le-ltb}
use Rattle.std.proofs.lemmas.Option.{slice_get-get_or, slice_get_past}
use Rattle.std.specs.List.{slice_get}
use Rattle.circular_buffer.specs.Buffer.{Buffer, buffer, keep_last}
use Rattle.o5_codec.specs.Entry.{EntryStrings}
use Rattle.o5_codec.specs.Table.{entry_at}

reverse_last : {X : Type 0} (n : ℕ) (ys : List X) → reverse (keep_last n ys) ≡ take n (reverse ys)
reverse_last n ys = elim (cases_lt n (length ys)) [
  | inl more ↦ (let k : ℕ = length ys - n in
      let front : reverse ys ≡ reverse (drop k ys) ++ reverse (take k ys) = ap reverse (sym (take-append-drop k ys))
      ∙ reverse-append (take k ys) (drop k ys) in
      let long : length (reverse (drop k ys)) ≡ n = length-reverse (drop k ys) ∙ length-drop k ys ∙ omega arith in
      sym (ap (take n) front ∙ take_at (reverse (drop k ys)) (reverse (take k ys)) n long))
  | inr all ↦ (let k : length ys - n ≡ 0 = omega arith in
      rw k (sym (take_all n (reverse ys) (omega (arith, length-reverse ys)))))
]

stored : {X : Type 0} (n : ℕ) (xs : List X) (x : X) → reverse (keep_last n (xs ++ x ∷ [])) ≡ take n (x ∷ reverse xs)
stored n xs x = reverse_last n (xs ++ x ∷ []) ∙ ap (take n) (reverse-append xs (x ∷ []))

-- the items of a ring after a push, the newest first
pub pushed : {X : Type 0} (n : ℕ) (old new : Buffer X) (x : X) → new ≡ buffer (keep_last old.capacity (old.items ++ x ∷ [])) old.capacity →
    old.capacity ≡ n →
    reverse new.items ≡ take n (x ∷ reverse old.items)
pushed n old new x is room =
    ap (λ b. reverse b.items) is ∙ ap (λ k. reverse (keep_last k (old.items ++ x ∷ []))) room ∙ stored n old.items x

at_back : {X : Type 0} (xs : List X) (i : ℕ) (d : X) → i < length xs → slice_get xs (length xs - i - 1) ≡ slice_get (reverse xs) i
at_back xs i d h =
    let same : length xs - i - 1 ≡ length xs - 1 - i = omega arith in
    ap (slice_get xs) same
    ∙ slice_get-get_or xs (length xs - 1 - i) d (omega arith)
    ∙ ap (λ x. Some x) (sym (get_or-reverse xs i d h))
    ∙ sym (slice_get-get_or (reverse xs) i d (omega (arith, length-reverse xs)))

-- the item at an index from the back of a ring
pub from_back : {X : Type 0} (xs : List X) (i : ℕ) →
    (if nat_lt i (length xs) then slice_get xs (length xs - i - 1) else None) ≡ slice_get (reverse xs) i
from_back [] i = rw (le-ltb i 0 (omega arith)) refl
from_back (y ∷ ys) i = elim (cases_lt i (length (y ∷ ys))) [
  | inl lt ↦ rw (lt-ltb i (length (y ∷ ys)) lt) (at_back (y ∷ ys) i y lt)
  | inr past ↦ rw (le-ltb i (length (y ∷ ys)) past) (sym (slice_get_past (reverse (y ∷ ys)) i (omega (arith, length-reverse (y ∷ ys)))))
]

-- Reference n names the item at n - 1.
pub entry_from : (table : List EntryStrings) (n : ℕ) → (n ≡ 0 → ⊥) → slice_get table (n - 1) ≡ entry_at table n
entry_from table zero h = absurd (h refl)
entry_from table (suc n) h = let e : suc n - 1 ≡ n = omega arith in ap (slice_get table) e

-- A list that is cut after an item is added is the same, whether or not it was cut before.
pub cons_twice : {X : Type 0} (n : ℕ) (x : X) (xs : List X) → take n (x ∷ take n xs) ≡ take n (x ∷ xs)
cons_twice zero x xs = refl
cons_twice (suc n) x xs = ap (λ ys. x ∷ ys) (take-take n (suc n) xs (omega arith))
