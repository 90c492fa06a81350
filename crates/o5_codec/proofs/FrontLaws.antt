-- The two bytes before a data set's content.
use Rattle.std.proofs.Common.{◌≡◌, ℕ, ◌-◌, ◌++◌, ◌∷◌, [], List, drop, length, min, refl, sym, ap, ◌∙◌, arith}
use Rattle.std.proofs.Math.Seq.{drop-append_seam}

-- without the first two bytes, the content is left
pub after_two : (front content : List ℕ) → length front ≡ 2 → drop 2 (front ++ content) ≡ content
after_two front content two = ap (λ n. drop n (front ++ content)) (sym two) ∙ drop-append_seam front content

-- the same for bytes in two parts, of which each loses its share of the two bytes
pub drop_both : (xs ys : List ℕ) (gone : ℕ) → gone ≡ min (length xs) 2 → drop gone xs ++ drop (2 - gone) ys ≡ drop 2 (xs ++ ys)
drop_both [] ys gone h = rw (h) refl
drop_both (x ∷ []) ys gone h = rw (h) refl
drop_both (x ∷ y ∷ zs) ys gone h = let two : gone ≡ 2 = omega (arith, h) in rw (two) refl
