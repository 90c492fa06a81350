-- Texts that lack a byte, and splits at that byte.
use Rattle.std.proofs.Common.{◌≡◌, ◌≢◌, ℕ, ◌<◌, List, [], ◌∷◌, ◌++◌, refl, subst, arith, ◌⊎◌, inl, inr}
use Rattle.std.specs.List.{AllByRecursion}

-- c is no element of xs
abbrev pub Lacks : ℕ → List ℕ → Type 0
Lacks c xs = AllByRecursion (λ x. x ≢ c) xs

-- c is an element of none of the texts
abbrev pub AllLack : ℕ → List (List ℕ) → Type 0
AllLack c texts = AllByRecursion (Lacks c) texts

-- the bytes that separate the pieces of a line: space, comma, equals sign, at sign
pub data IsSeparator : ℕ → Type 0 where
  space : IsSeparator 32
  comma : IsSeparator 44
  equals : IsSeparator 61
  at : IsSeparator 64

-- a byte that writes no digit below 16
abbrev pub NoDigit : ℕ → Type 0
NoDigit c = (c < 48) ⊎ ((57 < c) × (c < 97))

-- A separator is no digit.
pub no_digit-separator : {c : ℕ} → IsSeparator c → NoDigit c
no_digit-separator space = inl (omega arith)
no_digit-separator comma = inl (omega arith)
no_digit-separator equals = inr (omega arith, omega arith)
no_digit-separator at = inr (omega arith, omega arith)

-- the bytes of numbers and times that are no digits: minus sign, point, colon, `T`, `Z`
abbrev pub IsMark : ℕ → Type 0
IsMark b = ((44 < b) × (b < 59)) ⊎ (83 < b)

-- A mark is no separator.
pub mark-separator : {c : ℕ} (b : ℕ) → IsMark b → IsSeparator c → b ≢ c
mark-separator b mark space e = grind arith
mark-separator b mark comma e = grind arith
mark-separator b mark equals e = grind arith
mark-separator b mark at e = grind arith

-- a text determines the parts before and after its first `c`
pub split_same : (c : ℕ) (xs ys us vs : List ℕ) → Lacks c xs → Lacks c ys → xs ++ c ∷ us ≡ ys ++ c ∷ vs → (xs ≡ ys) × (us ≡ vs)
split_same c [] [] us vs lx ly e = (refl, cc)
split_same c [] (y ∷ ys) us vs lx ly e = let same : y ≡ c = cc in absurd (ly.0 same)
split_same c (x ∷ xs) [] us vs lx ly e = let same : x ≡ c = cc in absurd (lx.0 same)
split_same c (x ∷ xs) (y ∷ ys) us vs lx ly e =
    let rest : xs ++ c ∷ us ≡ ys ++ c ∷ vs = cc in
    let both = split_same c xs ys us vs lx.1 ly.1 rest in
    (cc (both.0), both.1)

lacks_not : (c : ℕ) (xs us : List ℕ) → Lacks c (xs ++ c ∷ us) → ⊥
lacks_not c [] us lacks = lacks.0 refl
lacks_not c (x ∷ xs) us lacks = lacks_not c xs us lacks.1

-- a text that lacks c has no c in it
pub lacks_clash : (c : ℕ) (text xs us : List ℕ) → text ≡ xs ++ c ∷ us → Lacks c text → ⊥
lacks_clash c text xs us e lacks = lacks_not c xs us (subst (Lacks c) e lacks)

-- If two texts lack a byte, so does their concatenation.
pub lacks_append : (c : ℕ) (xs ys : List ℕ) → Lacks c xs → Lacks c ys → Lacks c (xs ++ ys)
lacks_append c [] ys lx ly = ly
lacks_append c (x ∷ xs) ys lx ly = (lx.0, lacks_append c xs ys lx.1 ly)
