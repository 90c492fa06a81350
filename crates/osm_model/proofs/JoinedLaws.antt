-- Joined texts determine the items, if each text lacks the separator and determines its item.
use Rattle.std.proofs.Common.{◌≡◌, ◌≢◌, ℕ, List, [], ◌∷◌, ◌++◌, map, refl, sym}
use Rattle.osm_model.specs.Joined.{join_with}
use Rattle.osm_model.proofs.Separators.{Lacks, AllLack, split_same, lacks_append, lacks_clash}

-- Two lists of pieces that lack the separator are equal if they are joined to one text.
pub joined_injective : (c : ℕ) (f g : List ℕ) (fs gs : List (List ℕ)) → AllLack c (f ∷ fs) → AllLack c (g ∷ gs) →
    join_with c (f ∷ fs) ≡ join_with c (g ∷ gs) → f ∷ fs ≡ g ∷ gs
joined_injective c f g [] [] h k e = cc
joined_injective c f g [] (g' ∷ gs) h k e = absurd (lacks_clash c f g (join_with c (g' ∷ gs)) e h.0)
joined_injective c f g (f' ∷ fs) [] h k e = absurd (lacks_clash c g f (join_with c (f' ∷ fs)) (sym e) k.0)
joined_injective c f g (f' ∷ fs) (g' ∷ gs) h k e =
    let both = split_same c f g _ _ h.0 k.0 e in
    let rest = joined_injective c f' g' fs gs h.1 k.1 both.1 in
    cc (both.0, rest)

abbrev pub IsFull : List ℕ → Type 0
IsFull [] = ⊥
IsFull (x ∷ xs) = Unit {0}

-- A list that ends in an item isn't empty.
pub full_append : (xs : List ℕ) (y : ℕ) (ys : List ℕ) → IsFull (xs ++ y ∷ ys)
full_append [] y ys = tt
full_append (x ∷ xs) y ys = tt

full_joined : (c : ℕ) (f : List ℕ) (fs : List (List ℕ)) → IsFull f → join_with c (f ∷ fs) ≡ [] → ⊥
full_joined c (x ∷ xs) [] h e = cc
full_joined c (x ∷ xs) (f ∷ fs) h e = cc
full_joined c [] fs h e = absurd h

map_injective : {X : Type 0} (text : X → List ℕ) → ((x y : X) → text x ≡ text y → x ≡ y) → (xs ys : List X) → map text xs ≡ map text ys →
    xs ≡ ys
map_injective text i [] [] e = refl
map_injective text i [] (y ∷ ys) e = cc
map_injective text i (x ∷ xs) [] e = cc
map_injective text i (x ∷ xs) (y ∷ ys) e =
    let first : text x ≡ text y = cc in
    let rest : map text xs ≡ map text ys = cc in
    let same_first = i x y first in
    let same_rest = map_injective text i xs ys rest in
    λ j. same_first j ∷ same_rest j

map_lack : {X : Type 0} (c : ℕ) (text : X → List ℕ) → ((x : X) → Lacks c (text x)) → (xs : List X) → AllLack c (map text xs)
map_lack c text h [] = tt
map_lack c text h (x ∷ xs) = (h x, map_lack c text h xs)

-- the text of each item lacks the separator, isn't empty and determines the item
pub record IsItemText {X : Type 0} (c : ℕ) (text : X → List ℕ) : Type 0 where
  pub lacks : (x : X) → Lacks c (text x)
  pub full : (x : X) → IsFull (text x)
  pub determines : (x y : X) → text x ≡ text y → x ≡ y

-- Two lists of items are equal if their texts are joined to one text.
pub items_injective : {X : Type 0} (c : ℕ) (text : X → List ℕ) → IsItemText c text → (xs ys : List X) →
    join_with c (map text xs) ≡ join_with c (map text ys) → xs ≡ ys
items_injective c text is [] [] e = refl
items_injective c text is [] (y ∷ ys) e = absurd (full_joined c (text y) (map text ys) (is.full y) (sym e))
items_injective c text is (x ∷ xs) [] e = absurd (full_joined c (text x) (map text xs) (is.full x) e)
items_injective c text is (x ∷ xs) (y ∷ ys) e =
    map_injective text is.determines (x ∷ xs) (y ∷ ys)
    (joined_injective c (text x) (text y) (map text xs) (map text ys) (map_lack c text is.lacks (x ∷ xs))
    (map_lack c text is.lacks (y ∷ ys)) e)

joined_lacks : (c s : ℕ) (fs : List (List ℕ)) → c ≢ s → AllLack s fs → Lacks s (join_with c fs)
joined_lacks c s [] n h = tt
joined_lacks c s (f ∷ []) n h = h.0
joined_lacks c s (f ∷ g ∷ fs) n h = lacks_append s f (c ∷ join_with c (g ∷ fs)) h.0 (n, joined_lacks c s (g ∷ fs) n h.1)

-- Joined texts lack a byte that each of them lacks and that isn't the separator.
pub items_lack : {X : Type 0} (c s : ℕ) (text : X → List ℕ) → c ≢ s → ((x : X) → Lacks s (text x)) → (xs : List X) →
    Lacks s (join_with c (map text xs))
items_lack c s text n h xs = joined_lacks c s (map text xs) n (map_lack s text h xs)
