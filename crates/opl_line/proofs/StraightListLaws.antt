-- The items of a list, in sequence.
use Rattle.std.proofs.Common.{◌≡◌, ℕ, List, [], ◌∷◌, ◌++◌, refl, sym, ap, ◌∙◌, append_assoc}
use Rattle.std.specs.List.{flat_map}
use Rattle.osm_model.specs.Line.{list_text}

-- items, each before a comma
abbrev pub with_commas : {X : Type 0} → (X → List ℕ) → List X → List ℕ
with_commas text xs = flat_map (λ x. text x ++ 44 ∷ []) xs

-- The text of a list with one item more is the text of the items, each with a comma, and that item.
pub list_ends : {X : Type 0} (text : X → List ℕ) (xs : List X) (x : X) → list_text text (xs ++ x ∷ []) ≡ with_commas text xs ++ text x
list_ends text [] x = refl
list_ends text (y ∷ []) x = sym (append_assoc (text y ++ 44 ∷ []) [] (text x) ∙ append_assoc (text y) (44 ∷ []) (text x))
list_ends text (y ∷ z ∷ zs) x =
    ap (λ t. text y ++ 44 ∷ t) (list_ends text (z ∷ zs) x)
    ∙ sym (append_assoc (text y ++ 44 ∷ []) (with_commas text (z ∷ zs)) (text x) ∙ append_assoc (text y) (44 ∷ []) _)
