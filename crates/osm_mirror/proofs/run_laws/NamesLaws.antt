-- The names among the texts between the NULs of a list.
use Rattle.std.proofs.Common.{◌≡◌, ◌⊎◌, inl, inr, ℕ, zero, suc, ◌+◌, ◌-◌, ◌<◌, ◌≤◌, Bool, true, false, List, [], ◌∷◌, ◌++◌}
use Rattle.std.proofs.Common.{length, get_or, take, drop, refl, sym, ◌∙◌, ap, arith, add-one, length-take, length-drop, length-append}
use Rattle.std.proofs.lemmas.Bool.{cases_lt}
use Rattle.std.proofs.lemmas.List.{take_all, take-append-drop, get_or-take, drop_all, get_or_push}
use Rattle.std.proofs.lemmas.List.Elements.{All-from_get_or}
use Rattle.std.proofs.Math.Seq.{drop-cons}
use Rattle.std.specs.List.{All}
use Rattle.osm_mirror.specs.run.Names.{AreNames, IsEnded, IsTextsFault}
use Rattle.osm_mirror.specs.declared.run.names.NamesFault.TheVariants.{EmptyName}

-- the texts before the first empty one aren't empty
pub full_before : (texts : List (List ℕ)) (n : ℕ) → n ≤ length texts
    → ((k : ℕ) → k < n → 0 < length (get_or texts k [])) → All (λ name. 0 < length name) (take n texts)
full_before texts n few full =
    All-from_get_or (λ name. 0 < length name) (take n texts) []
    (λ i below. let lt : i < n = omega (arith, length-take n texts) in rw get_or-take (full i lt))

-- texts around the one with an index
around : (texts : List (List ℕ)) (n : ℕ) → n < length texts → get_or texts n [] ≡ []
    → texts ≡ take n texts ++ [] ∷ drop (n + 1) texts
around texts n below empty =
    let there : drop n texts ≡ get_or texts n [] ∷ drop (n + 1) texts = rw add-one (drop-cons texts n [] below) in
    sym (take-append-drop n texts) ∙ ap (λ rest. take n texts ++ rest) (there ∙ ap (λ t. t ∷ drop (n + 1) texts) empty)

-- texts whose last one is empty are ended
pub ended : (texts : List (List ℕ)) → 0 < length texts → get_or texts (length texts - 1) [] ≡ [] → IsEnded texts
ended texts some empty =
    let last : length texts - 1 < length texts = omega arith in
    let none = drop_all (length texts - 1 + 1) texts (omega arith) in (
      take (length texts - 1) texts,
      around texts (length texts - 1) last empty ∙ ap (λ rest. take (length texts - 1) texts ++ [] ∷ rest) none,
    )

-- the last one of texts that are ended is empty
pub last_of_ended : (texts : List (List ℕ)) → IsEnded texts → get_or texts (length texts - 1) [] ≡ []
last_of_ended texts is =
    rw is.1 (get_or_push is.0 [] [] (length (is.0 ++ [] ∷ []) - 1) (omega (arith, length-append is.0 ([] ∷ []))))

-- the name with the index of the first empty text is empty
pub empty_name : (must_end : Bool) (texts : List (List ℕ)) (n : ℕ) → n + 1 < length texts
    → ((k : ℕ) → k < n → 0 < length (get_or texts k [])) → get_or texts n [] ≡ []
    → (must_end ≡ true → get_or texts (length texts - 1) [] ≡ []) → IsTextsFault must_end texts (EmptyName (n + 1))
empty_name must_end texts n more full empty last =
    let below : n < length texts = omega arith in (
      take n texts,
      drop (n + 1) texts,
      around texts n below empty,
      omega (arith, length-take n texts),
      omega (arith, length-drop (n + 1) texts),
      full_before texts n (omega arith) full,
      λ must. ended texts (omega arith) (last must),
    )

-- the names of a list of which only the last text may be empty
all_names : (must_end : Bool) (texts : List (List ℕ)) (n : ℕ) → 0 < length texts → n ≤ length texts → length texts ≤ n + 1
    → ((k : ℕ) → k < n → 0 < length (get_or texts k [])) → (n < length texts → get_or texts n [] ≡ [])
    → (must_end ≡ true → get_or texts (length texts - 1) [] ≡ []) → (n < length texts) ⊎ (length texts ≤ n)
    → (texts ≡ take n texts ++ [] ∷ []) ⊎ ((must_end ≡ false) × (texts ≡ take n texts))
all_names must_end texts n some few most full empty last (inl below) =
    inl (around texts n below (empty below) ∙ ap (λ rest. take n texts ++ [] ∷ rest) (drop_all (n + 1) texts most))
all_names true texts n some few most full empty last (inr all) =
    let none = last refl in
    let there = full (length texts - 1) (omega arith) in
    absurd (omega (arith, rw none at there))
all_names false texts n some few most full empty last (inr all) = inr (refl, sym (take_all n texts all))

-- there is a name before an only text that isn't empty
some_name : (texts : List (List ℕ)) (n : ℕ) → 0 < length texts → length texts ≤ n + 1
    → (n < length texts → get_or texts n [] ≡ []) → (n ≡ 0 → get_or texts (length texts - 1) [] ≡ [] → ⊥)
    → (n < length texts) ⊎ (length texts ≤ n) → 0 < n
some_name texts (suc n) some most empty one which = omega arith
some_name texts zero some most empty one which =
    let only : length texts - 1 ≡ 0 = omega arith in
    absurd (one refl (rw only (empty some)))

-- the texts before the first empty one are the names
pub are_names : (must_end : Bool) (texts : List (List ℕ)) (n : ℕ) → 0 < length texts → n ≤ length texts → length texts ≤ n + 1
    → ((k : ℕ) → k < n → 0 < length (get_or texts k [])) → (n < length texts → get_or texts n [] ≡ [])
    → (must_end ≡ true → get_or texts (length texts - 1) [] ≡ []) → (n ≡ 0 → get_or texts (length texts - 1) [] ≡ [] → ⊥)
    → AreNames must_end texts (take n texts)
are_names must_end texts n some few most full empty last one =
    record {
      some = omega (arith, length-take n texts, some_name texts n some most empty one (cases_lt n (length texts)));
      full = full_before texts n few full;
      all = all_names must_end texts n some few most full empty last (cases_lt n (length texts));
    }
