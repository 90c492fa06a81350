-- The form of an entry, the bytes of both strings together, and the end of the first string determine the entry.
use Rattle.std.proofs.Common.{◌≡◌, ℕ, ◌++◌, true, false, ◌&&◌, List, take, drop, ap, sym, ◌∙◌, inl, inr}
use Rattle.std.proofs.lemmas.List.{take-append-drop}
use Rattle.std.proofs.lemmas.Bool.{cases_Bool}
use Rattle.std.specs.Str.{bytes_eq}
use Rattle.std.specs.Cmp.Lexicographic.{bytes_decides}
use Rattle.std.specs.Cmp.{both_ways}
use Rattle.o5_codec.specs.declared.strings.Form.{Form}
use Rattle.o5_codec.specs.Formed.{FormedEntry, formed_entry, same_form, same_entry}
use Rattle.o5_codec.specs.SameEntry.{same_entry_decides}

-- the entry whose two strings are together `bytes`, and whose first string ends at `split`
abbrev pub cut : Form → ℕ → List ℕ → FormedEntry
cut form split bytes = formed_entry form (take split bytes) (drop split bytes)

whole : (f g : Form) (i j : ℕ) (xs ys : List ℕ) → cut f i xs ≡ cut g j ys → xs ≡ ys
whole f g i j xs ys e =
    sym (take-append-drop i xs) ∙ ap (λ z. z.strings.first ++ z.strings.second) e ∙ take-append-drop j ys

both_equal : (f g : Form) (i : ℕ) (xs ys : List ℕ) → same_form f g ≡ true → xs ≡ ys → same_entry (cut f i xs) (cut g i ys) ≡ true
both_equal f g i xs ys form e =
    let first : bytes_eq (take i xs) (take i ys) ≡ true = (bytes_decides (take i xs) (take i ys)).1 (ap (take i) e) in
    let second : bytes_eq (drop i xs) (drop i ys) ≡ true = (bytes_decides (drop i xs) (drop i ys)).1 (ap (drop i) e) in
    λ k. form k && (first k && second k)

-- entries with the same form and split are the same exactly if their bytes are equal
pub same_bytes : (f g : Form) (i j : ℕ) (xs ys : List ℕ) → i ≡ j → same_form f g ≡ true →
    bytes_eq xs ys ≡ same_entry (cut f i xs) (cut g j ys)
same_bytes f g i j xs ys place form =
    both_ways (bytes_eq xs ys) (same_entry (cut f i xs) (cut g i ys))
    (λ e. both_equal f g i xs ys form ((bytes_decides xs ys).0 e))
    (λ e. (bytes_decides xs ys).1 (whole f g i i xs ys ((same_entry_decides (cut f i xs) (cut g i ys)).0 e)))
    ∙ ap (λ k. same_entry (cut f i xs) (cut g k ys)) place

-- entries whose bytes differ by some measure are not the same
pub differ_by : (measure : List ℕ → ℕ) (f g : Form) (i j : ℕ) (xs ys : List ℕ) → (measure xs ≡ measure ys → ⊥) →
    false ≡ same_entry (cut f i xs) (cut g j ys)
differ_by measure f g i j xs ys differ = elim (cases_Bool (same_entry (cut f i xs) (cut g j ys))) [
  | inl same ↦ absurd (differ (ap measure (whole f g i j xs ys ((same_entry_decides (cut f i xs) (cut g j ys)).0 same))))
  | inr other ↦ sym other
]
