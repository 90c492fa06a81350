-- The keys of data sets are those of the versions that the data sets spell.
use Rattle.std.proofs.Common.{◌≡◌, ℕ, ℤ, min, suc, ◌+◌, ◌-◌, ◌≤◌, true, List, ◌∷◌, ◌++◌, length, take, drop, Some}
use Rattle.std.proofs.Common.{None, Ok, refl, sym, ap, ◌∙◌, subst, arith, append_assoc, length-append, length-take}
use Rattle.std.proofs.Math.Seq.{take-append-add}
use Rattle.std.proofs.lemmas.List.{take-append-drop, take-append-le, take-take}
use Rattle.osm_model.specs.declared.kind.Kind.{Kind}
use Rattle.o5_codec.specs.Number.{SpellsNumber, unsigned_of, number_at}
use Rattle.o5_codec.specs.Spelling.{NumberAtFront}
use Rattle.o5_codec.proofs.NumberLaws.{number_found}
use Rattle.osm_files.specs.FirstFault.{IsSetType}
use Rattle.osm_files.specs.O5.{kind_of_type, is_lone, Lone, Skipped, Object}
use Rattle.osm_files.specs.SetKey.{BeginsWithKey, IsPartOf}
use Rattle.osm_files.proofs.PartLaws.{byte_of}

-- ---- more bytes after the key
more_number : (bytes more : List ℕ) (x : ℕ × List ℕ) → NumberAtFront bytes x → NumberAtFront (bytes ++ more) (x.0, x.1 ++ more)
more_number bytes more x (front, spelled, is) = (front, spelled, ap (λ b. b ++ more) is ∙ append_assoc front x.1 more)

begins_more : (base : ℤ) (content more : List ℕ) (id : ℤ) (number : ℕ) → BeginsWithKey base content id number
    → BeginsWithKey base (content ++ more) id number
begins_more base content more id number (difference, after, rest, signed, moved, numbered) = (
  difference,
  after ++ more,
  rest ++ more,
  more_number content more (unsigned_of difference, after) signed,
  moved,
  more_number after more (number, rest) numbered,
)

-- ---- the data set at the front of some bytes
module _ (b : ℕ) (bytes content rest : List ℕ) (n size : ℕ) (read : number_at bytes ≡ Ok (n, content))
    (is : size ≡ 1 + (length bytes - length content) + n) (within : size ≤ length (b ∷ (bytes ++ rest))) where
  abbrev whole : List ℕ
  whole = take n (content ++ rest)

  -- a length, and content of that length
  record FrontSet : Type 0 where
    front : List ℕ
    spelled : SpellsNumber front (length whole)
    split : take size (b ∷ (bytes ++ rest)) ≡ b ∷ front ++ whole

  front_set : FrontSet
  front_set =
      let found = number_found bytes (n, content) read in
      let all : bytes ++ rest ≡ found.0 ++ (content ++ rest) = ap (λ xs. xs ++ rest) found.2 ∙ append_assoc found.0 content rest in
      let same : size ≡ suc (length found.0 + n) = omega (arith, is, ap length found.2, length-append found.0 content) in
      let long : length whole ≡ n =
      omega (arith, within, same, ap length all, length-append found.0 (content ++ rest), length-take n (content ++ rest)) in
      record {
        front = found.0;
        spelled = subst (SpellsNumber found.0) (sym long) found.1;
        split = (λ i. take (same i) (b ∷ all i)) ∙ ap (λ xs. b ∷ xs) (take-append-add found.0 (content ++ rest) n);
      }

  -- A data set that is skipped.
  pub skipped_read : (base : ℤ) → IsSetType b → kind_of_type b ≡ None
      → IsPartOf base (record { size = size; key = None; base = base }) (take size (b ∷ (bytes ++ rest)))
  skipped_read base type none =
      let set = front_set in
      (Skipped b set.front whole, set.split, ((type.0, type.1, type.2, none), set.spelled, refl, refl))

  -- An object's data set, if its content begins with a key.
  pub object_read : (k : Kind) (base id : ℤ) (number count : ℕ) → kind_of_type b ≡ Some k → count ≡ min (length content) n
      → BeginsWithKey base (take count content) id number
      → IsPartOf base (record { size = size; key = Some (record { object = record { kind = k; id = id }; number = number }); base = id })
      (take size (b ∷ (bytes ++ rest)))
  object_read k base id number count type few begins =
      let set = front_set in
      let front : take count whole ≡ take count content =
      take-take count n (content ++ rest) (omega (arith, few)) ∙ take-append-le count content rest (omega (arith, few)) in
      let all : take count content ++ drop count whole ≡ whole =
      ap (λ xs. xs ++ drop count whole) (sym front) ∙ take-append-drop count whole in (
        Object k set.front whole,
        set.split ∙ ap (λ t. t ∷ set.front ++ whole) (byte_of k b type),
        (
          set.spelled,
          (
            number,
            subst (λ xs. BeginsWithKey base xs id number) all
                (begins_more base (take count content) (drop count whole) id number begins),
            refl,
          ),
        ),
      )

-- A lone byte.
pub lone_read : (base : ℤ) (b : ℕ) (rest : List ℕ) → is_lone b ≡ true
    → IsPartOf base (record { size = 1; key = None; base = base }) (take 1 (b ∷ rest))
lone_read base b rest lone = (Lone b, refl, (lone, refl, refl))
