-- Reads of an extent of a file.
use Rattle.std.proofs.Common.{◌≡◌, inl, inr, ℕ, min, ◌+◌, ◌-◌, ◌<◌, ◌≤◌, nat_lt, false, cond, is_some, List, [], ◌++◌, length}
use Rattle.std.proofs.Common.{take, drop, Option, Some, None, arith, refl, sym, ap, ◌∙◌, append_assoc, length-append}
use Rattle.std.proofs.lemmas.List.{take-append-drop, take-append-le, length-drop, take_all, nil_from_length, drop_min}
use Rattle.std.proofs.lemmas.Bool.{false≢true}
use Rattle.std.proofs.lemmas.Bool.Decides.{nat_tests}
use Rattle.std.proofs.CharBoundary.{drop_past_prefix}
use Rattle.osm_files.specs.Input.{InputRest, with_front, whole_input, Gave, GivesOne}
use Rattle.osm_files.specs.ReadAt.{AreAt, AreLast}
use Rattle.osm_files.specs.Extent.{ExtentCanGive, framed, read_fault_if}
use Rattle.osm_files.proofs.FailureLaws.{unfailed_long}

-- ---- bytes at offsets
nothing_at : (known : Option (List ℕ)) (next : ℕ) → AreAt known next []
nothing_at None next = tt
nothing_at (Some all) next = (drop next all, refl)

-- Bytes of a file, and the bytes after them.
pub joined_at : (known : Option (List ℕ)) (next : ℕ) (front more : List ℕ) → AreAt known next front
    → AreAt known (next + length front) more → AreAt known next (front ++ more)
joined_at None next front more at then_at = tt
joined_at (Some all) next front more at then_at = (
  then_at.0,
  at.1 ∙ ap (λ xs. front ++ xs) (sym (drop_past_prefix all front at.0 next at.1) ∙ then_at.1) ∙ sym (append_assoc front more then_at.0),
)

joined_last : (known : Option (List ℕ)) (next : ℕ) (front more : List ℕ) → AreAt known next front
    → AreLast known (next + length front) more → AreLast known next (front ++ more)
joined_last None next front more at last = tt
joined_last (Some all) next front more at last =
    at.1 ∙ ap (λ xs. front ++ xs) (sym (drop_past_prefix all front at.0 next at.1) ∙ last)

-- ---- slices
-- the bytes of a slice at an offset
pub slice_at : (all came after : List ℕ) (offset start count : ℕ) → start ≡ min offset (length all)
    → came ≡ take count (take (length all - start) (drop start all)) → length came ≡ count
    → AreAt (Some all) offset (take count (came ++ after))
slice_at all came after offset start count is copied size =
    let whole : take (length all - start) (drop start all) ≡ drop start all =
    take_all (length all - start) (drop start all) (omega (arith, length-drop start all)) in
    let capped : drop offset all ≡ drop start all = sym (drop_min offset all) ∙ ap (λ n. drop n all) (sym is) in
    let front : take count (came ++ after) ≡ take count (drop start all) =
    take-append-le count came after (omega (arith, size)) ∙ take_all count came (omega (arith, size)) ∙ copied ∙ ap (take count) whole in (
      drop count (drop start all),
      capped ∙ sym (take-append-drop count (drop start all)) ∙ ap (λ xs. xs ++ drop count (drop start all)) (sym front),
    )

-- ---- reads
module _ (Fails : Type 0) (known : Option (List ℕ)) (next end : ℕ) where
  fewer : (front : List ℕ) (c : InputRest) → length front ≤ end - next
      → nat_lt (length c.bytes) (end - (next + length front)) ≡ nat_lt (length (front ++ c.bytes)) (end - next)
  fewer front c within = grind (arith, length-append {A = ℕ})

  -- An extent that gave `front` and can give `later` could give both.
  pub gave_extent : (front : List ℕ) (later : InputRest) → length front ≤ end - next → AreAt known next front
      → ExtentCanGive Fails known (next + length front) end later → ExtentCanGive Fails known next end (with_front front later)
  gave_extent front later within at gives = record {
    within = omega (arith, within, gives.within, length-append front later.bytes);
    failure = gives.failure ∙ ap read_fault_if (fewer front later within);
    bytes = joined_at known next front later.bytes at gives.bytes;
    why = λ few. elim (gives.why (omega (arith, within, few, length-append front later.bytes))) [
      | inl fails ↦ inl fails
      | inr last ↦ inr (joined_last known next front later.bytes at last)
    ];
  }

  -- an extent whose bytes were all read gives nothing more
  pub nothing_left : (c : InputRest) → end ≤ next → ExtentCanGive Fails known next end c → c ≡ whole_input []
  nothing_left c read gives =
      let none : c.bytes ≡ [] = nil_from_length c.bytes (omega (arith, gives.within, read)) in
      let read_all : nat_lt (length c.bytes) (end - next) ≡ false = grind (arith, nat_tests) in
      let unbroken : c.failure ≡ None = gives.failure ∙ ap read_fault_if read_all in
      λ i. record { bytes = none i; failure = unbroken i }

  pub gives_nothing : end ≤ next → ExtentCanGive Fails known next end (whole_input [])
  gives_nothing read = record {
    within = omega arith;
    failure = ap read_fault_if (let read_all : false ≡ nat_lt (length {A = ℕ} []) (end - next) = grind (arith, nat_tests) in read_all);
    bytes = nothing_at known next;
    why = λ few. absurd (omega (arith, few, read));
  }

  -- an extent some bytes of which weren't read doesn't end
  pub not_ended : next < end → ExtentCanGive Fails known next end (whole_input []) → ⊥
  not_ended unread gives =
      false≢true (sym (unfailed_long (nat_lt 0 (end - next)) (sym gives.failure)) ∙ grind (arith, nat_tests))

-- ---- extents between bytes before them and bytes after them
module _ (before after : List ℕ) where
  -- bytes before an extent were read
  pub framed_front : (front rest : List ℕ) (c : InputRest) → before ≡ front ++ rest
      → framed before after c ≡ with_front front (framed rest after c)
  framed_front front rest c is =
      let tail : List ℕ = c.bytes ++ cond (is_some c.failure) [] after in
      λ i. record { bytes = (ap (λ xs. xs ++ tail) is ∙ append_assoc front rest tail) i; failure = c.failure }

-- bytes of an extent were read
pub framed_extent : (after front : List ℕ) (c : InputRest) → framed [] after (with_front front c) ≡ with_front front (framed [] after c)
framed_extent after front c =
    λ i. record { bytes = append_assoc front c.bytes (cond (is_some c.failure) [] after) i; failure = c.failure }

-- bytes that come from a slice
from_slice : (bytes front rest : List ℕ) → Gave {R = List ℕ} (λ xs c. c ≡ whole_input xs) bytes rest front → bytes ≡ front ++ rest
from_slice bytes front rest gave = let y = gave (whole_input rest) refl in ap (λ c. c.bytes) (sym y.1 ∙ y.2)

-- A read of the bytes before an extent, where `gives` is what the extent can give.
pub before_read : (gives : InputRest → Type 0) (before after front rest : List ℕ)
    → Gave {R = List ℕ} (λ xs c. c ≡ whole_input xs) before rest front
    → (later : InputRest) → GivesOne gives (λ given. later ≡ framed rest after given)
    → (earlier : InputRest) × GivesOne gives (λ given. earlier ≡ framed before after given) × (earlier ≡ with_front front later)
before_read gives before after front rest gave later (given, can, is) = (
  framed before after given,
  (given, can, refl),
  framed_front before after front rest given (from_slice before front rest gave) ∙ ap (with_front front) (sym is),
)

module _ (Fails : Type 0) (known : Option (List ℕ)) (next end : ℕ) (read : end ≤ next) (before : List ℕ) (none : before ≡ []) where
  -- A read of the bytes after an extent whose bytes were all read.
  pub after_read : (after front rest : List ℕ) → Gave {R = List ℕ} (λ xs c. c ≡ whole_input xs) after rest front
      → (later : InputRest) → GivesOne (ExtentCanGive Fails known next end) (λ given. later ≡ framed before rest given)
      → (earlier : InputRest) × GivesOne (ExtentCanGive Fails known next end) (λ given. earlier ≡ framed before after given)
      × (earlier ≡ with_front front later)
  after_read after front rest gave later (given, can, is) =
      let nothing : given ≡ whole_input [] = nothing_left Fails known next end given read can in (
        framed before after (whole_input []),
        (whole_input [], gives_nothing Fails known next end read, refl),
        (λ i. framed (none i) after (whole_input [])) ∙ ap whole_input (from_slice after front rest gave)
            ∙ ap (with_front front) (sym (is ∙ (λ i. framed (none i) rest (nothing i)))),
      )

  pub after_ended : (after : List ℕ) → whole_input [] ≡ whole_input after
      → GivesOne (ExtentCanGive Fails known next end) (λ given. whole_input [] ≡ framed before after given)
  after_ended after is = (whole_input [], gives_nothing Fails known next end read, is ∙ (λ i. framed (sym none i) after (whole_input [])))
