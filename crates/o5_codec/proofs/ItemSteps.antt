-- The loops over lists that extend to the end of some bytes.
use Rattle.std.proofs.Common.{◌≡◌, ℕ, suc, ◌+◌, ◌-◌, ◌<◌, ◌≤◌, ◌⊎◌, inl, inr, List, [], ◌∷◌, ◌++◌, length, refl, ap, sym, subst, ◌∙◌, arith}
use Rattle.std.proofs.Common.{append_assoc, length-append, false, true, eqb, Result, Ok, Err}
use Rattle.std.proofs.lemmas.Bool.Decides.{nat_tests}
use Rattle.std.proofs.lemmas.List.{append-nil}
use Rattle.o5_codec.specs.declared.reason.O5Reason.{O5Reason}
use Rattle.o5_codec.specs.declared.reason.O5Reason.TheVariants.{Memory}
use Rattle.o5_codec.specs.declared.read.segment.Segment.{Segment}
use Rattle.o5_codec.specs.Results.{and_then}
use Rattle.o5_codec.specs.Segment.{ReadStep}
use Rattle.o5_codec.specs.Items.{items_up_to, items_at, and_one_more}

module _ {X : Type 0} where
  -- a reading of items, with the items that were read before it in front
  abbrev pub later : List X → Result (List X × Segment) O5Reason → Result (List X × Segment) O5Reason
  later done (Ok x) = Ok (done ++ x.0, x.1)
  later done (Err reason) = Err reason

  -- the items `done` were read from the front of `bytes`, and the bytes `rest` are left
  pub record HasItems (item_at : Segment → List ℕ → ReadStep X) (start : Segment) (bytes : List ℕ) (done : List X) (s : Segment)
      (rest : List ℕ) : Type 0 where
    pub room : length rest + length done ≤ length bytes
    pub left : (most : ℕ) → most + length done ≡ length bytes → items_at item_at start bytes ≡ later done (items_up_to item_at most s rest)

  after_none : (r : Result (List X × Segment) O5Reason) → later [] r ≡ r
  after_none (Ok x) = refl
  after_none (Err reason) = refl

  after_one : (done : List X) (x : X) (r : Result (List X × Segment) O5Reason) →
      later done (and_then r (λ more. Ok (x ∷ more.0, more.1))) ≡ later (done ++ x ∷ []) r
  after_one done x (Ok more) = ap (λ xs. Ok (xs, more.1)) (sym (append_assoc done (x ∷ []) more.0))
  after_one done x (Err reason) = refl

module _ {X : Type 0} (item_at : Segment → List ℕ → ReadStep X) where
  -- At first no item was read.
  pub items_begin : (s : Segment) (bytes : List ℕ) → HasItems item_at s bytes [] s bytes
  unfolding items_at
  items_begin s bytes = record {
    room = omega arith;
    left = λ most e. (let same : length bytes ≡ most = omega arith in ap (λ n. items_up_to item_at n s bytes) same
        ∙ sym (after_none (items_up_to item_at most s bytes)));
  }

  -- No bytes are read as no items.
  pub items_none : (s : Segment) (bytes : List ℕ) → bytes ≡ [] → items_at item_at s bytes ≡ Ok ([], s)
  unfolding items_at items_up_to
  items_none s bytes none = rw none refl

  -- If no bytes are left, the items that were read are all items.
  pub items_end : (start : Segment) (bytes : List ℕ) (done : List X) (s : Segment) (rest : List ℕ) →
      HasItems item_at start bytes done s rest → rest ≡ [] → items_at item_at start bytes ≡ Ok (done, s)
  unfolding items_up_to
  items_end start bytes done s [] h e =
      h.left (length bytes - length done) (omega (arith, h.room)) ∙ ap (λ xs. Ok (xs, s)) (append-nil done)
  items_end start bytes done s (b ∷ rest) h e = cc

  -- One more item extends the items that were read.
  pub items_more : (start : Segment) (bytes : List ℕ) (done : List X) (s : Segment) (rest : List ℕ) (x : X) (next : Segment)
      (after : List ℕ) →
      HasItems item_at start bytes done s rest → item_at s rest ≡ Ok (x, next, after) → length after < length rest →
      HasItems item_at start bytes (done ++ x ∷ []) next after
  unfolding items_up_to
  items_more start bytes done s [] x next after h is short = absurd (omega arith)
  items_more start bytes done s (b ∷ rest) x next after h is short = record {
    room = omega (arith, h.room, length-append done (x ∷ []));
    left = λ most e. (let lengths : length (done ++ x ∷ []) ≡ length done + 1 = length-append done (x ∷ []) in
        h.left (suc most) (omega arith)
        ∙ ap (λ r. later done (and_then r (λ y. and_then (items_up_to item_at most y.1 y.2) (λ more. Ok (y.0 ∷ more.0, more.1))))) is
        ∙ after_one done x (items_up_to item_at most next after));
  }

  items_refused : (start : Segment) (bytes : List ℕ) (done : List X) (s : Segment) (rest : List ℕ) (reason : O5Reason) →
      HasItems item_at start bytes done s rest → (rest ≡ [] → ⊥) → item_at s rest ≡ Err reason → items_at item_at start bytes ≡ Err reason
  unfolding items_up_to
  items_refused start bytes done s [] reason h some is = absurd (some refl)
  items_refused start bytes done s (b ∷ rest) reason h some is =
      let most : ℕ = length bytes - length done - 1 in
      h.left (suc most) (omega (arith, h.room))
      ∙ ap (λ r. later done (and_then r (λ y. and_then (items_up_to item_at most y.1 y.2) (λ more. Ok (y.0 ∷ more.0, more.1))))) is

  -- If an item can't be read, the list can't be read.
  pub items_fail : (start : Segment) (bytes : List ℕ) (done : List X) (s : Segment) (rest : List ℕ) (reason : O5Reason) →
      HasItems item_at start bytes done s rest → (rest ≡ [] → ⊥) → (reason ≡ Memory) ⊎ (item_at s rest ≡ Err reason) →
      (reason ≡ Memory) ⊎ (items_at item_at start bytes ≡ Err reason)
  items_fail start bytes done s rest reason h some (inl memory) = inl memory
  items_fail start bytes done s rest reason h some (inr is) = inr (items_refused start bytes done s rest reason h some is)

  abbrev payload : {Y : Type 0} → Y → Result Y O5Reason → Y
  payload y (Ok x) = x
  payload y (Err reason) = y

  -- if a list with one more item is read, the item is read
  one_more : (done : List X) (reading : Result (X × Segment × List ℕ) O5Reason) (list : List X) (next : Segment) (after : List ℕ) →
      and_one_more done reading ≡ Ok (list, next, after) → (x : X) × (reading ≡ Ok (x, next, after)) × (done ++ x ∷ [] ≡ list)
  one_more done (Ok x) list next after e =
      let same = ap (payload (done ++ x.0 ∷ [], x.1, x.2)) e in
      (x.0, ap (λ (y : List X × Segment × List ℕ). Ok (x.0, y.1, y.2)) same, ap (λ (y : List X × Segment × List ℕ). y.0) same)
  one_more done (Err reason) list next after e = cc

  no_more : (done : List X) (reading : Result (X × Segment × List ℕ) O5Reason) (reason : O5Reason) →
      and_one_more done reading ≡ Err reason → reading ≡ Err reason
  no_more done (Ok x) reason e = cc
  no_more done (Err r) reason e = cc

  -- An item that is added to a list extends the items that were read.
  pub items_added : (start : Segment) (bytes : List ℕ) (done : List X) (s : Segment) (rest : List ℕ) (list : List X) (next : Segment)
      (after : List ℕ) →
      HasItems item_at start bytes done s rest → and_one_more done (item_at s rest) ≡ Ok (list, next, after) → length after < length rest →
      HasItems item_at start bytes list next after
  items_added start bytes done s rest list next after h is short =
      let one = one_more done (item_at s rest) list next after is in
      subst (λ (xs : List X). HasItems item_at start bytes xs next after) one.2
      (items_more start bytes done s rest one.0 next after h one.1 short)

  -- If an item can't be added, the list can't be read.
  pub items_not_added : (start : Segment) (bytes : List ℕ) (done : List X) (s : Segment) (rest : List ℕ) (reason : O5Reason) →
      HasItems item_at start bytes done s rest → (rest ≡ [] → ⊥) → (reason ≡ Memory) ⊎ (and_one_more done (item_at s rest) ≡ Err reason) →
      (reason ≡ Memory) ⊎ (items_at item_at start bytes ≡ Err reason)
  items_not_added start bytes done s rest reason h some (inl memory) = inl memory
  items_not_added start bytes done s rest reason h some (inr is) =
      inr (items_refused start bytes done s rest reason h some (no_more done (item_at s rest) reason is))

-- A list whose length isn't 0 isn't empty.
pub filled_by_test : {X : Type 0} (xs : List X) → false ≡ eqb (length xs) 0 → xs ≡ [] → ⊥
filled_by_test [] test e = cc
filled_by_test (x ∷ xs) test e = cc

-- A list whose length isn't 0 has an item.
pub some_by_test : {X : Type 0} (xs : List X) → false ≡ eqb (length xs) 0 → 0 < length xs
some_by_test [] test = cc
some_by_test (x ∷ xs) test = omega arith

-- A list whose length is 0 is empty.
pub empty_by_test : {X : Type 0} (xs : List X) → true ≡ eqb (length xs) 0 → xs ≡ []
empty_by_test [] test = refl
empty_by_test (x ∷ xs) test = grind (arith, nat_tests)
