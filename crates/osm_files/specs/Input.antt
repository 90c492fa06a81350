-- The bytes that an input can still give. Rust's `std::io::Read` has the rule that a read of nothing into a buffer that
-- isn't empty means the end of input. The rest is an own rule of this project.
use Rattle.std.proofs.Common.{sym, refl, append-nil, inl}
use Rattle.std.specs.Prelude.{◌≡◌, ◌⊎◌, ℕ, List, [], ◌++◌, length, Option, Some, None}
use Rattle.osm_files.specs.declared.reason.Reason.{Reason}
use Rattle.osm_files.specs.declared.reason.Reason.TheVariants.{ReadFault}

-- the remaining bytes, and the reason for which they are refused at their end; none if the input ends well after them
pub record InputRest : Type 0 where
  pub bytes : List ℕ
  pub failure : Option Reason

-- these bytes and then the end of input
abbrev pub whole_input : List ℕ → InputRest
whole_input bytes = record { bytes = bytes; failure = None }

-- these bytes, which are refused at their end for this reason
abbrev pub failed_after : Reason → List ℕ → InputRest
failed_after reason bytes = record { bytes = bytes; failure = Some reason }

-- these bytes and then an error
abbrev pub broken_input : List ℕ → InputRest
broken_input = failed_after ReadFault

-- these bytes, and then what is still to come
abbrev pub with_front : List ℕ → InputRest → InputRest
with_front front rest = record { bytes = front ++ rest.bytes; failure = rest.failure }

-- the end of input follows the bytes, or an error: a device refuses bytes for no other reason
abbrev pub IsOfDevice : InputRest → Type 0
IsOfDevice c = (c.failure ≡ None) ⊎ (c.failure ≡ Some ReadFault)

-- Each possible state after a call comes from a possible state before it: the step leads from the one to the other.
abbrev pub Explained : {A B : Type 0} → (A → Type 0) → (B → Type 0) → (A → B → Type 0) → Type 0
Explained {A = A} {B = B} before after step = (later : B) → after later →
    (earlier : A) × before earlier × step earlier later

-- an input gave the bytes `front`: for each rest that it can give now, it could give `front` and then that rest before
abbrev pub Gave : {R : Type 0} → (R → InputRest → Type 0) → R → R → List ℕ → Type 0
Gave can before after front = Explained (can before) (can after) (λ earlier later. earlier ≡ with_front front later)

-- the input gave `count` more bytes: `more` is `held` and then these bytes
abbrev pub GaveMore : {R : Type 0} → (R → InputRest → Type 0) → R → R → List ℕ → List ℕ → ℕ → Type 0
GaveMore can before after held more count = (front : List ℕ) × Gave can before after front × (more ≡ held ++ front)
    × (length front ≡ count)

-- A `std::io::Read` with these bytes left can give them all and end, or give a front of them and fail. If the bytes
-- left aren't known, it can give any bytes.
abbrev pub CanGive : Option (List ℕ) → InputRest → Type 0
CanGive None c = IsOfDevice c
CanGive (Some left) c =
    IsOfDevice c × ((rest : List ℕ) × (left ≡ c.bytes ++ rest) × (c.failure ≡ None → rest ≡ []))

-- all bytes left, and then the end of input; no bytes, if those left aren't known
abbrev pub whole_left : Option (List ℕ) → InputRest
whole_left None = whole_input []
whole_left (Some left) = whole_input left

pub can_give_all : (left : Option (List ℕ)) → CanGive left (whole_left left)
can_give_all None = inl refl
can_give_all (Some left) = (inl refl, ([], sym (append-nil left), λ _. refl))

-- an input or a source can give something with this property
abbrev pub GivesOne : {C : Type 0} → (C → Type 0) → (C → Type 0) → Type 0
GivesOne {C = C} can P = (c : C) × can c × P c
