-- Runs of a file that are opened as inputs.
use Rattle.std.proofs.Common.{◌≡◌, ◌↔◌, ℕ, List, Option, Some, None, IfSome, subst, sym}
use Rattle.osm_files.specs.Input.{InputRest, GivesOne}
use Rattle.osm_files.specs.Extent.{ExtentCanGive, framed}

module _ {F : Type 0} (fails : F → Type 0) (bytes : F → Option (List ℕ)) (c : InputRest) where
  abbrev pub FramedFileCanGive : List ℕ × F × ℕ × ℕ × List ℕ → Type 0
  FramedFileCanGive t = GivesOne (ExtentCanGive (fails t.1) (bytes t.1) t.2 t.3) (λ given. c ≡ framed t.0 t.4 given)

  -- an extent with these fields gives the same as one with equal fields
  pub same_fields : (before b : List ℕ) (file f : F) (next n end e : ℕ) (after a : List ℕ) → before ≡ b → file ≡ f → next ≡ n → end ≡ e
      → after ≡ a → FramedFileCanGive (before, file, next, end, after) ↔ FramedFileCanGive (b, f, n, e, a)
  same_fields before b file f next n end e after a p q r s t =
      let same : (before, file, next, end, after) ≡ (b, f, n, e, a) = λ i. (p i, q i, r i, s i, t i) in
      (λ h. subst FramedFileCanGive same h, λ h. subst FramedFileCanGive (sym same) h)

-- If the bytes of a file are known, they have a property that all bytes have.
pub known_has : (known : Option (List ℕ)) (P : List ℕ → Type 0) → ((all : List ℕ) → P all) → IfSome known P
known_has None P has = tt
known_has (Some all) P has = has all
