-- Lists, read item by item.
use Rattle.std.proofs.Common.{◌≡◌, ℕ, List, [], ◌∷◌, ◌++◌, Result, Ok, Err, refl, sym, ap, ◌∙◌, append_assoc, append-nil, Option, Some}
use Rattle.std.proofs.Common.{None, is_some, true}
use Rattle.opl_line.specs.declared.bytes.cut.Delimiter.TheVariants.{Equals}
use Rattle.opl_line.specs.declared.reason.OplReason.{OplReason}
use Rattle.opl_line.specs.declared.reason.OplReason.TheVariants.{BadList}
use Rattle.opl_line.specs.Results.{and_then, as_value}
use Rattle.opl_line.specs.Delimiter.{is_end, pieces_of}
use Rattle.opl_line.specs.Item.{reading_items, tag_of_pieces}
use Rattle.opl_line.proofs.CutLaws.{cut_split}

module _ {X : Type 0} (reading : List ℕ → Result X OplReason) where
  -- the items `done`, and then the items of the remaining pieces
  abbrev pub reading_on : List X → List (List ℕ) → Result (List X) OplReason
  reading_on done pieces = as_value (λ xs. done ++ xs) (reading_items reading pieces)

  after_one : (done : List X) (x : X) (rest : Result (List X) OplReason) →
      as_value (λ xs. done ++ xs) (as_value (λ xs. x ∷ xs) rest) ≡ as_value (λ xs. (done ++ x ∷ []) ++ xs) rest
  after_one done x (Ok xs) = ap (λ ys. Ok ys) (sym (append_assoc done (x ∷ []) xs))
  after_one done x (Err reason) = refl

  -- The items are read by reading the first and then the others.
  pub one_item : (done : List X) (x : X) (piece : List ℕ) (pieces more : List (List ℕ)) → pieces ≡ piece ∷ more → reading piece ≡ Ok x →
      reading_on done pieces ≡ reading_on (done ++ x ∷ []) more
  unfolding reading_items
  one_item done x piece pieces more e read =
      ap (reading_on done) e
      ∙ ap (λ r. as_value (λ xs. done ++ xs) (and_then r (λ y. as_value (λ xs. y ∷ xs) (reading_items reading more)))) read
      ∙ after_one done x (reading_items reading more)

  -- The items are refused if the first one is.
  pub refused_item : (done : List X) (reason : OplReason) (piece : List ℕ) (pieces more : List (List ℕ)) → pieces ≡ piece ∷ more →
      reading piece ≡ Err reason → reading_on done pieces ≡ Err reason
  unfolding reading_items
  refused_item done reason piece pieces more e refused =
      ap (reading_on done) e ∙ ap (λ r. as_value (λ xs. done ++ xs)
      (and_then r (λ y. as_value (λ xs. y ∷ xs) (reading_items reading more)))) refused

  -- Without pieces no item is added.
  pub all_items : (done : List X) (pieces : List (List ℕ)) → pieces ≡ [] → reading_on done pieces ≡ Ok done
  unfolding reading_items
  all_items done pieces e = ap (reading_on done) e ∙ ap (λ xs. Ok xs) (append-nil done)

-- a text with a second equals sign is no tag
pub second_equals : (key value : List ℕ) (pieces more : List (List ℕ)) (after : Option (List ℕ)) → pieces ≡ key ∷ more →
    more ≡ value ∷ pieces_of (is_end Equals) after → is_some after ≡ true → tag_of_pieces pieces ≡ Err BadList
second_equals key value pieces more None e f some = cc
second_equals key value pieces more (Some bytes) e f some =
    ap tag_of_pieces (e ∙ ap (λ ps. key ∷ ps) f) ∙ ap (λ ps. tag_of_pieces (key ∷ value ∷ ps)) (cut_split (is_end Equals) bytes)
