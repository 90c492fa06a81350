-- Recorded reads that are replayed.
use Rattle.std.proofs.Common.{◌≡◌, ℕ, zero, suc, ◌+◌, ◌-◌, ◌<◌, List, [], ◌∷◌, ◌++◌, length, take, drop, get_or, arith, sym, ap}
use Rattle.std.proofs.Common.{◌∙◌}
use Rattle.std.proofs.Common.{Ok, Err, append_assoc, length-append}
use Rattle.std.proofs.lemmas.List.{take_all, length-drop, drop-append-le, append-nil}
use Rattle.std.proofs.Math.Seq.{drop-append-add}
use Rattle.std.specs.Borrow.{Bor}
use Rattle.osm_files.specs.declared.input.Broken.{Broken}
use Rattle.osm_files.specs.Recorded.{ReadResult, all_bytes, HasFailure}

-- the rest of a result from an offset on isn't empty, and is at the front of the bytes
abbrev pub IsAtFront : List ℕ → ℕ → List ℕ → Type 0
IsAtFront bytes offset all = (more : List ℕ) × (all ≡ take (length bytes - offset) (drop offset bytes) ++ more)
    × (take (length bytes - offset) (drop offset bytes) ≡ [] → ⊥)

-- the bytes at an offset of the first part and those after it
pub found_in : (offset : ℕ) (first more : List ℕ) → offset < length first → IsAtFront first offset (drop offset (first ++ more))
found_in offset first more within =
    let all : take (length first - offset) (drop offset first) ≡ drop offset first =
    take_all (length first - offset) (drop offset first) (omega (arith, length-drop offset first)) in (
      more,
      drop-append-le offset first more (omega (arith, within)) ∙ ap (λ xs. xs ++ more) (sym all),
      λ none. (let empty = ap length (sym all ∙ none) in omega (arith, empty, within, length-drop offset first)),
    )

-- the bytes of the results up to one that gave bytes, those bytes, and others
pub parted : (results : List ReadResult) (index : ℕ) (default : ReadResult) (bytes : Bor (List ℕ)) → index < length results →
    get_or results index default ≡ Ok bytes →
    (more : List ℕ) × (all_bytes results ≡ all_bytes (take index results) ++ (bytes.now ++ more))
parted [] index default bytes within is = absurd (omega (arith, within))
parted (r ∷ results) zero default bytes within is = (all_bytes results, ap (λ (x : ReadResult). all_bytes (x ∷ results)) is)
parted (Ok b ∷ results) (suc index) default bytes within is =
    let on = parted results index default bytes (omega (arith, within)) is in
    (on.0, ap (λ xs. b.now ++ xs) on.1 ∙ sym (append_assoc b.now (all_bytes (take index results)) (bytes.now ++ on.0)))
parted (Err broken ∷ results) (suc index) default bytes within is = parted results index default bytes (omega (arith, within)) is

-- one of the results is a failure
pub failed_at : (results : List ReadResult) (index : ℕ) (default : ReadResult) (broken : Broken) → index < length results →
    get_or results index default ≡ Err broken → HasFailure results
failed_at [] index default broken within is = absurd (omega (arith, within))
failed_at (Ok b ∷ results) zero default broken within is = absurd (let e : Ok b ≡ Err broken = is in cc)
failed_at (Err other ∷ results) zero default broken within is = tt
failed_at (Ok b ∷ results) (suc index) default broken within is = failed_at results index default broken (omega (arith, within)) is
failed_at (Err other ∷ results) (suc index) default broken within is = tt

-- the bytes of one more result
pub one_more : (results : List ReadResult) (index : ℕ) (default : ReadResult) (bytes : Bor (List ℕ)) → index < length results →
    get_or results index default ≡ Ok bytes → all_bytes (take (suc index) results) ≡ all_bytes (take index results) ++ bytes.now
one_more [] index default bytes within is = absurd (omega (arith, within))
one_more (r ∷ results) zero default bytes within is =
    ap (λ (x : ReadResult). all_bytes (x ∷ [])) is ∙ append-nil bytes.now
one_more (Ok b ∷ results) (suc index) default bytes within is =
    ap (λ xs. b.now ++ xs) (one_more results index default bytes (omega (arith, within)) is)
    ∙ sym (append_assoc b.now (all_bytes (take index results)) bytes.now)
one_more (Err broken ∷ results) (suc index) default bytes within is = one_more results index default bytes (omega (arith, within)) is

-- a failure adds no bytes
pub none_more : (results : List ReadResult) (index : ℕ) (default : ReadResult) (broken : Broken) → index < length results →
    get_or results index default ≡ Err broken → all_bytes (take (suc index) results) ≡ all_bytes (take index results)
none_more [] index default broken within is = absurd (omega (arith, within))
none_more (r ∷ results) zero default broken within is = ap (λ (x : ReadResult). all_bytes (x ∷ [])) is
none_more (Ok b ∷ results) (suc index) default broken within is =
    ap (λ xs. b.now ++ xs) (none_more results index default broken (omega (arith, within)) is)
none_more (Err other ∷ results) (suc index) default broken within is = none_more results index default broken (omega (arith, within)) is

-- the bytes at an offset of a result, which comes after others
pub found_later : (offset left index : ℕ) (front : List ℕ) (results : List ReadResult) (default : ReadResult) (bytes : Bor (List ℕ)) →
    index < length results → get_or results index default ≡ Ok bytes →
    left + (length front + length (all_bytes (take index results))) ≡ offset → left < length bytes.now →
    IsAtFront bytes.now left (drop offset (front ++ all_bytes results))
found_later offset left index front results default bytes within is at some =
    let before : List ℕ = all_bytes (take index results) in
    let split = parted results index default bytes within is in
    let far : offset ≡ length (front ++ before) + left = omega (arith, at, length-append front before) in
    let whole : front ++ all_bytes results ≡ (front ++ before) ++ (bytes.now ++ split.0) =
    ap (λ xs. front ++ xs) split.1 ∙ sym (append_assoc front before (bytes.now ++ split.0)) in
    let here : drop offset (front ++ all_bytes results) ≡ drop left (bytes.now ++ split.0) =
    (λ i. drop (far i) (whole i)) ∙ drop-append-add (front ++ before) (bytes.now ++ split.0) left in
    let found = found_in left bytes.now split.0 some in
    (found.0, here ∙ found.1, found.2)
