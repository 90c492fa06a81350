-- What an output holds that collects bytes for another one.
use Rattle.std.proofs.Common.{◌≡◌, ℕ, ◌+◌, ◌-◌, ◌≤◌, List, [], ◌++◌, length, take, drop, refl, sym, ap, ◌∙◌, subst, arith}
use Rattle.std.proofs.Common.{append-nil, append_assoc, min, length-drop, ⊎_elim}
use Rattle.std.proofs.lemmas.Bool.{cases_lt}
use Rattle.std.proofs.Math.Seq.{take-append-add}
use Rattle.std.proofs.lemmas.List.{take-append-le, take_all, drop-take}
use Rattle.osm_files.specs.CutBack.{HasLength, HoldsBefore, IsCutBack}
use Rattle.osm_files.specs.Output.{Content, IsAppended}

-- two changes in sequence, of which the first appended nothing
pub after_nothing : (before now after : Content) (bytes : List ℕ) → IsAppended before now [] → IsAppended now after bytes
    → IsAppended before after bytes
after_nothing before now after bytes first second held h =
    subst after (ap (λ xs. xs ++ bytes) (append-nil held)) (second (held ++ []) (first held h))

-- The output took bytes, and none are collected.
pub passed_on : (before after : Content) (rest bytes : List ℕ) → rest ≡ [] → IsAppended before after bytes
    → IsAppended (HoldsBefore before rest) (HoldsBefore after rest) bytes
passed_on before after rest bytes none appended held (front, h, is) = (
  front ++ bytes,
  appended front h,
  ap (λ xs. xs ++ bytes) (is ∙ ap (λ xs. front ++ xs) none ∙ append-nil front) ∙ sym (append-nil (front ++ bytes))
      ∙ ap (λ xs. (front ++ bytes) ++ xs) (sym none),
)

-- The output took the first of the bytes that are collected.
pub handed_over : (before after : Content) (rest left bytes : List ℕ) → rest ≡ bytes ++ left → IsAppended before after bytes
    → IsAppended (HoldsBefore before rest) (HoldsBefore after left) []
handed_over before after rest left bytes same appended held (front, h, is) = (
  front ++ bytes,
  appended front h,
  append-nil held ∙ is ∙ ap (λ xs. front ++ xs) same ∙ sym (append_assoc front bytes left),
)

-- The output took nothing.
pub kept_back : (before after : Content) (rest : List ℕ) → IsAppended before after []
    → IsAppended (HoldsBefore before rest) (HoldsBefore after rest) []
kept_back before after rest appended = handed_over before after rest rest [] refl appended

-- No bytes are collected in place of none.
pub all_over : (holds before : Content) (rest left : List ℕ) → rest ≡ left → IsAppended before (HoldsBefore holds rest) []
    → IsAppended before (HoldsBefore holds left) []
all_over holds before rest left same = subst (λ xs. IsAppended before (HoldsBefore holds xs) []) same

take_some : (n m : ℕ) (xs : List ℕ) → m ≡ min (length xs) n → take m xs ≡ take n xs
take_some n m xs is =
    ⊎_elim
    (λ low. (let same : m ≡ n = omega (arith, is, low) in ap (λ k. take k xs) same))
    (λ high. take_all m xs (omega (arith, is, high)) ∙ sym (take_all n xs (omega (arith, high))))
    (cases_lt n (length xs))

-- the bytes that are left of those that are collected
cut_to : (holds : Content) (rest left : List ℕ) (front_length count : ℕ) → HasLength holds front_length
    → front_length ≤ count → left ≡ take (count - front_length) rest
    → IsCutBack (HoldsBefore holds rest) (HoldsBefore holds left) count
cut_to holds rest left front_length count long within is held (front, h, same) =
    let size : count ≡ length front + (count - front_length) = omega (arith, long front h, within) in (
      front,
      h,
      (λ i. take (size i) (same i)) ∙ take-append-add front rest (count - front_length) ∙ ap (λ xs. front ++ xs) (sym is),
    )

-- The last of the bytes that are collected were dropped.
pub cut_collected : (holds : Content) (items : List ℕ) (taken kept front_length count : ℕ) → HasLength holds front_length
    → front_length ≤ count → taken ≤ length items → kept ≡ min (length items - taken) (count - front_length)
    → IsCutBack (HoldsBefore holds (drop taken items)) (HoldsBefore holds (drop taken (take (taken + kept) items))) count
cut_collected holds items taken kept front_length count long within below is =
    cut_to holds (drop taken items) (drop taken (take (taken + kept) items)) front_length count long within
    (drop-take taken kept items
    ∙ take_some (count - front_length) kept (drop taken items) (omega (arith, is, length-drop taken items)))

-- All bytes that are collected were dropped, and the output was cut back.
pub cut_before : (before after : Content) (rest : List ℕ) (front_length count : ℕ) → HasLength before front_length
    → count ≤ front_length → IsCutBack before after count → IsCutBack (HoldsBefore before rest) (HoldsBefore after []) count
cut_before before after rest front_length count long within is held (front, h, same) = (
  take count front,
  is front h,
  ap (take count) same ∙ take-append-le count front rest (omega (arith, long front h, within)) ∙ sym (append-nil (take count front)),
)

-- A cut after a change that appended nothing.
pub cut_after : (before now after : Content) (count : ℕ) → IsAppended before now [] → IsCutBack now after count
    → IsCutBack before after count
cut_after before now after count first is held h =
    subst after (ap (take count) (append-nil held)) (is (held ++ []) (first held h))
