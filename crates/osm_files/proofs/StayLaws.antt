-- A whole unit is the same, whatever follows it.
use Rattle.std.proofs.Common.{◌≡◌, ◌⊎◌, inl, inr, ⊎_elim, ℕ, zero, suc, ◌+◌, ◌-◌, ◌≤◌, ◌<◌, ◌==◌, ◌||◌, ◌^◌, Bool, true, false, cond, List}
use Rattle.std.proofs.Common.{[], ◌∷◌, ◌++◌, length, take, refl, sym, ap, ◌∙◌, arith, Option, Some, None, Result, Ok, Err, length-append}
use Rattle.std.proofs.Common.{nat_lt, nat_le}
use Rattle.std.specs.List.{list_any}
use Rattle.std.proofs.lemmas.Bool.{false≢true, ltb-true, ltb-false, leb-true, lt-ltb}
use Rattle.std.proofs.lemmas.Bool.Decides.{nat_tests}
use Rattle.std.proofs.lemmas.List.{take-append-le}
use Rattle.std.proofs.Math.Bool.{or-true}
use Rattle.std.proofs.lemmas.Option.{none-some}
use Rattle.opl_line.specs.Delimiter.{is_line_end, with_byte, split_first}
use Rattle.o5_codec.specs.declared.reason.O5Reason.{O5Reason}
use Rattle.o5_codec.specs.declared.reason.O5Reason.TheVariants.{BadNumber}
use Rattle.o5_codec.specs.declared.read.segment.Segment.{Segment}
use Rattle.o5_codec.specs.Results.{and_then}
use Rattle.o5_codec.specs.Number.{groups_at, number_at, with_low, within_word}
use Rattle.o5_codec.specs.Decoder.{new_segment}
use Rattle.osm_files.specs.declared.reason.Reason.TheVariants.{BadHeader}
use Rattle.osm_files.specs.O5.{end_byte, reset_byte, is_lone, kind_of_type}
use Rattle.osm_files.specs.Units.{FileStateData, InOpl, BeforeHeader, InSegment, PastEnd, FileUnit, unit, no_version, line_unit}
use Rattle.osm_files.specs.Units.{header_unit}
use Rattle.osm_files.specs.Units.{is_header, content_found, is_last, is_ended, length_at, sized_unit, segment_unit, unit_after_end, unit_at}
use Rattle.osm_files.proofs.SizeLaws.{length_found}

abbrev Split : Type 0
Split = List ℕ × Option (List ℕ)

module _ (p : ℕ → Bool) where
  -- the second part of a split decides
  longer_split : (b : ℕ) (s t : Split) (more rest : List ℕ) → ((rest : List ℕ) → s.1 ≡ Some rest → t ≡ (s.0, Some (rest ++ more))) →
      (with_byte b s).1 ≡ Some rest → with_byte b t ≡ ((with_byte b s).0, Some (rest ++ more))
  longer_split b s t more rest on e = ap (with_byte b) (on rest e)

  split_more : (bytes more rest : List ℕ) → (split_first p bytes).1 ≡ Some rest →
      split_first p (bytes ++ more) ≡ ((split_first p bytes).0, Some (rest ++ more))
  split_more [] more rest e = absurd (none-some rest e)
  split_more (b ∷ bytes) more rest f =
      elim (p b) as (λ t. (cond t ([], Some bytes) (with_byte b (split_first p bytes))).1 ≡ Some rest →
      cond t ([], Some (bytes ++ more)) (with_byte b (split_first p (bytes ++ more)))
      ≡ ((cond t ([], Some bytes) (with_byte b (split_first p bytes))).0, Some (rest ++ more))) [
        | true ↦ λ e. let same : bytes ≡ rest = cc in ap (λ x. ([], Some (x ++ more))) same
        | false ↦ λ e. longer_split b (split_first p bytes) (split_first p (bytes ++ more)) more rest (split_more bytes more) e
      ] f

abbrev Stays : (List ℕ → Option FileUnit) → List ℕ → List ℕ → Type 0
Stays unit_of bytes more = (u : FileUnit) → unit_of bytes ≡ Some u → unit_of (bytes ++ more) ≡ Some u

by_split : (s t : Split) (more : List ℕ) (u : FileUnit) → ((rest : List ℕ) → s.1 ≡ Some rest → t ≡ (s.0, Some (rest ++ more))) →
    line_unit s ≡ Some u → line_unit t ≡ Some u
by_split (line, None) t more u on e = absurd (none-some u e)
by_split (line, Some rest) t more u on e = ap line_unit (on rest refl) ∙ e

line_stays : (bytes more : List ℕ) → Stays (λ x. line_unit (split_first is_line_end x)) bytes more
line_stays bytes more u = by_split (split_first is_line_end bytes) (split_first is_line_end (bytes ++ more)) more u
    (split_more is_line_end bytes more)

header_stays : (bytes more : List ℕ) → Stays header_unit bytes more
header_stays bytes more u =
    elim (nat_lt (length bytes) 7) as (λ t. nat_lt (length bytes) 7 ≡ t →
    cond t None (Some (unit 7 (cond (is_header (take 7 bytes)) (no_version (InSegment new_segment)) (Err BadHeader)))) ≡ Some u →
    header_unit (bytes ++ more) ≡ Some u) [
      | true ↦ λ is e. absurd (none-some u e)
      | false ↦ λ is e. (
          let long : 7 ≤ length bytes = ltb-false (length bytes) 7 is in
          let longer : nat_lt (length (bytes ++ more)) 7 ≡ false =
          (let n : 7 ≤ length (bytes ++ more) = omega (arith, long, length-append bytes more) in grind (arith, nat_tests)) in
          let same : take 7 (bytes ++ more) ≡ take 7 bytes = take-append-le 7 bytes more long in
          rw (longer, same) e)
    ] refl

abbrev Number : Type 0
Number = Result (ℕ × List ℕ) O5Reason

-- a number that was read, with more bytes after it
abbrev pub and_more : List ℕ → Number → Number
and_more more (Ok x) = Ok (x.0, x.1 ++ more)
and_more more (Err reason) = Err reason

low_more : (low : ℕ) (more : List ℕ) (x : Number) → with_low low (and_more more x) ≡ and_more more (with_low low x)
low_more low more (Ok x) = refl
low_more low more (Err reason) = refl

word_more : (more : List ℕ) (x : Number) → and_then (and_more more x) within_word ≡ and_more more (and_then x within_word)
word_more more (Err reason) = refl
word_more more (Ok x) =
    elim (nat_lt x.0 (2 ^ 64)) as (λ t. cond t (Ok (x.0, x.1 ++ more)) (Err BadNumber) ≡ and_more more (cond t (Ok x) (Err BadNumber))) [
      | true ↦ refl
      | false ↦ refl
    ]

-- a number that is ended, or has too many bytes, is read in the same way whatever follows
after_first : (b : ℕ) (bytes : List ℕ) (room : ℕ) → nat_lt b 128 ≡ false →
    (suc room < length (b ∷ bytes)) ⊎ (list_any is_last (b ∷ bytes) ≡ true) → (room < length bytes) ⊎ (list_any is_last bytes ≡ true)
after_first b bytes room is (inl h) = inl (omega (arith, h))
after_first b bytes room is (inr h) = inr (ap (λ t. t || list_any is_last bytes) (sym is) ∙ h)

groups_stay : (room : ℕ) (bytes more : List ℕ) → (room < length bytes) ⊎ (list_any is_last bytes ≡ true) →
    groups_at room (bytes ++ more) ≡ and_more more (groups_at room bytes)
unfolding groups_at
groups_stay zero bytes more h = refl
groups_stay (suc room) [] more (inl h) = absurd (omega (arith, h))
groups_stay (suc room) [] more (inr h) = absurd (false≢true h)
groups_stay (suc room) (b ∷ bytes) more h =
    elim (nat_lt b 128) as (λ t. nat_lt b 128 ≡ t → cond t (Ok (b, bytes ++ more)) (with_low (b - 128) (groups_at room (bytes ++ more)))
    ≡ and_more more (cond t (Ok (b, bytes)) (with_low (b - 128) (groups_at room bytes)))) [
      | true ↦ λ is. refl
      | false ↦ λ is. ap (with_low (b - 128)) (groups_stay room bytes more (after_first b bytes room is h))
          ∙ low_more (b - 128) more (groups_at room bytes)
    ] refl

ended_how : (bytes : List ℕ) → is_ended bytes ≡ true → (10 < length bytes) ⊎ (list_any is_last bytes ≡ true)
ended_how bytes =
    elim (nat_lt 10 (length bytes)) as (λ t. nat_lt 10 (length bytes) ≡ t → t || list_any is_last bytes ≡ true →
    (10 < length bytes) ⊎ (list_any is_last bytes ≡ true)) [
      | true ↦ λ is e. inl (ltb-true 10 (length bytes) is)
      | false ↦ λ is e. inr e
    ] refl

any_more : (bytes more : List ℕ) → list_any is_last bytes ≡ true → list_any is_last (bytes ++ more) ≡ true
any_more [] more e = absurd (false≢true e)
any_more (b ∷ bytes) more f =
    elim (is_last b) as (λ t. t || list_any is_last bytes ≡ true → t || list_any is_last (bytes ++ more) ≡ true) [
      | true ↦ λ e. refl
      | false ↦ λ e. any_more bytes more e
    ] f

number_stays : (bytes more : List ℕ) → is_ended bytes ≡ true → number_at (bytes ++ more) ≡ and_more more (number_at bytes)
unfolding number_at
number_stays bytes more ended =
    ap (λ x. and_then x within_word) (groups_stay 10 bytes more (ended_how bytes ended)) ∙ word_more more (groups_at 10 bytes)

ends_more : (bytes more : List ℕ) → is_ended bytes ≡ true → is_ended (bytes ++ more) ≡ true
ends_more bytes more ended = ⊎_elim
    (λ long. (let longer : nat_lt 10 (length (bytes ++ more)) ≡ true = lt-ltb 10 _ (omega (arith, long, length-append bytes more)) in
    rw longer refl))
    (λ some. ap (λ t. nat_lt 10 (length (bytes ++ more)) || t) (any_more bytes more some) ∙ or-true (nat_lt 10 (length (bytes ++ more))))
    (ended_how bytes ended)

abbrev Length : Type 0
Length = Option Number

length_stays : (bytes more : List ℕ) → is_ended bytes ≡ true → length_at (bytes ++ more) ≡ Some (and_more more (number_at bytes))
length_stays bytes more ended = rw (ends_more bytes more ended, number_stays bytes more ended) refl

-- the unit of a data set stays the same with more bytes after it
sized_more : (s : Segment) (b : ℕ) (bytes more : List ℕ) (u : FileUnit) (x : Number) → length_at bytes ≡ Some x →
    sized_unit s b bytes (Some x) ≡ Some u → sized_unit s b (bytes ++ more) (Some (and_more more x)) ≡ Some u
sized_more s b bytes more u (Err reason) at e = e
sized_more s b bytes more u (Ok (size, rest)) at f =
    let found = length_found b bytes size rest at in
    elim (nat_le size (length rest)) as (λ t. nat_le size (length rest) ≡ t →
    cond t (Some (unit (1 + (length bytes - length rest) + size) (content_found s (kind_of_type b) (take size rest)))) None
    ≡ Some u → sized_unit s b (bytes ++ more) (Some (Ok (size, rest ++ more))) ≡ Some u) [
      | true ↦ λ is e. (
          let within : size ≤ length rest = leb-true size (length rest) is in
          let fits : nat_le size (length (rest ++ more)) ≡ true =
          (let n : size ≤ length (rest ++ more) = omega (arith, within, length-append rest more) in grind (arith, nat_tests)) in
          let same : take size (rest ++ more) ≡ take size rest = take-append-le size rest more within in
          let far : length (bytes ++ more) - length (rest ++ more) ≡ length bytes - length rest =
          omega (arith, length-append bytes more, length-append rest more) in
          rw (fits, same, far) e)
      | false ↦ λ is e. absurd (none-some u e)
    ] refl f

set_by : (s : Segment) (b : ℕ) (bytes more : List ℕ) (u : FileUnit) (ended : Bool) → is_ended bytes ≡ ended →
    sized_unit s b bytes (cond ended (Some (number_at bytes)) None) ≡ Some u →
    sized_unit s b (bytes ++ more) (length_at (bytes ++ more)) ≡ Some u
set_by s b bytes more u true ended e = rw (length_stays bytes more ended) (sized_more s b bytes more u (number_at bytes) (rw ended refl) e)
set_by s b bytes more u false ended e = absurd (none-some u e)

segment_stays : (s : Segment) (bytes more : List ℕ) → Stays (segment_unit s) bytes more
segment_stays s [] more u e = absurd (none-some u e)
segment_stays s (b ∷ bytes) more u e =
    let set = set_by s b bytes more u (is_ended bytes) refl in
    elim (b == end_byte) as (λ t. cond t (Some (unit 1 (no_version PastEnd)))
    (cond (b == reset_byte) (Some (unit 1 (no_version (InSegment new_segment))))
    (cond (is_lone b) (Some (unit 1 (no_version (InSegment s)))) (sized_unit s b bytes (length_at bytes)))) ≡ Some u
    → cond t (Some (unit 1 (no_version PastEnd))) (cond (b == reset_byte) (Some (unit 1 (no_version (InSegment new_segment))))
    (cond (is_lone b) (Some (unit 1 (no_version (InSegment s)))) (sized_unit s b (bytes ++ more) (length_at (bytes ++ more))))) ≡ Some u) [
      | true ↦ λ f. f
      | false ↦ elim (b == reset_byte) as (λ t. cond t (Some (unit 1 (no_version (InSegment new_segment))))
          (cond (is_lone b) (Some (unit 1 (no_version (InSegment s)))) (sized_unit s b bytes (length_at bytes))) ≡ Some u
          → cond t (Some (unit 1 (no_version (InSegment new_segment))))
          (cond (is_lone b) (Some (unit 1 (no_version (InSegment s)))) (sized_unit s b (bytes ++ more) (length_at (bytes ++ more))))
          ≡ Some u) [
            | true ↦ λ f. f
            | false ↦ elim (is_lone b) as (λ t. cond t (Some (unit 1 (no_version (InSegment s)))) (sized_unit s b bytes (length_at bytes))
                ≡ Some u → cond t (Some (unit 1 (no_version (InSegment s)))) (sized_unit s b (bytes ++ more) (length_at (bytes ++ more)))
                ≡ Some u) [
                  | true ↦ λ f. f
                  | false ↦ set
                ]
          ]
    ] e

rest_stays : (bytes more : List ℕ) → Stays unit_after_end bytes more
rest_stays [] more u e = absurd (none-some u e)
rest_stays (b ∷ bytes) more u e = e

-- A whole unit stays the same, whatever bytes follow it.
pub unit_stays : (stage : FileStateData) (bytes more : List ℕ) → Stays (unit_at stage) bytes more
unfolding unit_at
unit_stays InOpl bytes more = line_stays bytes more
unit_stays BeforeHeader bytes more = header_stays bytes more
unit_stays (InSegment s) bytes more = segment_stays s bytes more
unit_stays PastEnd bytes more = rest_stays bytes more
