-- Lines that begin no version: the reason of such a line, and the test of its bytes piece by piece.
use Rattle.std.proofs.Common.{◌≡◌, ℕ, ◌+◌, ◌-◌, ◌≤◌, ◌<◌, ◌==◌, true, false, cond, List, [], ◌∷◌, ◌++◌, length, take, drop}
use Rattle.std.proofs.Common.{refl, sym, ap, ◌∙◌, subst, arith, Option, Some, None, is_some, slice_index, Err, append_assoc, length-append}
use Rattle.std.proofs.Common.{◌||◌, length-drop}
use Rattle.std.proofs.Math.Seq.{take-add, drop-append_seam}
use Rattle.std.proofs.lemmas.Bool.{and_parts, or_parts, not-true, false≢true}
use Rattle.std.proofs.lemmas.List.{take-append-le, drop-append-le, take_at}
use Rattle.std.proofs.lemmas.Str.{IsUtf8-append, IsUtf8-encode, IsUtf8-drop, IsCharBoundary-from_take, IsUtf8-from_is_utf8}
use Rattle.std.proofs.lemmas.Str.{is_utf8-from_IsUtf8, length-encode, len_utf8_bounds}
use Rattle.std.specs.Str.{IsUtf8, is_utf8, IsValidUpTo, encode_utf8_all, all_scalars as scalars}
use Rattle.std.specs.Char.{encode_utf8, IsScalar}
use Rattle.osm_model.specs.declared.kind.Kind.{Kind}
use Rattle.opl_line.specs.declared.reason.OplReason.TheVariants as opl
use Rattle.opl_line.specs.Delimiter.{is_line_end, is_blank, split_first, with_byte, pieces_of}
use Rattle.opl_line.specs.Field.{reading_fields, no_fields}
use Rattle.opl_line.specs.Item.{kind_of_letter, first_kind}
use Rattle.opl_line.specs.Reading.{is_skipped, reading_kind_and_id, reading_object, reading_whole, reading_version}
use Rattle.opl_line.specs.Reading.{reading_line}
use Rattle.opl_line.specs.Results.{and_then, as_value}
use Rattle.opl_line.proofs.ReadingLaws.{not_utf8, utf8_line}
use Rattle.osm_files.specs.declared.unknown_line.TestedFront.{TestedFront}
use Rattle.osm_files.specs.declared.unknown_line.TestedFront.TheVariants.{Utf8, NotUtf8}
use Rattle.osm_files.specs.UnknownLine.{begins_unknown, unknown_reason, IsTested}

-- Bytes that aren't empty begin with their first one.
pub first_of : (bytes : List ℕ) → 0 < length bytes → bytes ≡ slice_index bytes 0 ∷ drop 1 bytes
first_of [] some = absurd (omega (arith, some))
first_of (b ∷ bytes) some = refl

-- ---- UTF-8 in pieces
-- what follows UTF-8 is UTF-8, if the whole is
utf8_after : (front more : List ℕ) → IsUtf8 front → IsUtf8 (front ++ more) → IsUtf8 more
utf8_after front more valid whole =
    let n : ℕ = length front in
    let within : n ≤ length (front ++ more) = omega (arith, length-append front more) in
    let before : IsUtf8 (take n (front ++ more)) = subst IsUtf8 (sym (take_at front more n refl)) valid in
    subst IsUtf8 (drop-append_seam front more)
    (IsUtf8-drop (front ++ more) n whole (IsCharBoundary-from_take (front ++ more) n whole within before))

-- a text that isn't empty begins with a character
abbrev BeginsWithCharacter : List ℕ → Type 0
BeginsWithCharacter text = (c : ℕ) × (rest : List ℕ) × IsScalar c × (text ≡ encode_utf8 c ++ rest)

character_by : (text cs : List ℕ) → 0 < length text → scalars cs ≡ true → encode_utf8_all cs ≡ text → BeginsWithCharacter text
character_by text [] some valid is = absurd (omega (arith, some, ap length is))
character_by text (c ∷ cs) some valid is = (c, encode_utf8_all cs, (and_parts _ _ valid).0, sym is)

character_first : (text : List ℕ) → 0 < length text → IsUtf8 text → BeginsWithCharacter text
character_first text some utf8 = character_by text utf8.0 some utf8.1.0 utf8.1.1

-- Bytes with more than three bytes after their longest front that is UTF-8 begin no UTF-8.
pub never_utf8 : (bytes : List ℕ) (n : ℕ) → IsValidUpTo bytes n → n + 3 < length bytes → (more : List ℕ) → ¬ (IsUtf8 (bytes ++ more))
never_utf8 bytes n longest far more whole =
    let front : IsUtf8 (take n (bytes ++ more)) =
    subst IsUtf8 (sym (take-append-le n bytes more (omega (arith, far)))) longest.front in
    let within : n ≤ length (bytes ++ more) = omega (arith, far, length-append bytes more) in
    let after : drop n (bytes ++ more) ≡ drop n bytes ++ more = drop-append-le n bytes more (omega (arith, far)) in
    let rest : IsUtf8 (drop n bytes ++ more) =
    subst IsUtf8 after (IsUtf8-drop (bytes ++ more) n whole (IsCharBoundary-from_take (bytes ++ more) n whole within front)) in
    let left : 3 < length (drop n bytes) = omega (arith, far, length-drop n bytes) in
    let first = character_first (drop n bytes ++ more) (omega (arith, left, length-append (drop n bytes) more)) rest in
    let c : ℕ = first.0 in
    let k : ℕ = length (encode_utf8 c) in
    let size : (1 ≤ k) × (k ≤ 4) = (
      omega (arith, length-encode c, (len_utf8_bounds c).0),
      omega (arith, length-encode c, (len_utf8_bounds c).1),
    ) in
    let one : take k (drop n bytes) ≡ encode_utf8 c =
    sym (take-append-le k (drop n bytes) more (omega (arith, size.1, left)))
    ∙ ap (take k) first.3 ∙ take_at (encode_utf8 c) first.1 k refl in
    let both : take (n + k) bytes ≡ take n bytes ++ encode_utf8 c = take-add n k bytes ∙ ap (λ xs. take n bytes ++ xs) one in
    longest.longest (n + k) (omega (arith, size.0))
    (subst IsUtf8 (sym both) (IsUtf8-append (take n bytes) (encode_utf8 c) longest.front (IsUtf8-encode c first.2)))

-- A front with UTF-8 after it has the same result.
pub tested_on : (test : TestedFront) (front more : List ℕ) → IsTested test front → IsUtf8 more → IsTested test (front ++ more)
tested_on Utf8 front more valid next = IsUtf8-append front more valid next
tested_on NotUtf8 front more never next = λ rest whole. never (more ++ rest) (subst IsUtf8 (append_assoc front more rest) whole)

-- A front with bytes after it that begin no UTF-8 begins none.
pub tested_never : (test : TestedFront) (front more : List ℕ) → IsTested test front → ((rest : List ℕ) → ¬ (IsUtf8 (more ++ rest)))
    → IsTested NotUtf8 (front ++ more)
tested_never Utf8 front more valid never = λ rest whole.
    never rest (utf8_after front (more ++ rest) valid (subst IsUtf8 (append_assoc front more rest) whole))
tested_never NotUtf8 front more before never = λ rest whole.
    before (more ++ rest) (subst IsUtf8 (append_assoc front more rest) whole)

-- ---- the reason
reason_if : (line : List ℕ) → IsUtf8 line → unknown_reason line ≡ opl.UnknownKind
reason_if line valid = ap (λ t. cond t opl.UnknownKind opl.NotUtf8) (is_utf8-from_IsUtf8 line valid)

reason_else : (line : List ℕ) → ¬ (IsUtf8 line) → unknown_reason line ≡ opl.NotUtf8
reason_else line other =
    elim (is_utf8 line) as (λ t. is_utf8 line ≡ t → cond t opl.UnknownKind opl.NotUtf8 ≡ opl.NotUtf8) [
      | true ↦ λ valid. absurd (other (IsUtf8-from_is_utf8 line valid))
      | false ↦ λ is. refl
    ] refl

-- The last bytes of a line with a front that is UTF-8 decide.
pub reason_utf8 : (front rest : List ℕ) → IsUtf8 front → IsUtf8 rest → opl.UnknownKind ≡ unknown_reason (front ++ rest)
reason_utf8 front rest valid next = sym (reason_if (front ++ rest) (IsUtf8-append front rest valid next))

pub reason_faulty : (front rest : List ℕ) → IsUtf8 front → ¬ (IsUtf8 rest) → opl.NotUtf8 ≡ unknown_reason (front ++ rest)
reason_faulty front rest valid other = sym (reason_else (front ++ rest) (λ whole. other (utf8_after front rest valid whole)))

pub reason_never : (front rest : List ℕ) → IsTested NotUtf8 front → opl.NotUtf8 ≡ unknown_reason (front ++ rest)
reason_never front rest never = sym (reason_else (front ++ rest) (never rest))

-- ---- the reading
-- the tests that fail for the first byte
record Unknown (b : ℕ) : Type 0 where
  letter : is_some (kind_of_letter b) ≡ false
  mark : (b == 35) ≡ false
  end : is_line_end b ≡ false

unknown_by : (b : ℕ) → begins_unknown b ≡ true → Unknown b
unknown_by b unknown =
    let p = or_parts (is_some (kind_of_letter b)) ((b == 35) || is_line_end b) (not-true _ unknown) in
    let q = or_parts (b == 35) (is_line_end b) p.1 in
    record { letter = p.0; mark = q.0; end = q.1 }

-- It isn't the end of a line.
pub not_an_end : (b : ℕ) → begins_unknown b ≡ true → is_line_end b ≡ false
not_an_end b unknown = (unknown_by b unknown).end

-- It isn't skipped.
pub kept : (b : ℕ) (line : List ℕ) → begins_unknown b ≡ true → is_skipped (b ∷ line) ≡ false
kept b line unknown = (unknown_by b unknown).mark

none_if : (o : Option Kind) → is_some o ≡ false → o ≡ None
none_if None e = refl
none_if (Some kind) e = absurd (false≢true (sym e))

no_kind : (b : ℕ) → begins_unknown b ≡ true → kind_of_letter b ≡ None
no_kind b unknown = none_if (kind_of_letter b) (unknown_by b unknown).letter

no_first_kind : (b : ℕ) (line : List ℕ) → kind_of_letter b ≡ None → first_kind (split_first is_blank (b ∷ line)).0 ≡ None
no_first_kind b line none =
    elim (is_blank b) as (λ t. first_kind (cond t ([], Some line) (with_byte b (split_first is_blank line))).0 ≡ None) [
      | true ↦ refl
      | false ↦ none
    ]

no_version : (b : ℕ) (line : List ℕ) → kind_of_letter b ≡ None → reading_version (b ∷ line) ≡ Err opl.UnknownKind
unfolding reading_version
no_version b line none =
    let parts = split_first is_blank (b ∷ line) in
    let object : reading_object parts.0 ≡ Err opl.UnknownKind =
    ap (λ k. reading_kind_and_id k (drop 1 parts.0)) (no_first_kind b line none) in
    ap (λ r. and_then r (λ object. and_then (reading_fields object.0 (pieces_of is_blank parts.1) no_fields)
    (reading_whole object.0 object.1))) object

-- A line that begins no version is refused.
pub unknown_read : (b : ℕ) (line : List ℕ) → begins_unknown b ≡ true → reading_line (b ∷ line) ≡ Err (unknown_reason (b ∷ line))
unknown_read b line unknown =
    elim (is_utf8 (b ∷ line)) as (λ t. is_utf8 (b ∷ line) ≡ t
    → reading_line (b ∷ line) ≡ Err (cond t opl.UnknownKind opl.NotUtf8)) [
      | true ↦ λ valid. utf8_line (b ∷ line) (kept b line unknown) (IsUtf8-from_is_utf8 (b ∷ line) valid)
          ∙ ap (as_value (λ v. Some v)) (no_version b line (no_kind b unknown))
      | false ↦ λ is. not_utf8 (b ∷ line) (kept b line unknown)
          (λ valid. let clash : false ≡ true = sym is ∙ is_utf8-from_IsUtf8 (b ∷ line) valid in cc)
    ] refl
