-- The unit that the code finds at the front of some bytes is the unit there.
use Rattle.std.proofs.Common.{◌≡◌, ◌⊎◌, inl, inr, ℕ, ◌+◌, ◌≤◌, true, false, List, [], ◌∷◌, length, take, refl, sym, ap, ◌∙◌, arith, Option}
use Rattle.std.proofs.Common.{Some, None, Ok, Err, position, length-take, nat_lt, nat_le, ◌-◌, slice_get}
use Rattle.std.proofs.lemmas.Bool.{false≢true}
use Rattle.std.proofs.lemmas.Bool.Decides.{nat_tests}
use Rattle.osm_model.specs.Data.{VersionData}
use Rattle.opl_line.specs.Delimiter.{is_line_end, split_first}
use Rattle.opl_line.specs.Reading.{reading_line}
use Rattle.opl_line.specs.declared.reason.OplReason.{OplReason}
use Rattle.opl_line.specs.declared.reason.OplReason.TheVariants as opl
use Rattle.opl_line.proofs.CutLaws.{split_at, split_nowhere}
use Rattle.osm_files.specs.declared.reason.Reason.{Reason}
use Rattle.osm_files.specs.declared.reason.Reason.TheVariants.{BadHeader, AfterEnd, Memory}
use Rattle.o5_codec.specs.declared.reason.O5Reason.{O5Reason}
use Rattle.o5_codec.specs.declared.read.segment.Segment.{Segment}
use Rattle.o5_codec.specs.Number.{number_at}
use Rattle.osm_files.specs.Reason.{of_line, of_data_set}
use Rattle.osm_files.specs.O5.{kind_of_type}
use Rattle.osm_files.specs.Reading.{Finds, ends_at}
use Rattle.osm_files.specs.Units.{FileStateData, PastEnd, unit_after_end, segment_unit, InOpl, is_ended, length_at, sized_unit}
use Rattle.osm_files.specs.Units.{content_found, unit}
use Rattle.osm_files.specs.Units.{line_unit, line_found, header_unit, is_header, no_version}
use Rattle.osm_files.proofs.SearchLaws.{no_end}

-- Where no line end is there, no line is whole.
pub no_line : (bytes : List ℕ) → position is_line_end bytes ≡ None → line_unit (split_first is_line_end bytes) ≡ None
no_line bytes none = ap line_unit (split_nowhere is_line_end bytes none)

module _ (bytes : List ℕ) (n : ℕ) (found : position is_line_end bytes ≡ Some n) where
  abbrev pub text : List ℕ
  text = take n bytes

  line_there : line_unit (split_first is_line_end bytes) ≡ Some (unit (n + 1) (line_found (reading_line text)))
  line_there =
      let s = split_at is_line_end bytes n found in
      let long : length text ≡ n = omega (arith, length-take n bytes, s.within) in
      ap line_unit s.split ∙ ap (λ k. Some (unit (k + 1) (line_found (reading_line text)))) long

  -- A line that is read is the unit at the front.
  pub line_read : (read : Option VersionData) → reading_line text ≡ Ok read →
      line_unit (split_first is_line_end bytes) ≡ Some (unit (n + 1) (Ok (read, InOpl)))
  line_read read e = line_there ∙ ap (λ r. Some (unit (n + 1) (line_found r))) e

  -- A line that is refused is the faulty unit at the front.
  pub line_refused : (inner : OplReason) (reason : Reason) → reason ≡ of_line inner →
      (inner ≡ opl.Memory) ⊎ (reading_line text ≡ Err inner) → Finds (line_unit (split_first is_line_end bytes)) (Err reason) InOpl
  line_refused inner reason is (inl e) = inl (is ∙ ap of_line e)
  line_refused inner reason is (inr e) = inr (
    n + 1,
    line_there ∙ ap (λ r. Some (unit (n + 1) (line_found r))) e
        ∙ ap (λ r. Some (unit (n + 1) (Err r))) (sym is),
  )

-- Seven bytes that are no header are BadHeader.
pub bad_header : (bytes : List ℕ) → 7 ≤ length bytes → is_header (take 7 bytes) ≡ false → header_unit bytes ≡ Some (unit 7 (Err BadHeader))
bad_header bytes long no_header =
    let is_long : nat_lt (length bytes) 7 ≡ false = grind (arith, nat_tests) in
    rw (is_long, no_header) refl

module _ (s : Segment) (b : ℕ) (bytes : List ℕ) (next : FileStateData) (ended : is_ended bytes ≡ true) where
  -- A length that can't be read is the faulty unit at the front.
  pub size_refused : (inner : O5Reason) (reason : Reason) → number_at bytes ≡ Err inner → reason ≡ of_data_set inner →
      Finds (sized_unit s b bytes (length_at bytes)) (Err reason) next
  size_refused inner reason e is = inr (1, rw (ended, e, is) refl)

  -- A content that can't be read is the faulty unit at the front.
  pub content_refused : (size : ℕ) (rest : List ℕ) (reason : Reason) → number_at bytes ≡ Ok (size, rest) → size ≤ length rest →
      (reason ≡ Memory) ⊎ (content_found s (kind_of_type b) (take size rest) ≡ Err reason)
      → Finds (sized_unit s b bytes (length_at bytes)) (Err reason) next
  content_refused size rest reason e within (inl is) = inl is
  content_refused size rest reason e within (inr is) =
      let fits : nat_le size (length rest) ≡ true = grind (arith, nat_tests) in
      inr (1 + (length bytes - length rest) + size, rw (ended, e, fits, is) refl)

-- A byte after the end of a file is AfterEnd.
pub after_first : (bytes : List ℕ) (b : ℕ) (next : FileStateData) → Some b ≡ slice_get bytes 0 →
    Finds (unit_after_end bytes) (Err AfterEnd) next
after_first [] b next e = absurd (let f : Some b ≡ None = e in cc)
after_first (c ∷ bytes) b next e = inr (1, refl)

-- The end byte is the unit at the front.
pub end_first : (s : Segment) (bytes : List ℕ) → ends_at bytes ≡ true → segment_unit s bytes ≡ Some (unit 1 (no_version PastEnd))
end_first s [] e = absurd (false≢true e)
end_first s (b ∷ bytes) e = rw e refl

-- what is known before a unit is read: a file that ends there, or bytes without an end of a line
pub ruleset known_before = (end_first, no_end)
