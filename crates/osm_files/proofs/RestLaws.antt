-- The rest of a file that is split is a file.
use Rattle.std.proofs.Common.{◌≡◌, ℕ, true, List, [], ◌∷◌, ◌++◌, length, refl, sym, ap}
use Rattle.std.proofs.Common.{◌∙◌, subst, arith, length-append, append_assoc}
use Rattle.std.proofs.Math.Seq.{take-append_seam, drop-append_seam}
use Rattle.osm_model.specs.Data.{VersionData}
use Rattle.o5_codec.specs.declared.read.segment.Segment.{Segment}
use Rattle.o5_codec.specs.Decoder.{new_segment}
use Rattle.o5_codec.specs.Number.{SpellsNumber}
use Rattle.o5_codec.specs.Spelling.{SpellsSet}
use Rattle.osm_files.specs.FileRuns.{IsAccepted}
use Rattle.std.proofs.lemmas.List.{append_cancel_right}
use Rattle.osm_files.specs.Held.{IsFile}
use Rattle.osm_files.specs.O5.{end_byte, reset_byte, type_byte, is_lone, IsOtherType, FilePart, Reset, Lone, Skipped, Object, PartsSpell}
use Rattle.osm_files.specs.O5.{O5File}
use Rattle.osm_files.specs.Opl.{OplFile}
use Rattle.osm_files.specs.SortedRun.{SplitAfterLine, SplitAtReset}
use Rattle.osm_files.specs.Units.{BeforeHeader, start_of}
use Rattle.osm_files.proofs.FileLaws.{Header, header_long}
use Rattle.osm_files.proofs.JoinLaws.{header_starts, bytes_of, after_header, split_ended, split_starts, starts_with_reset}
use Rattle.osm_files.proofs.PartLaws.{PartsFile, FirstPart, first_part}
use Rattle.osm_files.proofs.SizeLaws.{Sized, SameSize, length_read, same_size}
use Rattle.osm_files.proofs.PartLaws.{lone_is_no_end, object_type, reset_only, lone_only, sized_only, skipped_only, object_only}

-- ---- lines
-- The lines after a line of a file are a file.
pub lines_rest : (file rest bytes : List ℕ) → SplitAfterLine file rest bytes → IsAccepted bytes → IsAccepted rest
lines_rest file rest bytes c (held, holds) =
    let lines : OplFile bytes holds.versions = rw (split_starts file rest bytes c) at holds.file in
    let parts = split_ended bytes file rest holds.versions c.whole
    (record { text = c.front; last = c.last; ends = c.ends; is = c.is_file }) lines in (
      _,
      record {
        short = omega (arith, holds.short, ap length c.whole, length-append file rest);
        versions = parts.later;
        file = rw c.more_lines parts.second;
        members = refl;
      },
    )

-- The lines of a file up to the end of one are a file.
pub lines_front : (file rest bytes : List ℕ) → SplitAfterLine file rest bytes → IsAccepted bytes → IsAccepted file
lines_front file rest bytes c (held, holds) =
    let lines : OplFile bytes holds.versions = rw (split_starts file rest bytes c) at holds.file in
    let parts = split_ended bytes file rest holds.versions c.whole
    (record { text = c.front; last = c.last; ends = c.ends; is = c.is_file }) lines in (
      _,
      record {
        short = omega (arith, holds.short, ap length c.whole, length-append file rest);
        versions = parts.earlier;
        file = rw c.lines parts.first;
        members = refl;
      },
    )

-- ---- data sets
-- two readings of the content of a data set are the same
module _ (bytes size content tail : List ℕ) (spelled : SpellsNumber size (length content)) (split : bytes ≡ size ++ (content ++ tail))
    (other rest : List ℕ) (sized : Sized bytes other rest) where
  same_sized : SameSize (length content) (content ++ tail) other rest
  same_sized = same_size bytes (length content) (content ++ tail) other rest
      (length_read bytes content tail (record { size = size; spelled = spelled; split = split })) sized

  same_content : other ≡ content
  same_content = sym same_sized.content_is ∙ take-append_seam content tail

  same_tail : rest ≡ tail
  same_tail = sym same_sized.rest_is ∙ drop-append_seam content tail

-- each part has the form of its type
abbrev pub AreFormed : List FilePart → Type 0
AreFormed [] = Unit {0}
AreFormed (Reset ∷ parts) = AreFormed parts
AreFormed (Lone b ∷ parts) = (is_lone b ≡ true) × AreFormed parts
AreFormed (Skipped b size content ∷ parts) = IsOtherType b × SpellsNumber size (length content) × AreFormed parts
AreFormed (Object k size content ∷ parts) = SpellsNumber size (length content) × AreFormed parts

formed_spelled : (s : Segment) (parts : List FilePart) (versions : List VersionData) → PartsSpell s parts versions → AreFormed parts
formed_spelled s [] versions h = tt
formed_spelled s (Reset ∷ parts) versions h = formed_spelled new_segment parts versions h
formed_spelled s (Lone b ∷ parts) versions h = (h.0, formed_spelled s parts versions h.1)
formed_spelled s (Skipped b size content ∷ parts) versions h = (h.0, h.1, formed_spelled s parts versions h.2)
formed_spelled s (Object k size content ∷ parts) versions (number, (v, next, others, is, spells, spelled)) =
    (number, formed_spelled next parts others spelled)

-- parts that spell the first versions of a file, and the rest of the file
pub record Joined (s : Segment) (parts : List FilePart) (tail : List ℕ) (versions : List VersionData) : Type 0 where
  pub earlier : List VersionData
  pub later : List VersionData
  pub next : Segment
  pub are : versions ≡ earlier ++ later
  pub spelled : PartsSpell s parts earlier
  pub rest : PartsFile next tail later

module _ (tail : List ℕ) where
  abbrev pub with_tail : List FilePart → List ℕ
  with_tail parts = bytes_of parts ++ tail

  first_of : (s : Segment) (b : ℕ) (bytes : List ℕ) (versions : List VersionData) → PartsFile s (b ∷ bytes) versions
      → FirstPart s b bytes versions
  first_of s b bytes versions (parts, is, spelled) = first_part s b bytes parts versions is spelled

  joined_tail : (size content : List ℕ) (parts : List FilePart)
      → ((size ++ content) ++ bytes_of parts) ++ tail ≡ size ++ (content ++ with_tail parts)
  joined_tail size content parts =
      append_assoc (size ++ content) (bytes_of parts) tail ∙ append_assoc size content (with_tail parts)

  -- Parts at the front of a file are parts of the file: its bytes determine them.
  pub same_parts : (s : Segment) (parts : List FilePart) (versions : List VersionData) → AreFormed parts
      → PartsFile s (with_tail parts) versions → Joined s parts tail versions
  same_parts s [] versions formed h =
      record { earlier = []; later = versions; next = s; are = refl; spelled = refl; rest = h }
  same_parts s (Reset ∷ parts) versions formed h =
      let j = same_parts new_segment parts versions formed
      (reset_only s reset_byte (with_tail parts) versions (first_of s reset_byte (with_tail parts) versions h) refl refl) in
      record { earlier = j.earlier; later = j.later; next = j.next; are = j.are; spelled = j.spelled; rest = j.rest }
  same_parts s (Lone b ∷ parts) versions formed h =
      let no = lone_is_no_end b formed.0 in
      let j = same_parts s parts versions formed.1
      (lone_only s b (with_tail parts) versions (first_of s b (with_tail parts) versions h) no.0 no.1 formed.0) in
      record {
        earlier = j.earlier;
        later = j.later;
        next = j.next;
        are = j.are;
        spelled = (formed.0, j.spelled);
        rest = j.rest;
      }
  same_parts s (Skipped b size content ∷ parts) versions (other, number, formed) h =
      let bytes : List ℕ = ((size ++ content) ++ bytes_of parts) ++ tail in
      let sized = sized_only s b bytes versions (first_of s b bytes versions h) other.0 other.1 other.2 in
      let k = skipped_only s b bytes versions sized other.3 in
      let after = same_tail bytes size content (with_tail parts) number (joined_tail size content parts) k.1.0 k.1.1 k.1.2 in
      let j = same_parts s parts versions formed (subst (λ (xs : List ℕ). PartsFile s xs versions) after k.1.3) in
      record {
        earlier = j.earlier;
        later = j.later;
        next = j.next;
        are = j.are;
        spelled = (other, number, j.spelled);
        rest = j.rest;
      }
  same_parts s (Object k size content ∷ parts) versions (number, formed) h =
      let bytes : List ℕ = ((size ++ content) ++ bytes_of parts) ++ tail in
      let b : ℕ = type_byte k in
      let type = object_type k in
      let sized = sized_only s b bytes versions (first_of s b bytes versions h) type.0 type.1 type.2 in
      let o = object_only s b bytes versions k sized type.3 in
      let split = joined_tail size content parts in
      let same = same_content bytes size content (with_tail parts) number split o.0 o.1 o.2 in
      let after = same_tail bytes size content (with_tail parts) number split o.0 o.1 o.2 in
      let set = subst (λ (xs : List ℕ). SpellsSet k s xs (o.3.0, o.3.1)) same o.3.4 in
      let j = same_parts o.3.1 parts o.3.2 formed (subst (λ (xs : List ℕ). PartsFile o.3.1 xs o.3.2) after o.3.5) in
      record {
        earlier = o.3.0 ∷ j.earlier;
        later = j.later;
        next = j.next;
        are = o.3.3 ∙ ap (λ vs. o.3.0 ∷ vs) j.are;
        spelled = (number, (o.3.0, o.3.1, j.earlier, refl, set, j.spelled));
        rest = j.rest;
      }

-- a header, parts of the forms of their types, and the end byte
pub record FormedFile (bytes : List ℕ) : Type 0 where
  pub header : List ℕ
  pub parts : List FilePart
  pub begins : Header header
  pub whole : bytes ≡ header ++ (bytes_of parts ++ end_byte ∷ [])
  pub formed : AreFormed parts

-- A file that is accepted has the form of one.
pub accepted_formed : (bytes : List ℕ) → start_of bytes ≡ BeforeHeader → IsAccepted bytes → FormedFile bytes
accepted_formed bytes starts (held, holds) =
    let file : O5File bytes holds.versions = rw starts at holds.file in
    record {
      header = file.header;
      parts = file.parts;
      begins = file.begins;
      whole = file.whole;
      formed = formed_spelled new_segment file.parts holds.versions file.spelled;
    }

-- the data sets of an accepted file before a reset, and those after it
module _ (file rest bytes : List ℕ) (c : SplitAtReset file rest bytes) (formed : FormedFile file) (accepted : IsAccepted bytes) where
  abbrev all : List VersionData
  all = accepted.1.versions

  before : c.front ≡ formed.header ++ bytes_of formed.parts
  before = append_cancel_right c.front (formed.header ++ bytes_of formed.parts) (end_byte ∷ [])
      (sym c.is_file ∙ formed.whole ∙ sym (append_assoc formed.header (bytes_of formed.parts) (end_byte ∷ [])))

  joined : Joined new_segment formed.parts (reset_byte ∷ c.after) all
  joined =
      let tail : List ℕ = reset_byte ∷ c.after in
      let starts : start_of (c.front ++ tail) ≡ BeforeHeader =
      starts_with_reset c.front c.after (ap start_of (sym c.is_file) ∙ c.data_sets) in
      let whole : O5File (c.front ++ tail) all = rw (c.whole, starts) at accepted.1.file in
      let same : c.front ++ tail ≡ formed.header ++ with_tail tail formed.parts =
      ap (λ xs. xs ++ tail) before ∙ append_assoc formed.header (bytes_of formed.parts) tail in
      let again : O5File (formed.header ++ with_tail tail formed.parts) all = rw same at whole in
      let more = after_header formed.header (with_tail tail formed.parts) all formed.begins again in
      same_parts tail new_segment formed.parts all formed.formed (again.parts, more, again.spelled)

  -- The data sets of a file before a reset are a file, with an end byte after them.
  pub sets_before : IsAccepted file
  sets_before =
      let front : O5File file joined.earlier = record {
        header = formed.header;
        parts = formed.parts;
        begins = formed.begins;
        whole = formed.whole;
        spelled = joined.spelled;
      } in (
        _,
        record {
          short = omega (
            arith,
            accepted.1.short,
            ap length c.whole,
            length-append c.front (reset_byte ∷ c.after),
            ap length c.is_file,
            length-append c.front (end_byte ∷ []),
          );
          versions = joined.earlier;
          file = rw c.data_sets front;
          members = refl;
        },
      )

  -- The data sets after a reset of a file are a file, with a header before them.
  pub sets_after : IsAccepted rest
  sets_after =
      let later = reset_only joined.next reset_byte c.after joined.later
      (first_of (reset_byte ∷ c.after) joined.next reset_byte c.after joined.later joined.rest) refl refl in
      let file : O5File (c.header ++ c.after) joined.later = record {
        header = c.header;
        parts = later.0;
        begins = c.is_header;
        whole = ap (λ xs. c.header ++ xs) later.1;
        spelled = later.2;
      } in (
        _,
        record {
          short = omega (
            arith,
            accepted.1.short,
            ap length c.whole,
            length-append c.front (reset_byte ∷ c.after),
            ap length before,
            length-append formed.header (bytes_of formed.parts),
            header_long formed.header formed.begins,
            ap length c.is_rest,
            length-append c.header c.after,
            header_long c.header c.is_header,
          );
          versions = joined.later;
          file = subst (λ (xs : List ℕ). IsFile xs joined.later) (sym c.is_rest)
              (rw (header_starts c.header c.after c.is_header) file);
          members = refl;
        },
      )
