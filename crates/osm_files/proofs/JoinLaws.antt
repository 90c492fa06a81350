-- The lines and the data sets of files that are joined.
use Rattle.std.proofs.Common.{◌≡◌, ⊎_elim, ℕ, Bool, true, false, cond, List, [], ◌∷◌, ◌++◌, drop, filter, refl, sym, ap, ◌∙◌}
use Rattle.std.proofs.Common.{subst, append_assoc, append-nil}
use Rattle.std.specs.List.{flat_map}
use Rattle.std.proofs.lemmas.List.Elements.{filter-append}
use Rattle.osm_model.specs.Data.{VersionData}
use Rattle.osm_model.specs.Pairwise.{Pairwise}
use Rattle.opl_line.specs.Delimiter.{with_first_byte, split_all, is_line_end}
use Rattle.opl_line.specs.Spells.{Spells}
use Rattle.opl_line.proofs.CutLaws.{cut_split}
use Rattle.osm_files.specs.Lines.{lines_of}
use Rattle.osm_files.specs.Opl.{is_read, OplFile}
use Rattle.osm_files.specs.O5.{end_byte, reset_byte, FilePart, part_bytes, O5File}
use Rattle.osm_files.specs.SortedRun.{SplitAfterLine}
use Rattle.osm_files.specs.Units.{InOpl, BeforeHeader, start_of}
use Rattle.osm_files.proofs.FileLaws.{Header, drop_header}

-- ---- lines
module _ (p : ℕ → Bool) (last : ℕ) (ends : p last ≡ true) (rest : List ℕ) where
  cut_after : (front : List ℕ) → split_all p (front ++ last ∷ rest) ≡ split_all p front ++ split_all p rest
  cut_after [] = rw ends refl
  cut_after (b ∷ front) =
      let all : List (List ℕ) = split_all p (front ++ last ∷ rest) in
      elim (p b) as (λ t. cond t ([] ∷ all) (with_first_byte b all) ≡ cond t ([] ∷ split_all p front)
      (with_first_byte b (split_all p front)) ++ split_all p rest) [
        | true ↦ ap (λ pieces. [] ∷ pieces) (cut_after front)
        | false ↦ ap (with_first_byte b) (cut_after front) ∙ rw (cut_split p front) refl
      ]

module _ (last : ℕ) (ends : is_line_end last ≡ true) (front : List ℕ) where
  -- The lines of bytes that are joined at an end of a line are the lines of both parts.
  pub lines_after : (rest : List ℕ) → lines_of (front ++ last ∷ rest) ≡ lines_of front ++ lines_of rest
  lines_after rest = ap (filter is_read) (cut_after is_line_end last ends rest front)
      ∙ filter-append is_read (split_all is_line_end front) (split_all is_line_end rest)

-- the bytes up to the end of a line
pub record Ended (front : List ℕ) : Type 0 where
  pub text : List ℕ
  pub last : ℕ
  pub ends : is_line_end last ≡ true
  pub is : front ≡ text ++ last ∷ []

-- versions in two parts: `front` spells the first part, and `rest` the second
pub record SplitVersions (front rest : List ℕ) (versions : List VersionData) : Type 0 where
  pub earlier : List VersionData
  pub later : List VersionData
  pub are : versions ≡ earlier ++ later
  pub first : OplFile front earlier
  pub second : OplFile rest later

pub record SplitPairs (xs more : List (List ℕ)) (versions : List VersionData) : Type 0 where
  pub earlier : List VersionData
  pub later : List VersionData
  pub are : versions ≡ earlier ++ later
  pub first : Pairwise Spells xs earlier
  pub second : Pairwise Spells more later

pub split_pairs : (xs more : List (List ℕ)) (versions : List VersionData) → Pairwise Spells (xs ++ more) versions →
    SplitPairs xs more versions
split_pairs [] more versions h = record { earlier = []; later = versions; are = refl; first = tt; second = h }
split_pairs (x ∷ xs) more [] h = absurd h
split_pairs (x ∷ xs) more (v ∷ versions) (one, h) = let others = split_pairs xs more versions h in record {
  earlier = v ∷ others.earlier;
  later = others.later;
  are = ap (λ vs. v ∷ vs) others.are;
  first = (one, others.first);
  second = others.second;
}

pub split_ended : (bytes front rest : List ℕ) (versions : List VersionData) → bytes ≡ front ++ rest → Ended front → OplFile bytes versions →
    SplitVersions front rest versions
split_ended bytes front rest versions whole_input e file =
    let is : bytes ≡ e.text ++ e.last ∷ rest = whole_input ∙ ap (λ f. f ++ rest) e.is ∙ append_assoc e.text (e.last ∷ []) rest in
    let all : OplFile (e.text ++ e.last ∷ rest) versions = subst (λ (b : List ℕ). OplFile b versions) is file in
    let pairs = split_pairs (lines_of e.text) (lines_of rest) versions
    (subst (λ (ls : List (List ℕ)). Pairwise Spells ls versions) (lines_after e.last e.ends e.text rest) all) in
    let last_one : lines_of (e.text ++ e.last ∷ []) ≡ lines_of e.text =
    lines_after e.last e.ends e.text [] ∙ append-nil (lines_of e.text) in
    record {
      earlier = pairs.earlier;
      later = pairs.later;
      are = pairs.are;
      first = subst (λ (b : List ℕ). OplFile b pairs.earlier) (sym e.is)
          (subst (λ (ls : List (List ℕ)). Pairwise Spells ls pairs.earlier) (sym last_one) pairs.first);
      second = pairs.second;
    }

-- ---- data sets
module _ (header rest : List ℕ) (is : Header header) where
  pub header_starts : start_of (header ++ rest) ≡ BeforeHeader
  header_starts = ⊎_elim (λ e. ap (λ h. start_of (h ++ rest)) e) (λ e. ap (λ h. start_of (h ++ rest)) e) is

abbrev pub bytes_of : List FilePart → List ℕ
bytes_of parts = flat_map part_bytes parts

pub after_header : (header more : List ℕ) (versions : List VersionData) → Header header → (file : O5File (header ++ more) versions)
    → more ≡ bytes_of file.parts ++ end_byte ∷ []
after_header header more versions is file =
    sym (drop_header header more is) ∙ ap (drop 7) file.whole ∙ drop_header file.header (bytes_of file.parts ++ end_byte ∷ []) file.begins

-- ---- files
-- the first byte determines the grammar, whatever comes after it
pub starts_as : (front rest : List ℕ) (last : ℕ) → start_of (front ++ last ∷ rest) ≡ start_of (front ++ last ∷ [])
starts_as [] rest last = refl
starts_as (b ∷ front) rest last = refl

pub starts_with_reset : (front rest : List ℕ) → start_of (front ++ end_byte ∷ []) ≡ BeforeHeader →
    start_of (front ++ reset_byte ∷ rest) ≡ BeforeHeader
starts_with_reset [] rest at = refl
starts_with_reset (b ∷ front) rest at = at

-- Bytes that are split after a line are OPL.
pub split_starts : (file rest bytes : List ℕ) → SplitAfterLine file rest bytes → start_of bytes ≡ InOpl
split_starts file rest bytes c =
    ap start_of (c.whole ∙ ap (λ f. f ++ rest) c.is_file ∙ append_assoc c.front (c.last ∷ []) rest)
    ∙ starts_as c.front rest c.last ∙ ap start_of (sym c.is_file) ∙ c.lines
