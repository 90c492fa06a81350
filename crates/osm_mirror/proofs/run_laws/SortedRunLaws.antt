-- A file that is split into files in sequence holds the union of their sets.
use Rattle.std.proofs.Common.{◌≡◌, ⊎_elim, ℕ, true, List, [], ◌∷◌, ◌++◌, map, sym, ap, ◌∙◌}
use Rattle.std.proofs.Common.{append_assoc, append-nil, None}
use Rattle.std.proofs.lemmas.List.{append_cancel_right}
use Rattle.std.proofs.lemmas.Grind.{flat_map-append}
use Rattle.osm_model.specs.Data.{VersionData}
use Rattle.osm_model.specs.VersionSet.{VersionSet}
use Rattle.osm_model.specs.Pairwise.{Pairwise}
use Rattle.opl_line.specs.Delimiter.{is_line_end}
use Rattle.opl_line.specs.Spells.{Spells}
use Rattle.o5_codec.specs.declared.read.segment.Segment.{Segment}
use Rattle.o5_codec.specs.Decoder.{new_segment}
use Rattle.osm_files.specs.Opl.{OplFile}
use Rattle.osm_files.specs.O5.{end_byte, reset_byte, FilePart, Reset, Lone, Skipped, Object, part_bytes, PartsSpell, O5File}
use Rattle.osm_files.specs.Units.{InOpl, BeforeHeader, start_of}
use Rattle.osm_files.specs.Held.{IsFile, Holds}
use Rattle.osm_files.specs.SortedRun.{SplitAfterLine, SplitAtReset, IsSplitInto}
use Rattle.osm_files.specs.Lines.{lines_of}
use Rattle.osm_files.specs.Spell.{spell}
use Rattle.osm_files.proofs.FileLaws.{Header}
use Rattle.osm_files.proofs.JoinLaws.{lines_after, header_starts, bytes_of, after_header, starts_as}
use Rattle.osm_files.proofs.JoinLaws.{starts_with_reset}
use Rattle.osm_files.proofs.SpellLaws.{held_is_one_set}
use Rattle.osm_merge.specs.Selected.{selection_of}
use Rattle.osm_merge.specs.ToCome.{VersionsToCome}
use Rattle.osm_merge.specs.Union as merged
use Rattle.osm_mirror.specs.run.Job.{union_of}
use Rattle.osm_mirror.specs.run.SortedRuns.{SortedRunsHoldTheFile, SortedRunsWriteTheFile}
use Rattle.osm_mirror.proofs.run_laws.SourceLaws.{members, union_given_is}

-- ---- lines
module _ {X Y : Type 0} (R : X → Y → Type 0) where
  pairwise_append : (xs more : List X) (ys others : List Y) → Pairwise R xs ys → Pairwise R more others →
      Pairwise R (xs ++ more) (ys ++ others)
  pairwise_append [] more [] others h g = g
  pairwise_append [] more (y ∷ ys) others h g = absurd h
  pairwise_append (x ∷ xs) more [] others h g = absurd h
  pairwise_append (x ∷ xs) more (y ∷ ys) others h g = (h.0, pairwise_append xs more ys others h.1 g)

module _ (last : ℕ) (ends : is_line_end last ≡ true) (front : List ℕ) where
  opl_joined : (rest : List ℕ) (earlier later : List VersionData) → OplFile (front ++ last ∷ []) earlier → OplFile rest later
      → OplFile (front ++ last ∷ rest) (earlier ++ later)
  opl_joined rest earlier later one other =
      let first : lines_of (front ++ last ∷ []) ≡ lines_of front = lines_after last ends front [] ∙ append-nil (lines_of front) in
      rw (lines_after last ends front rest) (pairwise_append Spells (lines_of front) (lines_of rest) earlier later (rw first at one) other)

-- ---- data sets
module _ (more : List FilePart) (later : List VersionData) (spelled : PartsSpell new_segment more later) where
  parts_joined : (s : Segment) (parts : List FilePart) (earlier : List VersionData) → PartsSpell s parts earlier
      → PartsSpell s (parts ++ Reset ∷ more) (earlier ++ later)
  parts_joined s [] earlier h = rw h spelled
  parts_joined s (Reset ∷ parts) earlier h = parts_joined new_segment parts earlier h
  parts_joined s (Lone b ∷ parts) earlier h = (h.0, parts_joined s parts earlier h.1)
  parts_joined s (Skipped b size content ∷ parts) earlier h = (h.0, h.1, parts_joined s parts earlier h.2)
  parts_joined s (Object k size content ∷ parts) earlier (sized, (v, next, others, is, spells, h)) =
      (sized, (v, next, others ++ later, ap (λ vs. vs ++ later) is, spells, parts_joined next parts others h))

-- what a file has before its end byte
before_end : (front : List ℕ) (versions : List VersionData) (file : O5File (front ++ end_byte ∷ []) versions) →
    front ≡ file.header ++ bytes_of file.parts
before_end front versions file =
    append_cancel_right front (file.header ++ bytes_of file.parts) (end_byte ∷ [])
    (file.whole ∙ sym (append_assoc file.header (bytes_of file.parts) (end_byte ∷ [])))

o5_joined : (front header more : List ℕ) (earlier later : List VersionData) → Header header
    → O5File (front ++ end_byte ∷ []) earlier → O5File (header ++ more) later → O5File (front ++ reset_byte ∷ more) (earlier ++ later)
o5_joined front header more earlier later is one other =
    let before = before_end front earlier one in
    let after = after_header header more later is other in
    record {
      header = one.header;
      parts = one.parts ++ Reset ∷ other.parts;
      begins = one.begins;
      whole =
          (λ i. before i ++ reset_byte ∷ after i)
          ∙ append_assoc one.header (bytes_of one.parts) (reset_byte ∷ (bytes_of other.parts ++ end_byte ∷ []))
          ∙ ap (λ x. one.header ++ x) (sym (append_assoc (bytes_of one.parts) (reset_byte ∷ bytes_of other.parts) (end_byte ∷ [])))
          ∙ ap (λ x. one.header ++ (x ++ end_byte ∷ [])) (sym (flat_map-append part_bytes one.parts (Reset ∷ other.parts)));
      spelled = parts_joined other.parts later other.spelled new_segment one.parts earlier one.spelled;
    }

-- ---- files
module _ (file rest bytes : List ℕ) (earlier later : List VersionData) (one : IsFile file earlier) (other : IsFile rest later) where
  -- A file that is split after a line has the versions of both parts.
  pub after_line : SplitAfterLine file rest bytes → IsFile bytes (earlier ++ later)
  after_line c =
      let is : bytes ≡ c.front ++ c.last ∷ rest = c.whole ∙ ap (λ f. f ++ rest) c.is_file ∙ append_assoc c.front (c.last ∷ []) rest in
      let starts : start_of (c.front ++ c.last ∷ rest) ≡ InOpl = starts_as c.front rest c.last ∙ ap start_of (sym c.is_file) ∙ c.lines in
      let lines : OplFile file earlier = rw c.lines at one in
      rw (is, starts) (opl_joined c.last c.ends c.front rest earlier later (rw c.is_file at lines) (rw c.more_lines at other))

  -- A file that is split at a reset has the versions of both parts.
  pub at_reset : SplitAtReset file rest bytes → IsFile bytes (earlier ++ later)
  at_reset c =
      let starts : start_of (c.front ++ reset_byte ∷ c.after) ≡ BeforeHeader =
      starts_with_reset c.front c.after (ap start_of (sym c.is_file) ∙ c.data_sets) in
      let sets : O5File file earlier = rw c.data_sets at one in
      let more : O5File (c.header ++ c.after) later = rw (header_starts c.header c.after c.is_header) at (rw c.is_rest at other) in
      rw (c.whole, starts) (o5_joined c.front c.header c.after earlier later c.is_header (rw c.is_file at sets) more)

-- ---- the law
-- files in sequence together spell these versions, and hold these sets
record Spelled (bytes : List ℕ) (held : List VersionSet) : Type 0 where
  given : List VersionsToCome
  file : IsFile bytes (merged.versions_of given)
  sets : held ≡ map members given

spelled : (bytes : List ℕ) (files : List (List ℕ)) (held : List VersionSet) → IsSplitInto bytes files → Pairwise Holds files held →
    Spelled bytes held
spelled bytes [] held split holds = absurd split
spelled bytes (file ∷ files) [] split holds = absurd holds
spelled bytes (file ∷ []) (s ∷ t ∷ held) split holds = absurd holds.1
spelled bytes (file ∷ []) (s ∷ []) split (h, holds) = record {
  given = record { list = h.versions; refusal = None } ∷ [];
  file = rw (split, append-nil) h.file;
  sets = ap (λ set. set ∷ []) h.members;
}
spelled bytes (file ∷ next ∷ files) (s ∷ held) (rest, split, more_split) (h, holds) =
    let more = spelled rest (next ∷ files) held more_split holds in
    let later : List VersionData = merged.versions_of more.given in
    record {
      given = record { list = h.versions; refusal = None } ∷ more.given;
      file = ⊎_elim (after_line file rest bytes h.versions later h.file more.file)
          (at_reset file rest bytes h.versions later h.file more.file) split;
      sets = λ i. h.members i ∷ more.sets i;
    }

-- A file that is split into sorted runs holds the union of the runs' sets.
pub sorted_runs_hold_the_file : SortedRunsHoldTheFile
unfolding merged.union_given
sorted_runs_hold_the_file bytes files held short split holds =
    let all = spelled bytes files held split holds in
    record {
      short = short;
      versions = merged.versions_of all.given;
      file = all.file;
      members = ap union_of all.sets ∙ sym (union_given_is all.given);
    }

-- A run over the sorted runs of a file writes what the run over the file writes.
pub sorted_runs_write_the_file : SortedRunsWriteTheFile
sorted_runs_write_the_file bytes set files held h split holds selection format =
    ap (λ s. spell format (selection_of selection s)) (held_is_one_set bytes set (union_of held) h
    (sorted_runs_hold_the_file bytes files held h.short split holds))
