-- The lines of a file from an offset on, if those from a later offset on are known.
use Rattle.std.proofs.Common.{◌≡◌, inl, inr, ⊎_elim, ℕ, ◌≤◌, ◌<◌, List, [], ◌∷◌, ◌++◌, length, drop, sym, ap, ◌∙◌, subst, arith}
use Rattle.std.proofs.Common.{Option, Some, None, Ok, Err, IfSome}
use Rattle.std.specs.Option.{option_or}
use Rattle.osm_model.specs.declared.object.Object.{Object}
use Rattle.osm_model.specs.Pairwise.{Pairwise}
use Rattle.opl_line.specs.Spells.{Spells}
use Rattle.osm_files.specs.declared.fault.Fault.{Fault}
use Rattle.osm_files.specs.Lines.{lines_from, line_start_from, bytes_between, IsLineStart, IsFirstOf, IsFirstBetween}
use Rattle.osm_files.specs.Lines.{lines_of, named_first, first_named}
use Rattle.osm_files.specs.Opl.{OplFile}
use Rattle.osm_files.proofs.JoinLaws.{split_pairs}
use Rattle.osm_files.proofs.LineStarts.{start_lines, start_begins, start_within, starts_rise, one_start, end_begins}
use Rattle.osm_mirror.specs.declared.run.lines_from.LinesFrom.{LinesFrom}
use Rattle.osm_mirror.specs.run.Cut.{IsCutRefusal}
use Rattle.osm_mirror.specs.run.LinesFrom.{AreLinesOf}
use Rattle.osm_mirror.proofs.run_laws.SplitLineLaws.{split_lines, lines_split, split_versions, split_between, at_end}

-- The lines from an offset on are those up to a later one, and the later lines.
parts_between : (all : List ℕ) (offset later : ℕ) → offset ≤ later → later ≤ length all →
    lines_of (lines_from offset all)
    ≡ lines_of (bytes_between (line_start_from offset all) (line_start_from later all) all) ++ lines_of (lines_from later all)
parts_between all offset later low within =
    let start = line_start_from offset all in
    let end = line_start_from later all in
    let split = split_between all start end (starts_rise offset later all low) (start_begins later all within) in
    ap lines_of (sym (start_lines offset all))
    ∙ lines_split (drop start all) (drop end all) split
    ∙ ap (λ rest. lines_of (bytes_between start end all) ++ lines_of rest) (start_lines later all)

-- ---- the first object
named_joined : (object : Object) (earlier later : List (List ℕ)) → named_first earlier ≡ Some object →
    named_first (earlier ++ later) ≡ Some object
named_joined object [] later is = absurd (let no : None ≡ Some object = is in cc)
named_joined object (line ∷ earlier) later is = is

object_joined : (earlier later : List (List ℕ)) (first object : Option Object) → IsFirstOf first earlier →
    object ≡ named_first later → option_or first object ≡ named_first (earlier ++ later)
object_joined earlier later None object none is = is ∙ ap (λ ls. named_first (ls ++ later)) (sym none)
object_joined earlier later (Some first) object first_is is = sym (named_joined first earlier later first_is)

-- ---- the search
-- At the end of a file there are no lines.
pub lines_at_end : (bytes : Option (List ℕ)) (lines : LinesFrom) → IfSome bytes (λ all. lines.offset ≡ length all) →
    lines.start ≡ lines.offset → lines.object ≡ None → AreLinesOf bytes lines
lines_at_end None lines size start object = tt
lines_at_end (Some all) lines size start object = record {
  within = omega (arith, size);
  start = start ∙ size ∙ sym (end_begins all) ∙ ap (λ n. line_start_from n all) (sym size);
  object = object ∙ sym (ap (λ n. first_named (lines_from n all)) size ∙ ap first_named (at_end all));
}

-- If no line begins before the later offset, the lines are the same.
pub same_lines : (bytes : Option (List ℕ)) (offset start : ℕ) (later : LinesFrom) → offset ≤ later.offset → AreLinesOf bytes later →
    IsLineStart bytes offset later.offset start → later.offset ≤ start →
    AreLinesOf bytes (record { offset = offset; start = later.start; object = later.object })
same_lines None offset start later low h is late = tt
same_lines (Some all) offset start later low h is late =
    let same = one_start offset later.offset all low (omega (arith, is, late)) in
    let lines : lines_from offset all ≡ lines_from later.offset all =
    sym (start_lines offset all) ∙ ap (λ n. drop n all) (sym same) ∙ start_lines later.offset all in
    let near = h.within in record {
      within = omega (arith, low, near);
      start = h.start ∙ same;
      object = h.object ∙ sym (ap first_named lines);
    }

-- If lines begin before the later offset, they name the first object; if they are skipped, it is that of the later lines.
pub more_lines : (Fails : Type 0) (bytes : Option (List ℕ)) (offset start : ℕ) (later : LinesFrom) (first : Option Object) →
    offset ≤ later.offset → AreLinesOf bytes later → IsLineStart bytes offset later.offset start → start < later.offset →
    IsFirstBetween Fails bytes start later.start (Ok first) →
    AreLinesOf bytes (record { offset = offset; start = start; object = option_or first later.object })
more_lines Fails None offset start later first low h is early found = tt
more_lines Fails (Some all) offset start later first low h is early found =
    let near = h.within in
    let begins : start ≡ line_start_from offset all = omega (arith, is, early) in
    let rise = starts_rise offset later.offset all low in
    let few = start_within later.offset all near in
    let end = h.start in
    let here : IsFirstOf first (lines_of (bytes_between (line_start_from offset all) (line_start_from later.offset all) all)) =
    subst (λ (b : List ℕ). IsFirstOf first (lines_of b)) (λ i. bytes_between (begins i) (end i) all)
    (found (omega (arith, begins, end, rise)) (omega (arith, end, few))) in record {
      within = omega (arith, low, near);
      start = begins;
      object =
          object_joined (lines_of (bytes_between (line_start_from offset all) (line_start_from later.offset all) all))
          (lines_of (lines_from later.offset all)) first later.object here h.object
          ∙ ap named_first (sym (parts_between all offset later.offset low near));
    }

-- If the lines before the later ones can't be read, the file can't be.
pub lines_refuse : (Fails : Type 0) (bytes : Option (List ℕ)) (offset start : ℕ) (later : LinesFrom) (fault : Fault) →
    offset ≤ later.offset → AreLinesOf bytes later → IsLineStart bytes offset later.offset start → start < later.offset →
    IsFirstBetween Fails bytes start later.start (Err fault) → IsCutRefusal Fails bytes fault
lines_refuse Fails None offset start later fault low h is early refused = tt
lines_refuse Fails (Some all) offset start later fault low h is early refused =
    let near = h.within in
    let begins : start ≡ line_start_from offset all = omega (arith, is, early) in
    let rise = starts_rise offset later.offset all low in
    let few = start_within later.offset all near in
    let end = h.start in
    ⊎_elim (λ failure. inl failure)
    (λ none. inr (λ versions file.
    let from = split_versions all (lines_from offset all) (split_lines offset all) versions file in
    let parts = split_pairs (lines_of (bytes_between (line_start_from offset all) (line_start_from later.offset all) all))
    (lines_of (lines_from later.offset all)) from.later
    (subst (λ ls. Pairwise Spells ls from.later) (parts_between all offset later.offset low near) from.second) in
    none parts.earlier (subst (λ (b : List ℕ). OplFile b parts.earlier) (λ i. bytes_between (sym begins i) (sym end i) all) parts.first)))
    (refused (omega (arith, begins, end, rise)) (omega (arith, end, few)))
