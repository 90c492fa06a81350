-- A search passes lines without a version by their first bytes.
use Rattle.std.proofs.Common.{◌≡◌, ◌⊎◌, inl, inr, ⊎_elim, ℕ, zero, suc, ◌+◌, ◌-◌, ◌≤◌, ◌<◌, true, false, cond, min, List, [], ◌∷◌, ◌++◌}
use Rattle.std.proofs.Common.{length, take, drop, filter, slice_index, refl, sym, ap, ◌∙◌, subst, arith, Option, Some, None, IfSome, Err}
use Rattle.std.proofs.Common.{add-one, length-drop}
use Rattle.std.proofs.lemmas.Bool.{cases_Bool}
use Rattle.std.proofs.lemmas.List.Elements.{filter-append}
use Rattle.osm_model.specs.Pairwise.{Pairwise}
use Rattle.opl_line.specs.Delimiter.{is_line_end, with_byte, split_first, pieces_of}
use Rattle.opl_line.specs.Spells.{Spells, SpellsNothing}
use Rattle.opl_line.proofs.CutLaws.{cut_split}
use Rattle.opl_line.proofs.SpellsLaws.{refused_spells_nothing}
use Rattle.osm_files.specs.declared.fault.Fault.{Fault}
use Rattle.osm_files.specs.declared.key_order.RisingLines.{RisingLines}
use Rattle.osm_files.specs.KeyOrder.{Rise, IsNoFile, EndsLine, bytes_between, IsOrderOfLines, ArePassed, PassesLine}
use Rattle.osm_files.specs.Lines.{line_size, line_start_from, IsLineStart}
use Rattle.osm_files.specs.Opl.{is_read}
use Rattle.osm_files.specs.ReadAt.{AreAt}
use Rattle.osm_files.specs.UnknownLine.{begins_unknown, unknown_reason}
use Rattle.osm_files.proofs.KeyOrderLaws.{IsOneLine, ends_both, rise_both, no_file_after, last_rises, line_rises, no_lines, steps_past}
use Rattle.osm_files.proofs.KeyOrderLaws.{RisesTo, RisesIn, between_both, window_between}
use Rattle.osm_files.proofs.UnknownLineLaws.{first_of, kept, not_an_end, unknown_read}

-- ---- a line that begins no version
no_file_from : (bytes : List ℕ) → SpellsNothing (split_first is_line_end bytes).0 → IsNoFile bytes
no_file_from bytes nothing versions file =
    let s = split_first is_line_end bytes in
    no_lines s.0 (filter is_read (pieces_of is_line_end s.1)) nothing versions
    (subst (λ ls. Pairwise Spells ls versions)
    (ap (filter is_read) (cut_split is_line_end bytes) ∙ filter-append is_read (s.0 ∷ []) (pieces_of is_line_end s.1)) file)

spells_nothing : (b : ℕ) (line : List ℕ) → begins_unknown b ≡ true → SpellsNothing (b ∷ line)
spells_nothing b line unknown = record {
  kept = kept b line unknown;
  none = λ v spelled. refused_spells_nothing (b ∷ line) (unknown_reason (b ∷ line)) v (unknown_read b line unknown) spelled;
}

unknown_no_file : (b : ℕ) (more : List ℕ) → begins_unknown b ≡ true → IsNoFile (b ∷ more)
unknown_no_file b more unknown =
    let first : (split_first is_line_end (b ∷ more)).0 ≡ b ∷ (split_first is_line_end more).0 =
    ap (λ t. (cond t ([], Some more) (with_byte b (split_first is_line_end more))).0) (not_an_end b unknown) in
    no_file_from (b ∷ more) (subst SpellsNothing (sym first) (spells_nothing b (split_first is_line_end more).0 unknown))

-- Bytes with such a line at their front are no file.
pub unknown_front : (front : List ℕ) → 0 < length front → begins_unknown (slice_index front 0) ≡ true → (more : List ℕ)
    → IsNoFile (front ++ more)
unknown_front front some unknown more =
    subst (λ xs. IsNoFile (xs ++ more)) (sym (first_of front some))
    (unknown_no_file (slice_index front 0) (drop 1 front ++ more) unknown)

-- ---- a comment
-- a front of a line: it has no line end; or its last byte is the line's end
abbrev LinePiece : List ℕ → ℕ → Type 0
LinePiece bytes n = (IsOneLine (take n bytes) × (line_size bytes ≤ n → length bytes ≤ n))
    ⊎ ((line : List ℕ) × (end : ℕ) × (is_line_end end ≡ true) × IsOneLine line × (take n bytes ≡ line ++ end ∷ []))

one_longer : (b : ℕ) (line : List ℕ) → is_line_end b ≡ false → IsOneLine line → IsOneLine (b ∷ line)
one_longer b line inside one =
    ap (λ t. cond t ([], Some line) (with_byte b (split_first is_line_end line))) inside ∙ ap (with_byte b) one

size_inside : (b : ℕ) (bytes : List ℕ) → is_line_end b ≡ false → line_size (b ∷ bytes) ≡ suc (line_size bytes)
size_inside b bytes inside = ap (λ t. cond t 1 (suc (line_size bytes))) inside

size_ended : (b : ℕ) (bytes : List ℕ) → is_line_end b ≡ true → line_size (b ∷ bytes) ≡ 1
size_ended b bytes ends = ap (λ t. cond t 1 (suc (line_size bytes))) ends

piece_longer : (b : ℕ) (bytes : List ℕ) (n : ℕ) → is_line_end b ≡ false → LinePiece bytes n → LinePiece (b ∷ bytes) (suc n)
piece_longer b bytes n inside (inl (one, whole)) = inl (
  one_longer b (take n bytes) inside one,
  λ few. (let all = whole (omega (arith, few, size_inside b bytes inside)) in omega (arith, all)),
)
piece_longer b bytes n inside (inr (line, end, ends, one, is)) =
    inr (b ∷ line, end, ends, one_longer b line inside one, ap (λ xs. b ∷ xs) is)

size_is_some : (b : ℕ) (bytes : List ℕ) → 1 ≤ line_size (b ∷ bytes)
size_is_some b bytes =
    ⊎_elim (λ ends. omega (arith, size_ended b bytes ends)) (λ inside. omega (arith, size_inside b bytes inside))
    (cases_Bool (is_line_end b))

line_piece : (bytes : List ℕ) (n : ℕ) → n ≤ line_size bytes → LinePiece bytes n
line_piece [] zero few = inl (refl, λ less. omega arith)
line_piece [] (suc n) few = inl (refl, λ less. omega arith)
line_piece (b ∷ bytes) zero few = inl (refl, λ none. absurd (omega (arith, none, size_is_some b bytes)))
line_piece (b ∷ bytes) (suc n) few =
    ⊎_elim
    (λ ends. inr (
      [],
      b,
      ends,
      refl,
      ap (λ m. b ∷ take m bytes) (let e : n ≡ 0 = omega (arith, few, size_ended b bytes ends) in e),
    ))
    (λ inside. piece_longer b bytes n inside (line_piece bytes n (omega (arith, few, size_inside b bytes inside))))
    (cases_Bool (is_line_end b))

module _ (all : List ℕ) (offset end next : ℕ) (less : offset < end) (long : end ≤ length all) (xs : List ℕ)
    (at : drop offset all ≡ 35 ∷ xs) (is : next ≡ min (offset + suc (line_size xs)) end) where
  abbrev count : ℕ
  count = next - offset - 1

  comment : bytes_between all offset next ≡ 35 ∷ take count xs
  comment = ap (take (next - offset)) at
      ∙ ap (λ n. take n (35 ∷ xs)) (let e : next - offset ≡ suc count = omega (arith, is, less) in e)

  comment_passed : LinePiece xs count → ArePassed all offset next end
  comment_passed (inl (one, whole)) = (
    λ before. subst (λ ys. Rise before ys before) (sym comment)
        (last_rises before before (35 ∷ take count xs) (one_longer 35 (take count xs) refl one)
        (steps_past before (35 ∷ take count xs) refl)),
    λ more. (let far = whole (omega (arith, is, more)) in
        absurd (omega (arith, far, is, more, long, ap length at, length-drop offset all))),
  )
  comment_passed (inr (line, last, ends, one, same)) =
      let piece : bytes_between all offset next ≡ (35 ∷ line) ++ last ∷ [] = comment ∙ ap (λ ys. 35 ∷ ys) same in (
        λ before. subst (λ ys. Rise before ys before) (sym piece)
            (line_rises before before (35 ∷ line) last ends (one_longer 35 line refl one) (steps_past before (35 ∷ line) refl)),
        λ more. inr (35 ∷ line, last, ends, piece),
      )

  passed_by : ArePassed all offset next end
  passed_by = comment_passed (line_piece xs count (omega (arith, is)))

comment_is_passed : (all : List ℕ) (offset end found next : ℕ) (front : List ℕ) → offset < end → end ≤ length all
    → AreAt (Some all) offset front → 0 < length front → slice_index front 0 ≡ 35 → IsLineStart (Some all) (offset + 1) end found
    → (offset + 1 ≤ found → found ≤ end → next ≡ found) → ArePassed all offset next end
comment_is_passed all offset end found next front less long (rest, at) some first start same =
    let xs : List ℕ = drop 1 front ++ rest in
    let here : drop offset all ≡ 35 ∷ xs =
    at ∙ ap (λ ys. ys ++ rest) (first_of front some ∙ ap (λ b. b ∷ drop 1 front) first) in
    let there : line_start_from (offset + 1) all ≡ offset + suc (line_size xs) =
    ap (λ n. line_start_from n all) (add-one offset) ∙ ap (λ ys. offset + line_size ys) here in
    let is : found ≡ min (offset + suc (line_size xs)) end = start ∙ ap (λ n. min n end) there in
    let next_is : next ≡ found = same (omega (arith, is, less)) (omega (arith, is)) in
    passed_by all offset end next less long xs here (next_is ∙ is)

-- The lines up to the one after a comment hold no version, if the file's bytes are known.
pub comment_passed_in : (known : Option (List ℕ)) (offset end found next : ℕ) (front : List ℕ) → offset < end → 0 < length front
    → slice_index front 0 ≡ 35 → IsLineStart known (offset + 1) end found → (offset + 1 ≤ found → found ≤ end → next ≡ found)
    → IfSome known (λ all. end ≤ length all → AreAt (Some all) offset front → ArePassed all offset next end)
comment_passed_in None offset end found next front less some first start same = tt
comment_passed_in (Some all) offset end found next front less some first start same = λ long at.
    comment_is_passed all offset end found next front less long at some first start same

-- ---- the search
module _ (all : List ℕ) (start end : ℕ) (lines : RisingLines) (after_start : start ≤ lines.end) (less : lines.end < end)
    (risen : RisesTo all start end lines) where
  rises_past : (next : ℕ) (now : RisingLines) → now ≡ (record { end = next; last = lines.last }) → lines.end ≤ next
      → ArePassed all lines.end next end → RisesTo all start end now
  rises_past next now is later passed =
      let both = between_both all start lines.end next after_start later in
      subst (RisesTo all start end) (sym is) (record {
        ends = λ more. subst EndsLine (sym both)
            (ends_both (bytes_between all start lines.end) (bytes_between all lines.end next) (risen.ends less) (passed.1 more));
        rise = subst (λ xs. Rise None xs lines.last) (sym both)
            (rise_both None lines.last lines.last (bytes_between all start lines.end) (bytes_between all lines.end next)
            (risen.ends less) risen.rise (passed.0 lines.last));
      })

  refused_past : (Fails : Type 0) (window : List ℕ) (fault : Fault) → AreAt (Some all) lines.end window → lines.end + length window ≤ end
      → PassesLine Fails all lines.end end window (Err fault) → IsOrderOfLines Fails all start end (Err fault)
  refused_past Fails window fault at fits (inl failure) = inl failure
  refused_past Fails window fault at fits (inr never) =
      let whole = between_both all start lines.end end after_start (omega (arith, less))
      ∙ ap (λ xs. bytes_between all start lines.end ++ xs) (window_between all lines.end end window at fits) in
      inr (subst IsNoFile (sym whole)
      (no_file_after (bytes_between all start lines.end) (window ++ take (end - (lines.end + length window)) at.0) (risen.ends less)
      (never _)))

-- ---- the search, if the file's bytes are known
module _ (Fails : Type 0) (start end : ℕ) (lines : RisingLines) (window : List ℕ) (after_start : start ≤ lines.end)
    (less : lines.end < end) where
  -- A comment was passed.
  pub past_comment : (known : Option (List ℕ)) (next : ℕ) (now : RisingLines) → now ≡ (record { end = next; last = lines.last })
      → lines.end ≤ next → AreAt known lines.end window → RisesIn known start end lines
      → IfSome known (λ all. end ≤ length all → AreAt (Some all) lines.end window → ArePassed all lines.end next end)
      → RisesIn known start end now
  past_comment None next now is later at risen passed = tt
  past_comment (Some all) next now is later at risen passed = λ long.
      rises_past all start end lines after_start less (risen long) next now is later (passed long at)

  -- A line begins no version, or the file couldn't be read.
  pub past_nothing : (known : Option (List ℕ)) (fault : Fault) → lines.end + length window ≤ end → AreAt known lines.end window
      → RisesIn known start end lines
      → IfSome known (λ all. end ≤ length all → AreAt (Some all) lines.end window → PassesLine Fails all lines.end end window (Err fault))
      → IfSome known (λ all. end ≤ length all → IsOrderOfLines Fails all start end (Err fault))
  past_nothing None fault fits at risen passes = tt
  past_nothing (Some all) fault fits at risen passes = λ long.
      refused_past all start end lines after_start less (risen long) Fails window fault at fits (passes long at)
