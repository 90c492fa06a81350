-- The object that the first of some lines names.
use Rattle.std.proofs.Common.{◌≡◌, ◌⊎◌, inl, inr, ⊎_elim, ℕ, zero, suc, ◌+◌, ◌-◌, ◌≤◌, ◌<◌, true, false, not, cond, min}
use Rattle.std.proofs.Common.{List, [], ◌∷◌, ◌++◌, length, take, drop, filter, position, get_or, refl, sym, ap, ◌∙◌, subst, arith}
use Rattle.std.proofs.Common.{Option, Some, None, IfSome, Result, Ok, Err, option_map, append_assoc, length-drop, add-one}
use Rattle.std.proofs.Math.Seq.{take-append-add}
use Rattle.std.proofs.lemmas.Bool.{cases_lt}
use Rattle.std.proofs.lemmas.List.{drop-drop, drop-append-le}
use Rattle.std.proofs.lemmas.List.Elements.{filter-append}
use Rattle.osm_model.specs.declared.object.Key.{Key}
use Rattle.osm_model.specs.declared.object.Object.{Object}
use Rattle.osm_model.specs.Data.{VersionData}
use Rattle.osm_model.specs.Pairwise.{Pairwise}
use Rattle.opl_line.specs.Delimiter.{is_line_end, with_byte, split_first, pieces_of}
use Rattle.opl_line.specs.Reading.{is_skipped}
use Rattle.opl_line.specs.Spells.{Spells, SpellsNothing}
use Rattle.opl_line.proofs.CutLaws.{cut_split}
use Rattle.osm_files.specs.declared.fault.Fault.{Fault}
use Rattle.osm_files.specs.declared.lines.Front.{Front}
use Rattle.osm_files.specs.declared.lines.Front.TheVariants.{Named, Skipped}
use Rattle.osm_files.specs.LineKey.{first_line, named_object, IsKeyOfFront}
use Rattle.osm_files.specs.Lines.{after_line, line_size, line_start_from, bytes_between, IsLineStart, IsFirstOf, IsFirstIn}
use Rattle.osm_files.specs.Lines.{lines_of, named_first, first_named, object_of_first}
use Rattle.osm_files.specs.Lines.{IsFirstBetween, HaveSameLines, AreSkipped, IsFront, IsLineRead}
use Rattle.osm_files.specs.Opl.{is_read, OplFile}
use Rattle.osm_files.specs.Position.{fault_of}
use Rattle.osm_files.specs.ReadAt.{AreAt}
use Rattle.osm_files.specs.Stream.{Verdict}
use Rattle.osm_files.specs.Units.{InOpl, units}
use Rattle.osm_files.proofs.KeyOrderLaws.{front_line, ended_lines, no_lines}
use Rattle.osm_files.proofs.LineKeyLaws.{spelled_names}
use Rattle.osm_files.proofs.LineStarts.{size_some}
use Rattle.osm_files.proofs.UnitLaws.{ReadsAs, opl_reads}

reads_lines : (offset : ℕ) (bytes : List ℕ) → ReadsAs (units None InOpl offset bytes) (OplFile bytes)
unfolding units
reads_lines offset bytes = opl_reads (length bytes) bytes offset (omega arith)

-- the lines of a file spell one list of versions
pub one_opl : (bytes : List ℕ) (versions others : List VersionData) → OplFile bytes versions → OplFile bytes others → versions ≡ others
one_opl bytes versions others file other =
    let h = reads_lines 0 bytes in sym (h.read versions file).1 ∙ (h.read others other).1

pub refusal_input : (input : ℕ) (refusal : Option Verdict) (fault : Fault) → option_map (fault_of input) refusal ≡ Some fault →
    fault.input ≡ input
refusal_input input None fault is = absurd (let e : None ≡ Some fault = is in cc)
refusal_input input (Some v) fault is = let e : fault_of input v ≡ fault = cc in ap (λ f. f.input) (sym e)

-- ---- the first line
after_split : (bytes : List ℕ) → filter is_read (pieces_of is_line_end (split_first is_line_end bytes).1) ≡ lines_of (after_line bytes)
after_split [] = refl
after_split (b ∷ bytes) =
    elim (is_line_end b) as (λ t. filter is_read (pieces_of is_line_end
    (cond t ([], Some bytes) (with_byte b (split_first is_line_end bytes))).1) ≡ lines_of (cond t bytes (after_line bytes))) [
      | true ↦ refl
      | false ↦ after_split bytes
    ]

-- the lines of some bytes are the first one and those after it
first_lines : (bytes : List ℕ) → lines_of bytes ≡ filter is_read (first_line bytes ∷ []) ++ lines_of (after_line bytes)
first_lines bytes =
    ap (filter is_read) (cut_split is_line_end bytes)
    ∙ filter-append is_read (first_line bytes ∷ []) (pieces_of is_line_end (split_first is_line_end bytes).1)
    ∙ ap (λ ls. filter is_read (first_line bytes ∷ []) ++ ls) (after_split bytes)

-- lines after a line that is skipped
after_skipped : (line : List ℕ) (more : List (List ℕ)) → is_skipped line ≡ true → filter is_read (line ∷ []) ++ more ≡ more
after_skipped line more skipped = ap (λ t. cond (not t) (line ∷ []) [] ++ more) skipped

skips_line : (bytes : List ℕ) → is_skipped (first_line bytes) ≡ true → HaveSameLines bytes (after_line bytes)
skips_line bytes skipped = first_lines bytes ∙ after_skipped (first_line bytes) (lines_of (after_line bytes)) skipped

-- The first line, if it isn't skipped, names the first object.
line_first : (bytes : List ℕ) (object : Object) → is_skipped (first_line bytes) ≡ false
    → named_object (first_line bytes) ≡ Some object → first_named bytes ≡ Some object
line_first bytes object kept names =
    let line = first_line bytes in
    ap named_first (first_lines bytes)
    ∙ ap (λ t. named_first (cond (not t) (line ∷ []) [] ++ lines_of (after_line bytes))) kept
    ∙ names

named_versions : (lines : List (List ℕ)) (versions : List VersionData) → Pairwise Spells lines versions
    → named_first lines ≡ object_of_first versions
named_versions [] [] h = refl
named_versions [] (v ∷ versions) h = absurd h
named_versions (line ∷ lines) [] h = absurd h
named_versions (line ∷ lines) (v ∷ versions) h = spelled_names line v h.0

-- The first object that lines name is that of the first version that they spell.
pub first_of_versions : (bytes : List ℕ) (versions : List VersionData) → OplFile bytes versions
    → first_named bytes ≡ object_of_first versions
first_of_versions bytes versions file = named_versions (lines_of bytes) versions file

nothing_first : (bytes : List ℕ) → SpellsNothing (first_line bytes) → (versions : List VersionData) → OplFile bytes versions → ⊥
nothing_first bytes nothing versions file =
    no_lines (first_line bytes) (lines_of (after_line bytes)) nothing versions
    (subst (λ ls. Pairwise Spells ls versions) (first_lines bytes) file)

-- ---- lines at the front of bytes that are skipped
skipped_front : (size : ℕ) (bytes : List ℕ) → (size ≡ 0) ⊎ (get_or bytes 0 0 ≡ 35) → is_skipped (take size bytes) ≡ true
skipped_front zero bytes either = refl
skipped_front (suc n) bytes (inl none) = absurd (omega (arith, none))
skipped_front (suc n) [] (inr first) = refl
skipped_front (suc n) (b ∷ bytes) (inr first) = ap (λ c. is_skipped (c ∷ take n bytes)) first

-- One line more is skipped.
pub skips_on : (bytes : List ℕ) (read size : ℕ) → AreSkipped bytes read → position is_line_end (drop read bytes) ≡ Some size
    → (size ≡ 0) ⊎ (get_or (drop read bytes) 0 0 ≡ 35) → AreSkipped bytes (read + (size + 1))
skips_on bytes read size so_far found either more =
    let rest : List ℕ = drop read bytes in
    let line = front_line rest size found in
    let whole : rest ++ more ≡ take size rest ++ line.end ∷ (drop (size + 1) rest ++ more) =
    ap (λ xs. xs ++ more) line.whole ∙ append_assoc (take size rest) (line.end ∷ drop (size + 1) rest) more in
    so_far more
    ∙ ap lines_of whole
    ∙ ended_lines (take size rest) line.end (drop (size + 1) rest ++ more) line.ends line.one
    ∙ after_skipped (take size rest) (lines_of (drop (size + 1) rest ++ more)) (skipped_front size rest either)
    ∙ ap (λ xs. lines_of (xs ++ more)) (drop-drop (size + 1) read bytes)

-- ---- the first line between two offsets
take_after : (n : ℕ) (bytes : List ℕ) → after_line (take n bytes) ≡ take (n - line_size bytes) (drop (line_size bytes) bytes)
take_after zero bytes = ap (λ k. take k (drop (line_size bytes) bytes)) (let e : 0 ≡ 0 - line_size bytes = omega arith in e)
take_after (suc n) [] = ap (λ k. take k []) (let e : suc n ≡ suc n - 0 = omega arith in e)
take_after (suc n) (b ∷ bytes) =
    elim (is_line_end b) as (λ t. cond t (take n bytes) (after_line (take n bytes))
    ≡ take (suc n - cond t 1 (suc (line_size bytes))) (drop (cond t 1 (suc (line_size bytes))) (b ∷ bytes))) [
      | true ↦ (let e : n ≡ suc n - 1 = omega arith in ap (λ k. take k bytes) e)
      | false ↦ (let e : n - line_size bytes ≡ suc n - suc (line_size bytes) = omega arith in
          take_after n bytes ∙ ap (λ k. take k (drop (line_size bytes) bytes)) e)
    ]

first_ends : (b : ℕ) (bytes : List ℕ) → is_line_end b ≡ true → first_line (b ∷ bytes) ≡ []
first_ends b bytes e = ap (λ t. (cond t ([], Some bytes) (with_byte b (split_first is_line_end bytes))).0) e

first_inside : (b : ℕ) (bytes : List ℕ) → is_line_end b ≡ false → first_line (b ∷ bytes) ≡ b ∷ first_line bytes
first_inside b bytes e = ap (λ t. (cond t ([], Some bytes) (with_byte b (split_first is_line_end bytes))).0) e

take_first : (n : ℕ) (bytes : List ℕ) → line_size bytes ≤ n → first_line (take (line_size bytes) bytes) ≡ first_line (take n bytes)
take_first zero bytes few = (let none : line_size bytes ≡ 0 = omega (arith, few) in ap (λ k. first_line (take k bytes)) none)
take_first (suc n) [] few = refl
take_first (suc n) (b ∷ bytes) few =
    elim (is_line_end b) as (λ t. is_line_end b ≡ t → cond t 1 (suc (line_size bytes)) ≤ suc n
    → first_line (take (cond t 1 (suc (line_size bytes))) (b ∷ bytes)) ≡ first_line (b ∷ take n bytes)) [
      | true ↦ λ e less. first_ends b [] e ∙ sym (first_ends b (take n bytes) e)
      | false ↦ λ e less. first_inside b (take (line_size bytes) bytes) e
          ∙ ap (λ xs. b ∷ xs) (take_first n bytes (omega (arith, less)))
          ∙ sym (first_inside b (take n bytes) e)
    ] refl few

-- between the offsets `offset` and `end` of a file, the first line ends before `next`
module _ (all : List ℕ) (offset end next : ℕ) (some : offset < end) (is : next ≡ min (line_start_from (offset + 1) all) end) where
  abbrev later : List ℕ
  later = drop offset all

  at : next ≡ min (offset + line_size later) end
  at = is ∙ ap (λ n. min (line_start_from n all) end) (add-one offset)

  pub after_next : after_line (bytes_between offset end all) ≡ bytes_between next end all
  after_next =
      take_after (end - offset) later
      ∙ ⊎_elim
      (λ before.
      let here : offset + line_size later ≡ next = omega (arith, at, before) in
      let left : end - offset - line_size later ≡ end - next = omega (arith, here) in
      ap (λ n. take n (drop (line_size later) later)) left
      ∙ ap (take (end - next)) (drop-drop (line_size later) offset all ∙ ap (λ n. drop n all) here))
      (λ late.
      let none : end - offset - line_size later ≡ 0 = omega (arith, late) in
      let over : end - next ≡ 0 = omega (arith, at, late) in
      ap (λ n. take n (drop (line_size later) later)) none ∙ sym (ap (λ n. take n (drop next all)) over))
      (cases_lt (offset + line_size later) end)

  pub first_next : first_line (bytes_between offset next all) ≡ first_line (bytes_between offset end all)
  first_next =
      ⊎_elim
      (λ before. ap (λ n. first_line (take n later)) (let e : next - offset ≡ line_size later = omega (arith, at, before) in e)
      ∙ take_first (end - offset) later (omega (arith, before)))
      (λ late. ap (λ n. first_line (take n later)) (let e : next - offset ≡ end - offset = omega (arith, at, late) in e))
      (cases_lt (offset + line_size later) end)

-- ---- the front of lines
-- bytes that were read at an offset are the front of those up to a later one
front_parts : (all : List ℕ) (offset end : ℕ) (bytes rest : List ℕ) → drop offset all ≡ bytes ++ rest → length bytes ≤ end - offset
    → bytes_between offset end all ≡ bytes ++ take (end - offset - length bytes) rest
front_parts all offset end bytes rest here few =
    let long : end - offset ≡ length bytes + (end - offset - length bytes) = omega (arith, few) in
    ap (take (end - offset)) here ∙ ap (λ n. take n (bytes ++ rest)) long ∙ take-append-add bytes rest (end - offset - length bytes)

after_front : (all : List ℕ) (offset end size : ℕ) (bytes rest : List ℕ) → drop offset all ≡ bytes ++ rest
    → length bytes ≤ end - offset → size ≤ length bytes
    → drop size bytes ++ take (end - offset - length bytes) rest ≡ bytes_between (offset + size) end all
after_front all offset end size bytes rest here few within =
    let left : end - (offset + size) ≡ length (drop size bytes) + (end - offset - length bytes) =
    omega (arith, few, within, length-drop size bytes) in
    sym (ap (λ n. take n (drop (offset + size) all)) left
    ∙ ap (take (length (drop size bytes) + (end - offset - length bytes)))
    (sym (drop-drop size offset all) ∙ ap (drop size) here ∙ drop-append-le size bytes rest within)
    ∙ take-append-add (drop size bytes) rest (end - offset - length bytes))

-- the result of reading the front of lines, if the file's bytes are known
abbrev pub FrontOf : Type 0 → Option (List ℕ) → ℕ → ℕ → Result Front Fault → Type 0
FrontOf Fails known offset end result = IfSome known (λ all. end ≤ length all → IsFront Fails all offset end result)

module _ (Fails : Type 0) (offset end : ℕ) (bytes : List ℕ) (few : length bytes ≤ end - offset) where
  pub front_named : (known : Option (List ℕ)) (key : Key) → AreAt known offset bytes → IsKeyOfFront bytes key
      → FrontOf Fails known offset end (Ok (Named key.object))
  front_named None key at h = tt
  front_named (Some all) key (rest, is_at) h = λ within.
      let more = take (end - offset - length bytes) rest in
      let is = h more in
      ap first_named (front_parts all offset end bytes rest is_at few) ∙ line_first (bytes ++ more) key.object is.kept is.names

  pub front_skipped : (known : Option (List ℕ)) (size : ℕ) → AreAt known offset bytes → size ≤ length bytes → AreSkipped bytes size
      → FrontOf Fails known offset end (Ok (Skipped (offset + size)))
  front_skipped None size at within h = tt
  front_skipped (Some all) size (rest, is_at) within h = λ inside.
      ap lines_of (front_parts all offset end bytes rest is_at few)
      ∙ h (take (end - offset - length bytes) rest)
      ∙ ap lines_of (after_front all offset end size bytes rest is_at few within)

comment_first : (bytes more : List ℕ) → 0 < length bytes → get_or bytes 0 0 ≡ 35 → is_skipped (first_line (bytes ++ more)) ≡ true
comment_first [] more some first = absurd (omega (arith, some))
comment_first (b ∷ bytes) more some first =
    subst (λ c. is_skipped (first_line (c ∷ (bytes ++ more))) ≡ true) (sym first) refl

module _ (Fails : Type 0) (offset end next found : ℕ) (some : offset < end) where
  -- a line begins at `found`, which is within the bounds of `next`
  clamped_start : (all : List ℕ) → end ≤ length all → found ≡ min (line_start_from (offset + 1) all) end
      → (offset + 1 ≤ found → found ≤ end → next ≡ found) → next ≡ min (line_start_from (offset + 1) all) end
  clamped_start all within is same =
      let one : 1 ≤ line_size (drop offset all) = size_some (drop offset all) (omega (arith, length-drop offset all, some, within)) in
      let step : line_start_from (offset + 1) all ≡ offset + line_size (drop offset all) =
      ap (λ n. line_start_from n all) (add-one offset) in
      same (omega (arith, is, one, step, some)) (omega (arith, is)) ∙ is

  -- A comment is skipped.
  pub front_comment : (known : Option (List ℕ)) (bytes : List ℕ) → IsLineStart known (offset + 1) end found
      → (offset + 1 ≤ found → found ≤ end → next ≡ found) → length bytes ≤ end - offset → AreAt known offset bytes → 0 < length bytes
      → get_or bytes 0 0 ≡ 35 → FrontOf Fails known offset end (Ok (Skipped next))
  front_comment None bytes is same few at long first = tt
  front_comment (Some all) bytes is same few (rest, is_at) long first = λ within.
      let there = clamped_start all within is same in
      let lines : List ℕ = bytes_between offset end all in
      let skipped : is_skipped (first_line lines) ≡ true =
      ap (λ xs. is_skipped (first_line xs)) (front_parts all offset end bytes rest is_at few)
      ∙ comment_first bytes (take (end - offset - length bytes) rest) long first in
      subst (HaveSameLines lines) (after_next all offset end next some there) (skips_line lines skipped)

  line_front : (all : List ℕ) → next ≡ min (line_start_from (offset + 1) all) end → (result : Result Front Fault)
      → IsLineRead Fails (first_line (bytes_between offset next all)) next result → IsFront Fails all offset end result
  line_front all there (Ok (Named object)) (kept, names) =
      let same = first_next all offset end next some there in
      line_first (bytes_between offset end all) object (ap is_skipped (sym same) ∙ kept) (ap named_object (sym same) ∙ names)
  line_front all there (Ok (Skipped n)) (same, skipped) =
      let lines : List ℕ = bytes_between offset end all in
      subst (λ m. HaveSameLines lines (bytes_between m end all)) (sym same)
      (subst (HaveSameLines lines) (after_next all offset end next some there)
      (skips_line lines (ap is_skipped (sym (first_next all offset end next some there)) ∙ skipped)))
  line_front all there (Err fault) (inl failure) = inl failure
  line_front all there (Err fault) (inr nothing) =
      inr (nothing_first (bytes_between offset end all) (subst SpellsNothing (first_next all offset end next some there) nothing))

  -- Another line is read.
  pub front_line_read : (known : Option (List ℕ)) → IsLineStart known (offset + 1) end found
      → (offset + 1 ≤ found → found ≤ end → next ≡ found) → (result : Result Front Fault)
      → IfSome known (λ all. next ≤ length all → IsLineRead Fails (first_line (bytes_between offset next all)) next result)
      → FrontOf Fails known offset end result
  front_line_read None is same result h = tt
  front_line_read (Some all) is same result h = λ within.
      let there = clamped_start all within is same in
      line_front all there result (h (omega (arith, there, within)))

-- ---- the search
-- the lines from `start` on are those from `offset` on, but for lines that are skipped, if the file's bytes are known
abbrev pub Passed : Option (List ℕ) → ℕ → ℕ → ℕ → Type 0
Passed known start end offset = IfSome known (λ all. start ≤ end → end ≤ length all
    → (offset ≤ end) × HaveSameLines (bytes_between start end all) (bytes_between offset end all))

pub none_passed : (known : Option (List ℕ)) (start end : ℕ) → Passed known start end start
none_passed None start end = tt
none_passed (Some all) start end = λ rises within. (rises, refl)

pub more_passed : (Fails : Type 0) (known : Option (List ℕ)) (start end offset next : ℕ) → Passed known start end offset
    → next ≤ end → FrontOf Fails known offset end (Ok (Skipped next)) → Passed known start end next
more_passed Fails None start end offset next h few front = tt
more_passed Fails (Some all) start end offset next h few front = λ rises within.
    (few, (h rises within).1 ∙ front within)

through : (Fails : Type 0) (lines others : List ℕ) (result : Result (Option Object) Fault) → HaveSameLines lines others
    → IsFirstIn Fails others result → IsFirstIn Fails lines result
through Fails lines others (Ok first) same h = subst (IsFirstOf first) (sym same) h
through Fails lines others (Err fault) same (inl failure) = inl failure
through Fails lines others (Err fault) same (inr none) =
    inr (λ versions file. none versions (subst (λ ls. Pairwise Spells ls versions) same file))

pub first_found : (Fails : Type 0) (known : Option (List ℕ)) (start end offset : ℕ) (object : Object) → Passed known start end offset
    → FrontOf Fails known offset end (Ok (Named object)) → IsFirstBetween Fails known start end (Ok (Some object))
first_found Fails None start end offset object h front = tt
first_found Fails (Some all) start end offset object h front = λ rises within.
    through Fails (bytes_between start end all) (bytes_between offset end all) (Ok (Some object)) (h rises within).1 (front within)

pub first_refused : (Fails : Type 0) (known : Option (List ℕ)) (start end offset : ℕ) (fault : Fault) → Passed known start end offset
    → FrontOf Fails known offset end (Err fault) → IsFirstBetween Fails known start end (Err fault)
first_refused Fails None start end offset fault h front = tt
first_refused Fails (Some all) start end offset fault h front = λ rises within.
    through Fails (bytes_between start end all) (bytes_between offset end all) (Err fault) (h rises within).1 (front within)
