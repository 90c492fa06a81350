-- The search for the offset at which a file is cut.
use Rattle.std.proofs.Common.{◌≡◌, ◌⊎◌, inl, inr, ⊎_elim, ℕ, zero, suc, ◌+◌, ◌-◌, ◌/◌, ◌≤◌, ◌<◌, min, Bool, true, false, not, cond, List}
use Rattle.std.proofs.Common.{[], ◌∷◌, ◌==◌}
use Rattle.std.proofs.Common.{◌++◌, length, take, drop, refl, sym, ap, ◌∙◌, subst, arith, Option, Some, None, IfSome, append-nil}
use Rattle.std.proofs.Common.{append_assoc, take-append-drop, get_or}
use Rattle.std.proofs.lemmas.Bool.{false≢true, cases_lt, not-true, lt-ltb, le-ltb}
use Rattle.std.specs.declared.cmp.Ordering.{Ordering}
use Rattle.std.specs.declared.cmp.Ordering.TheVariants.{Less, Equal, Greater}
use Rattle.std.specs.Ordering.{ordering_then, is_lt}
use Rattle.std.specs.List.{filter, AllByRecursion}
use Rattle.std.specs.List.Sorted.{IsSorted}
use Rattle.std.proofs.lemmas.List.{append_cancel_right}
use Rattle.osm_model.specs.declared.object.Object.{Object}
use Rattle.osm_model.specs.Data.{VersionData}
use Rattle.osm_model.specs.Order.{key_cmp, object_cmp, object_of, object_order}
use Rattle.osm_model.specs.Pairwise.{Pairwise}
use Rattle.osm_model.proofs.ObjectLaws.{not_below}
use Rattle.opl_line.specs.Delimiter.{is_line_end, split_first, pieces_of, with_byte}
use Rattle.opl_line.specs.Spells.{Spells}
use Rattle.opl_line.proofs.CutLaws.{cut_split}
use Rattle.osm_files.specs.declared.fault.Fault.{Fault}
use Rattle.osm_files.specs.ReadAt.{AreAt, AreLast}
use Rattle.osm_files.specs.FileRuns.{IsReadFailure}
use Rattle.osm_files.specs.Lines.{after_line, lines_from, line_start_from, BeginsLine, first_named, object_of_first}
use Rattle.osm_files.specs.Opl.{is_read, OplFile}
use Rattle.osm_files.specs.Units.{InOpl, BeforeHeader, start_of}
use Rattle.osm_files.proofs.FileLaws.{Rises, sorted_all}
use Rattle.osm_files.proofs.FirstLaws.{one_opl, first_of_versions}
use Rattle.osm_files.proofs.JoinLaws.{SplitVersions}
use Rattle.osm_files.proofs.LineStarts.{start_lines, start_begins, starts_rise, next_drop, one_start, start_late}
use Rattle.osm_files.proofs.StartLaws.{opl_starts}
use Rattle.osm_merge.specs.Slice.{reaches, is_under}
use Rattle.osm_mirror.specs.declared.run.lines_from.LinesFrom.{LinesFrom}
use Rattle.osm_mirror.specs.run.Bounds.{first_object}
use Rattle.osm_mirror.specs.run.Cut.{halved, cut_of, IsCutAt, IsCutOf, IsCutRefusal, BeginsLinesOf, BeginsAs}
use Rattle.osm_mirror.specs.run.Cut.{IsUnderBefore, first_is_under}
use Rattle.osm_mirror.specs.run.LinesFrom.{AreLines, AreLinesOf, is_below}
use Rattle.osm_mirror.proofs.run_laws.SplitLineLaws.{split_lines, split_versions, at_end}

-- ---- one offset further
-- the lines from the next offset on are the same, or the first one is left out
next_lines : (offset : ℕ) (bytes : List ℕ) → (lines_from (suc offset) bytes ≡ lines_from offset bytes)
    ⊎ (lines_from (suc offset) bytes ≡ after_line (lines_from offset bytes))
next_lines zero bytes = inr refl
next_lines (suc offset) bytes =
    ⊎_elim (λ none. inl (ap after_line none.1 ∙ sym (ap after_line none.0)))
    (λ (b, is). elim (is_line_end b) as (λ t. is_line_end b ≡ t →
    (after_line (drop (suc offset) bytes) ≡ after_line (drop offset bytes))
    ⊎ (after_line (drop (suc offset) bytes) ≡ after_line (after_line (drop offset bytes)))) [
      | true ↦ λ e. inr (ap after_line (sym (ap after_line is
          ∙ ap (λ t. cond t (drop (suc offset) bytes) (after_line (drop (suc offset) bytes))) e)))
      | false ↦ λ e. inl (sym (ap after_line is ∙ ap (λ t. cond t (drop (suc offset) bytes) (after_line (drop (suc offset) bytes))) e))
    ] refl) (next_drop offset bytes)

-- the bytes after the first end of a line, as a rest
abbrev rest_of : Option (List ℕ) → List ℕ
rest_of None = []
rest_of (Some rest) = rest

rest_lengthened : (b : ℕ) (s : List ℕ × Option (List ℕ)) → rest_of s.1 ≡ rest_of (with_byte b s).1
rest_lengthened b (line, rest) = refl

after_is : (bytes : List ℕ) → after_line bytes ≡ rest_of (split_first is_line_end bytes).1
after_is [] = refl
after_is (b ∷ bytes) =
    elim (is_line_end b) as (λ t. cond t bytes (after_line bytes) ≡ rest_of
    (cond t ([], Some bytes) (with_byte b (split_first is_line_end bytes))).1) [
      | true ↦ refl
      | false ↦ after_is bytes ∙ rest_lengthened b (split_first is_line_end bytes)
    ]

-- without its first line, a file spells all its versions, or all but the first
record Shorter (rest : List ℕ) (versions : List VersionData) : Type 0 where
  later : List VersionData
  file : OplFile rest later
  are : (versions ≡ later) ⊎ ((v : VersionData) × (versions ≡ v ∷ later))

taken : (line : List ℕ) (pieces : List (List ℕ)) (versions : List VersionData) → Pairwise Spells (line ∷ filter is_read pieces) versions →
    (later : List VersionData) × Pairwise Spells (filter is_read pieces) later
    × ((versions ≡ later) ⊎ ((v : VersionData) × (versions ≡ v ∷ later)))
taken line pieces [] h = absurd h
taken line pieces (v ∷ versions) h = (versions, h.1, inr (v, refl))

shorter_pairs : (line : List ℕ) (pieces : List (List ℕ)) (versions : List VersionData) →
    Pairwise Spells (filter is_read (line ∷ pieces)) versions →
    (later : List VersionData) × Pairwise Spells (filter is_read pieces) later
    × ((versions ≡ later) ⊎ ((v : VersionData) × (versions ≡ v ∷ later)))
shorter_pairs line pieces versions =
    elim (is_read line) as (λ t. Pairwise Spells (cond t (line ∷ filter is_read pieces) (filter is_read pieces)) versions →
    (later : List VersionData) × Pairwise Spells (filter is_read pieces) later
    × ((versions ≡ later) ⊎ ((v : VersionData) × (versions ≡ v ∷ later)))) [
      | true ↦ taken line pieces versions
      | false ↦ λ h. (versions, h, inl refl)
    ]

rest_pieces : (rest : Option (List ℕ)) (later : List VersionData) → Pairwise Spells (filter is_read (pieces_of is_line_end rest)) later →
    OplFile (rest_of rest) later
rest_pieces None later h = h
rest_pieces (Some bytes) later h = h

shorter : (bytes : List ℕ) (versions : List VersionData) → OplFile bytes versions → Shorter (after_line bytes) versions
shorter bytes versions file =
    let s = split_first is_line_end bytes in
    let pairs = shorter_pairs s.0 (pieces_of is_line_end s.1) versions
    (subst (λ (ls : List (List ℕ)). Pairwise Spells (filter is_read ls) versions) (cut_split is_line_end bytes) file) in
    record {
      later = pairs.0;
      file = subst (λ (b : List ℕ). OplFile b pairs.0) (sym (after_is bytes)) (rest_pieces s.1 pairs.0 pairs.1);
      are = pairs.2;
    }

-- ---- sorted versions and a bound
not_less : (r s : Ordering) → is_lt (ordering_then r s) ≡ false → is_lt r ≡ false
not_less Less s e = absurd (false≢true (sym e))
not_less Equal s e = refl
not_less Greater s e = refl

module _ (bound : Object) where
  abbrev under : VersionData → Bool
  under = is_under (Some bound)

  abbrev over : VersionData → Bool
  over = reaches (Some bound)

  over_on : (v w : VersionData) → is_lt (key_cmp w v) ≡ false → over v ≡ true → over w ≡ true
  over_on v w up h = ap not (not_below (object_of w) (object_of v) bound (not_less (object_cmp w v) _ up) (not-true _ h))

  under_on : (v w : VersionData) → is_lt (key_cmp w v) ≡ false → under w ≡ true → under v ≡ true
  under_on v w up h =
      elim (under v) as (λ t. under v ≡ t → t ≡ true) [
        | true ↦ λ e. refl
        | false ↦ λ e. absurd (false≢true (sym (not-true (under w) (over_on v w up (ap not e))) ∙ h))
      ] refl

  all_over : (v : VersionData) (vs : List VersionData) → Rises (Some v) vs → over v ≡ true → AllByRecursion (λ w. over w ≡ true) vs
  all_over v [] up h = tt
  all_over v (w ∷ vs) up h = let next = over_on v w up.0 h in (next, all_over w vs up.1 next)

  rises_later : (before : Option VersionData) (xs ys : List VersionData) → Rises before (xs ++ ys) → (b : Option VersionData) × Rises b ys
  rises_later before [] ys up = (before, up)
  rises_later before (x ∷ xs) ys up = rises_later (Some x) xs ys up.1

  all_under : (x : VersionData) (xs ys : List VersionData) (v : VersionData) → Rises (Some x) (xs ++ v ∷ ys) → under v ≡ true →
      AllByRecursion (λ w. under w ≡ true) (x ∷ xs)
  all_under x [] ys v up h = (under_on x v up.0 h, tt)
  all_under x (y ∷ xs) ys v up h =
      let others = all_under y xs ys v up.1 h in (under_on x y up.0 others.0, others)

  earlier_under : (xs ys : List VersionData) (v : VersionData) → Rises None (xs ++ v ∷ ys) → under v ≡ true →
      AllByRecursion (λ w. under w ≡ true) xs
  earlier_under [] ys v up h = tt
  earlier_under (x ∷ xs) ys v up h = all_under x xs ys v up.1 h

  under_append : (xs : List VersionData) (v : VersionData) → AllByRecursion (λ w. under w ≡ true) xs → under v ≡ true →
      AllByRecursion (λ w. under w ≡ true) (xs ++ v ∷ [])
  under_append [] v h k = (k, tt)
  under_append (x ∷ xs) v h k = (h.0, under_append xs v h.1 k)

  filter_under : (xs ys : List VersionData) → AllByRecursion (λ w. under w ≡ true) xs → AllByRecursion (λ w. over w ≡ true) ys →
      filter under (xs ++ ys) ≡ xs
  filter_under [] [] h k = refl
  filter_under [] (y ∷ ys) h k = rw (not-true (under y) k.0) (filter_under [] ys h k.1)
  filter_under (x ∷ xs) ys h k = rw h.0 (ap (λ t. x ∷ t) (filter_under xs ys h.1 k))

  filter_over : (xs ys : List VersionData) → AllByRecursion (λ w. under w ≡ true) xs → AllByRecursion (λ w. over w ≡ true) ys →
      filter over (xs ++ ys) ≡ ys
  filter_over [] [] h k = refl
  filter_over [] (y ∷ ys) h k = rw k.0 (ap (λ t. y ∷ t) (filter_over [] ys h k.1))
  filter_over (x ∷ xs) ys h k = rw (ap not h.0) (filter_over xs ys h.1 k)

  -- ---- the search
  -- the lines from an offset on spell the versions after some that are all below the bound
  pub record Low (bytes : List ℕ) (versions : List VersionData) (offset : ℕ) : Type 0 where
    pub earlier : List VersionData
    pub later : List VersionData
    pub are : versions ≡ earlier ++ later
    pub lines : OplFile (lines_from offset bytes) later
    pub below : AllByRecursion (λ w. under w ≡ true) earlier

  -- the lines from an offset on spell versions of which none is below the bound
  pub record High (bytes : List ℕ) (versions : List VersionData) (offset : ℕ) : Type 0 where
    pub earlier : List VersionData
    pub later : List VersionData
    pub are : versions ≡ earlier ++ later
    pub lines : OplFile (lines_from offset bytes) later
    pub above : AllByRecursion (λ w. over w ≡ true) later

  module _ (bytes : List ℕ) (versions : List VersionData) (file : OplFile bytes versions) (sorted : IsSorted key_cmp versions) where
    low_first : Low bytes versions 0
    low_first = record { earlier = []; later = versions; are = refl; lines = file; below = tt }

    parts_at : (offset : ℕ) → SplitVersions (split_lines offset bytes).front (lines_from offset bytes) versions
    parts_at offset = split_versions bytes (lines_from offset bytes) (split_lines offset bytes) versions file

    low_next : (offset : ℕ) (earlier later : List VersionData) → versions ≡ earlier ++ later → OplFile (lines_from offset bytes) later →
        true ≡ first_is_under bound later → Low bytes versions (suc offset)
    low_next offset earlier [] are lines is = absurd (false≢true (sym is))
    low_next offset earlier (v ∷ later) are lines is =
        let below = earlier_under earlier later v (subst (Rises None) are (sorted_all versions sorted)) (sym is) in
        ⊎_elim (λ same. record {
          earlier = earlier;
          later = v ∷ later;
          are = are;
          lines = subst (λ (b : List ℕ). OplFile b (v ∷ later)) (sym same) lines;
          below = below;
        })
        (λ next. let rest = shorter (lines_from offset bytes) (v ∷ later) lines in
        let lines_rest : OplFile (lines_from (suc offset) bytes) rest.later =
        subst (λ (b : List ℕ). OplFile b rest.later) (sym next) rest.file in
        ⊎_elim (λ all. record {
          earlier = earlier;
          later = rest.later;
          are = are ∙ ap (λ t. earlier ++ t) all;
          lines = lines_rest;
          below = below;
        })
        (λ (w, one). record {
          earlier = earlier ++ w ∷ [];
          later = rest.later;
          are = are ∙ ap (λ t. earlier ++ t) one ∙ sym (append_assoc earlier (w ∷ []) rest.later);
          lines = lines_rest;
          below = under_append earlier w below (let same : v ≡ w = cc in rw (sym same) (sym is));
        }) rest.are) (next_lines offset bytes)

    pub low_step : (offset : ℕ) → ((later : List VersionData) → OplFile (lines_from offset bytes) later →
        true ≡ first_is_under bound later) →
        Low bytes versions (suc offset)
    low_step offset first = let parts = parts_at offset in
        low_next offset parts.earlier parts.later parts.are parts.second (first parts.later parts.second)

    high_at : (offset : ℕ) (earlier later : List VersionData) → versions ≡ earlier ++ later → OplFile (lines_from offset bytes) later →
        false ≡ first_is_under bound later → High bytes versions offset
    high_at offset earlier [] are lines is = record { earlier = earlier; later = []; are = are; lines = lines; above = tt }
    high_at offset earlier (v ∷ later) are lines is =
        let up = rises_later None earlier (v ∷ later) (subst (Rises None) are (sorted_all versions sorted)) in
        let over_it : over v ≡ true = ap not (sym is) in
        record {
          earlier = earlier;
          later = v ∷ later;
          are = are;
          lines = lines;
          above = (over_it, all_over v later up.1.1 over_it);
        }

    pub high_step : (offset : ℕ) → ((later : List VersionData) → OplFile (lines_from offset bytes) later →
        false ≡ first_is_under bound later) →
        High bytes versions offset
    high_step offset first = let parts = parts_at offset in
        high_at offset parts.earlier parts.later parts.are parts.second (first parts.later parts.second)

    -- ---- no line that begins before the cut has a first version that isn't below the bound
    -- the first version of the lines from an offset on is below the bound
    abbrev Under : ℕ → Type 0
    Under offset = (later : List VersionData) → OplFile (lines_from offset bytes) later → first_is_under bound later ≡ true

    first_of_two : (w : VersionData) (later : List VersionData) → Rises (Some w) later → first_is_under bound later ≡ true →
        under w ≡ true
    first_of_two w [] up h = absurd (false≢true h)
    first_of_two w (v ∷ later) up h = under_on w v up.0 h

    -- a line more at the front of some lines
    line_more : (offset : ℕ) (later rest : List VersionData) (w : VersionData) → later ≡ w ∷ rest →
        OplFile (lines_from offset bytes) later →
        first_is_under bound rest ≡ true → first_is_under bound later ≡ true
    line_more offset later rest w is lines h =
        let parts = parts_at offset in
        let same : parts.later ≡ w ∷ rest = one_opl (lines_from offset bytes) parts.later later parts.second lines ∙ is in
        let up = rises_later None parts.earlier (w ∷ rest)
        (subst (Rises None) (parts.are ∙ ap (λ t. parts.earlier ++ t) same) (sorted_all versions sorted)) in
        ap (first_is_under bound) is ∙ first_of_two w rest up.1.1 h

    under_before : (offset : ℕ) → Under (suc offset) → Under offset
    under_before offset next later lines =
        ⊎_elim (λ same. next later (subst (λ (b : List ℕ). OplFile b later) (sym same) lines))
        (λ further. let rest = shorter (lines_from offset bytes) later lines in
        let below = next rest.later (subst (λ (b : List ℕ). OplFile b rest.later) (sym further) rest.file) in
        ⊎_elim (λ all. ap (first_is_under bound) all ∙ below)
        (λ (w, one). line_more offset later rest.later w one lines below) rest.are) (next_lines offset bytes)

    under_down : (more offset : ℕ) → Under (offset + more) → Under offset
    under_down zero offset h = let e : offset + 0 ≡ offset = omega arith in subst Under e h
    under_down (suc more) offset h =
        let e : offset + suc more ≡ suc (offset + more) = omega arith in
        under_down more offset (under_before (offset + more) (subst Under e h))

    is_first : (low start : ℕ) → start ≡ line_start_from low bytes → (low ≡ 0) ⊎ Under (low - 1) → IsUnderBefore bytes bound start
    is_first low start is last s before line later lines =
        ⊎_elim
        (λ near. ⊎_elim (λ none. absurd (omega (arith, near, none)))
        (λ under_it.
        let e : low - 1 ≡ s + (low - 1 - s) = omega (arith, near) in
        under_down (low - 1 - s) s (subst Under e under_it) later
        (subst (λ (b : List ℕ). OplFile b later) (ap (λ n. drop n bytes) (sym line) ∙ start_lines s bytes) lines)) last)
        (λ far. absurd (let rise = starts_rise low s bytes far in omega (arith, rise, line, is, before)))
        (cases_lt s low)

    cut_is : (offset start : ℕ) → Low bytes versions offset → High bytes versions offset → drop start bytes ≡ lines_from offset bytes →
        OplFile (take start bytes) (filter under versions) × OplFile (drop start bytes) (filter over versions)
    cut_is offset start low high begins =
        let parts = parts_at offset in
        let later : parts.later ≡ low.later = one_opl (lines_from offset bytes) parts.later low.later parts.second low.lines in
        let same : high.later ≡ low.later = one_opl (lines_from offset bytes) high.later low.later high.lines low.lines in
        let earlier : parts.earlier ≡ low.earlier =
        append_cancel_right parts.earlier low.earlier low.later (ap (λ t. parts.earlier ++ t) (sym later) ∙ sym parts.are ∙ low.are) in
        let above : AllByRecursion (λ w. over w ≡ true) low.later = subst (AllByRecursion (λ w. over w ≡ true)) same high.above in
        let front : (split_lines offset bytes).front ≡ take start bytes =
        append_cancel_right (split_lines offset bytes).front (take start bytes) (lines_from offset bytes)
        (sym (split_lines offset bytes).whole ∙ sym (take-append-drop start bytes) ∙ ap (λ r. take start bytes ++ r) begins) in
        let unders : filter under versions ≡ low.earlier = ap (filter under) low.are ∙ filter_under low.earlier low.later low.below above in
        let overs : filter over versions ≡ low.later = ap (filter over) low.are ∙ filter_over low.earlier low.later low.below above in (
          subst (λ (b : List ℕ). OplFile b (filter under versions)) front
              (subst (OplFile (split_lines offset bytes).front) (earlier ∙ sym unders) parts.first),
          subst (λ (b : List ℕ). OplFile b (filter over versions)) (sym begins)
              (subst (OplFile (lines_from offset bytes)) (sym overs) low.lines),
        )

  -- whether the object that the lines from an offset on name first is below the bound
  abbrev IsFirstUnder : List ℕ → ℕ → Bool → Type 0
  IsFirstUnder all offset t = is_below bound (first_object offset all) ≡ t

  under_first : (versions : List VersionData) → is_below bound (object_of_first versions) ≡ first_is_under bound versions
  under_first [] = refl
  under_first (v ∷ versions) = refl

  versions_under : (all : List ℕ) (offset : ℕ) (t : Bool) → IsFirstUnder all offset t → (later : List VersionData) →
      OplFile (lines_from offset all) later → t ≡ first_is_under bound later
  versions_under all offset t is later lines =
      sym is ∙ ap (is_below bound) (first_of_versions (lines_from offset all) later lines) ∙ under_first later

  lines_under : (all : List ℕ) (lines : LinesFrom) (t : Bool) → AreLines all lines → is_below bound lines.object ≡ t →
      IsFirstUnder all lines.offset t
  lines_under all lines t h is = ap (is_below bound) (sym h.object) ∙ is

  -- a sorted file is cut between these offsets
  abbrev Between : List ℕ → ℕ → ℕ → Type 0
  Between all low high = (versions : List VersionData) → OplFile all versions → IsSorted key_cmp versions →
      Low all versions low × High all versions high

  -- the middle between two offsets
  abbrev middle_of : ℕ → ℕ → ℕ
  middle_of low high = low + (high - low) / 2

  -- a search between these offsets ends where the search in all bytes ends
  pub record EndsAlike (all : List ℕ) (low high : ℕ) : Type 0 where
    pub most : ℕ
    pub enough : high - low ≤ most
    pub same : halved most all bound low high ≡ cut_of all bound

  -- one step of the search
  step : (all : List ℕ) (most low high : ℕ) (t : Bool) → low < high → IsFirstUnder all (middle_of low high) t →
      halved (suc most) all bound low high
      ≡ cond t (halved most all bound (min (line_start_from (middle_of low high) all + 1) high) high)
      (halved most all bound low (middle_of low high))
  step all most low high t some is =
      let next : ℕ = halved most all bound (min (line_start_from (middle_of low high) all + 1) high) high in
      let before : ℕ = halved most all bound low (middle_of low high) in
      ap (λ u. cond u (cond (is_below bound (first_object (middle_of low high) all)) next before) (line_start_from high all))
      (lt-ltb low high some)
      ∙ ap (λ u. cond u next before) is

  alike_low : (all : List ℕ) (most low high : ℕ) → low < high → high ≤ length all → IsFirstUnder all (middle_of low high) true →
      high - low ≤ most → halved most all bound low high ≡ cut_of all bound →
      EndsAlike all (min (line_start_from (middle_of low high) all + 1) high) high
  alike_low all zero low high some within is enough same = absurd (omega (arith, some, enough))
  alike_low all (suc most) low high some within is enough same =
      let late = start_late (middle_of low high) all (omega (arith, some, within)) in
      record {
        most = most;
        enough = omega (arith, late, enough, some);
        same = sym (step all most low high true some is) ∙ same;
      }

  alike_high : (all : List ℕ) (most low high : ℕ) → low < high → IsFirstUnder all (middle_of low high) false →
      high - low ≤ most → halved most all bound low high ≡ cut_of all bound → EndsAlike all low (middle_of low high)
  alike_high all zero low high some is enough same = absurd (omega (arith, some, enough))
  alike_high all (suc most) low high some is enough same = record {
    most = most;
    enough = omega (arith, enough, some);
    same = sym (step all most low high false some is) ∙ same;
  }

  -- a search whose offsets have met ends
  met : (all : List ℕ) (most low high : ℕ) → high ≤ low → halved most all bound low high ≡ line_start_from high all
  met all zero low high over = refl
  met all (suc most) low high over =
      ap (λ u. cond u (cond (is_below bound (first_object (middle_of low high) all))
      (halved most all bound (min (line_start_from (middle_of low high) all + 1) high) high)
      (halved most all bound low (middle_of low high))) (line_start_from high all)) (le-ltb low high over)

  -- The cut is between `low` and `high`. The first object from the offset before `low` on is below the bound.
  pub record Halves (all : List ℕ) (low high : ℕ) : Type 0 where
    pub within : high ≤ length all
    pub between : Between all low high
    pub last : (low ≡ 0) ⊎ IsFirstUnder all (low - 1) true
    pub ends : EndsAlike all low high

  -- the same, if the file's bytes are known
  abbrev pub Halving : Option (List ℕ) → ℕ → ℕ → Type 0
  Halving bytes low high = (low ≤ high) × IfSome bytes (λ all. Halves all low high)

  -- At first the cut is between 0 and the size.
  pub halving_first : (bytes : Option (List ℕ)) (size : ℕ) → IfSome bytes (λ all. size ≡ length all) → Halving bytes 0 size
  halving_first None size is = (omega arith, tt)
  halving_first (Some all) size is = (
    omega arith,
    record {
      within = omega (arith, is);
      last = inl refl;
      between = λ versions file sorted. (
        low_first all versions file sorted,
        record {
          earlier = versions;
          later = [];
          are = sym (append-nil versions);
          lines = subst (λ (b : List ℕ). OplFile b []) (sym (ap (λ n. lines_from n all) is ∙ at_end all)) tt;
          above = tt;
        },
      );
      ends = record {
        most = size;
        enough = omega arith;
        same = λ i. halved (is i) all bound 0 (is i);
      };
    },
  )

  -- If the first object from `middle` on is below the bound, the cut is after the start of the first line from there on.
  pub halving_low : (bytes : Option (List ℕ)) (low high start next : ℕ) (lines : LinesFrom) → Halving bytes low high → low < high →
      AreLinesOf bytes lines → lines.offset ≡ middle_of low high → is_below bound lines.object ≡ true →
      (lines.offset ≤ lines.start → start ≡ min lines.start (high - 1)) → next ≡ start + 1 → lines.offset ≤ start → start < high →
      Halving bytes next high
  halving_low None low high start next lines h some are at below least is near early = (omega (arith, early, is), tt)
  halving_low (Some all) low high start next lines h some are at below least is near early =
      let middle : ℕ = middle_of low high in
      let first : IsFirstUnder all middle true = subst (λ n. IsFirstUnder all n true) at (lines_under all lines true are below) in
      let begins : lines.start ≡ line_start_from middle all = are.start ∙ ap (λ n. line_start_from n all) at in
      let late = start_late lines.offset all are.within in
      let there = least (omega (arith, late, are.start)) in
      let one = one_start middle start all (omega (arith, near, at)) (omega (arith, there, begins)) in
      let same : lines_from middle all ≡ lines_from start all =
      sym (start_lines middle all) ∙ ap (λ n. drop n all) (sym one) ∙ start_lines start all in
      let here : IsFirstUnder all start true = ap (λ ls. is_below bound (first_named ls)) (sym same) ∙ first in
      let so_far = h.1.ends in (
        omega (arith, early, is),
        record {
          within = h.1.within;
          last = let e : start ≡ next - 1 = omega (arith, is) in inr (subst (λ n. IsFirstUnder all n true) e here);
          between = λ versions file sorted.
              let e : next ≡ suc start = omega (arith, is) in (
                rw e (low_step all versions file sorted start (versions_under all start true here)),
                (h.1.between versions file sorted).1,
              );
          ends =
              let e : min (line_start_from middle all + 1) high ≡ next = omega (arith, there, begins, is, some) in
              subst (λ n. EndsAlike all n high) e
              (alike_low all so_far.most low high some h.1.within first so_far.enough so_far.same);
        },
      )

  -- If the first object from `middle` on is not below the bound, the cut is at `middle` at the latest.
  pub halving_high : (bytes : Option (List ℕ)) (low high : ℕ) (lines : LinesFrom) → Halving bytes low high → low < high →
      AreLinesOf bytes lines → lines.offset ≡ middle_of low high → is_below bound lines.object ≡ false → Halving bytes low lines.offset
  halving_high None low high lines h some are at below = (omega (arith, at), tt)
  halving_high (Some all) low high lines h some are at below =
      let first : IsFirstUnder all lines.offset false = lines_under all lines false are below in
      let so_far = h.1.ends in (
        omega (arith, at),
        record {
          within = are.within;
          last = h.1.last;
          between = λ versions file sorted. (
            (h.1.between versions file sorted).0,
            high_step all versions file sorted lines.offset (versions_under all lines.offset false first),
          );
          ends = subst (λ n. EndsAlike all low n) (sym at) (alike_high all so_far.most low high some
              (subst (λ n. IsFirstUnder all n false) at first) so_far.enough so_far.same);
        },
      )

  -- When `low` reaches the lines that aren't below the bound, the first of them begins at the cut.
  pub halving_ends : (bytes : Option (List ℕ)) (low : ℕ) (high : LinesFrom) → Halving bytes low high.offset → high.offset ≤ low →
      AreLinesOf bytes high → IsCutOf bytes bound high.start
  halving_ends None low high h end are = tt
  halving_ends (Some all) low high h end are = (
    are.start ∙ sym (met all h.1.ends.most low high.offset end) ∙ h.1.ends.same,
    λ versions file sorted.
        let both = h.1.between versions file sorted in
        let e : high.offset ≡ low = omega (arith, h.0, end) in
        let begins : high.start ≡ line_start_from low all = are.start ∙ ap (λ n. line_start_from n all) e in
        let cut = cut_is all versions file sorted low high.start both.0 (subst (High all versions) e both.1)
        (ap (λ n. drop n all) begins ∙ start_lines low all) in (
          cut.0,
          cut.1,
          is_first all versions file sorted low high.start begins
              (⊎_elim (λ none. inl none)
              (λ under_it. inr (λ later lines. sym (versions_under all (low - 1) true under_it later lines))) h.1.last),
        ),
  )

-- a line begins at the start of lines, and the bytes from there on don't begin as an o5 file does
pub begins_of : (bytes : Option (List ℕ)) (lines : LinesFrom) → AreLinesOf bytes lines → BeginsAs bytes lines.start false →
    BeginsLinesOf bytes lines.start
begins_of None lines are opl = tt
begins_of (Some all) lines are opl = record {
  line = subst (BeginsLine all) (sym are.start) (start_begins lines.offset all are.within);
  start = opl;
}

-- If lines begin as an o5 file does, the file is no OPL file.
pub o5_refusal : (Fails : Type 0) (bytes : Option (List ℕ)) (lines : LinesFrom) (fault : Fault) → AreLinesOf bytes lines →
    BeginsAs bytes lines.start true → IsCutRefusal Fails bytes fault
o5_refusal Fails None lines fault are o5 = tt
o5_refusal Fails (Some all) lines fault are o5 = inr (λ versions file.
    let from = lines.offset in
    let parts = split_versions all (lines_from from all) (split_lines from all) versions file in
    let opl : start_of (drop lines.start all) ≡ InOpl =
    ap start_of (ap (λ n. drop n all) are.start ∙ start_lines from all) ∙ opl_starts (lines_from from all) parts.later parts.second in
    let e : BeforeHeader ≡ InOpl = sym o5 ∙ opl in cc)

-- ---- refusals
-- a failure to read refuses a cut
pub failure_refuses : (Fails : Type 0) (bytes : Option (List ℕ)) (fault : Fault) → IsReadFailure Fails fault →
    IsCutRefusal Fails bytes fault
failure_refuses Fails None fault h = tt
failure_refuses Fails (Some all) fault h = inl h

-- ---- the first byte
-- a file that ends at an offset doesn't begin there as an o5 file does
pub ends_as : (bytes : Option (List ℕ)) (offset : ℕ) → AreLast bytes offset [] → BeginsAs bytes offset false
ends_as None offset last = tt
ends_as (Some all) offset last = ap start_of last

-- a file begins as an o5 file does if the byte that was read is the first byte of o5 files
pub begins_as : (bytes : Option (List ℕ)) (offset count : ℕ) (buffer : List ℕ) → count ≤ 1 → length buffer ≡ 1 →
    AreAt bytes offset (take count buffer) → 0 < count → BeginsAs bytes offset (get_or buffer 0 0 == 255)
begins_as None offset count buffer few size at some = tt
begins_as (Some all) offset zero buffer few size at some = absurd (omega (arith, some))
begins_as (Some all) offset (suc (suc n)) buffer few size at some = absurd (omega (arith, few))
begins_as (Some all) offset (suc zero) [] few size at some = absurd (omega (arith, size))
begins_as (Some all) offset (suc zero) (b ∷ buffer) few size (rest, at) some = ap start_of at

-- ---- the cuts at two bounds
module _ (low_bound bound : Object) (rises : is_lt (object_order bound low_bound) ≡ false) where
  none_under_first : (versions : List VersionData) → first_is_under low_bound (filter (reaches (Some bound)) versions) ≡ false
  none_under_first [] = refl
  none_under_first (v ∷ versions) =
      elim (reaches (Some bound) v) as (λ t. reaches (Some bound) v ≡ t →
      first_is_under low_bound (cond t (v ∷ filter (reaches (Some bound)) versions) (filter (reaches (Some bound)) versions)) ≡ false) [
        | true ↦ λ e. not_below (object_of v) bound low_bound (not-true _ e) rises
        | false ↦ λ e. none_under_first versions
      ] refl

  -- A sorted file isn't cut at the greater bound before the lower one.
  pub cuts_rise : (all : List ℕ) (start end : ℕ) (versions : List VersionData) → OplFile all versions → IsSorted key_cmp versions →
      IsCutAt all low_bound start → IsCutAt all bound end → BeginsLine all end → start ≤ end
  cuts_rise all start end versions file sorted low high line =
      ⊎_elim
      (λ before. absurd (false≢true
      (sym (none_under_first versions)
      ∙ (low versions file sorted).2 end before line (filter (reaches (Some bound)) versions) (high versions file sorted).1)))
      (λ fine. fine) (cases_lt end start)
