-- Files that are split into files in sequence, and into runs.
use Rattle.std.proofs.Common.{◌≡◌, inl, inr, ℕ, zero, suc, ◌+◌, ◌-◌, ◌^◌, ◌<◌, ◌&&◌, ◌||◌, Bool, true, false, not, cond, List, [], ◌∷◌}
use Rattle.std.proofs.Common.{◌++◌, length, map, take, drop, slice_get, refl, sym, ap, ◌∙◌, subst, arith, Option, Some, None, is_some}
use Rattle.std.proofs.Common.{append-nil, append_assoc, nat_lt}
use Rattle.std.proofs.lemmas.Bool.{false≢true, and_parts, ltb-true, eqb-true, not-true, or_parts}
use Rattle.std.proofs.lemmas.List.{drop-drop, map-append, take_all}
use Rattle.std.proofs.Math.Seq.{take-add}
use Rattle.opl_line.specs.Delimiter.{is_line_end}
use Rattle.osm_files.specs.declared.sorted_run.BytesAtSplit.{BytesAtSplit}
use Rattle.osm_files.specs.declared.sorted_run.SortedRun.{SortedRun}
use Rattle.osm_files.specs.O5.{o5m_header, end_byte, reset_byte}
use Rattle.osm_files.specs.Units.{InOpl, BeforeHeader, start_of}
use Rattle.osm_files.specs.SortedRun.{SplitAfterLine, SplitAtReset, IsSplit, IsSplitInto, IsSplitIntoRuns, HasBytes, bytes_before}
use Rattle.osm_files.specs.SortedRun.{bytes_after, run_bytes, is_reset, ends_line, is_o5_run, is_within, splits_o5, splits_opl, can_split}
use Rattle.osm_files.specs.SortedRun.{front_run, rest_run}

-- ---- lists
-- A byte after others.
pub slice_get-drop : (n : ℕ) (xs : List ℕ) (i : ℕ) → slice_get (drop n xs) i ≡ slice_get xs (n + i)
slice_get-drop zero xs i = ap (slice_get xs) (omega arith)
slice_get-drop (suc n) [] i = refl
slice_get-drop (suc n) (x ∷ xs) i = let e : suc (n + i) ≡ suc n + i = omega arith in slice_get-drop n xs i ∙ ap (slice_get (x ∷ xs)) e

-- The bytes up to one more byte.
pub take_one : (xs : List ℕ) (i b : ℕ) → slice_get xs i ≡ Some b → take (suc i) xs ≡ take i xs ++ b ∷ []
take_one [] i b e = absurd (let f : None ≡ Some b = e in cc)
take_one (x ∷ xs) zero b e = let is : x ≡ b = cc in ap (λ y. y ∷ []) is
take_one (x ∷ xs) (suc i) b e = ap (λ ys. x ∷ ys) (take_one xs i b e)

-- ---- consequences of the first bytes
some_end : (o : Option ℕ) → ends_line o ≡ true → (b : ℕ) × (o ≡ Some b) × (is_line_end b ≡ true)
some_end None e = absurd (false≢true e)
some_end (Some b) e = (b, refl, e)

some_reset : (o : Option ℕ) → is_reset o ≡ true → o ≡ Some reset_byte
some_reset None e = absurd (false≢true e)
some_reset (Some b) e = ap Some (eqb-true b reset_byte e)

lines_start : (part : List ℕ) (i : ℕ) → is_some (slice_get part i) ≡ true → is_reset (slice_get part 0) ≡ false
    → start_of (take (suc i) part ++ []) ≡ InOpl
lines_start [] i some e = absurd (false≢true some)
lines_start (p ∷ part) i some e = ap (λ t. cond t BeforeHeader InOpl) e

rest_starts : (part after : List ℕ) (m : ℕ) → is_some (slice_get part 0) ≡ true → is_reset (slice_get part 0) ≡ false
    → start_of (take (suc m) part ++ after) ≡ InOpl
rest_starts [] after m some e = absurd (false≢true some)
rest_starts (p ∷ part) after m some e = ap (λ t. cond t BeforeHeader InOpl) e

sets_start : (has_header : Bool) (part : List ℕ) (i : ℕ) → has_header || is_reset (slice_get part 0) ≡ true → 0 < i
    → start_of (cond has_header o5m_header [] ++ (take i part ++ end_byte ∷ [])) ≡ BeforeHeader
sets_start true part i e above = refl
sets_start false [] i e above = absurd (false≢true e)
sets_start false (p ∷ part) zero e above = absurd (omega (arith, above))
sets_start false (p ∷ part) (suc i) e above = ap (λ t. cond t BeforeHeader InOpl) e

-- ---- one split, of a part whose byte at an index decides
module _ (part : List ℕ) (i m b : ℕ) (after : List ℕ) (at : slice_get part i ≡ Some b) where
  abbrev rest : List ℕ
  rest = take (suc m) (drop (suc i) part)

  after_line : is_line_end b ≡ true → is_reset (slice_get part 0) ≡ false
      → is_some (slice_get (drop (suc i) part) 0) ≡ true → is_reset (slice_get (drop (suc i) part) 0) ≡ false
      → SplitAfterLine (take (suc i) part ++ []) (rest ++ after) (take (suc i + suc m) part ++ after)
  after_line ends first some next = record {
    front = take i part;
    last = b;
    ends = ends;
    is_file = append-nil (take (suc i) part) ∙ take_one part i b at;
    lines = lines_start part i (ap is_some at) first;
    more_lines = rest_starts (drop (suc i) part) after m some next;
    whole =
        ap (λ x. x ++ after) (take-add (suc i) (suc m) part)
        ∙ append_assoc (take (suc i) part) rest after
        ∙ ap (λ x. x ++ (rest ++ after)) (sym (append-nil (take (suc i) part)));
  }

  at_reset : (before : List ℕ) → b ≡ reset_byte → start_of (before ++ (take i part ++ end_byte ∷ [])) ≡ BeforeHeader
      → SplitAtReset (before ++ (take i part ++ end_byte ∷ [])) (o5m_header ++ (rest ++ after))
      (before ++ (take (suc i + suc m) part ++ after))
  at_reset before is starts = record {
    front = before ++ take i part;
    header = o5m_header;
    after = rest ++ after;
    is_file = sym (append_assoc before (take i part) (end_byte ∷ []));
    data_sets = starts;
    is_header = inl refl;
    is_rest = refl;
    whole =
        let split : take (suc i + suc m) part ≡ take i part ++ (reset_byte ∷ rest) =
        take-add (suc i) (suc m) part ∙ ap (λ x. x ++ rest) (take_one part i b at ∙ ap (λ x. take i part ++ x ∷ []) is)
        ∙ append_assoc (take i part) (reset_byte ∷ []) rest in
        ap (λ x. before ++ (x ++ after)) split
        ∙ ap (λ x. before ++ x) (append_assoc (take i part) (reset_byte ∷ rest) after)
        ∙ sym (append_assoc before (take i part) (reset_byte ∷ (rest ++ after)));
  }

-- ---- a run that can be split is
-- bytes that are split at a reset, or after a line
abbrev pub SplitBy : Bool → List ℕ → List ℕ → List ℕ → Type 0
SplitBy true = SplitAtReset
SplitBy false = SplitAfterLine

-- the offset has `i` bytes of the run before the byte that decides, and `m` after the byte at it
module _ (run : SortedRun) (offset : ℕ) (bytes : BytesAtSplit) (file : List ℕ) (has : HasBytes file run.start offset bytes)
    (i m : ℕ) (offset_is : offset ≡ run.start + (i + 1)) (size_is : run.size ≡ suc i + suc m) where
  abbrev part : List ℕ
  part = drop run.start file

  first_is : slice_get part 0 ≡ bytes.first
  first_is = slice_get-drop run.start file 0 ∙ ap (slice_get file) (omega arith) ∙ has.first

  before_is : slice_get part i ≡ bytes.before
  before_is = slice_get-drop run.start file i ∙ ap (slice_get file) (omega (arith, offset_is)) ∙ has.before

  rest_is : drop offset file ≡ drop (suc i) part
  rest_is = ap (λ n. drop n file) (omega (arith, offset_is)) ∙ sym (drop-drop (suc i) run.start file)

  at_is : slice_get (drop (suc i) part) 0 ≡ bytes.at
  at_is = ap (λ xs. slice_get xs 0) (sym rest_is) ∙ slice_get-drop offset file 0 ∙ ap (slice_get file) (omega arith) ∙ has.at

  lines_size : offset - run.start - 0 ≡ suc i
  lines_size = omega (arith, offset_is)

  sets_size : offset - run.start - 1 ≡ i
  sets_size = omega (arith, offset_is)

  rest_size : run.size - (offset - run.start) ≡ suc m
  rest_size = omega (arith, offset_is, size_is)

  opl : is_some bytes.at ≡ true → is_o5_run run bytes ≡ false → splits_opl bytes ≡ true
      → SplitAfterLine (run_bytes (front_run false run offset) file) (run_bytes (rest_run false run offset) file) (run_bytes run file)
  opl some is can =
      let no = or_parts run.lacks_header (is_reset bytes.first) is in
      let ends = and_parts (ends_line bytes.before) (not (is_reset bytes.at)) can in
      let b = some_end bytes.before ends.0 in
      let split = after_line part i m b.0 (bytes_after run) (before_is ∙ b.1) b.2 (ap is_reset first_is ∙ no.1) (ap is_some at_is ∙ some)
      (ap is_reset at_is ∙ not-true (is_reset bytes.at) ends.1) in
      rw (no.0, lines_size, rest_size, rest_is, size_is) split

  o5 : is_o5_run run bytes ≡ true → splits_o5 run offset bytes ≡ true
      → SplitAtReset (run_bytes (front_run true run offset) file) (run_bytes (rest_run true run offset) file) (run_bytes run file)
  o5 is can =
      let parts = and_parts (nat_lt (run.start + 1) offset) (is_reset bytes.before) can in
      let inner = ltb-true (run.start + 1) offset parts.0 in
      let starts =
      sets_start run.lacks_header part i (ap (λ o. run.lacks_header || is_reset o) first_is ∙ is) (omega (arith, inner, offset_is)) in
      let reset_is = before_is ∙ some_reset bytes.before parts.1 in
      let split = at_reset part i m reset_byte (bytes_after run) reset_is (bytes_before run) refl starts in
      rw (sets_size, rest_size, rest_is, size_is) split

  either : is_some bytes.at ≡ true → (t : Bool) → is_o5_run run bytes ≡ t → cond t (splits_o5 run offset bytes) (splits_opl bytes) ≡ true
      → SplitBy t (run_bytes (front_run t run offset) file) (run_bytes (rest_run t run offset) file) (run_bytes run file)
  either some true is can = o5 is can
  either some false is can = opl some is can

-- A run that can be split is split into two: at a reset if it is o5, else after a line.
pub splits_by : (run : SortedRun) (offset : ℕ) (bytes : BytesAtSplit) (file : List ℕ)
    → HasBytes file run.start offset bytes → can_split run offset bytes ≡ true → (t : Bool) → is_o5_run run bytes ≡ t
    → SplitBy t (run_bytes (front_run t run offset) file) (run_bytes (rest_run t run offset) file) (run_bytes run file)
splits_by run offset bytes file has can t is =
    let by_grammar = cond (is_o5_run run bytes) (splits_o5 run offset bytes) (splits_opl bytes) in
    let parts = and_parts (is_within run offset bytes) by_grammar can in
    let within = and_parts (nat_lt run.start offset) (nat_lt (offset - run.start) run.size && is_some bytes.at) parts.0 in
    let inner = and_parts (nat_lt (offset - run.start) run.size) (is_some bytes.at) within.1 in
    let above = ltb-true run.start offset within.0 in
    let below = ltb-true (offset - run.start) run.size inner.0 in
    either run offset bytes file has (offset - run.start - 1) (run.size - (offset - run.start) - 1)
    (omega (arith, above)) (omega (arith, above, below)) inner.1 t is
    (ap (λ x. cond x (splits_o5 run offset bytes) (splits_opl bytes)) (sym is) ∙ parts.1)

split_of : (t : Bool) (front others bytes : List ℕ) → SplitBy t front others bytes → IsSplit front others bytes
split_of true front others bytes split = inr split
split_of false front others bytes split = inl split

-- A run that can be split is split into two.
pub splits : (run : SortedRun) (offset : ℕ) (bytes : BytesAtSplit) (file : List ℕ)
    → HasBytes file run.start offset bytes → can_split run offset bytes ≡ true
    → IsSplit (run_bytes (front_run (is_o5_run run bytes) run offset) file) (run_bytes (rest_run (is_o5_run run bytes) run offset) file)
    (run_bytes run file)
splits run offset bytes file has can = split_of (is_o5_run run bytes) _ _ _
    (splits_by run offset bytes file has can (is_o5_run run bytes) refl)

-- ---- the last of several files, split once more
split_last : (bytes : List ℕ) (files : List (List ℕ)) (last file rest : List ℕ)
    → IsSplit file rest last → IsSplitInto bytes (files ++ last ∷ []) → IsSplitInto bytes (files ++ file ∷ rest ∷ [])
split_last bytes [] last file rest split is = (rest, subst (λ b. IsSplit file rest b) (sym is) split, refl)
split_last bytes (f ∷ []) last file rest split (more, first, is) = (more, first, split_last more [] last file rest split is)
split_last bytes (f ∷ g ∷ files) last file rest split (more, first, is) = (more, first, split_last more (g ∷ files) last file rest split is)

module _ (file : List ℕ) where
  abbrev of : SortedRun → List ℕ
  of run = run_bytes run file

  -- Runs whose last one is split are runs of the file.
  pub split_rest : (fronts : List SortedRun) (last front rest : SortedRun) → IsSplit (of front) (of rest) (of last)
      → IsSplitIntoRuns file (fronts ++ last ∷ []) → IsSplitIntoRuns file ((fronts ++ front ∷ []) ++ rest ∷ [])
  split_rest fronts last front rest split is =
      let old : map of (fronts ++ last ∷ []) ≡ map of fronts ++ of last ∷ [] = map-append of fronts (last ∷ []) in
      let new : map of ((fronts ++ front ∷ []) ++ rest ∷ []) ≡ map of fronts ++ of front ∷ of rest ∷ [] =
      ap (map of) (append_assoc fronts (front ∷ []) (rest ∷ [])) ∙ map-append of fronts (front ∷ rest ∷ []) in
      let before : IsSplitInto file (map of fronts ++ of last ∷ []) = subst (λ files. IsSplitInto file files) old is in
      subst (λ files. IsSplitInto file files) (sym new) (split_last file (map of fronts) (of last) (of front) (of rest) split before)

-- The whole run of a file has the file's bytes.
pub whole_file : (file : List ℕ) → length file < 2 ^ 64 → take (2 ^ 64 - 1) file ++ [] ≡ file
whole_file file short = append-nil (take (2 ^ 64 - 1) file) ∙ take_all (2 ^ 64 - 1) file (omega (arith, short))
