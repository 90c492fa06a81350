-- The order of lines by their keys.
use Rattle.std.proofs.Common.{◌≡◌, inl, inr, ℕ, ◌+◌, ◌-◌, ◌≤◌, ◌<◌, Bool, true, false, not, cond, ◌&&◌}
use Rattle.std.proofs.Common.{List, [], ◌∷◌, ◌++◌, length, take, drop, filter, position, Option, Some, None, option_map, IfSome}
use Rattle.std.proofs.Common.{Result, Ok, Err, refl, sym, ap, ◌∙◌, subst, arith, append-nil, append_assoc, length-drop}
use Rattle.std.proofs.Common.{take-append-drop}
use Rattle.std.proofs.Math.Seq.{take-add, take-append-add}
use Rattle.std.proofs.lemmas.Bool.{and_parts, not-true, false≢true}
use Rattle.std.proofs.lemmas.List.{drop-drop, length-take-le, take-append-le, take_all}
use Rattle.osm_model.specs.declared.object.Key.{Key}
use Rattle.osm_model.specs.Data.{VersionData}
use Rattle.osm_model.specs.Order.{key_of}
use Rattle.osm_model.specs.Pairwise.{Pairwise}
use Rattle.osm_model.specs.VersionSet.{VersionSet}
use Rattle.opl_line.specs.Delimiter.{is_line_end, with_byte, split_first, pieces_of}
use Rattle.opl_line.specs.Reading.{is_skipped}
use Rattle.opl_line.specs.Spells.{Spells, SpellsNothing}
use Rattle.opl_line.specs.declared.reason.OplReason.{OplReason}
use Rattle.opl_line.proofs.CutLaws.{cut_split, split_at, split_nowhere}
use Rattle.osm_files.specs.declared.fault.Fault.{Fault}
use Rattle.osm_files.specs.declared.reason.Reason.TheVariants.{ReadFault}
use Rattle.osm_files.specs.declared.key_order.RisingLines.{RisingLines}
use Rattle.osm_files.specs.declared.key_order.Stop.{Stop}
use Rattle.osm_files.specs.declared.key_order.Stop.TheVariants.{Falls, Refused}
use Rattle.osm_files.specs.declared.key_order.StopAt.{StopAt}
use Rattle.osm_files.specs.FileRuns.{IsAccepted, IsReadFailure}
use Rattle.osm_files.specs.Held.{Holds, HoldsSorted}
use Rattle.osm_files.specs.KeyOrder.{CameAt, AreRising, Rise, IsNoFile, EndsLine, StepsOver, lines_to, StopsIn, ReadsLines, IsWithin}
use Rattle.osm_files.specs.KeyOrder.{EndsLines, bytes_between, IsOrderOfLines, outcome_at, outcome_of}
use Rattle.osm_files.specs.LineKey.{is_key_below, IsKeyOf, keys_rise}
use Rattle.osm_files.specs.Lines.{lines_of}
use Rattle.osm_files.specs.Opl.{is_read, OplFile}
use Rattle.osm_files.specs.ReadAt.{AreAt, AreLast}
use Rattle.osm_files.specs.Units.{InOpl, start_of}
use Rattle.osm_files.proofs.ExtentLaws.{joined_at}
use Rattle.osm_files.proofs.FileLaws.{Rises, rises_sorted}
use Rattle.osm_files.proofs.JoinLaws.{lines_after, split_ended}

-- ---- keys of versions in sequence
rising_both : (before middle after : Option Key) (xs ys : List VersionData) → AreRising before xs middle → AreRising middle ys after
    → AreRising before (xs ++ ys) after
rising_both before middle after [] ys h k = subst (λ b. AreRising b ys after) (sym h.1) k
rising_both before middle after (v ∷ xs) ys h k =
    let parts = and_parts (not (is_key_below (key_of v) before)) (keys_rise (Some (key_of v)) xs) h.0 in
    let more = rising_both (Some (key_of v)) middle after xs ys (parts.1, h.1) k in (
      (λ i. parts.0 i && more.0 i),
      more.1,
    )

-- versions whose keys don't fall rise
rising_rise : (before : Option VersionData) (versions : List VersionData) → keys_rise (option_map key_of before) versions ≡ true
    → Rises before versions
rising_rise before [] h = tt
rising_rise None (v ∷ versions) h = (refl, rising_rise (Some v) versions h)
rising_rise (Some w) (v ∷ versions) h =
    let parts = and_parts (not (is_key_below (key_of v) (Some (key_of w)))) (keys_rise (Some (key_of v)) versions) h in (
      not-true (is_key_below (key_of v) (Some (key_of w))) parts.0,
      rising_rise (Some v) versions parts.1,
    )

-- A file whose keys don't fall is sorted.
pub sorted_if_rising : (bytes : List ℕ) (held : VersionSet) (h : Holds bytes held) (after : Option Key)
    → AreRising None h.versions after → (held : VersionSet) × HoldsSorted bytes held
sorted_if_rising bytes held h after rise = (
  held,
  record {
    short = h.short;
    versions = h.versions;
    file = h.file;
    sorted = rises_sorted h.versions (rising_rise None h.versions rise.0);
    members = h.members;
  },
)

-- Lines whose keys don't fall are a sorted file, if they are accepted.
pub rising_file : (bytes : List ℕ) (after : Option Key) → start_of bytes ≡ InOpl → Rise None bytes after → IsAccepted bytes
    → (held : VersionSet) × HoldsSorted bytes held
rising_file bytes after opl rise (held, h) =
    let lines : OplFile bytes h.versions = rw opl at h.file in
    sorted_if_rising bytes held h after (rise h.versions lines)

-- ---- lines in sequence
pub ends_both : (xs ys : List ℕ) → EndsLine xs → EndsLine ys → EndsLine (xs ++ ys)
ends_both xs ys h (inl none) = subst EndsLine (sym (ap (λ zs. xs ++ zs) none ∙ append-nil xs)) h
ends_both xs ys h (inr (text, last, ends, is)) =
    inr (xs ++ text, last, ends, ap (λ zs. xs ++ zs) is ∙ sym (append_assoc xs text (last ∷ [])))

pub rise_both : (before middle after : Option Key) (xs ys : List ℕ) → EndsLine xs → Rise before xs middle → Rise middle ys after
    → Rise before (xs ++ ys) after
rise_both before middle after xs ys (inl none) h k =
    let same : before ≡ middle = (h [] (subst (λ zs. OplFile zs []) (sym none) tt)).1 in
    subst (λ zs. Rise before (zs ++ ys) after) (sym none) (subst (λ b. Rise b ys after) (sym same) k)
rise_both before middle after xs ys (inr (text, last, ends, is)) h k = λ versions file.
    let parts = split_ended (xs ++ ys) xs ys versions refl (record { text = text; last = last; ends = ends; is = is }) file in
    subst (λ vs. AreRising before vs after) (sym parts.are)
    (rising_both before middle after parts.earlier parts.later (h parts.earlier parts.first) (k parts.later parts.second))

-- Bytes after lines that are no file make the whole no file.
pub no_file_after : (xs ys : List ℕ) → EndsLine xs → IsNoFile ys → IsNoFile (xs ++ ys)
no_file_after xs ys (inl none) never = subst (λ zs. IsNoFile (zs ++ ys)) (sym none) never
no_file_after xs ys (inr (text, last, ends, is)) never = λ versions file.
    let parts = split_ended (xs ++ ys) xs ys versions refl (record { text = text; last = last; ends = ends; is = is }) file in
    never parts.later parts.second

nothing_rises : (before : Option Key) → Rise before [] before
nothing_rises before [] file = (refl, refl)
nothing_rises before (v ∷ versions) file = absurd file

-- ---- one line
-- bytes without the end of a line
abbrev pub IsOneLine : List ℕ → Type 0
IsOneLine line = split_first is_line_end line ≡ (line, None)

-- the first line of some bytes, with its end
abbrev Parted : List ℕ → List ℕ × Option (List ℕ) → Type 0
Parted bytes (line, None) = Unit {0}
Parted bytes (line, Some after) =
    (end : ℕ) × (is_line_end end ≡ true) × (bytes ≡ line ++ end ∷ after) × IsOneLine line

longer : (a : ℕ) (bytes : List ℕ) → is_line_end a ≡ false → (s : List ℕ × Option (List ℕ)) → Parted bytes s
    → Parted (a ∷ bytes) (with_byte a s)
longer a bytes inside (line, None) h = tt
longer a bytes inside (line, Some after) (end, ends, is, one) = (
  end,
  ends,
  ap (λ l. a ∷ l) is,
  ap (λ t. cond t ([], Some line) (with_byte a (split_first is_line_end line))) inside ∙ ap (with_byte a) one,
)

parted : (bytes : List ℕ) → Parted bytes (split_first is_line_end bytes)
parted [] = tt
parted (b ∷ bytes) =
    elim (is_line_end b) as (λ t. is_line_end b ≡ t
    → Parted (b ∷ bytes) (cond t ([], Some bytes) (with_byte b (split_first is_line_end bytes)))) [
      | true ↦ λ ends. (b, ends, refl, refl)
      | false ↦ λ inside. longer b bytes inside (split_first is_line_end bytes) (parted bytes)
    ] refl

only_line : (line : List ℕ) → IsOneLine line → lines_of line ≡ filter is_read (line ∷ [])
only_line line one =
    ap (filter is_read) (cut_split is_line_end line ∙ ap (λ s. s.0 ∷ pieces_of is_line_end s.1) one)

-- The last line of a file, which may lack its end.
pub last_rises : (before after : Option Key) (line : List ℕ) → IsOneLine line → StepsOver before line (Ok after) → Rise before line after
last_rises before after line one step = λ versions file.
    step versions (subst (λ ls. Pairwise Spells ls versions) (only_line line one) file)

pub ended_lines : (line : List ℕ) (end : ℕ) (more : List ℕ) → is_line_end end ≡ true → IsOneLine line
    → lines_of (line ++ end ∷ more) ≡ filter is_read (line ∷ []) ++ lines_of more
ended_lines line end more ends one = lines_after end ends line more ∙ ap (λ ls. ls ++ lines_of more) (only_line line one)

pub line_rises : (before after : Option Key) (line : List ℕ) (end : ℕ) → is_line_end end ≡ true → IsOneLine line
    → StepsOver before line (Ok after) → Rise before (line ++ end ∷ []) after
line_rises before after line end ends one step = λ versions file.
    step versions (subst (λ ls. Pairwise Spells ls versions)
    (ended_lines line end [] ends one ∙ append-nil (filter is_read (line ∷ []))) file)

pub no_lines : (line : List ℕ) (more : List (List ℕ)) → SpellsNothing line → (versions : List VersionData)
    → Pairwise Spells (filter is_read (line ∷ []) ++ more) versions → ⊥
no_lines line more nothing versions =
    elim (is_skipped line) as (λ t. is_skipped line ≡ t → Pairwise Spells (cond (not t) (line ∷ []) [] ++ more) versions → ⊥) [
      | true ↦ λ is file. false≢true (sym nothing.kept ∙ is)
      | false ↦ λ is. elim versions as (λ vs. Pairwise Spells (line ∷ more) vs → ⊥) [
        | [] ↦ λ file. file
        | v ∷ vs ↦ λ file. nothing.none v file.0
      ]
    ] refl

no_line : (line : List ℕ) (end : ℕ) (more : List ℕ) → is_line_end end ≡ true → IsOneLine line → SpellsNothing line
    → IsNoFile (line ++ end ∷ more)
no_line line end more ends one nothing = λ versions file.
    no_lines line (lines_of more) nothing versions (subst (λ ls. Pairwise Spells ls versions) (ended_lines line end more ends one) file)

no_last_line : (line : List ℕ) → IsOneLine line → SpellsNothing line → IsNoFile line
no_last_line line one nothing = λ versions file.
    no_lines line [] nothing versions
    (subst (λ ls. Pairwise Spells ls versions) (only_line line one ∙ sym (append-nil (filter is_read (line ∷ [])))) file)

-- ---- the step over one line
one_rises : (before : Option Key) (line : List ℕ) (key : Key) (versions : List VersionData) → is_key_below key before ≡ false
    → ((v : VersionData) → Spells line v → key_of v ≡ key) → Pairwise Spells (line ∷ []) versions
    → AreRising before versions (Some key)
one_rises before line key [] above is file = absurd file
one_rises before line key (v ∷ w ∷ versions) above is file = absurd file.1
one_rises before line key (v ∷ []) above is file =
    let same : key_of v ≡ key = is v file.0 in (
      ap (λ k. not (is_key_below k before) && true) same ∙ ap (λ t. not t && true) above,
      ap Some same,
    )

-- A line with a key that isn't below the key before it.
pub steps_on : (before : Option Key) (line : List ℕ) (key : Key) → IsKeyOf line key → is_key_below key before ≡ false
    → StepsOver before line (Ok (Some key))
steps_on before line key is above = λ versions file.
    one_rises before line key versions above is.spelled
    (subst (λ t. Pairwise Spells (cond (not t) (line ∷ []) []) versions) is.kept file)

-- A line that is skipped.
pub steps_past : (before : Option Key) (line : List ℕ) → is_skipped line ≡ true → StepsOver before line (Ok before)
steps_past before line skipped = λ versions file.
    nothing_rises before versions (subst (λ t. Pairwise Spells (cond (not t) (line ∷ []) []) versions) skipped file)

-- ---- the lines of a window
-- the first `read` bytes of a window are lines whose keys don't fall, and `last` is the last key
pub record ReadTo (window : List ℕ) (before : Option Key) (read : ℕ) (last : Option Key) : Type 0 where
  pub within : read ≤ length window
  pub ends : EndsLine (take read window)
  pub rise : Rise before (take read window) last

pub nothing_read : (window : List ℕ) (before : Option Key) → ReadTo window before 0 before
nothing_read window before = record { within = omega arith; ends = inl refl; rise = nothing_rises before }

-- the line at the front of some bytes
pub record FrontLine (bytes : List ℕ) (size : ℕ) : Type 0 where
  pub end : ℕ
  pub ends : is_line_end end ≡ true
  pub whole : bytes ≡ take size bytes ++ end ∷ drop (size + 1) bytes
  pub one : IsOneLine (take size bytes)
  pub within : size < length bytes
  pub front : take (size + 1) bytes ≡ take size bytes ++ end ∷ []

pub front_line : (bytes : List ℕ) (size : ℕ) → position is_line_end bytes ≡ Some size → FrontLine bytes size
front_line bytes size found =
    let at = split_at is_line_end bytes size found in
    let p : Parted bytes (take size bytes, Some (drop (size + 1) bytes)) = subst (Parted bytes) at.split (parted bytes) in
    let long : length (take size bytes) ≡ size = length-take-le size bytes (omega (arith, at.within)) in
    record {
      end = p.0;
      ends = p.1;
      whole = p.2;
      one = p.3;
      within = at.within;
      front = ap (take (size + 1)) p.2
          ∙ ap (λ n. take (n + 1) (take size bytes ++ p.0 ∷ drop (size + 1) bytes)) (sym long)
          ∙ take-append-add (take size bytes) (p.0 ∷ drop (size + 1) bytes) 1;
    }

module _ (window : List ℕ) (before : Option Key) (read : ℕ) (last : Option Key) (done : ReadTo window before read last) where
  abbrev rest : List ℕ
  rest = drop read window

  rest_long : length rest ≡ length window - read
  rest_long = length-drop read window

  parts : window ≡ take read window ++ rest
  parts = sym (take-append-drop read window)

  -- One line more is read.
  pub read_on : (size : ℕ) (next : Option Key) → position is_line_end rest ≡ Some size → StepsOver last (take size rest) (Ok next)
      → ReadTo window before (read + (size + 1)) next
  read_on size next found step =
      let line = front_line rest size found in
      let both : take (read + (size + 1)) window ≡ take read window ++ (take size rest ++ line.end ∷ []) =
      take-add read (size + 1) window ∙ ap (λ xs. take read window ++ xs) line.front in
      let lined : EndsLine (take size rest ++ line.end ∷ []) = inr (take size rest, line.end, line.ends, refl) in
      record {
        within = omega (arith, line.within, rest_long, done.within);
        ends = subst EndsLine (sym both) (ends_both (take read window) (take size rest ++ line.end ∷ []) done.ends lined);
        rise = subst (λ xs. Rise before xs next) (sym both)
            (rise_both before last next (take read window) (take size rest ++ line.end ∷ []) done.ends done.rise
            (line_rises last next (take size rest) line.end line.ends line.one step));
      }

  module _ (lines : RisingLines) (is : lines.last ≡ before) (offset : ℕ) (there : offset ≡ lines.end + read) where
    here : lines_to window lines offset ≡ take read window
    here = ap (λ n. take n window) (omega (arith, there))

    falls_there : (lines.end ≤ offset) × (offset ≤ lines.end + length window)
        × ((after : Option Key) × Rise lines.last (lines_to window lines offset) after)
    falls_there = (
      omega (arith, there),
      omega (arith, there, done.within),
      (
        last,
        subst (λ b. Rise b (lines_to window lines offset) last) (sym is) (subst (λ xs. Rise before xs last) (sym here) done.rise),
      ),
    )

    -- The reading stops at a line.
    pub stops_at : (is_last : Bool) (size : ℕ) (why : Stop) → position is_line_end rest ≡ Some size
        → StepsOver last (take size rest) (Err why) → StopsIn window lines is_last offset why
    stops_at is_last size Falls found step = falls_there
    stops_at is_last size (Refused reason) found (inl memory) = inl memory
    stops_at is_last size (Refused reason) found (inr nothing) = inr (λ more only.
        let line = front_line rest size found in
        let whole : window ++ more ≡ take read window ++ (take size rest ++ line.end ∷ (drop (size + 1) rest ++ more)) =
        ap (λ xs. xs ++ more) (parts ∙ ap (λ xs. take read window ++ xs) line.whole)
        ∙ append_assoc (take read window) (take size rest ++ line.end ∷ drop (size + 1) rest) more
        ∙ ap (λ xs. take read window ++ xs) (append_assoc (take size rest) (line.end ∷ drop (size + 1) rest) more) in
        subst IsNoFile (sym whole)
        (no_file_after (take read window) (take size rest ++ line.end ∷ (drop (size + 1) rest ++ more)) done.ends
        (no_line (take size rest) line.end (drop (size + 1) rest ++ more) line.ends line.one nothing)))

    module _ (none : position is_line_end rest ≡ None) where
      one_rest : IsOneLine rest
      one_rest = split_nowhere is_line_end rest none

      to_end : (end : ℕ) → end ≡ offset + length rest → lines_to window lines end ≡ window
      to_end end e = take_all (end - lines.end) window (omega (arith, e, there, rest_long, done.within))

      -- the last line lacks its end
      all_rise : (end : ℕ) (after : Option Key) → end ≡ offset + length rest → StepsOver last rest (Ok after)
          → Rise lines.last (lines_to window lines end) after
      all_rise end after far step =
          subst (λ xs. Rise lines.last xs after) (sym (to_end end far))
          (subst (λ b. Rise b window after) (sym is)
          (subst (λ xs. Rise before xs after) (sym parts)
          (rise_both before last after (take read window) rest done.ends done.rise (last_rises last after rest one_rest step))))

      stops_last : (end : ℕ) (why : Stop) → end ≡ offset → StepsOver last rest (Err why) → StopsIn window lines true end why
      stops_last end Falls e step = subst (λ p. StopsIn window lines true p Falls) (sym e) falls_there
      stops_last end (Refused reason) e (inl memory) = inl memory
      stops_last end (Refused reason) e (inr nothing) = inr (λ more only.
          subst IsNoFile (sym (ap (λ xs. window ++ xs) (only refl) ∙ append-nil window ∙ parts))
          (no_file_after (take read window) rest done.ends (no_last_line rest one_rest nothing)))

      -- The rest of the window has no line end.
      pub ends_there : (is_last : Bool) (result : Result RisingLines StopAt)
          → EndsLines rest (record { end = offset; last = last }) is_last result → ReadsLines window lines is_last result
      ends_there false result same = subst (ReadsLines window lines false) (sym same) (
        subst (λ b. Rise b (lines_to window lines offset) last) (sym is) (subst (λ xs. Rise before xs last) (sym here) done.rise),
        λ more. subst EndsLine (sym here) done.ends,
      )
      ends_there true (Ok found) (far, step) = (
        all_rise found.end found.last far step,
        λ more. absurd (false≢true (sym more)),
      )
      ends_there true (Err stop) (at, step) = stops_last stop.offset stop.why at step

-- ---- the bytes of a window
-- More bytes of the window came.
pub came_on : (known : Option (List ℕ)) (offset filled more : ℕ) (before after : List ℕ) → length before ≡ filled
    → AreAt known offset before → CameAt known (offset + filled) before after more → AreAt known offset after
came_on known offset filled more before after long at (came, there, is, size) =
    let same : offset + filled ≡ offset + length before = omega (arith, long) in
    subst (AreAt known offset) (sym is) (joined_at known offset before came at (subst (λ n. AreAt known n came) same there))

-- A file that has the bytes of a window doesn't end before them.
pub not_short : (Fails : Type 0) (known : Option (List ℕ)) (offset filled count : ℕ) (fault : Fault) → filled < count
    → AreLast known (offset + filled) [] → IfSome known (λ all. offset + count ≤ length all → IsReadFailure Fails fault)
not_short Fails None offset filled count fault less last = tt
not_short Fails (Some all) offset filled count fault less last =
    λ fits. absurd (omega (arith, ap length last, length-drop (offset + filled) all, fits, less))

-- A read failed.
pub not_read : (Fails : Type 0) (known : Option (List ℕ)) (size : ℕ) (fault : Fault) → Fails → fault.reason ≡ ReadFault
    → IfSome known (λ all. size ≤ length all → IsReadFailure Fails fault)
not_read Fails None size fault fails is = tt
not_read Fails (Some all) size fault fails is = λ fits. inr (fails, is)

-- ---- the lines of a file
-- the lines from `start` on up to some offset don't fall; they end with the end of a line, unless they are all
pub record RisesTo (all : List ℕ) (start end : ℕ) (lines : RisingLines) : Type 0 where
  pub ends : lines.end < end → EndsLine (bytes_between all start lines.end)
  pub rise : Rise None (bytes_between all start lines.end) lines.last

-- the lines of a file rise, if its bytes are known and it isn't shorter than `end`
abbrev pub RisesIn : Option (List ℕ) → ℕ → ℕ → RisingLines → Type 0
RisesIn known start end lines = IfSome known (λ all. end ≤ length all → RisesTo all start end lines)

pub nothing_between : (all : List ℕ) (start end : ℕ) (lines : RisingLines) → lines ≡ (record { end = start; last = None })
    → end ≤ length all → RisesTo all start end lines
nothing_between all start end lines is long =
    let zero_it_is : lines.end - start ≡ 0 = omega (arith, ap (λ l. l.end) is) in
    let none : bytes_between all start lines.end ≡ [] = ap (λ n. take n (drop start all)) zero_it_is in
    record {
      ends = λ less. inl none;
      rise = subst (λ k. Rise None (bytes_between all start lines.end) k) (sym (ap (λ l. l.last) is))
          (subst (λ xs. Rise None xs None) (sym none) (nothing_rises None));
    }

-- The bytes of a file between two offsets, in two parts.
pub between_both : (all : List ℕ) (start middle end : ℕ) → start ≤ middle → middle ≤ end
    → bytes_between all start end ≡ bytes_between all start middle ++ bytes_between all middle end
between_both all start middle end low high =
    let sum : end - start ≡ middle - start + (end - middle) = omega (arith, low, high) in
    let back : start + (middle - start) ≡ middle = omega (arith, low) in
    ap (λ n. take n (drop start all)) sum
    ∙ take-add (middle - start) (end - middle) (drop start all)
    ∙ ap (λ xs. bytes_between all start middle ++ take (end - middle) xs)
    (drop-drop (middle - start) start all ∙ ap (λ n. drop n all) back)

-- The bytes of a file from a window on.
pub window_between : (all : List ℕ) (offset end : ℕ) (window : List ℕ) (at : AreAt (Some all) offset window) → offset + length window ≤ end
    → bytes_between all offset end ≡ window ++ take (end - (offset + length window)) at.0
window_between all offset end window at fits =
    let n : ℕ = end - (offset + length window) in
    let left : end - offset ≡ length window + n = omega (arith, fits) in
    ap (take (end - offset)) at.1 ∙ ap (λ k. take k (window ++ at.0)) left ∙ take-append-add window at.0 n

-- a window of a file: these bytes follow `lines`
module _ (all : List ℕ) (start end : ℕ) (lines : RisingLines) (window : List ℕ) (at : AreAt (Some all) lines.end window)
    (after_start : start ≤ lines.end) (less : lines.end < end) (fits : lines.end + length window ≤ end)
    (risen : RisesTo all start end lines) where
  front_ends : EndsLine (bytes_between all start lines.end)
  front_ends = risen.ends less

  -- the lines up to an offset in the window
  lines_in : (offset : ℕ) → lines.end ≤ offset → offset ≤ lines.end + length window
      → bytes_between all start offset ≡ bytes_between all start lines.end ++ lines_to window lines offset
  lines_in offset low high =
      between_both all start lines.end offset after_start low
      ∙ ap (λ xs. bytes_between all start lines.end ++ xs)
      (ap (take (offset - lines.end)) at.1 ∙ take-append-le (offset - lines.end) window at.0 (omega (arith, high)))

  rise_in : (offset : ℕ) (after : Option Key) → lines.end ≤ offset → offset ≤ lines.end + length window
      → Rise lines.last (lines_to window lines offset) after → Rise None (bytes_between all start offset) after
  rise_in offset after low high rise =
      subst (λ xs. Rise None xs after) (sym (lines_in offset low high))
      (rise_both None lines.last after (bytes_between all start lines.end) (lines_to window lines offset) front_ends risen.rise rise)

  -- More lines rise.
  pub rises_on : (is_last : Bool) (read : RisingLines) → (is_last ≡ true → lines.end + length window ≡ end)
      → (is_last ≡ true → read.end ≡ lines.end + length window) → IsWithin window lines read
      → ReadsLines window lines is_last (let r : Result RisingLines StopAt = Ok read in r) → RisesTo all start end read
  rises_on true read all_there all_read within reads = record {
    ends = λ more. absurd (let a = all_there refl in let b = all_read refl in omega (arith, a, b, more));
    rise = rise_in read.end read.last within.0 within.1 reads.0;
  }
  rises_on false read all_there all_read within reads = record {
    ends = λ more. subst EndsLine (sym (lines_in read.end within.0 within.1))
        (ends_both (bytes_between all start lines.end) (lines_to window lines read.end) front_ends (reads.1 refl));
    rise = rise_in read.end read.last within.0 within.1 reads.0;
  }

  -- the bytes after the window, up to the end
  abbrev rest_of : List ℕ
  rest_of = take (end - (lines.end + length window)) at.0

  whole_lines : bytes_between all start end ≡ bytes_between all start lines.end ++ (window ++ rest_of)
  whole_lines =
      between_both all start lines.end end after_start (omega (arith, less))
      ∙ ap (λ xs. bytes_between all start lines.end ++ xs) (window_between all lines.end end window at fits)

  -- A stop in the window is the result of the search.
  pub stops_search : (Fails : Type 0) (is_last : Bool) (offset : ℕ) (why : Stop)
      → (is_last ≡ true → lines.end + length window ≡ end) → StopsIn window lines is_last offset why
      → IsOrderOfLines Fails all start end (outcome_at offset why)
  stops_search Fails is_last offset Falls all_there (low, high, (after, rise)) = (after, rise_in offset after low high rise)
  stops_search Fails is_last offset (Refused reason) all_there (inl memory) =
      subst (λ (r : OplReason). IsOrderOfLines Fails all start end (outcome_at offset (Refused r))) (sym memory) (inl (inl refl))
  stops_search Fails is_last offset (Refused reason) all_there (inr never) =
      inr (subst IsNoFile (sym whole_lines)
      (no_file_after (bytes_between all start lines.end) (window ++ rest_of) front_ends
      (never rest_of (λ last.
      let e = all_there last in
      let none : end - (lines.end + length window) ≡ 0 = omega (arith, e) in
      ap (λ n. take n at.0) none))))

-- ---- the lines of a file, if its bytes are known
module _ (start end : ℕ) (lines : RisingLines) (window : List ℕ) (is_last : Bool) (after_start : start ≤ lines.end)
    (less : lines.end < end) (fits : lines.end + length window ≤ end) (all_there : is_last ≡ true → lines.end + length window ≡ end) where
  -- More lines rise.
  pub window_rises : (known : Option (List ℕ)) (read : RisingLines) → (is_last ≡ true → read.end ≡ lines.end + length window)
      → IsWithin window lines read → AreAt known lines.end window → RisesIn known start end lines
      → ReadsLines window lines is_last (let r : Result RisingLines StopAt = Ok read in r)
      → RisesIn known start end read
  window_rises None read all_read within at risen reads = tt
  window_rises (Some all) read all_read within at risen reads = λ long.
      rises_on all start end lines window at after_start less fits (risen long) is_last read all_there all_read within reads

  -- The search stops in the window.
  pub window_stops : (Fails : Type 0) (known : Option (List ℕ)) (stop : StopAt) → AreAt known lines.end window
      → RisesIn known start end lines
      → ReadsLines window lines is_last (let r : Result RisingLines StopAt = Err stop in r)
      → IfSome known (λ all. end ≤ length all → IsOrderOfLines Fails all start end (outcome_of stop))
  window_stops Fails None stop at risen reads = tt
  window_stops Fails (Some all) stop at risen reads = λ long.
      stops_search all start end lines window at after_start less fits (risen long) Fails is_last stop.offset stop.why all_there reads

-- All lines rise.
pub all_risen : (known : Option (List ℕ)) (start end : ℕ) (lines : RisingLines) → lines.end - start ≡ end - start
    → RisesIn known start end lines
    → IfSome known (λ all. end ≤ length all → (after : Option Key) × Rise None (bytes_between all start end) after)
all_risen None start end lines same risen = tt
all_risen (Some all) start end lines same risen = λ long. (
  lines.last,
  subst (λ xs. Rise None xs lines.last) (ap (λ n. take n (drop start all)) same) (risen long).rise,
)
