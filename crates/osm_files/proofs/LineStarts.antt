-- The offsets at which lines begin in a file.
use Rattle.std.proofs.Common.{◌≡◌, ℕ, zero, suc, ◌+◌, ◌-◌, ◌≤◌, ◌<◌, true, false, cond, not, Bool, List, [], ◌∷◌, ◌++◌, length}
use Rattle.std.proofs.Common.{drop, refl, sym, ap, ◌∙◌, arith, Option, Some, None, ◌⊎◌, inl, inr, ⊎_elim, length-drop, subst}
use Rattle.std.proofs.lemmas.List.{drop-drop}
use Rattle.std.specs.Prelude.{position, IfSome}
use Rattle.std.specs.List.{position_or_len}
use Rattle.std.proofs.CharBoundary.{drop_past_prefix}
use Rattle.opl_line.specs.Delimiter.{is_line_end}
use Rattle.osm_files.specs.Lines.{after_line, lines_from, line_size, line_start_from, BeginsLine, IsLineStart}
use Rattle.osm_files.specs.ReadAt.{AreAt, AreLast}
use Rattle.osm_files.proofs.SearchLaws.{nowhere, somewhere}

-- ---- the size of a line
size_len : (front rest : List ℕ) → length front ≤ position_or_len is_line_end front →
    line_size (front ++ rest) ≡ length front + line_size rest
size_len [] rest far = omega arith
size_len (b ∷ front) rest far =
    elim (is_line_end b) as (λ t. suc (length front) ≤ cond (not t) (1 + position_or_len is_line_end front) 0 →
    cond t 1 (suc (line_size (front ++ rest))) ≡ suc (length front) + line_size rest) [
      | true ↦ λ few. absurd (omega (arith, few))
      | false ↦ λ few. (let more = size_len front rest (omega (arith, few)) in omega (arith, more))
    ] far

size_at : (front rest : List ℕ) (end : ℕ) → position_or_len is_line_end front ≡ end → end < length front →
    line_size (front ++ rest) ≡ end + 1
size_at [] rest end is near = absurd (omega (arith, near))
size_at (b ∷ front) rest end is near =
    elim (is_line_end b) as (λ t. cond (not t) (1 + position_or_len is_line_end front) 0 ≡ end →
    cond t 1 (suc (line_size (front ++ rest))) ≡ end + 1) [
      | true ↦ λ none. omega (arith, none)
      | false ↦ λ more. (let on = size_at front rest (position_or_len is_line_end front) refl (omega (arith, more, near)) in
          omega (arith, more, on))
    ] is

size_within : (bytes : List ℕ) → line_size bytes ≤ length bytes
size_within [] = omega arith
size_within (b ∷ bytes) =
    let more = size_within bytes in
    elim (is_line_end b) as (λ t. cond t 1 (suc (line_size bytes)) ≤ suc (length bytes)) [
      | true ↦ omega arith
      | false ↦ omega (arith, more)
    ]

after_is_drop : (bytes : List ℕ) → after_line bytes ≡ drop (line_size bytes) bytes
after_is_drop [] = refl
after_is_drop (b ∷ bytes) =
    elim (is_line_end b) as (λ t. cond t bytes (after_line bytes) ≡ drop (cond t 1 (suc (line_size bytes))) (b ∷ bytes)) [
      | true ↦ refl
      | false ↦ after_is_drop bytes
    ]

-- the last byte of a line is a line's size of its own
last_byte : (t : Bool) → cond {A = ℕ} t 1 1 ≡ 1
last_byte true = refl
last_byte false = refl

-- the first line has a last byte, after which the next line begins
size_last : (b : ℕ) (bytes : List ℕ) → (j : ℕ) × (line_size (b ∷ bytes) ≡ suc j) × (line_size (drop j (b ∷ bytes)) ≡ 1)
size_last b [] = (0, last_byte (is_line_end b), last_byte (is_line_end b))
size_last b (c ∷ bytes) =
    elim (is_line_end b) as (λ t. is_line_end b ≡ t → (j : ℕ) × (cond t 1 (suc (line_size (c ∷ bytes))) ≡ suc j)
    × (line_size (drop j (b ∷ c ∷ bytes)) ≡ 1)) [
      | true ↦ λ e. (0, refl, ap (λ t. cond t 1 (suc (line_size (c ∷ bytes)))) e)
      | false ↦ λ e. (let more = size_last c bytes in (suc more.0, ap suc more.1, more.2))
    ] refl

-- ---- the offsets of lines
-- the lines from an offset on are the bytes from the start of the first one on
pub start_lines : (offset : ℕ) (all : List ℕ) → drop (line_start_from offset all) all ≡ lines_from offset all
start_lines zero all = refl
start_lines (suc n) all =
    sym (drop-drop (line_size (drop n all)) n all) ∙ sym (after_is_drop (drop n all))

pub start_within : (offset : ℕ) (all : List ℕ) → offset ≤ length all → line_start_from offset all ≤ length all
start_within zero all within = omega arith
start_within (suc n) all within =
    let few = size_within (drop n all) in
    omega (arith, within, few, length-drop n all)

pub size_some : (bytes : List ℕ) → 0 < length bytes → 1 ≤ line_size bytes
size_some [] some = absurd (omega (arith, some))
size_some (b ∷ bytes) some = elim (is_line_end b) as (λ t. 1 ≤ cond t 1 (suc (line_size bytes))) [
  | true ↦ omega arith
  | false ↦ omega arith
]

-- the first line from an offset within the bytes on doesn't begin before that
pub start_late : (offset : ℕ) (all : List ℕ) → offset ≤ length all → offset ≤ line_start_from offset all
start_late zero all within = omega arith
start_late (suc n) all within =
    let some = size_some (drop n all) (omega (arith, within, length-drop n all)) in
    omega (arith, some)

begins_at : (n : ℕ) (all : List ℕ) (xs : List ℕ) → drop n all ≡ xs → 0 < length xs → BeginsLine all (n + line_size xs)
begins_at n all [] is some = absurd (omega (arith, some))
begins_at n all (b ∷ bytes) is some =
    let last = size_last b bytes in
    let at : n + line_size (b ∷ bytes) ≡ suc (n + last.0) = omega (arith, last.1) in
    let there : drop (n + last.0) all ≡ drop last.0 (b ∷ bytes) = sym (drop-drop last.0 n all) ∙ ap (drop last.0) is in
    let one : line_size (drop (n + last.0) all) ≡ 1 = ap line_size there ∙ last.2 in
    subst (BeginsLine all) (sym at) (omega (arith, one))

-- a line begins at the start of the first line from an offset on
pub start_begins : (offset : ℕ) (all : List ℕ) → offset ≤ length all → BeginsLine all (line_start_from offset all)
start_begins zero all within = refl
start_begins (suc n) all within = begins_at n all (drop n all) refl (omega (arith, within, length-drop n all))

-- no line begins in the last byte
one_byte : (bytes : List ℕ) → length bytes ≡ 1 → line_size bytes ≡ 1
one_byte [] is = absurd (omega (arith, is))
one_byte (b ∷ []) is = last_byte (is_line_end b)
one_byte (b ∷ c ∷ bytes) is = absurd (omega (arith, is))

end_at : (n : ℕ) (all : List ℕ) → length all ≡ n → BeginsLine all n
end_at zero all is = refl
end_at (suc n) all is =
    let one = one_byte (drop n all) (omega (arith, is, length-drop n all)) in omega (arith, one)

-- the end of a file counts as the beginning of a line
pub end_begins : (all : List ℕ) → BeginsLine all (length all)
end_begins all = end_at (length all) all refl

pub next_drop : (offset : ℕ) (bytes : List ℕ) → ((drop offset bytes ≡ []) × (drop (suc offset) bytes ≡ []))
    ⊎ ((b : ℕ) × (drop offset bytes ≡ b ∷ drop (suc offset) bytes))
next_drop zero [] = inl (refl, refl)
next_drop zero (b ∷ bytes) = inr (b, refl)
next_drop (suc offset) [] = inl (refl, refl)
next_drop (suc offset) (b ∷ bytes) = next_drop offset bytes

size_next : (b : ℕ) (bytes : List ℕ) → line_size (b ∷ bytes) ≤ suc (line_size bytes)
size_next b bytes = elim (is_line_end b) as (λ t. cond t 1 (suc (line_size bytes)) ≤ suc (line_size bytes)) [
  | true ↦ omega arith
  | false ↦ omega arith
]

start_next : (offset : ℕ) (all : List ℕ) → line_start_from offset all ≤ line_start_from (suc offset) all
start_next zero all = omega arith
start_next (suc n) all =
    ⊎_elim (λ none. (let few = ap line_size none.0 in omega (arith, few)))
    (λ (b, is). (let one = ap line_size is in let few = size_next b (drop (suc n) all) in omega (arith, one, few)))
    (next_drop n all)

start_on : (more offset : ℕ) (all : List ℕ) → line_start_from offset all ≤ line_start_from (offset + more) all
start_on zero offset all = let e : offset + 0 ≡ offset = omega arith in rw e (omega arith)
start_on (suc more) offset all =
    let e : offset + suc more ≡ suc (offset + more) = omega arith in
    let so_far = start_on more offset all in
    let next = start_next (offset + more) all in
    let is = ap (λ n. line_start_from n all) e in
    omega (arith, so_far, next, is)

-- the first line from a later offset on begins no earlier
pub starts_rise : (offset later : ℕ) (all : List ℕ) → offset ≤ later → line_start_from offset all ≤ line_start_from later all
starts_rise offset later all low =
    let e : offset + (later - offset) ≡ later = omega (arith, low) in
    let on = start_on (later - offset) offset all in
    let is = ap (λ n. line_start_from n all) e in
    omega (arith, on, is)

-- The first line from an offset on is the first one from a later offset on, if it doesn't begin before that.
start_same : (offset : ℕ) (all : List ℕ) → suc offset ≤ line_start_from offset all →
    line_start_from (suc offset) all ≡ line_start_from offset all
start_same zero all late = absurd (omega (arith, late))
start_same (suc n) all late =
    ⊎_elim (λ none. absurd (let few = ap line_size none.0 in omega (arith, few, late)))
    (λ (b, is). let one = ap line_size is in elim (is_line_end b) as (λ t. cond t 1 (suc (line_size (drop (suc n) all)))
    ≡ line_size (drop n all) → suc n + line_size (drop (suc n) all) ≡ n + line_size (drop n all)) [
      | true ↦ λ e. absurd (omega (arith, e, late))
      | false ↦ λ e. omega (arith, e)
    ] (sym one)) (next_drop n all)

same_on : (more offset : ℕ) (all : List ℕ) → offset + more ≤ line_start_from offset all →
    line_start_from (offset + more) all ≡ line_start_from offset all
same_on zero offset all late = let e : offset + 0 ≡ offset = omega arith in ap (λ n. line_start_from n all) e
same_on (suc more) offset all late =
    let e : offset + suc more ≡ suc (offset + more) = omega arith in
    let so_far = same_on more offset all (omega (arith, late)) in
    ap (λ n. line_start_from n all) e ∙ start_same (offset + more) all (omega (arith, late, so_far)) ∙ so_far

pub one_start : (offset later : ℕ) (all : List ℕ) → offset ≤ later → later ≤ line_start_from offset all →
    line_start_from later all ≡ line_start_from offset all
one_start offset later all low late =
    let e : offset + (later - offset) ≡ later = omega (arith, low) in
    ap (λ n. line_start_from n all) (sym e) ∙ same_on (later - offset) offset all (omega (arith, low, late))

-- ---- the search
-- the first line from `offset` on begins after the first end of a line at `reached` or after it, if the file's bytes are known
abbrev pub Scanned : Option (List ℕ) → ℕ → ℕ → Type 0
Scanned bytes offset reached = IfSome bytes (λ all. line_start_from offset all ≡ reached + line_size (drop reached all))

pub scanned_nothing : (bytes : Option (List ℕ)) (offset : ℕ) → 0 < offset → Scanned bytes offset (offset - 1)
scanned_nothing None offset some = tt
scanned_nothing (Some all) zero some = absurd (omega (arith, some))
scanned_nothing (Some all) (suc n) some = let e : suc n - 1 ≡ n = omega arith in rw e refl

-- A search that reads bytes without an end of a line continues after these bytes.
pub scans_on : (bytes : Option (List ℕ)) (offset reached later : ℕ) (read : List ℕ) → Scanned bytes offset reached
    → AreAt bytes reached read → position is_line_end read ≡ None → later ≡ reached + length read → Scanned bytes offset later
scans_on None offset reached later read so_far at none is = tt
scans_on (Some all) offset reached later read so_far (rest, at) none is =
    let size = ap line_size at ∙ size_len read rest (nowhere is_line_end read none) in
    let further = ap line_size (drop_past_prefix all read rest reached at) in
    rw is (omega (arith, so_far, size, further))

-- A search that reads an end of a line finds the line that begins after it.
pub scan_finds : (bytes : Option (List ℕ)) (offset end reached start : ℕ) (read : List ℕ) (last : ℕ) → Scanned bytes offset reached
    → AreAt bytes reached read → position is_line_end read ≡ Some last → start ≡ reached + (last + 1) → length read ≤ end - reached
    → IsLineStart bytes offset end start
scan_finds None offset end reached start read last so_far at found is few = tt
scan_finds (Some all) offset end reached start read last so_far (rest, at) found is few =
    let line = somewhere is_line_end read last found in
    let near = line.1 in
    let size = ap line_size at ∙ size_at read rest last line.0 line.1 in
    omega (arith, is, size, so_far, near, few)

-- A search that comes to its end finds no line before that.
pub scan_stops : (bytes : Option (List ℕ)) (offset end reached : ℕ) → Scanned bytes offset reached → end ≤ reached
    → IsLineStart bytes offset end end
scan_stops None offset end reached so_far over = tt
scan_stops (Some all) offset end reached so_far over = omega (arith, so_far, over)

-- After the last byte no line begins.
pub scan_ends : (bytes : Option (List ℕ)) (offset end reached : ℕ) → Scanned bytes offset reached → AreLast bytes reached [] → reached < end
    → IsLineStart bytes offset end reached
scan_ends None offset end reached so_far last before = tt
scan_ends (Some all) offset end reached so_far last before =
    let none = ap line_size last in omega (arith, so_far, none, before)

-- the first line begins at the file's first byte
pub first_start : (bytes : Option (List ℕ)) (end : ℕ) → IsLineStart bytes 0 end 0
first_start None end = tt
first_start (Some all) end = omega arith

-- A line that begins before the end of a search is found by each longer search.
pub start_near : (bytes : Option (List ℕ)) (offset near end start : ℕ) → IsLineStart bytes offset near start → near ≤ end
    → (start < near) ⊎ (near ≡ end) → IsLineStart bytes offset end start
start_near None offset near end start is low early = tt
start_near (Some all) offset near end start is low early =
    ⊎_elim (λ before. omega (arith, is, low, before)) (λ same. omega (arith, is, same)) early

-- A search that finds no line before its end continues there.
pub start_far : (bytes : Option (List ℕ)) (offset near end start later : ℕ) → offset ≤ near → IsLineStart bytes offset near start
    → near ≤ start → IsLineStart bytes near end later → IsLineStart bytes offset end later
start_far None offset near end start later low is late far = tt
start_far (Some all) offset near end start later low is late far =
    let same = one_start offset near all low (omega (arith, is, late)) in omega (arith, far, same)
