-- The order of OPL lines by their keys: own rules of this project.
use Rattle.std.specs.Prelude.{◌≡◌, ◌⊎◌, ℕ, ◌+◌, ◌-◌, ◌<◌, ◌≤◌, Bool, true, false, List, [], ◌∷◌, ◌++◌}
use Rattle.std.specs.Prelude.{length, take, drop, filter, Option, Some, None, Result, Ok, Err}
use Rattle.osm_model.specs.declared.object.Key.{Key}
use Rattle.osm_model.specs.Data.{VersionData}
use Rattle.osm_model.specs.Pairwise.{Pairwise}
use Rattle.opl_line.specs.Delimiter.{is_line_end}
use Rattle.opl_line.specs.Spells.{Spells, SpellsNothing}
use Rattle.opl_line.specs.declared.reason.OplReason.TheVariants as opl
use Rattle.osm_files.specs.declared.fault.Fault.{Fault}
use Rattle.osm_files.specs.declared.key_order.RisingLines.{RisingLines}
use Rattle.osm_files.specs.declared.key_order.Stop.{Stop}
use Rattle.osm_files.specs.declared.key_order.Stop.TheVariants.{Falls, Refused}
use Rattle.osm_files.specs.declared.key_order.StopAt.{StopAt}
use Rattle.osm_files.specs.Fault.{fault_at}
use Rattle.osm_files.specs.FileRuns.{IsReadFailure}
use Rattle.osm_files.specs.LineKey.{keys_rise, last_key}
use Rattle.osm_files.specs.Opl.{is_read, OplFile}
use Rattle.osm_files.specs.ReadAt.{AreAt}
use Rattle.osm_files.specs.Reason.{of_line}

-- `count` bytes of a file from this offset on came after others
abbrev pub CameAt : Option (List ℕ) → ℕ → List ℕ → List ℕ → ℕ → Type 0
CameAt known offset before after count =
    (came : List ℕ) × AreAt known offset came × (after ≡ before ++ came) × (length came ≡ count)

-- the keys of the versions don't fall from the key `before` on, and `after` is the last key
abbrev pub AreRising : Option Key → List VersionData → Option Key → Type 0
AreRising before versions after = (keys_rise before versions ≡ true) × (last_key before versions ≡ after)

-- if the lines are a file, the keys of its versions don't fall
abbrev pub Rise : Option Key → List ℕ → Option Key → Type 0
Rise before lines after = (versions : List VersionData) → OplFile lines versions → AreRising before versions after

-- the bytes are no OPL file
abbrev pub IsNoFile : List ℕ → Type 0
IsNoFile bytes = (versions : List VersionData) → OplFile bytes versions → ⊥

-- there are no bytes, or they end with the end of a line
abbrev pub EndsLine : List ℕ → Type 0
EndsLine lines =
    (lines ≡ []) ⊎ ((text : List ℕ) × (last : ℕ) × (is_line_end last ≡ true) × (lines ≡ text ++ last ∷ []))

-- the result of a step over one line, which has no line end
abbrev pub StepsOver : Option Key → List ℕ → Result (Option Key) Stop → Type 0
StepsOver before line (Ok after) = (versions : List VersionData) → Pairwise Spells (filter is_read (line ∷ [])) versions
    → AreRising before versions after
StepsOver before line (Err Falls) = Unit {0}
StepsOver before line (Err (Refused reason)) = (reason ≡ opl.Memory) ⊎ SpellsNothing line

-- the lines in these bytes up to the offset `end`; `lines` ends where the bytes begin
abbrev pub lines_to : List ℕ → RisingLines → ℕ → List ℕ
lines_to bytes lines end = take (end - lines.end) bytes

-- The reading stops in bytes after `lines`: the lines before it rise; or the bytes are no file, whatever follows them.
-- Nothing follows the last ones.
abbrev pub StopsIn : List ℕ → RisingLines → Bool → ℕ → Stop → Type 0
StopsIn bytes lines is_last offset Falls = (lines.end ≤ offset) × (offset ≤ lines.end + length bytes)
    × ((after : Option Key) × Rise lines.last (lines_to bytes lines offset) after)
StopsIn bytes lines is_last offset (Refused reason) =
    (reason ≡ opl.Memory) ⊎ ((more : List ℕ) → (is_last ≡ true → more ≡ []) → IsNoFile (bytes ++ more))

-- the result of reading the lines that end in these bytes, which follow `lines`
abbrev pub ReadsLines : List ℕ → RisingLines → Bool → Result RisingLines StopAt → Type 0
ReadsLines bytes lines is_last (Ok read) = Rise lines.last (lines_to bytes lines read.end) read.last
    × (is_last ≡ false → EndsLine (lines_to bytes lines read.end))
ReadsLines bytes lines is_last (Err stop) = StopsIn bytes lines is_last stop.offset stop.why

-- the lines that were read end within the bytes that follow `lines`
abbrev pub IsWithin : List ℕ → RisingLines → RisingLines → Type 0
IsWithin bytes lines read = (lines.end ≤ read.end) × (read.end ≤ lines.end + length bytes)

-- the result of reading bytes without a line end, which are a line if they are the last
abbrev pub EndsLines : List ℕ → RisingLines → Bool → Result RisingLines StopAt → Type 0
EndsLines rest lines false result = result ≡ Ok lines
EndsLines rest lines true (Ok read) =
    (read.end ≡ lines.end + length rest) × StepsOver lines.last rest (Ok read.last)
EndsLines rest lines true (Err stop) = (stop.offset ≡ lines.end) × StepsOver lines.last rest (Err stop.why)

-- the bytes of a file from one offset up to another
abbrev pub bytes_between : List ℕ → ℕ → ℕ → List ℕ
bytes_between all start end = take (end - start) (drop start all)

-- The bytes of a file from one offset up to another are lines without a version. The last one has its end, unless it
-- reaches up to `end`.
abbrev pub ArePassed : List ℕ → ℕ → ℕ → ℕ → Type 0
ArePassed all offset next end = ((before : Option Key) → Rise before (bytes_between all offset next) before)
    × (next < end → EndsLine (bytes_between all offset next))

-- the result of passing the line at an offset of a file, which begins with these bytes
abbrev pub PassesLine : Type 0 → List ℕ → ℕ → ℕ → List ℕ → Result (Option ℕ) Fault → Type 0
PassesLine Fails all offset end front (Ok None) = Unit {0}
PassesLine Fails all offset end front (Ok (Some next)) = ArePassed all offset next end
PassesLine Fails all offset end front (Err fault) =
    IsReadFailure Fails fault ⊎ ((more : List ℕ) → IsNoFile (front ++ more))

-- the result of a search for the first line whose key is below the key before it
abbrev pub IsOrderOfLines : Type 0 → List ℕ → ℕ → ℕ → Result (Option ℕ) Fault → Type 0
IsOrderOfLines Fails all start end (Ok None) = (after : Option Key) × Rise None (bytes_between all start end) after
IsOrderOfLines Fails all start end (Ok (Some offset)) =
    (after : Option Key) × Rise None (bytes_between all start offset) after
IsOrderOfLines Fails all start end (Err fault) = IsReadFailure Fails fault ⊎ IsNoFile (bytes_between all start end)

-- the result of a search that stops at a line
abbrev pub outcome_at : ℕ → Stop → Result (Option ℕ) Fault
outcome_at offset Falls = Ok (Some offset)
outcome_at offset (Refused reason) = Err (fault_at 0 offset (of_line reason))

abbrev pub outcome_of : StopAt → Result (Option ℕ) Fault
outcome_of stop = outcome_at stop.offset stop.why
