-- The bytes that an output holds, whether it has failed, and the bytes written to it. Rust's `std::io::Write` has the
-- rule that a write may take a front of the bytes. The rest is an own rule of this project.
use Rattle.std.specs.Prelude.{◌≡◌, ◌≢◌, ℕ, ◌+◌, ◌<◌, ◌≤◌, ◌^◌, ◌⊎◌, Bool, true, false, List, [], ◌++◌, length, take}
use Rattle.std.specs.Prelude.{Result, Ok, Err}
use Rattle.osm_files.specs.declared.fault.Fault.{Fault}
use Rattle.osm_files.specs.Fault.{too_long_fault, write_fault}

-- an output of memory: its bytes, the number of bytes it has room for, and whether it has failed
pub record Collected : Type 0 where
  pub bytes : List ℕ
  pub capacity : ℕ
  pub failed : Bool

-- The bytes that an output may hold: a predicate of bytes. For an output that reports its bytes it is an equation. The
-- bytes of any other output are known only as its earlier bytes and those written since.
abbrev pub Content : Type 1
Content = List ℕ → Type 0

-- A change of an output: the bytes that it may hold before and after, and whether it had failed before and has failed
-- after.
pub record Change : Type 1 where
  pub before : Content
  pub after : Content
  pub failed_before : Bool
  pub failed : Bool

-- These bytes were appended: for all bytes that may be held before, these and then the new bytes may be held after.
abbrev pub IsAppended : Content → Content → List ℕ → Type 0
IsAppended before after bytes = (held : List ℕ) → before held → after (held ++ bytes)

-- a change that appends these bytes
abbrev pub Appends : Change → List ℕ → Type 0
Appends change bytes = IsAppended change.before change.after bytes

-- A write of `bytes` makes the output fail if it returns an error, or if it takes no byte although there are some. An
-- output that had failed before returns an error.
abbrev pub WriteFails : {E : Type 0} → Bool → List ℕ → Result ℕ E → Bool → Type 0
WriteFails old bytes (Ok count) new =
    (old ≡ false) × (0 < count → new ≡ false) × (bytes ≡ [] → new ≡ false) × (count ≡ 0 → bytes ≢ [] → new ≡ true)
WriteFails old bytes (Err error) new = new ≡ true

-- A flush makes the output fail if it returns an error. An output that had failed before returns an error.
abbrev pub FlushFails : {A E : Type 0} → Bool → Result A E → Bool → Type 0
FlushFails old (Ok done) new = (old ≡ false) × (new ≡ false)
FlushFails old (Err error) new = new ≡ true

-- Failing lasts: an output that has not failed after a call had not failed before it.
abbrev pub FailingLasts : Change → Type 0
FailingLasts change = change.failed ≡ false → change.failed_before ≡ false

-- the output had not failed before a call, and has not failed after it
abbrev pub IsGoodThroughout : Change → Type 0
IsGoodThroughout change = (change.failed_before ≡ false) × (change.failed ≡ false)

-- all these bytes were appended, after `written` bytes, and the output has not failed
pub record WroteAll (change : Change) (written : ℕ) (bytes : List ℕ) : Type 0 where
  pub appended : Appends change bytes
  pub short : written + length bytes < 2 ^ 62
  pub good : change.failed ≡ false

-- why only `count` of the bytes were appended: the output failed there, or the file would be too long
abbrev pub WhyStopped : ℕ → ℕ → List ℕ → ℕ → Bool → Fault → Type 0
WhyStopped output written bytes count failed fault =
    ((fault ≡ write_fault output (written + count)) × (failed ≡ true) × (written + length bytes < 2 ^ 62))
    ⊎ ((fault ≡ too_long_fault output) × (2 ^ 62 ≤ written + length bytes))

-- a front of these bytes was appended, after `written` bytes; `why` has the reason why no more were
pub record StoppedWriting (output : ℕ) (change : Change) (written : ℕ) (bytes : List ℕ) (fault : Fault) : Type 0 where
  pub count : ℕ
  pub within : count ≤ length bytes
  pub appended : Appends change (take count bytes)
  pub why : WhyStopped output written bytes count change.failed fault

-- the effect of writing all these bytes, after `written` bytes, on the output of this number
abbrev pub Writes : {A : Type 0} → ℕ → Change → ℕ → List ℕ → Result A Fault → Type 0
Writes output change written bytes (Ok done) = WroteAll change written bytes
Writes output change written bytes (Err fault) = StoppedWriting output change written bytes fault
