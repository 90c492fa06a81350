-- What an extent of a file gives, and a sorted run of a file: own rules of this project.
use Rattle.std.specs.Prelude.{◌≡◌, ◌⊎◌, ℕ, ◌+◌, ◌-◌, ◌<◌, ◌≤◌, min, nat_lt, List, [], ◌++◌, length, take, drop, Option}
use Rattle.std.specs.Prelude.{Bool, true, false, Some, None, is_some, if◌then◌else◌}
use Rattle.osm_files.specs.declared.reason.Reason.{Reason}
use Rattle.osm_files.specs.declared.reason.Reason.TheVariants.{ReadFault}
use Rattle.osm_files.specs.Input.{InputRest, GivesOne}
use Rattle.osm_files.specs.ReadAt.{AreAt, AreLast}
use Rattle.osm_files.specs.declared.sorted_run.SortedRun.{SortedRun}
use Rattle.osm_files.specs.SortedRun.{bytes_before, bytes_after}

-- an error, if a read failed
abbrev pub read_fault_if : Bool → Option Reason
read_fault_if true = Some ReadFault
read_fault_if false = None

-- What an extent of a file from `next` up to `end` can give: the bytes that the file has there, and then the end of
-- input. If the file fails or ends earlier, it gives fewer bytes and then an error. So it never ends early without an
-- error. `Fails` holds if reads of the file may fail.
pub record ExtentCanGive (Fails : Type 0) (known : Option (List ℕ)) (next end : ℕ) (c : InputRest) : Type 0 where
  pub within : length c.bytes ≤ end - next
  pub failure : c.failure ≡ read_fault_if (nat_lt (length c.bytes) (end - next))
  pub bytes : AreAt known next c.bytes
  pub why : length c.bytes < end - next → Fails ⊎ AreLast known next c.bytes

-- what an extent gives of a file with the bytes `all` whose reads don't fail: the bytes from `next` up to `end`, and
-- then the end of input; or an error, if the file ends earlier
abbrev pub extent_rest : ℕ → ℕ → List ℕ → InputRest
extent_rest next end all =
    let bytes = take (end - next) (drop next all) in
    record { bytes = bytes; failure = read_fault_if (nat_lt (length bytes) (end - next)) }

-- what an extent gives, between bytes before it and bytes after it, which follow unless the extent fails
abbrev pub framed : List ℕ → List ℕ → InputRest → InputRest
framed before after c =
    record { bytes = before ++ (c.bytes ++ (if is_some c.failure then [] else after)); failure = c.failure }

-- what a run of a file of this size can give: its extent of the file, between the bytes that the run has before it and
-- after it
abbrev pub RunCanGive : Type 0 → Option (List ℕ) → SortedRun → ℕ → InputRest → Type 0
RunCanGive Fails known run size c = GivesOne (ExtentCanGive Fails known run.start (min (run.start + run.size) size))
    (λ given. c ≡ framed (bytes_before run) (bytes_after run) given)
