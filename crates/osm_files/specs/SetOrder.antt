-- The order of the data sets of o5 files by their keys: own rules of this project.
use Rattle.std.specs.Prelude.{◌≡◌, ◌⊎◌, ℕ, ◌+◌, ◌-◌, ◌≤◌, true, List, [], ◌∷◌, ◌++◌, length, take}
use Rattle.std.specs.Prelude.{drop, Result, Ok, Err}
use Rattle.osm_files.specs.declared.fault.Fault.{Fault}
use Rattle.osm_files.specs.declared.set_key.KeyPart.{KeyPart}
use Rattle.osm_files.specs.declared.set_order.RisingSets.{RisingSets}
use Rattle.osm_files.specs.declared.set_order.SetOrder.{SetOrder}
use Rattle.osm_files.specs.declared.set_order.SetOrder.TheVariants.{Rises, Falls, Unknown}
use Rattle.osm_files.specs.declared.sorted_run.SortedRun.{SortedRun}
use Rattle.osm_files.specs.FileRuns.{IsReadFailure}
use Rattle.osm_files.specs.RunBreaks.{SetsRiseTo, starts_as_o5}
use Rattle.osm_files.specs.KeyOrder.{bytes_between}
use Rattle.osm_files.specs.O5.{o5m_header, o5c_header, end_byte}
use Rattle.osm_files.specs.SetKey.{KeyRises, AreKeyedSets, StartKeyedSets, IsKeyedFile}
use Rattle.osm_files.specs.SortedRun.{bytes_before, bytes_after, run_bytes}

-- the sets with one more part, whose key isn't below the last key
pub record AreSetsAnd (sets : RisingSets) (part : KeyPart) (next : RisingSets) : Type 0 where
  pub end : next.end ≡ sets.end + part.size
  pub base : next.base ≡ part.base
  pub last : KeyRises sets.last part.key next.last

-- `read` continues `sets` in these bytes, which follow `sets`
pub record Continues (bytes : List ℕ) (sets read : RisingSets) : Type 0 where
  pub after : sets.end ≤ read.end
  pub within : read.end ≤ sets.end + length bytes
  pub keyed : AreKeyedSets sets.base sets.last (take (read.end - sets.end) bytes) read.base read.last

-- the result of reading sets that begin in a window: these sets, if their keys don't fall; or those before a set whose
-- key is below the key before it
abbrev pub ReadsSets : List ℕ → RisingSets → Result RisingSets RisingSets → Type 0
ReadsSets bytes sets (Ok read) = Continues bytes sets read
ReadsSets bytes sets (Err read) = Continues bytes sets read

-- the result of a search among the data sets of a file from one offset up to another
abbrev pub IsOrderOfSets : Type 0 → List ℕ → ℕ → ℕ → Result SetOrder Fault → Type 0
IsOrderOfSets Fails all start end (Ok Rises) = StartKeyedSets (bytes_between all start end)
IsOrderOfSets Fails all start end (Ok (Falls offset)) =
    (start ≤ offset) × StartKeyedSets (bytes_between all start offset)
IsOrderOfSets Fails all start end (Ok Unknown) = Unit {0}
IsOrderOfSets Fails all start end (Err fault) = IsReadFailure Fails fault

-- the run begins with a header, of its own or of the file, and its data sets begin at this offset of the file
pub record HasHeader (all : List ℕ) (run : SortedRun) (offset : ℕ) : Type 0 where
  pub header : List ℕ
  pub is_header : (header ≡ o5m_header) ⊎ (header ≡ o5c_header)
  pub after : run.start ≤ offset
  pub starts : starts_as_o5 all run ≡ true
  pub whole : (size : ℕ) → offset - run.start ≤ size
      → bytes_before run ++ take size (drop run.start all)
      ≡ header ++ take (size - (offset - run.start)) (drop offset all)

-- the run ends with an end byte, of its own or of the file before the offset `end`, and its data sets end at `offset`
pub record HasEnd (all : List ℕ) (run : SortedRun) (end offset : ℕ) : Type 0 where
  pub within : offset ≤ end
  pub whole : (start : ℕ) → start ≤ offset
      → bytes_between all start end ++ bytes_after run ≡ bytes_between all start offset ++ end_byte ∷ []

-- the result of a search among the data sets of a run
abbrev pub IsOrderOfRun : Type 0 → List ℕ → SortedRun → Result SetOrder Fault → Type 0
IsOrderOfRun Fails all run (Ok Rises) = IsKeyedFile (run_bytes run all)
IsOrderOfRun Fails all run (Ok (Falls offset)) = SetsRiseTo all run offset
IsOrderOfRun Fails all run (Ok Unknown) = Unit {0}
IsOrderOfRun Fails all run (Err fault) = IsReadFailure Fails fault
