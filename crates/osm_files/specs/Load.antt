-- The result of loading a whole file.
use Rattle.std.specs.Prelude.{◌≡◌, ◌↔◌, ◌⊎◌, ℕ, ◌==◌, ◌||◌, not, nat_le, Bool, false, IsTrue, List, [], ◌∷◌, length}
use Rattle.std.specs.Prelude.{take, bytes_eq, Some, None, IfSome, if◌then◌else◌}
use Rattle.std.specs.List.Sorted.{IsSorted}
use Rattle.osm_model.specs.Data.{VersionData}
use Rattle.osm_model.specs.Order.{key_cmp}
use Rattle.osm_files.specs.declared.fault.Fault.{Fault}
use Rattle.osm_files.specs.declared.format.Format.{Format}
use Rattle.osm_files.specs.declared.format.Format.TheVariants.{Opl, O5m, O5c}
use Rattle.osm_files.specs.declared.load.Loaded.{Loaded}
use Rattle.osm_files.specs.Fault.{memory_fault}
use Rattle.osm_files.specs.Groups.{FileSourceData, FileCanGive, sorted_source}
use Rattle.osm_files.specs.declared.end_rule.EndRule.{EndRule}
use Rattle.osm_files.specs.EndRule.{by_rule}
use Rattle.osm_files.specs.Input.{InputRest, Explained}
use Rattle.osm_files.specs.O5.{o5m_header, reset_byte}
use Rattle.osm_files.specs.Held.{Holds, HoldsSorted}
use Rattle.osm_files.specs.Verdict.{versions_of}
use Rattle.osm_files.specs.Position.{KnownPosition, units_from, with_input, rest_of_bytes, KeepsRest}

-- the header of o5m files is at the front
abbrev pub is_o5m : List ℕ → Bool
is_o5m bytes = bytes_eq (take 7 bytes) o5m_header

-- the format of a file: OPL if its first byte isn't ff, else o5m or o5c by the header
abbrev pub format_of : List ℕ → Format
format_of [] = Opl
format_of (b ∷ bytes) = if b == reset_byte then (if is_o5m (b ∷ bytes) then O5m else O5c) else Opl

-- Do the bytes determine the format, whatever follows? They do if the first isn't ff, or if they are at least as many
-- as a header has.
abbrev pub determines_format : List ℕ → Bool
determines_format [] = false
determines_format (b ∷ bytes) = not (b == reset_byte) || nat_le 7 (length (b ∷ bytes))

-- the remaining bytes are a file of this format, and no version was given
abbrev pub DeterminesFormat : Format → KnownPosition → KnownPosition → Type 0
DeterminesFormat format before after = KeepsRest before after ×
    IfSome (rest_of_bytes before) (λ c. format ≡ format_of c.bytes)

-- the bytes are a file, which the input gives and then ends well; the result has the file's versions, its format and
-- whether it is sorted
pub record Loads (c : InputRest) (loaded : Loaded) : Type 0 where
  pub unbroken : c.failure ≡ None
  pub holds : Holds c.bytes loaded.history
  pub format : loaded.format ≡ format_of c.bytes
  pub sorted : IsTrue loaded.sorted ↔ HoldsSorted c.bytes loaded.history

-- an input was read to its end: no unit is refused, and these are the versions in their order, the format, and whether
-- the file is sorted
pub record IsRead (input : ℕ) (c : InputRest) (versions : List VersionData) (format : Format)
    (sorted : Bool) : Type 0 where
  pub unrefused : (with_input input (units_from None 0 c)).refusal ≡ None
  pub all : versions_of (with_input input (units_from None 0 c)).list ≡ versions
  pub shown : format ≡ format_of c.bytes
  pub rises : IsTrue sorted ↔ IsSorted key_cmp versions

-- A source of this input's file was opened, which has to end as the rule says, and its format returned: for each list
-- that the source can give, the reader could give a file of this format whose source gives that list.
abbrev pub Opens : {R : Type 0} → (R → InputRest → Type 0) → EndRule → ℕ → R → Format → FileSourceData R → Type 0
Opens can end input reader format s = Explained (can reader) (FileCanGive can s)
    (λ c still. (format ≡ format_of c.bytes) × (still ≡ sorted_source input (by_rule end c)))

-- why the source of this input's file isn't opened: memory ran out, or the source of the file ends with this refusal
abbrev pub StopsOpening : ℕ → InputRest → Fault → Type 0
StopsOpening input c fault = (fault ≡ memory_fault) ⊎ ((sorted_source input c).refusal ≡ Some fault)

-- no unit of the file of this input is refused
abbrev pub IsAcceptedWhole : ℕ → InputRest → Type 0
IsAcceptedWhole input c = (with_input input (units_from None 0 c)).refusal ≡ None

-- why the file of this input isn't loaded: memory ran out, or its units end with this refusal
abbrev pub StopsLoading : ℕ → InputRest → Fault → Type 0
StopsLoading input c fault = (fault ≡ memory_fault) ⊎ ((with_input input (units_from None 0 c)).refusal ≡ Some fault)
