-- The rule for the end of an OPL file: an own rule of this project. The format has no mark of its end; the line `# end`
-- is a comment. An o5 file has its own end.
use Rattle.std.specs.Prelude.{ℕ, ◌-◌, drop, length, ◌==◌, nat_eq, ◌||◌, ◌&&◌, not, Bool, true, false, List, [], ◌∷◌}
use Rattle.std.specs.Prelude.{◌++◌, slice_get, is_some}
use Rattle.std.specs.Prelude.{Option, Some, None, if◌then◌else◌}
use Rattle.std.specs.List.{ends_with}
use Rattle.osm_files.specs.declared.end_rule.EndRule.{EndRule}
use Rattle.osm_files.specs.declared.end_rule.EndRule.TheVariants.{Any, LineFeed, Mark}
use Rattle.osm_files.specs.declared.end_rule.EndTest.{EndTest}
use Rattle.osm_files.specs.declared.reason.Reason.{Reason}
use Rattle.osm_files.specs.declared.reason.Reason.TheVariants.{NoEnd}
use Rattle.osm_files.specs.Input.{InputRest}

-- the line `# end` between two line feeds
abbrev pub end_mark : List ℕ
end_mark = 10 ∷ 35 ∷ 32 ∷ 101 ∷ 110 ∷ 100 ∷ 10 ∷ []

-- is this the first byte of an o5 file?
abbrev pub is_o5_start : Option ℕ → Bool
is_o5_start None = false
is_o5_start (Some byte) = byte == 255

-- does the rule let a file end after these bytes? A line feed is before the first line.
abbrev pub ends_well : EndRule → List ℕ → Bool
ends_well Any bytes = true
ends_well LineFeed bytes = is_o5_start (slice_get bytes 0) || ends_with nat_eq (10 ∷ bytes) (10 ∷ [])
ends_well Mark bytes = is_o5_start (slice_get bytes 0) || ends_with nat_eq (10 ∷ bytes) end_mark

-- the rule that the options `--whole` and `--ended` ask for
abbrev pub required_rule : (whole ended : Bool) → EndRule
required_rule whole true = Mark
required_rule true false = LineFeed
required_rule false false = Any

-- the rule of a regular file, which needs no mark
abbrev pub rule_of_file : EndRule → EndRule
rule_of_file Any = Any
rule_of_file LineFeed = LineFeed
rule_of_file Mark = LineFeed

-- is the end missing that the rule asks for?
abbrev pub lacks_its_end : EndRule → List ℕ → Bool
lacks_its_end rule bytes = not (ends_well rule bytes)

-- the reason for which bytes are refused at their end, if the end that their rule asks for may be missing there
abbrev pub failure_if : (cut : Bool) → Option Reason → Option Reason
failure_if false failure = failure
failure_if true None = Some NoEnd
failure_if true (Some reason) = Some reason

-- an input that is refused at its end if it is cut
abbrev pub cut_if : Bool → InputRest → InputRest
cut_if cut c = record { bytes = c.bytes; failure = failure_if cut c.failure }

-- an input that has to end as this rule says: it is refused at its end as NoEnd if the end is missing
abbrev pub by_rule : EndRule → InputRest → InputRest
by_rule rule c = cut_if (lacks_its_end rule c.bytes) c

-- ---- after some bytes were read

-- the last 7 bytes, as many as the mark has
abbrev pub last_seven : List ℕ → List ℕ
last_seven bytes = drop (length bytes - 7) bytes

-- the last 7 bytes where none were read: a line feed is before the first line, and bytes of no meaning are before it
abbrev pub start_bytes : List ℕ
start_bytes = 0 ∷ 0 ∷ 0 ∷ 0 ∷ 0 ∷ 0 ∷ 10 ∷ []

-- the test before the first byte
abbrev pub new_test : EndRule → EndTest
new_test rule = record { rule = rule; begun = false; last = start_bytes }

-- the rule after bytes with this first byte, or no bytes: an o5 file has none
abbrev pub rule_after : EndRule → Bool → Option ℕ → EndRule
rule_after Any begun first = Any
rule_after LineFeed true first = LineFeed
rule_after LineFeed false None = LineFeed
rule_after LineFeed false (Some byte) = if byte == 255 then Any else LineFeed
rule_after Mark true first = Mark
rule_after Mark false None = Mark
rule_after Mark false (Some byte) = if byte == 255 then Any else Mark

-- the test after more bytes
abbrev pub test_after : EndTest → List ℕ → EndTest
test_after e bytes = record {
  rule = rule_after e.rule e.begun (slice_get bytes 0);
  begun = e.begun || is_some (slice_get bytes 0);
  last = last_seven (e.last ++ bytes);
}

-- is the end missing, if these are the last bytes?
abbrev pub lacks_by : EndRule → List ℕ → Bool
lacks_by Any last = false
lacks_by LineFeed last = not (ends_with nat_eq last (10 ∷ []))
lacks_by Mark last = not (ends_with nat_eq last end_mark)

-- is the end missing, if no more bytes follow?
abbrev pub lacks_end : EndTest → Bool
lacks_end e = lacks_by e.rule e.last

-- the rest of an input, which has to pass this test at its end
abbrev pub by_test : EndTest → InputRest → InputRest
by_test e c = cut_if (lacks_end (test_after e c.bytes)) c

-- ---- by the first and the last byte
-- does a file with this first and this last byte, or with no bytes, lack the line feed at its end?
abbrev pub lacks_by_ends : Option ℕ → Option ℕ → Bool
lacks_by_ends None last = false
lacks_by_ends (Some first) None = false
lacks_by_ends (Some first) (Some last) = not (first == 255) && not (last == 10)
