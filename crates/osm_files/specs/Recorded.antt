-- Results of reads, which are replayed: own rules of this project.
use Rattle.std.specs.Borrow.{Bor}
use Rattle.std.specs.Prelude.{◌≡◌, ℕ, List, [], ◌∷◌, ◌++◌, drop, Option, Some, None, Result, Ok, Err}
use Rattle.osm_files.specs.declared.input.Broken.{Broken}
use Rattle.osm_files.specs.Input.{InputRest, whole_input, broken_input, with_front}

-- the result of a read: some bytes, or a failure
abbrev pub ReadResult : Type 0
ReadResult = Result (Bor (List ℕ)) Broken

-- the rest of the result that was begun, and the results after it
pub record RecordedData : Type 0 where
  pub front : List ℕ
  pub results : List ReadResult

-- these bytes were read, and then there came more; no bytes are the end of input
abbrev pub read_then : List ℕ → InputRest → InputRest
read_then [] more = whole_input []
read_then (b ∷ bytes) more = with_front (b ∷ bytes) more

-- what an input gives that replays these results: the bytes up to the first result without a byte, which is the end of
-- input, or up to the first failure
abbrev pub replayed : List ReadResult → InputRest
replayed [] = whole_input []
replayed (Ok bytes ∷ results) = read_then bytes.now (replayed results)
replayed (Err broken ∷ results) = broken_input []

-- what an input gives that is to replay the rest of a result, and the results after it
abbrev pub given_by : RecordedData → InputRest
given_by recorded = with_front recorded.front (replayed recorded.results)

-- the bytes of all results
abbrev pub all_bytes : List ReadResult → List ℕ
all_bytes [] = []
all_bytes (Ok bytes ∷ results) = bytes.now ++ all_bytes results
all_bytes (Err broken ∷ results) = all_bytes results

-- one of the results is a failure
abbrev pub HasFailure : List ReadResult → Type 0
HasFailure [] = ⊥
HasFailure (Ok bytes ∷ results) = HasFailure results
HasFailure (Err broken ∷ results) = Unit {0}

-- an input that gave `before` gives `front` and then `after`; it is at its end if there is no front
abbrev pub Begins : InputRest → List ℕ → InputRest → Type 0
Begins before front after = (before ≡ with_front front after) × (front ≡ [] → before ≡ whole_input [])

-- the result at an offset of the bytes `front` and then of those of `results`: the bytes from there on, a failure, or
-- none if there are no more bytes
abbrev pub IsFoundAt : List ℕ → List ReadResult → ℕ → Option ReadResult → Type 0
IsFoundAt front results offset None = drop offset (front ++ all_bytes results) ≡ []
IsFoundAt front results offset (Some (Ok bytes)) =
    (more : List ℕ) × (drop offset (front ++ all_bytes results) ≡ bytes.now ++ more) × (bytes.now ≡ [] → ⊥)
IsFoundAt front results offset (Some (Err broken)) = HasFailure results
