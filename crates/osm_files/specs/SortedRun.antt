-- A file that is several files in sequence, and its parts that are files: an own rule of this project.
use Rattle.std.specs.Prelude.{◌≡◌, ◌⊎◌, ℕ, ◌+◌, ◌-◌, ◌^◌, ◌==◌, ◌&&◌, ◌||◌, not, min, nat_lt, Bool, true, false, List}
use Rattle.std.specs.Prelude.{[], ◌∷◌, ◌++◌, length, map, take, drop, slice_get, Option, Some, None, is_some}
use Rattle.std.specs.Prelude.{if◌then◌else◌}
use Rattle.opl_line.specs.Delimiter.{is_line_end}
use Rattle.osm_files.specs.declared.sorted_run.BytesAtSplit.{BytesAtSplit}
use Rattle.osm_files.specs.declared.sorted_run.SortedRun.{SortedRun}
use Rattle.osm_files.specs.O5.{o5m_header, o5c_header, end_byte, reset_byte}
use Rattle.osm_files.specs.Units.{InOpl, BeforeHeader, start_of}

-- The bytes are split after a line: `file` is the lines up to there with their ends, and `rest` has the lines after
-- them.
pub record SplitAfterLine (file rest bytes : List ℕ) : Type 0 where
  pub front : List ℕ
  pub last : ℕ
  pub ends : is_line_end last ≡ true
  pub is_file : file ≡ front ++ last ∷ []
  pub lines : start_of file ≡ InOpl
  pub more_lines : start_of rest ≡ InOpl
  pub whole : bytes ≡ file ++ rest

-- The bytes are split at a reset: `file` has the bytes before the reset, and the end byte instead of the reset. `rest`
-- has a header, and the data sets after the reset.
pub record SplitAtReset (file rest bytes : List ℕ) : Type 0 where
  pub front : List ℕ
  pub header : List ℕ
  pub after : List ℕ
  pub is_file : file ≡ front ++ end_byte ∷ []
  pub data_sets : start_of file ≡ BeforeHeader
  pub is_header : (header ≡ o5m_header) ⊎ (header ≡ o5c_header)
  pub is_rest : rest ≡ header ++ after
  pub whole : bytes ≡ front ++ reset_byte ∷ after

-- the bytes are split into a file and the rest
abbrev pub IsSplit : List ℕ → List ℕ → List ℕ → Type 0
IsSplit file rest bytes = SplitAfterLine file rest bytes ⊎ SplitAtReset file rest bytes

-- the bytes are split into these files, in sequence
abbrev pub IsSplitInto : List ℕ → List (List ℕ) → Type 0
IsSplitInto bytes [] = ⊥
IsSplitInto bytes (file ∷ []) = bytes ≡ file
IsSplitInto bytes (file ∷ next ∷ files) = (rest : List ℕ) × IsSplit file rest bytes × IsSplitInto rest (next ∷ files)

-- the bytes that a run has before its part of the file
abbrev pub bytes_before : SortedRun → List ℕ
bytes_before run = if run.lacks_header then o5m_header else []

-- the bytes that a run has after its part of the file
abbrev pub bytes_after : SortedRun → List ℕ
bytes_after run = if run.lacks_end then end_byte ∷ [] else []

-- the bytes of a run of a file
abbrev pub run_bytes : SortedRun → List ℕ → List ℕ
run_bytes run file = bytes_before run ++ (take run.size (drop run.start file) ++ bytes_after run)

-- the run that is the whole file
abbrev pub whole_run : SortedRun
whole_run = record { start = 0; size = 2 ^ 64 - 1; lacks_header = false; lacks_end = false }

-- The offset in the file of the byte at this offset in the run, at most the greatest offset. For a byte of the header
-- before the part it is the part's start.
abbrev pub offset_in_file : SortedRun → ℕ → ℕ
offset_in_file run offset = min (run.start + (offset - length (bytes_before run))) (2 ^ 64 - 1)

-- the file is split into these runs
abbrev pub IsSplitIntoRuns : List ℕ → List SortedRun → Type 0
IsSplitIntoRuns file runs = IsSplitInto file (map (λ run. run_bytes run file) runs)

-- the file has these bytes at the start of a run and at the offset of a split
pub record HasBytes (file : List ℕ) (start offset : ℕ) (bytes : BytesAtSplit) : Type 0 where
  pub first : slice_get file start ≡ bytes.first
  pub before : slice_get file (offset - 1) ≡ bytes.before
  pub at : slice_get file offset ≡ bytes.at

-- is there a byte, and is it a reset?
abbrev pub is_reset : Option ℕ → Bool
is_reset None = false
is_reset (Some byte) = byte == reset_byte

-- is there a byte, and does it end a line?
abbrev pub ends_line : Option ℕ → Bool
ends_line None = false
ends_line (Some byte) = is_line_end byte

-- is the run an o5 file?
abbrev pub is_o5_run : SortedRun → BytesAtSplit → Bool
is_o5_run run bytes = run.lacks_header || is_reset bytes.first

-- is the offset within the run, not at its start, and does the file have a byte there?
abbrev pub is_within : SortedRun → ℕ → BytesAtSplit → Bool
is_within run offset bytes = nat_lt run.start offset && (nat_lt (offset - run.start) run.size && is_some bytes.at)

-- an o5 file is split after a reset, which isn't its first byte
abbrev pub splits_o5 : SortedRun → ℕ → BytesAtSplit → Bool
splits_o5 run offset bytes = nat_lt (run.start + 1) offset && is_reset bytes.before

-- an OPL file is split after the end of a line, unless the rest would be read as an o5 file
abbrev pub splits_opl : BytesAtSplit → Bool
splits_opl bytes = ends_line bytes.before && not (is_reset bytes.at)

-- may the run be split at the offset?
abbrev pub can_split : SortedRun → ℕ → BytesAtSplit → Bool
can_split run offset bytes =
    is_within run offset bytes && (if is_o5_run run bytes then splits_o5 run offset bytes else splits_opl bytes)

-- the run up to the offset; of an o5 file without the reset
abbrev pub front_run : Bool → SortedRun → ℕ → SortedRun
front_run is_o5 run offset = record {
  start = run.start;
  size = offset - run.start - (if is_o5 then 1 else 0);
  lacks_header = run.lacks_header;
  lacks_end = is_o5;
}

-- the run from the offset on
abbrev pub rest_run : Bool → SortedRun → ℕ → SortedRun
rest_run is_o5 run offset = record {
  start = offset;
  size = run.size - (offset - run.start);
  lacks_header = is_o5;
  lacks_end = run.lacks_end;
}

-- the run split at the offset, if it can be split
abbrev pub split_run : SortedRun → ℕ → BytesAtSplit → Option (SortedRun × SortedRun)
split_run run offset bytes =
    let is_o5 = is_o5_run run bytes in
    if can_split run offset bytes then Some (front_run is_o5 run offset, rest_run is_o5 run offset) else None

-- a file that is split from its front on: the runs that were split off, and the rest
pub record FileRuns : Type 0 where
  pub fronts : List SortedRun
  pub rest : SortedRun

-- all runs, in the file's order
abbrev pub runs_of : FileRuns → List SortedRun
runs_of file = file.fronts ++ file.rest ∷ []

-- the runs after a split of the rest, and the run that it splits off
abbrev pub after_split : FileRuns → Option (SortedRun × SortedRun) → FileRuns × Option SortedRun
after_split runs None = (runs, None)
after_split runs (Some (front, rest)) = (record { fronts = runs.fronts ++ front ∷ []; rest = rest }, Some front)
