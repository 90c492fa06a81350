-- The files of a job over open inputs, for `run_inputs`: an own rule of this project.
use Rattle.std.specs.Prelude.{◌≡◌, ◌≢◌, ◌⊎◌, ℕ, Bool, true, false, List, [], ◌∷◌, length, map, count_by, slice_get}
use Rattle.std.specs.Prelude.{Option, Some, None}
use Rattle.std.specs.Borrow.{Bor}
use Rattle.osm_files.specs.declared.fault.Fault.{Fault}
use Rattle.osm_files.specs.Fault.{memory_fault, failed_fault}
use Rattle.osm_mirror.specs.declared.run.files_job.JobFile.{JobFile}
use Rattle.osm_mirror.specs.declared.run.files_job.JobFile.TheVariants.{File, Stream}
use Rattle.osm_mirror.specs.declared.run.job_input.JobInput.{JobInput}

-- The file of an open input: its regular file, or if it has none, the next one of the streams `before`. The streams
-- `after` are left. There is no file if there is no next stream.
abbrev pub IsFileOf : {N F R : Type 0} → JobInput N F → (before : List R) → Option (JobFile F R) → (after : List R)
    → Type 0
IsFileOf input before (Some (File f end)) after =
    (input.regular ≡ Some f.now) × (end ≡ input.end) × (before ≡ after)
IsFileOf input before (Some (Stream r end)) after =
    (input.regular ≡ None) × (end ≡ input.end) × (before ≡ r ∷ after)
IsFileOf input before None after = (input.regular ≡ None) × (before ≡ [])

-- Files of a job, one for each open input, in their order. All streams are used.
abbrev pub AreFilesOf : {N F R : Type 0} → List (JobInput N F) → List R → List (JobFile F R) → Type 0
AreFilesOf [] streams files = (streams ≡ []) × (files ≡ [])
AreFilesOf (input ∷ inputs) streams [] = ⊥
AreFilesOf {N} {F} {R} (input ∷ inputs) streams (file ∷ files) =
    (others : List R) × IsFileOf input streams (Some file) others × AreFilesOf inputs others files

-- there is no value
abbrev pub is_absent : {X : Type 0} → Option X → Bool
is_absent None = true
is_absent (Some x) = false

-- an open input is read as a stream: it has no regular file
abbrev pub is_stream : {N F : Type 0} → JobInput N F → Bool
is_stream input = is_absent input.regular

-- memory ran out, or the number of streams isn't that of the inputs without a regular file
abbrev pub IsUnmatched : {N F R : Type 0} → List (JobInput N F) → List R → Fault → Type 0
IsUnmatched inputs streams fault = (fault ≡ memory_fault)
    ⊎ ((fault ≡ failed_fault fault.input) × (count_by is_stream inputs ≢ length streams))

-- these are the regular files of open inputs, one for each, in their order
abbrev pub AreRegularFilesOf : {N F : Type 0} → List (JobInput N F) → List (Bor F) → Type 0
AreRegularFilesOf inputs files = map (λ input. input.regular) inputs ≡ map (λ file. Some file.now) files

-- memory ran out, or the input with the fault's number is a stream
abbrev pub HasStream : {N F : Type 0} → List (JobInput N F) → Fault → Type 0
HasStream {N} {F} inputs fault = (fault ≡ memory_fault) ⊎ ((fault ≡ failed_fault fault.input)
    × (input : JobInput N F) × (slice_get inputs fault.input ≡ Some input) × (input.regular ≡ None))
