-- The files of a job over the inputs before an index.
use Rattle.std.proofs.Common.{◌≡◌, ◌≢◌, ℕ, ◌+◌, ◌<◌, ◌≤◌, Bor, List, [], ◌∷◌, ◌++◌, Some, None, length, get_or, drop, cond}
use Rattle.std.proofs.Common.{refl, sym, ap, ◌∙◌, arith, add-one, append_assoc, zero-add}
use Rattle.std.proofs.lemmas.List.{drop_all, append-nil}
use Rattle.std.proofs.Math.Seq.{drop-cons}
use Rattle.std.proofs.lemmas.List.Sums.{sum_by-cons}
use Rattle.std.specs.List.{count_by}
use Rattle.osm_mirror.specs.run.JobInput.{AreFilesOf, IsFileOf, is_stream, is_absent}
use Rattle.osm_files.specs.declared.end_rule.EndRule.{EndRule}
use Rattle.osm_mirror.specs.declared.run.files_job.JobFile.{JobFile}
use Rattle.osm_mirror.specs.declared.run.files_job.JobFile.TheVariants.{File, Stream}
use Rattle.osm_mirror.specs.declared.run.job_input.JobInput.{JobInput}

-- files of the inputs before an index: with files of the other inputs they are the files of all inputs
pub record SoFar {N F R : Type 0} (inputs : List (JobInput N F)) (index : ℕ) (streams rest : List R)
    (files : List (JobFile F R)) : Type 0 where
  pub files_are : (more : List (JobFile F R)) → AreFilesOf (drop index inputs) rest more
      → AreFilesOf inputs streams (files ++ more)
  pub counted : count_by is_stream inputs + length rest ≡ count_by is_stream (drop index inputs) + length streams

-- the inputs from an index on begin with the one that has the index
from_index : {N F : Type 0} (inputs : List (JobInput N F)) (index : ℕ) (input : JobInput N F) → index < length inputs
    → input ≡ get_or inputs index input → drop index inputs ≡ input ∷ drop (index + 1) inputs
from_index inputs index input below is =
    rw add-one (drop-cons inputs index input below) ∙ ap (λ i. i ∷ drop (index + 1) inputs) (sym is)

-- the number of streams among one more input and others
with_stream : {N F : Type 0} (input : JobInput N F) (others : List (JobInput N F)) → input.regular ≡ None
    → count_by is_stream (input ∷ others) ≡ 1 + count_by is_stream others
with_stream input others none =
    sum_by-cons (λ i. cond (is_stream i) 1 0) input others ∙ ap (λ r. cond (is_absent r) 1 0 + count_by is_stream others) none

with_file : {N F : Type 0} (input : JobInput N F) (others : List (JobInput N F)) (file : F) → input.regular ≡ Some file
    → count_by is_stream (input ∷ others) ≡ count_by is_stream others
with_file input others file there =
    sum_by-cons (λ i. cond (is_stream i) 1 0) input others
    ∙ (ap (λ r. cond (is_absent r) 1 0 + count_by is_stream others) there ∙ zero-add _)

-- before the first input
pub nothing : {N F R : Type 0} (inputs : List (JobInput N F)) (streams : List R) → SoFar inputs 0 streams streams []
nothing inputs streams = record { files_are = λ more are. are; counted = refl }

-- the counts after one more input
counted_more : {N F R : Type 0} (all others : ℕ) (input : JobInput N F) (inputs : List (JobInput N F)) (rest left : List R)
    (file : JobFile F R) → IsFileOf input rest (Some file) left
    → all + length rest ≡ count_by is_stream (input ∷ inputs) + others
    → all + length left ≡ count_by is_stream inputs + others
counted_more all others input inputs rest left (File f end) one same =
    let file = with_file input inputs f.now one.0 in
    let rest_is = ap length one.2 in
    omega arith
counted_more all others input inputs rest left (Stream r end) one same =
    let none = with_stream input inputs one.0 in
    let rest_is = ap length one.2 in
    omega arith

module _ {N F R : Type 0} (inputs : List (JobInput N F)) (index : ℕ) (streams rest : List R)
    (files : List (JobFile F R)) (input : JobInput N F) (below : index < length inputs)
    (is : input ≡ get_or inputs index input) where
  -- one more input, with its file
  pub one_more : (file : JobFile F R) (others : List R) → IsFileOf input rest (Some file) others
      → SoFar inputs index streams rest files → SoFar inputs (index + 1) streams others (files ++ file ∷ [])
  one_more file others one so_far =
      let here = from_index inputs index input below is in
      record {
        files_are = λ more are.
            rw (append_assoc files (file ∷ []) more) (so_far.files_are (file ∷ more) (rw here (others, one, are)));
        counted = counted_more (count_by is_stream inputs) (length streams) input (drop (index + 1) inputs) rest others
            file one (rw here at so_far.counted);
      }

  -- there is no file for the input
  pub no_file : (others : List R) → IsFileOf input rest None others → SoFar inputs index streams rest files
      → count_by is_stream inputs ≢ length streams
  no_file others one so_far same =
      let here = from_index inputs index input below is in
      let none = with_stream input (drop (index + 1) inputs) one.0 in
      let before = rw (here, one.1) at so_far.counted in
      omega arith

-- after the last input, without another stream
pub all_files : {N F R : Type 0} (inputs : List (JobInput N F)) (index : ℕ) (streams rest : List R)
    (files : List (JobFile F R)) → length inputs ≤ index → length rest ≡ 0 → SoFar inputs index streams rest files
    → AreFilesOf inputs streams files
all_files inputs index streams [] files ended over so_far =
    rw (append-nil files) at (so_far.files_are [] (rw (drop_all index inputs ended) (refl, refl)))
all_files inputs index streams (r ∷ rs) files ended over so_far = absurd (omega arith)

-- a stream is left over
pub stream_left : {N F R : Type 0} (inputs : List (JobInput N F)) (index : ℕ) (streams rest : List R)
    (files : List (JobFile F R)) → length inputs ≤ index → 0 < length rest → SoFar inputs index streams rest files
    → count_by is_stream inputs ≢ length streams
stream_left inputs index streams rest files ended some so_far same =
    let before = rw (drop_all index inputs ended) at so_far.counted in
    omega arith
