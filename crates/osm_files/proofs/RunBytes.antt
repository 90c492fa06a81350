-- The bytes that a run of a file gives.
use Rattle.std.proofs.Common.{◌≡◌, ℕ, ◌+◌, ◌-◌, ◌≤◌, min, nat_lt, false, cond, is_some, None, List, [], ◌++◌, length, take, drop, Some}
use Rattle.std.proofs.Common.{arith}
use Rattle.std.proofs.Common.{sym, ap, ◌∙◌}
use Rattle.std.proofs.Math.Seq.{take-append_seam}
use Rattle.std.proofs.lemmas.Bool.Decides.{nat_tests}
use Rattle.std.proofs.lemmas.List.{length-drop, take_min}
use Rattle.osm_files.specs.declared.sorted_run.SortedRun.{SortedRun}
use Rattle.osm_files.specs.Input.{InputRest}
use Rattle.osm_files.specs.SortedRun.{bytes_before, bytes_after, run_bytes}
use Rattle.osm_files.specs.Extent.{ExtentCanGive, RunCanGive}
use Rattle.osm_files.proofs.FailureLaws.{unfailed_long}

module _ (Fails : Type 0) (all : List ℕ) (start size : ℕ) (given : InputRest)
    (gives : ExtentCanGive Fails (Some all) start (min (start + size) (length all)) given) (unbroken : given.failure ≡ None) where
  whole_length : length given.bytes ≡ min size (length (drop start all))
  whole_length =
      let end : ℕ = min (start + size) (length all) in
      let tested : nat_lt (length given.bytes) (end - start) ≡ false =
      unfailed_long (nat_lt (length given.bytes) (end - start)) (sym gives.failure ∙ unbroken) in
      let full : end - start ≤ length given.bytes = grind (arith, nat_tests) in
      omega (arith, full, gives.within, length-drop start all)

  -- An extent that doesn't fail gives the bytes of the file.
  pub extent_is : given.bytes ≡ take size (drop start all)
  extent_is =
      let bytes = gives.bytes in
      sym (ap (take (length given.bytes)) bytes.1 ∙ take-append_seam given.bytes bytes.0)
      ∙ ap (λ n. take n (drop start all)) whole_length ∙ take_min size (drop start all)

-- A run that doesn't fail gives the run's bytes.
pub run_given : (Fails : Type 0) (all : List ℕ) (run : SortedRun) (size : ℕ) (c : InputRest) → length all ≡ size
    → RunCanGive Fails (Some all) run size c → c.failure ≡ None → c.bytes ≡ run_bytes run all
run_given Fails all run size c length_is (given, gives, is) unbroken =
    let well : given.failure ≡ None = ap (λ d. d.failure) (sym is) ∙ unbroken in
    let same : ExtentCanGive Fails (Some all) run.start (min (run.start + run.size) (length all)) given =
    rw length_is gives in
    let extent : given.bytes ≡ take run.size (drop run.start all) = extent_is Fails all run.start run.size given same well in
    ap (λ d. d.bytes) is ∙ (λ i. bytes_before run ++ (extent i ++ cond (is_some (well i)) [] (bytes_after run)))
