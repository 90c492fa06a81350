-- The data sets of a run of a file.
use Rattle.std.proofs.Common.{◌≡◌, inl, ⊎_elim, ℕ, min, ◌+◌, ◌-◌, ◌≤◌, ◌<◌, ◌^◌, ◌||◌, true, false, cond, List, [], ◌∷◌, ◌++◌}
use Rattle.std.proofs.Common.{length, take, drop, slice_get, Option, Some, None, IfSome, Result, Ok, Err, refl, sym, ap, ◌∙◌, arith}
use Rattle.std.proofs.Common.{append_assoc, length-drop}
use Rattle.std.proofs.Math.Seq.{take-append-add}
use Rattle.std.proofs.lemmas.Bool.{cases_lt}
use Rattle.std.proofs.lemmas.List.{take_all}
use Rattle.std.proofs.CharBoundary.{drop_past_prefix}
use Rattle.osm_files.specs.declared.fault.Fault.{Fault}
use Rattle.osm_files.specs.declared.set_order.SetOrder.{SetOrder}
use Rattle.osm_files.specs.declared.set_order.SetOrder.TheVariants.{Rises, Falls, Unknown}
use Rattle.osm_files.specs.declared.sorted_run.SortedRun.{SortedRun}
use Rattle.osm_files.specs.FileRuns.{IfWhole}
use Rattle.osm_files.specs.KeyOrder.{bytes_between}
use Rattle.osm_files.specs.O5.{o5m_header, end_byte}
use Rattle.osm_files.specs.ReadAt.{AreAt}
use Rattle.osm_files.specs.SetOrder.{HasHeader, HasEnd, IsOrderOfSets, IsOrderOfRun}
use Rattle.osm_files.specs.SortedRun.{bytes_before, bytes_after, run_bytes, is_reset}
use Rattle.osm_files.proofs.FileLaws.{Header, header_long}
use Rattle.osm_files.proofs.SplitLaws.{slice_get-drop}

-- A run may be longer than its file.
pub within_file : (run : SortedRun) (all : List ℕ) (end : ℕ) → length all < 2 ^ 64
    → end ≡ min (min (run.start + run.size) (2 ^ 64 - 1)) (length all)
    → take run.size (drop run.start all) ≡ bytes_between all run.start end
within_file run all end short is =
    let part : List ℕ = drop run.start all in
    let long : length part ≡ length all - run.start = length-drop run.start all in
    ⊎_elim
    (λ inside. ap (λ n. take n part) (let e : run.size ≡ end - run.start = omega (arith, is, short, inside) in e))
    (λ outside. take_all run.size part (omega (arith, long, outside))
    ∙ sym (take_all (end - run.start) part (omega (arith, long, outside, is, short))))
    (cases_lt (run.start + run.size) (length all))

-- ---- the header
-- A run that lacks a header has the header of o5m.
pub lacks_header : (all : List ℕ) (run : SortedRun) → run.lacks_header ≡ true → HasHeader all run run.start
lacks_header all run lacks =
    let none : run.start - run.start ≡ 0 = omega arith in
    record {
      header = o5m_header;
      is_header = inl refl;
      after = omega arith;
      starts = ap (λ t. t || is_reset (slice_get all run.start)) lacks;
      whole = λ n within. ap (λ t. cond t o5m_header [] ++ take n (drop run.start all)) lacks
          ∙ (let same : n ≡ n - (run.start - run.start) = omega (arith, none) in
          ap (λ m. o5m_header ++ take m (drop run.start all)) same);
    }

header_byte : (header rest : List ℕ) → Header header → is_reset (slice_get (header ++ rest) 0) ≡ true
header_byte header rest =
    ⊎_elim (λ e. ap (λ h. is_reset (slice_get (h ++ rest) 0)) e) (λ e. ap (λ h. is_reset (slice_get (h ++ rest) 0)) e)

header_there : (all : List ℕ) (run : SortedRun) (header : List ℕ) → run.lacks_header ≡ false → Header header
    → AreAt (Some all) run.start header → HasHeader all run (run.start + 7)
header_there all run header lacks is at =
    let long : length header ≡ 7 = header_long header is in
    let seven : run.start + 7 - run.start ≡ 7 = omega arith in
    let first : slice_get all run.start ≡ slice_get (header ++ at.0) 0 =
    (let same : run.start ≡ run.start + 0 = omega arith in ap (slice_get all) same) ∙ sym (slice_get-drop run.start all 0)
    ∙ ap (λ xs. slice_get xs 0) at.1 in
    let rest : drop (run.start + 7) all ≡ at.0 =
    ap (λ n. drop (run.start + n) all) (sym long) ∙ drop_past_prefix all header at.0 run.start at.1 in
    record {
      header = header;
      is_header = is;
      after = omega arith;
      starts = ap (λ t. t || is_reset (slice_get all run.start)) lacks ∙ ap is_reset first ∙ header_byte header at.0 is;
      whole = λ n within. (
          let sum : n ≡ length header + (n - (run.start + 7 - run.start)) = omega (arith, within, long, seven) in
          ap (λ t. cond t o5m_header [] ++ take n (drop run.start all)) lacks
          ∙ ap (take n) at.1 ∙ ap (λ m. take m (header ++ at.0)) sum
          ∙ take-append-add header at.0 (n - (run.start + 7 - run.start))
          ∙ ap (λ xs. header ++ take (n - (run.start + 7 - run.start)) xs) (sym rest));
    }

-- A run of a file that begins with a header.
pub header_found_there : (known : Option (List ℕ)) (run : SortedRun) (header : List ℕ) → run.lacks_header ≡ false → Header header
    → AreAt known run.start header → IfSome known (λ all. HasHeader all run (run.start + 7))
header_found_there None run header lacks is at = tt
header_found_there (Some all) run header lacks is at = header_there all run header lacks is at

-- ---- the order of the data sets
module _ (Fails : Type 0) (run : SortedRun) (size end first last : ℕ) (short : size < 2 ^ 64)
    (is : end ≡ min (min (run.start + run.size) (2 ^ 64 - 1)) size) (ordered : first ≤ last) where
  module _ (all : List ℕ) (whole : length all ≡ size) (h : HasHeader all run first) (e : HasEnd all run end last) where
    run_is : run_bytes run all ≡ h.header ++ (bytes_between all first last ++ end_byte ∷ [])
    run_is =
        let part : List ℕ = bytes_between all run.start end in
        let low = h.after in
        let high = e.within in
        let within : first - run.start ≤ end - run.start = omega (arith, low, high, ordered) in
        let same : end - run.start - (first - run.start) ≡ end - first = omega (arith, low, high, ordered) in
        ap (λ xs. bytes_before run ++ (xs ++ bytes_after run))
        (within_file run all end (omega (arith, short, whole))
        (is ∙ ap (min (min (run.start + run.size) (2 ^ 64 - 1))) (sym whole)))
        ∙ sym (append_assoc (bytes_before run) part (bytes_after run))
        ∙ ap (λ xs. xs ++ bytes_after run)
        (h.whole (end - run.start) within ∙ ap (λ n. h.header ++ take n (drop first all)) same)
        ∙ append_assoc h.header (bytes_between all first end) (bytes_after run)
        ∙ ap (λ xs. h.header ++ xs) (e.whole first ordered)

    front_is : (offset : ℕ) → first ≤ offset → bytes_before run ++ (take (offset - run.start - 0) (drop run.start all) ++ end_byte ∷ [])
        ≡ h.header ++ (bytes_between all first offset ++ end_byte ∷ [])
    front_is offset above =
        let n : ℕ = offset - run.start - 0 in
        let low = h.after in
        let within : first - run.start ≤ n = omega (arith, low, above) in
        let same : n - (first - run.start) ≡ offset - first = omega (arith, low, above) in
        sym (append_assoc (bytes_before run) (take n (drop run.start all)) (end_byte ∷ []))
        ∙ ap (λ xs. xs ++ end_byte ∷ []) (h.whole n within ∙ ap (λ m. h.header ++ take m (drop first all)) same)
        ∙ append_assoc h.header (bytes_between all first offset) (end_byte ∷ [])

    by_order : (result : Result SetOrder Fault) → IsOrderOfSets Fails all first last result → IsOrderOfRun Fails all run result
    by_order (Ok Rises) sets = (h.header, bytes_between all first last, h.is_header, run_is, sets)
    by_order (Ok (Falls offset)) (above, sets) =
        (h.starts, (h.header, bytes_between all first offset, h.is_header, front_is offset above, sets))
    by_order (Ok Unknown) sets = tt
    by_order (Err fault) failure = failure

  -- The order of the data sets of a run is the order of the run.
  pub sets_order : (known : Option (List ℕ)) (result : Result SetOrder Fault) → IfSome known (λ all. HasHeader all run first)
      → IfSome known (λ all. HasEnd all run end last)
      → IfSome known (λ all. last ≤ length all → IsOrderOfSets Fails all first last result)
      → IfWhole known size (λ all. IsOrderOfRun Fails all run result)
  sets_order None result header ends order = tt
  sets_order (Some all) result header ends order = λ whole.
      by_order all whole header ends result (order (let high = ends.within in omega (arith, high, is, whole)))
