-- The order of the versions of an input, and of the runs of a file.
use Rattle.std.proofs.Common.{◌≡◌, inl, inr, ⊎_elim, ℕ, ◌+◌, ◌-◌, ◌≤◌, ◌<◌, ◌^◌, ◌&&◌, nat_lt, Bool, true, false, cond, List, [], ◌∷◌}
use Rattle.std.proofs.Common.{◌++◌}
use Rattle.std.proofs.Common.{Option, Some, None, IfSome, is_some, Result, Ok, Err, length, take, drop, refl, sym, ap, ◌∙◌, subst, arith}
use Rattle.std.proofs.Common.{append-nil, min, slice_get, suc, zero, ◌||◌, length-append, length-drop, length-take}
use Rattle.std.proofs.Math.Seq.{take-append_seam}
use Rattle.std.proofs.lemmas.Bool.{false≢true, and_parts, ltb-true, not-true, or_parts}
use Rattle.std.proofs.lemmas.List.Elements.{All-nil, All-cons, All-append}
use Rattle.std.proofs.lemmas.Option.{slice_get_within}
use Rattle.std.specs.List.{All}
use Rattle.osm_model.specs.Data.{VersionData}
use Rattle.osm_model.specs.Order.{version_cmp}
use Rattle.osm_model.specs.Sets.{from_list}
use Rattle.osm_model.specs.VersionSet.{VersionSet}
use Rattle.osm_files.specs.declared.reason.Reason.{Reason}
use Rattle.osm_files.specs.declared.fault.Fault.{Fault}
use Rattle.osm_files.specs.declared.set_order.SetOrder.{SetOrder}
use Rattle.osm_files.specs.declared.set_order.SetOrder.TheVariants.{Rises, Falls, Unknown}
use Rattle.osm_files.specs.declared.sorted_run.BytesAtSplit.{BytesAtSplit}
use Rattle.osm_files.specs.declared.sorted_run.SortedRun.{SortedRun}
use Rattle.osm_files.specs.FileRuns.{GivesSortedFile, IsSortedRun, EndsWhole, StopsSource, IfWhole, IsAccepted}
use Rattle.osm_files.specs.FileRuns.{IsAcceptedRun, IsSortedIfAccepted, IsFirstUnsortedIn, IsReadFailure, IsRefusalOf}
use Rattle.osm_files.specs.FileRuns.{IsOrderOf, is_lines}
use Rattle.osm_files.specs.RunBreaks.{IsSortedByKeys, BreaksAt, IsBreakOf}
use Rattle.osm_files.specs.KeyOrder.{bytes_between, IsOrderOfLines}
use Rattle.osm_files.specs.Groups.{FileCanGive, new_source, sorted_source}
use Rattle.osm_files.specs.Held.{HoldsSorted}
use Rattle.osm_files.specs.Input.{InputRest, GivesOne, whole_input}
use Rattle.osm_files.specs.Load.{StopsOpening}
use Rattle.osm_files.specs.O5.{o5m_header, end_byte}
use Rattle.osm_files.specs.Position.{units_from}
use Rattle.osm_files.specs.SetOrder.{IsOrderOfRun}
use Rattle.osm_files.specs.SortedRun.{HasBytes, SplitAtReset, FileRuns, runs_of, run_bytes, bytes_before, bytes_after, whole_run}
use Rattle.osm_files.specs.SortedRun.{is_reset, is_o5_run}
use Rattle.osm_files.specs.SortedRun.{is_within}
use Rattle.osm_files.specs.SortedRun.{can_split, front_run, rest_run, split_run, after_split}
use Rattle.osm_files.specs.Source.{SourceStep}
use Rattle.osm_files.specs.Stream.{SourceRest}
use Rattle.osm_files.specs.Units.{InOpl, BeforeHeader, start_of}
use Rattle.osm_files.proofs.FaultyLaws.{failed_is_refused}
use Rattle.osm_files.proofs.HoldLaws.{whole_source_is_held}
use Rattle.osm_files.proofs.JoinLaws.{split_starts}
use Rattle.osm_files.proofs.KeyOrderLaws.{rising_file}
use Rattle.osm_files.proofs.KeyedFileLaws.{keyed_formed, keyed_sorted}
use Rattle.osm_files.proofs.RestLaws.{FormedFile, accepted_formed, lines_front, lines_rest, sets_before, sets_after}
use Rattle.osm_files.proofs.RunSetsLaws.{within_file}
use Rattle.osm_files.proofs.SplitLaws.{slice_get-drop, splits_by, whole_file}
use Rattle.osm_files.proofs.UnsortedLaws.{front_sorted}

abbrev refusal_of : Option (SourceRest VersionData Fault) → Option Fault
refusal_of None = None
refusal_of (Some still) = still.refusal

-- a call that gives a version leaves the refusal as it is
pub step_keeps : (before after : SourceRest VersionData Fault) (v : VersionData)
    → SourceStep (Some before) (let r : _ = Ok (Some v) in r) (Some after) → before.refusal ≡ after.refusal
step_keeps before after v (still, is, same) = ap (λ s. s.refusal) is ∙ sym (ap refusal_of same)

-- an input whose source ends without a refusal gives a sorted file
given_sorted : (input : ℕ) (bytes : List ℕ) (failure : Option Reason)
    → (sorted_source input (record { bytes = bytes; failure = failure })).refusal ≡ None
    → GivesSortedFile (record { bytes = bytes; failure = failure })
given_sorted input bytes (Some reason) whole = absurd (failed_is_refused reason input bytes whole)
given_sorted input bytes None whole = (
  refl,
  (
    from_list {R = version_cmp} (sorted_source input (whole_input bytes)).list,
    whole_source_is_held input bytes whole,
  ),
)

pub source_sorted : {R : Type 0} (can : R → InputRest → Type 0) (input : ℕ) (reader : R)
    → EndsWhole (FileCanGive can) (new_source input reader) → GivesOne (can reader) GivesSortedFile
unfolding sorted_source units_from
source_sorted can input reader (still, (c, gives, is), whole) =
    (c, gives, given_sorted input c.bytes c.failure (ap refusal_of is ∙ whole))

-- A source that stops with a fault stops so for something that its reader can give.
pub source_stops : {R : Type 0} (can : R → InputRest → Type 0) (one : R → InputRest) (possible : (r : R) → can r (one r)) (input : ℕ)
    (reader : R) (fault : Fault) → StopsSource (FileCanGive can) (new_source input reader) fault
    → GivesOne (can reader) (λ c. StopsOpening input c fault)
unfolding sorted_source units_from
source_stops can one possible input reader fault (inl memory) = (one reader, possible reader, inl memory)
source_stops can one possible input reader fault (inr (still, (c, gives, is), refused)) = (c, gives, inr (ap refusal_of is ∙ refused))

-- ---- the front of a run that is split
same_front : (xs ys more others : List ℕ) → xs ++ more ≡ ys ++ others → length xs ≡ length ys → xs ≡ ys
same_front xs ys more others is size =
    sym (take-append_seam xs more) ∙ (λ i. take (size i) (is i)) ∙ take-append_seam ys others

some_byte : (at : Option ℕ) → is_some at ≡ true → (b : ℕ) × (at ≡ Some b)
some_byte None e = absurd (false≢true e)
some_byte (Some b) e = (b, refl)

-- the offset is in the file, and after the start of the run
record Within (file : List ℕ) (run : SortedRun) (offset : ℕ) : Type 0 where
  after : run.start < offset
  before : offset < length file

is_in_file : (file : List ℕ) (run : SortedRun) (offset : ℕ) (bytes : BytesAtSplit) → HasBytes file run.start offset bytes
    → can_split run offset bytes ≡ true → Within file run offset
is_in_file file run offset bytes has can =
    let within = and_parts (is_within run offset bytes) _ can in
    let first = and_parts (nat_lt run.start offset) (nat_lt (offset - run.start) run.size && is_some bytes.at) within.0 in
    let second = and_parts (nat_lt (offset - run.start) run.size) (is_some bytes.at) first.1 in
    let byte = some_byte bytes.at second.1 in
    record {
      after = ltb-true run.start offset first.0;
      before = slice_get_within file offset byte.0 (has.at ∙ byte.1);
    }

sorted_accepted : (bytes : List ℕ) → (held : VersionSet) × HoldsSorted bytes held → IsAccepted bytes
sorted_accepted bytes (held, h) = (held, record { short = h.short; versions = h.versions; file = h.file; members = h.members })

-- a run that is sorted by its keys is a sorted file, if it is accepted
keys_sorted : (file : List ℕ) (run : SortedRun) → IsSortedByKeys file run → IsSortedIfAccepted file run
keys_sorted file run (inl sorted) accepted = sorted
keys_sorted file run (inr keyed) accepted = keyed_sorted (run_bytes run file) keyed accepted

module _ (file : List ℕ) (run : SortedRun) (offset : ℕ) (bytes : BytesAtSplit) (has : HasBytes file run.start offset bytes)
    (can : can_split run offset bytes ≡ true) where
  -- the lines before the first version of a run that is out of order are a sorted file
  lines_sorted : is_o5_run run bytes ≡ false → length file < 2 ^ 64 → IsFirstUnsortedIn file run offset
      → IsSortedRun file (front_run false run offset)
  lines_sorted is short (place, unsorted, there) =
      let within = is_in_file file run offset bytes has can in
      let split = splits_by run offset bytes file has can false is in
      let f = front_sorted (run_bytes run file) place (split_starts _ _ _ split) unsorted in
      let none : bytes_before run ≡ [] = ap (λ t. cond t o5m_header []) (or_parts run.lacks_header (is_reset bytes.first) is).0 in
      let part : List ℕ = take (offset - run.start - 0) (drop run.start file) in
      let long : length (bytes_before run ++ (part ++ [])) ≡ place =
      omega (
        arith,
        length-append (bytes_before run) (part ++ []),
        length-append part [],
        length-take (offset - run.start - 0) (drop run.start file),
        length-drop run.start file,
        ap length none,
        there,
        within.after,
        within.before,
        short,
      ) in
      let same : f.front ≡ run_bytes (front_run false run offset) file =
      same_front f.front (run_bytes (front_run false run offset) file) f.rest (run_bytes (rest_run false run offset) file)
      (sym f.whole ∙ split.whole) (f.size ∙ sym long) in
      (f.held, subst (λ xs. HoldsSorted xs f.held) same f.sorted)

  -- the front of a run is a sorted file if it is accepted, if it is one as o5
  front_is_sorted : (t : Bool) → is_o5_run run bytes ≡ t → (t ≡ true → IsSortedByKeys file (front_run t run offset))
      → length file < 2 ^ 64 → BreaksAt file run offset → IsSortedIfAccepted file (front_run t run offset)
  front_is_sorted true is sets short breaks = keys_sorted file (front_run true run offset) (sets refl)
  front_is_sorted false is sets short (inl unsorted) = λ accepted. lines_sorted is short unsorted
  front_is_sorted false is sets short (inr (inl sorted)) = sorted
  front_is_sorted false is sets short (inr (inr rises)) =
      absurd (false≢true (sym is ∙ ap (λ o. run.lacks_header || is_reset o) (sym has.first) ∙ rises.0))

  sets_formed : IsSortedByKeys file (front_run true run offset) → SplitAtReset (run_bytes (front_run true run offset) file)
      (run_bytes (rest_run true run offset) file) (run_bytes run file) → FormedFile (run_bytes (front_run true run offset) file)
  sets_formed (inl sorted) split = accepted_formed (run_bytes (front_run true run offset) file) split.data_sets (sorted_accepted _ sorted)
  sets_formed (inr keyed) split = keyed_formed (run_bytes (front_run true run offset) file) keyed

  front_is_accepted : (t : Bool) → is_o5_run run bytes ≡ t → (t ≡ true → IsSortedByKeys file (front_run t run offset))
      → IsAcceptedRun file run → IsAcceptedRun file (front_run t run offset)
  front_is_accepted true is sets all =
      let split = splits_by run offset bytes file has can true is in
      sets_before _ _ _ split (sets_formed (sets refl) split) all
  front_is_accepted false is sets all = lines_front _ _ _ (splits_by run offset bytes file has can false is) all

  rest_is_accepted : (t : Bool) → is_o5_run run bytes ≡ t → (t ≡ true → IsSortedByKeys file (front_run t run offset))
      → IsAccepted (run_bytes run file) → IsAccepted (run_bytes (rest_run t run offset) file)
  rest_is_accepted true is sets all =
      let split = splits_by run offset bytes file has can true is in
      sets_after _ _ _ split (sets_formed (sets refl) split) all
  rest_is_accepted false is sets all = lines_rest _ _ _ (splits_by run offset bytes file has can false is) all

-- ---- a file that is split once more
abbrev pub Split : Type 0
Split = FileRuns × Option SortedRun

-- the runs after a split that split a run off
record Cut (old : FileRuns) (offset : ℕ) (bytes : BytesAtSplit) (new : FileRuns) (front : SortedRun) : Type 0 where
  can : can_split old.rest offset bytes ≡ true
  front_is : front ≡ front_run (is_o5_run old.rest bytes) old.rest offset
  rest_is : new.rest ≡ rest_run (is_o5_run old.rest bytes) old.rest offset
  fronts_are : new.fronts ≡ old.fronts ++ front ∷ []

cut_by : (old : FileRuns) (offset : ℕ) (bytes : BytesAtSplit) (new : FileRuns) (front : SortedRun)
    → (let here : Split = (new, Some front) in here) ≡ after_split old (split_run old.rest offset bytes) → Cut old offset bytes new front
cut_by old offset bytes new front =
    let first : SortedRun = front_run (is_o5_run old.rest bytes) old.rest offset in
    let rest : SortedRun = rest_run (is_o5_run old.rest bytes) old.rest offset in
    let here : Split = (new, Some front) in
    elim (can_split old.rest offset bytes) as (λ t. can_split old.rest offset bytes ≡ t
    → here ≡ after_split old (cond t (Some (first, rest)) None) → Cut old offset bytes new front) [
      | true ↦ λ can e.
          let is : front ≡ first = (let f : Some front ≡ Some first = ap (λ x. x.1) e in cc) in
          record {
            can = can;
            front_is = is;
            rest_is = ap (λ x. x.0.rest) e;
            fronts_are = ap (λ x. x.0.fronts) e ∙ ap (λ r. old.fronts ++ r ∷ []) (sym is);
          }
      | false ↦ λ can e. absurd (let f : Some front ≡ None = ap (λ x. x.1) e in cc)
    ] refl

-- A split makes one more front.
pub one_more : (old new : FileRuns) (offset : ℕ) (bytes : BytesAtSplit) (front : SortedRun)
    → (let here : Split = (new, Some front) in here) ≡ after_split old (split_run old.rest offset bytes)
    → length new.fronts ≤ length old.fronts + 1
one_more old new offset bytes front value =
    let cut = cut_by old offset bytes new front value in
    omega (arith, ap length cut.fronts_are, length-append old.fronts (front ∷ []))

module _ (known : Option (List ℕ)) (size : ℕ) (old new : FileRuns) (offset : ℕ) (bytes : BytesAtSplit) (front : SortedRun)
    (has : IfSome known (λ all. HasBytes all old.rest.start offset bytes))
    (value : (let here : Split = (new, Some front) in here) ≡ after_split old (split_run old.rest offset bytes))
    (sets : front.lacks_end ≡ true → IfWhole known size (λ all. IsSortedByKeys all front)) where
  abbrev Has : Option (List ℕ) → Type 0
  Has o = IfSome o (λ all. HasBytes all old.rest.start offset bytes)

  abbrev Sets : Option (List ℕ) → Type 0
  Sets o = front.lacks_end ≡ true → IfWhole o size (λ all. IsSortedByKeys all front)

  with_front : (P : SortedRun → Type 0) → Cut old offset bytes new front → P front → All P old.fronts → All P new.fronts
  with_front P cut one fronts =
      subst (All P) (sym cut.fronts_are) (All-append P old.fronts (front ∷ []) fronts (All-cons P front [] one (All-nil P)))

  o5_front : (all : List ℕ) → Sets (Some all) → length all ≡ size → (cut : Cut old offset bytes new front)
      → is_o5_run old.rest bytes ≡ true → IsSortedByKeys all (front_run (is_o5_run old.rest bytes) old.rest offset)
  o5_front all given whole cut is =
      subst (IsSortedByKeys all) cut.front_is (given (ap (λ r. r.lacks_end) cut.front_is ∙ is) whole)

  fronts_by : (o : Option (List ℕ)) → Has o → Sets o → size < 2 ^ 64 → IfWhole o size (λ all.
      BreaksAt all old.rest offset → All (IsSortedIfAccepted all) old.fronts → All (IsSortedIfAccepted all) new.fronts)
  fronts_by None there given short = tt
  fronts_by (Some all) there given short = λ whole breaks fronts.
      let cut = cut_by old offset bytes new front value in
      let one : IsSortedIfAccepted all front = subst (IsSortedIfAccepted all) (sym cut.front_is)
      (front_is_sorted all old.rest offset bytes there cut.can (is_o5_run old.rest bytes) refl (o5_front all given whole cut)
      (omega (arith, whole, short)) breaks) in
      with_front (IsSortedIfAccepted all) cut one fronts

  accepted_by : (o : Option (List ℕ)) → Has o → Sets o → IfWhole o size (λ all.
      IsAcceptedRun all old.rest → All (IsAcceptedRun all) old.fronts → All (IsAcceptedRun all) new.fronts)
  accepted_by None there given = tt
  accepted_by (Some all) there given = λ whole accepted fronts.
      let cut = cut_by old offset bytes new front value in
      let one : IsAcceptedRun all front = subst (IsAcceptedRun all) (sym cut.front_is)
      (front_is_accepted all old.rest offset bytes there cut.can (is_o5_run old.rest bytes) refl (o5_front all given whole cut) accepted)
      in
      with_front (IsAcceptedRun all) cut one fronts

  rest_by : (o : Option (List ℕ)) → Has o → Sets o → IfWhole o size (λ all.
      IsAcceptedRun all old.rest → IsAcceptedRun all new.rest)
  rest_by None there given = tt
  rest_by (Some all) there given = λ whole accepted.
      let cut = cut_by old offset bytes new front value in
      subst (IsAcceptedRun all) (sym cut.rest_is)
      (rest_is_accepted all old.rest offset bytes there cut.can (is_o5_run old.rest bytes) refl (o5_front all given whole cut) accepted)

  -- The fronts after a split where the order of the rest breaks are sorted files, if they are accepted.
  pub fronts_sorted : size < 2 ^ 64 → IfWhole known size (λ all.
      BreaksAt all old.rest offset → All (IsSortedIfAccepted all) old.fronts → All (IsSortedIfAccepted all) new.fronts)
  fronts_sorted = fronts_by known has sets

  -- The fronts after a split of a file are files.
  pub fronts_accepted : IfWhole known size (λ all.
      IsAcceptedRun all old.rest → All (IsAcceptedRun all) old.fronts → All (IsAcceptedRun all) new.fronts)
  fronts_accepted = accepted_by known has sets

  -- The rest after a split of a file is a file.
  pub rest_stays : IfWhole known size (λ all. IsAcceptedRun all old.rest → IsAcceptedRun all new.rest)
  rest_stays = rest_by known has sets

-- ---- the runs that were found so far
-- what is known of the runs that were split off a file, and of the rest
pub record Found (all : List ℕ) (runs : FileRuns) : Type 0 where
  pub sorted : All (IsSortedIfAccepted all) runs.fronts
  pub accepted : IsAccepted all → All (IsAcceptedRun all) runs.fronts
  pub rest : IsAccepted all → IsAcceptedRun all runs.rest

-- Before the first split the rest is the whole file.
pub found_nothing : (known : Option (List ℕ)) (size : ℕ) → size < 2 ^ 64
    → IfWhole known size (λ all. Found all (record { fronts = []; rest = whole_run }))
found_nothing None size fits = tt
found_nothing (Some all) size fits = λ whole.
    let short : length all < 2 ^ 64 = omega (arith, fits, whole) in
    record {
      sorted = All-nil (IsSortedIfAccepted all);
      accepted = λ accepted. All-nil (IsAcceptedRun all);
      rest = subst IsAccepted (sym (whole_file all short));
    }

-- the order of a run of a file
abbrev pub Breaks : Type 0 → Option (List ℕ) → ℕ → SortedRun → Result (Option ℕ) Fault → Type 0
Breaks Fails file size run result = IfWhole file size (λ all. IsBreakOf Fails all run result)

-- A split where the order of the rest breaks leaves runs that are found.
pub found_more : (Fails : Type 0) (file : Option (List ℕ)) (size : ℕ) (old new : FileRuns) (offset : ℕ)
    → IfWhole file size (λ all. Found all old) → Breaks Fails file size old.rest (let r : _ = Ok (Some offset) in r)
    → IfWhole file size (λ all. BreaksAt all old.rest offset → All (IsSortedIfAccepted all) old.fronts
    → All (IsSortedIfAccepted all) new.fronts)
    → IfWhole file size (λ all. IsAcceptedRun all old.rest → All (IsAcceptedRun all) old.fronts → All (IsAcceptedRun all) new.fronts)
    → IfWhole file size (λ all. IsAcceptedRun all old.rest → IsAcceptedRun all new.rest)
    → IfWhole file size (λ all. Found all new)
found_more Fails None size old new offset found breaks fronts files rest = tt
found_more Fails (Some all) size old new offset found breaks fronts files rest = λ whole.
    let before = found whole in
    record {
      sorted = fronts whole (breaks whole) before.sorted;
      accepted = λ accepted. files whole (before.rest accepted) (before.accepted accepted);
      rest = λ accepted. rest whole (before.rest accepted);
    }

module _ (Fails : Type 0) (size : ℕ) (old : FileRuns) (runs : List SortedRun) (are : runs ≡ runs_of old) where
  with_rest : (P : SortedRun → Type 0) → All P old.fronts → P old.rest → All P runs
  with_rest P fronts rest =
      subst (All P) (sym are) (All-append P old.fronts (old.rest ∷ []) fronts (All-cons P old.rest [] rest (All-nil P)))

  -- If the order of the rest doesn't break, all runs are sorted files, if they are accepted.
  pub all_sorted : (file : Option (List ℕ)) → IfWhole file size (λ all. Found all old)
      → Breaks Fails file size old.rest (let r : _ = Ok None in r) → IfWhole file size (λ all. All (IsSortedIfAccepted all) runs)
  all_sorted None found breaks = tt
  all_sorted (Some all) found breaks = λ whole. with_rest (IsSortedIfAccepted all) (found whole).sorted (breaks whole)

  -- The runs of an accepted file are accepted.
  pub all_accepted : (file : Option (List ℕ)) → IfWhole file size (λ all. Found all old)
      → IfWhole file size (λ all. IsAccepted all → All (IsAcceptedRun all) runs)
  all_accepted None found = tt
  all_accepted (Some all) found = λ whole accepted.
      with_rest (IsAcceptedRun all) ((found whole).accepted accepted) ((found whole).rest accepted)

-- A refusal of the rest is a refusal of the file.
pub refused_rest : (Fails : Type 0) (file : Option (List ℕ)) (size : ℕ) (runs : FileRuns) (fault : Fault)
    → IfWhole file size (λ all. Found all runs) → Breaks Fails file size runs.rest (let r : _ = Err fault in r)
    → IfWhole file size (λ all. IsRefusalOf Fails all fault)
refused_rest Fails None size runs fault found breaks = tt
refused_rest Fails (Some all) size runs fault found breaks = λ whole.
    ⊎_elim (λ failure. inl failure) (λ never. inr (λ accepted. never ((found whole).rest accepted))) (breaks whole)

-- A failure to read is a refusal of the file.
pub failed_rest : (Fails : Type 0) (file : Option (List ℕ)) (size : ℕ) (fault : Fault)
    → IfWhole file size (λ all. IsReadFailure Fails fault) → IfWhole file size (λ all. IsRefusalOf Fails all fault)
failed_rest Fails None size fault failed = tt
failed_rest Fails (Some all) size fault failed = λ whole. inl (failed whole)

-- ---- a run that is lines
-- the lines of the run are in the file as they are
record AreLines (run : SortedRun) (first : Option ℕ) : Type 0 where
  header : run.lacks_header ≡ false
  end : run.lacks_end ≡ false
  start : is_reset first ≡ false

are_lines : (run : SortedRun) (first : Option ℕ) → is_lines run first ≡ true → AreLines run first
are_lines run first e =
    let framed : Bool = run.lacks_end || is_reset first in
    let one = or_parts run.lacks_header framed (not-true (run.lacks_header || framed) e) in
    let two = or_parts run.lacks_end (is_reset first) one.1 in
    record { header = one.0; end = two.0; start = two.1 }

-- the bytes of a run without a header and an end of its own
own_bytes : (run : SortedRun) (all : List ℕ) → run.lacks_header ≡ false → run.lacks_end ≡ false
    → run_bytes run all ≡ take run.size (drop run.start all)
own_bytes run all header end =
    let part : List ℕ = take run.size (drop run.start all) in
    ap (λ t. cond t o5m_header [] ++ (part ++ bytes_after run)) header ∙ ap (λ t. part ++ cond t (end_byte ∷ []) []) end
    ∙ append-nil part

by_first : (part : List ℕ) (n : ℕ) → is_reset (slice_get part 0) ≡ false → start_of (take (suc n) part) ≡ InOpl
by_first [] n other = refl
by_first (p ∷ part) n other = ap (λ t. cond t BeforeHeader InOpl) other

starts_as_lines : (all : List ℕ) (start n : ℕ) → is_reset (slice_get all start) ≡ false → start_of (take n (drop start all)) ≡ InOpl
starts_as_lines all start zero other = refl
starts_as_lines all start (suc n) other =
    let same : start + 0 ≡ start = omega arith in
    by_first (drop start all) n (ap is_reset (slice_get-drop start all 0 ∙ ap (slice_get all) same) ∙ other)

module _ (Fails : Type 0) (run : SortedRun) (first : Option ℕ) (lines : is_lines run first ≡ true) (size end : ℕ) (short : size < 2 ^ 64)
    (is : end ≡ min (min (run.start + run.size) (2 ^ 64 - 1)) size) where
  abbrev Searched : Option (List ℕ) → Result (Option ℕ) Fault → Type 0
  Searched known result = IfSome known (λ all. end ≤ length all → IsOrderOfLines Fails all run.start end result)

  module _ (all : List ℕ) (whole : length all ≡ size) (there : slice_get all run.start ≡ first) where
    opl : (n : ℕ) → start_of (take n (drop run.start all)) ≡ InOpl
    opl n = starts_as_lines all run.start n (ap is_reset there ∙ (are_lines run first lines).start)

    bytes_are : run_bytes run all ≡ bytes_between all run.start end
    bytes_are =
        own_bytes run all (are_lines run first lines).header (are_lines run first lines).end
        ∙ within_file run all end (omega (arith, short, whole)) (is ∙ ap (min (min (run.start + run.size) (2 ^ 64 - 1))) (sym whole))

    by_search : (result : Result (Option ℕ) Fault) → IsOrderOfLines Fails all run.start end result → IsBreakOf Fails all run result
    by_search (Ok None) (after, rise) = λ accepted.
        subst (λ bytes. (held : VersionSet) × HoldsSorted bytes held) (sym bytes_are)
        (rising_file (bytes_between all run.start end) after (opl (end - run.start)) rise (subst IsAccepted bytes_are accepted))
    by_search (Ok (Some offset)) (after, rise) = inr (inl (λ accepted.
        let n : ℕ = offset - run.start in
        let less : offset - run.start - 0 ≡ n = omega arith in
        let same : run_bytes (front_run false run offset) all ≡ bytes_between all run.start offset =
        own_bytes (front_run false run offset) all (are_lines run first lines).header refl ∙ ap (λ m. take m (drop run.start all)) less in
        subst (λ bytes. (held : VersionSet) × HoldsSorted bytes held) (sym same)
        (rising_file (bytes_between all run.start offset) after (opl n) rise (subst IsAccepted same accepted))))
    by_search (Err fault) (inl failure) = inl failure
    by_search (Err fault) (inr never) = inr (λ accepted.
        let a = subst IsAccepted bytes_are accepted in
        never a.1.versions (rw (opl (end - run.start)) at a.1.file))

  -- The search among the lines of a run finds where the order of the run breaks.
  pub lines_break : (known : Option (List ℕ)) (result : Result (Option ℕ) Fault) → IfSome known (λ all. slice_get all run.start ≡ first)
      → Searched known result → IfWhole known size (λ all. IsBreakOf Fails all run result)
  lines_break None result there found = tt
  lines_break (Some all) result there found = λ whole. by_search all whole there result (found (omega (arith, is, whole)))

-- The order of a run by the keys of its data sets.
abbrev break_of : SetOrder → Option (Option ℕ)
break_of Rises = Some None
break_of (Falls offset) = Some (Some offset)
break_of Unknown = None

sets_by : (Fails : Type 0) (all : List ℕ) (run : SortedRun) (found : Option ℕ) (order : SetOrder) → break_of order ≡ Some found
    → IsOrderOfRun Fails all run (Ok order) → IsBreakOf Fails all run (Ok found)
sets_by Fails all run found Rises is keyed =
    let same : None ≡ found = cc in
    subst (λ (f : Option ℕ). IsBreakOf Fails all run (Ok f)) same (keyed_sorted (run_bytes run all) keyed)
sets_by Fails all run found (Falls offset) is rises =
    let same : Some offset ≡ found = cc in
    subst (λ (f : Option ℕ). IsBreakOf Fails all run (Ok f)) same (inr (inr rises))
sets_by Fails all run found Unknown is keyed = absurd (let f : None ≡ Some found = is in cc)

-- The order of a run is that of the keys of its data sets.
pub sets_break : (Fails : Type 0) (known : Option (List ℕ)) (size : ℕ) (run : SortedRun) (found : Option ℕ) (order : SetOrder)
    → break_of order ≡ Some found → IfWhole known size (λ all. IsOrderOfRun Fails all run (Ok order))
    → IfWhole known size (λ all. IsBreakOf Fails all run (Ok found))
sets_break Fails None size run found order is h = tt
sets_break Fails (Some all) size run found order is h = λ whole. sets_by Fails all run found order is (h whole)

-- The order of a run that was read whole.
pub order_breaks : (Fails : Type 0) (known : Option (List ℕ)) (size : ℕ) (run : SortedRun) (result : Result (Option ℕ) Fault)
    → IfWhole known size (λ all. IsOrderOf Fails all run result) → IfWhole known size (λ all. IsBreakOf Fails all run result)
order_breaks Fails None size run result order = tt
order_breaks Fails (Some all) size run (Ok None) order = λ whole accepted. order whole
order_breaks Fails (Some all) size run (Ok (Some offset)) order = λ whole. inl (order whole)
order_breaks Fails (Some all) size run (Err fault) order = order
