-- The inputs of open files give what the files hold.
use Rattle.std.proofs.Common.{◌≡◌, ℕ, zero, suc, ◌+◌, ◌<◌, List, [], ◌∷◌, ◌++◌, length, map, drop, get_or, set, Option, Some}
use Rattle.std.proofs.Common.{None, append-nil}
use Rattle.std.proofs.Common.{inl, inr, append_assoc, refl, sym, ap, ◌∙◌, subst, IfSome, arith}
use Rattle.std.specs.List.{zip}
use Rattle.osm_model.specs.VersionSet.{VersionSet}
use Rattle.osm_model.specs.Sets.{size}
use Rattle.osm_model.specs.Pairwise.{Pairwise}
use Rattle.osm_files.specs.declared.end_rule.EndRule.{EndRule}
use Rattle.osm_files.specs.declared.end_rule.EndRule.TheVariants as rule
use Rattle.osm_files.specs.EndRule.{by_rule}
use Rattle.osm_files.specs.declared.sorted_run.SortedRun.{SortedRun}
use Rattle.osm_files.specs.Held.{Holds}
use Rattle.osm_files.specs.Input.{InputRest}
use Rattle.osm_files.specs.Output.{Change, Appends}
use Rattle.osm_files.specs.SortedRun.{run_bytes, whole_run}
use Rattle.osm_files.specs.Spell.{spell}
use Rattle.osm_files.proofs.RunBytes.{run_given}
use Rattle.osm_files.proofs.SplitLaws.{whole_file}
use Rattle.osm_merge.specs.declared.merge.Counts.{Counts}
use Rattle.osm_merge.specs.Giving.{AllGive, SomeInputsGive}
use Rattle.osm_merge.specs.Selected.{selection_of}
use Rattle.osm_merge.specs.Clashes.{clash_count}
use Rattle.osm_merge.specs.Union.{capped_count}
use Rattle.osm_mirror.specs.declared.run.file_way.FileWay.{FileWay}
use Rattle.osm_mirror.specs.declared.run.files_job.FilesJob.{FilesJob}
use Rattle.osm_mirror.specs.declared.run.files_job.JobFile.{JobFile}
use Rattle.osm_mirror.specs.declared.run.files_job.JobFile.TheVariants.{File, Stream}
use Rattle.osm_mirror.specs.declared.run.files_job.Order.{Order}
use Rattle.osm_mirror.specs.declared.run.files_job.Order.TheVariants.{Sorted, Any}
use Rattle.osm_mirror.specs.declared.run.input.InputFile.{InputFile}
use Rattle.osm_mirror.specs.declared.run.input.ReadAs.{ReadAs}
use Rattle.osm_mirror.specs.declared.run.input.ReadAs.TheVariants.{InOrder}
use Rattle.osm_mirror.specs.run.FilesJob.{HoldsAs, FileHolds, IsFilesJob, IsAsRequired, IsWayOf, FitsBytes, FileFits, FilesFit}
use Rattle.osm_mirror.specs.run.FilesJob.{OpensRun, OpensFile, OpensFiles}
use Rattle.osm_mirror.specs.run.Given.{InputFileCanGive, GivesAs, GivesFile}
use Rattle.osm_mirror.specs.run.Job.{union_of}
use Rattle.osm_mirror.specs.run.SelectedJob.{IsJob}
use Rattle.osm_mirror.specs.run.SortedRuns.{SortedRunsHoldTheFile}
use Rattle.osm_mirror.proofs.run_laws.UnionOfLaws.{union_of_one, union_of_front}

-- ---- lists that belong to two lists in sequence
module _ {X Y : Type 0} (R : X → Y → Type 0) where
  pub record Cut (xs more : List X) (ys : List Y) : Type 0 where
    pub before : List Y
    pub after : List Y
    pub joined : ys ≡ before ++ after
    pub first : Pairwise R xs before
    pub second : Pairwise R more after

  pub cut : (xs more : List X) (ys : List Y) → Pairwise R (xs ++ more) ys → Cut xs more ys
  cut [] more ys all = record { before = []; after = ys; joined = refl; first = tt; second = all }
  cut (x ∷ xs) more [] all = absurd all
  cut (x ∷ xs) more (y ∷ ys) all =
      let c = cut xs more ys all.1 in
      record {
        before = y ∷ c.before;
        after = c.after;
        joined = ap (λ zs. y ∷ zs) c.joined;
        first = (all.0, c.first);
        second = c.second;
      }

module _ {S C : Type 0} (can : S → C → Type 0) where
  pub as_pairs : (xs : List S) (all : List C) → AllGive can xs all → Pairwise can xs all
  as_pairs [] [] g = tt
  as_pairs [] (c ∷ all) g = absurd g
  as_pairs (x ∷ xs) [] g = absurd g
  as_pairs (x ∷ xs) (c ∷ all) g = (g.0, as_pairs xs all g.1)

  pub as_given : (xs : List S) (all : List C) → Pairwise can xs all → AllGive can xs all
  as_given [] [] g = tt
  as_given [] (c ∷ all) g = absurd g
  as_given (x ∷ xs) [] g = absurd g
  as_given (x ∷ xs) (c ∷ all) g = (g.0, as_given xs all g.1)

module _ {X Y : Type 0} (R : X → Y → Type 0) where
  pub pairwise_length : (xs : List X) (ys : List Y) → Pairwise R xs ys → length xs ≡ length ys
  pairwise_length [] [] h = refl
  pairwise_length [] (y ∷ ys) h = absurd h
  pairwise_length (x ∷ xs) [] h = absurd h
  pairwise_length (x ∷ xs) (y ∷ ys) h = ap suc (pairwise_length xs ys h.1)

  -- one member is replaced by another that belongs with the same one
  pub pairwise_set : (xs : List X) (ys : List Y) (k : ℕ) (x : X) (y : Y) → Pairwise R xs ys → k < length xs → x ≡ get_or xs k x → R x y
      → Pairwise R xs (set ys k y)
  pairwise_set [] ys k x y h low is r = absurd (omega (arith, low))
  pairwise_set (w ∷ xs) [] k x y h low is r = absurd h
  pairwise_set (w ∷ xs) (z ∷ ys) zero x y h low is r = (subst (λ (v : X). R v y) is r, h.1)
  pairwise_set (w ∷ xs) (z ∷ ys) (suc k) x y h low is r = (h.0, pairwise_set xs ys k x y h.1 (omega (arith, low)) is r)

  -- a pair of the lists side by side
  pub pairwise_zip : (xs : List X) (ys : List Y) (k : ℕ) (p : X × Y) → Pairwise R xs ys → k < length (zip xs ys)
      → p ≡ get_or (zip xs ys) k p
      → R p.0 p.1
  pairwise_zip [] ys k p h low is = absurd (omega (arith, low))
  pairwise_zip (x ∷ xs) [] k p h low is = absurd h
  pairwise_zip (x ∷ xs) (y ∷ ys) zero p h low is = subst (λ (q : X × Y). R q.0 q.1) (sym is) h.0
  pairwise_zip (x ∷ xs) (y ∷ ys) (suc k) p h low is = pairwise_zip xs ys k p h.1 (omega (arith, low)) is

-- ---- lists side by side
pub zip_firsts : {X Y : Type 0} (xs : List X) (ys : List Y) → length xs ≡ length ys → map (λ (p : X × Y). p.0) (zip xs ys) ≡ xs
zip_firsts [] [] same = refl
zip_firsts [] (y ∷ ys) same = refl
zip_firsts (x ∷ xs) [] same = absurd (omega (arith, same))
zip_firsts (x ∷ xs) (y ∷ ys) same = ap (λ zs. x ∷ zs) (zip_firsts xs ys (omega (arith, same)))

pub zip_seconds : {X Y : Type 0} (xs : List X) (ys : List Y) → length xs ≡ length ys → map (λ (p : X × Y). p.1) (zip xs ys) ≡ ys
zip_seconds [] [] same = refl
zip_seconds [] (y ∷ ys) same = absurd (omega (arith, same))
zip_seconds (x ∷ xs) [] same = refl
zip_seconds (x ∷ xs) (y ∷ ys) same = ap (λ zs. y ∷ zs) (zip_seconds xs ys (omega (arith, same)))

-- the members of pairs whose second members were mapped
pub firsts_of : {X Y Z : Type 0} (f : Y → Z) (ps : List (X × Y)) → map (λ (p : X × Z). p.0) (map (λ (p : X × Y). (p.0, f p.1)) ps)
    ≡ map (λ (p : X × Y). p.0) ps
firsts_of f [] = refl
firsts_of f (p ∷ ps) = ap (λ zs. p.0 ∷ zs) (firsts_of f ps)

pub seconds_of : {X Y Z : Type 0} (f : Y → Z) (ps : List (X × Y)) → map (λ (p : X × Z). p.1) (map (λ (p : X × Y). (p.0, f p.1)) ps)
    ≡ map (λ (p : X × Y). f p.1) ps
seconds_of f [] = refl
seconds_of f (p ∷ ps) = ap (λ zs. f p.1 ∷ zs) (seconds_of f ps)

-- as many first members as second ones
pub pairs_long : {X Y Z : Type 0} (f : Y → Z) (ps : List (X × Y)) → length (map (λ (p : X × Y). p.0) ps)
    ≡ length (map (λ (p : X × Y). f p.1) ps)
pairs_long f [] = refl
pairs_long f (p ∷ ps) = ap suc (pairs_long f ps)

-- the rest of a list from a member on
pub drop_one : {X : Type 0} (xs : List X) (n : ℕ) (x : X) → n < length xs → x ≡ get_or xs n x → drop n xs ≡ x ∷ drop (n + 1) xs
drop_one [] n x within is = absurd (omega (arith, within))
drop_one (y ∷ xs) zero x within is = ap (λ z. z ∷ xs) (sym is)
drop_one (y ∷ xs) (suc n) x within is =
    let next : suc n + 1 ≡ suc (n + 1) = omega arith in
    drop_one xs n x (omega (arith, within)) is ∙ ap (λ k. x ∷ drop k (y ∷ xs)) (sym next)

-- ---- known bytes
pub known_case : (known : Option (List ℕ)) (P Q : List ℕ → Type 0) → ((all : List ℕ) → known ≡ Some all → P all → Q all)
    → IfSome known P → IfSome known Q
known_case None P Q more h = tt
known_case (Some all) P Q more h = more all refl h

-- ---- one input
-- What an input without a rule for its end gives, its reader gives.
pub plain_given : {I : Type 0} (gives : I → InputRest → Type 0) (input : InputFile I) (how : ReadAs) (c : InputRest)
    → input.end ≡ rule.Any → InputFileCanGive gives input (how, c) → gives input.reader c
plain_given gives input how c plain (same, (given, could, is)) =
    subst (gives input.reader) (sym (is ∙ ap (λ (e : EndRule). by_rule e given) plain)) could

as_held : (order : Order) (c : InputRest) (held : VersionSet) → GivesAs (InOrder order, c) held → HoldsAs order c.bytes held
as_held Sorted c held h = h.file
as_held Any c held h = h.file

as_file : (order : Order) (c : InputRest) (held : VersionSet) → GivesAs (InOrder order, c) held → GivesFile c held
as_file Sorted c held h = record {
  unbroken = h.unbroken;
  file = record { short = h.file.short; versions = h.file.versions; file = h.file.file; members = h.file.members };
}
as_file Any c held h = h

pub as_any : (order : Order) (bytes : List ℕ) (held : VersionSet) → HoldsAs order bytes held → Holds bytes held
as_any Sorted bytes held h = record { short = h.short; versions = h.versions; file = h.file; members = h.members }
as_any Any bytes held h = h

module _ {I : Type 0} (gives : I → InputRest → Type 0) (Fails : Type 0) (all : List ℕ) (size_is : ℕ) (length_is : length all ≡ size_is)
    (order : Order) where
  abbrev Opens : InputFile I → SortedRun → Type 0
  Opens = OpensRun gives Fails (Some all) size_is (InOrder order)

  run_holds : (input : InputFile I) (run : SortedRun) → Opens input run → (how : ReadAs) (c : InputRest)
      (held : VersionSet) → input.read_as ≡ how → gives input.reader c → GivesAs (how, c) held → HoldsAs order (run_bytes run all) held
  run_holds input run opens how c held same given accepted =
      let well : GivesAs (InOrder order, c) held = subst (λ (h : ReadAs). GivesAs (h, c) held) (sym same ∙ opens.read_as_is) accepted in
      let f = as_file order c held well in
      subst (λ (bytes : List ℕ). HoldsAs order bytes held)
      (run_given Fails all run size_is c length_is (opens.gives_run c given) f.unbroken) (as_held order c held well)

  runs_hold : (inputs : List (InputFile I)) (runs : List SortedRun) (given : List (ReadAs × InputRest)) (held : List VersionSet)
      → Pairwise Opens inputs runs → AllGive (InputFileCanGive gives) inputs given → Pairwise GivesAs given held
      → Pairwise Holds (map (λ run. run_bytes run all) runs) held
  runs_hold [] [] [] [] opens g p = tt
  runs_hold [] [] [] (s ∷ held) opens g p = absurd p
  runs_hold [] [] (x ∷ given) held opens g p = absurd g
  runs_hold [] (run ∷ runs) given held opens g p = absurd opens
  runs_hold (input ∷ inputs) [] given held opens g p = absurd opens
  runs_hold (input ∷ inputs) (run ∷ runs) [] held opens g p = absurd g
  runs_hold (input ∷ inputs) (run ∷ runs) (x ∷ given) [] opens g p = absurd p
  runs_hold (input ∷ inputs) (run ∷ runs) ((how, c) ∷ given) (s ∷ held) opens g p = (
    as_any order (run_bytes run all) s
        (run_holds input run opens.0 how c s g.0.0 (plain_given gives input how c opens.0.end_is g.0) p.0),
    runs_hold inputs runs given held opens.1 g.1 p.1,
  )

  -- a whole file as one input
  whole_holds : (inputs : List (InputFile I)) (run : SortedRun) (given : List (ReadAs × InputRest)) (held : List VersionSet)
      → run_bytes run all ≡ all → Pairwise Opens inputs (run ∷ []) → AllGive (InputFileCanGive gives) inputs given
      → Pairwise GivesAs given held
      → HoldsAs order all (union_of held)
  whole_holds [] run given held whole opens g p = absurd opens
  whole_holds (f ∷ h ∷ inputs) run given held whole opens g p = absurd opens.1
  whole_holds (f ∷ []) run [] held whole opens g p = absurd g
  whole_holds (f ∷ []) run (x ∷ y ∷ given) held whole opens g p = absurd g.1
  whole_holds (f ∷ []) run ((how, c) ∷ []) [] whole opens g p = absurd p
  whole_holds (f ∷ []) run ((how, c) ∷ []) (s ∷ t ∷ held) whole opens g p = absurd p.1
  whole_holds (f ∷ []) run ((how, c) ∷ []) (s ∷ []) whole opens g p =
      subst (HoldsAs order all) (sym (union_of_one s))
      (subst (λ (b : List ℕ). HoldsAs order b s) whole
      (run_holds f run opens.0 how c s g.0.0 (plain_given gives f how c opens.0.end_is g.0) p.0))

-- ---- the inputs of a file
module _ {I : Type 0} (gives : I → InputRest → Type 0) (Fails : Type 0) (way : FileWay) (order : Order) (law : SortedRunsHoldTheFile)
    (inputs : List (InputFile I)) (given : List (ReadAs × InputRest)) (held : List VersionSet) (g : AllGive (InputFileCanGive gives) inputs
    given)
    (p : Pairwise GivesAs given held) where
  abbrev Opened : Option (List ℕ) → Type 0
  Opened known = Pairwise (OpensRun gives Fails known way.size way.read_as) inputs way.runs.items

  opened_as : (all : List ℕ) (how : ReadAs) → way.read_as ≡ how → Opened (Some all)
      → Pairwise (OpensRun gives Fails (Some all) way.size how) inputs way.runs.items
  opened_as all how is opens = subst (λ (h : ReadAs). Pairwise (OpensRun gives Fails (Some all) way.size h) inputs way.runs.items) is opens

  runs_are_file : (all : List ℕ) → way.read_as ≡ InOrder Sorted → FitsBytes (Some all) way → Opened (Some all)
      → Holds all (union_of held)
  runs_are_file all sorted (short, (long, split)) opens =
      law all (map (λ run. run_bytes run all) way.runs.items) held (omega (arith, short, long)) split
      (runs_hold gives Fails all way.size long Sorted inputs way.runs.items given held (opened_as all (InOrder Sorted) sorted opens) g p)

  any_holds : (all : List ℕ) → order ≡ Any → Holds all (union_of held) → HoldsAs order all (union_of held)
  any_holds all any h = subst (λ (o : Order). HoldsAs o all (union_of held)) (sym any) h

  bytes_hold : (all : List ℕ) → IsWayOf order (Some all) way → FitsBytes (Some all) way → Opened (Some all)
      → HoldsAs order all (union_of held)
  bytes_hold all (inl (whole, same, settled)) (short, (long, split)) opens =
      whole_holds gives Fails all way.size long order inputs whole_run given held (whole_file all (omega (arith, short, long)))
      (subst (Pairwise (OpensRun gives Fails (Some all) way.size (InOrder order)) inputs) whole
      (opened_as all (InOrder order) same opens)) g p
  bytes_hold all (inr (inl (any, (whole, sorted, may)))) fits opens = any_holds all any (runs_are_file all sorted fits opens)
  bytes_hold all (inr (inr (any, (sorted, settled, runs)))) fits opens = any_holds all any (runs_are_file all sorted fits opens)

  known_holds : (known : Option (List ℕ)) → IsWayOf order known way × FitsBytes known way → Opened known
      → IfSome known (λ all. HoldsAs order all (union_of held))
  known_holds None fits opens = tt
  known_holds (Some all) fits opens = bytes_hold all fits.0 fits.1 opens

-- ---- all inputs
module _ {F R I : Type 0} (fails : F → Type 0) (bytes : F → Option (List ℕ)) (can : R → InputRest → Type 0)
    (gives : I → InputRest → Type 0) (order : Order) where
  -- A stream as one input.
  stream_holds : (r : R) (end : EndRule) (way : FileWay) (inputs : List (InputFile I)) (given : List (ReadAs × InputRest))
      (held : List VersionSet)
      → IsAsRequired order way → OpensFile fails bytes can gives (Stream r end) way inputs → AllGive (InputFileCanGive gives) inputs given
      → Pairwise GivesAs given held → FileHolds bytes can order (Stream r end) (union_of held)
  stream_holds r end way [] given held fits (input, is, opens) g p = absurd (let e : [] ≡ input ∷ [] = is in cc)
  stream_holds r end way (x ∷ y ∷ inputs) given held fits (input, is, opens) g p =
      absurd (omega (arith, ap length is))
  stream_holds r end way (x ∷ []) [] held fits opened g p = absurd g
  stream_holds r end way (x ∷ []) (y ∷ z ∷ given) held fits opened g p = absurd g.1
  stream_holds r end way (x ∷ []) ((how, c) ∷ []) [] fits opened g p = absurd p
  stream_holds r end way (x ∷ []) ((how, c) ∷ []) (s ∷ t ∷ held) fits opened g p = absurd p.1
  stream_holds r end way (x ∷ []) ((how, c) ∷ []) (s ∷ []) fits (input, is, opens) g p =
      let same : x ≡ input = (let e : x ∷ [] ≡ input ∷ [] = is in cc) in
      let order_is : how ≡ InOrder order = sym g.0.0 ∙ ap (λ (i : InputFile I). i.read_as) same ∙ opens.read_as_is
      ∙ fits.1 in
      let given : InputRest = g.0.1.0 in
      let ended : c ≡ by_rule end given =
      g.0.1.2 ∙ ap (λ (e : EndRule). by_rule e given) (ap (λ (i : InputFile I). i.end) same ∙ opens.end_is) in (
        given,
        opens.gives_stream given (subst (λ (i : InputFile I). gives i.reader given) same g.0.1.1),
        subst (λ (t : VersionSet). GivesAs (InOrder order, by_rule end given) t) (sym (union_of_one s))
            (subst (λ (d : InputRest). GivesAs (InOrder order, d) s) ended (subst (λ (h : ReadAs). GivesAs (h, c) s) order_is p.0)),
      )

  one_holds : SortedRunsHoldTheFile → (file : JobFile F R) (way : FileWay) (inputs : List (InputFile I))
      (given : List (ReadAs × InputRest)) (held : List VersionSet) → FileFits bytes order file way
      → OpensFile fails bytes can gives file way inputs → AllGive (InputFileCanGive gives) inputs given → Pairwise GivesAs given held
      → FileHolds bytes can order file (union_of held)
  one_holds law (File f end) way inputs given held fits opens g p =
      known_holds gives (fails f.now) way order law inputs given held g p (bytes f.now) fits opens
  one_holds law (Stream r end) way inputs given held fits opens g p = stream_holds r end way inputs given held fits opens g p

  -- If a job over the inputs of files accepts them, the files hold sets, and the union of these is that of the inputs' sets.
  pub files_hold : SortedRunsHoldTheFile → (files : List (JobFile F R)) (ways : List FileWay) (inputs : List (InputFile I))
      (given : List (ReadAs × InputRest)) (held : List VersionSet) → FilesFit bytes order files ways
      → OpensFiles fails bytes can gives files ways inputs → AllGive (InputFileCanGive gives) inputs given → Pairwise GivesAs given held
      → (sets : List VersionSet) × Pairwise (FileHolds bytes can order) files sets × (union_of held ≡ union_of sets)
  files_hold law [] ways [] [] [] fits opens g p = ([], tt, refl)
  files_hold law [] ways [] [] (s ∷ held) fits opens g p = absurd p
  files_hold law [] ways [] (x ∷ given) held fits opens g p = absurd g
  files_hold law [] ways (i ∷ inputs) given held fits opens g p = absurd (let e : i ∷ inputs ≡ [] = opens in cc)
  files_hold law (file ∷ files) [] inputs given held fits opens g p = absurd opens
  files_hold law (file ∷ files) (way ∷ ways) inputs given held fits (added, others, is, one, more) g p =
      let c = cut (InputFileCanGive gives) added others given
      (as_pairs (InputFileCanGive gives) (added ++ others) given
      (subst (λ (xs : List (InputFile I)). AllGive (InputFileCanGive gives) xs given) is g))
      in
      let d = cut GivesAs c.before c.after held (subst (λ xs. Pairwise GivesAs xs held) c.joined p) in
      let e = one_holds law file way added c.before d.before fits.0 one (as_given (InputFileCanGive gives) added c.before c.first) d.first
      in
      let f = files_hold law files ways others c.after d.after fits.1 more (as_given (InputFileCanGive gives) others c.after c.second)
      d.second in (
        union_of d.before ∷ f.0,
        (e, f.1),
        ap union_of d.joined ∙ union_of_front d.before d.after f.0 f.2,
      )

  -- One file more is opened.
  pub opens_more : (files : List (JobFile F R)) (ways : List FileWay) (inputs added : List (InputFile I)) (file : JobFile F R)
      (way : FileWay) → length files ≡ length ways → OpensFiles fails bytes can gives files ways inputs
      → OpensFile fails bytes can gives file way added
      → OpensFiles fails bytes can gives (files ++ file ∷ []) (ways ++ way ∷ []) (inputs ++ added)
  opens_more [] [] inputs added file way same is one = (
    added,
    [],
    ap (λ (xs : List (InputFile I)). xs ++ added) is ∙ sym (append-nil added),
    one,
    refl,
  )
  opens_more [] (w ∷ ways) inputs added file way same is one = absurd (omega (arith, same))
  opens_more (f ∷ files) [] inputs added file way same opens one = absurd opens
  opens_more (f ∷ files) (w ∷ ways) inputs added file way same (some, others, is, first, rest) one = (
    some,
    others ++ added,
    ap (λ (xs : List (InputFile I)). xs ++ added) is ∙ append_assoc some others added,
    first,
    opens_more files ways others added file way (omega (arith, same)) rest one,
  )

  -- A job over the inputs of files is the job over the files.
  pub run_is : SortedRunsHoldTheFile → (job : FilesJob) (files : List (JobFile F R)) (ways : List FileWay) (inputs : List (InputFile I))
      → job.order ≡ order → FilesFit bytes order files ways → OpensFiles fails bytes can gives files ways inputs
      → (change : Change) (counts : Counts)
      → SomeInputsGive (InputFileCanGive gives) inputs (λ all. IsJob job.selection all job.format change counts)
      → IsFilesJob bytes can job files change counts
  run_is law job files ways inputs order_is fits opens change counts (given, g, done) =
      let h = files_hold law files ways inputs given done.held fits opens g done.files in
      let same : union_of done.held ≡ union_of h.0 = h.2 in
      record {
        held = h.0;
        accepted = subst (λ (o : Order). Pairwise (FileHolds bytes can o) files h.0) (sym order_is) h.1;
        written = subst (λ (s : VersionSet). Appends change (spell job.format (selection_of job.selection s))) same done.written;
        written_count = done.written_count ∙ ap (λ (s : VersionSet). capped_count (size (selection_of job.selection s))) same;
        clashes_count = done.clashes_count ∙ ap (λ (s : VersionSet). capped_count (clash_count s)) same;
      }
