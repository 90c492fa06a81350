-- The probes of files: what they find, and at which offsets.
use Rattle.std.proofs.Common.{◌≡◌, ℕ, zero, suc, ◌+◌, ◌-◌, ◌*◌, ◌/◌, ◌≤◌, ◌<◌, ◌==◌, ◌^◌, ◌⊎◌, ◌||◌, min, Bool, true, false}
use Rattle.std.proofs.Common.{not, cond, List, [], ◌∷◌}
use Rattle.std.proofs.Common.{◌++◌, length, refl, sym, ap, ◌∙◌, subst, arith, Option, Some, None, IfSome, inl, inr, ⊎_elim}
use Rattle.std.proofs.Common.{take, drop, take-append-drop, get_or}
use Rattle.std.proofs.Common.{append_assoc, append-nil}
use Rattle.std.specs.Prelude.{sum_by, unwrap_or}
use Rattle.std.proofs.lemmas.Bool.{le-leb, lt-leb}
use Rattle.std.proofs.lemmas.Bool.Decides.{nat_tests}
use Rattle.std.proofs.lemmas.Grind.{flat_map-append}
use Rattle.std.proofs.lemmas.List.Sums.{sum_by_push, sum_by-append, sum_by-cons}
use Rattle.std.proofs.lemmas.Nat.{mul-le, div-add-mod', row_fits}
use Rattle.std.proofs.Math.Bool.{not-not}
use Rattle.std.proofs.lemmas.Option.{MatchOption-at_some}
use Rattle.osm_model.specs.declared.object.Object.{Object}
use Rattle.osm_model.specs.Data.{VersionData}
use Rattle.osm_model.specs.Pairwise.{Pairwise}
use Rattle.osm_files.specs.declared.fault.Fault.{Fault}
use Rattle.osm_files.specs.Held.{HoldsSorted, IsFileOf}
use Rattle.osm_files.specs.O5.{reset_byte}
use Rattle.osm_files.specs.Opl.{OplFile}
use Rattle.osm_files.specs.Units.{InOpl, start_of}
use Rattle.osm_files.proofs.SinkLaws.{front_at}
use Rattle.osm_mirror.specs.declared.run.bounds.Found.{Found}
use Rattle.osm_mirror.specs.run.Bounds.{is_opl, opl_size, first_object, found_once, found_at, found_by, probe_count}
use Rattle.osm_mirror.specs.run.Bounds.{found_in, total_weight}
use Rattle.osm_mirror.specs.run.Bounds.{found_in_all}
use Rattle.osm_mirror.specs.declared.run.lines_from.LinesFrom.{LinesFrom}
use Rattle.osm_mirror.specs.run.Cut.{start_if, BeginsAs, IsCutRefusal}
use Rattle.osm_mirror.specs.run.LinesFrom.{AreLinesOf}
use Rattle.osm_mirror.specs.run.Probes.{HaveBytes, IsTotal, FindsBy, FindsIn, FindsInAll}
use Rattle.osm_mirror.specs.run.ShardExtent.{size_if_opl, IsOplSize, small_size, is_read_whole}
use Rattle.osm_mirror.specs.run.ShardRefusal.{IsFileRefusal}
use Rattle.osm_mirror.proofs.run_laws.FilesJobLaws.{cut}

-- ---- the first byte of a file
starts_if : (t : Bool) → start_if (not (not t)) ≡ start_if t
starts_if true = refl
starts_if false = refl

-- an o5 file is one that begins as such
pub starts : (bytes : List ℕ) → start_of bytes ≡ start_if (not (is_opl bytes))
starts [] = refl
starts (b ∷ bytes) = sym (starts_if (b == reset_byte))

one_start : (s t : Bool) → start_if s ≡ start_if t → s ≡ t
one_start true true e = refl
one_start true false e = cc
one_start false true e = cc
one_start false false e = refl

-- the first byte shows whether a file is OPL
pub opl_is : (bytes : List ℕ) (is_o5 : Bool) → start_of bytes ≡ start_if is_o5 → is_opl bytes ≡ not is_o5
opl_is bytes is_o5 e =
    sym (not-not (is_opl bytes)) ∙ ap not (one_start (not (is_opl bytes)) is_o5 (sym (starts bytes) ∙ e))

pub opl_starts : (bytes : List ℕ) → is_opl bytes ≡ true → start_of bytes ≡ InOpl
opl_starts bytes e = starts bytes ∙ ap (λ t. start_if (not t)) e

pub opl_file : (bytes : List ℕ) (versions : List VersionData) → is_opl bytes ≡ true → IsFileOf (start_of bytes) bytes versions →
    OplFile bytes versions
opl_file bytes versions e file = subst (λ s. IsFileOf s bytes versions) (opl_starts bytes e) file

-- the size of an OPL file is known
pub opl_sized : (known : Option (List ℕ)) (size : ℕ) → IsOplSize known (Some size) →
    IfSome known (λ all. (is_opl all ≡ true) × (size ≡ length all))
opl_sized None size h = tt
opl_sized (Some all) size h =
    elim (is_opl all) as (λ t. is_opl all ≡ t → Some size ≡ cond t (Some (length all)) None → (is_opl all ≡ true) × (size ≡ length all)) [
      | true ↦ λ e k. (e, (let same : size ≡ length all = cc in same))
      | false ↦ λ e k. absurd (let no : Some size ≡ None = k in cc)
    ] refl h

-- ---- which files are read whole
-- a small file is read whole
pub small_whole : (known : Option (List ℕ)) (size : ℕ) → IfSome known (λ all. size ≡ length all) → size ≤ small_size →
    IfSome known (λ all. true ≡ is_read_whole all)
small_whole None size is few = tt
small_whole (Some all) size is few =
    ap (λ t. t || not (is_opl all)) (sym (le-leb (length all) small_size (omega (arith, is, few))))

-- another file is read whole if it begins as an o5 file does
pub large_whole : (known : Option (List ℕ)) (size : ℕ) (is_o5 : Bool) → IfSome known (λ all. size ≡ length all) → small_size < size →
    BeginsAs known 0 is_o5 → IfSome known (λ all. is_o5 ≡ is_read_whole all)
large_whole None size is_o5 is many begins = tt
large_whole (Some all) size is_o5 is many begins =
    sym (ap (λ t. t || not (is_opl all)) (lt-leb (length all) small_size (omega (arith, is, many)))
    ∙ ap not (opl_is all is_o5 begins) ∙ not-not is_o5)

-- a search in an OPL file that is refused refuses the file
pub probe_refuses : (Fails : Type 0) (known : Option (List ℕ)) (size : ℕ) (fault : Fault) →
    IfSome known (λ all. (is_opl all ≡ true) × (size ≡ length all)) → IsCutRefusal Fails known fault → IsFileRefusal Fails known fault
probe_refuses Fails None size fault is refused = inr tt
probe_refuses Fails (Some all) size fault (opl, is) refused =
    ⊎_elim (λ failure. inl failure) (λ none. inr (λ held h. none h.versions (opl_file all h.versions opl h.file))) refused

-- ---- all probes of a file
-- the objects of the probes from a number on were appended: with those of the probes before it, they are those of all probes
abbrev pub FindsFrom : Option (List ℕ) → ℕ → ℕ → ℕ → List Found → List Found → Type 0
FindsFrom known size step number before after = IfSome known (λ all. size ≡ length all
    → after ++ found_by step all number ≡ before ++ found_by step all (probe_count step size))

pub finds_none : (known : Option (List ℕ)) (size step number : ℕ) (found : List Found) → number ≡ probe_count step size →
    FindsFrom known size step number found found
finds_none None size step number found is = tt
finds_none (Some all) size step number found is = λ same. ap (λ n. found ++ found_by step all n) is

pub finds_more : (known : Option (List ℕ)) (size step number next : ℕ) (lines : LinesFrom) (before found after : List Found) →
    FindsFrom known size step number before found → number ≡ next + 1 → lines.offset ≡ next * step → AreLinesOf known lines →
    after ≡ found ++ found_once (min step (size - lines.offset)) lines.object → FindsFrom known size step next before after
finds_more None size step number next lines before found after h one at are is = tt
finds_more (Some all) size step number next lines before found after h one at are is = λ same.
    let here : found_once (min step (size - lines.offset)) lines.object ≡ found_at step all (next * step) =
    (λ i. found_once (min step (same i - lines.offset)) (are.object i)) ∙ ap (found_at step all) at in
    let e : number ≡ suc next = omega (arith, one) in
    ap (λ xs. xs ++ found_by step all next) (is ∙ ap (λ xs. found ++ xs) here)
    ∙ append_assoc found (found_at step all (next * step)) (found_by step all next)
    ∙ ap (λ n. found ++ found_by step all n) (sym e) ∙ h same

pub finds_all : (known : Option (List ℕ)) (size step number : ℕ) (before after : List Found) →
    FindsFrom known size step number before after → number ≡ 0 → FindsBy known size step before after
finds_all None size step number before after h none = tt
finds_all (Some all) size step number before after h none = λ same.
    sym (append-nil after) ∙ ap (λ n. after ++ found_by step all n) (sym none) ∙ h same

-- the probe with a number is within the file
pub within : (number step size : ℕ) → 0 < step → number < probe_count step size → number * step < size
within number step zero some low = absurd (omega (arith, low))
within number step (suc size) some low =
    let some_bytes : (suc size == 0) ≡ false = grind (arith, nat_tests) in
    let one_less : suc size - 1 ≡ size = omega arith in
    let count : probe_count step (suc size) ≡ size / step + 1 =
    ap (λ t. cond t 0 ((suc size - 1) / step + 1)) some_bytes ∙ ap (λ n. n / step + 1) one_less in
    let most : number ≤ size / step = omega (arith, low, count) in
    let part = mul-le number step (size / step) step most (omega arith) in
    let whole = div-add-mod' size step in
    omega (arith, part, whole)

-- the probe before the next one, if there is one, isn't after these lines
abbrev pub HasRoom : ℕ → ℕ → ℕ → Type 0
HasRoom step number offset = (number ≡ 0) ⊎ ((number - 1) * step ≤ offset)

pub room_at_end : (step size number : ℕ) → 0 < step → number ≡ probe_count step size → HasRoom step number size
room_at_end step size zero some is = inl refl
room_at_end step size (suc n) some is =
    let e : suc n - 1 ≡ n = omega arith in
    let near = within n step size some (omega (arith, is)) in
    inr (subst (λ m. m * step ≤ size) (sym e) (omega (arith, near)))

pub in_room : (step number offset probe : ℕ) → HasRoom step number offset → 0 < number → probe ≡ (number - 1) * step → probe ≤ offset
in_room step number offset probe room some is = ⊎_elim (λ none. absurd (omega (arith, none, some))) (λ low. omega (arith, low, is)) room

pub room_before : (step number offset : ℕ) → offset ≡ number * step → HasRoom step number offset
room_before step zero offset is = inl refl
room_before step (suc n) offset is =
    let less = mul-le (suc n - 1) step (suc n) step (omega arith) (omega arith) in inr (omega (arith, less, is))

-- the size of an OPL file as an offset
pub opl_end : (known : Option (List ℕ)) (size offset : ℕ) → IfSome known (λ all. (is_opl all ≡ true) × (size ≡ length all)) →
    offset ≡ size → IfSome known (λ all. offset ≡ length all)
opl_end None size offset h is = tt
opl_end (Some all) size offset h is = is ∙ h.1

-- ---- the weight of what is found
once_weight : (weight : ℕ) (object : Option Object) → total_weight (found_once weight object) ≤ weight
once_weight weight None = omega arith
once_weight weight (Some object) = omega arith

by_weight : (step : ℕ) (bytes : List ℕ) (number : ℕ) →
    (total_weight (found_by step bytes number) ≤ length bytes) × (total_weight (found_by step bytes number) ≤ number * step)
by_weight step bytes zero = (omega arith, omega arith)
by_weight step bytes (suc number) =
    let so_far = by_weight step bytes number in
    let both = sum_by-append (λ f. f.weight) (found_at step bytes (number * step)) (found_by step bytes number) in
    let one = once_weight (min step (length bytes - number * step)) (first_object (number * step) bytes) in
    let next = row_fits number step (suc number) step (omega arith) (omega arith) in
    let early = so_far.0 in
    let low = so_far.1 in (
      omega (arith, early, low, both, one),
      omega (arith, low, both, one, next),
    )

in_weight : (step : ℕ) (bytes : List ℕ) → total_weight (found_in step bytes) ≤ opl_size bytes
in_weight step bytes = elim (is_opl bytes) as (λ t.
    total_weight (cond t (found_by step bytes (probe_count step (length bytes))) []) ≤ cond t (length bytes) 0) [
      | true ↦ (by_weight step bytes (probe_count step (length bytes))).0
      | false ↦ omega arith
    ]

-- what is found weighs no more than the files have bytes
pub all_weight : (step : ℕ) (all : List (List ℕ)) → total_weight (found_in_all step all) ≤ sum_by opl_size all
all_weight step [] = omega arith
all_weight step (bytes ∷ all) =
    let both = sum_by-append (λ f. f.weight) (found_in step bytes) (found_in_all step all) in
    let sizes = sum_by-cons opl_size bytes all in
    let one = in_weight step bytes in
    let more = all_weight step all in
    omega (arith, both, sizes, one, more)

-- ---- one file more
module _ {F B : Type 0} (R : F → B → Type 0) where
  -- what belongs to files and to one more
  pub record Divided (files : List F) (file : F) (all : List B) : Type 0 where
    pub before : List B
    pub bytes : B
    pub are : all ≡ before ++ bytes ∷ []
    pub first : Pairwise R files before
    pub last : R file bytes

  last_bytes : (files : List F) (file : F) (all before after : List B) → all ≡ before ++ after → Pairwise R files before →
      Pairwise R (file ∷ []) after → Divided files file all
  last_bytes files file all before [] are first h = absurd h
  last_bytes files file all before (b ∷ c ∷ after) are first h = absurd h.1
  last_bytes files file all before (b ∷ []) are first h = record { before = before; bytes = b; are = are; first = first; last = h.0 }

  pub divided : (files : List F) (file : F) (all : List B) → Pairwise R (files ++ file ∷ []) all → Divided files file all
  divided files file all have =
      let c = cut R files (file ∷ []) all have in
      last_bytes files file all c.before c.after c.joined c.first c.second

module _ {F : Type 0} (known : F → Option (List ℕ)) where
  abbrev has_bytes : F → List ℕ → Type 0
  has_bytes file bytes = known file ≡ Some bytes

  size_is : (all : List ℕ) (size : Option ℕ) → size ≡ size_if_opl all → unwrap_or size 0 ≡ opl_size all
  size_is all size is = ap (λ (s : Option ℕ). unwrap_or s 0) is ∙ (elim (is_opl all) as (λ t.
      unwrap_or (cond t (Some (length all)) None) 0 ≡ cond t (length all) 0) [
        | true ↦ refl
        | false ↦ refl
      ])

  pub total_none : IsTotal known [] 0
  total_none [] have = refl
  total_none (b ∷ all) have = absurd have

  pub total_more : (files : List F) (file : F) (total next : ℕ) (size : Option ℕ) → IsTotal known files total →
      IsOplSize (known file) size → next ≡ total + unwrap_or size 0 → IsTotal known (files ++ file ∷ []) next
  total_more files file total next size h is sum all have =
      let d = divided has_bytes files file all have in
      let one = size_is d.bytes size (MatchOption-at_some _ (λ b. size ≡ size_if_opl b) d.bytes d.last is) in
      let so_far = h d.before d.first in
      let push = sum_by_push opl_size d.before d.bytes in
      let whole : sum_by opl_size all ≡ sum_by opl_size (d.before ++ d.bytes ∷ []) = ap (sum_by opl_size) d.are in
      omega (arith, one, so_far, push, whole, sum)

  -- If the OPL files up to one of these files are too long, all of them are.
  pub total_long : (files : List F) (number total : ℕ) (file : F) (size : Option ℕ) → number < length files
      → file ≡ get_or files number file → total < 2 ^ 62 → IsTotal known (take number files) total → IsOplSize (known file) size
      → 2 ^ 62 - total ≤ unwrap_or size 0 → (all : List (List ℕ)) → HaveBytes known files all → 2 ^ 62 ≤ sum_by opl_size all
  total_long files number total file size low is few h sized long all have =
      let front : List F = take (number + 1) files in
      let so_far : IsTotal known front (total + unwrap_or size 0) =
      subst (λ (fs : List F). IsTotal known fs (total + unwrap_or size 0)) (sym (front_at files number file low is))
      (total_more (take number files) file total (total + unwrap_or size 0) size h sized refl) in
      let c = cut has_bytes front (drop (number + 1) files) all
      (subst (λ (fs : List F). HaveBytes known fs all) (sym (take-append-drop (number + 1) files)) have) in
      let before = so_far c.before c.first in
      let both = sum_by-append opl_size c.before c.after in
      let whole = ap (sum_by opl_size) c.joined in
      omega (arith, before, both, whole, long, few)

  pub all_none : (step : ℕ) → FindsInAll known step [] []
  all_none step [] have = refl
  all_none step (b ∷ all) have = absurd have

  pub all_more : (step : ℕ) (files : List F) (file : F) (found after : List Found) → FindsInAll known step files found →
      FindsIn (known file) step found after → FindsInAll known step (files ++ file ∷ []) after
  all_more step files file found after h one all have =
      let d = divided has_bytes files file all have in
      let here = MatchOption-at_some _ (λ b. after ≡ found ++ found_in step b) d.bytes d.last one in
      here ∙ (λ i. h d.before d.first i ++ sym (append-nil (found_in step d.bytes)) i)
      ∙ sym (flat_map-append (found_in step) d.before (d.bytes ∷ [])) ∙ ap (found_in_all step) (sym d.are)
