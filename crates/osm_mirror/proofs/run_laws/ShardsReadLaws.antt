-- Files of which all shards were read are sorted.
use Rattle.std.proofs.Common.{◌≡◌, ℕ, zero, suc, ◌+◌, ◌-◌, ◌≤◌, ◌<◌, ◌^◌, ◌||◌, nat_le, Bool, true, false, not, cond, List, [], ◌∷◌}
use Rattle.std.proofs.Common.{length, take, drop, map, sum_by, Option, Some, None, refl, sym, ap, ◌∙◌, subst, arith, length-drop}
use Rattle.std.specs.List.{AllByRecursion}
use Rattle.std.specs.List.Sorted.{IsSorted}
use Rattle.std.proofs.lemmas.Bool.{false≢true}
use Rattle.std.proofs.lemmas.List.{take_all}
use Rattle.std.proofs.lemmas.List.Elements.{All-from_recursion, recursion_from_All}
use Rattle.std.proofs.lemmas.List.Sums.{sum_by-cons}
use Rattle.osm_model.specs.declared.object.Object.{Object}
use Rattle.osm_model.specs.Order.{object_order}
use Rattle.osm_model.specs.Pairwise.{Pairwise}
use Rattle.osm_model.specs.VersionSet.{VersionSet}
use Rattle.osm_files.specs.Held.{HoldsSorted}
use Rattle.osm_merge.specs.declared.span.Span.{Span}
use Rattle.osm_merge.specs.Slice.{spans_from, spans, IsWithin}
use Rattle.osm_mirror.specs.run.Bounds.{is_opl, opl_size, bounds_of, span_at}
use Rattle.osm_mirror.specs.run.Cut.{cut_of}
use Rattle.osm_mirror.specs.run.Job.{union_of}
use Rattle.osm_mirror.specs.run.ShardExtent.{small_size, is_read_whole, begin_of}
use Rattle.osm_mirror.specs.run.Shards.{parts_from, AreCutsFrom}
use Rattle.osm_mirror.specs.run.ShardsRead.{IsSortedFile, HasLines, HasReadAs, HasReadFile, HasReadSpan, HasReadShard}
use Rattle.osm_mirror.specs.run.ShardsRead.{ShardsReadSortedFiles}
use Rattle.osm_mirror.proofs.run_laws.ProbeLaws.{opl_starts}
use Rattle.osm_mirror.proofs.run_laws.ShardLaws.{extents_hold_the_file}
use Rattle.osm_mirror.proofs.run_laws.ShardSpanLaws.{few_spans, bounds_ascend}

-- ---- the spans of all shards
-- what is true of the span at each index is true of all
every_span : (P : Span → Type 0) (ss : List Span) → ((index : ℕ) (span : Span) → span_at ss index ≡ Some span → P span) →
    AllByRecursion P ss
every_span P [] h = tt
every_span P (s ∷ ss) h = (h 0 s refl, every_span P ss (λ index span e. h (suc index) span e))

low_index : (ss : List Span) (index : ℕ) (span : Span) → span_at ss index ≡ Some span → index < length ss
low_index [] index span e = absurd (let no : None ≡ Some span = e in cc)
low_index (s ∷ ss) zero span e = omega arith
low_index (s ∷ ss) (suc index) span e = let low = low_index ss index span e in omega (arith, low)

heads : (bytes : List ℕ) (all : List (List ℕ)) (ss : List Span) →
    AllByRecursion (λ span. AllByRecursion (HasReadFile span) (bytes ∷ all)) ss →
    AllByRecursion (λ span. HasReadFile span bytes) ss × AllByRecursion (λ span. AllByRecursion (HasReadFile span) all) ss
heads bytes all [] h = (tt, tt)
heads bytes all (s ∷ ss) h = let more = heads bytes all ss h.1 in ((h.0.0, more.0), (h.0.1, more.1))

-- ---- a file that is read whole
-- the last span has no upper bound
whole_sorted : (bytes : List ℕ) (from : Option Object) (bounds : List Object) →
    AllByRecursion (λ span. HasReadAs true span bytes) (spans_from from bounds) → IsSortedFile bytes
whole_sorted bytes from [] h = h.0 refl
whole_sorted bytes from (bound ∷ bounds) h = whole_sorted bytes (Some bound) bounds h.1

-- ---- a file whose lines are read
-- the offsets at which a file is cut at bounds
abbrev cuts : List ℕ → List Object → List ℕ
cuts bytes bounds = map (cut_of bytes) bounds

-- the extents between the cuts are sorted files within the spans
record Extents (bytes : List ℕ) (from : Option Object) (bounds : List Object) : Type 0 where
  held : List VersionSet
  up : AreCutsFrom bytes (begin_of bytes from) (cuts bytes bounds)
  holds : Pairwise HoldsSorted (parts_from (begin_of bytes from) (cuts bytes bounds) bytes) held
  within : Pairwise IsWithin (spans_from from bounds) held

extents_of : (bytes : List ℕ) (from : Option Object) (bounds : List Object) →
    AllByRecursion (λ span. HasLines span bytes) (spans_from from bounds) → Extents bytes from bounds
extents_of bytes from [] h =
    let lines = h.0 in
    let start = begin_of bytes from in
    let whole : take (length bytes - start) (drop start bytes) ≡ drop start bytes =
    take_all (length bytes - start) (drop start bytes) (omega (arith, length-drop start bytes)) in
    record {
      held = lines.part ∷ [];
      up = tt;
      holds = (subst (λ b. HoldsSorted b lines.part) whole lines.holds, tt);
      within = (lines.within, tt);
    }
extents_of bytes from (bound ∷ bounds) h =
    let lines = h.0 in
    let more = extents_of bytes (Some bound) bounds h.1 in
    record {
      held = lines.part ∷ more.held;
      up = (lines.ascends, lines.cut, more.up);
      holds = (lines.holds, more.holds);
      within = (lines.within, more.within);
    }

-- a file that isn't read whole is OPL
by_lines_is_opl : (bytes : List ℕ) → is_read_whole bytes ≡ false → is_opl bytes ≡ true
by_lines_is_opl bytes = elim (is_opl bytes) as (λ t. (nat_le (length bytes) small_size || not t) ≡ false → t ≡ true) [
  | true ↦ λ e. refl
  | false ↦ λ e. absurd (elim (nat_le (length bytes) small_size) as (λ t. (t || true) ≡ false → ⊥) [
    | true ↦ λ no. false≢true (sym no)
    | false ↦ λ no. false≢true (sym no)
  ] e)
]

lines_sorted : (bounds : List Object) (bytes : List ℕ) → IsSorted object_order bounds → is_opl bytes ≡ true → length bytes < 2 ^ 62 →
    AllByRecursion (λ span. HasLines span bytes) (spans bounds) → IsSortedFile bytes
lines_sorted bounds bytes up opl short h =
    let e = extents_of bytes None bounds h in (
      union_of e.held,
      (extents_hold_the_file bounds bytes (cuts bytes bounds) e.held short (opl_starts bytes opl) up e.up e.holds
          e.within).0,
    )

-- ---- all files
file_sorted : (bounds : List Object) (bytes : List ℕ) → IsSorted object_order bounds → opl_size bytes < 2 ^ 62 →
    AllByRecursion (λ span. HasReadFile span bytes) (spans bounds) → IsSortedFile bytes
file_sorted bounds bytes up short =
    elim (is_read_whole bytes) as (λ t. is_read_whole bytes ≡ t → AllByRecursion (λ span. HasReadAs t span bytes) (spans bounds) →
    IsSortedFile bytes) [
      | true ↦ λ e h. whole_sorted bytes None bounds h
      | false ↦ λ e h.
          let opl = by_lines_is_opl bytes e in
          let size : opl_size bytes ≡ length bytes = ap (λ t. cond t (length bytes) 0) opl in
          lines_sorted bounds bytes up opl (omega (arith, size, short)) h
    ] refl

all_sorted : (bounds : List Object) (all : List (List ℕ)) → IsSorted object_order bounds → sum_by opl_size all < 2 ^ 62 →
    AllByRecursion (λ span. AllByRecursion (HasReadFile span) all) (spans bounds) → AllByRecursion IsSortedFile all
all_sorted bounds [] up short h = tt
all_sorted bounds (bytes ∷ all) up short h =
    let sizes = sum_by-cons opl_size bytes all in
    let parts = heads bytes all (spans bounds) h in (
      file_sorted bounds bytes up (omega (arith, sizes, short)) parts.0,
      all_sorted bounds all up (omega (arith, sizes, short)) parts.1,
    )

read_at : (span : Option Span) (one : Span) (all : List (List ℕ)) → span ≡ Some one → HasReadSpan span all →
    AllByRecursion (HasReadFile one) all
read_at span one all is h = recursion_from_All (HasReadFile one) all (subst (λ (s : Option Span). HasReadSpan s all) is h)

pub shards_read_sorted_files : ShardsReadSortedFiles
shards_read_sorted_files count all some read =
    let ss : List Span = spans (bounds_of count all) in
    let few = few_spans count all some in
    let one = read 1 (omega arith) (omega (arith, some)) in
    All-from_recursion IsSortedFile all
    (all_sorted (bounds_of count all) all (bounds_ascend count all) one.short
    (every_span (λ span. AllByRecursion (HasReadFile span) all) ss
    (λ index span e.
    let low = low_index ss index span e in
    let shard = read (suc index) (omega arith) (omega (arith, low, few)) in
    let counted : suc index - 1 ≡ index = omega arith in
    read_at (span_at ss (suc index - 1)) span all (ap (span_at ss) counted ∙ e) shard.read)))
