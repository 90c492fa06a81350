-- The task of a merge, the invariant of its loop between two turns, and the beginning of the loop.
use Rattle.std.proofs.Common.{◌≡◌, ℕ, ◌+◌, ◌*◌, ◌-◌, ◌^◌, ◌<◌, ◌≤◌, true, List, [], map, length, refl, sym, ap, ◌∙◌, subst, arith, Option}
use Rattle.std.proofs.Common.{Some, None}
use Rattle.std.specs.List.Sorted.{IsStrictlySortedBy}
use Rattle.osm_model.specs.Data.{VersionData}
use Rattle.osm_model.specs.Order.{version_cmp}
use Rattle.osm_files.specs.declared.fault.Fault.{Fault}
use Rattle.osm_files.specs.declared.format.Format.{Format}
use Rattle.osm_files.specs.declared.output.Output.{Ghosts as OutputGhosts}
use Rattle.osm_files.specs.declared.source.Source.{Ghosts as SourceGhosts}
use Rattle.osm_files.specs.Output.{Change}
use Rattle.osm_files.specs.Change.{change_of}
use Rattle.osm_files.specs.Sink.{SinkState, HasPut}
use Rattle.osm_files.specs.Input.{Explained}
use Rattle.osm_merge.specs.declared.merge.Counts.{Counts}
use Rattle.osm_merge.specs.ToCome.{VersionsToCome, AllAscend, AreHeadsOf}
use Rattle.osm_merge.specs.Giving.{AllGive, SomePendingGive}
use Rattle.osm_merge.specs.declared.clash_tally.ClashTally.{ClashTally}
use Rattle.osm_merge.specs.ClashTally.{no_clashes}
use Rattle.osm_merge.specs.Merged.{IsRefusedAs}
use Rattle.osm_merge.specs.Union.{capped_count}
use Rattle.osm_merge.specs.declared.selection.Selection.{Selection}
use Rattle.osm_merge.specs.Pass.{passes_all, put_of}
use Rattle.osm_merge.specs.declared.repeats.Repeats.{Repeats}
use Rattle.osm_merge.specs.Repeats.{AreTrueRepeats, comparison_count}
use Rattle.osm_merge.proofs.RepeatLaws.{nothing_known}
use Rattle.osm_merge.specs.Tree.{IsTree}
use Rattle.osm_merge.proofs.AscendingLaws.{nothing_ascends}
use Rattle.osm_merge.proofs.ClashLaws.{IsTallying, none_tallied}
use Rattle.osm_merge.proofs.State.{Ends, IsMerging}
use Rattle.osm_merge.proofs.Settling.{put_nothing}

-- ---- the task
-- What a merge has to do, which stays the same: the selection that it writes, its sources with the heads that they began
-- with, the format and number of the sink, and the output before. `source` and `output` have the ghosts of their types.
pub record MergeTask (S O : Type 0) : Type 1 where
  pub selection : Selection
  pub source : SourceGhosts S
  pub first_heads : List (Option VersionData)
  pub first_sources : List S
  pub format : Format
  pub number : ℕ
  pub output : OutputGhosts O
  pub before : O

-- the change of the output since the merge began
abbrev pub output_change : {S O : Type 0} → MergeTask S O → O → Change
output_change task now = change_of task.output task.before now

-- for some list of rests that the sources could give after their first heads, each list of rests that includes these heads
-- has a property
abbrev pub SomeFirstGive : {S O : Type 0} → MergeTask S O → (List VersionsToCome → Type 0) → Type 0
SomeFirstGive task P = SomePendingGive task.source.can_give task.first_sources task.first_heads P

-- the merge is refused with this fault and the output `now`
abbrev pub RefusesTask : {S O : Type 0} → MergeTask S O → O → Fault → Type 0
RefusesTask task now fault =
    SomeFirstGive task (λ all. IsRefusedAs task.selection all task.format task.number (output_change task now) fault)

-- the task of a merge that begins with these heads, sources, sink and output
abbrev pub task_of : {S O : Type 0} → Selection → SourceGhosts S → OutputGhosts O → List (Option VersionData) → List S →
    SinkState → O → MergeTask S O
task_of selection source output heads sources sink before = record {
  selection = selection;
  source = source;
  first_heads = heads;
  first_sources = sources;
  format = sink.format;
  number = sink.number;
  output = output;
  before = before;
}

-- the counts of a merge
abbrev pub counts_of : ℕ → ℕ → ℕ → ℕ → Counts
counts_of read written compared clashes = record { read = read; written = written; compared = compared; clashes = clashes }

-- ---- the invariant
-- The merge between two turns, if the sources give the rests `shown` after their heads. `states` are the rests with the
-- heads.
pub record IsStanding (selection : Selection) (all : List VersionsToCome) (heads : List (Option VersionData))
    (shown : List (Option VersionsToCome)) (met : List VersionData) (last top : Option VersionData) (taken : ℕ) (tally : ClashTally)
    : Type 0 where
  pub states : List VersionsToCome
  pub are_heads : AreHeadsOf states heads shown
  pub merging : IsMerging selection all states met last top taken
  pub tallying : IsTallying all states top tally

-- The invariant between two turns. `taken` versions were taken, and those that pass were met. The sink has put the versions
-- `put_of task.selection met`. Each list of rests that is possible now comes from one that was possible at first.
pub record IsRunning {S O : Type 0} (task : MergeTask S O) (heads : List (Option VersionData)) (nodes : List ℕ) (sources : List S)
    (sink : SinkState) (now : O) (last : Option VersionData) (counts : Counts) (repeats : Repeats) (tally : ClashTally) : Type 0 where
  pub met : List VersionData
  pub top : Option VersionData
  pub taken : ℕ
  pub has : HasPut task.format task.number (put_of task.selection met) (output_change task now) sink
  pub ends : Ends last met
  pub ascends : IsStrictlySortedBy version_cmp met
  pub tree : IsTree heads nodes 1 0
  pub some : 0 < length heads
  pub size : length sources ≡ length heads
  pub read_is : counts.read ≡ capped_count taken
  pub written_is : counts.written ≡ capped_count (length (put_of task.selection met))
  pub clashes_is : counts.clashes ≡ tally.count
  pub most : (depth : ℕ) → length heads ≤ 2 ^ depth → counts.compared ≤ (length heads - 1) + taken * (depth + 1)
  pub least : passes_all task.selection ≡ true → capped_count ((taken - 1) + comparison_count repeats) ≤ counts.compared
  pub known : AreTrueRepeats task.selection last heads repeats
  pub fresh : passes_all task.selection ≡ true → last ≡ None → taken ≡ 0
  pub run :
      Explained (AllGive task.source.can_give task.first_sources) (AllGive task.source.can_give sources)
      (λ first later. (all : List VersionsToCome) → AllAscend all → AreHeadsOf all task.first_heads (map Some first)
      → IsStanding task.selection all heads (map Some later) met last top taken tally)

-- ---- the beginning
-- Before the first turn no version is taken, and none is met.
pub none_met : (selection : Selection) (all : List VersionsToCome) → AllAscend all → IsMerging selection all all [] None None 0
none_met selection all up = record {
  size = refl;
  ascends = nothing_ascends version_cmp;
  queues = up;
  came = λ i. ([], refl);
  refusals = λ i. refl;
  same = λ q. refl;
  ends = refl;
  floor = λ i. tt;
  under = tt;
  reached = tt;
  count = omega arith;
}

-- The loop begins with nothing written and nothing counted.
pub run_start : {S O : Type 0} (task : MergeTask S O) (nodes : List ℕ) (sink : SinkState) (now : O) (counts : Counts)
    → HasPut task.format task.number [] (output_change task now) sink → IsTree task.first_heads nodes 1 0
    → 0 < length task.first_heads → length task.first_sources ≡ length task.first_heads
    → counts.read ≡ 0 → counts.written ≡ 0 → counts.compared ≤ length task.first_heads - 1 → counts.clashes ≡ 0
    → IsRunning task task.first_heads nodes task.first_sources sink now None counts (record { tie = None; taken = None }) no_clashes
run_start task nodes sink now counts has tree some size none_read none_written few no_clash = record {
  met = [];
  top = None;
  taken = 0;
  has =
      subst (λ (vs : List VersionData). HasPut task.format task.number vs (output_change task now) sink)
      (sym (put_nothing task.selection)) has;
  ends = refl;
  ascends = nothing_ascends version_cmp;
  tree = tree;
  some = some;
  size = size;
  read_is = none_read;
  written_is = none_written ∙ ap (λ (vs : List VersionData). capped_count (length vs)) (sym (put_nothing task.selection));
  clashes_is = no_clash;
  most = λ depth high. omega (arith, few);
  least = λ p. omega arith;
  known = nothing_known task.selection task.first_heads;
  fresh = λ p e. refl;
  run = λ later g. (
    later,
    g,
    λ all up are_heads. record {
      states = all;
      are_heads = are_heads;
      merging = none_met task.selection all up;
      tallying = none_tallied all;
    },
  );
}
