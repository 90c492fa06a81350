use Rattle.std.proofs.Common.{IfSome, length, ◌≤◌, ◌<◌, ◌^◌}
use Rattle.osm_files.specs.FileRuns.{IfWhole}
use Rattle.osm_files.specs.SortedRun.{IsSplitIntoRuns, runs_of}
use Rattle.osm_files.proofs.FileRunLaws.{Found}
use Rattle.osm_files.proofs.file_runs.find_runs.Given as goal

abbrev pub invariant-runs : goal.invariant-runs
invariant-runs g l =
    IfSome (g.F.ReadAt.bytes l.file) (λ all. length all < 2 ^ 64 → IsSplitIntoRuns all (runs_of l.split))
    × (length l.split.fronts ≤ l.done)
    × IfWhole (g.F.ReadAt.bytes l.file) l.size (λ all. Found all l.split)
