use Rattle.std.proofs.Common.{◌≡◌, ◌+◌, take, length}
use Rattle.osm_files.specs.Recorded.{all_bytes}
use Rattle.osm_files.proofs.recorded.RecordedReadAt.size.Given as goal

-- the bytes of the results before this one were counted
abbrev pub invariant-results : goal.invariant-results
invariant-results l = l.size ≡ length l.self.front + length (all_bytes (take l.result-index l.result-items))
