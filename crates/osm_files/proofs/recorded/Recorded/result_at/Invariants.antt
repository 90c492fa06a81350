use Rattle.std.proofs.Common.{◌≡◌, ◌+◌, take, length}
use Rattle.osm_files.specs.Recorded.{all_bytes}
use Rattle.osm_files.proofs.recorded.Recorded.result_at.Given as goal

-- `left` is the offset after the bytes of the results before this one
abbrev pub invariant-results : goal.invariant-results
invariant-results l = l.left + (length l.self.front + length (all_bytes (take l.result-index l.result-items))) ≡ l.offset
