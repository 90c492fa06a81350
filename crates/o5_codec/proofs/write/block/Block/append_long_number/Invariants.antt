use Rattle.std.proofs.Common.{◌+◌, ◌-◌, ◌≤◌, ◌++◌, take}
use Rattle.o5_codec.specs.Shortest.{shortest_number}
use Rattle.o5_codec.specs.Block.{filled_bytes}
use Rattle.o5_codec.proofs.ShortestSteps.{WriterState}
use Rattle.o5_codec.proofs.write.block.Block.append_long_number.Given as goal

abbrev pub invariant-loop-rest : goal.invariant-loop-rest
invariant-loop-rest l = record {
  after : l.fn.self.end ≤ l.end;
  near : l.end ≤ l.fn.self.end + 9;
  written : WriterState (filled_bytes l.fn.self ++ shortest_number l.number) (take l.end l.self.bytes) l.number
      (l.end - l.fn.self.end) l.rest;
}

abbrev pub decreases-loop-rest : goal.decreases-loop-rest
decreases-loop-rest l = l.rest
