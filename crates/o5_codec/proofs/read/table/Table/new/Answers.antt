use Rattle.std.proofs.Common.{ap}
use Rattle.o5_codec.specs.Table.{table_limit}
use Rattle.o5_codec.proofs.read.table.Table.new.Goals as goal

pub invariant_of-result : goal.invariant_of-result
unfolding table_limit
invariant_of-result c = ap (λ b. b.capacity) c.in_ok-with_capacity.ensures
