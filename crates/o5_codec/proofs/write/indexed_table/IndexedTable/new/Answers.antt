use Rattle.std.proofs.Common.{◌^◌, ap, arith, refl}
use Rattle.o5_codec.specs.Table.{table_limit}
use Rattle.o5_codec.proofs.IndexSteps.{nothing_indexed}
use Rattle.o5_codec.proofs.write.indexed_table.IndexedTable.new.Goals as goal

pub invariant_of-result : goal.invariant_of-result
unfolding table_limit
invariant_of-result c = record {
  capacity = ap (λ b. b.capacity) c.in_ok-with_capacity.ensures;
  indexed = rw (c.in_ok-with_capacity.ensures, c.new.ensures.empty) (nothing_indexed (2 ^ 64) table_limit 0 (omega arith) _ (λ e. refl));
}
