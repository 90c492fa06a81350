use Rattle.std.proofs.Common.{rules, true, ◌≡◌, ◌∷◌, subst, take, OnOk}
use Rattle.o5_codec.specs.Table.{table_limit, is_short}
use Rattle.o5_codec.proofs.write.indexed_table.IndexedTable.store.Goals as goal

pub put-requires-clause-absent : goal.put-requires-clause-absent
put-requires-clause-absent c = rw c.in_ok-key.ensures c.requires

pub returns : goal.returns
returns c =
    let short : is_short c.args.entry.now.strings ≡ true = search rules in
    rw short (subst (λ e. OnOk c.put.result (c.put.new.self ≡ take table_limit (e ∷ c.args.self.now))) c.in_ok-stored.ensures c.put.ensures)
