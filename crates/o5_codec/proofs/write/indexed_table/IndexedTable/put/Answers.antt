use Rattle.std.proofs.Common.{◌≡◌, ◌∷◌, ◌∙◌, ◌^◌, ap, reverse, take, Some, None}
use Rattle.o5_codec.specs.Table.{table_limit}
use Rattle.o5_codec.specs.Formed.{reference_to}
use Rattle.o5_codec.proofs.Newest.{pushed}
use Rattle.o5_codec.proofs.IndexSteps.{put_free, put_full, changed_by, limit_is_small}
use Rattle.o5_codec.proofs.write.indexed_table.IndexedTable.put.Goals as goal

pub invariant_of-self-in-Some : goal.invariant_of-self-in-Some
invariant_of-self-in-Some c =
    let absent : reference_to c.args.stored (reverse c.self.inside.ring.items) ≡ None =
    rw (c.self.view_is, ← c.requires.same) c.requires.absent in
    let changed = changed_by c.args.key (Some c.self.inside.next) c.self.inside.numbers c.insert.new.self c.in_ok-insert.ensures.updates in
    let removed = changed_by c.in-Some.evicted None c.insert.new.self c.remove.new.numbers c.remove.ensures in
    record {
      capacity = ap (λ b. b.capacity) c.push_back.ensures.items ∙ c.self.invariant.capacity;
      indexed = rw (pushed table_limit c.self.inside.ring c.push_back.new.self c.args.stored c.push_back.ensures.items
          c.self.invariant.capacity)
          (put_full (2 ^ 64) table_limit c.self.inside.next c.number_after-after.result c.self.inside.ring.capacity c.self.inside.ring.items
          c.args.stored c.in-Some.evicted _ _ _
          limit_is_small c.self.invariant.capacity c.self.invariant.indexed absent c.number_after-after.ensures
          (rw c.requires.same at changed) c.in-Some.ensures.value removed);
    }

pub invariant_of-self-in_default : goal.invariant_of-self-in_default
invariant_of-self-in_default c =
    let absent : reference_to c.args.stored (reverse c.self.inside.ring.items) ≡ None =
    rw (c.self.view_is, ← c.requires.same) c.requires.absent in
    let changed = changed_by c.args.key (Some c.self.inside.next) c.self.inside.numbers c.insert.new.self c.in_ok-insert.ensures.updates in
    record {
      capacity = ap (λ b. b.capacity) c.push_back.ensures.items ∙ c.self.invariant.capacity;
      indexed = rw (pushed table_limit c.self.inside.ring c.push_back.new.self c.args.stored c.push_back.ensures.items
          c.self.invariant.capacity)
          (put_free (2 ^ 64) table_limit c.self.inside.next c.number_after-after.result c.self.inside.ring.capacity c.self.inside.ring.items
          c.args.stored _ _
          limit_is_small c.self.invariant.capacity c.self.invariant.indexed absent c.number_after-after.ensures
          (rw c.requires.same at changed) c.in_default.ensures.value);
    }

pub returns-in-Some : goal.returns-in-Some
returns-in-Some c =
    pushed table_limit c.self.inside.ring c.push_back.new.self c.args.stored c.push_back.ensures.items c.self.invariant.capacity
    ∙ ap (λ t. take table_limit (c.args.stored ∷ t)) c.self.view_is
