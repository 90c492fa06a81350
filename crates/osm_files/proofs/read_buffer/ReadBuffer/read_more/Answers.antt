use Rattle.std.proofs.Common.{◌≤◌, ◌++◌, ◌∙◌, ap, length, arith}
use Rattle.osm_files.proofs.BufferLaws.{held_kept, held_grown}
use Rattle.osm_files.proofs.read_buffer.ReadBuffer.read_more.Goals as goal

pub returns-in-Err-clause-unchanged : goal.returns-in-Err-clause-unchanged
returns-in-Err-clause-unchanged g c =
    held_kept c.self.inside.from c.self.inside.end c.self.inside.buffer.items c.self.invariant.0 c.make_room.new.buffer.items
    c.make_room.ensures.kept
    ∙ c.self.view_is ∙ c.compact.ensures

pub returns-in-Err-read_at-clause-unchanged : goal.returns-in-Err-read_at-clause-unchanged
returns-in-Err-read_at-clause-unchanged g c =
    held_kept c.self.inside.from c.self.inside.end c.self.inside.buffer.items c.self.invariant.0 c.read_at.new.buffer.items
    (c.read_at.ensures.kept ∙ c.make_room.ensures.kept)
    ∙ c.self.view_is ∙ c.compact.ensures

pub returns-in-Ok-clause-gave : goal.returns-in-Ok-clause-gave
returns-in-Ok-clause-gave g c =
    let from = c.self.inside.from in
    let end = c.self.inside.end in
    let gave = c.in-Ok.ensures.gave in
    let within : end ≤ length c.make_room.new.buffer.items = omega (arith, c.self.invariant.1, c.make_room.ensures.longer) in
    let held = held_kept from end c.self.inside.buffer.items c.self.invariant.0 c.make_room.new.buffer.items c.make_room.ensures.kept
    ∙ c.self.view_is ∙ c.compact.ensures in (
      gave.0,
      gave.1,
      held_grown from end c.make_room.new.buffer.items c.self.invariant.0 c.in-Ok.count c.read_at.new.buffer.items gave.0 within gave.2
          ∙ ap (λ xs. xs ++ gave.0) held,
      gave.3,
    )
