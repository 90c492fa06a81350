use Rattle.std.proofs.Common.{◌+◌, ◌≤◌, ◌-◌, ◌∙◌, ap, drop, length, arith, length-drop}
use Rattle.std.proofs.lemmas.List.{length-take-le}
use Rattle.osm_files.proofs.BufferLaws.{held_skipped}
use Rattle.osm_files.proofs.read_buffer.ReadBuffer.skip.Goals as goal

pub returns : goal.returns
returns c =
    let size = length-take-le (c.self.inside.end - c.self.inside.from) (drop c.self.inside.from c.self.inside.buffer.items)
    (omega (arith, c.self.invariant, length-drop c.self.inside.from c.self.inside.buffer.items)) in
    let within : c.self.inside.from + c.args.count ≤ c.self.inside.end =
    omega (arith, c.self.invariant, size, c.requires, ap length c.self.view_is) in
    held_skipped c.self.inside.from c.self.inside.end c.self.inside.buffer.items c.self.invariant.0 c.args.count within
    ∙ ap (drop c.args.count) c.self.view_is
