use Rattle.std.proofs.Common.{◌≡◌, ◌+◌, ◌-◌, ◌≤◌, ◌++◌, ◌∙◌, ap, take, drop, length, arith, length-take, length-take-le}
use borrow.Rule.Slice.PartMut.{post_of}
use Rattle.osm_files.proofs.BufferLaws.{came_after, written_front}
use Rattle.osm_files.proofs.key_order.read_part.Goals as goal

pub returns-in-Ok-clause-came : goal.returns-in-Ok-clause-came
returns-in-Ok-clause-came g c =
    let end = c.args.end in
    let count = c.in-Ok.count in
    let came = c.read_at.new.buffer in
    let buffer = c.deref_mut.result.now in
    let same : buffer ≡ c.args.buffer.now.items = c.deref_mut.ensures.value in
    let rest = post_of end (end + c.args.most - end) buffer in
    let within : end ≤ length buffer = omega (arith, c.requires.within, ap length same) in
    let few : count ≤ length came = omega (arith, c.in-Ok.ensures.within, c.read_at.auto.buffer) in
    let written = take end buffer ++ (came ++ rest) in
    let fits : end + count ≤ c.args.buffer.now.len = omega (
      arith,
      c.in-Ok.ensures.within,
      length-take (end + c.args.most - end) (drop end buffer),
      c.requires.within,
      ap length same,
      c.deref_mut.ensures.len,
    ) in
    let long : end + count ≤ length written = omega (arith, few, length-take-le end buffer within) in (
      take count came,
      c.in-Ok.ensures.bytes,
      written_front (end + count) c.args.buffer.now.len written (drop (length written) c.args.buffer.now.items) fits long
          ∙ came_after end count buffer came rest within few ∙ ap (λ xs. take end xs ++ take count came) same,
      length-take-le count came few,
    )
