use Rattle.std.proofs.Common.{◌≡◌, length, drop, arith}
use Rattle.std.proofs.lemmas.List.{length-take}
use Rattle.osm_files.proofs.ExtentLaws.{slice_at}
use Rattle.osm_files.proofs.read_at.RefSliceU8ReadAt.read_at.Goals as goal

pub returns-clause-bytes : goal.returns-clause-bytes
returns-clause-bytes c =
    let all = c.args.self.now.now in
    let count = c.min-count.result in
    let size : length c.copy_from_slice.new.self ≡ count =
    omega (arith, c.copy_from_slice.ensures.len, length-take count c.args.buffer.now, c.min-count.ensures) in
    slice_at all c.copy_from_slice.new.self (drop count c.args.buffer.now) c.args.offset c.min-start.result count c.min-start.ensures
    c.copy_from_slice.ensures.after size
