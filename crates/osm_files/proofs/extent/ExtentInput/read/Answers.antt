use Rattle.std.proofs.Common.{◌≡◌, ◌+◌, ◌-◌, ◌≤◌, ◌++◌, take, drop, length, arith, sym, ap, subst}
use Rattle.std.proofs.lemmas.List.{take-append-le, length-take-le, length-take}
use Rattle.osm_files.specs.Input.{with_front}
use Rattle.osm_files.specs.Extent.{ExtentCanGive}
use Rattle.osm_files.proofs.ExtentLaws.{gave_extent}
use Rattle.osm_files.proofs.extent.ExtentInput.read.Goals as goal

pub returns-in-Ok-clause-bytes : goal.returns-in-Ok-clause-bytes
returns-in-Ok-clause-bytes g c = λ later gives.
    let extent = c.args.self.now in
    let Fails = g.F.ReadAt.fails extent.file.now in
    let known = g.F.ReadAt.bytes extent.file.now in
    let count = c.in-Ok.count in
    let came = c.read_at.new.buffer in
    let few : count ≤ length came = omega (arith, c.in-Ok.ensures.within, c.read_at.auto.buffer) in
    let size : length (take count came) ≡ count = length-take-le count came few in
    let within : length (take count came) ≤ extent.end - extent.next =
    omega (
      arith,
      size,
      c.in-Ok.ensures.within,
      length-take c.min-most.result c.args.buffer.now,
      c.min-most.ensures,
      c.saturating_sub-left.ensures,
    ) in
    let same : take count (came ++ drop c.min-most.result c.args.buffer.now) ≡ take count came =
    take-append-le count came (drop c.min-most.result c.args.buffer.now) few in (
      with_front (take count came) later,
      gave_extent Fails known extent.next extent.end (take count came) later within c.in-Ok.ensures.bytes
          (subst (λ n. ExtentCanGive Fails known (extent.next + n) extent.end later) (sym size) gives),
      ap (λ xs. with_front xs later) (sym same),
    )
