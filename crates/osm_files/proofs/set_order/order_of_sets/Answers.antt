use Rattle.std.proofs.Common.{◌≡◌, ◌+◌, ◌≤◌, ◌∙◌, length, ap, sym, subst, arith}
use Rattle.osm_files.specs.ReadAt.{AreAt}
use Rattle.osm_files.proofs.SetOrderLaws.{sets_on, keyed_before}
use Rattle.osm_files.proofs.set_order.order_of_sets.Goals as goal

pub returns-in-Err : goal.returns-in-Err
returns-in-Err g c =
    let known = g.F.ReadAt.bytes c.args.file.now in
    let sets = c.windows.sets in
    let window = c.deref.result.now in
    let long : length window ≡ c.min-count.result = ap length c.deref.ensures.value ∙ c.in_ok-bytes.ensures.count in
    let fits : sets.end + length window ≤ c.args.end = omega (arith, long, c.min-count.ensures, c.windows-test.true) in
    record {
      order = keyed_before known c.args.start c.args.end c.in-Err.read
          (sets_on c.args.start c.args.end sets window fits known c.in-Err.read
          (subst (AreAt known sets.end) (sym c.deref.ensures.value) c.in_ok-bytes.ensures.bytes)
          c.windows.invariant.2 c.in-Err.ensures.read);
    }

pub windows-preserved : goal.windows-preserved
windows-preserved g c =
    let known = g.F.ReadAt.bytes c.args.file.now in
    let sets = c.windows.sets in
    let window = c.deref.result.now in
    let long : length window ≡ c.min-count.result = ap length c.deref.ensures.value ∙ c.in_ok-bytes.ensures.count in
    let fits : sets.end + length window ≤ c.args.end = omega (arith, long, c.min-count.ensures, c.windows-test.true) in (
      omega (arith, c.windows.invariant.0, c.in-Ok.ensures.within.0),
      omega (arith, c.in-Ok.ensures.within.1),
      sets_on c.args.start c.args.end sets window fits known c.in-Ok.read
          (subst (AreAt known sets.end) (sym c.deref.ensures.value) c.in_ok-bytes.ensures.bytes) c.windows.invariant.2
          c.in-Ok.ensures.read,
    )
