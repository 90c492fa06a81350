use Rattle.std.proofs.Common.{◌≡◌, ◌-◌, ◌≤◌, ◌++◌, subst, arith, length, take, to_z, of_z, w64, rules}
use Rattle.std.proofs.lemmas.List.{take_rest}
use Rattle.osm_files.specs.SetKey.{IsPartOf}
use Rattle.osm_files.proofs.SetOrderLaws.{continues_on}
use Rattle.osm_files.proofs.set_order.read_sets.Goals as goal

pub parts-preserved : goal.parts-preserved
parts-preserved c =
    let part = c.in-Some.part in
    let base : to_z w64 (of_z w64 c.parts.read.base) ≡ c.parts.read.base = search rules in
    let and = c.in-Some-and.ensures in (
      omega (arith, c.parts.invariant.0, and.end),
      omega (arith, c.parts.invariant.1, and.end, c.in-Some.ensures.within),
      λ rest all. continues_on c.args.window.now rest c.args.sets c.parts.read c.in-Some-and.next part c.args.end all c.parts-test.true
          c.in-Some.ensures.within (c.parts.invariant.2 rest all)
          (subst (λ xs. part.size ≤ length (xs ++ rest) → IsPartOf c.parts.read.base part (take part.size (xs ++ rest)))
          (take_rest c.args.window.now (c.parts.read.end - c.args.sets.end)) (rw base at (c.in-Some.ensures.part rest))) and,
    )
