use Rattle.std.proofs.Common.{◌≡◌, ◌<◌, ◌≤◌, ◌+◌, ◌-◌, ◌∙◌, sym, arith, rules, length, refl}
use Rattle.std.proofs.lemmas.List.{take_more_set}
use Rattle.o5_codec.specs.Shortest.{shortest_number}
use Rattle.o5_codec.proofs.ShortestSteps.{write_more, write_last, write_early}
use Rattle.o5_codec.proofs.write.block.Block.append_long_number.Goals as goal

pub loop-rest-init : goal.loop-rest-init
unfolding shortest_number
loop-rest-init c = record {
  after = omega arith;
  near = omega arith;
  written = record {
    below = (let none : c.args.self.now.end - c.args.self.now.end ≡ 0 = omega arith in rw none (omega arith));
    left = λ more e. (let m : more ≡ 9 = omega arith in rw m refl);
  };
}

pub loop-rest-preserved : goal.loop-rest-preserved
loop-rest-preserved c =
    let start = c.args.self.now.end in
    let inside : c.loop-rest.end < length c.loop-rest.self.bytes = search rules in
    let few : c.loop-rest.end - start ≤ 9 = omega (arith, c.loop-rest.invariant.near) in
    let early = write_early _ _ _ _ _ c.loop-rest.invariant.written few c.ranges.number.fits c.loop-rest-test.true in
    let next : c.loop-rest.end - start + 1 ≡ c.loop-rest.end + 1 - start = omega (arith, c.loop-rest.invariant.after) in
    record {
      after = omega (arith, c.loop-rest.invariant.after);
      near = omega (arith, c.loop-rest.invariant.after, early);
      written = rw (take_more_set c.loop-rest.self.bytes c.loop-rest.end _ inside)
          (rw next at (write_more _ _ _ _ _ c.loop-rest.invariant.written early c.loop-rest-test.true));
    }

pub returns : goal.returns
returns c =
    let inside : c.loop-rest.end < length c.loop-rest.self.bytes = search rules in
    let few : c.loop-rest.end - c.args.self.now.end ≤ 9 = omega (arith, c.loop-rest.invariant.near) in
    take_more_set c.loop-rest.self.bytes c.loop-rest.end c.loop-rest.rest inside
    ∙ sym (write_last _ _ _ _ _ c.loop-rest.invariant.written few c.loop-rest-test.false)
