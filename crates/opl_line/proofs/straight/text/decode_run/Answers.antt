use Rattle.std.proofs.Common.{arith, rules}
use Rattle.opl_line.proofs.StraightTextLaws.{run_more, shorter_by_one}
use Rattle.opl_line.proofs.straight.text.decode_run.Goals as goal

pub escapes-smaller : goal.escapes-smaller
escapes-smaller c = shorter_by_one c.escapes.rest.now c.in-Some.next.now c.in-Some.character c.in-Some.ensures.text

pub escapes-preserved : goal.escapes-preserved
escapes-preserved c =
    let less = shorter_by_one c.escapes.rest.now c.in-Some.next.now c.in-Some.character c.in-Some.ensures.text in
    record {
      run = run_more _ _ _ _ _ c.in-Some.character c.escapes.invariant.run c.in-Some.ensures.text c.in-Some.ensures.valid
          c.put_character-count.ensures.appended;
      within = omega (
        arith,
        c.put_character-count.ensures.few,
        c.put_character-count.ensures.size,
        c.escapes.invariant.size,
        c.escapes-test.true,
      );
      shorter = λ some. omega (arith, less, c.escapes.invariant.onward);
      onward = omega (arith, less, c.escapes.invariant.onward);
      size = search rules;
    }
