use Rattle.std.proofs.Common.{◌≡◌, ℕ, ◌+◌, ◌-◌, ◌≤◌, true, nat_eq, length, refl, sym, ap, ◌∙◌, subst, arith}
use Rattle.std.proofs.lemmas.Bool.{eqb-true}
use Rattle.std.proofs.lemmas.Result.{err_from_is_err_and}
use Rattle.osm_files.specs.declared.key_order.RisingLines.{RisingLines}
use Rattle.osm_files.specs.ReadAt.{AreAt}
use Rattle.osm_files.proofs.KeyOrderLaws.{RisesTo, RisesIn, nothing_between, window_rises, window_stops, all_risen}
use Rattle.osm_files.proofs.LongLineLaws.{past_comment, past_nothing}
use Rattle.osm_files.proofs.OpenLaws.{known_has}
use Rattle.osm_files.proofs.key_order.first_falling.Goals as goal
use Rattle.osm_files.proofs.key_order.first_falling.Goals.{then-read-lines, in-Ok-2+in_ok-next-in-Ok-2+in-Some}
use Rattle.osm_files.proofs.key_order.first_falling.Goals.{in-Ok-2+in_ok-next-in-Ok-2+in-None}

pub windows-init : goal.windows-init
windows-init g c = (
  omega arith,
  omega arith,
  omega arith,
  known_has (g.F.ReadAt.bytes c.args.file.now) (λ all. c.args.end ≤ length all → RisesTo all c.args.start c.args.end _)
      (λ all. nothing_between all c.args.start c.args.end _ refl),
)

pub windows-preserved : goal.windows-preserved
windows-preserved g c =
    let known = g.F.ReadAt.bytes c.args.file.now in
    let Fails = g.F.ReadAt.fails c.args.file.now in
    let start = c.args.start in
    let end = c.args.end in
    let lines = c.windows.lines in
    let left : ℕ = end - lines.end in
    let count : ℕ = c.min-count.result in
    let less = c.windows-test.true in
    let after_start = c.windows.invariant.0 in
    let risen = c.windows.invariant.3 in
    elim c.if-read-lines.branch [
      | then-read-lines w ↦ (
          let read = c.in-Ok.read in
          let window = c.deref.result.now in
          let long : length window ≡ count = ap length c.deref.ensures.value ∙ c.in_ok-bytes.ensures.count in
          let fits : lines.end + length window ≤ end = omega (arith, long, c.min-count.ensures, less) in
          let all_there : nat_eq count left ≡ true → lines.end + length window ≡ end =
          λ last. (let e = eqb-true count left last in omega (arith, long, e, less)) in
          let within = c.in-Ok.ensures.within in (
            omega (arith, ap (λ l. l.end) w.lines-is, within.0, after_start),
            omega (arith, ap (λ l. l.end) w.lines-is, within.1, fits),
            omega (arith, w.window-is, c.windows.invariant.2),
            subst (λ (now : RisingLines). RisesIn known start end now) (sym w.lines-is)
                (window_rises start end lines window (nat_eq count left) after_start less fits all_there known read
                c.in-Ok.ensures.last within (subst (AreAt known lines.end) (sym c.deref.ensures.value) c.in_ok-bytes.ensures.bytes)
                risen c.in-Ok.ensures.read),
          ))
      | in-Ok-2+in_ok-next-in-Ok-2+in-Some w ↦ (
          let next = w.in-Some.next in
          let window = w.deref-in-Ok-2.result.now in
          let onward = rw w.in-Some.is at w.in_ok-next-in-Ok-2.ensures.onward in (
            omega (arith, ap (λ l. l.end) w.lines-is, onward.0, after_start),
            omega (arith, ap (λ l. l.end) w.lines-is, onward.1),
            omega (arith, w.window-is, c.windows.invariant.2),
            past_comment Fails start end lines window after_start less known next c.if-read-lines.lines w.lines-is
                (omega (arith, onward.0))
                (subst (AreAt known lines.end) (sym w.deref-in-Ok-2.ensures.value) c.in_ok-bytes.ensures.bytes) risen
                (rw w.in-Some.is at w.in_ok-next-in-Ok-2.ensures.passed),
          ))
      | in-Ok-2+in_ok-next-in-Ok-2+in-None w ↦ (
        omega (arith, ap (λ l. l.end) w.lines-is, after_start),
        omega (arith, ap (λ l. l.end) w.lines-is, c.windows.invariant.1),
        omega (arith, w.window-is, w.saturating_mul-window.ensures, c.windows.invariant.2),
        subst (λ (now : RisingLines). RisesIn known start end now) (sym w.lines-is) risen,
      )
    ]

pub returns-in_err-next-in-Ok-2 : goal.returns-in_err-next-in-Ok-2
returns-in_err-next-in-Ok-2 g c =
    let known = g.F.ReadAt.bytes c.args.file.now in
    let Fails = g.F.ReadAt.fails c.args.file.now in
    let lines = c.windows.lines in
    let window = c.deref-in-Ok-2.result.now in
    let less = c.windows-test.true in
    let long : length window ≡ c.min-count.result = ap length c.deref-in-Ok-2.ensures.value ∙ c.in_ok-bytes.ensures.count in
    let p = err_from_is_err_and c.from_residual-in_err-next-in-Ok-2.result c.from_residual-in_err-next-in-Ok-2.ensures.1 in
    record {
      order = rw (p.1, p.2) (past_nothing Fails c.args.start c.args.end lines window c.windows.invariant.0 less known
          c.in_err-next-in-Ok-2.field-0.0 (omega (arith, long, c.min-count.ensures, less))
          (subst (AreAt known lines.end) (sym c.deref-in-Ok-2.ensures.value) c.in_ok-bytes.ensures.bytes) c.windows.invariant.3
          c.in_err-next-in-Ok-2.ensures.passed);
    }

pub returns-in-Err : goal.returns-in-Err
returns-in-Err g c =
    let known = g.F.ReadAt.bytes c.args.file.now in
    let Fails = g.F.ReadAt.fails c.args.file.now in
    let lines = c.windows.lines in
    let window = c.deref.result.now in
    let left : ℕ = c.args.end - lines.end in
    let count : ℕ = c.min-count.result in
    let less = c.windows-test.true in
    let long : length window ≡ count = ap length c.deref.ensures.value ∙ c.in_ok-bytes.ensures.count in
    let fits : lines.end + length window ≤ c.args.end = omega (arith, long, c.min-count.ensures, less) in
    let all_there : nat_eq count left ≡ true → lines.end + length window ≡ c.args.end =
    λ last. (let e = eqb-true count left last in omega (arith, long, e, less)) in
    record {
      order = rw c.outcome.ensures (window_stops c.args.start c.args.end lines window (nat_eq count left) c.windows.invariant.0 less fits
          all_there Fails known c.in-Err.stop (subst (AreAt known lines.end) (sym c.deref.ensures.value) c.in_ok-bytes.ensures.bytes)
          c.windows.invariant.3 c.in-Err.ensures.read);
    }

pub returns : goal.returns
returns g c =
    record {
      order = all_risen (g.F.ReadAt.bytes c.args.file.now) c.args.start c.args.end c.windows.lines
          (omega (arith, c.windows.invariant.0, c.windows.invariant.1, c.windows-test.false)) c.windows.invariant.3;
    }
