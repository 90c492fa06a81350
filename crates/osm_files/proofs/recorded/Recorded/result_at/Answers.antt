use Rattle.std.proofs.Common.{◌≡◌, ℕ, ◌+◌, List, ◌++◌, take, drop, length, length-append, suc, ap, subst, arith, ◌∙◌}
use Rattle.osm_files.specs.Recorded.{ReadResult, HasFailure, all_bytes}
use Rattle.osm_files.proofs.RecordedLaws.{IsAtFront, found_in, found_later, failed_at, one_more, none_more}
use Rattle.osm_files.proofs.recorded.Recorded.result_at.Goals as goal
use Rattle.osm_files.proofs.recorded.Recorded.result_at.Goals.{in-Err+else-left-eq0, in-Ok+else-left-size}

pub returns-then-offset-begun : goal.returns-then-offset-begun
returns-then-offset-begun c =
    let all : List ℕ = all_bytes c.args.self.now.results in
    let begun : List ℕ = c.self.inside.front.now in
    subst (λ (front : List ℕ). IsAtFront begun c.args.offset (drop c.args.offset (front ++ all))) (ap (λ v. v.front) c.self.view_is)
    (found_in c.args.offset begun all c.if-offset-begun.true)

pub returns-in-Err : goal.returns-in-Err
returns-in-Err c =
    subst HasFailure c.rest-result-items.ensures
    (failed_at c.rest-result-items.result.now c.results.result-index _ c.in-Err.field-0 c.results-test.true c.in-Err.is)

pub returns-then-left-size : goal.returns-then-left-size
returns-then-left-size c =
    subst (λ (results : List ReadResult).
    IsAtFront c.in-Ok.bytes.now c.results.left (drop c.args.offset (c.args.self.now.front ++ all_bytes results)))
    c.rest-result-items.ensures
    (found_later c.args.offset c.results.left c.results.result-index c.args.self.now.front c.rest-result-items.result.now _ c.in-Ok.bytes
    c.results-test.true c.in-Ok.is c.results.invariant c.if-left-size.true)

pub results-preserved : goal.results-preserved
results-preserved c =
    let items : List ReadResult = c.rest-result-items.result.now in
    let index : ℕ = c.results.result-index in
    let next : index + 1 ≡ suc index = omega arith in
    elim c.match-result.branch [
      | in-Err+else-left-eq0 w ↦ (
          let same = none_more items index _ w.in-Err.field-0 c.results-test.true w.in-Err.is in
          let bytes = ap (λ n. length (all_bytes (take n items))) next ∙ ap length same in
          omega (arith, c.results.invariant, bytes, w.left-is))
      | in-Ok+else-left-size w ↦ (
          let more = one_more items index _ w.in-Ok.bytes c.results-test.true w.in-Ok.is in
          let bytes = ap (λ n. length (all_bytes (take n items))) next ∙ ap length more in
          let before : List ℕ = all_bytes (take index items) in
          omega (arith, c.results.invariant, bytes, w.left-is, w.if-left-size.false, length-append before w.in-Ok.bytes.now))
    ]
