use Rattle.std.proofs.Common.{◌≡◌, inr, ℕ, suc, ◌+◌, List, ◌++◌, take, length, length-append, ap, arith, ◌∙◌}
use Rattle.osm_files.specs.Recorded.{ReadResult, all_bytes}
use Rattle.osm_files.proofs.RecordedLaws.{parted, one_more, none_more}
use Rattle.osm_files.proofs.recorded.RecordedReadAt.size.Goals as goal
use Rattle.osm_files.proofs.recorded.RecordedReadAt.size.Goals.{in-Ok+else-more-size, in-Err}

pub returns-then-more-size-clause-broken : goal.returns-then-more-size-clause-broken
returns-then-more-size-clause-broken c =
    let items : List ReadResult = c.rest-result-items.result.now in
    let split = parted items c.results.result-index _ c.in-Ok.bytes c.results-test.true c.in-Ok.is in
    let before : List ℕ = all_bytes (take c.results.result-index items) in
    let all = ap (λ (results : List ReadResult). length (all_bytes results)) c.rest-result-items.ensures in
    inr (omega (
      arith,
      c.results.invariant,
      c.if-more-size.true,
      ap length split.1,
      all,
      length-append before (c.in-Ok.bytes.now ++ split.0),
      length-append c.in-Ok.bytes.now split.0,
      length-append c.args.self.now.front (all_bytes c.args.self.now.results),
    ))

pub results-preserved : goal.results-preserved
results-preserved c =
    let items : List ReadResult = c.rest-result-items.result.now in
    let index : ℕ = c.results.result-index in
    let next : index + 1 ≡ suc index = omega arith in
    elim c.match-result.branch [
      | in-Err w ↦ (
          let same = none_more items index _ w.in-Err.field-0 c.results-test.true w.in-Err.is in
          let bytes = ap (λ n. length (all_bytes (take n items))) next ∙ ap length same in
          omega (arith, c.results.invariant, bytes, w.size-is))
      | in-Ok+else-more-size w ↦ (
          let more = one_more items index _ w.in-Ok.bytes c.results-test.true w.in-Ok.is in
          let bytes = ap (λ n. length (all_bytes (take n items))) next ∙ ap length more in
          let before : List ℕ = all_bytes (take index items) in
          omega (arith, c.results.invariant, bytes, w.size-is, length-append before w.in-Ok.bytes.now))
    ]
