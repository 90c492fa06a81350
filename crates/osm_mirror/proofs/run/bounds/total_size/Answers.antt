use Rattle.std.proofs.Common.{◌+◌, List, ℕ, Option, take, Bor, arith, sym, ap, subst, inl, inr, refl}
use Rattle.std.proofs.lemmas.List.{take_all}
use Rattle.osm_files.proofs.SinkLaws.{front_at}
use Rattle.osm_mirror.specs.run.Probes.{HaveBytes, IsTotal}
use Rattle.osm_mirror.proofs.run_laws.ProbeLaws.{total_more, total_long}
use Rattle.osm_mirror.proofs.run_laws.SpanJobLaws.{one_refused, numbered_refusal}
use Rattle.osm_mirror.proofs.run_laws.WayLaws.{get_slice}
use Rattle.osm_mirror.specs.run.ShardRefusal.{IsFileRefusal}
use Rattle.osm_mirror.proofs.run.bounds.total_size.Goals as goal

pub files-preserved : goal.files-preserved
files-preserved g c =
    let known : Bor g.row.F.Denot → Option (List ℕ) = λ file. g.F.ReadAt.bytes file.now in
    let files = c.args.files.now in
    let file = c.index-files-input.result in
    let size = c.in-Ok.size in
    let more = front_at files c.files.input file (omega (arith, c.files-test.true)) c.index-files-input.is in (
      omega (arith, c.if-size-total.false, c.files.invariant.0),
      subst (λ fs. IsTotal known fs (c.files.total + c.unwrap_or-size.result)) (sym more)
          (total_more known (take c.files.input files) file c.files.total (c.files.total + c.unwrap_or-size.result) size
          c.files.invariant.1 c.in-Ok.ensures.size (ap (λ n. c.files.total + n) c.unwrap_or-size.ensures)),
    )

pub returns-clause-total : goal.returns-clause-total
returns-clause-total g c all have =
    let known : Bor g.row.F.Denot → Option (List ℕ) = λ file. g.F.ReadAt.bytes file.now in
    let files = c.args.files.now in
    let whole = take_all c.files.input files (omega (arith, c.files-test.false)) in
    c.files.invariant.1 all (subst (λ fs. HaveBytes known fs all) (sym whole) have)

pub returns-in-Err-clause-refused : goal.returns-in-Err-clause-refused
returns-in-Err-clause-refused g c =
    let known : Bor g.row.F.Denot → Option (List ℕ) = λ file. g.F.ReadAt.bytes file.now in
    let fails : Bor g.row.F.Denot → Type 0 = λ file. g.F.ReadAt.fails file.now in
    let files = c.args.files.now in
    let file = c.index-files-input.result in
    let at = get_slice files c.files.input file (omega (arith, c.files-test.true)) c.index-files-input.is in
    rw c.of_input.ensures (one_refused known fails IsFileRefusal files c.files.input file c.in-Err.fault at
    (numbered_refusal (fails file) (known file) c.files.input c.in-Err.fault (inl c.in-Err.ensures.refused)))

pub returns-then-size-total-clause-refused : goal.returns-then-size-total-clause-refused
returns-then-size-total-clause-refused g c =
    let known : Bor g.row.F.Denot → Option (List ℕ) = λ file. g.F.ReadAt.bytes file.now in
    let files = c.args.files.now in
    let file = c.index-files-input.result in
    let long = c.unwrap_or-size.ensures in
    rw c.too_long.ensures (inr (inr (
      refl,
      total_long known files c.files.input c.files.total file c.in-Ok.size (omega (arith, c.files-test.true))
          c.index-files-input.is c.files.invariant.0 c.files.invariant.1 c.in-Ok.ensures.size
          (omega (arith, c.if-size-total.true, long)),
    )))
