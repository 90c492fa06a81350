use Rattle.std.proofs.Common.{List, ℕ, Option, Bor, inl, ap, length, subst, sym, ◌∙◌}
use Rattle.std.proofs.lemmas.List.{length-map}
use Rattle.std.proofs.lemmas.Result.{err_from_is_err_and, IfOk-weaker, IfErr-weaker}
use Rattle.osm_files.specs.Change.{change_of}
use Rattle.osm_files.specs.FileInput.{FramedCanGive, FileInputCanGive}
use Rattle.osm_merge.proofs.UnionLaws.{nothing_appended as at_first}
use Rattle.osm_mirror.specs.run.ShardExtent.{AreWaysWithin, opened_as_whole}
use Rattle.osm_mirror.proofs.run_laws.ExtentReadLaws.{read_within}
use Rattle.osm_mirror.proofs.run_laws.FilesJobLaws.{pairwise_length}
use Rattle.osm_mirror.proofs.run_laws.SpanJobLaws.{written_within, refused_within, nothing_cut}
use Rattle.osm_mirror.proofs.run.shard_job.write_span.Goals as goal

pub run_ways-requires : goal.run_ways-requires
run_ways-requires g c = record {
  same = ap length c.in_ok-opened.ensures.opened ∙ length-map c.args.files.now opened_as_whole
      ∙ pairwise_length _ c.args.files.now c.in_ok-ways.ways.items c.in_ok-ways.ensures.ways
      ∙ ap length (sym c.as_slice.ensures.value);
}

pub returns-in_err-ways-clause-refused : goal.returns-in_err-ways-clause-refused
returns-in_err-ways-clause-refused g c =
    let p = err_from_is_err_and c.from_residual.result c.from_residual.ensures.1 in
    rw (p.1, p.2) (nothing_cut (λ file. g.F.ReadAt.bytes file.now) (λ file. g.F.ReadAt.fails file.now)
    c.args.job.selection c.args.job.format (λ _. c.args.span) c.args.files.now
    (change_of g.W.Output c.args.out.now c.args.out.now) _ (at_first (g.W.Output.holds c.args.out.now))
    c.in_err-ways.ensures.refused)

pub returns-in_err-opened-clause-refused : goal.returns-in_err-opened-clause-refused
returns-in_err-opened-clause-refused g c =
    let p = err_from_is_err_and c.from_residual-in_err-opened.result c.from_residual-in_err-opened.ensures.1 in
    rw (p.1, p.2) (nothing_cut (λ file. g.F.ReadAt.bytes file.now) (λ file. g.F.ReadAt.fails file.now)
    c.args.job.selection c.args.job.format (λ _. c.args.span) c.args.files.now
    (change_of g.W.Output c.args.out.now c.args.out.now) _ (at_first (g.W.Output.holds c.args.out.now))
    (inl c.in_err-opened.ensures.memory))

pub returns-clause-written : goal.returns-clause-written
returns-clause-written g c =
    let fails = g.F.ReadAt.fails in
    let bytes = g.F.ReadAt.bytes in
    let can = FramedCanGive fails bytes in
    let files = c.args.files.now in
    let within = subst (AreWaysWithin bytes c.args.span files) (sym c.as_slice.ensures.value) c.in_ok-ways.ensures.ways in
    IfOk-weaker c.run_ways.result _ _
    (written_within fails bytes can (FileInputCanGive fails bytes can) c.args.span files c.as_slice.result.now within
    c.in_ok-opened.opened.items c.in_ok-opened.ensures.opened _ (change_of g.W.Output c.args.out.now c.run_ways.new.out))
    c.run_ways.ensures.written

pub returns-clause-read : goal.returns-clause-read
returns-clause-read g c =
    let fails = g.F.ReadAt.fails in
    let bytes = g.F.ReadAt.bytes in
    let can = FramedCanGive fails bytes in
    let files = c.args.files.now in
    let within = subst (AreWaysWithin bytes c.args.span files) (sym c.as_slice.ensures.value) c.in_ok-ways.ensures.ways in
    IfOk-weaker c.run_ways.result _ _
    (read_within fails bytes can (FileInputCanGive fails bytes can) c.args.span files c.as_slice.result.now within
    c.in_ok-opened.opened.items c.in_ok-opened.ensures.opened _ (change_of g.W.Output c.args.out.now c.run_ways.new.out))
    c.run_ways.ensures.written

pub returns-clause-refused : goal.returns-clause-refused
returns-clause-refused g c =
    let fails = g.F.ReadAt.fails in
    let bytes = g.F.ReadAt.bytes in
    let can = FramedCanGive fails bytes in
    let files = c.args.files.now in
    let within = subst (AreWaysWithin bytes c.args.span files) (sym c.as_slice.ensures.value) c.in_ok-ways.ensures.ways in
    IfErr-weaker c.run_ways.result _ _
    (refused_within fails bytes can (FileInputCanGive fails bytes can) c.args.span files c.as_slice.result.now within
    c.in_ok-opened.opened.items c.in_ok-opened.ensures.opened _ g.W.Output c.args.out.now c.run_ways.new.out)
    c.run_ways.ensures.refused
