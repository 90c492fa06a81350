use Rattle.std.proofs.Common.{List, ℕ, Option, Bor, refl, subst}
use Rattle.osm_files.specs.Change.{change_of}
use Rattle.osm_merge.proofs.UnionLaws.{nothing_appended as at_first}
use Rattle.std.proofs.lemmas.Result.{err_from_is_err_and}
use Rattle.osm_merge.specs.declared.span.Span.{Span}
use Rattle.osm_mirror.specs.run.Bounds.{shard_span}
use Rattle.osm_mirror.specs.run.ShardsRead.{HasReadSpan}
use Rattle.osm_mirror.proofs.run_laws.FileEndLaws.{shard_ends_refused, shard_span_refused}
use Rattle.osm_mirror.proofs.run_laws.ShardJobLaws.{shard_is}
use Rattle.osm_mirror.proofs.run_laws.SpanJobLaws.{first_refuses, nothing_cut}
use Rattle.osm_mirror.proofs.run.shard_job.run_shard.Goals as goal

pub returns-in-Ok-write_span-clause-written : goal.returns-in-Ok-write_span-clause-written
returns-in-Ok-write_span-clause-written g c all held have holds =
    shard_is c.args.job all held c.in-Ok.span (c.in-Ok.ensures.span all have)
    (change_of g.W.Output c.args.out.now c.write_span.new.out) c.in-Ok-write_span.counts (c.in-Ok-write_span.ensures.written all held have
    holds)

pub returns-in-Ok-write_span-clause-read : goal.returns-in-Ok-write_span-clause-read
returns-in-Ok-write_span-clause-read g c all have = record {
  short = c.in-Ok.ensures.short all have;
  read = subst (λ (s : Option Span). HasReadSpan s all) (c.in-Ok.ensures.span all have) (c.in-Ok-write_span.ensures.read all have);
}

pub returns-in_err-refuse_cut_files-clause-refused : goal.returns-in_err-refuse_cut_files-clause-refused
returns-in_err-refuse_cut_files-clause-refused g c =
    let known : Bor g.row.F.Denot → Option (List ℕ) = λ file. g.F.ReadAt.bytes file.now in
    let fails : Bor g.row.F.Denot → Type 0 = λ file. g.F.ReadAt.fails file.now in
    let p = err_from_is_err_and c.from_residual.result c.from_residual.ensures.1 in
    rw (p.1, p.2)
    (shard_ends_refused known fails g.W.Output c.args.job c.args.files.now c.args.out.now c.in_err-refuse_cut_files.field-0.0
    c.in_err-refuse_cut_files.ensures.refused)

pub returns-in-Err-clause-refused : goal.returns-in-Err-clause-refused
returns-in-Err-clause-refused g c =
    let known : Bor g.row.F.Denot → Option (List ℕ) = λ file. g.F.ReadAt.bytes file.now in
    let fails : Bor g.row.F.Denot → Type 0 = λ file. g.F.ReadAt.fails file.now in
    let job = c.args.job in
    let span = shard_span job.shard.number job.shard.count in
    let change = change_of g.W.Output c.args.out.now c.args.out.now in
    shard_span_refused known fails g.W.Output job c.args.files.now c.args.out.now c.args.out.now _
    (first_refuses known fails job.end job.selection job.format span span c.args.files.now change c.in-Err.fault _
    (λ all held have holds. refl)
    c.first_fault.ensures.file c.first_fault.ensures.same
    (nothing_cut known fails job.selection job.format span c.args.files.now change c.in-Err.fault
    (at_first (g.W.Output.holds c.args.out.now)) c.in-Err.ensures.refused))

pub returns-in-Err-write_span-clause-refused : goal.returns-in-Err-write_span-clause-refused
returns-in-Err-write_span-clause-refused g c =
    let known : Bor g.row.F.Denot → Option (List ℕ) = λ file. g.F.ReadAt.bytes file.now in
    let fails : Bor g.row.F.Denot → Type 0 = λ file. g.F.ReadAt.fails file.now in
    let job = c.args.job in
    shard_span_refused known fails g.W.Output job c.args.files.now c.args.out.now c.write_span.new.out _
    (first_refuses known fails job.end job.selection job.format (λ _. c.in-Ok.span) (shard_span job.shard.number job.shard.count)
    c.args.files.now
    (change_of g.W.Output c.args.out.now c.write_span.new.out) c.in-Err-write_span.fault _
    (λ all held have holds. c.in-Ok.ensures.span all have)
    c.first_fault-in-Err-write_span.ensures.file c.first_fault-in-Err-write_span.ensures.same c.in-Err-write_span.ensures.refused)
