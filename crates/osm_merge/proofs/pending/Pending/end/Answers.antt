use Rattle.std.proofs.Common.{◌++◌}
use Rattle.std.proofs.lemmas.Result.{err_from_is_err_and}
use Rattle.osm_files.specs.Change.{change_of}
use Rattle.osm_files.specs.Spell.{open_file_bytes, file_end}
use Rattle.osm_files.proofs.SinkLaws.{cut_in, end_ok, end_err}
use Rattle.osm_merge.specs.Pass.{put_at_end}
use Rattle.osm_merge.proofs.pending.Pending.end.Goals as goal

pub returns-in_err-put_decided-clause-file : goal.returns-in_err-put_decided-clause-file
returns-in_err-put_decided-clause-file g c =
    let more = put_at_end c.args.self.now.selection c.args.self.now.last in
    let p = err_from_is_err_and c.from_residual.result c.from_residual.ensures.1 in
    rw (p.1, p.2) (λ format number put before has.
    cut_in number (change_of g.W.Output before c.put_decided.new.out)
    (open_file_bytes format (put ++ more)) (file_end format) c.in_err-put_decided.field-0.0
    (c.in_err-put_decided.ensures.puts format number put before has))

pub returns-clause-file : goal.returns-clause-file
returns-clause-file g c = λ format number put before has.
    let more = put_at_end c.args.self.now.selection c.args.self.now.last in
    end_ok format number g.W.Output (put ++ more) before c.put_decided.new.out c.put_decided.new.sink
    (c.in_ok-put_decided.ensures.puts format number put before has)
    c.end.new.self c.end.new.out c.in_ok-end.ensures.calls

pub returns-in_err-end-clause-file : goal.returns-in_err-end-clause-file
returns-in_err-end-clause-file g c =
    let more = put_at_end c.args.self.now.selection c.args.self.now.last in
    let p = err_from_is_err_and c.from_residual-in_err-end.result c.from_residual-in_err-end.ensures.1 in
    rw (p.1, p.2) (λ format number put before has.
    end_err format number g.W.Output (put ++ more) before c.put_decided.new.out c.put_decided.new.sink
    (c.in_ok-put_decided.ensures.puts format number put before has)
    c.end.new.self c.end.new.out c.in_err-end.field-0.0 c.in_err-end.ensures.calls)
