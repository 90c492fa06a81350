use Rattle.osm_mirror.proofs.run_laws.SourceLaws.{slice_opens}
use Rattle.osm_mirror.proofs.run.source.slice.Goals as goal

pub returns-clause-opened : goal.returns-clause-opened
returns-clause-opened g c =
    slice_opens g.R.Input.can_give c.args.file.end c.args.input c.args.file.reader c.args.span c.args.outside c.in_ok-within.within
    c.new.result
    c.in_ok-within.ensures.opened c.new.ensures
