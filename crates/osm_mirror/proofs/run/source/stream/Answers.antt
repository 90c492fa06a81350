use Rattle.osm_mirror.proofs.run_laws.SourceLaws.{stream_opens}
use Rattle.osm_mirror.proofs.run.source.stream.Goals as goal

pub returns-clause-opened : goal.returns-clause-opened
returns-clause-opened g c = stream_opens g.R.Input.can_give c.args.file.end c.args.input c.args.file.reader c.in_ok-source.source
    c.in_ok-source.ensures.opened
