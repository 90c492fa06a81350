use Rattle.std.proofs.Common.{List, [], ◌++◌, ap, subst, ◌∙◌, cond}
use Rattle.osm_model.specs.Data.{VersionData}
use Rattle.osm_files.specs.Change.{change_of}
use Rattle.osm_files.specs.Sink.{HasPut}
use Rattle.osm_merge.specs.Pass.{put_at}
use Rattle.osm_merge.proofs.pending.Pending.meet.Goals as goal

pub returns-clause-puts : goal.returns-clause-puts
returns-clause-puts g c = λ format number put before has.
    let selection = c.args.self.now.selection in
    let last = c.args.self.now.last in
    subst (λ (more : List VersionData). HasPut format number (put ++ more) (change_of g.W.Output before c.put_decided.new.out)
    c.put_decided.new.sink)
    (ap (put_at selection last) c.version-2.ensures
    ∙ ap (λ b. cond b (put_at selection last c.args.version) []) c.if-not-is_met.ensures.met)
    (c.in_ok-put_decided.ensures.puts format number put before has)
