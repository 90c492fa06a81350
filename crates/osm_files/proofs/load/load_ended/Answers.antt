use Rattle.std.proofs.Common.{inl, subst}
use Rattle.std.proofs.lemmas.Result.{IfOk-weaker, IfErr-weaker}
use Rattle.osm_files.specs.EndRule.{by_rule, by_test}
use Rattle.osm_files.specs.Input.{InputRest, GivesOne}
use Rattle.osm_files.specs.Load.{IsRead, StopsLoading}
use Rattle.osm_files.specs.Position.{Position}
use Rattle.osm_files.proofs.EndedLaws.{rest_by_rule}
use Rattle.osm_files.proofs.LoadLaws.{loads}
use Rattle.osm_files.proofs.load.load_ended.Goals as goal

pub returns-in-Ok-clause-loaded : goal.returns-in-Ok-clause-loaded
returns-in-Ok-clause-loaded g c =
    let vs = c.read_versions-read.new.versions.items in
    let x = subst (λ (p : Position _). GivesOne (g.R.Input.can_give p.rest)
    (λ d. IsRead p.input (by_test p.end d) vs c.in-Ok.format c.in-Ok.sorted))
    c.new-reading.ensures c.in-Ok.ensures.read in
    let read = subst (λ (d : InputRest). IsRead c.args.input d vs c.in-Ok.format c.in-Ok.sorted) (rest_by_rule c.args.end x.0) x.2 in
    IfOk-weaker c.gathered.result _ _
    (λ loaded e. (x.0, x.1, loads c.args.input (by_rule c.args.end x.0) c.in-Ok.format vs c.in-Ok.sorted loaded read e))
    c.gathered.ensures.loaded

-- memory ran out
pub returns-in-Ok-clause-refused : goal.returns-in-Ok-clause-refused
returns-in-Ok-clause-refused g c =
    let one = g.R.Input.one c.args.reader in
    IfErr-weaker c.gathered.result _ _ (λ fault e. (one, g.R.Input.possible c.args.reader, inl e)) c.gathered.ensures.memory

pub returns-in-Err-clause-refused : goal.returns-in-Err-clause-refused
returns-in-Err-clause-refused g c =
    let x = subst (λ (p : Position _). GivesOne (g.R.Input.can_give p.rest) (λ d. StopsLoading p.input (by_test p.end d) c.in-Err.fault))
    c.new-reading.ensures c.in-Err.ensures.refused in
    (x.0, x.1, subst (λ (d : InputRest). StopsLoading c.args.input d c.in-Err.fault) (rest_by_rule c.args.end x.0) x.2)
