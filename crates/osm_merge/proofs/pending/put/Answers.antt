use Rattle.std.proofs.Common.{[], ◌∷◌, Result}
use Rattle.osm_model.specs.Data.{VersionData}
use Rattle.osm_files.specs.declared.fault.Fault.{Fault}
use Rattle.osm_files.specs.declared.output.Output.{Ghosts}
use Rattle.osm_files.specs.Change.{change_of}
use Rattle.osm_files.specs.Spell.{version_bytes}
use Rattle.osm_files.specs.Sink.{SinkState, Calls, after_put}
use Rattle.osm_files.proofs.SinkLaws.{calls_spelled}
use Rattle.osm_merge.specs.Put.{PutsMore}
use Rattle.osm_merge.proofs.pending.put.Goals as goal

-- a call of the sink puts the version
one_more : {O : Type 0} (output : Ghosts O) (v : VersionData) (old new : SinkState) (mid now : O) (result : Result (Unit {0}) Fault)
    → Calls old new (after_put v) (change_of output mid now) (version_bytes old.format old.encoder v) result
    → PutsMore output (v ∷ []) old new mid now result
one_more output v old new mid now result calls = λ format number put before has.
    (calls_spelled output).put format number put v old new before mid now result has calls

pub returns-then-is_ok-clause-puts : goal.returns-then-is_ok-clause-puts
returns-then-is_ok-clause-puts g c =
    one_more g.W.Output c.args.version.now c.args.sink.now c.put-put.new.self c.args.out.now c.put-put.new.out c.put-put.result
    c.put-put.ensures.calls

pub returns-else-is_ok-clause-puts : goal.returns-else-is_ok-clause-puts
returns-else-is_ok-clause-puts g c =
    one_more g.W.Output c.args.version.now c.args.sink.now c.put-put.new.self c.args.out.now c.put-put.new.out c.put-put.result
    c.put-put.ensures.calls
