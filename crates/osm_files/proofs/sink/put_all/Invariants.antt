use Rattle.std.proofs.Common.{take}
use Rattle.osm_model.specs.Sets.{to_list}
use Rattle.osm_files.specs.Output.{FailingLasts}
use Rattle.osm_files.specs.Change.{change_of}
use Rattle.osm_files.specs.Sink.{HasPut}
use Rattle.osm_files.proofs.sink.put_all.Given as goal

abbrev pub invariant-puts : goal.invariant-puts
invariant-puts g l =
    let change = change_of g.W.Output l.fn.out l.out in
    HasPut l.fn.sink.format l.fn.sink.number (take l.index (to_list l.history)) change l.sink × FailingLasts change
