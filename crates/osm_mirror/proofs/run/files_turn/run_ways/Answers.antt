use Rattle.std.proofs.Common.{inl, inr, refl}
use Rattle.std.proofs.lemmas.Result.{err_from_is_err_and}
use Rattle.osm_mirror.proofs.run.files_turn.run_ways.Goals as goal

pub returns-in_err-inputs-clause-refused : goal.returns-in_err-inputs-clause-refused
returns-in_err-inputs-clause-refused g c =
    let p = err_from_is_err_and c.from_residual.result c.from_residual.ensures.1 in
    rw (p.1, p.2) (inl (c.in_err-inputs.ensures.memory, refl))

pub returns-in-Ok-clause-written : goal.returns-in-Ok-clause-written
returns-in-Ok-clause-written g c = record {
  inputs = c.in_ok-inputs.inputs.items;
  opens = c.in_ok-inputs.ensures.opened;
  done = c.in-Ok.ensures.written;
}

pub returns-in-Err-clause-refused : goal.returns-in-Err-clause-refused
returns-in-Err-clause-refused g c = inr (record {
  inputs = c.in_ok-inputs.inputs.items;
  opens = c.in_ok-inputs.ensures.opened;
  found = c.in-Err.fault;
  small = c.fault_of_file.ensures.place;
  fault_is = c.fault_of_file.ensures.same;
  refused = c.in-Err.ensures.refused;
})
