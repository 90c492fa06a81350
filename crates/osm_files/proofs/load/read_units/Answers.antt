use Rattle.std.proofs.Common.{◌++◌, ◌∷◌, [], Some}
use Rattle.std.proofs.lemmas.Result.{err_from_is_err_and}
use Rattle.osm_files.specs.Position.{with_rest, units_or_failed, at_start_with}
use Rattle.osm_files.proofs.LoadLaws.{load_step, load_ends, load_stops, loads_itself, accepted, stops}
use Rattle.osm_files.proofs.load.read_units.Goals as goal

pub units-init : goal.units-init
units-init g c = λ later k. (
  later,
  k,
  (
    [],
    rw c.requires.begins
        (loads_itself (units_or_failed (at_start_with c.args.reading.now.end c.args.reading.now.input (Some later)))),
  ),
)

pub units-preserved : goal.units-preserved
units-preserved g c = λ later k. (
    let y = (rw c.in-Some.is at c.in_ok-unit.ensures.step) later k in
    let x = c.units.invariant y.0 y.1 in
    let p = at_start_with c.args.reading.now.end c.args.reading.now.input (Some x.0) in (
      x.0,
      x.1,
      (
        x.2.0 ++ (c.in-Some.unit).version ∷ [],
        load_step (units_or_failed p) x.2.0 (units_or_failed (with_rest c.units.reading y.0))
            (units_or_failed (with_rest c.next.new.self later)) x.2.1 c.in-Some.unit y.2,
      ),
    ))

pub returns-in_default-clause-whole : goal.returns-in_default-clause-whole
returns-in_default-clause-whole g c =
    let later = g.R.Input.one c.next.new.self.rest in
    let y = (rw c.in_default.is at c.in_ok-unit.ensures.step) later (g.R.Input.possible c.next.new.self.rest) in
    let x = c.units.invariant y.0 y.1 in
    let p = at_start_with c.args.reading.now.end c.args.reading.now.input (Some x.0) in (
      x.0,
      x.1,
      accepted c.args.reading.now.end c.args.reading.now.input x.0 x.2.0
          (load_ends (units_or_failed p) x.2.0 (units_or_failed (with_rest c.units.reading y.0))
          (units_or_failed (with_rest c.next.new.self later)) x.2.1 y.2),
    )

pub returns-in_err-unit-clause-refused : goal.returns-in_err-unit-clause-refused
returns-in_err-unit-clause-refused g c =
    let later = g.R.Input.one c.next.new.self.rest in
    let y = c.in_err-unit.ensures.step later (g.R.Input.possible c.next.new.self.rest) in
    let x = c.units.invariant y.0 y.1 in
    let p = at_start_with c.args.reading.now.end c.args.reading.now.input (Some x.0) in
    let e = err_from_is_err_and c.from_residual.result c.from_residual.ensures.1 in
    rw (e.1, e.2) ((
      x.0,
      x.1,
      stops c.args.reading.now.end c.args.reading.now.input x.0 c.in_err-unit.field-0.0
          (load_stops (units_or_failed p) x.2.0 (units_or_failed (with_rest c.units.reading y.0))
          (units_or_failed (with_rest c.next.new.self later)) x.2.1 c.in_err-unit.field-0.0 y.2),
    ))
