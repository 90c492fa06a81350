use Rattle.std.proofs.Common.{◌≡◌, ◌↔◌, ◌++◌, ◌∷◌, [], arith, inl, refl, ap, sym, subst, List, IsTrue, IfSome, Err, Some}
use Rattle.std.specs.List.Sorted.{IsSorted}
use Rattle.std.proofs.lemmas.Result.{err_from_is_err_and}
use Rattle.osm_model.specs.Data.{VersionData}
use Rattle.osm_model.specs.Order.{key_cmp}
use Rattle.osm_files.specs.Load.{format_of}
use Rattle.osm_files.specs.Position.{Position, KnownPosition, with_rest, rest_of_bytes, units_or_failed, KeepsRest, at_start_with}
use Rattle.osm_files.specs.Source.{SourceStep}
use Rattle.osm_files.specs.Stream.{Placed}
use Rattle.osm_files.proofs.LoadLaws.{LoadsOn, load_step, load_ends, load_stops, is_read, stops, stops_at_once, loads_begin}
use Rattle.osm_files.proofs.LoadLaws.{sorted_on}
use Rattle.osm_files.proofs.load.read_versions.Goals as goal

pub units-init : goal.units-init
units-init g c =
    rw c.requires.empty (record {
      loads = λ later k. (
          let z = c.in_ok-format.ensures.shown later k in
          let begins = ap (λ (v : Position _). with_rest v z.0) c.requires.begins in (
            z.0,
            subst (λ (v : Position _). g.R.Input.can_give v.rest z.0) c.requires.begins z.1,
            (
              loads_begin (at_start_with c.args.reading.now.end c.args.reading.now.input (Some z.0)) (with_rest c.format.new.self later)
                  (subst (λ (q : KnownPosition). KeepsRest q (with_rest c.format.new.self later)) begins z.2.0) refl,
              subst (λ (q : KnownPosition). IfSome (rest_of_bytes q) (λ x. c.in_ok-format.format ≡ format_of x.bytes)) begins z.2.1,
            ),
          ));
      sorted = (λ t k d from within. absurd (omega (arith, within)), λ s. refl);
    })

pub units-preserved : goal.units-preserved
units-preserved g c =
    let vs = c.units.versions.items in
    let u = c.in-Some.unit in
    let added : c.add.new.versions.items ≡ vs ++ u.version ∷ [] = c.in_ok-sorted.ensures.added in
    record {
      loads = λ later k. (
          let y = (rw c.in-Some.is at c.in_ok-unit.ensures.step) later k in
          let x = c.units.invariant.loads y.0 y.1 in
          let p = at_start_with c.args.reading.now.end c.args.reading.now.input (Some x.0) in
          let on = load_step (units_or_failed p) vs (units_or_failed (with_rest c.units.reading y.0))
          (units_or_failed (with_rest c.next.new.self later)) x.2.0 u y.2 in (
            x.0,
            x.1,
            (
              subst (λ (xs : List VersionData). LoadsOn (units_or_failed p) xs (units_or_failed (with_rest c.next.new.self later)))
                  (sym {A = List VersionData} added) on,
              x.2.1,
            ),
          ));
      sorted = subst (λ (x : List VersionData). IsTrue c.in_ok-sorted.sorted ↔ IsSorted key_cmp x) (sym {A = List VersionData} added)
          (sorted_on vs u.version c.units.sorted c.in_ok-sorted.sorted c.units.invariant.sorted c.in_ok-sorted.ensures.sorted);
    }

pub returns-in_default-clause-read : goal.returns-in_default-clause-read
returns-in_default-clause-read g c =
    let vs = c.units.versions.items in
    let later = g.R.Input.one c.next.new.self.rest in
    let y = (rw c.in_default.is at c.in_ok-unit.ensures.step) later (g.R.Input.possible c.next.new.self.rest) in
    let x = c.units.invariant.loads y.0 y.1 in
    let p = at_start_with c.args.reading.now.end c.args.reading.now.input (Some x.0) in
    let all = load_ends (units_or_failed p) vs (units_or_failed (with_rest c.units.reading y.0))
    (units_or_failed (with_rest c.next.new.self later)) x.2.0 y.2 in (
      x.0,
      x.1,
      is_read c.args.reading.now.end c.args.reading.now.input x.0 c.in_ok-format.format vs c.units.sorted x.2.1
          c.units.invariant.sorted all,
    )

pub returns-in_err-unit-clause-refused : goal.returns-in_err-unit-clause-refused
returns-in_err-unit-clause-refused g c =
    let later = g.R.Input.one c.next.new.self.rest in
    let y = c.in_err-unit.ensures.step later (g.R.Input.possible c.next.new.self.rest) in
    let x = c.units.invariant.loads y.0 y.1 in
    let p = at_start_with c.args.reading.now.end c.args.reading.now.input (Some x.0) in
    let e = err_from_is_err_and c.from_residual-in_err-unit.result c.from_residual-in_err-unit.ensures.1 in
    rw (e.1, e.2) ((
      x.0,
      x.1,
      stops c.args.reading.now.end c.args.reading.now.input x.0 c.in_err-unit.field-0.0
          (load_stops (units_or_failed p) c.units.versions.items (units_or_failed (with_rest c.units.reading y.0))
          (units_or_failed (with_rest c.next.new.self later)) x.2.0 c.in_err-unit.field-0.0 y.2),
    ))

pub returns-in_err-format-clause-refused : goal.returns-in_err-format-clause-refused
returns-in_err-format-clause-refused g c =
    let later = g.R.Input.one c.format.new.self.rest in
    let y = c.in_err-format.ensures.refused later (g.R.Input.possible c.format.new.self.rest) in
    let step = subst (λ (q : KnownPosition). SourceStep {A = Placed} (units_or_failed q) (Err c.in_err-format.field-0.0)
    (units_or_failed (with_rest c.format.new.self later))) (ap (λ v. with_rest v y.0) c.requires.begins) y.2 in
    let e = err_from_is_err_and c.from_residual.result c.from_residual.ensures.1 in
    rw (e.1, e.2) ((
      y.0,
      subst (λ (v : Position _). g.R.Input.can_give v.rest y.0) c.requires.begins y.1,
      stops c.args.reading.now.end c.args.reading.now.input y.0 c.in_err-format.field-0.0
          (stops_at_once (units_or_failed (at_start_with c.args.reading.now.end c.args.reading.now.input (Some y.0)))
          (units_or_failed (with_rest c.format.new.self later)) c.in_err-format.field-0.0 step),
    ))

-- memory ran out
pub returns-in_err-sorted-clause-refused : goal.returns-in_err-sorted-clause-refused
returns-in_err-sorted-clause-refused g c =
    let y = (rw c.in-Some.is at c.in_ok-unit.ensures.step) (g.R.Input.one c.next.new.self.rest)
    (g.R.Input.possible c.next.new.self.rest) in
    let x = c.units.invariant.loads y.0 y.1 in
    let e = err_from_is_err_and c.from_residual-in_err-sorted.result c.from_residual-in_err-sorted.ensures.1 in
    rw (e.1, e.2) ((x.0, x.1, inl c.in_err-sorted.ensures.memory))
