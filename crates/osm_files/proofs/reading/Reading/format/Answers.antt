use Rattle.std.proofs.Common.{◌≡◌, ◌∙◌, sym, ap, refl, false}
use Rattle.std.proofs.lemmas.Result.{err_from_is_err_and}
use Rattle.osm_files.specs.Load.{determines_format}
use Rattle.osm_files.proofs.ReaderLaws.{has_read, read_further, format_stops}
use Rattle.osm_files.proofs.reading.Reading.format.Goals as goal

pub reads-init : goal.reads-init
reads-init g c = record { input = refl; on = has_read g.R.Input.can_give c.args.self.now }

pub reads-preserved : goal.reads-preserved
reads-preserved g c = record {
  input = c.fill.ensures.input ∙ c.reads.invariant.input;
  on = read_further g.R.Input.can_give c.args.self.now c.reads.self c.fill.new.self c.reads.invariant.on c.in_ok-fill.ensures.on;
}

pub returns-in_err-fill-clause-refused : goal.returns-in_err-fill-clause-refused
returns-in_err-fill-clause-refused g c =
    let e = err_from_is_err_and c.from_residual.result c.from_residual.ensures.1 in
    let m = c.reads.self in
    let held = c.as_slice-held.ensures ∙ ap (λ v. v.held) c.self.view_is in
    let untold : determines_format m.held ≡ false = ap determines_format (sym held) ∙ sym c.determines_format.ensures
    ∙ c.if-determines_format.false in
    rw (e.1, e.2) (format_stops g.R.Input.can_give c.args.self.now m c.fill.new.self c.reads.invariant.on c.requires.at_first
    c.requires.unseen c.requires.good untold c.in_err-fill.field-0.0 c.in_err-fill.ensures.stops c.in_err-fill.ensures.refused)
