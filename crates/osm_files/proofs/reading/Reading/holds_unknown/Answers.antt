use Rattle.std.proofs.Common.{◌≡◌, length, slice_index, sym, ap, ◌∙◌, arith, rules}
use Rattle.osm_files.specs.UnknownLine.{begins_unknown}
use Rattle.osm_files.proofs.DroppedLaws.{holds_by_first}
use Rattle.osm_files.proofs.reading.Reading.holds_unknown.Goals as goal

pub returns-in-Some-Lines : goal.returns-in-Some-Lines
returns-in-Some-Lines g c =
    let p = c.args.self.now in
    let held : c.as_slice-held.result.now ≡ p.held = c.as_slice-held.ensures ∙ ap (λ v. v.held) c.self.view_is in
    holds_by_first p (search rules) (omega (arith, ap length held, c.if-held-lt-LONG_LINE.false))
    (ap (λ xs. begins_unknown (slice_index xs 0)) (sym held) ∙ sym c.begins_unknown.ensures ∙ c.if-not-begins_unknown.false)
