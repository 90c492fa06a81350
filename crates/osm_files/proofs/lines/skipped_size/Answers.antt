use Rattle.std.proofs.Common.{◌≡◌, ◌⊎◌, inl, inr, Some, List, ℕ, drop, position, get_or, arith, sym, ap, ◌∙◌}
use Rattle.std.proofs.Common.{length-drop}
use Rattle.std.proofs.lemmas.List.{take_rest}
use Rattle.opl_line.specs.Delimiter.{is_line_end}
use Rattle.opl_line.proofs.CutLaws.{split_at}
use Rattle.osm_files.proofs.FirstLaws.{skips_on}
use Rattle.osm_files.proofs.lines.skipped_size.Goals as goal
use Rattle.osm_files.proofs.lines.skipped_size.Goals.{else-size-gt0-via-then-size-gt0+else-rest-ne35, else-size-gt0-via-else-size-gt0}

pub lines-preserved : goal.lines-preserved
lines-preserved c =
    let rest : List ℕ = drop c.lines.read c.args.bytes.now in
    let found : position is_line_end rest ≡ Some c.in-Some.size =
    sym (ap (position is_line_end) (take_rest c.args.bytes.now c.lines.read)) ∙ sym c.find_line_end.ensures ∙ c.in-Some.is in
    let either : (c.in-Some.size ≡ 0) ⊎ (get_or rest 0 0 ≡ 35) = elim c.else-size-gt0.branch [
      | else-size-gt0-via-then-size-gt0+else-rest-ne35 w ↦ inr (rw take_rest at w.if-rest-ne35.false)
      | else-size-gt0-via-else-size-gt0 w ↦ inl (omega (arith, w.if-size-gt0.false))
    ] in
    let at = split_at is_line_end rest c.in-Some.size found in (
      omega (arith, at.within, length-drop c.lines.read c.args.bytes.now, c.lines.invariant.0),
      skips_on c.args.bytes.now c.lines.read c.in-Some.size c.lines.invariant.1 found either,
    )
