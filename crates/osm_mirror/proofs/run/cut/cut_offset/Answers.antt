use Rattle.std.proofs.Common.{◌≡◌, ◌+◌, ◌∙◌, IfSome, length, sym, subst, refl, arith}
use Rattle.osm_mirror.specs.run.Cut.{BeginsAs}
use Rattle.osm_mirror.proofs.run_laws.CutLaws.{halving_first, halving_low, halving_high, halving_ends, begins_of, o5_refusal}
use Rattle.osm_mirror.proofs.run_laws.LinesFromLaws.{lines_at_end}
use Rattle.osm_mirror.proofs.run.cut.cut_offset.Goals as goal

pub halves-init : goal.halves-init
halves-init g c =
    let bytes = g.F.ReadAt.bytes c.args.file.now in
    let end = c.at_end-high.result in
    let size : IfSome bytes (λ all. end.offset ≡ length all) =
    subst (λ n. IfSome bytes (λ all. n ≡ length all)) (sym c.at_end-high.ensures.offset) c.in-Ok.ensures.bytes in (
      halving_first c.args.bound bytes end.offset size,
      lines_at_end bytes end size (c.at_end-high.ensures.start ∙ sym c.at_end-high.ensures.offset) c.at_end-high.ensures.object,
    )

pub halves-preserved-then-is_below : goal.halves-preserved-then-is_below
halves-preserved-then-is_below g c =
    let lines = c.in_ok-lines.lines in
    let start = c.clamp-low.result in
    let is = c.clamp-low.ensures in
    let at = c.in_ok-lines.ensures.offset in (
      halving_low c.args.bound (g.F.ReadAt.bytes c.args.file.now) c.halves.low c.halves.high.offset start (start + 1) lines
          c.halves.invariant.0 (omega arith) c.in_ok-lines.ensures.lines at
          (sym c.is_below.ensures ∙ c.if-is_below.true) (λ late. omega (arith, is, late, at)) refl
          (omega (arith, is, at)) (omega (arith, is)),
      c.halves.invariant.1,
    )

pub halves-preserved : goal.halves-preserved
halves-preserved g c = (
  halving_high c.args.bound (g.F.ReadAt.bytes c.args.file.now) c.halves.low c.halves.high.offset c.in_ok-lines.lines
      c.halves.invariant.0 (omega arith) c.in_ok-lines.ensures.lines c.in_ok-lines.ensures.offset
      (sym c.is_below.ensures ∙ c.if-is_below.false),
  c.in_ok-lines.ensures.lines,
)

pub returns-clause-cut : goal.returns-clause-cut
returns-clause-cut g c =
    halving_ends c.args.bound (g.F.ReadAt.bytes c.args.file.now) c.halves.low c.halves.high c.halves.invariant.0 (omega arith)
    c.halves.invariant.1

pub returns-clause-begins : goal.returns-clause-begins
returns-clause-begins g c =
    let bytes = g.F.ReadAt.bytes c.args.file.now in
    begins_of bytes c.halves.high c.halves.invariant.1
    (subst (λ b. BeginsAs bytes c.halves.high.start b) c.if-branch.false c.in_ok-begins_as_o5.ensures.begins)

pub returns-then-branch-clause-refused : goal.returns-then-branch-clause-refused
returns-then-branch-clause-refused g c =
    let bytes = g.F.ReadAt.bytes c.args.file.now in
    o5_refusal (g.F.ReadAt.fails c.args.file.now) bytes c.halves.high _ c.halves.invariant.1
    (subst (λ b. BeginsAs bytes c.halves.high.start b) c.if-branch.true c.in_ok-begins_as_o5.ensures.begins)
