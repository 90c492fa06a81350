use Rattle.std.proofs.Common.{◌+◌, ◌∙◌, List, ℕ, take, drop, arith, rules, sym, ap, position}
use Rattle.std.proofs.lemmas.List.{take-append-le}
use Rattle.opl_line.specs.Delimiter.{is_line_end}
use Rattle.osm_files.proofs.LineStarts.{scans_on, scan_finds}
use Rattle.osm_files.proofs.lines.search.Goals as goal

pub returns-in-Some-clause-start : goal.returns-in-Some-clause-start
returns-in-Some-clause-start g c =
    let read : List ℕ = take c.in-Ok.count c.read_at.new.buffer in
    let same = take-append-le c.in-Ok.count c.read_at.new.buffer (drop c.min-most.result c.reads.buffer) (search (rules, arith)) in
    scan_finds (g.F.ReadAt.bytes c.args.file.now) c.args.offset c.args.end c.reads.reached (c.reads.reached + c.in-Some.last + 1)
    read c.in-Some.last c.reads.invariant c.in-Ok.ensures.bytes
    (ap (position is_line_end) (sym same) ∙ sym c.find_line_end.ensures ∙ c.in-Some.is) (omega arith)
    (search (rules, arith))

pub reads-preserved : goal.reads-preserved
reads-preserved g c =
    let read : List ℕ = take c.in-Ok.count c.read_at.new.buffer in
    let same = take-append-le c.in-Ok.count c.read_at.new.buffer (drop c.min-most.result c.reads.buffer) (search (rules, arith)) in
    scans_on (g.F.ReadAt.bytes c.args.file.now) c.args.offset c.reads.reached (c.reads.reached + c.in-Ok.count)
    read c.reads.invariant c.in-Ok.ensures.bytes (ap (position is_line_end) (sym same) ∙ search rules)
    (search (rules, arith))
