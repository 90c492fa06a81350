use Rattle.std.proofs.Common.{length, drop, sym, subst, arith}
use Rattle.std.proofs.lemmas.List.{take_all}
use Rattle.osm_files.specs.CutBack.{HoldsBefore}
use Rattle.osm_files.specs.Output.{IsAppended}
use Rattle.osm_files.proofs.buffered.BufferedOutput.write.Goals as goal

pub returns-then-bytes-saturating_sub-clause-taken : goal.returns-then-bytes-saturating_sub-clause-taken
returns-then-bytes-saturating_sub-clause-taken g c =
    let O = g.O.Output in
    let s = c.args.self.now in
    let n = c.collect.new.self in
    let bytes = c.args.bytes.now in
    subst (λ xs. IsAppended (HoldsBefore (O.holds s.output) (drop s.taken s.bytes.items))
    (HoldsBefore (O.holds n.output) (drop n.taken n.bytes.items)) xs) (sym (take_all (length bytes) bytes (omega arith)))
    c.in_ok-collect.ensures.taken
