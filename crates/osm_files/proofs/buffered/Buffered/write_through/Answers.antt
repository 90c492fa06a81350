use Rattle.std.proofs.Common.{◌≡◌, ℕ, List, [], length, take, drop, sym, ap, arith, subst}
use Rattle.std.proofs.lemmas.List.{take_all, drop_all}
use Rattle.osm_files.specs.CutBack.{HoldsBefore}
use Rattle.osm_files.specs.Output.{IsAppended}
use Rattle.osm_files.proofs.BufferedLaws.{after_nothing, passed_on}
use Rattle.osm_files.proofs.buffered.Buffered.write_through.Goals as goal

pub returns-then-bytes-capacity-clause-taken : goal.returns-then-bytes-capacity-clause-taken
returns-then-bytes-capacity-clause-taken g c =
    let O = g.O.Output in
    let s = c.args.self.now in
    let h = c.hand_over.new.self in
    let n = c.collect.new.self in
    let bytes = c.args.bytes.now in
    after_nothing (HoldsBefore (O.holds s.output) (drop s.taken s.bytes.items))
    (HoldsBefore (O.holds h.output) (drop h.taken h.bytes.items))
    (HoldsBefore (O.holds n.output) (drop n.taken n.bytes.items)) (take (length bytes) bytes) c.in_ok-hand_over.ensures.same
    (subst (λ xs. IsAppended (HoldsBefore (O.holds h.output) (drop h.taken h.bytes.items))
    (HoldsBefore (O.holds n.output) (drop n.taken n.bytes.items)) xs) (sym (take_all (length bytes) bytes (omega arith)))
    c.in_ok-collect.ensures.taken)

pub returns-after-count-eq0-clause-taken : goal.returns-after-count-eq0-clause-taken
returns-after-count-eq0-clause-taken g c =
    let O = g.O.Output in
    let s = c.args.self.now in
    let h = c.hand_over.new.self in
    let rest : List ℕ = drop h.taken h.bytes.items in
    let none : rest ≡ [] = drop_all h.taken h.bytes.items (omega (arith, ap length c.in_ok-hand_over.ensures.empty)) in
    after_nothing (HoldsBefore (O.holds s.output) (drop s.taken s.bytes.items))
    (HoldsBefore (O.holds h.output) rest)
    (HoldsBefore (O.holds c.write.new.self) rest) (take c.in-Ok.count c.args.bytes.now) c.in_ok-hand_over.ensures.same
    (passed_on (O.holds h.output) (O.holds c.write.new.self) rest (take c.in-Ok.count c.args.bytes.now) none c.in-Ok.ensures.taken)

pub returns-in-Err-clause-refused : goal.returns-in-Err-clause-refused
returns-in-Err-clause-refused g c =
    let O = g.O.Output in
    let s = c.args.self.now in
    let h = c.hand_over.new.self in
    let rest : List ℕ = drop h.taken h.bytes.items in
    let none : rest ≡ [] = drop_all h.taken h.bytes.items (omega (arith, ap length c.in_ok-hand_over.ensures.empty)) in
    after_nothing (HoldsBefore (O.holds s.output) (drop s.taken s.bytes.items))
    (HoldsBefore (O.holds h.output) rest)
    (HoldsBefore (O.holds c.write.new.self) rest) [] c.in_ok-hand_over.ensures.same
    (passed_on (O.holds h.output) (O.holds c.write.new.self) rest [] none c.in-Err.ensures.refused)
