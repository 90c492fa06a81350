use Rattle.std.proofs.Common.{◌≡◌, ℕ, List, [], length, drop, ap, arith}
use Rattle.std.proofs.lemmas.List.{drop_all}
use Rattle.osm_files.specs.CutBack.{HoldsBefore}
use Rattle.osm_files.proofs.BufferedLaws.{after_nothing, passed_on}
use Rattle.osm_files.proofs.buffered.BufferedOutput.flush.Goals as goal

pub returns-in-Ok-clause-same : goal.returns-in-Ok-clause-same
returns-in-Ok-clause-same g c =
    let O = g.O.Output in
    let s = c.args.self.now in
    let h = c.hand_over.new.self in
    let rest : List ℕ = drop h.taken h.bytes.items in
    let none : rest ≡ [] = drop_all h.taken h.bytes.items (omega (arith, ap length c.in_ok-hand_over.ensures.empty)) in
    after_nothing (HoldsBefore (O.holds s.output) (drop s.taken s.bytes.items)) (HoldsBefore (O.holds h.output) rest)
    (HoldsBefore (O.holds c.flush.new.self) rest) [] c.in_ok-hand_over.ensures.same
    (passed_on (O.holds h.output) (O.holds c.flush.new.self) rest [] none c.flush.ensures.same)

pub returns-in-Err-clause-same : goal.returns-in-Err-clause-same
returns-in-Err-clause-same g c =
    let O = g.O.Output in
    let s = c.args.self.now in
    let h = c.hand_over.new.self in
    let rest : List ℕ = drop h.taken h.bytes.items in
    let none : rest ≡ [] = drop_all h.taken h.bytes.items (omega (arith, ap length c.in_ok-hand_over.ensures.empty)) in
    after_nothing (HoldsBefore (O.holds s.output) (drop s.taken s.bytes.items)) (HoldsBefore (O.holds h.output) rest)
    (HoldsBefore (O.holds c.flush.new.self) rest) [] c.in_ok-hand_over.ensures.same
    (passed_on (O.holds h.output) (O.holds c.flush.new.self) rest [] none c.flush.ensures.same)
