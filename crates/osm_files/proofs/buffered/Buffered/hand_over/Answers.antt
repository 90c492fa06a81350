use Rattle.std.proofs.Common.{◌≡◌, ◌∙◌, ◌+◌, ◌-◌, ◌++◌, [], ℕ, List, length, take, drop, sym, ap, arith, rules, drop-drop, length-drop}
use Rattle.std.proofs.lemmas.List.{take-append-drop, take_all, drop_all}
use Rattle.std.proofs.Common.{subst}
use Rattle.osm_files.specs.CutBack.{HoldsBefore}
use Rattle.osm_files.specs.Output.{IsAppended}
use Rattle.osm_files.proofs.BufferedLaws.{after_nothing, handed_over, kept_back, all_over}
use Rattle.osm_files.proofs.buffered.Buffered.hand_over.Goals.{in_default-via-in-Ok+else-count-gt0, in_default-via-in_default}
use Rattle.osm_files.proofs.buffered.Buffered.hand_over.Goals as goal

pub writes-preserved : goal.writes-preserved
writes-preserved g c =
    let O = g.O.Output in
    let s = c.args.self.now in
    let w = c.writes.self in
    let rest : List ℕ = drop w.taken w.bytes.items in
    let n : ℕ = c.in-Ok.count in
    let left : List ℕ = drop (w.taken + n) w.bytes.items in
    let given : rest ≡ take n rest ++ left =
    sym (take-append-drop n rest) ∙ ap (λ xs. take n rest ++ xs) (drop-drop n w.taken w.bytes.items) in
    let d : List ℕ = c.deref.result.now in
    let all : take (length d - w.taken) (drop w.taken d) ≡ rest =
    take_all (length d - w.taken) (drop w.taken d) (omega (arith, length-drop w.taken d)) ∙ ap (drop w.taken) c.deref.ensures.value in
    let taken = subst (λ xs. IsAppended (O.holds w.output) (O.holds c.write.new.self) (take n xs)) all c.in-Ok.ensures.taken in (
      after_nothing (HoldsBefore (O.holds s.output) (drop s.taken s.bytes.items)) (HoldsBefore (O.holds w.output) rest)
          (HoldsBefore (O.holds c.write.new.self) left) [] c.writes.invariant.0
          (handed_over (O.holds w.output) (O.holds c.write.new.self) rest left (take n rest) given taken),
      search rules,
    )

pub returns-in_default-clause-same : goal.returns-in_default-clause-same
returns-in_default-clause-same g c =
    let O = g.O.Output in
    let s = c.args.self.now in
    let w = c.writes.self in
    let rest : List ℕ = drop w.taken w.bytes.items in
    after_nothing (HoldsBefore (O.holds s.output) (drop s.taken s.bytes.items)) (HoldsBefore (O.holds w.output) rest)
    (HoldsBefore (O.holds c.write.new.self) rest) [] c.writes.invariant.0
    (kept_back (O.holds w.output) (O.holds c.write.new.self) rest
    (elim c.in_default.branch [
      | in_default-via-in-Ok+else-count-gt0 w ↦ (
          let none : w.in-Ok.count ≡ 0 = omega (arith, w.if-count-gt0.false) in
          subst (λ n. IsAppended (O.holds c.writes.self.output) (O.holds c.write.new.self) (take n
          (take (length c.deref.result.now - c.writes.self.taken) (drop c.writes.self.taken c.deref.result.now))))
          none w.in-Ok.ensures.taken)
      | in_default-via-in_default w ↦ w.in_default.ensures.refused
    ]))

pub returns-clause-same : goal.returns-clause-same
returns-clause-same g c =
    let O = g.O.Output in
    let s = c.args.self.now in
    let w = c.writes.self in
    all_over (O.holds w.output) (HoldsBefore (O.holds s.output) (drop s.taken s.bytes.items)) (drop w.taken w.bytes.items)
    c.clear.new.self.items (drop_all w.taken w.bytes.items (omega (arith, c.writes-test.false, c.len.ensures)) ∙ sym c.clear.ensures.items)
    c.writes.invariant.0
