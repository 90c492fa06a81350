use Rattle.std.proofs.Common.{◌≡◌, ◌-◌, ◌≤◌, sym, subst, arith, take, drop, length, length-drop}
use Rattle.std.proofs.Math.Seq.{take-add}
use Rattle.std.proofs.lemmas.List.{take_all}
use Rattle.osm_files.specs.Output.{IsAppended}
use Rattle.osm_files.proofs.Appending.{appended_on}
use Rattle.osm_files.proofs.write.write_rest.Goals as goal

pub writes-preserved : goal.writes-preserved
writes-preserved g c =
    let bytes = c.args.bytes.now in let done = c.writes.done in let count = c.in-Ok.count in
    let rest : take (length bytes - done) (drop done bytes) ≡ drop done bytes = take_all _ _ (omega (arith, length-drop done bytes)) in
    let within : count ≤ length (drop done bytes) = rw rest at c.in-Ok.ensures.within in
    record {
      within = omega (arith, within, length-drop done bytes);
      appended =
          subst (IsAppended (g.W.Output.holds c.args.out.now) (g.W.Output.holds c.write.new.self)) (sym (take-add done count bytes))
          (appended_on (g.W.Output.holds c.args.out.now) (g.W.Output.holds c.writes.out) (g.W.Output.holds c.write.new.self)
          (take done bytes) (take count (drop done bytes)) c.writes.invariant.appended (rw rest at c.in-Ok.ensures.taken));
      lasts = λ h. c.writes.invariant.lasts c.in-Ok.ensures.fails.0;
      good = λ _. c.in-Ok.ensures.fails.1 c.if-count-gt0.true;
    }
