use Rattle.std.proofs.Common.{◌+◌, List, ℕ, take, drop, subst, sym, arith}
use Rattle.osm_files.specs.CutBack.{HoldsBefore, IsCutBack}
use Rattle.osm_files.proofs.BufferedLaws.{cut_after, kept_back, cut_collected}
use Rattle.osm_files.proofs.buffered.Buffered.cut.Goals as goal

pub returns-then-front-length-clause-cut : goal.returns-then-front-length-clause-cut
returns-then-front-length-clause-cut g c =
    let O = g.O.Output in
    let s = c.args.self.now in
    let rest : List ℕ = drop s.taken s.bytes.items in
    let now = O.holds c.length.new.self in
    let kept : ℕ = c.min-kept.result in
    subst (λ (items : List ℕ). IsCutBack (HoldsBefore (O.holds s.output) rest) (HoldsBefore now (drop s.taken items)) c.args.length)
    (sym c.truncate.ensures.items)
    (cut_after (HoldsBefore (O.holds s.output) rest) (HoldsBefore now rest)
    (HoldsBefore now (drop s.taken (take (s.taken + kept) s.bytes.items))) c.args.length
    (kept_back (O.holds s.output) now rest c.in_ok-front.ensures.same)
    (cut_collected now s.bytes.items s.taken kept c.in_ok-front.front c.args.length c.in_ok-front.ensures.length
    (omega (arith, c.if-front-length.true)) s.within (omega (arith, c.min-kept.ensures, c.len.ensures))))
