use Rattle.std.proofs.Common.{◌≡◌, ◌+◌, ◌<◌, ◌^◌, ◌++◌, true, false, None, Some, Err, length, take, position, refl, sym, ap, ◌∙◌, subst}
use Rattle.opl_line.specs.Delimiter.{is_line_end}
use Rattle.osm_files.specs.EndRule.{lacks_end}
use Rattle.osm_files.specs.Fault.{fault_at}
use Rattle.osm_files.specs.Position.{Position}
use Rattle.osm_files.specs.Source.{StepsOn}
use Rattle.osm_files.specs.UnknownLine.{unknown_reason}
use Rattle.osm_files.proofs.DroppedLaws.{follows_itself, no_line_held, follows_dropped, follows_read, dropped_bound}
use Rattle.osm_files.proofs.DroppedLaws.{unread_refused, ended_refused, cut_refused_there, last_refused}
use Rattle.osm_files.proofs.reading.Reading.refuse_unknown.Goals as goal

pub pieces-init : goal.pieces-init
pieces-init g c = record {
  follows = follows_itself g.R.Input.can_give c.args.self.now c.requires.unknown;
  none = no_line_held g.R.Input.can_give c.args.self.now c.requires.unknown c.requires.nothing;
  unended = c.requires.unended;
}

pub returns-in-Err-clause-step : goal.returns-in-Err-clause-step
returns-in-Err-clause-step g c =
    let can = g.R.Input.can_give in
    let p = c.args.self.now in
    let q = c.drop_tested-front.new.self in
    let drops = c.drop_tested-front.ensures.dropped in
    let on = follows_dropped can p c.pieces.self q c.pieces.front c.drop_tested-front.result c.pieces.invariant.follows
    c.pieces.invariant.none drops in
    unread_refused can p q c.fill.new.self c.drop_tested-front.result on.0 c.requires.good c.in-Err.ensures.refused
    (dropped_bound c.pieces.self q c.pieces.front c.drop_tested-front.result drops c.drop_tested-front.ensures.bound) c.in-Err.fault on.1
    c.in-Err.ensures.stops

pub returns-in-Some-clause-step : goal.returns-in-Some-clause-step
returns-in-Some-clause-step g c =
    let can = g.R.Input.can_give in
    let p = c.args.self.now in
    let q = c.drop_tested-front.new.self in
    let m = c.fill.new.self in
    let test = c.drop_tested-front.result in
    let on = follows_dropped can p c.pieces.self q c.pieces.front test c.pieces.invariant.follows c.pieces.invariant.none
    c.drop_tested-front.ensures.dropped in
    let f = follows_read can p q m test on.0 c.in_default.ensures.on c.fill.ensures.input c.in_default.ensures.kept in
    let is = c.self-in-pieces.view_is in
    let held : c.as_slice-held.result.now ≡ m.held = c.as_slice-held.ensures ∙ ap (λ v. v.held) is in
    let bound : m.offset + length m.held < 2 ^ 62 =
    subst (λ (v : Position _). v.offset + length v.held < 2 ^ 62) is c.self-in-pieces.invariant.0 in
    let found : position is_line_end m.held ≡ Some c.in-Some.size =
    ap (position is_line_end) (sym held) ∙ sym c.find_line_end.ensures ∙ c.in-Some.is in
    let offset : c.self.inside.offset ≡ p.offset = ap (λ v. v.offset) c.self.view_is in
    ended_refused can p m c.refuse.new.self test f c.requires.good (ap (λ v. v.failed) c.refuse.ensures.failed) bound c.refuse.result
    c.in-Some.size c.reason-reason.result found
    (c.reason-reason.ensures f.front f.tested ∙ ap (λ xs. unknown_reason (f.front ++ take c.in-Some.size xs)) held)
    (c.refuse.ensures.fault ∙ (λ i. fault_at m.input (offset i) (c.from.ensures i))) (g.R.Input.one m.rest) (g.R.Input.possible m.rest)

pub returns-then-self-clause-step : goal.returns-then-self-clause-step
returns-then-self-clause-step g c =
    let can = g.R.Input.can_give in
    let p = c.args.self.now in
    let q = c.drop_tested-front.new.self in
    let m = c.fill.new.self in
    let r = c.refuse_last.new.self in
    let fault = c.refuse_last.result in
    let test = c.drop_tested-front.result in
    let on = follows_dropped can p c.pieces.self q c.pieces.front test c.pieces.invariant.follows c.pieces.invariant.none
    c.drop_tested-front.ensures.dropped in
    let f = follows_read can p q m test on.0 c.in_default.ensures.on c.fill.ensures.input c.in_default.ensures.kept in
    let is = c.self-in-pieces.view_is in
    let held : c.as_slice-held.result.now ≡ m.held = c.as_slice-held.ensures ∙ ap (λ v. v.held) is in
    let bound : m.offset + length m.held < 2 ^ 62 =
    subst (λ (v : Position _). v.offset + length v.held < 2 ^ 62) is c.self-in-pieces.invariant.0 in
    let none : position is_line_end m.held ≡ None =
    ap (position is_line_end) (sym held) ∙ sym c.find_line_end.ensures ∙ c.in_default-find_line_end.is in
    let ended : m.ended ≡ true = sym (ap (λ v. v.ended) is) ∙ c.if-self.true in
    let failed : r.failed ≡ true = ap (λ v. v.failed) c.refuse_last.ensures.failed in
    let offset : c.self.inside.offset ≡ p.offset = ap (λ v. v.offset) c.self.view_is in
    elim (lacks_end m.end) as (λ t. lacks_end m.end ≡ t → StepsOn can p (Err fault) r) [
      | true ↦ λ lacks.
          cut_refused_there can p m r test f c.requires.good failed bound fault ended none (g.R.Input.one m.rest)
          (g.R.Input.possible m.rest) lacks (c.refuse_last.ensures.cut lacks)
      | false ↦ λ uncut.
          last_refused can p m r test f c.requires.good failed bound fault ended none (g.R.Input.one m.rest)
          (g.R.Input.possible m.rest) c.reason-reason-then-self.result uncut
          (c.reason-reason-then-self.ensures f.front f.tested ∙ ap (λ xs. unknown_reason (f.front ++ xs)) held)
          (c.refuse_last.ensures.uncut uncut ∙ (λ i. fault_at m.input (offset i) (c.from-then-self.ensures i)))
    ] refl

pub pieces-preserved : goal.pieces-preserved
pieces-preserved g c =
    let can = g.R.Input.can_give in
    let p = c.args.self.now in
    let q = c.drop_tested-front.new.self in
    let m = c.fill.new.self in
    let test = c.drop_tested-front.result in
    let on = follows_dropped can p c.pieces.self q c.pieces.front test c.pieces.invariant.follows c.pieces.invariant.none
    c.drop_tested-front.ensures.dropped in
    let is = c.self-in-pieces.view_is in
    let held : c.as_slice-held.result.now ≡ m.held = c.as_slice-held.ensures ∙ ap (λ v. v.held) is in
    record {
      follows = follows_read can p q m test on.0 c.in_default.ensures.on c.fill.ensures.input c.in_default.ensures.kept;
      none = ap (position is_line_end) (sym held) ∙ sym c.find_line_end.ensures ∙ c.in_default-find_line_end.is;
      unended = sym (ap (λ v. v.ended) is) ∙ c.if-self.false;
    }
