use Rattle.std.proofs.Common.{◌≡◌, length, take, arith, refl, sym, ap, ◌∙◌, length-append, length-drop, vec_capacity}
use Rattle.std.proofs.lemmas.List.{append-nil, length-take-le}
use Rattle.osm_merge.proofs.TakingLaws.{one_moved, one_left}
use Rattle.osm_merge.proofs.taking.move_front.Goals.{in-Some, in_default}
use Rattle.osm_merge.proofs.taking.move_front.Goals as goal

pub moves-init : goal.moves-init
moves-init c = (sym (append-nil c.args.joined.now.items), refl, refl)

pub push_reserved-requires : goal.push_reserved-requires
push_reserved-requires c =
    let held = c.args.held.now.items in
    let long = length-append c.args.joined.now.items (take c.moves.counter held) in
    let taken : length (take c.moves.counter held) ≡ c.moves.counter =
    length-take-le c.moves.counter held (omega (arith, c.moves-test.true, c.requires.enough, c.args.held.now.ok.0)) in
    omega (
      arith,
      c.moves.joined.ok.0,
      c.args.joined.now.ok.0,
      ap length c.moves.invariant.0,
      long,
      taken,
      c.moves.invariant.2,
      c.moves-test.true,
      c.requires.fits,
    )

pub moves-preserved : goal.moves-preserved
moves-preserved c =
    let held = c.args.held.now.items in
    let n = c.moves.counter in
    elim c.match-pop_front.branch [
      | in-Some w ↦ (
        one_moved c.args.joined.now.items held c.moves.held.items c.pop_front.new.self.items c.moves.joined.items
            c.match-pop_front.joined.items n w.in-Some.version
            c.moves.invariant.0 c.moves.invariant.1 w.in-Some.ensures.items (ap (λ v. v.items) w.joined-is ∙ w.push_reserved.ensures.items),
        one_left c.args.joined.now.items held c.moves.held.items c.pop_front.new.self.items c.moves.joined.items
            c.match-pop_front.joined.items n w.in-Some.version
            c.moves.invariant.0 c.moves.invariant.1 w.in-Some.ensures.items,
        ap (λ v. vec_capacity v) w.joined-is ∙ w.push_reserved.ensures.capacity ∙ c.moves.invariant.2,
      )
      | in_default w ↦
          absurd (omega (
            arith,
            w.in_default.ensures.cases.0,
            c.moves.held.ok.0,
            ap length c.moves.invariant.1,
            length-drop n held,
            c.moves-test.true,
            c.requires.enough,
            c.args.held.now.ok.0,
          ))
    ]

pub returns-clause-moved : goal.returns-clause-moved
returns-clause-moved c =
    let end : c.moves.counter ≡ c.args.count = omega (arith, c.moves-test.false, c.moves.auto.counter-end) in
    rw (← end) c.moves.invariant.0

pub returns-clause-left : goal.returns-clause-left
returns-clause-left c =
    let end : c.moves.counter ≡ c.args.count = omega (arith, c.moves-test.false, c.moves.auto.counter-end) in
    rw (← end) c.moves.invariant.1
