use Rattle.std.proofs.Common.{◌≡◌, ◌++◌, take, drop, vec_capacity}
use Rattle.osm_merge.proofs.taking.move_front.Given as goal

abbrev pub invariant-moves : goal.invariant-moves
invariant-moves l =
    (l.joined.items ≡ l.fn.joined.items ++ take l.counter l.fn.held.items)
    × (l.held.items ≡ drop l.counter l.fn.held.items)
    × (vec_capacity l.joined ≡ vec_capacity l.fn.joined)
