use Rattle.std.proofs.Common.{◌≡◌, ◌++◌, ◌≤◌, length}
use denote.Text.{Utf8}
use denote.Shadow.{shadow}
use Rattle.std.specs.Str.{chars}
use Rattle.osm_model.specs.Escape.{escape}
use Rattle.osm_model.specs.Extends.{Extends}
use Rattle.osm_model.proofs.append.append_four_digit_run.Given as goal

abbrev pub invariant-escapes : goal.invariant-escapes
invariant-escapes l = shadow (Utf8 l.rest)
    × (l.fn.out.items ++ escape (chars l.text) ≡ l.out.items ++ escape (chars l.rest))
    × (length l.rest ≤ length l.text)
    × Extends l.fn.out.items l.out.items

abbrev pub decreases-escapes : goal.decreases-escapes
decreases-escapes l = length l.rest
