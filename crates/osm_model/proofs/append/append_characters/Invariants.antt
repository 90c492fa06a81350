use Rattle.std.proofs.Common.{◌≡◌, ◌++◌, length}
use denote.Text.{Utf8}
use denote.Shadow.{shadow}
use Rattle.std.specs.Str.{chars}
use Rattle.osm_model.specs.Escape.{escape}
use Rattle.osm_model.specs.Extends.{Extends}
use Rattle.osm_model.proofs.append.append_characters.Given as goal

abbrev pub invariant-characters : goal.invariant-characters
invariant-characters l = shadow (Utf8 l.rest) × (l.fn.out.items ++ escape l.text ≡ l.out.items ++ escape (chars l.rest))
    × Extends l.fn.out.items l.out.items

abbrev pub decreases-characters : goal.decreases-characters
decreases-characters l = length l.rest
