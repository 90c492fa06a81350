-- The fields that a `SharedAuthor` keeps (an own definition of this project).
use Rattle.std.specs.Prelude.{◌≡◌, ◌⊎◌, []}
use Rattle.opl_line.specs.declared.straight.shared_author.SharedAuthor.TheInside.{Inside}
use Rattle.opl_line.specs.AuthorFields.{AreFieldsOf}

-- `u` keeps nothing, or metadata with its fields
abbrev pub HoldsSharedAuthor : Inside → Type 0
HoldsSharedAuthor u = (u.fields.items ≡ []) ⊎ AreFieldsOf u.meta u.fields.items
