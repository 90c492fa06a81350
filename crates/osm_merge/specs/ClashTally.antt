-- The tally of clashes over versions that come in their order (own definitions of this project).
use Rattle.std.specs.Prelude.{ℕ, ◌+◌, Bool, false, not, ◌&&◌, ◌||◌, if◌then◌else◌, Option, Some, None}
use Rattle.std.specs.Ordering.{is_eq}
use Rattle.osm_model.specs.declared.object.Key.{Key}
use Rattle.osm_model.specs.Data.{VersionData}
use Rattle.osm_model.specs.Order.{key_of, key_order}
use Rattle.osm_merge.specs.declared.clash_tally.ClashTally.{ClashTally}
use Rattle.osm_merge.specs.Clashes.{is_deletion}
use Rattle.osm_merge.specs.Union.{capped_count}

-- the tally before a version is taken
abbrev pub no_clashes : ClashTally
no_clashes = record { key = None; has_visible = false; has_deletion = false; count = 0 }

-- whether the version taken last has this key
abbrev pub is_at : Option Key → Key → Bool
is_at None key = false
is_at (Some last) key = is_eq (key_order last key)

-- the tally before the first version of a key
abbrev pub begin_key : Key → ℕ → ClashTally
begin_key key count = record { key = Some key; has_visible = false; has_deletion = false; count = count }

-- the tally before the next version, which has this key
abbrev pub at_key : ClashTally → Key → ClashTally
at_key tally key = if is_at tally.key key then tally else begin_key key tally.count

-- whether one more version makes a key clash that has visible versions and deletions or not
abbrev pub begins_clash : (has_visible has_deletion deleted : Bool) → Bool
begins_clash has_visible has_deletion deleted =
    not (has_visible && has_deletion) && ((has_visible || not deleted) && (has_deletion || deleted))

-- the tally with one more version of its key
abbrev pub with_version : ClashTally → Bool → ClashTally
with_version tally deleted = record {
  key = tally.key;
  has_visible = tally.has_visible || not deleted;
  has_deletion = tally.has_deletion || deleted;
  count =
      if begins_clash tally.has_visible tally.has_deletion deleted then capped_count (tally.count + 1) else tally.count;
}

-- the tally after a version
abbrev pub tally_after : ClashTally → VersionData → ClashTally
tally_after tally v = with_version (at_key tally (key_of v)) (is_deletion v)
