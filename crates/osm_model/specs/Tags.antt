-- Tags: a set of pairs of texts, kept ascending (own rule of this project).
use Rattle.std.specs.Prelude.{ℕ, List, [], ◌∷◌}
use Rattle.std.specs.declared.cmp.Ordering.{Ordering}
use Rattle.std.specs.Ordering.{then_cmp, on}
use Rattle.std.specs.Cmp.{IsTotalOrder, then_total, on_total}
use Rattle.std.specs.List.{flat_map}
use Rattle.osm_model.specs.declared.tags.Tag.{Tag}
use Rattle.osm_model.specs.Text.{text_cmp, text_cmp_total}
use Rattle.osm_model.specs.Sets.{to_list, from_list}

-- the bytes of the key, then those of the value
abbrev pub tag_cmp : Tag → Tag → Ordering
tag_cmp = then_cmp (on (λ t. t.key) text_cmp) (on (λ t. t.value) text_cmp)

pub tag_cmp_total : IsTotalOrder tag_cmp
tag_cmp_total = then_total (on_total (λ t. t.key) text_cmp_total) (on_total (λ t. t.value) text_cmp_total)

-- the tags of a list ascending, each once
abbrev pub normal_tags : List Tag → List Tag
normal_tags ts = to_list (from_list {R = tag_cmp} ts)

-- all keys and values
abbrev pub texts_of_tags : List Tag → List (List ℕ)
texts_of_tags ts = flat_map (λ t. t.key ∷ t.value ∷ []) ts
