use Rattle.std.proofs.Common.{◌≡◌, ◌++◌, ◌&&◌, true, rules}
use Rattle.std.specs.List.{list_all}
use Rattle.osm_model.specs.Text.{is_text}
use Rattle.osm_model.specs.Line.{list_text, tag_text}
use Rattle.opl_line.proofs.StraightLineLaws.{node_tail, way_tail, relation_tail}
use Rattle.opl_line.proofs.straight.read_tail.Goals as goal

pub returns-in_ok-lon-in-Node : goal.returns-in_ok-lon-in-Node
returns-in_ok-lon-in-Node c =
    let tags = c.from_vec-tags.result in
    let listed : c.in_ok-text.text.now ≡ list_text tag_text tags ++ c.in_ok-tags.rest.now = search rules in
    let all : list_all (λ tag. is_text tag.key && is_text tag.value) tags ≡ true = search rules in
    node_tail _ _ _ _ _ tags c.in_ok-text.ensures listed (search rules) all _ _ (search rules) (search rules)

pub returns-in_ok-read_last_list-in-Way : goal.returns-in_ok-read_last_list-in-Way
returns-in_ok-read_last_list-in-Way c =
    let tags = c.from_vec-tags.result in
    let listed : c.in_ok-text.text.now ≡ list_text tag_text tags ++ c.in_ok-tags.rest.now = search rules in
    let all : list_all (λ tag. is_text tag.key && is_text tag.value) tags ≡ true = search rules in
    way_tail _ _ _ _ _ tags c.in_ok-text.ensures listed (search rules) all _ _ (search rules) c.in_ok-strip_mark-in-Way.ensures
    (search rules) (search rules)

pub returns-in_ok-read_last_list-in-Relation : goal.returns-in_ok-read_last_list-in-Relation
returns-in_ok-read_last_list-in-Relation c =
    let tags = c.from_vec-tags.result in
    let listed : c.in_ok-text.text.now ≡ list_text tag_text tags ++ c.in_ok-tags.rest.now = search rules in
    let all : list_all (λ tag. is_text tag.key && is_text tag.value) tags ≡ true = search rules in
    relation_tail _ _ _ _ _ tags c.in_ok-text.ensures listed (search rules) all _ _ (search rules) c.in_ok-strip_mark-in-Relation.ensures
    (search rules) (search rules)
