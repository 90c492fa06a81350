use Rattle.std.proofs.Common.{◌&&◌, sym, ◌∙◌, rules, tests}
use Rattle.std.proofs.lemmas.Iterator.{YieldsList-from_slice}
use Rattle.std.proofs.lemmas.Iterator.Search.{all_from_yields_List}
use Rattle.osm_model.specs.Text.{is_text}
use Rattle.osm_model.proofs.TagLaws.{list_all-texts_of_tags}
use Rattle.osm_model.proofs.tags.ItemList+Tag.are_texts.Goals as goal

pub returns : goal.returns
returns c =
    all_from_yields_List (λ t. is_text t.key && is_text t.value) _ _ c.all.result c.all.ensures.ran
    (YieldsList-from_slice c.args.self.now cc)
    (λ x b q k. search (rules, tests))
    ∙ sym (list_all-texts_of_tags is_text c.args.self.now)
