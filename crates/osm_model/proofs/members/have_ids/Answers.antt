use Rattle.std.proofs.Common.{sym, ◌∙◌, rules, tests}
use Rattle.std.proofs.lemmas.Iterator.{YieldsList-from_slice}
use Rattle.std.proofs.lemmas.Iterator.Search.{all_from_yields_List}
use Rattle.std.proofs.lemmas.List.Folds.{list_all-map}
use Rattle.osm_model.specs.Id.{is_id}
use Rattle.osm_model.proofs.members.have_ids.Goals as goal

pub returns : goal.returns
returns c =
    all_from_yields_List (λ m. is_id m.id) _ _ c.all.result c.all.ensures.ran (YieldsList-from_slice c.args.members.now cc)
    (λ x b q k. search (rules, tests))
    ∙ sym (list_all-map is_id (λ m. m.id) c.args.members.now)
