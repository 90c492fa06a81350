use Rattle.std.proofs.Common.{◌≡◌, map, take, ◌∙◌, ap, sym, inr}
use Rattle.std.proofs.lemmas.List.{take-map}
use Rattle.osm_mirror.specs.run.Names.{texts_of, between_nuls, AreNames}
use Rattle.osm_mirror.proofs.run.names.read_names.Goals as goal

pub returns-clause-refused : goal.returns-clause-refused
returns-clause-refused c =
    let all = ap texts_of c.as_slice.ensures.value ∙ c.in_ok-texts.ensures.texts in
    inr (rw all at c.in-Err.ensures.refused)

pub returns-in-Ok-clause-names : goal.returns-in-Ok-clause-names
returns-in-Ok-clause-names c =
    let all = ap texts_of c.as_slice.ensures.value ∙ c.in_ok-texts.ensures.texts in
    let names = rw all at c.in-Ok.ensures.names in
    let these : texts_of c.in_ok-from_slice-in-Ok.field-0.items ≡ take c.in-Ok.count (between_nuls c.args.list.now) =
    ap texts_of c.in_ok-from_slice-in-Ok.ensures.items ∙ (sym (take-map (λ text. text.now) c.in-Ok.count c.deref.result.now)
    ∙ ap (take c.in-Ok.count) (ap texts_of c.deref.ensures.value ∙ c.in_ok-texts.ensures.texts)) in
    rw these names
