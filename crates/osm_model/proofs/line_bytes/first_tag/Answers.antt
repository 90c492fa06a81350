use Rattle.std.proofs.Common.{rules, ◌∙◌, ◌≡◌, ◌∷◌}
use Rattle.osm_model.specs.Data.{tags_of}
use Rattle.osm_model.specs.Cursor.{from_kind}
use Rattle.osm_model.proofs.CursorLaws.{coming_is, tag_step}
use Rattle.osm_model.proofs.line_bytes.first_tag.Goals as goal

pub returns-in-Some : goal.returns-in-Some
returns-in-Some c =
    let v = c.args.version.now in
    let all : tags_of v.body ≡ c.in-Some.tag.now ∷ c.in-Some.more.now = search rules in
    coming_is v c.with_text.result _ _ c.with_text.ensures.text c.with_text.ensures.position
    ∙ tag_step c.in-Some.tag.now (tags_of v.body) c.in-Some.more.now (from_kind v) all
