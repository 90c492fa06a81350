use Rattle.std.proofs.Common.{◌≡◌, ◌++◌, ap, sym, ◌∙◌, is_ok, rules}
use Rattle.std.specs.Str.{chars}
use Rattle.osm_model.specs.Escape.{escape, escape_char}
use Rattle.osm_model.proofs.CursorLaws.{text_more}
use Rattle.osm_model.proofs.AppendLaws.{plain_stretch}
use Rattle.osm_model.proofs.ExtendsLaws.{extends_trans, extends_or_same}
use Rattle.osm_model.proofs.append.append_four_digit_run.Goals as goal

pub escapes-preserved : goal.escapes-preserved
escapes-preserved c =
    let out = c.escapes.out.items in
    let now = c.extend_from_slice.new.self.items in
    let text = c.chars-characters.result.rest.now in
    let same : c.escapes.rest.now ≡ text = search rules in
    let rest = c.as_str-rest in
    let form = escape_char c.in-Some.first in
    let more = text_more text c.next.new.self.rest.now c.escapes.rest.now form c.in-Some.first
    c.escapes.invariant.0 same c.in-Some.ensures.steps.0 (search rules) in
    let appended : now ≡ out ++ form = search rules in (
      rest.utf8,
      plain_stretch _ out c.escapes.rest.now _ rest.result.now now c.escapes.invariant.1
          (ap (λ t. escape (chars t)) same ∙ more.0 ∙ ap (λ t. form ++ escape (chars t)) (sym rest.ensures)) appended,
      search rules,
      extends_trans c.escapes.invariant.3 (extends_or_same (is_ok c.extend_from_slice.result) _ c.extend_from_slice.ensures.items),
    )
