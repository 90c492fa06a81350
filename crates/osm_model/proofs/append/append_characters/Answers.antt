use Rattle.std.proofs.Common.{◌≡◌, ◌++◌, ◌<◌, ◌≤◌, drop, length, arith, refl, sym, ap, ◌∙◌, append-nil, append_assoc, is_ok, rules}
use Rattle.std.specs.Str.{chars, IsUtf8}
use Rattle.std.proofs.StrCases.{chars_of_empty}
use Rattle.std.proofs.lemmas.List.{length-drop}
use Rattle.osm_model.specs.Escape.{escape}
use Rattle.osm_model.proofs.CursorLaws.{text_more}
use Rattle.osm_model.proofs.AppendLaws.{plain_stretch}
use Rattle.osm_model.proofs.ExtendsLaws.{extends_trans, extends_or_same}
use Rattle.osm_model.proofs.append.append_characters.Goals as goal

pub returns-in_default-clause-appended : goal.returns-in_default-clause-appended
returns-in_default-clause-appended c =
    let now = c.extend_from_slice.new.self.items in
    let end = c.append_four_digit_run.new.out.items in
    let plain = plain_stretch _ c.characters.out.items c.characters.rest.now _ _ now c.characters.invariant.1 c.raw_length.ensures.escape
    (search rules) in
    let back : drop c.raw_length.result c.characters.rest.now ≡ c.split_at.result.1.now = search rules in
    let after : c.in_ok-after.after.now ≡ c.chars-characters.result.rest.now = search rules in
    let none = chars_of_empty c.chars-characters.result.rest.now c.in_default.ensures.steps.0.0 in
    sym (plain ∙ ap (λ bytes. now ++ escape (chars bytes)) back ∙ c.in_ok-after.ensures.appended
    ∙ ap (λ bytes. end ++ escape (chars bytes)) after ∙ ap (λ cs. end ++ escape cs) none ∙ append-nil end)

pub characters-smaller : goal.characters-smaller
characters-smaller c =
    let rest = c.characters.rest.now in
    let back : c.split_at.result.1.now ≡ drop c.raw_length.result rest = search rules in
    let fewer : length c.split_at.result.1.now ≤ length rest = omega (arith, ap length back ∙ length-drop c.raw_length.result rest) in
    let after : length c.in_ok-after.after.now ≡ length c.chars-characters.result.rest.now = ap length (search rules) in
    let next : length c.next.new.self.rest.now < length c.chars-characters.result.rest.now = search rules in
    let kept : length c.as_str-rest-in-characters.result.now ≡ length c.next.new.self.rest.now =
    ap length c.as_str-rest-in-characters.ensures in
    omega (arith, fewer, after, next, kept, c.in_ok-after.ensures.shorter)

pub characters-preserved : goal.characters-preserved
characters-preserved c =
    let now = c.extend_from_slice.new.self.items in
    let end = c.append_four_digit_run.new.out.items in
    let plain = plain_stretch _ c.characters.out.items c.characters.rest.now _ _ now c.characters.invariant.1 c.raw_length.ensures.escape
    (search rules) in
    let back : drop c.raw_length.result c.characters.rest.now ≡ c.split_at.result.1.now = search rules in
    let after : c.in_ok-after.after.now ≡ c.chars-characters.result.rest.now = search rules in
    let utf8 : IsUtf8 c.in_ok-after.after.now = search rules in
    let more = text_more c.chars-characters.result.rest.now c.next.new.self.rest.now _ _ _ utf8 after c.in-Some.ensures.steps.0 refl in
    let rest = c.as_str-rest-in-characters in (
      rest.utf8,
      plain
          ∙ ap (λ bytes. now ++ escape (chars bytes)) back
          ∙ c.in_ok-after.ensures.appended
          ∙ ap (λ bytes. end ++ escape (chars bytes)) after
          ∙ ap (λ text. end ++ text) more.0
          ∙ sym (append_assoc end _ _)
          ∙ (λ i. sym c.in_ok-append_escaped.ensures.appended i ++ escape (chars (sym rest.ensures i))),
      extends_trans (extends_trans c.characters.invariant.2
          (extends_or_same (is_ok c.extend_from_slice.result) _ c.extend_from_slice.ensures.items))
          (extends_trans c.append_four_digit_run.ensures.kept c.append_escaped.ensures.kept),
    )
