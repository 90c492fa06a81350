use Rattle.std.proofs.Common.{◌≡◌, ℕ, List, drop, take, length, ◌-◌, rules, ap, ◌∙◌}
use Rattle.std.specs.Str.{chars}
use Rattle.std.proofs.lemmas.List.{take_rest}
use Rattle.std.proofs.lemmas.Str.{IsCharBoundary-from_drop}
use Rattle.osm_model.specs.Escape.{raw_width}
use Rattle.osm_model.proofs.RawLaws.{plain_more, plain_all}
use Rattle.osm_model.proofs.escape.raw_length.Goals as goal

-- the width of the character after an offset
width_after : (bytes text : List ℕ) (n width : ℕ) → bytes ≡ text → width ≡ raw_width (chars (take (length bytes - n) (drop n bytes))) →
    width ≡ raw_width (chars (drop n text))
width_after bytes text n width same is = is ∙ ap (λ rest. raw_width (chars rest)) (take_rest bytes n ∙ ap (drop n) same)

pub returns-then-width-eq0-clause-boundary : goal.returns-then-width-eq0-clause-boundary
returns-then-width-eq0-clause-boundary c = IsCharBoundary-from_drop c.args.text.now c.characters.length c.characters.invariant.within
    c.characters.invariant.utf8

pub characters-preserved : goal.characters-preserved
characters-preserved c =
    plain_more c.args.text.now c.characters.length c.raw_width-width.result c.characters.invariant (search rules)
    (width_after _ _ _ _ c.as_bytes-bytes.ensures.value c.raw_width-width.ensures) c.if-width-eq0.false

pub returns-clause-length : goal.returns-clause-length
returns-clause-length c = plain_all c.args.text.now c.characters.length c.characters.invariant (search rules)
