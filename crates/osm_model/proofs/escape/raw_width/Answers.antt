use Rattle.std.proofs.Common.{rules, sym, ◌∙◌}
use Rattle.osm_model.proofs.RawLaws.{lead, width-byte, width-lead, width-other}
use Rattle.osm_model.proofs.escape.raw_width.Goals as goal

pub bounds-text-1 : goal.bounds-text-1
bounds-text-1 c =
    let is = lead c.args.text.now c.requires.some c.requires.utf8 in
    let more = (is.latin c.in-194.is).0 in
    search rules

pub latin_width-requires : goal.latin_width-requires
latin_width-requires c = let is = lead c.args.text.now c.requires.some c.requires.utf8 in
    ((is.latin c.in-194.is).1, (is.latin c.in-194.is).2)

pub returns-then-is_raw_byte : goal.returns-then-is_raw_byte
returns-then-is_raw_byte c = width-byte _ _ _ _ (lead c.args.text.now c.requires.some c.requires.utf8) (search rules)

pub returns-then-is_raw_lead : goal.returns-then-is_raw_lead
returns-then-is_raw_lead c = width-lead _ _ _ _ (lead c.args.text.now c.requires.some c.requires.utf8) (search rules)

pub returns-in-194 : goal.returns-in-194
returns-in-194 c =
    let is = lead c.args.text.now c.requires.some c.requires.utf8 in
    c.latin_width.ensures ∙ sym (is.latin c.in-194.is).3

pub returns-in_default-3 : goal.returns-in_default-3
returns-in_default-3 c = width-other _ _ _ _ (lead c.args.text.now c.requires.some c.requires.utf8) (search rules) (search rules)
    (search rules)
