use Rattle.std.proofs.Common.{◌≡◌, ◌∙◌, ap, sym, Ok}
use Rattle.osm_model.specs.declared.tags.Tag.{Tag}
use Rattle.o5_codec.specs.Results.{and_added}
use Rattle.o5_codec.specs.Text.{text_of, tag_of}
use Rattle.o5_codec.proofs.TextSteps.{tag_read}
use Rattle.o5_codec.proofs.MeaningSteps.{text_meant}
use Rattle.o5_codec.proofs.read.table_entry.TableEntry.add_tag.Goals as goal

pub returns-in_ok-push-in-Text-Text : goal.returns-in_ok-push-in-Text-Text
returns-in_ok-push-in-Text-Text c =
    let key : text_of c.args.self.now.first ≡ Ok c.in-Text-Text.key =
    rw (← c.self.view_is) (text_meant _ _ c.in-Text-Text.is-0 c.self.invariant.first) in
    let value : text_of c.args.self.now.second ≡ Ok c.in-Text-Text.value =
    rw (← c.self.view_is) (text_meant _ _ c.in-Text-Text.is-1 c.self.invariant.second) in
    let tag : Tag = record { key = c.in_ok-key-in-Text-Text.key; value = c.in_ok-value-in-Text-Text.value } in
    let read : tag_of c.args.self.now ≡ Ok tag = tag_read _ _ _ (rw c.in_ok-key-in-Text-Text.ensures key)
    (rw c.in_ok-value-in-Text-Text.ensures value) in
    ap (and_added c.args.tags.now.items) read ∙ ap Ok (sym c.in_ok-push-in-Text-Text.ensures.items)
