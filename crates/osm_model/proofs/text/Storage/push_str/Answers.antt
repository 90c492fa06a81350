use Rattle.std.proofs.Common.{rules, string_bytes}
use Rattle.std.proofs.lemmas.Str.{IsUtf8-string_bytes}
use Rattle.osm_model.specs.Storage.{bytes_of}
use Rattle.osm_model.proofs.TextLaws.{appended_chars}
use Rattle.osm_model.proofs.text.Storage.push_str.Goals as goal

pub returns-then-is_ok-clause-appended :
    goal.returns-then-is_ok-clause-appended
returns-then-is_ok-clause-appended c =
    appended_chars (bytes_of c.args.self.now) c.args.characters.now c.try_push_str.new.self.bytes (search (rules, c.as_str-text.utf8))
    (search rules)

pub returns-in_ok-concat-in-InlineRaw-clause-appended :
    goal.returns-in_ok-concat-in-InlineRaw-clause-appended
returns-in_ok-concat-in-InlineRaw-clause-appended c =
    appended_chars (bytes_of c.args.self.now) c.args.characters.now (string_bytes c.in_ok-concat-in-InlineRaw.field-0)
    (search (rules, c.as_str-text.utf8)) (search rules)

pub returns-then-within-characters-le-INLINE_TEXT_BYTES-clause-appended :
    goal.returns-then-within-characters-le-INLINE_TEXT_BYTES-clause-appended
returns-then-within-characters-le-INLINE_TEXT_BYTES-clause-appended c =
    appended_chars (bytes_of c.args.self.now) c.args.characters.now c.push_str.new.self.bytes (search (rules, c.as_str-within.utf8))
    (search rules)

pub returns-in_ok-concat-in-Inline-clause-appended :
    goal.returns-in_ok-concat-in-Inline-clause-appended
returns-in_ok-concat-in-Inline-clause-appended c =
    appended_chars (bytes_of c.args.self.now) c.args.characters.now (string_bytes c.in_ok-concat-in-Inline.field-0)
    (search (rules, c.as_str-within.utf8)) (search rules)

pub returns-in_ok-push_str-in-Heap-clause-appended :
    goal.returns-in_ok-push_str-in-Heap-clause-appended
returns-in_ok-push_str-in-Heap-clause-appended c =
    appended_chars (bytes_of c.args.self.now) c.args.characters.now (string_bytes c.push_str-in-Heap.new.self)
    (search (rules, IsUtf8-string_bytes c.in-Heap.string)) (search rules)
