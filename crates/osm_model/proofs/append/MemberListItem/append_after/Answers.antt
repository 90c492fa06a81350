use Rattle.std.proofs.Common.{◌≡◌, ◌++◌, ◌∷◌, codes, rules, append_assoc}
use Rattle.osm_model.specs.Decimal.{integer_text}
use Rattle.osm_model.specs.Escape.{escape}
use Rattle.osm_model.specs.Kind.{kind_letter}
use Rattle.osm_model.specs.Line.{member_text}
use Rattle.osm_model.proofs.append.MemberListItem.append_after.Goals as goal

pub returns-clause-appended : goal.returns-clause-appended
returns-clause-appended c =
    let front : c.append_from.new.out.items ≡ c.args.out.now.items
    ++ (c.args.mark.now ++ (kind_letter c.args.self.now.kind ∷ (integer_text c.args.self.now.id ++ codes "@"))) = search rules in
    let whole : c.append_from.new.out.items ++ escape c.args.self.now.role ≡ c.args.out.now.items
    ++ (c.args.mark.now ++ member_text c.args.self.now) = rw front (simp append_assoc) in
    rw whole at c.append_text.ensures.appended
