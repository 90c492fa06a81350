use Rattle.std.proofs.Common.{◌≡◌, ◌++◌, ◌∷◌, [], ◌/◌, ◌%◌, ◌+◌, take, arith, rules, ap, sym, ◌∙◌, append_assoc}
use Rattle.opl_line.proofs.StraightTextLaws.{two_bytes, three_bytes}
use Rattle.opl_line.proofs.straight.text.put_character.Goals as goal

pub returns-then-code-lt2048-clause-appended : goal.returns-then-code-lt2048-clause-appended
returns-then-code-lt2048-clause-appended c =
    let code = c.args.character in
    let front = take c.args.count c.args.buffer.now in
    let first : take c.put_byte-end.result c.put_byte-end.new.buffer ≡ front ++ (192 + code / 64) ∷ [] = search rules in
    let second : take c.put_byte.result c.put_byte.new.buffer
    ≡ take c.put_byte-end.result c.put_byte-end.new.buffer ++ (128 + code % 64) ∷ [] = search rules in
    second ∙ ap (λ t. t ++ (128 + code % 64) ∷ []) first ∙ append_assoc front _ _
    ∙ ap (λ t. front ++ t) (sym (two_bytes code (omega arith) (omega arith)))

pub returns-clause-appended : goal.returns-clause-appended
returns-clause-appended c =
    let code = c.args.character in
    let front = take c.args.count c.args.buffer.now in
    let first : take c.put_byte-end-2.result c.put_byte-end-2.new.buffer ≡ front ++ (224 + code / 4096) ∷ [] = search rules in
    let second : take c.put_byte-end-3.result c.put_byte-end-3.new.buffer
    ≡ take c.put_byte-end-2.result c.put_byte-end-2.new.buffer ++ (128 + code / 64 % 64) ∷ [] = search rules in
    let third : take c.put_byte-2.result c.put_byte-2.new.buffer
    ≡ take c.put_byte-end-3.result c.put_byte-end-3.new.buffer ++ (128 + code % 64) ∷ [] = search rules in
    third ∙ ap (λ t. t ++ (128 + code % 64) ∷ []) (second ∙ ap (λ t. t ++ (128 + code / 64 % 64) ∷ []) first ∙ append_assoc front _ _)
    ∙ append_assoc front _ _ ∙ ap (λ t. front ++ t) (sym (three_bytes code (omega arith) (omega arith)))
