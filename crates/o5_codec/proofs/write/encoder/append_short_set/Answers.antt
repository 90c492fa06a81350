use Rattle.std.proofs.Common.{◌≡◌, ◌∙◌, ◌-◌, ◌++◌, OnOk, drop, length, sym, ap, arith, subst}
use Rattle.std.proofs.lemmas.List.{length-drop}
use Rattle.o5_codec.proofs.ShortestSteps.{write_one}
use Rattle.o5_codec.proofs.write.encoder.append_short_set.Goals as goal

pub returns-clause-bytes : goal.returns-clause-bytes
returns-clause-bytes c =
    let content = drop 2 c.args.set.now in
    let size : c.len.result - 2 ≡ length content = ap (λ n. n - 2) c.len.ensures ∙ sym (length-drop 2 c.args.set.now) in
    rw (write_one (length content) (omega (arith, sym size, c.len.ensures, c.requires.short)), ← size)
    (subst (λ set. OnOk c.append_to.result (c.append_to.new.out.items ≡ c.args.out.now.items ++ set))
    (rw (c.type_byte.ensures) at c.if-not-set_front.ensures.set) c.append_to.ensures.appended)
