use Rattle.std.proofs.Common.{◌∙◌, ◌-◌, ◌++◌, drop, length, min, ap, append_assoc}
use Rattle.o5_codec.specs.Block.{filled_bytes}
use Rattle.o5_codec.proofs.FrontLaws.{drop_both}
use Rattle.o5_codec.proofs.write.set_buffer.SetBuffer.append_after_front.Goals as goal

pub returns-clause-appended : goal.returns-clause-appended
returns-clause-appended c =
    let front = c.self.inside.front.items in
    let block = filled_bytes c.self.inside.block in
    let gone = c.min-gone.result in
    rw (
      c.in_ok-extend_from_slice-2.ensures.items,
      c.in_ok-extend_from_slice.ensures.items,
      c.split_at.ensures.back,
      c.split_at-2.ensures.back,
      c.as_slice-front.ensures.value,
      c.as_slice.ensures,
      ← c.self.view_is,
    )
    (append_assoc c.args.out.now.items (drop gone front) (drop (2 - gone) block)
    ∙ ap (λ bytes. c.args.out.now.items ++ bytes) (drop_both front block gone
    (c.min-gone.ensures ∙ ap (λ bytes. min (length bytes) 2) c.as_slice-front.ensures.value)))
