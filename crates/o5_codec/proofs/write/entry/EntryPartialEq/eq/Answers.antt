use Rattle.std.proofs.Common.{◌∙◌, sym}
use Rattle.std.proofs.lemmas.Bool.Decides.{Decides-eqb}
use Rattle.o5_codec.specs.Formed.{same_entry}
use Rattle.o5_codec.specs.EntryHash.{entry_hash}
use Rattle.o5_codec.proofs.EntryBytes.{same_bytes, differ_by}
use Rattle.o5_codec.proofs.write.entry.EntryPartialEq.eq.Goals as goal
use Rattle.o5_codec.proofs.write.entry.EntryPartialEq.eq.Goals.{then-self-other-2, else-self-other-2}

pub returns-then-self-other : goal.returns-then-self-other
returns-then-self-other c =
    differ_by entry_hash c.self.inside.form c.other.inside.form c.self.inside.split c.other.inside.split c.self.inside.bytes.items
    c.other.inside.bytes.items
    (λ same. c.if-self-other.true (c.self.invariant.hashed ∙ same ∙ sym c.other.invariant.hashed))
    ∙ (λ k. same_entry (c.self.view_is k) (c.other.view_is k))

pub returns-then-same : goal.returns-then-same
returns-then-same c =
    elim c.if-self-other-2.branch [
      | then-self-other-2 w ↦
          c.eq.ensures ∙ rw (c.as_slice.ensures, c.as_slice-then-same.ensures)
          (same_bytes c.self.inside.form c.other.inside.form _ _ _ _ w.if-self-other-2.true
          (sym w.is_same-same.ensures ∙ sym w.same-is ∙ c.if-same.true))
          ∙ (λ k. same_entry (c.self.view_is k) (c.other.view_is k))
      | else-self-other-2 w ↦ absurd (w.if-self-other-2.false ((Decides-eqb _ _).0 (sym w.same-is ∙ c.if-same.true)))
    ]
