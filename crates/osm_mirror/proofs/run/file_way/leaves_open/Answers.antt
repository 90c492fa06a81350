use Rattle.std.proofs.Common.{◌≡◌, ◌⊎◌, inl, inr, ⊎_elim, length, refl, sym, ap, ◌∙◌}
use Rattle.osm_files.specs.declared.reason.Reason.{Reason}
use Rattle.osm_files.specs.declared.reason.Reason.TheVariants.{Unsorted, TooLong}
use Rattle.osm_mirror.proofs.run.file_way.leaves_open.Goals as goal

pub returns-in-Unsorted : goal.returns-in-Unsorted
returns-in-Unsorted c =
    let is : c.args.fault.reason ≡ Unsorted = c.in-Unsorted.is in (
      λ may. inl (is, c.may_be_split.ensures.0 may),
      λ left. ⊎_elim (λ splits. c.may_be_split.ensures.1 splits.1)
          (λ long. absurd (let e : Unsorted ≡ TooLong = sym is ∙ long.0 in cc)) left,
    )
