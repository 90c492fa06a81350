use Rattle.std.proofs.Common.{◌∙◌, inl, inr, ⊎_elim, refl, ap}
use Rattle.std.proofs.lemmas.Result.{err_from_is_err_and}
use Rattle.osm_files.proofs.file_runs.read_to_end.Goals as goal

pub versions-init : goal.versions-init
versions-init g c = λ later gives. (later, gives, refl)

pub returns-in_err-version-clause-refused : goal.returns-in_err-version-clause-refused
returns-in_err-version-clause-refused g c =
    let later = g.S.Source.one c.next.new.self in
    let y = c.in_err-version.ensures.step later (g.S.Source.possible c.next.new.self) in
    let x = c.versions.invariant y.0 y.1 in
    let p = err_from_is_err_and c.from_residual.result c.from_residual.ensures.1 in
    rw (p.1, p.2) (⊎_elim (λ memory. inl memory) (λ is. inr (x.0, x.1, x.2 ∙ ap (λ s. s.refusal) is)) y.2.0)

pub returns-in-None-clause-whole : goal.returns-in-None-clause-whole
returns-in-None-clause-whole g c =
    let later = g.S.Source.one c.next.new.self in
    let step = rw c.in-None.is at c.in_ok-version.ensures.step in
    let y = step later (g.S.Source.possible c.next.new.self) in
    let x = c.versions.invariant y.0 y.1 in
    (x.0, x.1, x.2 ∙ ap (λ s. s.refusal) y.2.0)
