use Rattle.std.proofs.Common.{◌≡◌, ◌+◌, ◌++◌, ℕ, length, take, drop, ap, ◌∙◌, subst, arith}
use Rattle.osm_files.specs.UnknownLine.{IsTested}
use Rattle.osm_files.proofs.reading.Reading.drop_tested.Goals as goal

pub returns-clause-dropped : goal.returns-clause-dropped
returns-clause-dropped g c =
    let p = c.args.self.now in
    let n : ℕ = c.extend-front.result.1 in
    let test = c.extend-front.result.0 in
    let held : c.as_slice.result.now ≡ p.held = c.as_slice.ensures ∙ ap (λ v. v.held) c.self.view_is in
    let left : c.skip.new.self ≡ drop n p.held = c.skip.ensures ∙ ap (λ v. drop n v.held) c.self.view_is in (
      n,
      omega (arith, c.extend-front.ensures.within, ap length held),
      (λ i. record (c.self.view_is i) { offset = (c.self.view_is i).offset + n; held = left i }),
      λ front before. subst (λ xs. IsTested test (front ++ take n xs)) held (c.extend-front.ensures.tested front before),
    )
