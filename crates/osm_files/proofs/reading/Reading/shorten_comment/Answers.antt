use Rattle.std.proofs.Common.{inr, ap, sym, ◌∙◌, arith, drop, length, ◌≡◌, ◌-◌, ◌+◌, List, [], ◌∷◌, ℕ, rules, take}
use Rattle.osm_files.proofs.CommentLaws.{begins_comment}
use Rattle.osm_files.proofs.reading.Reading.shorten_comment.Goals as goal

pub returns-in-Some-Lines : goal.returns-in-Some-Lines
returns-in-Some-Lines g c =
    let held : List ℕ = c.self.inside.read_buffer in
    let begins : held ≡ 35 ∷ drop 1 held = begins_comment held (omega arith) (search rules) in
    let size : c.len-held.result - 1 ≡ length (drop 1 held) = omega (arith, ap length begins) in
    let one : c.truncate.new.self ≡ 35 ∷ [] = c.truncate.ensures ∙ ap (take 1) begins in
    inr (
      search rules,
      (
        drop 1 held,
        sym (ap (λ v. v.held) c.self.view_is) ∙ begins,
        (λ i. record (c.self.view_is i) { offset = (c.self.view_is i).offset + size i; held = one i }),
      ),
    )
