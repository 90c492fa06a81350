use Rattle.std.proofs.Common.{◌≡◌, not, ◌&&◌, ap, sym, ◌∙◌, eqb, true, Bool, ℕ, List}
use lib.Utf8.{scalars}
use Rattle.std.specs.List.{list_any}
use Rattle.std.proofs.lemmas.Str.{scalars-chars}
use Rattle.osm_model.specs.Text.{has_zero}
use Rattle.osm_model.proofs.TextLaws.{zero_bytes}
use Rattle.osm_model.proofs.text.Text.is_text.Goals as goal

pub returns : goal.returns
returns c =
    let any : List ℕ → Bool = λ bytes. list_any (λ b. eqb b 0) bytes in
    let text = c.args.self.now in
    let bytes = rw c.as_bytes.ensures.value at c.contains.ensures.value in
    let zero : c.contains.result ≡ has_zero text = bytes ∙ ap any c.as_str.ensures.bytes ∙ zero_bytes text in
    let valid : scalars text ≡ true = sym (ap scalars c.as_str.ensures.characters) ∙ scalars-chars _ c.as_str.utf8 in
    ap not zero ∙ ap (λ b. b && not (has_zero text)) (sym valid)
