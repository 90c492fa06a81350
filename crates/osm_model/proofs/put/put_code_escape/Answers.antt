use Rattle.std.proofs.Common.{◌≡◌, ◌∷◌, ◌++◌, ◌-◌, [], length, replicate, arith, append_assoc, ap, sym, ◌∙◌}
use Rattle.osm_model.specs.Numeral.{numeral, pad_zeros}
use Rattle.osm_model.specs.Escape.{code_escape, escape_width}
use Rattle.osm_model.proofs.put.put_code_escape.Goals as goal

pub returns-clause-written : goal.returns-clause-written
unfolding code_escape pad_zeros
returns-clause-written c =
    let code = c.args.code in
    let zeros : c.saturating_sub-zeros.result ≡ escape_width code - length (numeral 16 code) =
    rw (c.saturating_sub-zeros.ensures, c.escape_width.ensures.value) (ap (λ n. escape_width code - n) (omega arith)) in
    let rest = c.put_hex-digits.ensures.written ∙ ap (λ t. numeral 16 code ++ t) c.put_byte-mark.ensures.written in
    let all = c.put_zeros-padded.ensures.written ∙ (λ i. replicate (zeros i) 48 ++ rest i) in
    c.put_byte.ensures.written ∙ ap (λ t. 37 ∷ t) (all ∙ sym (append_assoc _ (numeral 16 code) _) ∙ sym (append_assoc _ (37 ∷ []) _))
