use Rattle.std.proofs.Common.{◌≡◌, ◌⊎◌, subst, refl, false}
use Rattle.o5_codec.specs.Decoder.{DecoderState}
use Rattle.o5_codec.specs.Refusal.{SetReason}
use Rattle.o5_codec.specs.declared.reason.O5Reason.TheVariants as o5
use Rattle.examples.proofs.content.first_version.Goals as goal

pub returns-in-Err-clause-refused : goal.returns-in-Err-clause-refused
returns-in-Err-clause-refused c =
    let reason = c.in-Err.reason in
    subst (λ (s : DecoderState). s.failed ≡ false → (reason ≡ o5.Memory) ⊎ SetReason c.args.kind s.segment c.args.content.now reason)
    c.in_ok-decoder.ensures c.in-Err.ensures.refused refl
