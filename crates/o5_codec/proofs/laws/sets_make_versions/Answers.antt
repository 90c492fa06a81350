use Rattle.std.proofs.Common.{refl}
use Rattle.o5_codec.specs.Decoder.{new_segment}
use Rattle.o5_codec.proofs.SoundSets.{sets_versions}
use Rattle.o5_codec.proofs.laws.sets_make_versions.Goals as goal

pub returns : goal.returns
returns c = λ sets versions end h. (sets_versions new_segment sets (versions, end) refl h).0
