use Rattle.o5_codec.proofs.SoundSets.{set_version}
use Rattle.o5_codec.proofs.laws.sound_sets_make_versions.Goals as goal

pub returns : goal.returns
returns c = set_version
