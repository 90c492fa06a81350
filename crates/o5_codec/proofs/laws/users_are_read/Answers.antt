use Rattle.o5_codec.proofs.UserLaws.{user_found, user_only}
use Rattle.o5_codec.proofs.laws.users_are_read.Goals as goal

pub returns : goal.returns
returns c = λ e x. (user_found e x, user_only e x)
