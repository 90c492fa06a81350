use Rattle.std.proofs.Common.{sym, arith, rules}
use Rattle.o5_codec.proofs.RawByteLaws.{raw_mark}
use Rattle.o5_codec.proofs.read.raw.is_raw_byte.Goals as goal

pub returns : goal.returns
returns c = rw (sym (raw_mark c.args.byte (omega arith))) (search rules)
