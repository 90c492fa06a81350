use Rattle.std.proofs.Common.{refl}
use Rattle.opl_line.proofs.JiffDays.{computed, dated, dated_is, small}
use Rattle.opl_line.proofs.time.day_of.Goals as goal

pub overflow_cast-result : goal.overflow_cast-result
overflow_cast-result c =
    let d = dated c.in-Ok.date _ _ _ c.requires.year_in c.requires.month_in c.requires.day_in c.in-Ok.ensures.value in
    let e = computed c.in-Ok.date _ _ _ _ _ d c.to_plain.ensures c.to_unix_epoch_day.ensures.value c.to_unix_epoch_day.ensures.bound in
    rw e (tt, small c.in-Ok.date _ _ _ _ _ d c.to_plain.ensures c.to_unix_epoch_day.ensures.value c.to_unix_epoch_day.ensures.bound)

pub returns : goal.returns
returns c =
    let d = dated c.in-Ok.date _ _ _ c.requires.year_in c.requires.month_in c.requires.day_in c.in-Ok.ensures.value in
    let e = computed c.in-Ok.date _ _ _ _ _ d c.to_plain.ensures c.to_unix_epoch_day.ensures.value c.to_unix_epoch_day.ensures.bound in
    rw (e, dated_is c.in-Ok.date _ _ _ d) refl
