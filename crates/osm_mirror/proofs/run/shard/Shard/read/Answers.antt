use Rattle.std.proofs.Common.{◌≡◌, ◌≤◌, ℕ, None, lit<, arith, refl, sym, ◌∙◌, rules}
use Rattle.osm_mirror.specs.run.Shard.{SpellsShard}
use Rattle.osm_mirror.proofs.run_laws.ShardTextLaws.{slash_in, numbers_in}
use Rattle.osm_mirror.proofs.run.shard.Shard.read.Goals as goal

pub returns-in_default-clause-none : goal.returns-in_default-clause-none
returns-in_default-clause-none c =
    λ _ number count s. absurd (omega (arith, slash_in c.args.text.now number count s, c.in_default.ensures.byte (lit< tt) (λ w o h. h)))

pub returns-in_default-2-clause-none : goal.returns-in_default-2-clause-none
returns-in_default-2-clause-none c =
    let at = c.in-Some.ensures.byte (lit< tt) (λ w o h. h) in
    λ _ number count s.
    let numbers = numbers_in c.args.text.now _ _ number count at.0 at.1 s in
    c.read_decimal-2.ensures.none c.in_default-2.is-1 count (omega (arith, s.few)) numbers.1

pub returns-in_default-2-2-clause-none : goal.returns-in_default-2-2-clause-none
returns-in_default-2-2-clause-none c =
    let at = c.in-Some.ensures.byte (lit< tt) (λ w o h. h) in
    λ _ number count s.
    let numbers = numbers_in c.args.text.now _ _ number count at.0 at.1 s in
    c.read_decimal.ensures.none c.in_default-2.is-0 number (omega (arith, s.few, s.within)) numbers.0

pub returns-in-Some-Some-clause-none : goal.returns-in-Some-Some-clause-none
returns-in-Some-Some-clause-none c =
    let at = c.in-Some.ensures.byte (lit< tt) (λ w o h. h) in
    λ none number count s.
    let numbers = numbers_in c.args.text.now _ _ number count at.0 at.1 s in
    let one : number ≡ c.in-Some-Some.number = numbers.0.value ∙ sym c.in-Some-Some.ensures.number.value in
    let two : count ≡ c.in-Some-Some.count = numbers.1.value ∙ sym c.in-Some-Some.ensures'.number.value in
    let first : 1 ≤ c.in-Some-Some.number = omega (arith, one, s.first) in
    let within : c.in-Some-Some.number ≤ c.in-Some-Some.count = omega (arith, one, two, s.within) in
    let some = rw none at (c.new.ensures.some.1 (first, within, omega (arith, two, s.few))) in
    cc
