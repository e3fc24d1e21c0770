use Rattle.std.proofs.Common.{arith, ◌+◌}
use Rattle.pdw_lex.proofs.NumberLemmas.{value_more, value_so_far}
use Rattle.pdw_lex.proofs.number.wide_value.Goals as goal

pub returns-in_err-checked_mul : goal.returns-in_err-checked_mul
returns-in_err-checked_mul c =
    let more = value_more c.args.digits.now c.loop-digit.digit-index c.requires c.loop-digit-test.true in
    let front = value_so_far c.args.digits.now (c.loop-digit.digit-index + 1) in
    rw c.from_residual.ensures (omega (arith, c.in_err-checked_mul.ensures))

pub returns-in_err-value : goal.returns-in_err-value
returns-in_err-value c =
    let more = value_more c.args.digits.now c.loop-digit.digit-index c.requires c.loop-digit-test.true in
    let front = value_so_far c.args.digits.now (c.loop-digit.digit-index + 1) in
    rw c.from_residual-in_err-value.ensures (omega (arith, c.in_err-value.ensures, c.in_ok-checked_mul.ensures, c.from.ensures))

pub loop-digit-preserved : goal.loop-digit-preserved
loop-digit-preserved c = let more = value_more c.args.digits.now c.loop-digit.digit-index c.requires c.loop-digit-test.true in omega arith
