use Rattle.std.proofs.Common.{◌<◌, ◌^◌, length, sym, subst}
use Rattle.std.specs.List.{AllByRecursion}
use Rattle.pdw_memo.proofs.MemoSizes.{memo-few}
use Rattle.pdw_plan.specs.Cost.{costs_in}
use Rattle.pdw_ways.specs.Bounds.{bound_in}
use Rattle.pdw_cert.proofs.Reckoned.{small-bounds}
use Rattle.pdw_cert.proofs.Validity.{valid-of-fine}
use Rattle.pdw_cert.specs.TooHigh.{IsFine, IsFirstTooHigh, all_made}
use Rattle.pdw_cert.proofs.verdict.bound_fault.Goals as goal

pub first_too_high-requires-clause-few : goal.first_too_high-requires-clause-few
first_too_high-requires-clause-few c = subst (λ groups. length groups < 2 ^ 32) (sym c.groups.ensures.groups) (memo-few c.args.p.now.memo.now c.groups.ensures.memo).0

pub first_too_high-requires-clause-small : goal.first_too_high-requires-clause-small
first_too_high-requires-clause-small c = small-bounds c.groups.result.now c.args.lists.now c.requires.small

pub returns-in-Some : goal.returns-in-Some
returns-in-Some c = λ is plan written shaped.
    (shaped, subst (λ groups. IsFirstTooHigh groups (costs_in c.args.p.now.memo.now is c.args.p.now.book.now c.args.p.now.n c.args.p.now.constants.now) (bound_in groups c.args.lists.now) (all_made groups) c.in-Some.high) c.groups.ensures.groups (c.in-Some.ensures is))

pub returns-in-None : goal.returns-in-None
returns-in-None c = λ is plan written shaped. (
  shaped,
  valid-of-fine c.args.p.now.memo.now.groups (costs_in c.args.p.now.memo.now is c.args.p.now.book.now c.args.p.now.n c.args.p.now.constants.now) (bound_in c.args.p.now.memo.now.groups c.args.lists.now)
      (subst (λ groups. AllByRecursion (IsFine groups (costs_in c.args.p.now.memo.now is c.args.p.now.book.now c.args.p.now.n c.args.p.now.constants.now) (bound_in groups c.args.lists.now)) (all_made groups)) c.groups.ensures.groups (c.in-None.ensures is)),
)
