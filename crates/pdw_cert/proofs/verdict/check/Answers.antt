use Rattle.std.proofs.Common.{◌≡◌, ◌<◌, ◌^◌, ◌∙◌, length, refl, sym, subst}
use Rattle.pdw_memo.proofs.MemoSizes.{memo-few}
use Rattle.pdw_plan.specs.Cost.{costs_in}
use Rattle.pdw_cert.proofs.Looked.{carried}
use Rattle.pdw_cert.proofs.Verdicts.{accepted-is-least}
use Rattle.pdw_cert.specs.Shape.{least_of_root}
use Rattle.pdw_cert.specs.Verdict.{IsBounded, IsFault, IsPriced, IsShaped}
use Rattle.pdw_cert.proofs.verdict.check.Goals as goal

pub shape_fault-requires : goal.shape_fault-requires
shape_fault-requires c = record { few = subst (λ groups. length groups < 2 ^ 32) (sym c.groups-groups.ensures.groups) (memo-few c.args.p.now.memo.now c.groups-groups.ensures.memo).0 }

pub returns-in-Some-shape_fault-clause-verdict : goal.returns-in-Some-shape_fault-clause-verdict
returns-in-Some-shape_fault-clause-verdict c = λ is.
    let costs = costs_in c.args.p.now.memo.now is c.args.p.now.book.now c.args.p.now.n c.args.p.now.constants.now in
    let priced = c.in_default.ensures is c.args.bounds.now.lists in
    carried (λ groups lists. IsPriced groups costs c.args.plan.now c.args.written lists → IsFault groups costs c.args.plan.now c.args.written lists c.in-Some-shape_fault.fault)
    c.groups-groups.ensures.groups c.as_slice-lists.ensures (c.in-Some-shape_fault.ensures costs c.args.plan.now c.args.written) priced

pub returns-in-Some-bound_fault-clause-verdict : goal.returns-in-Some-bound_fault-clause-verdict
returns-in-Some-bound_fault-clause-verdict c = λ is.
    let costs = costs_in c.args.p.now.memo.now is c.args.p.now.book.now c.args.p.now.n c.args.p.now.constants.now in
    let priced = c.in_default.ensures is c.args.bounds.now.lists in
    let shaped = carried (λ groups lists. IsPriced groups costs c.args.plan.now c.args.written lists → IsShaped groups costs c.args.plan.now c.args.written lists)
    c.groups-groups.ensures.groups c.as_slice-lists.ensures (c.in_default-shape_fault.ensures costs c.args.plan.now c.args.written) priced in
    subst (λ lists. IsShaped c.args.p.now.memo.now.groups costs c.args.plan.now c.args.written lists → IsFault c.args.p.now.memo.now.groups costs c.args.plan.now c.args.written lists c.in-Some-bound_fault.fault)
    c.as_slice-lists.ensures (c.in-Some-bound_fault.ensures is c.args.plan.now c.args.written) shaped

pub returns-then-is_cost-clause-verdict : goal.returns-then-is_cost-clause-verdict
returns-then-is_cost-clause-verdict c = λ is.
    let costs = costs_in c.args.p.now.memo.now is c.args.p.now.book.now c.args.p.now.n c.args.p.now.constants.now in
    let priced = c.in_default.ensures is c.args.bounds.now.lists in
    let shaped = carried (λ groups lists. IsPriced groups costs c.args.plan.now c.args.written lists → IsShaped groups costs c.args.plan.now c.args.written lists)
    c.groups-groups.ensures.groups c.as_slice-lists.ensures (c.in_default-shape_fault.ensures costs c.args.plan.now c.args.written) priced in
    let bounded = subst (λ lists. IsShaped c.args.p.now.memo.now.groups costs c.args.plan.now c.args.written lists → IsBounded c.args.p.now.memo.now.groups costs c.args.plan.now c.args.written lists)
    c.as_slice-lists.ensures (c.in_default-bound_fault.ensures is c.args.plan.now c.args.written) shaped in
    let root = carried (λ groups lists. c.least_of_root-bound.result ≡ least_of_root groups lists) c.groups-groups.ensures.groups c.as_slice-lists.ensures c.least_of_root-bound.ensures in
    (bounded, (refl, sym root ∙ c.if-is_cost.ensures))

pub returns-then-is_cost-clause-law : goal.returns-then-is_cost-clause-law
returns-then-is_cost-clause-law c = λ is.
    let costs = costs_in c.args.p.now.memo.now is c.args.p.now.book.now c.args.p.now.n c.args.p.now.constants.now in
    let priced = c.in_default.ensures is c.args.bounds.now.lists in
    let shaped = carried (λ groups lists. IsPriced groups costs c.args.plan.now c.args.written lists → IsShaped groups costs c.args.plan.now c.args.written lists)
    c.groups-groups.ensures.groups c.as_slice-lists.ensures (c.in_default-shape_fault.ensures costs c.args.plan.now c.args.written) priced in
    let bounded = subst (λ lists. IsShaped c.args.p.now.memo.now.groups costs c.args.plan.now c.args.written lists → IsBounded c.args.p.now.memo.now.groups costs c.args.plan.now c.args.written lists)
    c.as_slice-lists.ensures (c.in_default-bound_fault.ensures is c.args.plan.now c.args.written) shaped in
    let root = carried (λ groups lists. c.least_of_root-bound.result ≡ least_of_root groups lists) c.groups-groups.ensures.groups c.as_slice-lists.ensures c.least_of_root-bound.ensures in
    accepted-is-least c.args.p.now.memo.now.groups costs c.args.plan.now c.args.written c.args.bounds.now.lists c.args.written (bounded, (refl, sym root ∙ c.if-is_cost.ensures))

pub returns-clause-verdict : goal.returns-clause-verdict
returns-clause-verdict c = λ is.
    let costs = costs_in c.args.p.now.memo.now is c.args.p.now.book.now c.args.p.now.n c.args.p.now.constants.now in
    let priced = c.in_default.ensures is c.args.bounds.now.lists in
    let shaped = carried (λ groups lists. IsPriced groups costs c.args.plan.now c.args.written lists → IsShaped groups costs c.args.plan.now c.args.written lists)
    c.groups-groups.ensures.groups c.as_slice-lists.ensures (c.in_default-shape_fault.ensures costs c.args.plan.now c.args.written) priced in
    let bounded = subst (λ lists. IsShaped c.args.p.now.memo.now.groups costs c.args.plan.now c.args.written lists → IsBounded c.args.p.now.memo.now.groups costs c.args.plan.now c.args.written lists)
    c.as_slice-lists.ensures (c.in_default-bound_fault.ensures is c.args.plan.now c.args.written) shaped in
    let root = carried (λ groups lists. c.least_of_root-bound.result ≡ least_of_root groups lists) c.groups-groups.ensures.groups c.as_slice-lists.ensures c.least_of_root-bound.ensures in
    (bounded, (refl, (sym root, c.if-is_cost.ensures)))
