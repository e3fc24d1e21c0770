use Rattle.std.proofs.Common.{◌≤◌, [], ◌∷◌, ◌++◌, ap, length, sym, ◌∙◌, arith}
use Rattle.pdw_enum.proofs.FlowCosts.{flows-all, flows-more}
use Rattle.pdw_enum.proofs.flows.all_flows.Goals as goal

pub loop-number-init : goal.loop-number-init
loop-number-init c = λ is. c.new-flows.ensures

pub loop-number-preserved : goal.loop-number-preserved
loop-number-preserved c = λ is.
    c.in_ok-push.ensures.ok ∙ ap (λ flows. flows ++ c.flow_at.result ∷ []) (c.loop-number.invariant is)
    ∙ sym (flows-more c.args.p.now.memo.now is c.args.p.now.book.now c.args.p.now.n c.loop-number.number c.flow_at.result (c.flow_at.ensures is))

pub returns : goal.returns
returns c = λ is.
    let all : length c.args.p.now.memo.now.groups ≤ c.loop-number.number = (let same = ap length c.groups-count.ensures.groups in omega arith) in
    c.loop-number.invariant is ∙ flows-all c.args.p.now.memo.now is c.args.p.now.book.now c.args.p.now.n c.loop-number.number all
