use Rattle.std.proofs.Common.{◌≡◌, sym, subst, rules}
use Rattle.std.specs.Prelude.{◌≢◌}
use Rattle.pdw_walk.specs.Exprs.{expr}
use Rattle.pdw_walk.specs.Walk.{Walks, refused}
use Rattle.pdw_walk.specs.declared.fault.JudgeFault.TheVariants.{Memory}
use Rattle.pdw_resolve.proofs.Chains.{chain-ends, chain-stops}
use Rattle.pdw_resolve.proofs.exprs.+exprs.Goals as goal

pub expr-returns-in_ok-links-in-Chain : goal.expr-returns-in_ok-links-in-Chain
expr-returns-in_ok-links-in-Chain t c =
    subst (λ o. Walks o c.chained.result c.operands.new.walk)
    (sym (chain-ends c.args.place.now c.args.walk.now c.in-Chain.is c.get-in-Chain.ensures c.as_slice.ensures c.in_ok-start-in-Chain.ensures c.in_ok-links-in-Chain.ensures))
    (c.chained.ensures c.operands.new.walk)

pub expr-returns-in_err-links-in-Chain : goal.expr-returns-in_err-links-in-Chain
expr-returns-in_err-links-in-Chain t c =
    let stops : (c.in_err-links-in-Chain.field-0.0 ≢ Memory → expr c.args.value.now c.args.place.now c.args.walk.now ≡ refused c.in_err-links-in-Chain.field-0.0)
    = λ other. chain-stops c.args.place.now c.args.walk.now c.in-Chain.is c.get-in-Chain.ensures c.as_slice.ensures c.in_ok-start-in-Chain.ensures (c.in_err-links-in-Chain.ensures other) in
    search rules
