use Rattle.std.proofs.Common.{sym, arith, subst, ap, ◌∙◌, ◌++◌, set, length}
use Rattle.pdw_catalog.specs.NodeBags.{Extends}
use Rattle.pdw_catalog.proofs.NodeBagsLemmas.{Copied-pushed, Extends-copied, Extends-kept, OnErr-always, length-Copied}
use Rattle.pdw_catalog.proofs.node_bags.NodeBags.copy_to_first.Goals as goal

pub returns-in_err-copies-clause-err : goal.returns-in_err-copies-clause-err
returns-in_err-copies-clause-err c =
    OnErr-always c.from_residual.result
    (subst (λ old. Extends old c.loop-node.self-inside.bags.items) c.self.view_is
    (subst (Extends c.self.inside.bags.items) (sym c.loop-node.invariant) (Extends-copied c.args.rows.now c.loop-node.node c.self.inside.bags.items)))

pub returns-in_err-append-clause-err : goal.returns-in_err-append-clause-err
returns-in_err-append-clause-err c =
    let same = ap length c.loop-node.invariant ∙ length-Copied c.args.rows.now c.loop-node.node c.self.inside.bags.items in
    let view = ap length c.self.view_is in
    OnErr-always c.from_residual-in_err-append.result
    (subst (λ old. Extends old (set c.loop-node.self-inside.bags.items c.loop-node.node c.append.new.self)) c.self.view_is
    (Extends-kept c.args.rows.now c.self.inside.bags.items c.loop-node.self-inside.bags.items c.loop-node.node c.loop-node.node c.index_mut-bag.result.now c.append.new.self
    c.loop-node.invariant (omega (arith, c.requires)) c.index_mut-bag.ensures.value c.in_err-append.ensures.err))

pub loop-node-preserved : goal.loop-node-preserved
loop-node-preserved c =
    let view = ap length c.self.view_is in
    Copied-pushed c.args.rows.now c.self.inside.bags.items c.loop-node.self-inside.bags.items c.loop-node.node c.index_mut-bag.result.now c.append.new.self
    (omega (arith, c.requires)) c.loop-node.invariant c.index_mut-bag.ensures.value
    (c.in_ok-append.ensures.ok ∙ ap (λ rows. c.index_mut-bag.result.now ++ rows) c.in_ok-copies.ensures)
