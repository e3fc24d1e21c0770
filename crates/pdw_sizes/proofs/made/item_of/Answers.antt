use Rattle.std.proofs.Common.{sym, ap, subst, ◌∙◌, ◌≡◌, true, false, eq-eqb, ne_eqb}
use Rattle.std.specs.Option.{option_and_then}
use Rattle.pdw_base.specs.declared.schema.ColId.{ColId}
use Rattle.pdw_expr.specs.declared.scalar.Scalar.{Scalar}
use Rattle.std.proofs.Common.{Option}
use Rattle.pdw_sizes.proofs.LoopLaws.{lookup-here, lookup-past}
use Rattle.pdw_sizes.specs.Estimate.{is_number}
use Rattle.pdw_sizes.proofs.made.item_of.Goals as goal

pub returns-then-item-c : goal.returns-then-item-c
returns-then-item-c c =
    let x = c.item-item.result in
    let item = c.item-item.is in
    c.as_ref.ensures.value
    ∙ ap (λ (entry : ColId × Option Scalar). entry.1) item
    ∙ sym (ap (option_and_then {T = Option Scalar} {U = Scalar} (λ made. made))
    (lookup-here (is_number c.args.c) c.args.items.now c.loop-item.item-index x c.loop-item-test.true c.loop-item.invariant
    (subst (λ (entry : ColId × Option Scalar). is_number c.args.c entry.0 ≡ true) item (eq-eqb x.0.0 c.args.c.0 c.if-item-c.true))))

pub loop-item-preserved : goal.loop-item-preserved
loop-item-preserved c =
    let x = c.item-item.result in
    lookup-past (is_number c.args.c) c.args.items.now c.loop-item.item-index x c.loop-item-test.true c.loop-item.invariant
    (subst (λ (entry : ColId × Option Scalar). is_number c.args.c entry.0 ≡ false) c.item-item.is (ne_eqb x.0.0 c.args.c.0 c.if-item-c.false))
