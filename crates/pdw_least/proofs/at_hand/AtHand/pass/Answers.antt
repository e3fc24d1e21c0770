use Rattle.std.proofs.Common.{◌||◌, ◌+◌, Bool, List, sym, subst, take}
use Rattle.std.proofs.lemmas.List.{take_more}
use Rattle.pdw_move.specs.declared.kinds.Prop.{Prop}
use Rattle.pdw_least.proofs.Tables.{row-small}
use Rattle.pdw_least.specs.Premises.{costs_of}
use Rattle.pdw_least.specs.States.{IsPassing}
use Rattle.pdw_least.proofs.at_hand.AtHand.pass.Goals as goal

pub moves_to-requires-clause-small : goal.moves_to-requires-clause-small
moves_to-requires-clause-small c = row-small c.args.self.now.groups.now (costs_of c.args.self.now.costing.now) c.args.self.now.lists.now c.args.self.now.number c.args.self.now.group.now c.requires.premises.light
    c.args.self.now.props.now c.loop-wanted.row c.loop-wanted.log c.loop-wanted.invariant.going

pub loop-wanted-preserved : goal.loop-wanted-preserved
loop-wanted-preserved c =
    subst (λ (fell : Bool). IsPassing c.args.self.now.groups.now (costs_of c.args.self.now.costing.now) c.args.self.now.lists.now c.args.self.now.number c.args.self.now.group.now c.args.self.now.props.now c.args.log.now c.args.row.now (take (c.loop-wanted.wanted-index + 1) c.args.self.now.props.now) fell c.moves_to.new.row c.moves_to.new.log)
    (sym c.either-fell.ensures)
    (subst (λ (done : List Prop). IsPassing c.args.self.now.groups.now (costs_of c.args.self.now.costing.now) c.args.self.now.lists.now c.args.self.now.number c.args.self.now.group.now c.args.self.now.props.now c.args.log.now c.args.row.now done (c.loop-wanted.fell || c.in_ok-more.more) c.moves_to.new.row c.moves_to.new.log)
    (sym (take_more c.args.self.now.props.now c.loop-wanted.wanted-index _ c.loop-wanted-test.true))
    (c.in_ok-more.ensures c.args.self.now.props.now c.args.log.now c.args.row.now (take c.loop-wanted.wanted-index c.args.self.now.props.now) c.loop-wanted.fell c.loop-wanted.invariant))
