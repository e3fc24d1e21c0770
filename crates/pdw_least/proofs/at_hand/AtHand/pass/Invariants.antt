use Rattle.std.proofs.Common.{take}
use Rattle.pdw_least.specs.Premises.{costs_of}
use Rattle.pdw_least.specs.States.{IsPassing}
use Rattle.pdw_least.proofs.at_hand.AtHand.pass.Given as goal

-- the pass has looked at the properties so far
abbrev pub invariant-loop-wanted : goal.invariant-loop-wanted
invariant-loop-wanted l = IsPassing l.self.groups.now (costs_of l.self.costing.now) l.self.lists.now l.self.number l.self.group.now l.self.props.now l.initial.log l.initial.row (take l.wanted-index l.self.props.now) l.fell l.row l.log
