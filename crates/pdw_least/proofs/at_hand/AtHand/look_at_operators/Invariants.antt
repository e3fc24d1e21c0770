use Rattle.std.proofs.Common.{take}
use Rattle.pdw_least.specs.Premises.{costs_of}
use Rattle.pdw_least.specs.States.{IsLocalDone}
use Rattle.pdw_least.proofs.at_hand.AtHand.look_at_operators.Given as goal

-- operators are looked at for the properties so far
abbrev pub invariant-loop-wanted : goal.invariant-loop-wanted
invariant-loop-wanted l = IsLocalDone l.self.groups.now (costs_of l.self.costing.now) l.self.lists.now l.self.number l.self.group.now (take l.wanted-index l.self.props.now) l.row l.log
