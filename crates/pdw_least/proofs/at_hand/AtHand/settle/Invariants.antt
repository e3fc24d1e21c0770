use Rattle.pdw_least.specs.Premises.{costs_of}
use Rattle.pdw_least.specs.States.{IsInnerGoing, worth}
use Rattle.pdw_least.proofs.at_hand.AtHand.settle.Given as goal

abbrev pub invariant-passes : goal.invariant-passes
invariant-passes l = IsInnerGoing l.self.groups.now (costs_of l.self.costing.now) l.self.lists.now l.self.number l.self.group.now l.self.props.now l.row l.log

-- each pass but the last lowers a bound
abbrev pub decreases-passes : goal.decreases-passes
decreases-passes l = worth l.row
