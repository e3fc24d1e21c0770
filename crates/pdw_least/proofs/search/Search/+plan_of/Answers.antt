use Rattle.std.proofs.Common.{[], ◌∷◌, subst, take}
use Rattle.pdw_move.specs.declared.kinds.Prop.{Prop}
use Rattle.pdw_ways.specs.declared.plan.Plan.TheVariants as plan
use Rattle.pdw_ways.specs.declared.way.Way.{Way}
use Rattle.pdw_least.proofs.ReadsOff.{read-as, read-freed, read-moved, read-one, read-scan, read-two}
use Rattle.pdw_least.specs.Built.{IsLast, IsReadOff}
use Rattle.pdw_least.specs.Premises.{costs_of}
use Rattle.pdw_least.proofs.search.Search.+plan_of.Goals as goal

pub returns-in-Scan : goal.returns-in-Scan
returns-in-Scan t c = read-scan c.args.self.now.groups.now (costs_of c.args.self.now.costing.now) c.args.log.now c.args.made c.last-last.result.number
    (subst (λ (w : Way). IsLast c.args.self.now.groups.now (costs_of c.args.self.now.costing.now) c.args.log.now c.args.made c.last-last.result.number w) c.in-Scan.is c.last-last.ensures)

pub returns-in_ok-below-in-One : goal.returns-in_ok-below-in-One
returns-in_ok-below-in-One t c =
    read-as c.args.self.now.groups.now (costs_of c.args.self.now.costing.now) c.args.log.now c.args.made (plan.Op c.args.made.group c.args.made.prop (c.in_ok-below-in-One.below ∷ []))
    (read-one c.args.self.now.groups.now (costs_of c.args.self.now.costing.now) c.args.log.now c.args.made c.last-last.result.number c.in-One.child
    (subst (λ (w : Way). IsLast c.args.self.now.groups.now (costs_of c.args.self.now.costing.now) c.args.log.now c.args.made c.last-last.result.number w) c.in-One.is c.last-last.ensures) c.in_ok-below-in-One.below c.in_ok-below-in-One.ensures)
    c.over_one.result c.over_one.ensures

pub returns-in-Ok : goal.returns-in-Ok
returns-in-Ok t c =
    read-as c.args.self.now.groups.now (costs_of c.args.self.now.costing.now) c.args.log.now c.args.made (plan.Op c.args.made.group c.args.made.prop (c.in_ok-first-in-Two.first ∷ c.in-Ok.second ∷ []))
    (read-two c.args.self.now.groups.now (costs_of c.args.self.now.costing.now) c.args.log.now c.args.made c.last-last.result.number c.in-Two.left c.in-Two.right
    (subst (λ (w : Way). IsLast c.args.self.now.groups.now (costs_of c.args.self.now.costing.now) c.args.log.now c.args.made c.last-last.result.number w) c.in-Two.is c.last-last.ensures) c.in_ok-first-in-Two.first c.in-Ok.second c.in_ok-first-in-Two.ensures c.in-Ok.ensures)
    c.over_two.result c.over_two.ensures

pub returns-in_ok-below-in-Moved : goal.returns-in_ok-below-in-Moved
returns-in_ok-below-in-Moved t c =
    read-as c.args.self.now.groups.now (costs_of c.args.self.now.costing.now) c.args.log.now c.args.made (plan.Moved c.in-Moved.mv c.in_ok-below-in-Moved.below)
    (read-moved c.args.self.now.groups.now (costs_of c.args.self.now.costing.now) c.args.log.now c.args.made c.last-last.result.number c.in-Moved.mv
    (subst (λ (w : Way). IsLast c.args.self.now.groups.now (costs_of c.args.self.now.costing.now) c.args.log.now c.args.made c.last-last.result.number w) c.in-Moved.is c.last-last.ensures) c.in_ok-below-in-Moved.below
    (subst (λ (q : Prop). IsReadOff c.args.self.now.groups.now (costs_of c.args.self.now.costing.now) (take c.last-last.result.number c.args.log.now) c.in_ok-below-in-Moved.below (record { group = c.args.made.group; prop = q })) c.from.ensures c.in_ok-below-in-Moved.ensures))
    c.moved.result c.moved.ensures

pub returns-in_ok-below-in-Free : goal.returns-in_ok-below-in-Free
returns-in_ok-below-in-Free t c =
    read-as c.args.self.now.groups.now (costs_of c.args.self.now.costing.now) c.args.log.now c.args.made (plan.Free c.args.made.prop c.in_ok-below-in-Free.below)
    (read-freed c.args.self.now.groups.now (costs_of c.args.self.now.costing.now) c.args.log.now c.args.made c.last-last.result.number c.in-Free.prop
    (subst (λ (w : Way). IsLast c.args.self.now.groups.now (costs_of c.args.self.now.costing.now) c.args.log.now c.args.made c.last-last.result.number w) c.in-Free.is c.last-last.ensures) c.in_ok-below-in-Free.below c.in_ok-below-in-Free.ensures)
    c.freed.result c.freed.ensures
