use Rattle.std.proofs.Common.{ap, subst, sym}
use Rattle.pdw_engine.proofs.JudgedLaws.{CanDo, CanDo-prepared, no_other, prepared-plannable}
use Rattle.pdw_engine.specs.Statistics.{AreNumbers}
use Rattle.pdw_walk.specs.Forms.{judged_select_of}
use Rattle.pdw_engine.proofs.session.Session.act.Goals as goal

pub create-requires : goal.create-requires
create-requires c =
    let tables = c.args.self.now.contents.tables in
    let can = subst (CanDo tables) (c.in-Create.is) (CanDo-prepared tables c.args.work c.requires.prepared) in
    record { new = can.0; shape = can.1; room = can.2 }

pub drop_table-requires : goal.drop_table-requires
drop_table-requires c =
    let tables = c.args.self.now.contents.tables in
    subst (CanDo tables) (c.in-Drop.is) (CanDo-prepared tables c.args.work c.requires.prepared)

pub load-requires : goal.load-requires
load-requires c =
    let tables = c.args.self.now.contents.tables in
    subst (CanDo tables) (c.in-Load.is) (CanDo-prepared tables c.args.work c.requires.prepared)

pub measure-requires : goal.measure-requires
measure-requires c =
    let tables = c.args.self.now.contents.tables in
    subst (CanDo tables) (c.in-Measure.is) (CanDo-prepared tables c.args.work c.requires.prepared)

pub hand-requires : goal.hand-requires
hand-requires c =
    let tables = c.args.self.now.contents.tables in
    let can = subst (CanDo tables) (c.in-Hand.is) (CanDo-prepared tables c.args.work c.requires.prepared) in
    record { known = can.0; range = subst (AreNumbers c.in-Hand.rows) (sym c.as_slice.ensures) can.1 }

pub set_budget-requires : goal.set_budget-requires
set_budget-requires c =
    let tables = c.args.self.now.contents.tables in
    subst (CanDo tables) (c.in-Budget.is) (CanDo-prepared tables c.args.work c.requires.prepared)

pub set_constant-requires : goal.set_constant-requires
set_constant-requires c =
    let tables = c.args.self.now.contents.tables in
    subst (CanDo tables) (c.in-Cost.is) (CanDo-prepared tables c.args.work c.requires.prepared)

pub check_plan-requires : goal.check_plan-requires
check_plan-requires c =
    prepared-plannable c.args.self.now.contents.tables c.tables_have_columns.ensures c.args.work c.requires.prepared c.in-CheckPlan.select (ap judged_select_of c.in-CheckPlan.is)

pub unreachable-requires : goal.unreachable-requires
unreachable-requires c =
    let tables = c.args.self.now.contents.tables in
    no_other tables c.args.work (CanDo-prepared tables c.args.work c.requires.prepared) c.requires.unplanned c.in_default.not-Create c.in_default.not-Drop c.in_default.not-Load
    c.in_default.not-Measure c.in_default.not-Hand c.in_default.not-Budget c.in_default.not-Cost c.in_default.not-CheckPlan
