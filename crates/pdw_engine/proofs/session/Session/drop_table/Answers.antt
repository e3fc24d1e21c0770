use Rattle.std.proofs.Common.{sym, subst}
use Rattle.pdw_catalog.specs.Appliance.{Contents}
use Rattle.pdw_engine.proofs.NameLemmas.{HaveOwnNames-removed}
use Rattle.pdw_engine.proofs.PlainLemmas.{SamePlain-dropped}
use Rattle.pdw_engine.proofs.StateLemmas.{IsOfTables-dropped}
use Rattle.pdw_engine.specs.Names.{HaveOwnNames}
use Rattle.pdw_engine.specs.Plain.{SamePlain, plain_of, without_table}
use Rattle.pdw_engine.specs.State.{IsOfTables, State}
use Rattle.pdw_engine.proofs.session.Session.drop_table.Goals as goal

pub invariant_of-self : goal.invariant_of-self
invariant_of-self c =
    let name = c.args.name.now in
    let tables = c.self.inside.appliance.tables in
    record {
      own = subst (λ (new : Contents). HaveOwnNames new.tables) (sym c.drop_table.ensures) (HaveOwnNames-removed name tables c.self.invariant.own);
      known = subst (λ (new : Contents). IsOfTables new.tables c.remove.new.self) (sym c.drop_table.ensures) (IsOfTables-dropped tables c.self.inside.book c.remove.new.self name c.self.invariant.known c.remove.ensures.changes);
      allowed = c.self.invariant.allowed;
    }

pub returns-clause-dropped : goal.returns-clause-dropped
returns-clause-dropped c =
    let name = c.args.name.now in
    let contents = c.self.inside.appliance in
    let settings = c.self.inside.settings in
    let old : State = record { contents = contents; book = c.self.inside.book; settings = settings } in
    let dropped = SamePlain-dropped contents c.self.inside.book c.remove.new.self settings name c.self.invariant.own c.remove.ensures.changes in
    let new = subst (λ (new : Contents). SamePlain (without_table name (plain_of old)) (plain_of (record { contents = new; book = c.remove.new.self; settings = settings }))) (sym c.drop_table.ensures) dropped in
    subst (λ (before : State). SamePlain (without_table name (plain_of before)) (plain_of (record { contents = c.drop_table.new.self; book = c.remove.new.self; settings = settings }))) c.self.view_is new
