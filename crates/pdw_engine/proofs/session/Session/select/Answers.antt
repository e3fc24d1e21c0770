use Rattle.std.proofs.Common.{subst}
use Rattle.pdw_catalog.specs.Database.{undivided}
use Rattle.pdw_engine.proofs.LawfulLaws.{Selects-selected}
use Rattle.pdw_engine.specs.Selected.{SelectedBy}
use Rattle.pdw_engine.specs.State.{State}
use Rattle.pdw_engine.proofs.session.Session.select.Goals as goal

pub returns : goal.returns
returns c written_select written is =
    let now = c.args.self.now in
    let form = c.args.form.now in
    let table = c.in_ok-select.field-0 in
    let selected = subst (λ (state : State). SelectedBy (undivided state.contents) form table) c.self.view_is c.in_ok-select.ensures in
    Selects-selected now c.tables_have_columns.ensures written_select written form is table selected
