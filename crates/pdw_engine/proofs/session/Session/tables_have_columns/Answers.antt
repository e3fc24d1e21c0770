use Rattle.std.proofs.Common.{subst}
use Rattle.pdw_form.specs.Sound.{HaveColumns}
use Rattle.pdw_engine.proofs.LawfulLaws.{HaveColumns-sound}
use Rattle.pdw_engine.specs.State.{State}
use Rattle.pdw_engine.proofs.session.Session.tables_have_columns.Goals as goal

pub returns : goal.returns
returns c = subst (λ (state : State). HaveColumns state.contents.tables) c.self.view_is (HaveColumns-sound c.self.inside.appliance c.catalog.ensures.sound)
