use Rattle.pdw_bind.proofs.TreeMeaning.{tree_means}
use Rattle.pdw_bind.proofs.WellFormedLaws.{sound_is_well_formed}
use Rattle.pdw_bind.proofs.laws.the_tree_means_its_form.Goals as goal

pub returns-clause-well_formed : goal.returns-clause-well_formed
returns-clause-well_formed c = sound_is_well_formed

pub returns-clause-rows : goal.returns-clause-rows
returns-clause-rows c = λ database q holds. tree_means database q holds.parts
