use Rattle.pdw_sound.proofs.TreeLaw.{form_is_sound, held_is_sound, held_is_well_formed, held_rows_are, tree_is_well_formed, tree_rows_are}
use Rattle.pdw_sound.proofs.laws.the_tree_means_its_query.Goals as goal

pub returns-clause-held_sound : goal.returns-clause-held_sound
returns-clause-held_sound c = held_is_sound

pub returns-clause-held_well_formed : goal.returns-clause-held_well_formed
returns-clause-held_well_formed c = held_is_well_formed

pub returns-clause-held_rows : goal.returns-clause-held_rows
returns-clause-held_rows c = held_rows_are

pub returns-clause-sound : goal.returns-clause-sound
returns-clause-sound c = form_is_sound

pub returns-clause-well_formed : goal.returns-clause-well_formed
returns-clause-well_formed c = tree_is_well_formed

pub returns-clause-rows : goal.returns-clause-rows
returns-clause-rows c = tree_rows_are
