use Rattle.pdw_same_rows.proofs.SameAnswers.{same_answers, same_lawful}
use Rattle.pdw_same_rows.proofs.SameForms.{same_forms, same_numbered_answers}
use Rattle.pdw_same_rows.proofs.SameTrees.{same_trees}
use Rattle.pdw_same_rows.proofs.laws.meanings_respect_equal_bags.Goals as goal

pub returns-clause-trees : goal.returns-clause-trees
returns-clause-trees c one other t same = same_trees one other same t

pub returns-clause-forms : goal.returns-clause-forms
returns-clause-forms c one other q outer same = (same_forms one other same q).rows outer

pub returns-clause-numbered_answers : goal.returns-clause-numbered_answers
returns-clause-numbered_answers c one other j same = same_numbered_answers one other same j

pub returns-clause-answers : goal.returns-clause-answers
returns-clause-answers c = same_answers

pub returns-clause-lawful : goal.returns-clause-lawful
returns-clause-lawful c = same_lawful
