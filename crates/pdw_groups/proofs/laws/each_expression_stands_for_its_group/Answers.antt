use Rattle.pdw_groups.proofs.MemoLaws.{memo-stands, root-means}
use Rattle.pdw_groups.proofs.laws.each_expression_stands_for_its_group.Goals as goal

pub returns-clause-stands : goal.returns-clause-stands
returns-clause-stands c = memo-stands

pub returns-clause-root : goal.returns-clause-root
returns-clause-root c = root-means
