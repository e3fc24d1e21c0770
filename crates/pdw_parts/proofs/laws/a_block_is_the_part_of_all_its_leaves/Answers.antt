use Rattle.pdw_parts.proofs.PartLaws.{part-every, part-only}
use Rattle.pdw_parts.proofs.laws.a_block_is_the_part_of_all_its_leaves.Goals as goal

pub returns-clause-all : goal.returns-clause-all
returns-clause-all c = part-every

pub returns-clause-one : goal.returns-clause-one
returns-clause-one c = part-only
