use Rattle.pdw_parts.proofs.PartLaws.{part-join}
use Rattle.pdw_parts.proofs.laws.the_join_of_two_parts_is_the_part_of_both.Goals as goal

pub returns : goal.returns
returns c leaves sound conds left right disjoint ls rs is_left is_right = part-join leaves sound conds left right disjoint ls rs is_left is_right
