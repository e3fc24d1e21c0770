use Rattle.std.proofs.Common.{arith, length}
use Rattle.pdw_memo.proofs.Counts.{sets-most}
use Rattle.pdw_memo.proofs.block.add_joins.Goals as goal

pub add_block-requires-clause-room : goal.add_block-requires-clause-room
add_block-requires-clause-room c =
    let sets = sets-most (length c.args.sides.now) c.requires.few in
    omega (arith, sets, c.requires.few, c.requires.room.groups)
