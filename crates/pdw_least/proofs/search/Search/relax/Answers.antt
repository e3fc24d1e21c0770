use Rattle.std.proofs.Common.{◌≡◌, arith, length}
use Rattle.pdw_least.proofs.Tables.{table-least, table-shape, table-valid}
use Rattle.pdw_least.specs.Premises.{costs_of}
use Rattle.pdw_least.proofs.search.Search.relax.Goals as goal

pub returns : goal.returns
returns c =
    let table = c.loop-place.invariant.table in
    let all : length c.loop-place.lists ≡ length c.args.self.now.groups.now = omega arith in
    record {
      shape = table-shape c.args.self.now.groups.now (costs_of c.args.self.now.costing.now) c.loop-place.lists c.loop-place.log table all;
      valid = table-valid c.args.self.now.groups.now (costs_of c.args.self.now.costing.now) c.loop-place.lists c.loop-place.log table all;
      least = table-least c.args.self.now.groups.now (costs_of c.args.self.now.costing.now) c.loop-place.lists c.loop-place.log table all;
      is_log = table.is_log;
      kept = table.kept;
      within = table.within;
    }
