-- The tree of a statement that is accepted has a memo.
use Rattle.std.proofs.Common.{◌≡◌, true, arith}
use Rattle.pdw_bind.proofs.NodesBounds.{fewer_blocks}
use Rattle.pdw_bind.specs.Bind.{bound}
use Rattle.pdw_catalog.specs.Database.{Database}
use Rattle.pdw_form.specs.Sound.{HaveColumns}
use Rattle.pdw_form.specs.declared.judged.JudgedSelect.{JudgedSelect}
use Rattle.pdw_bound.proofs.NodeCounts.{node-counts}
use Rattle.pdw_memo.specs.Memo.{IsPlannable}
use Rattle.pdw_sound.proofs.Limits.{few_scans, judged_filters, judged_groups, judged_joins, judged_leaves, judged_projections}
use Rattle.pdw_sound.proofs.TreeLaw.{held_is_sound, held_is_well_formed}
use Rattle.pdw_syntax.specs.Written.{query_written}
use Rattle.pdw_syntax.specs.declared.query.Select.{Select}
use Rattle.pdw_syntax.specs.declared.statement.Statement.{Statement}
use Rattle.pdw_walk.specs.Forms.{Judges}

pub bound-plannable : (database : Database) (x : Statement) (s : Select) (j : JudgedSelect) → HaveColumns database.tables → query_written s.query ≡ true → Judges database.tables x s j
    → IsPlannable database.tables (bound j.query)
bound-plannable database x s j have written judges =
    let tables = database.tables in
    let all = node-counts (bound j.query) in
    let scans = few_scans tables x s j judges in
    let filters = judged_filters tables x s j judges in
    let projections = judged_projections tables x s j judges in
    let groups = judged_groups tables x s j judges in
    let blocks = fewer_blocks tables j.query (held_is_sound database x s j have written judges) in
    let leaves = judged_leaves database x s j have written judges in
    let joins = judged_joins database x s j have written judges in
    record {
      well_formed = held_is_well_formed database x s j have written judges;
      few = omega (arith, all, scans, filters, projections, groups, blocks, leaves, joins);
    }
