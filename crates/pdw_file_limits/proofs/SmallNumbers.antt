-- Plans for the query of a statement that is accepted have numbers as plan files write them: its memo has fewer than 2^32 groups, and
-- its tree makes columns of numbers below 128 alone.
use Rattle.std.proofs.Common.{◌≡◌, ℕ, true, None, Some, ◌-◌, refl, arith, if◌then◌else◌}
use Rattle.pdw_algebra.proofs.AllLaws.{all-map}
use Rattle.pdw_algebra.specs.Shape as tree_shape
use Rattle.pdw_base.specs.declared.schema.ColId.{ColId}
use Rattle.pdw_bind.specs.Bind.{bound}
use Rattle.pdw_bound.proofs.Plannable.{bound-plannable}
use Rattle.pdw_catalog.specs.Database.{Database}
use Rattle.pdw_explore.specs.Levels.{leaf_counts, levels_by}
use Rattle.pdw_file_limits.proofs.GroupColumns.{groups-low}
use Rattle.pdw_file_limits.proofs.PlanNumbers.{AreSmall, faultless-numbers}
use Rattle.pdw_file_limits.proofs.TreeColumns.{IsLow}
use Rattle.pdw_form.specs.Sound.{HaveColumns}
use Rattle.pdw_form.specs.declared.judged.JudgedSelect.{JudgedSelect}
use Rattle.pdw_groups.specs.Memo.{all_written, memo_of}
use Rattle.pdw_memo.proofs.MemoSizes.{memo-few}
use Rattle.pdw_memo.specs.Memo.{IsMemo}
use Rattle.pdw_planjson.specs.Limits.{has_numbers}
use Rattle.pdw_planner.specs.Planned.{memo_within}
use Rattle.pdw_sound.proofs.Limits.{judged_columns}
use Rattle.pdw_syntax.specs.Written.{query_written}
use Rattle.pdw_syntax.specs.declared.query.Select.{Select}
use Rattle.pdw_syntax.specs.declared.statement.Statement.{Statement}
use Rattle.pdw_walk.specs.Forms.{Judges}
use Rattle.pdw_ways.proofs.Under.{or-none}
use Rattle.pdw_ways.specs.Shape.{is_root, query_fault, shape_of}
use Rattle.pdw_ways.specs.Ways.{Costs}
use Rattle.pdw_ways.specs.declared.plan.Plan.{Plan}

module _ (database : Database) (x : Statement) (s : Select) (j : JudgedSelect) (have : HaveColumns database.tables) (written : query_written s.query ≡ true) (judges : Judges database.tables x s j) where
  judged-small : (budget : ℕ) → AreSmall (memo_within budget database.tables (bound j.query)).groups
  judged-small budget =
      let tables = database.tables in
      let t = bound j.query in
      let levels = levels_by budget (leaf_counts (memo_of tables all_written t).blocks) in
      let plannable = bound-plannable database x s j have written judges in
      let is : IsMemo (memo_of tables levels t) = record { tables = tables; levels = levels; tree = t; plannable = plannable; is = refl } in
      let columns = all-map (IsLow 128) (IsLow 65536) (λ (c : ColId) low. omega (arith, low)) (tree_shape.shape_of tables t).made (judged_columns database x s j have written judges) in
      record { few = (memo-few (memo_of tables levels t) is).0; low = groups-low 65536 tables levels t (record { sound = plannable.well_formed.nodes; made = columns }) }

  pub planned-numbers : (budget : ℕ) (costs : Costs) (p : Plan)
      → query_fault (memo_within budget database.tables (bound j.query)).groups (shape_of (memo_within budget database.tables (bound j.query)).groups costs p) ≡ None → has_numbers p ≡ true
  planned-numbers budget costs p query =
      let groups = (memo_within budget database.tables (bound j.query)).groups in
      let shape = shape_of groups costs p in
      faultless-numbers groups costs (judged-small budget) p (or-none shape.fault (if is_root groups shape.made.group then None else Some (shape.nodes - 1)) query).0
