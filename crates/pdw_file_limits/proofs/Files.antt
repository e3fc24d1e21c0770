-- What is planned for a statement that is accepted keeps the limits of plan files.
use Rattle.std.proofs.Common.{◌≡◌, ◌≤◌, ◌<◌, ◌^◌, ◌-◌, ℕ, true, List, None, Some, refl, sym, subst, arith, if◌then◌else◌}
use Rattle.pdw_bind.specs.Bind.{bound}
use Rattle.pdw_bound.proofs.Plannable.{bound-plannable}
use Rattle.pdw_catalog.specs.Database.{Database}
use Rattle.pdw_enum.specs.Least.{IsLeastPlan, IsShort}
use Rattle.pdw_explore.specs.Levels.{leaf_counts, levels_by}
use Rattle.pdw_file_limits.proofs.Lists.{lists-small, root-small}
use Rattle.pdw_file_limits.proofs.Moves.{AreWithinOne, costs-within, most-stays}
use Rattle.pdw_file_limits.proofs.NodeKinds.{faultless-kinds}
use Rattle.pdw_file_limits.proofs.Nodes.{listed-nodes, low-height}
use Rattle.pdw_file_limits.proofs.Runs.{least-within}
use Rattle.pdw_file_limits.proofs.TreeWeights.{tree-operators}
use Rattle.pdw_file_limits.proofs.Weighed.{AreWeighed, memo-weighed}
use Rattle.pdw_form.specs.Sound.{HaveColumns}
use Rattle.pdw_form.specs.declared.judged.JudgedSelect.{JudgedSelect}
use Rattle.pdw_groups.specs.Memo.{Contents, all_written, memo_of}
use Rattle.pdw_groups.specs.declared.block.Level.{Level}
use Rattle.pdw_groups.specs.declared.group.Group.{Group}
use Rattle.pdw_least.proofs.FewOperators.{few-operators}
use Rattle.pdw_least.specs.Runs.{operators}
use Rattle.pdw_memo.specs.Memo.{IsMemo}
use Rattle.pdw_move.specs.Cost.{AreInRange}
use Rattle.pdw_move.specs.declared.cost.Constants.{Constants}
use Rattle.pdw_plan.specs.Cost.{costs_in}
use Rattle.pdw_plan.specs.Count.{node_count}
use Rattle.pdw_planjson.specs.Limits.{IsBound, IsFile}
use Rattle.pdw_planner.specs.Planned.{IsPlanned, cost_in}
use Rattle.pdw_planner.specs.declared.planned.Planned.{Planned}
use Rattle.pdw_sound.proofs.Limits.{judged_operators}
use Rattle.pdw_stats.specs.Book as book
use Rattle.pdw_stats.specs.Book.{Book}
use Rattle.pdw_syntax.specs.Written.{query_written}
use Rattle.pdw_syntax.specs.declared.query.Select.{Select}
use Rattle.pdw_syntax.specs.declared.statement.Statement.{Statement}
use Rattle.pdw_walk.specs.Forms.{Judges}
use Rattle.pdw_ways.proofs.Under.{or-none}
use Rattle.pdw_ways.specs.Bounds.{bound_in, cost_of_plan}
use Rattle.pdw_ways.specs.Shape.{IsPlan, is_root, query_fault, shape_of}
use Rattle.pdw_ways.specs.Ways.{Costs}
use Rattle.pdw_ways.specs.declared.made.Made.{Made}
use Rattle.pdw_ways.specs.declared.plan.Bounds.{Bounds}
use Rattle.pdw_ways.specs.declared.plan.Plan.{Plan}

-- ---- over groups that weigh at most 485

module _ (groups : List Group) (costs : Costs) (weighed : AreWeighed groups 485) where
  operators-few : (p : Plan) (made : Made) → IsPlan groups costs p made → operators p ≤ 485
  operators-few p made is =
      let count = few-operators groups costs weighed.light p made is in
      let few = weighed.few made.group.0 in
      omega (arith, count, few)

  module _ (p : Plan) (bounds : Bounds) (cheap : AreWithinOne costs) (least : IsLeastPlan groups costs p bounds.lists) (short : IsShort p) (query : query_fault groups (shape_of groups costs p) ≡ None) where
    no-fault : (shape_of groups costs p).fault ≡ None
    no-fault = (or-none (shape_of groups costs p).fault (if is_root groups (shape_of groups costs p).made.group then None else Some ((shape_of groups costs p).nodes - 1)) query).0

    nodes-few : node_count p ≤ 2425
    nodes-few =
        let few = short.few in
        let count = operators-few p (shape_of groups costs p).made (record { allowed = no-fault; makes = refl }) in
        omega (arith, few, count)

    numbers-small : (made : Made) (number : ℕ) → bound_in groups bounds.lists made ≡ Some number → number < 10 ^ 32
    numbers-small made number is =
        let within = least-within groups costs (bound_in groups bounds.lists) least.valid cheap least.least 485 operators-few made number is in
        let stays = most-stays in
        omega (arith, within, stays)

    file-within : IsFile (record { plan = p; bounds = bounds; cost = cost_of_plan groups costs p })
    file-within =
        let lists = lists-small groups bounds.lists least.shape weighed.different numbers-small in
        record {
          nodes = let listed = listed-nodes p in let few = nodes-few in omega (arith, listed, few);
          height = let low = low-height p in let few = nodes-few in omega (arith, low, few);
          kinds = faultless-kinds groups costs p no-fault;
          cost = subst IsBound least.tight (root-small groups bounds.lists lists);
          bounds = lists;
        }

-- ---- the memo of a statement's tree

judged-weighed : (database : Database) (x : Statement) (s : Select) (j : JudgedSelect) → HaveColumns database.tables → query_written s.query ≡ true → Judges database.tables x s j
    → (levels : ℕ → Level) → AreWeighed (memo_of database.tables levels (bound j.query)).groups 485
judged-weighed database x s j have written judges levels =
    let weight = tree-operators (bound j.query) in
    let few = judged_operators database x s j have written judges in
    memo-weighed database.tables levels (bound j.query) (bound-plannable database x s j have written judges).well_formed 485 (omega (arith, weight, few)) (omega arith)

pub planned-file : (database : Database) (x : Statement) (s : Select) (j : JudgedSelect) → HaveColumns database.tables → query_written s.query ≡ true → Judges database.tables x s j
    → (statistics : Book) → book.AreInRange statistics → (n budget : ℕ) → 1 ≤ n → n ≤ 16 → (constants : Constants) → AreInRange constants
    → (planned : Planned) → IsPlanned database.tables statistics n budget constants (bound j.query) planned → (is : IsMemo planned.memo)
    → IsFile (record { plan = planned.plan; bounds = planned.bounds; cost = cost_in planned is statistics n constants })
planned-file database x s j have written judges statistics range n budget some few constants set planned is_planned is =
    let tables = database.tables in
    let levels = levels_by budget (leaf_counts (memo_of tables all_written (bound j.query)).blocks) in
    let costs = costs_in planned.memo is statistics n constants in
    let weighed = subst (λ (memo : Contents). AreWeighed memo.groups 485) (sym is_planned.memo) (judged-weighed database x s j have written judges levels) in
    file-within planned.memo.groups costs weighed planned.plan planned.bounds (costs-within planned.memo is statistics n constants some few range set) (is_planned.least is) is_planned.short (is_planned.query costs)
