-- The steps of a plan for the query, run over an appliance that has the memo's tables.
use Rattle.std.proofs.Common.{◌≡◌, ℕ, ◌-◌, List, [], ◌∷◌, map, None, refl, sym, ap, ◌∙◌, subst}
use Rattle.std.specs.Option.{option_map}
use Rattle.pdw_base.proofs.SameBagLaws.{SameBag-trans, SameBag-≡}
use Rattle.pdw_base.specs.SameBag.{SameBag}
use Rattle.pdw_base.specs.Schema.{Columns, cell}
use Rattle.pdw_catalog.specs.Appliance.{Bags, Contents as Appliance, IsSound, StoresAll}
use Rattle.pdw_catalog.specs.Catalog.{Tables}
use Rattle.pdw_catalog.specs.declared.table.Table.{Table}
use Rattle.pdw_dsql.proofs.PlanSteps.{steps-follow}
use Rattle.pdw_dsql.proofs.TypedSteps.{steps-typed}
use Rattle.pdw_dsql.specs.Follows.{Follows, returned_of, taken_in_turn}
use Rattle.pdw_dsql.specs.Steps.{root_schema, steps_of}
use Rattle.pdw_dsql.specs.Typed.{AreStored, AreTyped, AreWellTyped, HasTablesOf, schemas_of}
use Rattle.pdw_dsql.specs.declared.steps.Steps.{Steps}
use Rattle.pdw_exec.specs.Shapes.{local_schema}
use Rattle.pdw_groups.specs.Memo.{Contents}
use Rattle.pdw_move.specs.Placed.{Row}
use Rattle.pdw_plan.proofs.PlanLaw.{query-none}
use Rattle.pdw_plan.specs.Walk.{no_costs}
use Rattle.pdw_runner.specs.Executed.{IsExecuted, IsMemoOver, takes_of}
use Rattle.pdw_ways.specs.Shape.{is_root, query_fault, shape_of}
use Rattle.pdw_ways.specs.declared.plan.Plan.{Plan}

-- the columns of an appliance's tables are INT or TEXT
stored-all : (n : ℕ) (tables : Tables) (bags : List Bags) → StoresAll n tables bags → AreStored tables
stored-all n [] bags stores = tt
stored-all n (entry ∷ tables) [] stores = absurd stores
stored-all n (entry ∷ tables) (first ∷ bags) stores = (stores.1.shape.kinds, stored-all n tables bags stores.2)

module _ (memo : Contents) (appliance : Appliance) (plan : Plan) (sound : IsSound appliance) (over : IsMemoOver appliance.tables memo)
    (query : query_fault memo.groups (shape_of memo.groups no_costs plan) ≡ None) where
  own : Steps
  own = steps_of memo.groups plan

  typed : AreWellTyped appliance.tables (steps_of memo.groups plan) (root_schema memo.groups)
  typed =
      let has : HasTablesOf over.0.tables appliance.tables =
      subst (HasTablesOf over.0.tables) over.1 (λ name table known. ap (option_map (λ (other : Table). other.columns)) known) in
      steps-typed memo over.0 no_costs plan query appliance.tables has (stored-all appliance.nodes appliance.tables appliance.bags sound.stored)

  follows : Follows memo.groups appliance plan (steps_of memo.groups plan)
  follows =
      let s = shape_of memo.groups no_costs plan in
      steps-follow memo.groups no_costs plan s.made (record { allowed = (query-none s.fault (is_root memo.groups s.made.group) (s.nodes - 1) query).0; makes = refl }) appliance

  module _ (steps : Steps) (is : steps ≡ steps_of memo.groups plan) where
    pub steps-are-typed : AreTyped appliance.tables [] steps.moves
    steps-are-typed = subst (λ (s : Steps). AreTyped appliance.tables [] s.moves) (sym is) typed.moves

    -- their moves take what those of the plan take
    pub takes-of : taken_in_turn appliance [] steps.moves ≡ takes_of memo.groups appliance plan
    takes-of = ap (λ (s : Steps). taken_in_turn appliance [] s.moves) is ∙ follows.moves

    -- and they return what the plan returns
    pub executed : (rows : List Row) → SameBag (map (cell (local_schema appliance.tables (schemas_of steps.moves) steps.last)) rows) (returned_of appliance steps) → IsExecuted memo.groups appliance plan rows
    executed rows same =
        let at_steps = subst (λ (s : Steps). SameBag (map (cell (local_schema appliance.tables (schemas_of s.moves) s.last)) rows) (returned_of appliance s)) is same in
        SameBag-trans
        (subst (λ (columns : Columns). SameBag (map (cell columns) rows) (returned_of appliance (steps_of memo.groups plan))) typed.last.schema at_steps)
        (SameBag-≡ follows.rows)
