-- The law of plans, by induction over plans.
use Rattle.std.proofs.Common.{◌≡◌, ℕ, suc, ◌-◌, Bool, true, false, true≢false, List, [], ◌∷◌, length, map, is_some, Option, Some, None, Result, Ok, Err, IfOk, refl, sym, ap, ap₂, subst, ◌∙◌, arith, eqb-true, if◌then◌else◌}
use Rattle.std.specs.List.{AllByRecursion, list_any, slice_get}
use Rattle.std.specs.Option.{option_or}
use Rattle.std.proofs.lemmas.Bool.{and_parts}
use Rattle.pdw_algebra.specs.Meaning.{rows_of}
use Rattle.pdw_base.proofs.SameBagLaws.{SameBag-trans}
use Rattle.pdw_base.specs.SameBag.{SameBag}
use Rattle.pdw_base.specs.Schema.{Env}
use Rattle.pdw_catalog.specs.Appliance.{IsSound, Contents as Appliance}
use Rattle.pdw_catalog.specs.Database.{undivided}
use Rattle.pdw_groups.specs.Meaning.{Meaning, exactly}
use Rattle.pdw_groups.specs.Memo.{AdmitEachAt, AdmitsAt, AdmitsIf, Contents, ExprStands}
use Rattle.pdw_groups.specs.declared.group.Expr.{Expr}
use Rattle.pdw_groups.specs.declared.group.Group.{Group}
use Rattle.pdw_groups.specs.declared.key.GroupId.{GroupId}
use Rattle.pdw_memo.proofs.EachGroup.{all-at}
use Rattle.pdw_memo.proofs.MemoColumns.{memo-interesting, memo-keys}
use Rattle.pdw_memo.proofs.MemoDiffers.{memo-differ}
use Rattle.pdw_memo.proofs.MemoMeans.{memo-root, memo-stands}
use Rattle.pdw_memo.proofs.MemoRows.{memo-within}
use Rattle.pdw_memo.proofs.MemoScans.{memo-scans}
use Rattle.pdw_memo.proofs.MemoSides.{memo-sides}
use Rattle.pdw_memo.specs.Laws.{HasApartSides, HasDifferentChildren, HasItsColumns, MakesNoKey, ReadsItsTable, meanings_in}
use Rattle.pdw_memo.specs.Memo.{IsMemo}
use Rattle.pdw_move.specs.Move.{property_after, property_before}
use Rattle.pdw_move.specs.declared.kinds.Move.{Move}
use Rattle.pdw_move.specs.declared.kinds.Prop.{Prop}
use Rattle.pdw_plan.proofs.MemoPartials.{AdmitsParts, memo-parts}
use Rattle.pdw_plan.proofs.OperatorCases.{IsSide, StandAt, binary-case, scan-alone, scan-case, unary-case}
use Rattle.pdw_plan.proofs.PlanParts.{IsFound, IsOver, any-over, at-some, fault-none, groups-are, one-none, operates-parts, two-none}
use Rattle.pdw_plan.specs.Answer.{IsAnswer}
use Rattle.pdw_plan.specs.Given.{Given, applied, expr_among, expr_over, given_by, given_step, returned_by}
use Rattle.pdw_plan.specs.Walk.{no_costs}
use Rattle.pdw_plan.specs.Law.{GivesRowsOfGroup}
use Rattle.pdw_rules.proofs.Moves.{move-inside, move-stands}
use Rattle.pdw_rules.proofs.SiteLemmas.{free-stands, made-inside, returned-bag, same-property}
use Rattle.pdw_rules.specs.Rules.{is_free, is_same, leaf_rule, local_rule, may_have}
use Rattle.pdw_rules.specs.Stands.{IsInside, StandsFor, made_at, returned}
use Rattle.pdw_ways.proofs.PlanFolds.{Inductive, by_plans, fold-free, fold-moved, fold-op, fold-scan}
use Rattle.pdw_ways.specs.Shape.{IsPlan, Shape, is_root, made_in, query_fault, shape_of, shape_step}
use Rattle.pdw_ways.specs.Ways.{Costs, are_groups_of, is_at, is_at_some, is_freed, is_moved, is_operated, is_scanned, operates}
use Rattle.pdw_ways.specs.declared.made.Made.{Made}
use Rattle.pdw_ways.specs.declared.plan.Plan.{Plan}
use Rattle.pdw_ways.specs.declared.plan.PlanFault.{PlanFault}
use Rattle.pdw_ways.specs.declared.plan.Plan.TheOpen.{Plan-F}
use Rattle.pdw_ways.specs.declared.plan.Plan.TheVariants as plan

module _ (memo : Contents) (is : IsMemo memo) (appliance : Appliance) (sound : IsSound appliance) (tables : is.tables ≡ appliance.tables) where
  abbrev means : List Meaning
  means = meanings_in memo is

  abbrev Admitted : GroupId → List Env → Type 0
  Admitted group bag = AdmitsAt (undivided appliance) means group.0 bag

  abbrev May : Made → Type 0
  May made = is_at memo.groups made.group (λ group. may_have group.interesting made.prop) ≡ true

  -- what is given stands for a bag that the group admits
  record Follows (made : Made) (gives : Given) : Type 0 where
    same : gives.made ≡ made
    may : May made
    bag : List Env
    admitted : Admitted made.group bag
    stands : StandsFor appliance.nodes made.prop gives.rows bag
    inside : IsInside made.prop gives.rows

  may-at : (group : Group) (made : Made) → slice_get memo.groups made.group.0 ≡ Some group → may_have group.interesting made.prop ≡ true → May made
  may-at group made there may = ap (λ some. is_at_some some (λ group. may_have group.interesting made.prop)) there ∙ may

  -- ---- moves and free changes

  moved-follows : (mv : Move) (made : Made) (gives : Given) → Follows made gives → is_at memo.groups made.group (λ group. is_moved group mv made.prop) ≡ true
      → Follows (record { group = made.group; prop = property_after mv }) (given_step memo.groups appliance (Plan-F.Moved mv gives))
  moved-follows mv made gives child way =
      let at = at-some memo.groups made.group (λ group. is_moved group mv made.prop) way in
      let both = and_parts (is_same (property_before mv) made.prop) (may_have at.group.interesting (property_after mv)) at.passes in
      let before : property_before mv ≡ made.prop = same-property (property_before mv) made.prop both.0 in
      record {
        same = ap (λ (m : Made). record { group = m.group; prop = property_after mv }) child.same;
        may = may-at at.group (record { group = made.group; prop = property_after mv }) at.there both.1;
        bag = child.bag;
        admitted = child.admitted;
        stands =
            move-stands appliance.nodes sound.nodes.0 mv gives.rows child.bag (subst (λ p. IsInside p gives.rows) (sym before) child.inside)
            (subst (λ p. StandsFor appliance.nodes p gives.rows child.bag) (sym before) child.stands);
        inside = move-inside appliance.nodes mv gives.rows;
      }

  free-follows : (to : Prop) (made : Made) (gives : Given) → Follows made gives → is_at memo.groups made.group (λ group. is_freed group made.prop to) ≡ true
      → Follows (record { group = made.group; prop = to }) (given_step memo.groups appliance (Plan-F.Free to gives))
  free-follows to made gives child way =
      let at = at-some memo.groups made.group (λ group. is_freed group made.prop to) way in
      let both = and_parts (is_free made.prop to) (may_have at.group.interesting to) at.passes in
      record {
        same = ap (λ (m : Made). record { group = m.group; prop = to }) child.same;
        may = may-at at.group (record { group = made.group; prop = to }) at.there both.1;
        bag = child.bag;
        admitted = child.admitted;
        stands = free-stands appliance.nodes sound.nodes.0 made.prop to both.0 gives.rows child.bag child.stands;
        inside = made-inside to gives.rows;
      }

  -- ---- expressions of a group

  module _ (group : GroupId) (own : Group) (there : slice_get memo.groups group.0 ≡ Some own) where
    differ : HasDifferentChildren own
    differ = all-at HasDifferentChildren memo.groups (memo-differ memo is) group.0 own there

    module _ (expr : Expr) (place : ℕ) (at : slice_get own.exprs place ≡ Some expr) where
      expr-stands : ExprStands (undivided appliance) means group.0 expr
      expr-stands = all-at (ExprStands (undivided appliance) means group.0) own.exprs (memo-stands memo is (undivided appliance) group.0 own there) place expr at

      expr-parts : AdmitsParts (undivided appliance) means group.0 expr.op expr.children
      expr-parts =
          all-at (λ (expr : Expr). AdmitsParts (undivided appliance) means group.0 expr.op expr.children) own.exprs (memo-parts memo is (undivided appliance) group.0 own there) place expr at

      expr-keys : MakesNoKey expr.op
      expr-keys =
          all-at (λ (expr : Expr). MakesNoKey expr.op) own.exprs
          (all-at (λ (group : Group). AllByRecursion (λ (expr : Expr). MakesNoKey expr.op) group.exprs) memo.groups (memo-keys memo is) group.0 own there) place expr at

      expr-sides : HasApartSides memo.groups expr.op expr.children
      expr-sides = all-at (λ (expr : Expr). HasApartSides memo.groups expr.op expr.children) own.exprs (memo-sides memo is group.0 own there) place expr at

      expr-reads : ReadsItsTable appliance.tables expr.op expr.children
      expr-reads =
          subst (λ some. ReadsItsTable some expr.op expr.children) tables
          (all-at (λ (expr : Expr). ReadsItsTable is.tables expr.op expr.children) own.exprs (memo-scans memo is group.0 own there) place expr at)

    -- what an expression gives, the first over its children, the group gives
    expr-follows : (prop : Prop) (expr : Expr) (below : List Made) (children : List Given) (made : List Made) → made ≡ below → may_have own.interesting prop ≡ true → expr_among below (Some own) ≡ Some expr
        → StandAt appliance sound means group.0 prop (made_at prop (applied appliance (Some expr) (map (λ (child : Given). child.rows) children)))
        → (gives : Given) → gives.made ≡ record { group = group; prop = prop } → gives.rows ≡ made_at prop (applied appliance (expr_over memo.groups group made) (map (λ (child : Given). child.rows) children))
        → Follows (record { group = group; prop = prop }) gives
    expr-follows prop expr below children made same may first stand gives is_made is_rows =
        let found : expr_over memo.groups group made ≡ Some expr = ap (λ some. expr_among made some) there ∙ ap (λ some. expr_among some (Some own)) same ∙ first in
        let rows : made_at prop (applied appliance (Some expr) (map (λ (child : Given). child.rows) children)) ≡ gives.rows =
        sym (is_rows ∙ ap (λ some. made_at prop (applied appliance some (map (λ (child : Given). child.rows) children))) found) in
        record {
          same = is_made;
          may = may-at own (record { group = group; prop = prop }) there may;
          bag = stand.bag;
          admitted = stand.admitted;
          stands = subst (λ rows. StandsFor appliance.nodes prop rows stand.bag) rows stand.stands;
          inside = subst (λ rows. IsInside prop rows) rows (made-inside prop (applied appliance (Some expr) (map (λ (child : Given). child.rows) children)));
        }

  abbrev As : GroupId → Prop → Made
  As group prop = record { group = group; prop = prop }

  scan-follows : (group : GroupId) (prop : Prop) → is_at memo.groups group (λ of. is_scanned of prop) ≡ true → Follows (As group prop) (given_step memo.groups appliance (Plan-F.Scan group prop))
  scan-follows group prop way =
      let at = at-some memo.groups group (λ of. is_scanned of prop) way in
      let both = and_parts (may_have at.group.interesting prop) (list_any (λ (expr : Expr). leaf_rule expr.op prop) at.group.exprs) at.passes in
      let over : IsOver [] (λ (expr : Expr). leaf_rule expr.op prop) at.group.exprs =
      any-over [] (λ (expr : Expr). leaf_rule expr.op prop) at.group.exprs (differ group at.group at.there)
      (λ place expr there rule. ap (λ children. are_groups_of [] children) (scan-alone appliance sound appliance.tables expr.op expr.children prop rule (expr-reads group at.group at.there expr place there))) both.1 in
      let reads = expr-reads group at.group at.there over.expr over.place over.there in
      let alone = scan-alone appliance sound appliance.tables over.expr.op over.expr.children prop over.passes reads in
      let stands = (expr-stands group at.group at.there over.expr over.place over.there).admitted [] (subst (λ children. AdmitEachAt (undivided appliance) means children []) (sym alone) tt) in
      expr-follows group at.group at.there prop over.expr [] [] [] refl both.0 over.found
      (record { bag = _; admitted = stands; stands = scan-case appliance sound over.expr.op over.expr.children prop over.passes reads }) _ refl refl

  -- the first expression that makes this over these
  module _ (group : GroupId) (prop : Prop) (below : List Made) (way : is_at memo.groups group (λ of. is_operated of below prop) ≡ true) where
    own-at : IsFound memo.groups group (λ of. is_operated of below prop)
    own-at = at-some memo.groups group (λ of. is_operated of below prop) way

    own-both : (may_have own-at.group.interesting prop ≡ true) × (list_any (operates below prop) own-at.group.exprs ≡ true)
    own-both = and_parts (may_have own-at.group.interesting prop) (list_any (operates below prop) own-at.group.exprs) own-at.passes

    own-over : IsOver below (operates below prop) own-at.group.exprs
    own-over = any-over below (operates below prop) own-at.group.exprs (differ group own-at.group own-at.there) (λ place expr there passes. (operates-parts below prop expr passes).0) own-both.1

    own-children : map (λ (made : Made). made.group) below ≡ own-over.expr.children
    own-children = groups-are below own-over.expr.children own-over.over

    own-rule : local_rule own-over.expr.op (map (λ (made : Made). made.prop) below) prop ≡ true
    own-rule = (operates-parts below prop own-over.expr own-over.passes).1

  one-follows : (group : GroupId) (prop : Prop) (made : Made) (gives : Given) → Follows made gives → is_at memo.groups group (λ of. is_operated of (made ∷ []) prop) ≡ true
      → Follows (As group prop) (given_step memo.groups appliance (Plan-F.Op group prop (gives ∷ [])))
  one-follows group prop made gives child way =
      let at = own-at group prop (made ∷ []) way in
      let over = own-over group prop (made ∷ []) way in
      let children = own-children group prop (made ∷ []) way in
      let database = undivided appliance in
      let admits = (expr-stands group at.group at.there over.expr over.place over.there).admitted in
      expr-follows group at.group at.there prop over.expr (made ∷ []) (gives ∷ []) (gives.made ∷ []) (ap (λ made. made ∷ []) child.same) (own-both group prop (made ∷ []) way).0 over.found
      (unary-case appliance sound means group.0 over.expr.op made.group made.prop prop (own-rule group prop (made ∷ []) way) (expr-keys group at.group at.there over.expr over.place over.there)
      (λ bags each. admits bags (subst (λ some. AdmitEachAt database means some bags) children each))
      (subst (AdmitsParts database means group.0 over.expr.op) (sym children) (expr-parts group at.group at.there over.expr over.place over.there))
      gives.rows child.bag child.admitted child.stands) _ refl refl

  side-of : (number : ℕ) (made : Made) (gives : Given) → Follows made gives → IsSide appliance sound means number memo.groups made.group made.prop gives.rows
  side-of number made gives child =
      let at = at-some memo.groups made.group (λ group. may_have group.interesting made.prop) child.may in
      record {
        group = at.group;
        there = at.there;
        may = at.passes;
        columns = all-at HasItsColumns memo.groups (memo-interesting memo is) made.group.0 at.group at.there;
        bag = child.bag;
        admitted = child.admitted;
        within = memo-within memo is (undivided appliance) made.group.0 at.group at.there child.bag child.admitted;
        stands = child.stands;
      }

  two-follows : (group : GroupId) (prop : Prop) (left right : Made) (first second : Given) → Follows left first → Follows right second
      → is_at memo.groups group (λ of. is_operated of (left ∷ right ∷ []) prop) ≡ true
      → Follows (As group prop) (given_step memo.groups appliance (Plan-F.Op group prop (first ∷ second ∷ [])))
  two-follows group prop left right first second a b way =
      let below = left ∷ right ∷ [] in
      let at = own-at group prop below way in
      let over = own-over group prop below way in
      let children = own-children group prop below way in
      let database = undivided appliance in
      let admits = (expr-stands group at.group at.there over.expr over.place over.there).admitted in
      expr-follows group at.group at.there prop over.expr below (first ∷ second ∷ []) (first.made ∷ second.made ∷ []) (ap₂ (λ l r. l ∷ r ∷ []) a.same b.same) (own-both group prop below way).0 over.found
      (binary-case appliance sound means group.0 memo.groups over.expr.op left.group right.group left.prop right.prop prop (own-rule group prop below way)
      (subst (HasApartSides memo.groups over.expr.op) (sym children) (expr-sides group at.group at.there over.expr over.place over.there))
      (λ bags each. admits bags (subst (λ some. AdmitEachAt database means some bags) children each))
      first.rows second.rows (side-of group.0 left first a) (side-of group.0 right second b)) _ refl refl

  -- an operator is over one child or two
  none-follows : {X : Type 0} (group : GroupId) (prop : Prop) → is_at memo.groups group (λ of. is_operated of [] prop) ≡ true → X
  none-follows group prop way = absurd (true≢false (sym (own-over group prop [] way).passes))

  many-follows : {X : Type 0} (group : GroupId) (prop : Prop) (a b c : Made) (rest : List Made) → is_at memo.groups group (λ of. is_operated of (a ∷ b ∷ c ∷ rest) prop) ≡ true → X
  many-follows group prop a b c rest way = absurd (true≢false (sym (own-rule group prop (a ∷ b ∷ c ∷ rest) way)))

  -- ---- any plan

  module _ (costs : Costs) where
    abbrev shape : Plan → Shape
    shape = shape_of memo.groups costs

    abbrev gives : Plan → Given
    gives = given_by memo.groups appliance

    abbrev Good : Plan → Type 0
    Good p = (shape p).fault ≡ None → Follows (shape p).made (gives p)

    from_layer : (p : Plan) (s : Shape) (g : Given) → shape p ≡ s → gives p ≡ g → (s.fault ≡ None → Follows s.made g) → Good p
    from_layer p s g is_shape is_given holds fault =
        subst (λ g. Follows (shape p).made g) (sym is_given) (subst (λ (s : Shape). Follows s.made g) (sym is_shape) (holds (ap (λ (s : Shape). s.fault) (sym is_shape) ∙ fault)))

    op-good : (group : GroupId) (prop : Prop) (children : List Plan) → AllByRecursion Good children → (shape_step memo.groups costs (Plan-F.Op group prop (map shape children))).fault ≡ None
        → Follows (As group prop) (given_step memo.groups appliance (Plan-F.Op group prop (map gives children)))
    op-good group prop [] all fault = none-follows group prop (fault-none [] (is_at memo.groups group (λ of. is_operated of [] prop)) fault).1
    op-good group prop (p ∷ []) all fault =
        let parts = fault-none (shape p ∷ []) (is_at memo.groups group (λ of. is_operated of ((shape p).made ∷ []) prop)) fault in
        one-follows group prop (shape p).made (gives p) (all.0 (one-none (shape p) parts.0)) parts.1
    op-good group prop (p ∷ q ∷ []) all fault =
        let parts = fault-none (shape p ∷ shape q ∷ []) (is_at memo.groups group (λ of. is_operated of ((shape p).made ∷ (shape q).made ∷ []) prop)) fault in
        let both = two-none (shape p) (shape q) parts.0 in
        two-follows group prop (shape p).made (shape q).made (gives p) (gives q) (all.0 both.0) (all.1.0 both.1) parts.1
    op-good group prop (p ∷ q ∷ r ∷ rest) all fault =
        many-follows group prop (shape p).made (shape q).made (shape r).made (map (λ (s : Shape). s.made) (map shape rest))
        (fault-none (shape p ∷ shape q ∷ shape r ∷ map shape rest) (is_at memo.groups group (λ of. is_operated of (made_in (shape p ∷ shape q ∷ shape r ∷ map shape rest)) prop)) fault).1

    cases : Inductive Good
    cases = record {
      scan = λ group prop.
          from_layer (plan.Scan group prop) _ _ (fold-scan (shape_step memo.groups costs) group prop) (fold-scan (given_step memo.groups appliance) group prop)
          (λ fault. scan-follows group prop (fault-none [] (is_at memo.groups group (λ of. is_scanned of prop)) fault).1);
      op = λ group prop children all.
          from_layer (plan.Op group prop children) _ _ (fold-op (shape_step memo.groups costs) group prop children) (fold-op (given_step memo.groups appliance) group prop children) (op-good group prop children all);
      moved = λ mv child holds.
          from_layer (plan.Moved mv child) _ _ (fold-moved (shape_step memo.groups costs) mv child) (fold-moved (given_step memo.groups appliance) mv child)
          (λ fault.
          let parts = fault-none (shape child ∷ []) (is_at memo.groups (shape child).made.group (λ of. is_moved of mv (shape child).made.prop)) fault in
          moved-follows mv (shape child).made (gives child) (holds (one-none (shape child) parts.0)) parts.1);
      free = λ to child holds.
          from_layer (plan.Free to child) _ _ (fold-free (shape_step memo.groups costs) to child) (fold-free (given_step memo.groups appliance) to child)
          (λ fault.
          let parts = fault-none (shape child ∷ []) (is_at memo.groups (shape child).made.group (λ of. is_freed of (shape child).made.prop to)) fault in
          free-follows to (shape child).made (gives child) (holds (one-none (shape child) parts.0)) parts.1);
    }

    plan-follows : (p : Plan) → Good p
    plan-follows = by_plans Good cases

pub plan-gives : (memo : Contents) (costs : Costs) (p : Plan) (made : Made) → IsPlan memo.groups costs p made → GivesRowsOfGroup memo p made
plan-gives memo costs p made well is appliance sound tables =
    let f = subst (λ m. Follows memo is appliance sound tables m (given_by memo.groups appliance p)) well.makes (plan-follows memo is appliance sound tables costs p well.allowed) in
    record {
      made = f.same;
      bag = f.bag;
      admitted = f.admitted;
      stands = f.stands;
      inside = f.inside;
      returned =
          subst (λ (m : Made). SameBag (returned appliance.nodes m.prop (given_by memo.groups appliance p).rows) f.bag) (sym f.same)
          (returned-bag appliance.nodes sound.nodes.0 made.prop (given_by memo.groups appliance p).rows f.bag f.stands);
    }

-- ---- plans for the query

pub query-none : (fault : Option ℕ) (root : Bool) (last : ℕ) → option_or fault (if root then None else Some last) ≡ None → (fault ≡ None) × (root ≡ true)
query-none None true last none = (refl, refl)
query-none None false last none = absurd (true≢false (ap is_some none))
query-none (Some node) root last none = absurd (true≢false (ap is_some none))

root-number : (groups : List Group) (number : GroupId) → is_root groups number ≡ true → number.0 ≡ length groups - 1
root-number groups number is = let same : suc number.0 ≡ length groups = eqb-true (suc number.0) (length groups) is in omega (arith, same)

pub query-gives : (memo : Contents) (is : IsMemo memo) (costs : Costs) (p : Plan) → query_fault memo.groups (shape_of memo.groups costs p) ≡ None → (appliance : Appliance) → IsSound appliance → is.tables ≡ appliance.tables
    → SameBag (returned_by memo.groups appliance p) (rows_of (undivided appliance) is.tree)
query-gives memo is costs p well appliance sound tables =
    let s = shape_of memo.groups costs p in
    let both = query-none s.fault (is_root memo.groups s.made.group) (s.nodes - 1) well in
    let gives = plan-gives memo costs p s.made (record { allowed = both.0; makes = refl }) is appliance sound tables in
    let at : slice_get (meanings_in memo is) s.made.group.0 ≡ Some (exactly is.tree) = ap (slice_get (meanings_in memo is)) (root-number memo.groups s.made.group both.1) ∙ memo-root memo is in
    SameBag-trans gives.returned (subst (λ means. AdmitsIf (undivided appliance) means gives.bag) at gives.admitted)

-- of what a check answers
pub answer-gives : (memo : Contents) (p : Plan) (answer : Result (GroupId × Prop) PlanFault) → ((costs : Costs) → IsAnswer memo.groups costs p answer)
    → IfOk answer (λ made. GivesRowsOfGroup memo p (record { group = made.0; prop = made.1 }))
answer-gives memo p (Ok made) is =
    let s = shape_of memo.groups no_costs p in
    let both = query-none s.fault (is_root memo.groups s.made.group) (s.nodes - 1) (is no_costs).0 in
    plan-gives memo no_costs p (record { group = made.0; prop = made.1 }) (record { allowed = both.0; makes = (is no_costs).1 })
answer-gives memo p (Err fault) is = tt
