-- The fragments of a plan are well-typed over the schemas of the temporary tables before them.
use Rattle.std.proofs.Common.{◌≡◌, ℕ, suc, ◌+◌, ◌==◌, ◌||◌, Bool, true, false, true≢false, List, [], ◌∷◌, ◌++◌, length, map, refl, sym, ap, subst, ◌∙◌, append_assoc, append-nil, length-append}
use Rattle.std.proofs.lemmas.List.{length-map, map-append}
use Rattle.std.specs.List.{AllByRecursion, list_any}
use Rattle.std.proofs.lemmas.Bool.{and_parts}
use Rattle.pdw_algebra.proofs.AllLaws.{numbers-same}
use Rattle.pdw_algebra.specs.Shape.{has_number}
use Rattle.pdw_algebra.specs.declared.local.LocalTree.TheVariants as tree
use Rattle.pdw_algebra.specs.declared.local.LocalTree.{LocalTree}
use Rattle.pdw_base.specs.Schema.{Columns}
use Rattle.pdw_base.specs.declared.node.Node.TheVariants as node
use Rattle.pdw_base.specs.declared.schema.ColId.{ColId}
use Rattle.pdw_catalog.specs.Catalog.{Tables}
use Rattle.pdw_dsql.proofs.TypedTrees.{AllMake, Makes, ReadsNone, temp-makes, temp-reads}
use Rattle.pdw_dsql.specs.Sites.{return_site, site_of}
use Rattle.pdw_dsql.specs.Steps.{Cutting, cut_step, fragments_after, made_of, next_temp, schema_at, schema_of_some, step_of}
use Rattle.pdw_dsql.specs.Typed.{AreTyped, FindsItsColumn, IsTypedTree, schemas_of, site_for}
use Rattle.pdw_dsql.specs.declared.steps.Site.TheVariants as site
use Rattle.pdw_dsql.specs.declared.steps.Site.{Site}
use Rattle.pdw_dsql.specs.declared.steps.Step.{Step}
use Rattle.pdw_exec.specs.Shapes.{LocalShape}
use Rattle.pdw_groups.specs.declared.group.Group.{Group}
use Rattle.pdw_memo.proofs.EachGroup.{all-at}
use Rattle.pdw_memo.specs.Laws.{HasItsColumns}
use Rattle.pdw_move.specs.Move.{property_after, property_before}
use Rattle.pdw_move.specs.declared.kinds.Move.TheVariants as move
use Rattle.pdw_move.specs.declared.kinds.Move.{Move}
use Rattle.pdw_move.specs.declared.kinds.Prop.TheVariants as prop
use Rattle.pdw_move.specs.declared.kinds.Prop.{Prop}
use Rattle.pdw_plan.proofs.CoverLaws.{free-covers}
use Rattle.pdw_plan.proofs.PlanParts.{IsFound, at-some}
use Rattle.pdw_plan.specs.Covers.{Covers}
use Rattle.pdw_rules.proofs.SiteLemmas.{same-property}
use Rattle.pdw_rules.specs.Rules.{is_free, is_same, may_have}
use Rattle.pdw_rules.specs.Stands.{is_at}
use Rattle.pdw_ways.specs.Ways.{is_at as is_at_group, is_moved}
use Rattle.pdw_ways.specs.declared.made.Made.{Made}
use Rattle.pdw_ways.specs.declared.plan.Plan.TheOpen.{Plan-F}

-- ---- sites

-- the rows of the control node are made of its own alone
pub control-child : (p : Prop) → Covers prop.Control p → p ≡ prop.Control
control-child p covers = by p (covers.there node.Control refl)
  where
    by : (p : Prop) → is_at p node.Control ≡ true → p ≡ prop.Control
    by prop.Spread at = absurd (true≢false (sym at))
    by (prop.Hash c) at = absurd (true≢false (sym at))
    by prop.Replicated at = absurd (true≢false (sym at))
    by prop.Single at = absurd (true≢false (sym at))
    by prop.Control at = refl

control-site : (p : Prop) → site_of p ≡ site.Control → p ≡ prop.Control
control-site prop.Spread is = cc
control-site (prop.Hash c) is = cc
control-site prop.Replicated is = cc
control-site prop.Single is = cc
control-site prop.Control is = refl

pub control-return : (p : Prop) → return_site p ≡ site.Control → p ≡ prop.Control
control-return prop.Spread is = cc
control-return (prop.Hash c) is = cc
control-return prop.Replicated is = cc
control-return prop.Single is = cc
control-return prop.Control is = refl

move-site : (mv : Move) → site_of (property_before mv) ≡ site_for mv
move-site (move.Shuffle c) = refl
move-site move.ToSingle = refl
move-site move.ToControl = refl
move-site move.Broadcast = refl
move-site (move.Trim c) = refl
move-site move.FromControl = refl
move-site move.FromSingle = refl

-- ---- columns of moves

interesting-there : (c : ColId) (schema : Columns) (interesting : List ColId) → AllByRecursion (λ i. has_number i schema ≡ true) interesting → list_any (λ i. i.0 == c.0) interesting ≡ true → has_number c schema ≡ true
interesting-there c schema [] all there = absurd (true≢false (sym there))
interesting-there c schema (i ∷ interesting) all there = by (i.0 == c.0) refl there (interesting-there c schema interesting all.1)
  where
    by : (here : Bool) → (i.0 == c.0) ≡ here → (here || list_any (λ (i : ColId). i.0 == c.0) interesting) ≡ true → (list_any (λ (i : ColId). i.0 == c.0) interesting ≡ true → has_number c schema ≡ true) → has_number c schema ≡ true
    by true is there rest = subst (λ d. has_number d schema ≡ true) (numbers-same i c is) all.0
    by false is there rest = rest there

finds-column : (group : Group) (mv : Move) → HasItsColumns group → may_have group.interesting (property_after mv) ≡ true → FindsItsColumn group.schema mv
finds-column group (move.Shuffle c) has may = interesting-there c group.schema group.interesting has may
finds-column group (move.Trim c) has may = interesting-there c group.schema group.interesting has may
finds-column group move.ToSingle has may = tt
finds-column group move.ToControl has may = tt
finds-column group move.Broadcast has may = tt
finds-column group move.FromControl has may = tt
finds-column group move.FromSingle has may = tt

-- ---- trees and steps

pub tree-typed : (tables : Tables) (schemas : List Columns) (t : LocalTree) (at : Site) (columns : Columns) → Makes tables schemas t columns → (at ≡ site.Control → ReadsNone t) → IsTypedTree tables schemas t at columns
tree-typed tables schemas t at columns makes reads = record {
  typed = ap (λ (s : LocalShape). s.typed) makes;
  schema = ap (λ (s : LocalShape). s.columns) makes;
  reads = reads;
}

steps-append : (tables : Tables) (schemas : List Columns) (first more : List Step) → AreTyped tables schemas first → AreTyped tables (schemas ++ schemas_of first) more → AreTyped tables schemas (first ++ more)
steps-append tables schemas [] more one two = subst (λ all. AreTyped tables all more) (append-nil schemas) two
steps-append tables schemas (step ∷ first) more one two =
    (one.0, steps-append tables (schemas ++ step.schema ∷ []) first more one.1 (subst (λ all. AreTyped tables all more) (sym (append_assoc schemas (step.schema ∷ []) (schemas_of first))) two))

module _ (tables : Tables) (groups : List Group) where
  abbrev columns_at : Made → Columns
  columns_at made = schema_at groups made.group

  abbrev pub columns_of_all : List Made → List Columns
  columns_of_all made = map (schema_at groups) (map (λ (m : Made). m.group) made)

  pub record TypedCut (c : Cutting) : Type 0 where
    pub steps : (schemas : List Columns) → AreTyped tables schemas (c.fragment (length schemas)).steps
    pub tree : (schemas later : List Columns) → Makes tables (schemas ++ (schemas_of (c.fragment (length schemas)).steps ++ later)) (c.fragment (length schemas)).tree (columns_at c.made)
    pub reads : (before : ℕ) → c.made.prop ≡ prop.Control → ReadsNone (c.fragment before).tree

  pub record TypedCuts (result : Prop) (cuts : List Cutting) : Type 0 where
    pub steps : (schemas : List Columns) → AreTyped tables schemas (fragments_after cuts (length schemas)).steps
    pub trees : (schemas later : List Columns)
        → AllMake tables (schemas ++ (schemas_of (fragments_after cuts (length schemas)).steps ++ later)) (fragments_after cuts (length schemas)).trees (columns_of_all (made_of cuts))
    pub reads : (before : ℕ) → result ≡ prop.Control → AllByRecursion ReadsNone (fragments_after cuts before).trees

  pub none-typed : (result : Prop) → TypedCuts result []
  none-typed result = record { steps = λ schemas. tt; trees = λ schemas later. tt; reads = λ before control. tt }

  module _ (c : Cutting) (own : TypedCut c) where
    abbrev steps_after : List Columns → List Step
    steps_after schemas = (c.fragment (length schemas)).steps

    abbrev after : List Columns → List Columns
    after schemas = schemas ++ schemas_of (steps_after schemas)

    count : (schemas : List Columns) → length (after schemas) ≡ length schemas + length (steps_after schemas)
    count schemas = length-append schemas (schemas_of (steps_after schemas)) ∙ ap (λ n. length schemas + n) (length-map (steps_after schemas) (λ (step : Step). step.schema))

    pub more-typed : (result : Prop) (cuts : List Cutting) → Covers result c.made.prop → TypedCuts result cuts → TypedCuts result (c ∷ cuts)
    more-typed result cuts covers rest = record {
      steps = λ schemas.
          let more = λ (n : ℕ). (fragments_after cuts n).steps in
          steps-append tables schemas (steps_after schemas) (more (length schemas + length (steps_after schemas))) (own.steps schemas)
          (subst (λ n. AreTyped tables (after schemas) (more n)) (count schemas) (rest.steps (after schemas)));
      trees = λ schemas later.
          let n = length schemas + length (steps_after schemas) in
          let more = (fragments_after cuts n).steps in
          let all : schemas ++ (schemas_of (steps_after schemas ++ more) ++ later) ≡ schemas ++ (schemas_of (steps_after schemas) ++ (schemas_of more ++ later)) =
          ap (λ some. schemas ++ (some ++ later)) (map-append (λ (step : Step). step.schema) (steps_after schemas) more)
          ∙ ap (λ some. schemas ++ some) (append_assoc (schemas_of (steps_after schemas)) (schemas_of more) later) in
          let split : after schemas ++ (schemas_of more ++ later) ≡ schemas ++ (schemas_of (steps_after schemas ++ more) ++ later) =
          append_assoc schemas (schemas_of (steps_after schemas)) (schemas_of more ++ later) ∙ sym all in (
            subst (λ some. Makes tables some (c.fragment (length schemas)).tree (columns_at c.made)) (sym all) (own.tree schemas (schemas_of more ++ later)),
            subst (λ some. AllMake tables some (fragments_after cuts n).trees (columns_of_all (made_of cuts))) split
                (subst (λ n. AllMake tables (after schemas ++ (schemas_of (fragments_after cuts n).steps ++ later)) (fragments_after cuts n).trees (columns_of_all (made_of cuts))) (count schemas)
                (rest.trees (after schemas) later)),
          );
      reads = λ before control.
          (own.reads before (control-child c.made.prop (subst (λ p. Covers p c.made.prop) control covers)), rest.reads (before + length (c.fragment before).steps) control);
    }

    -- ---- a move

    pub moved-typed : (mv : Move) → AllByRecursion HasItsColumns groups → is_at_group groups c.made.group (λ of. is_moved of mv c.made.prop) ≡ true → TypedCut (cut_step groups (Plan-F.Moved mv c))
    moved-typed mv has way = record {
      steps = λ schemas.
          let t = (c.fragment (length schemas)).tree in
          let step = step_of groups c.made mv t (next_temp (length schemas) (steps_after schemas)) in
          steps-append tables schemas (steps_after schemas) (step ∷ []) (own.steps schemas) (
            record {
              tree =
                  tree-typed tables (after schemas) t (site_of c.made.prop) (columns_at c.made)
                  (subst (λ some. Makes tables (schemas ++ some) t (columns_at c.made)) (append-nil (schemas_of (steps_after schemas))) (own.tree schemas []))
                  (λ control. own.reads (length schemas) (control-site c.made.prop control));
              column = subst (λ schema. FindsItsColumn schema mv) (sym (ap schema_of_some found.there)) (finds-column found.group mv (all-at HasItsColumns groups has c.made.group.0 found.group found.there) both.1);
              site = sym (ap site_of before_is) ∙ move-site mv;
            },
            tt,
          );
      tree = λ schemas later.
          let t = (c.fragment (length schemas)).tree in
          let step = step_of groups c.made mv t (next_temp (length schemas) (steps_after schemas)) in
          let split : schemas ++ (schemas_of (steps_after schemas ++ step ∷ []) ++ later) ≡ after schemas ++ columns_at c.made ∷ later =
          ap (λ some. schemas ++ (some ++ later)) (map-append (λ (step : Step). step.schema) (steps_after schemas) (step ∷ []))
          ∙ ap (λ some. schemas ++ some) (append_assoc (schemas_of (steps_after schemas)) (columns_at c.made ∷ []) later)
          ∙ sym (append_assoc schemas (schemas_of (steps_after schemas)) (columns_at c.made ∷ later)) in
          subst (λ some. Makes tables some (tree.Temp (next_temp (length schemas) (steps_after schemas))) (columns_at c.made)) (sym split)
          (subst (λ n. Makes tables (after schemas ++ columns_at c.made ∷ later) (tree.Temp (suc n)) (columns_at c.made)) (count schemas) (temp-makes tables (after schemas) (columns_at c.made) later));
      reads = λ before control. temp-reads (next_temp before (c.fragment before).steps);
    }
      where
        found : IsFound groups c.made.group (λ of. is_moved of mv c.made.prop)
        found = at-some groups c.made.group (λ of. is_moved of mv c.made.prop) way

        both : (is_same (property_before mv) c.made.prop ≡ true) × (may_have found.group.interesting (property_after mv) ≡ true)
        both = and_parts (is_same (property_before mv) c.made.prop) (may_have found.group.interesting (property_after mv)) found.passes

        before_is : property_before mv ≡ c.made.prop
        before_is = same-property (property_before mv) c.made.prop both.0

    pub free-typed : (to : Prop) → is_free c.made.prop to ≡ true → TypedCut (cut_step groups (Plan-F.Free to c))
    free-typed to free = record {
      steps = own.steps;
      tree = own.tree;
      reads = λ before control. own.reads before (control-child c.made.prop (subst (λ p. Covers p c.made.prop) control (free-covers c.made.prop to free)));
    }
