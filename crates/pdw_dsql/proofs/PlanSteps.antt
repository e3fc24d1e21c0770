-- The steps of a plan follow it, by induction over plans.
use Rattle.std.proofs.Common.{◌≡◌, ℕ, suc, ◌+◌, true, None, List, [], ◌∷◌, length, map, refl, sym, ap, ap₂, subst, ◌∙◌, arith, append-nil}
use Rattle.std.specs.List.{AllByRecursion}
use Rattle.pdw_base.specs.declared.node.Node.TheVariants as node
use Rattle.pdw_base.specs.declared.node.Node.{Node}
use Rattle.pdw_catalog.specs.Appliance.{Contents}
use Rattle.pdw_dsql.proofs.CutParts.{DoAll, Does, free-does, more-do, moved-does, none-do, op-does, scan-does, tables_of}
use Rattle.pdw_dsql.proofs.RunLemmas.{numbered-append}
use Rattle.pdw_dsql.specs.Follows.{AreNumbered, Follows, brought_by, rows_of_tree}
use Rattle.pdw_dsql.specs.Sites.{return_site, rows_from}
use Rattle.pdw_dsql.specs.Steps.{Cutting, cut_step, cutting, fragments_after, made_of, next_temp, step_of, steps_of}
use Rattle.pdw_groups.specs.declared.group.Group.{Group}
use Rattle.pdw_groups.specs.declared.key.GroupId.{GroupId}
use Rattle.pdw_move.specs.Move.{property_after}
use Rattle.pdw_move.specs.declared.kinds.Move.{Move}
use Rattle.pdw_move.specs.declared.kinds.Prop.TheVariants as prop
use Rattle.pdw_move.specs.declared.kinds.Prop.{Prop}
use Rattle.pdw_plan.proofs.CoverLaws.{line-covers}
use Rattle.pdw_plan.proofs.PlanParts.{any-at, at-some, children-none, fault-none, one-none, operates-parts}
use Rattle.pdw_plan.specs.Covers.{Covers}
use Rattle.pdw_plan.specs.Given.{Given, given_by, given_step}
use Rattle.std.proofs.lemmas.Bool.{and_parts}
use Rattle.std.specs.List.{list_any}
use Rattle.pdw_rules.proofs.Together.{together-lists}
use Rattle.pdw_rules.specs.Rules.{is_free, may_have}
use Rattle.pdw_rules.specs.Stands.{PlacedRows, is_at, returned}
use Rattle.pdw_ways.proofs.PlanFolds.{Inductive, by_plans, fold-free, fold-moved, fold-op, fold-scan}
use Rattle.pdw_ways.specs.Shape.{IsPlan, Shape, made_in, shape_of, shape_step}
use Rattle.pdw_ways.specs.Ways.{Costs, is_at as is_at_group, is_freed, is_moved, is_operated, operates}
use Rattle.pdw_ways.specs.declared.made.Made.{Made}
use Rattle.pdw_ways.specs.declared.plan.Plan.TheOpen.{Plan-F}
use Rattle.pdw_ways.specs.declared.plan.Plan.TheVariants as plan
use Rattle.pdw_ways.specs.declared.plan.Plan.{Plan}

-- ---- ways

module _ (groups : List Group) where
  -- an operator that is a way keeps a local rule, under which its children's rows are at hand
  pub op-covers : (group : GroupId) (result : Prop) (below : List Made) → is_at_group groups group (λ of. is_operated of below result) ≡ true → AllByRecursion (Covers result) (map (λ (m : Made). m.prop) below)
  op-covers group result below way =
      let at = at-some groups group (λ of. is_operated of below result) way in
      let some = any-at (operates below result) at.group.exprs (and_parts (may_have at.group.interesting result) (list_any (operates below result) at.group.exprs) at.passes).1 in
      line-covers some.item.op (map (λ (m : Made). m.prop) below) result (operates-parts below result some.item some.passes).1

  pub freed : (to : Prop) (made : Made) → is_at_group groups made.group (λ of. is_freed of made.prop to) ≡ true → is_free made.prop to ≡ true
  freed to made way =
      let at = at-some groups made.group (λ of. is_freed of made.prop to) way in
      (and_parts (is_free made.prop to) (may_have at.group.interesting to) at.passes).0

-- ---- what a plan makes is known alike

module _ (groups : List Group) (costs : Costs) where
  abbrev shape : Plan → Shape
  shape = shape_of groups costs

  abbrev cut : Plan → Cutting
  cut = cutting groups

  pub cut-made : (p : Plan) → (cut p).made ≡ (shape p).made
  cut-made = by_plans (λ p. (cut p).made ≡ (shape p).made) (record {
    scan = λ group prop. ap (λ (c : Cutting). c.made) (fold-scan (cut_step groups) group prop) ∙ ap (λ (s : Shape). s.made) (sym (fold-scan (shape_step groups costs) group prop));
    op = λ group prop children all. ap (λ (c : Cutting). c.made) (fold-op (cut_step groups) group prop children) ∙ ap (λ (s : Shape). s.made) (sym (fold-op (shape_step groups costs) group prop children));
    moved = λ mv child same.
        ap (λ (c : Cutting). c.made) (fold-moved (cut_step groups) mv child)
        ∙ ap (λ (m : Made). record { group = m.group; prop = property_after mv }) same
        ∙ ap (λ (s : Shape). s.made) (sym (fold-moved (shape_step groups costs) mv child));
    free = λ to child same.
        ap (λ (c : Cutting). c.made) (fold-free (cut_step groups) to child)
        ∙ ap (λ (m : Made). record { group = m.group; prop = to }) same
        ∙ ap (λ (s : Shape). s.made) (sym (fold-free (shape_step groups costs) to child));
  })

  pub cuts-made : (plans : List Plan) → made_of (map cut plans) ≡ made_in (map shape plans)
  cuts-made [] = refl
  cuts-made (p ∷ plans) = ap₂ (λ first rest. first ∷ rest) (cut-made p) (cuts-made plans)

  module _ (contents : Contents) where
    abbrev gives : Plan → Given
    gives = given_by groups contents

    gives-made : (p : Plan) → (gives p).made ≡ (shape p).made
    gives-made = by_plans (λ p. (gives p).made ≡ (shape p).made) (record {
      scan = λ group prop. ap (λ (g : Given). g.made) (fold-scan (given_step groups contents) group prop) ∙ ap (λ (s : Shape). s.made) (sym (fold-scan (shape_step groups costs) group prop));
      op = λ group prop children all. ap (λ (g : Given). g.made) (fold-op (given_step groups contents) group prop children) ∙ ap (λ (s : Shape). s.made) (sym (fold-op (shape_step groups costs) group prop children));
      moved = λ mv child same.
          ap (λ (g : Given). g.made) (fold-moved (given_step groups contents) mv child)
          ∙ ap (λ (m : Made). record { group = m.group; prop = property_after mv }) same
          ∙ ap (λ (s : Shape). s.made) (sym (fold-moved (shape_step groups costs) mv child));
      free = λ to child same.
          ap (λ (g : Given). g.made) (fold-free (given_step groups contents) to child)
          ∙ ap (λ (m : Made). record { group = m.group; prop = to }) same
          ∙ ap (λ (s : Shape). s.made) (sym (fold-free (shape_step groups costs) to child));
    })

    -- ---- any plan

    abbrev DoesPlan : Plan → Type 0
    DoesPlan p = Does groups contents (cut p) (gives p)

    abbrev Good : Plan → Type 0
    Good p = (shape p).fault ≡ None → DoesPlan p

    abbrev CoversChild : Prop → Plan → Type 0
    CoversChild result p = Covers result (shape p).made.prop

    all-do : (result : Prop) (plans : List Plan) → AllByRecursion Good plans → AllByRecursion (λ (s : Shape). s.fault ≡ None) (map shape plans)
        → AllByRecursion (Covers result) (map (λ (m : Made). m.prop) (made_in (map shape plans))) → DoAll groups contents result (map cut plans) (map gives plans)
    all-do result [] good faults covers = none-do groups contents result
    all-do result (p ∷ plans) good faults covers =
        more-do groups contents (cut p) (gives p) (good.0 faults.0) result (map cut plans) (map gives plans) (subst (λ (m : Made). Covers result m.prop) (sym (gives-made p)) covers.0)
        (all-do result plans good.1 faults.1 covers.1)

    from_layer : (p : Plan) (c : Cutting) (g : Given) (s : Shape) → cut p ≡ c → gives p ≡ g → shape p ≡ s → (s.fault ≡ None → Does groups contents c g) → Good p
    from_layer p c g s is_cut is_given is_shape holds fault =
        subst (λ (c : Cutting). Does groups contents c (gives p)) (sym is_cut)
        (subst (λ (g : Given). Does groups contents c g) (sym is_given) (holds (ap (λ (s : Shape). s.fault) (sym is_shape) ∙ fault)))

    cases : Inductive Good
    cases = record {
      scan = λ group prop.
          from_layer (plan.Scan group prop) _ _ _ (fold-scan (cut_step groups) group prop) (fold-scan (given_step groups contents) group prop) (fold-scan (shape_step groups costs) group prop)
          (λ fault. scan-does groups contents group prop);
      op = λ group prop children all.
          from_layer (plan.Op group prop children) _ _ _ (fold-op (cut_step groups) group prop children) (fold-op (given_step groups contents) group prop children) (fold-op (shape_step groups costs) group prop children)
          (λ fault.
          let parts = fault-none (map shape children) (is_at_group groups group (λ of. is_operated of (made_in (map shape children)) prop)) fault in
          op-does groups contents group prop (map cut children) (map gives children)
          (all-do prop children all (children-none 0 (map shape children) parts.0) (op-covers groups group prop (made_in (map shape children)) parts.1)));
      moved = λ mv child holds.
          from_layer (plan.Moved mv child) _ _ _ (fold-moved (cut_step groups) mv child) (fold-moved (given_step groups contents) mv child) (fold-moved (shape_step groups costs) mv child)
          (λ fault.
          let parts = fault-none (shape child ∷ []) (is_at_group groups (shape child).made.group (λ of. is_moved of mv (shape child).made.prop)) fault in
          moved-does groups contents (cut child) (gives child) (holds (one-none (shape child) parts.0)) mv);
      free = λ to child holds.
          from_layer (plan.Free to child) _ _ _ (fold-free (cut_step groups) to child) (fold-free (given_step groups contents) to child) (fold-free (shape_step groups costs) to child)
          (λ fault.
          let parts = fault-none (shape child ∷ []) (is_at_group groups (shape child).made.group (λ of. is_freed of (shape child).made.prop to)) fault in
          free-does groups contents (cut child) (gives child) (holds (one-none (shape child) parts.0)) to
          (subst (λ (m : Made). is_free m.prop to ≡ true) (sym (gives-made child)) (freed groups to (shape child).made parts.1)));
    }

    pub plan-does : (p : Plan) → Good p
    plan-does = by_plans Good cases

-- ---- numbers

module _ (groups : List Group) where
  abbrev Numbered : Cutting → Type 0
  Numbered c = (before : ℕ) → AreNumbered (suc before) (c.fragment before).steps

  all-numbered : (cuts : List Cutting) → AllByRecursion Numbered cuts → (before : ℕ) → AreNumbered (suc before) (fragments_after cuts before).steps
  all-numbered [] all before = tt
  all-numbered (c ∷ cuts) all before =
      let steps = (c.fragment before).steps in
      let more = (fragments_after cuts (before + length steps)).steps in
      let same : suc (before + length steps) ≡ suc before + length steps = omega arith in
      numbered-append (suc before) steps more (all.0 before) (subst (λ n. AreNumbered n more) same (all-numbered cuts all.1 (before + length steps)))

  moved-numbered : (mv : Move) (c : Cutting) → Numbered c → Numbered (cut_step groups (Plan-F.Moved mv c))
  moved-numbered mv c holds before =
      let steps = (c.fragment before).steps in
      let same : next_temp before steps ≡ suc before + length steps = omega arith in
      numbered-append (suc before) steps (step_of groups c.made mv (c.fragment before).tree (next_temp before steps) ∷ []) (holds before) (same, tt)

  all-cut : (plans : List Plan) → AllByRecursion (λ p. Numbered (cutting groups p)) plans → AllByRecursion Numbered (map (cutting groups) plans)
  all-cut [] all = tt
  all-cut (p ∷ plans) all = (all.0, all-cut plans all.1)

  pub plan-numbered : (p : Plan) → Numbered (cutting groups p)
  plan-numbered = by_plans (λ p. Numbered (cutting groups p)) (record {
    scan = λ group prop. subst Numbered (sym (fold-scan (cut_step groups) group prop)) (λ before. tt);
    op = λ group prop children all. subst Numbered (sym (fold-op (cut_step groups) group prop children)) (all-numbered (map (cutting groups) children) (all-cut children all));
    moved = λ mv child holds. subst Numbered (sym (fold-moved (cut_step groups) mv child)) (moved-numbered mv (cutting groups child) holds);
    free = λ to child holds. subst Numbered (sym (fold-free (cut_step groups) to child)) holds;
  })

-- ---- the return

returned-same : (n : ℕ) (p : Prop) (made rows : PlacedRows) → ((place : Node) → is_at p place ≡ true → made place ≡ rows place) → rows_from n (return_site p) made ≡ returned n p rows
returned-same n prop.Spread made rows same = together-lists n made rows (λ k less. same (node.Compute k) refl)
returned-same n (prop.Hash c) made rows same = together-lists n made rows (λ k less. same (node.Compute k) refl)
returned-same n prop.Replicated made rows same = same (node.Compute 0) refl
returned-same n prop.Single made rows same = same (node.Compute 0) refl
returned-same n prop.Control made rows same = same node.Control refl

pub steps-follow : (groups : List Group) (costs : Costs) (p : Plan) (made : Made) → IsPlan groups costs p made → (contents : Contents) → Follows groups contents p (steps_of groups p)
steps-follow groups costs p made well contents =
    let does = plan-does groups costs contents p well.allowed in
    let gives = given_by groups contents p in
    let c = cutting groups p in
    let tree = (c.fragment 0).tree in
    let taken = does.taken [] in
    record {
      moves = taken;
      numbers = plan-numbered groups p 0;
      rows =
          ap (λ taken. rows_from contents.nodes (return_site c.made.prop) (rows_of_tree contents (map (brought_by contents) taken) tree)) taken
          ∙ ap (λ (m : Made). rows_from contents.nodes (return_site m.prop) (rows_of_tree contents (tables_of groups contents gives.crossings) tree)) does.made
          ∙ returned-same contents.nodes gives.made.prop (rows_of_tree contents (tables_of groups contents gives.crossings) tree) gives.rows
          (λ place at. ap (λ tables. rows_of_tree contents tables tree place) (sym (append-nil (tables_of groups contents gives.crossings))) ∙ does.rows [] [] place at);
    }
