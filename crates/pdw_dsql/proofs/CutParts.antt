-- What a fragment of a plan does: its steps take what the plan's moves do, and over their temporary tables its tree gives the
-- plan's rows.
use Rattle.std.proofs.Common.{◌≡◌, ℕ, suc, ◌+◌, Bool, true, false, List, [], ◌∷◌, ◌++◌, length, map, refl, sym, ap, ap₂, ◌∙◌, append_assoc, append-nil, if◌then◌else◌}
use Rattle.std.proofs.lemmas.List.{map-append}
use Rattle.std.specs.List.{flat_map}
use Rattle.pdw_algebra.specs.declared.local.LocalTree.TheVariants as tree
use Rattle.pdw_algebra.specs.declared.local.LocalTree.{LocalTree}
use Rattle.pdw_base.specs.declared.node.Node.TheVariants as node
use Rattle.pdw_base.specs.declared.node.Node.{Node}
use Rattle.pdw_catalog.specs.Appliance.{Contents}
use Rattle.pdw_dsql.proofs.RunLemmas.{tables-length, tables_after, turn-append}
use Rattle.pdw_dsql.proofs.TreeRuns.{applied-placed, applied_to, temp-rows, tree-rows}
use Rattle.pdw_dsql.specs.Follows.{Taken, brought_by, rows_of_tree, taken_by, taken_in_turn, taken_of}
use Rattle.pdw_dsql.specs.Sites.{is_within, made_within, site_of}
use Rattle.pdw_dsql.specs.Steps.{Cutting, cut_step, fragments_after, made_of, next_temp, schema_at, step_of}
use Rattle.pdw_dsql.specs.declared.steps.Step.{Step}
use Rattle.pdw_groups.specs.declared.group.Group.{Group}
use Rattle.pdw_groups.specs.declared.key.GroupId.{GroupId}
use Rattle.pdw_move.specs.Move.{property_after}
use Rattle.pdw_move.specs.declared.kinds.Move.{Move}
use Rattle.pdw_move.specs.declared.kinds.Prop.TheVariants as prop
use Rattle.pdw_move.specs.declared.kinds.Prop.{Prop}
use Rattle.pdw_plan.proofs.CoverLaws.{free-covers}
use Rattle.pdw_plan.specs.Covers.{Covers}
use Rattle.pdw_plan.specs.Given.{Crossing, Given, applied, expr_over, given_step, made_by, rows_by}
use Rattle.pdw_rules.proofs.Moves.{move-inside}
use Rattle.pdw_rules.proofs.SiteLemmas.{made-inside}
use Rattle.pdw_rules.specs.Rules.{is_free}
use Rattle.pdw_rules.specs.Stands.{IsInside, PlacedRows, after_move, is_at, made_at}
use Rattle.pdw_ways.specs.declared.made.Made.{Made}
use Rattle.pdw_ways.specs.declared.plan.Plan.TheOpen.{Plan-F}

-- a tree runs at the nodes of its property
site-within : (p : Prop) (place : Node) → is_within (site_of p) place ≡ is_at p place
site-within prop.Spread (node.Compute k) = refl
site-within prop.Spread node.Control = refl
site-within (prop.Hash c) (node.Compute k) = refl
site-within (prop.Hash c) node.Control = refl
site-within prop.Replicated (node.Compute k) = refl
site-within prop.Replicated node.Control = refl
site-within prop.Single (node.Compute k) = refl
site-within prop.Single node.Control = refl
site-within prop.Control (node.Compute k) = refl
site-within prop.Control node.Control = refl

-- rows that are right at a site, and that have no others, are made there
made-there : (p : Prop) (made rows : PlacedRows) → ((place : Node) → is_at p place ≡ true → made place ≡ rows place) → IsInside p rows → made_within (site_of p) made ≡ rows
made-there p made rows same inside = λ i place. each place i
  where
    by : (place : Node) (b : Bool) → is_at p place ≡ b → (if b then made place else []) ≡ rows place
    by place true at = same place at
    by place false at = sym (inside place at)

    each : (place : Node) → made_within (site_of p) made place ≡ rows place
    each place = ap (λ b. if b then made place else []) (site-within p place) ∙ by place (is_at p place) refl

-- made rows at a node of their site
at-site : (p : Prop) (rows : PlacedRows) (place : Node) → is_at p place ≡ true → made_at p rows place ≡ rows place
at-site p rows place at = ap (λ b. if b then rows place else []) at

module _ (groups : List Group) (contents : Contents) where
  abbrev takes : List Crossing → List Taken
  takes crossings = map (taken_of groups) crossings

  -- the temporary tables that a plan's moves make
  abbrev pub tables_of : List Crossing → List PlacedRows
  tables_of crossings = map (brought_by contents) (takes crossings)

  abbrev run : List PlacedRows → LocalTree → PlacedRows
  run = rows_of_tree contents

  pub record Does (cut : Cutting) (gives : Given) : Type 0 where
    pub made : cut.made ≡ gives.made
    pub inside : IsInside gives.made.prop gives.rows
    pub taken : (temps : List PlacedRows) → taken_in_turn contents temps (cut.fragment (length temps)).steps ≡ takes gives.crossings
    pub rows : (temps later : List PlacedRows) (place : Node) → is_at gives.made.prop place ≡ true → run (temps ++ (tables_of gives.crossings ++ later)) (cut.fragment (length temps)).tree place ≡ gives.rows place

  abbrev crossings_in : List Given → List Crossing
  crossings_in gives = flat_map (λ (child : Given). child.crossings) gives

  -- plans one after the other, whose rows are read where those of a result are made
  pub record DoAll (result : Prop) (cuts : List Cutting) (gives : List Given) : Type 0 where
    pub made : made_of cuts ≡ made_by gives
    pub taken : (temps : List PlacedRows) → taken_in_turn contents temps (fragments_after cuts (length temps)).steps ≡ takes (crossings_in gives)
    pub rows : (temps later : List PlacedRows) (place : Node) → is_at result place ≡ true
        → map (λ t. run (temps ++ (tables_of (crossings_in gives) ++ later)) t place) (fragments_after cuts (length temps)).trees ≡ map (λ rows. rows place) (rows_by gives)

  pub none-do : (result : Prop) → DoAll result [] []
  none-do result = record { made = refl; taken = λ temps. refl; rows = λ temps later place at. refl }

  tables-append : (first more : List Crossing) → tables_of (first ++ more) ≡ tables_of first ++ tables_of more
  tables-append first more = ap (map (brought_by contents)) (map-append (taken_of groups) first more) ∙ map-append (brought_by contents) (takes first) (takes more)

  module _ (cut : Cutting) (gives : Given) (own : Does cut gives) where
    abbrev steps_after : List PlacedRows → List Step
    steps_after temps = (cut.fragment (length temps)).steps

    -- the temporary tables after its steps
    same-tables : (temps : List PlacedRows) → tables_after contents temps (steps_after temps) ≡ temps ++ tables_of gives.crossings
    same-tables temps = ap (λ taken. temps ++ map (brought_by contents) taken) (own.taken temps)

    count-tables : (temps : List PlacedRows) → length (temps ++ tables_of gives.crossings) ≡ length temps + length (steps_after temps)
    count-tables temps = ap length (sym (same-tables temps)) ∙ tables-length contents temps (steps_after temps)

    pub more-do : (result : Prop) (cuts : List Cutting) (more : List Given) → Covers result gives.made.prop → DoAll result cuts more → DoAll result (cut ∷ cuts) (gives ∷ more)
    more-do result cuts more covers rest = record {
      made = ap₂ (λ first others. first ∷ others) own.made rest.made;
      taken = λ temps.
          let before = steps_after temps in
          let after = temps ++ tables_of gives.crossings in
          turn-append contents temps before (fragments_after cuts (length temps + length before)).steps
          ∙ ap₂ (λ taken all. taken ++ taken_in_turn contents all (fragments_after cuts (length temps + length before)).steps) (own.taken temps) (same-tables temps)
          ∙ ap (λ n. takes gives.crossings ++ taken_in_turn contents after (fragments_after cuts n).steps) (sym (count-tables temps))
          ∙ ap (λ taken. takes gives.crossings ++ taken) (rest.taken after)
          ∙ sym (map-append (taken_of groups) gives.crossings (crossings_in more));
      rows = λ temps later place at.
          let before = steps_after temps in
          let after = temps ++ tables_of gives.crossings in
          let all : temps ++ (tables_of (gives.crossings ++ crossings_in more) ++ later) ≡ temps ++ (tables_of gives.crossings ++ (tables_of (crossings_in more) ++ later)) =
          ap (λ tables. temps ++ (tables ++ later)) (tables-append gives.crossings (crossings_in more))
          ∙ ap (λ tables. temps ++ tables) (append_assoc (tables_of gives.crossings) (tables_of (crossings_in more)) later) in
          let split : temps ++ (tables_of (gives.crossings ++ crossings_in more) ++ later) ≡ after ++ (tables_of (crossings_in more) ++ later) =
          all ∙ sym (append_assoc temps (tables_of gives.crossings) (tables_of (crossings_in more) ++ later)) in
          ap₂ (λ first others. first ∷ others)
          (ap (λ tables. run tables (cut.fragment (length temps)).tree place) all ∙ own.rows temps (tables_of (crossings_in more) ++ later) place (covers.there place at))
          (ap₂ (λ tables n. map (λ t. run tables t place) (fragments_after cuts n).trees) split (sym (count-tables temps)) ∙ rest.rows after later place at);
    }

    -- ---- a move

    abbrev moved_to : Move → Crossing
    moved_to mv = record { group = gives.made.group; move = mv; rows = gives.rows }

    move-taken : (mv : Move) (temps : List PlacedRows) (to : ℕ)
        → taken_by contents (temps ++ tables_of gives.crossings) (step_of groups cut.made mv (cut.fragment (length temps)).tree to) ≡ taken_of groups (moved_to mv)
    move-taken mv temps to = λ i. record { move = mv; schema = schema_at groups (own.made i).group; rows = there i }
      where
        there : made_within (site_of cut.made.prop) (run (temps ++ tables_of gives.crossings) (cut.fragment (length temps)).tree) ≡ gives.rows
        there =
            ap (λ (made : Made). made_within (site_of made.prop) (run (temps ++ tables_of gives.crossings) (cut.fragment (length temps)).tree)) own.made
            ∙ made-there gives.made.prop (run (temps ++ tables_of gives.crossings) (cut.fragment (length temps)).tree) gives.rows
            (λ place at.
            ap (λ tables. run (temps ++ tables) (cut.fragment (length temps)).tree place) (sym (append-nil (tables_of gives.crossings))) ∙ own.rows temps [] place at)
            own.inside

    pub moved-does : (mv : Move) → Does (cut_step groups (Plan-F.Moved mv cut)) (given_step groups contents (Plan-F.Moved mv gives))
    moved-does mv = record {
      made = ap (λ (made : Made). record { group = made.group; prop = property_after mv }) own.made;
      inside = move-inside contents.nodes mv gives.rows;
      taken = λ temps.
          let before = steps_after temps in
          let to = next_temp (length temps) before in
          let step = step_of groups cut.made mv (cut.fragment (length temps)).tree to in
          turn-append contents temps before (step ∷ [])
          ∙ ap₂ (λ taken all. taken ++ taken_by contents all step ∷ []) (own.taken temps) (same-tables temps)
          ∙ ap (λ taken. takes gives.crossings ++ taken ∷ []) (move-taken mv temps to)
          ∙ sym (map-append (taken_of groups) gives.crossings (moved_to mv ∷ []));
      rows = λ temps later place at.
          let before = steps_after temps in
          let after = temps ++ tables_of gives.crossings in
          let made = after_move contents.nodes mv gives.rows in
          let split : temps ++ (tables_of (gives.crossings ++ moved_to mv ∷ []) ++ later) ≡ after ++ made ∷ later =
          ap (λ tables. temps ++ (tables ++ later)) (tables-append gives.crossings (moved_to mv ∷ []))
          ∙ ap (λ tables. temps ++ tables) (append_assoc (tables_of gives.crossings) (made ∷ []) later)
          ∙ sym (append_assoc temps (tables_of gives.crossings) (made ∷ later)) in
          ap₂ (λ tables n. run tables (tree.Temp (suc n)) place) split (sym (count-tables temps)) ∙ temp-rows contents after made later place;
    }

    pub free-does : (to : Prop) → is_free gives.made.prop to ≡ true → Does (cut_step groups (Plan-F.Free to cut)) (given_step groups contents (Plan-F.Free to gives))
    free-does to free = record {
      made = ap (λ (made : Made). record { group = made.group; prop = to }) own.made;
      inside = made-inside to gives.rows;
      taken = own.taken;
      rows = λ temps later place at. own.rows temps later place ((free-covers gives.made.prop to free).there place at) ∙ sym (at-site to gives.rows place at);
    }

  -- ---- an operator

  pub op-does : (group : GroupId) (p : Prop) (cuts : List Cutting) (gives : List Given) → DoAll p cuts gives → Does (cut_step groups (Plan-F.Op group p cuts)) (given_step groups contents (Plan-F.Op group p gives))
  op-does group p cuts gives all = record {
    made = refl;
    inside = made-inside p (applied contents (expr_over groups group (made_by gives)) (rows_by gives));
    taken = all.taken;
    rows = λ temps later place at.
        let tables = temps ++ (tables_of (crossings_in gives) ++ later) in
        let trees = (fragments_after cuts (length temps)).trees in
        tree-rows contents tables place (expr_over groups group (made_of cuts)) trees
        ∙ ap₂ (λ made bags. applied_to contents (expr_over groups group made) bags place) all.made (all.rows temps later place at)
        ∙ sym (applied-placed contents (expr_over groups group (made_by gives)) (rows_by gives) place)
        ∙ sym (at-site p (applied contents (expr_over groups group (made_by gives)) (rows_by gives)) place at);
  }

  pub scan-does : (group : GroupId) (p : Prop) → Does (cut_step groups (Plan-F.Scan group p)) (given_step groups contents (Plan-F.Scan group p))
  scan-does group p = let none = op-does group p [] [] (none-do p) in record { made = none.made; inside = none.inside; taken = none.taken; rows = none.rows }
