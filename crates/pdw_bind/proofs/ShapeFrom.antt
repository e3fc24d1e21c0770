-- The shapes of the elements of FROM, of their joins, and of the block that they make.
use Rattle.std.proofs.Common.{◌≡◌, ℕ, suc, ◌+◌, ◌&&◌, ◌==◌, true, false, List, [], ◌∷◌, ◌++◌, length, map, fold, refl, sym, ap, ap₂, subst, ◌∙◌, arith, ne_eqb, zero-add}
use Rattle.std.specs.List.{flat_map, list_all}
use Rattle.std.proofs.lemmas.Bool.{and_parts, and_from, and_left, and_right, false≢true, not_from_false}
use Rattle.std.proofs.lemmas.List.{append-nil, length-append, length-map, map-append}
use Rattle.std.proofs.lemmas.List.Concat.{flat_map-append}
use Rattle.std.proofs.lemmas.List.Folds.{flat_map-map}
use Rattle.pdw_algebra.specs.Shape.{Shape, all_apart, all_typed, are_apart, block_columns, is_empty, is_outer, joined_columns, leaves_fit, shape_of}
use Rattle.pdw_algebra.specs.declared.tree.Tree.TheVariants as tree
use Rattle.pdw_algebra.specs.declared.tree.Tree.{Tree}
use Rattle.pdw_syntax.specs.declared.query.JoinWord.TheVariants as word
use Rattle.pdw_syntax.specs.declared.query.JoinWord.{JoinWord}
use Rattle.pdw_base.specs.Schema.{Columns}
use Rattle.pdw_base.specs.declared.schema.ColId.{ColId}
use Rattle.pdw_bind.proofs.ShapeLeaves.{LeavesSound, leaves_both, leaves_more, leaves_none, leaves_one}
use Rattle.pdw_bind.proofs.ShapeSteps.{shape-block, shape-join}
use Rattle.pdw_bind.specs.Bind.{Part, all_parts, block_of, joined, leaf, outer_join, together, unit_of}
use Rattle.pdw_form.specs.Sound as sound
use Rattle.pdw_form.specs.Sound.{ElementShape, block_join, fit_block, from_columns, from_leaves, from_sound, joined_shape, sides_sound}
use Rattle.pdw_catalog.specs.Catalog.{Tables}
use Rattle.pdw_expr.specs.declared.agg.JoinKind.TheVariants as kind
use Rattle.pdw_expr.specs.declared.agg.JoinKind.{JoinKind}
use Rattle.pdw_expr.specs.declared.cond.Cond.{Cond}
use Rattle.pdw_form.proofs.Related.{Related, none, more}

abbrev pub shapes : Tables → List Tree → List Shape
shapes tables leaves = map (shape_of tables) leaves

abbrev pub made_by_leaves : List Shape → List ColId
made_by_leaves leaves = flat_map (λ leaf. leaf.made) leaves

-- the leaves of an element have its columns, make its numbers, and are sound where it is
pub record ElementFits (tables : Tables) (part : Part) (element : ElementShape) : Type 0 where
  pub columns : block_columns (shapes tables part.leaves) ≡ element.columns
  pub made : made_by_leaves (shapes tables part.leaves) ≡ element.made
  pub leaves : length part.leaves ≡ element.leaves
  pub sound : element.sound ≡ true → LeavesSound (shapes tables part.leaves) part.conds

-- what a tree has to have to stand for an element by itself
pub record TreeFits (tables : Tables) (t : Tree) (element : ElementShape) : Type 0 where
  pub columns : (shape_of tables t).columns ≡ element.columns
  pub made : (shape_of tables t).made ≡ element.made
  pub sound : element.sound ≡ true → (shape_of tables t).sound ≡ true

-- ---- blocks

more_than_one : (n : ℕ) → (suc (suc n) == 1) ≡ false
more_than_one n = ne_eqb (suc (suc n)) 1 (λ (same : suc (suc n) ≡ 1). omega arith)

module _ (tables : Tables) where
  pub one_leaf : (t : Tree) (element : ElementShape) → TreeFits tables t element → 1 ≡ element.leaves → ElementFits tables (leaf t) element
  one_leaf t element fits one = record {
    columns = append-nil (shape_of tables t).columns ∙ fits.columns;
    made = append-nil (shape_of tables t).made ∙ fits.made;
    leaves = one;
    sound = λ holds. leaves_one (shape_of tables t) (fits.sound holds);
  }

  block_sound : (leaves : List Tree) (conds : List Cond) → LeavesSound (shapes tables leaves) conds → fit_block (length leaves) ≡ true
      → ((length leaves == 1) && is_empty conds) ≡ false → (shape_of tables (tree.Block leaves conds)).sound ≡ true
  block_sound leaves conds each fits other =
      let count = length-map leaves (shape_of tables) in
      let both = and_parts _ _ fits in
      let fit : leaves_fit (length leaves) conds ≡ true = and_from _ _ both.0 (and_from _ _ both.1 (not_from_false _ other)) in
      ap (λ shape. shape.sound) (shape-block tables leaves conds)
      ∙ and_from _ _ each.each (and_from _ _ (subst (λ n. leaves_fit n conds ≡ true) (sym count) fit) (and_from _ _ each.apart each.typed))

  unit-columns : (leaves : List Tree) (conds : List Cond) → (shape_of tables (unit_of (record { leaves = leaves; conds = conds }))).columns ≡ block_columns (shapes tables leaves)
  unit-columns [] conds = ap (λ shape. shape.columns) (shape-block tables [] conds)
  unit-columns (first ∷ []) [] = sym (append-nil (shape_of tables first).columns)
  unit-columns (first ∷ []) (cond ∷ conds) = ap (λ shape. shape.columns) (shape-block tables (first ∷ []) (cond ∷ conds))
  unit-columns (first ∷ next ∷ rest) conds = ap (λ shape. shape.columns) (shape-block tables (first ∷ next ∷ rest) conds)

  unit-made : (leaves : List Tree) (conds : List Cond) → (shape_of tables (unit_of (record { leaves = leaves; conds = conds }))).made ≡ made_by_leaves (shapes tables leaves)
  unit-made [] conds = ap (λ shape. shape.made) (shape-block tables [] conds)
  unit-made (first ∷ []) [] = sym (append-nil (shape_of tables first).made)
  unit-made (first ∷ []) (cond ∷ conds) = ap (λ shape. shape.made) (shape-block tables (first ∷ []) (cond ∷ conds))
  unit-made (first ∷ next ∷ rest) conds = ap (λ shape. shape.made) (shape-block tables (first ∷ next ∷ rest) conds)

  unit_sound : (leaves : List Tree) (conds : List Cond) → LeavesSound (shapes tables leaves) conds → fit_block (length leaves) ≡ true
      → (shape_of tables (unit_of (record { leaves = leaves; conds = conds }))).sound ≡ true
  unit_sound [] conds each fits = absurd (false≢true fits)
  unit_sound (first ∷ []) [] each fits = (and_parts _ _ each.each).0
  unit_sound (first ∷ []) (cond ∷ conds) each fits = block_sound (first ∷ []) (cond ∷ conds) each fits (and_right (length (first ∷ []) == 1) _ refl)
  unit_sound (first ∷ next ∷ rest) conds each fits = block_sound (first ∷ next ∷ rest) conds each fits (and_left _ _ (more_than_one (length rest)))

  -- ---- joins

  leaves-both : (p q : List Tree) → shapes tables (p ++ q) ≡ shapes tables p ++ shapes tables q
  leaves-both p q = map-append (shape_of tables) p q

  columns-both : (p q : List Tree) → block_columns (shapes tables (p ++ q)) ≡ block_columns (shapes tables p) ++ block_columns (shapes tables q)
  columns-both p q = ap block_columns (leaves-both p q) ∙ flat_map-append (λ leaf. leaf.columns) (shapes tables p) (shapes tables q)

  made-both : (p q : List Tree) → made_by_leaves (shapes tables (p ++ q)) ≡ made_by_leaves (shapes tables p) ++ made_by_leaves (shapes tables q)
  made-both p q = ap made_by_leaves (leaves-both p q) ∙ flat_map-append (λ leaf. leaf.made) (shapes tables p) (shapes tables q)

  both_sound : (p q : Part) → LeavesSound (shapes tables p.leaves) p.conds → LeavesSound (shapes tables q.leaves) q.conds
      → are_apart (block_columns (shapes tables p.leaves)) (block_columns (shapes tables q.leaves)) ≡ true → LeavesSound (shapes tables (p.leaves ++ q.leaves)) (p.conds ++ q.conds)
  both_sound p q first second apart =
      subst (λ leaves. LeavesSound leaves (p.conds ++ q.conds)) (sym (leaves-both p.leaves q.leaves)) (leaves_both _ _ p.conds q.conds first second apart)

  module _ (p q : Part) (left right : ElementShape) (on : List Cond) (first : ElementFits tables p left) (second : ElementFits tables q right) where
    sides-columns : block_columns (shapes tables p.leaves) ++ block_columns (shapes tables q.leaves) ≡ left.columns ++ right.columns
    sides-columns = ap₂ (λ xs ys. xs ++ ys) first.columns second.columns

    sides-apart : are_apart left.columns right.columns ≡ true → are_apart (block_columns (shapes tables p.leaves)) (block_columns (shapes tables q.leaves)) ≡ true
    sides-apart apart = subst (λ xs. are_apart xs (block_columns (shapes tables q.leaves)) ≡ true) (sym first.columns)
        (subst (λ ys. are_apart left.columns ys ≡ true) (sym second.columns) apart)

    together_sound : sides_sound left right on ≡ true → LeavesSound (shapes tables (p.leaves ++ q.leaves)) ((p.conds ++ q.conds) ++ on)
    together_sound holds =
        let parts = and_parts _ _ holds in
        let sides = and_parts _ _ parts.0 in
        let beside = and_parts _ _ parts.1 in
        let both = both_sound p q (first.sound sides.0) (second.sound sides.1) (sides-apart beside.0) in
        let columns = columns-both p.leaves q.leaves ∙ sides-columns in
        leaves_more _ _ on both (subst (λ all. all_typed all on ≡ true) (sym columns) beside.1)

    pub together_fits : ElementFits tables (together p q on) (block_join left right on)
    together_fits = record {
      columns = columns-both p.leaves q.leaves ∙ sides-columns;
      made = made-both p.leaves q.leaves ∙ ap₂ (λ xs ys. xs ++ ys) first.made second.made;
      leaves = length-append p.leaves q.leaves ∙ ap₂ (λ n m. n + m) first.leaves second.leaves;
      sound = together_sound;
    }

    -- ---- outer joins

    first_columns : (shape_of tables (unit_of p)).columns ≡ left.columns
    first_columns = unit-columns p.leaves p.conds ∙ first.columns

    second_columns : (shape_of tables (unit_of q)).columns ≡ right.columns
    second_columns = unit-columns q.leaves q.conds ∙ second.columns

    module _ (kind : JoinKind) (outer : is_outer kind ≡ true) where
      outer_sound : (sides_sound left right on && (fit_block left.leaves && fit_block right.leaves)) ≡ true
          → (shape_of tables (tree.Join kind on (unit_of p) (unit_of q))).sound ≡ true
      outer_sound holds =
          let all = and_parts _ _ holds in
          let fits = and_parts _ _ all.1 in
          let parts = and_parts _ _ all.0 in
          let sides = and_parts _ _ parts.0 in
          let here = unit_sound p.leaves p.conds (first.sound sides.0) (ap fit_block first.leaves ∙ fits.0) in
          let there = unit_sound q.leaves q.conds (second.sound sides.1) (ap fit_block second.leaves ∙ fits.1) in
          let beside = ap₂ (λ xs ys. are_apart xs ys && all_typed (xs ++ ys) on) first_columns second_columns ∙ parts.1 in
          ap (λ shape. shape.sound) (shape-join tables kind on (unit_of p) (unit_of q))
          ∙ and_from _ _ (and_from _ _ here there) (and_from _ _ outer beside)

      pub outer_fits : ((xs ys : Columns) → joined_columns kind xs ys ≡ xs ++ ys) → ElementFits tables (outer_join kind on p q) (sound.outer_join left right on)
      outer_fits sides = one_leaf (tree.Join kind on (unit_of p) (unit_of q)) (sound.outer_join left right on) (record {
        columns = ap (λ shape. shape.columns) (shape-join tables kind on (unit_of p) (unit_of q)) ∙ sides _ _ ∙ ap₂ (λ xs ys. xs ++ ys) first_columns second_columns;
        made = ap (λ shape. shape.made) (shape-join tables kind on (unit_of p) (unit_of q))
            ∙ ap₂ (λ xs ys. xs ++ ys) (unit-made p.leaves p.conds ∙ first.made) (unit-made q.leaves q.conds ∙ second.made);
        sound = outer_sound;
      }) refl

  pub joined_fits : (word : JoinWord) (p q : Part) (left right : ElementShape) (on : List Cond) → ElementFits tables p left → ElementFits tables q right
      → ElementFits tables (joined word p q on) (joined_shape word left right on)
  joined_fits word.Cross p q left right on first second = together_fits p q left right on first second
  joined_fits word.Inner p q left right on first second = together_fits p q left right on first second
  joined_fits word.Left p q left right on first second = outer_fits p q left right on first second kind.Left refl (λ xs ys. refl)
  joined_fits word.Right p q left right on first second = outer_fits q p right left on second first kind.Left refl (λ xs ys. refl)
  joined_fits word.Full p q left right on first second = outer_fits p q left right on first second kind.Full refl (λ xs ys. refl)

-- ---- FROM

module _ (tables : Tables) where
  record AllFit (parts : List Part) (elements : List ElementShape) : Type 0 where
    columns : block_columns (shapes tables (all_parts parts).leaves) ≡ from_columns elements
    made : made_by_leaves (shapes tables (all_parts parts).leaves) ≡ flat_map (λ element. element.made) elements
    leaves : (before : ℕ) → fold (λ leaves element. leaves + element.leaves) before elements ≡ before + length (all_parts parts).leaves
    sound : list_all (λ element. element.sound) elements ≡ true → all_apart (map (λ element. element.columns) elements) ≡ true
        → LeavesSound (shapes tables (all_parts parts).leaves) (all_parts parts).conds

  no_parts : AllFit [] []
  no_parts = record { columns = refl; made = refl; leaves = λ before. omega arith; sound = λ each apart. leaves_none }

  one_part : (p : Part) (ps : List Part) (e : ElementShape) (es : List ElementShape) → ElementFits tables p e → AllFit ps es → AllFit (p ∷ ps) (e ∷ es)
  one_part p ps e es first rest = record {
    columns = columns-both tables p.leaves (all_parts ps).leaves ∙ ap₂ (λ xs ys. xs ++ ys) first.columns rest.columns;
    made = made-both tables p.leaves (all_parts ps).leaves ∙ ap₂ (λ xs ys. xs ++ ys) first.made rest.made;
    leaves = λ before.
        let more = rest.leaves (before + e.leaves) in
        let count = length-append p.leaves (all_parts ps).leaves in
        let here = first.leaves in
        omega arith;
    sound = λ each apart.
        let holds = and_parts _ _ each in
        let beside = and_parts _ _ apart in
        let all = flat_map-map (λ columns. columns) (λ (e : ElementShape). e.columns) es ∙ sym rest.columns in
        let here = subst (λ xs. are_apart xs (block_columns (shapes tables (all_parts ps).leaves)) ≡ true) (sym first.columns)
        (subst (λ ys. are_apart e.columns ys ≡ true) all beside.0) in
        both_sound tables p (all_parts ps) (first.sound holds.0) (rest.sound holds.1 beside.1) here;
  }

  all_fit : {parts : List Part} {elements : List ElementShape} → Related (ElementFits tables) parts elements → AllFit parts elements
  all_fit none = no_parts
  all_fit (more {x = p} {y = e} {xs = ps} {ys = es} first rest) = one_part p ps e es first (all_fit rest)

  -- the block of FROM with the plain conjuncts of WHERE
  module _ {parts : List Part} {elements : List ElementShape} (from : Related (ElementFits tables) parts elements) (plain : List Cond) where
    abbrev whole : Part
    whole = record { leaves = (all_parts parts).leaves; conds = (all_parts parts).conds ++ plain }

    pub block-columns : (shape_of tables (block_of parts plain)).columns ≡ from_columns elements
    block-columns = unit-columns tables whole.leaves whole.conds ∙ (all_fit from).columns

    pub block-made : (shape_of tables (block_of parts plain)).made ≡ flat_map (λ element. element.made) elements
    block-made = unit-made tables whole.leaves whole.conds ∙ (all_fit from).made

    pub from_block_sound : from_sound elements ≡ true → all_typed (from_columns elements) plain ≡ true → (shape_of tables (block_of parts plain)).sound ≡ true
    from_block_sound sound typed =
        let all = all_fit from in
        let both = and_parts _ _ sound in
        let fits = and_parts _ _ both.1 in
        let count : from_leaves elements ≡ length whole.leaves = all.leaves 0 ∙ zero-add (length whole.leaves) in
        let leaves = leaves_more _ _ plain (all.sound both.0 fits.1) (subst (λ columns. all_typed columns plain ≡ true) (sym all.columns) typed) in
        unit_sound tables whole.leaves whole.conds leaves (subst (λ n. fit_block n ≡ true) count fits.0)
