-- The tree of a sound numbered form is well-formed.
use Rattle.std.proofs.Common.{◌≡◌, ◌≢◌, List, [], ◌∷◌, map, AllPairs, refl, sym, ap, subst, subst₂, ◌∙◌}
use Rattle.std.proofs.lemmas.Bool.{and_parts}
use Rattle.pdw_algebra.specs.WellFormed.{IsWellFormed}
use Rattle.pdw_algebra.specs.declared.tree.Tree.TheVariants as tree
use Rattle.pdw_algebra.specs.declared.tree.Tree.{Tree}
use Rattle.pdw_base.specs.declared.schema.ColId.{ColId}
use Rattle.pdw_bind.proofs.ShapeFrom.{ElementFits, joined_fits, one_leaf}
use Rattle.pdw_bind.proofs.ShapeQueries.{query_fits}
use Rattle.pdw_bind.proofs.ShapeSteps.{shape-scan}
use Rattle.pdw_bind.proofs.ShapeSubqueries.{QueryFits, SubqueryFits, subquery_fits}
use Rattle.pdw_bind.specs.Bind as bind
use Rattle.pdw_bind.specs.Bind.{Bound, Part, bound, part, subquery, trees}
use Rattle.pdw_form.specs.Sound as sound
use Rattle.pdw_form.specs.Sound.{ElementShape, IsSound, QueryShape, SubqueryShape, element_shape, query_shape, stands_alone, subquery_shape}
use Rattle.pdw_catalog.specs.Catalog.{Tables}
use Rattle.pdw_form.proofs.Related.{Related, none, more}
use Rattle.pdw_form.specs.declared.judged.JFrom.TheFolds.{fold-roll-JFrom, fold-roll-JSub, fold-roll-JudgedQuery, ind-JudgedQuery, map-JFrom, map-JSub, map-JudgedQuery}
use Rattle.pdw_form.specs.declared.judged.JFrom.TheOpen.{JFrom-F, JSub-F, JudgedQuery-F}
use Rattle.pdw_form.specs.declared.judged.JFrom.TheViews.{roll-JFrom}
use Rattle.pdw_form.specs.declared.judged.JFrom.{JFrom}
use Rattle.pdw_form.specs.declared.judged.JSub.{JSub, roll-JSub}
use Rattle.pdw_form.specs.declared.judged.JudgedQuery.{JudgedQuery, roll-JudgedQuery}

module _ (tables : Tables) where
  -- ---- what is proved of each

  abbrev FromLaw : JFrom → Type 0
  FromLaw x = ElementFits tables (part x) (element_shape tables x)

  abbrev SubLaw : JSub → Type 0
  SubLaw x = SubqueryFits tables (subquery x) (subquery_shape tables x)

  abbrev QueryLaw : JudgedQuery → Type 0
  QueryLaw x = QueryFits tables (trees x) (query_shape tables x)

  abbrev KnownFrom : Type 0
  KnownFrom = (x : JFrom) × FromLaw x

  abbrev KnownSub : Type 0
  KnownSub = (x : JSub) × SubLaw x

  abbrev KnownQuery : Type 0
  KnownQuery = (x : JudgedQuery) × QueryLaw x

  -- ---- elements of FROM

  abbrev known_from : JFrom-F KnownFrom KnownSub KnownQuery → JFrom-F JFrom JSub JudgedQuery
  known_from = map-JFrom KnownFrom KnownSub KnownQuery JFrom JSub JudgedQuery (λ x. x.0) (λ x. x.0) (λ x. x.0)

  abbrev from_parts : JFrom-F JFrom JSub JudgedQuery → JFrom-F Part (Tree → Tree) Bound
  from_parts = map-JFrom JFrom JSub JudgedQuery Part (Tree → Tree) Bound part subquery trees

  abbrev from_shapes : JFrom-F JFrom JSub JudgedQuery → JFrom-F ElementShape SubqueryShape QueryShape
  from_shapes = map-JFrom JFrom JSub JudgedQuery ElementShape SubqueryShape QueryShape (element_shape tables) (subquery_shape tables) (query_shape tables)

  from_layer : (y : JFrom-F KnownFrom KnownSub KnownQuery) → ElementFits tables (bind.part_step (from_parts (known_from y))) (sound.element_step tables (from_shapes (known_from y)))
  from_layer (JFrom-F.Table table alias cols) = one_leaf tables (tree.Scan table alias cols) _ (record {
    columns = ap (λ shape. shape.columns) (shape-scan tables table alias cols);
    made = ap (λ shape. shape.made) (shape-scan tables table alias cols);
    sound = λ holds. ap (λ shape. shape.sound) (shape-scan tables table alias cols) ∙ holds;
  }) refl
  from_layer (JFrom-F.Derived query) = one_leaf tables (trees query.0).whole _ (record {
    columns = query.1.whole;
    made = query.1.whole_made;
    sound = λ holds. (query.1.sound [] (and_parts _ _ holds).0).whole;
  }) refl
  from_layer (JFrom-F.Join word left right on) = joined_fits tables word (part left.0) (part right.0) (element_shape tables left.0) (element_shape tables right.0) on left.1 right.1

  from_law : (x : JFrom-F JFrom JSub JudgedQuery) (y : JFrom-F KnownFrom KnownSub KnownQuery) → known_from y ≡ x → FromLaw (roll-JFrom x)
  from_law x y is = subst (λ z. FromLaw (roll-JFrom z)) is
      (subst₂ (λ p e. ElementFits tables p e)
      (sym (fold-roll-JFrom Part (Tree → Tree) Bound bind.part_step bind.sub_step bind.query_step (known_from y)))
      (sym (fold-roll-JFrom ElementShape SubqueryShape QueryShape (sound.element_step tables) sound.subquery_step sound.query_step (known_from y)))
      (from_layer y))

  -- ---- subqueries

  abbrev known_sub : JSub-F KnownFrom KnownSub KnownQuery → JSub-F JFrom JSub JudgedQuery
  known_sub = map-JSub KnownFrom KnownSub KnownQuery JFrom JSub JudgedQuery (λ x. x.0) (λ x. x.0) (λ x. x.0)

  sub_law : (x : JSub-F JFrom JSub JudgedQuery) (y : JSub-F KnownFrom KnownSub KnownQuery) → known_sub y ≡ x → SubLaw (roll-JSub x)
  sub_law x y is = subst (λ z. SubLaw (roll-JSub z)) is
      (subst₂ (λ j s. SubqueryFits tables j s)
      (sym (fold-roll-JSub Part (Tree → Tree) Bound bind.part_step bind.sub_step bind.query_step (known_sub y)))
      (sym (fold-roll-JSub ElementShape SubqueryShape QueryShape (sound.element_step tables) sound.subquery_step sound.query_step (known_sub y)))
      (subquery_fits tables (trees y.query.0) (query_shape tables y.query.0) y.query.1 y.negated y.left))

  -- ---- queries

  elements_fit : (elements : List KnownFrom) → Related (ElementFits tables) (map part (map (λ (x : KnownFrom). x.0) elements)) (map (element_shape tables) (map (λ (x : KnownFrom). x.0) elements))
  elements_fit [] = none
  elements_fit (x ∷ elements) = more x.1 (elements_fit elements)

  subs_fit : (subs : List KnownSub) → Related (SubqueryFits tables) (map subquery (map (λ (x : KnownSub). x.0) subs)) (map (subquery_shape tables) (map (λ (x : KnownSub). x.0) subs))
  subs_fit [] = none
  subs_fit (x ∷ subs) = more x.1 (subs_fit subs)

  abbrev known_query : JudgedQuery-F KnownFrom KnownSub KnownQuery → JudgedQuery-F JFrom JSub JudgedQuery
  known_query = map-JudgedQuery KnownFrom KnownSub KnownQuery JFrom JSub JudgedQuery (λ x. x.0) (λ x. x.0) (λ x. x.0)

  query_law : (x : JudgedQuery-F JFrom JSub JudgedQuery) (y : JudgedQuery-F KnownFrom KnownSub KnownQuery) → known_query y ≡ x → QueryLaw (roll-JudgedQuery x)
  query_law x y is = subst (λ z. QueryLaw (roll-JudgedQuery z)) is
      (subst₂ (λ t s. QueryFits tables t s)
      (sym (fold-roll-JudgedQuery Part (Tree → Tree) Bound bind.part_step bind.sub_step bind.query_step (known_query y)))
      (sym (fold-roll-JudgedQuery ElementShape SubqueryShape QueryShape (sound.element_step tables) sound.subquery_step sound.query_step (known_query y)))
      (query_fits tables _ _ (elements_fit y.from) _ _ (subs_fit y.subs) y.plain y.outer y.group y.items y.distinct))

  -- the trees of a query have the columns of its numbered form, make its numbers, and are sound where it is
  pub trees_fit : (q : JudgedQuery) → QueryLaw q
  trees_fit = ind-JudgedQuery FromLaw SubLaw QueryLaw from_law sub_law query_law

  -- the tree of a sound numbered form is well-formed
  pub sound_is_well_formed : (q : JudgedQuery) → IsSound tables q → IsWellFormed tables (bound q)
  unfolding bound
  sound_is_well_formed q holds = record {
    nodes = ((trees_fit q).sound [] (and_parts _ _ holds.parts).0).whole;
    made = subst (λ (numbers : List ColId). AllPairs (λ a b. a.0 ≢ b.0) numbers) (sym (trees_fit q).whole_made) holds.made;
  }
