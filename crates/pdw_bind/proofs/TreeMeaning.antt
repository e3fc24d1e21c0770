-- The induction over queries and what stands in them: where the form of a query is sound, its tree gives its rows.
use Rattle.std.proofs.Common.{◌≡◌, Bool, List, [], ◌∷◌, map, true, sym, subst}
use Rattle.pdw_algebra.specs.Meaning.{rows_of}
use Rattle.pdw_algebra.specs.declared.tree.Tree.{Tree}
use Rattle.pdw_base.specs.Schema.{Env}
use Rattle.pdw_bind.proofs.TreeFromLaws.{ElementLaw, Elements, join-means, leaf-means, table-means}
use Rattle.pdw_bind.proofs.TreeFromLaws as elements
use Rattle.pdw_bind.proofs.TreeLaws.{QueryMeans, QueryParts, Subqueries, SubqueryLaw, query-means, query_parts, subquery-means, whole-rows, whole-within}
use Rattle.pdw_bind.proofs.TreeLaws as queries
use Rattle.pdw_bind.specs.Bind as bind
use Rattle.pdw_bind.specs.Bind.{Bound, Part, bound, part_step, trees}
use Rattle.pdw_form.specs.Sound as sound
use Rattle.pdw_form.specs.Sound.{ElementShape, QueryShape, SubqueryShape, element_shape, element_step, query_shape, stands_alone, subquery_made, subquery_shape, subquery_step}
use Rattle.pdw_catalog.specs.Database.{Database}
use Rattle.pdw_expr.specs.Env.{nulls}
use Rattle.pdw_form.specs.Numbered as meaning
use Rattle.pdw_form.specs.Numbered.{NumberedMeaning, from_step, numbered}
use Rattle.pdw_form.specs.declared.judged.JFrom.{JFrom}
use Rattle.pdw_form.specs.declared.judged.JFrom.TheFolds.{fold-JFrom, fold-JSub, fold-JudgedQuery, fold-roll-JFrom, fold-roll-JSub, fold-roll-JudgedQuery, ind-JudgedQuery, map-JFrom, map-JSub, map-JudgedQuery}
use Rattle.pdw_form.specs.declared.judged.JFrom.TheOpen.{JFrom-F, JSub-F, JudgedQuery-F}
use Rattle.pdw_form.specs.declared.judged.JFrom.TheViews.{roll-JFrom}
use Rattle.pdw_form.specs.declared.judged.JSub.{JSub, roll-JSub}
use Rattle.pdw_form.specs.declared.judged.JudgedQuery.{JudgedQuery, roll-JudgedQuery}

-- one fact of three equal values
of_three : {A B C : Type 0} (P : A → B → C → Type 0) {a x : A} {b y : B} {c z : C} → x ≡ a → y ≡ b → z ≡ c → P a b c → P x y z
of_three P {a = a} {x = x} {b = b} {y = y} {c = c} {z = z} first second third holds =
    subst (λ x. P x y z) (sym first) (subst (λ y. P a y z) (sym second) (subst (P a b) (sym third) holds))

-- a query, at any values of its shape, its meaning and its trees
abbrev pub QueryLaw : Database → QueryShape → NumberedMeaning → Bound → Type 0
QueryLaw database shape meaning query = (parts : QueryParts) × QueryMeans database parts shape meaning query

module _ (database : Database) where
  -- ---- the three of each

  abbrev from_meaning : JFrom → List Env
  from_meaning = fold-JFrom (List Env) (Env → Bool) NumberedMeaning (from_step database) (meaning.sub_step database) (meaning.query_step database)

  abbrev sub_meaning : JSub → Env → Bool
  sub_meaning = fold-JSub (List Env) (Env → Bool) NumberedMeaning (from_step database) (meaning.sub_step database) (meaning.query_step database)

  abbrev query_meaning : JudgedQuery → NumberedMeaning
  query_meaning = fold-JudgedQuery (List Env) (Env → Bool) NumberedMeaning (from_step database) (meaning.sub_step database) (meaning.query_step database)

  abbrev FromHolds : JFrom → Type 0
  FromHolds x = ElementLaw database (element_shape database.tables x) (from_meaning x) (bind.part x)

  abbrev SubHolds : JSub → Type 0
  SubHolds x = SubqueryLaw database (subquery_shape database.tables x) (sub_meaning x) (bind.subquery x)

  abbrev QueryHolds : JudgedQuery → Type 0
  QueryHolds x = QueryLaw database (query_shape database.tables x) (query_meaning x) (trees x)

  abbrev KnownFrom : Type 0
  KnownFrom = (x : JFrom) × FromHolds x

  abbrev KnownSub : Type 0
  KnownSub = (x : JSub) × SubHolds x

  abbrev KnownQuery : Type 0
  KnownQuery = (x : JudgedQuery) × QueryHolds x

  -- ---- elements of FROM

  abbrev known_from : JFrom-F KnownFrom KnownSub KnownQuery → JFrom-F JFrom JSub JudgedQuery
  known_from = map-JFrom KnownFrom KnownSub KnownQuery JFrom JSub JudgedQuery (λ x. x.0) (λ x. x.0) (λ x. x.0)

  abbrev from_shapes : JFrom-F JFrom JSub JudgedQuery → JFrom-F ElementShape SubqueryShape QueryShape
  from_shapes = map-JFrom JFrom JSub JudgedQuery ElementShape SubqueryShape QueryShape (element_shape database.tables) (subquery_shape database.tables) (query_shape database.tables)

  abbrev from_meanings : JFrom-F JFrom JSub JudgedQuery → JFrom-F (List Env) (Env → Bool) NumberedMeaning
  from_meanings = map-JFrom JFrom JSub JudgedQuery (List Env) (Env → Bool) NumberedMeaning from_meaning sub_meaning query_meaning

  abbrev from_trees : JFrom-F JFrom JSub JudgedQuery → JFrom-F Part (Tree → Tree) Bound
  from_trees = map-JFrom JFrom JSub JudgedQuery Part (Tree → Tree) Bound bind.part bind.subquery trees

  from_layer : (y : JFrom-F KnownFrom KnownSub KnownQuery)
      → ElementLaw database (element_step database.tables (from_shapes (known_from y))) (from_step database (from_meanings (known_from y))) (part_step (from_trees (known_from y)))
  from_layer (JFrom-F.Table table alias cols) sound = table-means database database.tables table alias cols
  from_layer (JFrom-F.Derived query) sound =
      let shape = query_shape database.tables query.0 in
      let means = query.1.1 in
      leaf-means database shape.columns ((query_meaning query.0).rows nulls) (trees query.0).whole
      (whole-within database query.1.0 shape (query_meaning query.0) (trees query.0) means sound)
      (sym (whole-rows database query.1.0 shape (query_meaning query.0) (trees query.0) means sound))
  from_layer (JFrom-F.Join word left right on) sound =
      join-means database word (element_shape database.tables left.0) (element_shape database.tables right.0) (from_meaning left.0) (from_meaning right.0) (bind.part left.0) (bind.part right.0) on left.1 right.1 sound

  from_law : (x : JFrom-F JFrom JSub JudgedQuery) (y : JFrom-F KnownFrom KnownSub KnownQuery) → known_from y ≡ x → FromHolds (roll-JFrom x)
  from_law x y is = subst (λ z. FromHolds (roll-JFrom z)) is
      (of_three (ElementLaw database)
      (fold-roll-JFrom ElementShape SubqueryShape QueryShape (element_step database.tables) subquery_step sound.query_step (known_from y))
      (fold-roll-JFrom (List Env) (Env → Bool) NumberedMeaning (from_step database) (meaning.sub_step database) (meaning.query_step database) (known_from y))
      (fold-roll-JFrom Part (Tree → Tree) Bound part_step bind.sub_step bind.query_step (known_from y))
      (from_layer y))

  -- ---- subqueries

  abbrev known_sub : JSub-F KnownFrom KnownSub KnownQuery → JSub-F JFrom JSub JudgedQuery
  known_sub = map-JSub KnownFrom KnownSub KnownQuery JFrom JSub JudgedQuery (λ x. x.0) (λ x. x.0) (λ x. x.0)

  abbrev sub_shapes : JSub-F JFrom JSub JudgedQuery → JSub-F ElementShape SubqueryShape QueryShape
  sub_shapes = map-JSub JFrom JSub JudgedQuery ElementShape SubqueryShape QueryShape (element_shape database.tables) (subquery_shape database.tables) (query_shape database.tables)

  abbrev sub_meanings : JSub-F JFrom JSub JudgedQuery → JSub-F (List Env) (Env → Bool) NumberedMeaning
  sub_meanings = map-JSub JFrom JSub JudgedQuery (List Env) (Env → Bool) NumberedMeaning from_meaning sub_meaning query_meaning

  abbrev sub_trees : JSub-F JFrom JSub JudgedQuery → JSub-F Part (Tree → Tree) Bound
  sub_trees = map-JSub JFrom JSub JudgedQuery Part (Tree → Tree) Bound bind.part bind.subquery trees

  sub_layer : (y : JSub-F KnownFrom KnownSub KnownQuery)
      → SubqueryLaw database (subquery_step (sub_shapes (known_sub y))) (meaning.sub_step database (sub_meanings (known_sub y))) (bind.sub_step (sub_trees (known_sub y)))
  sub_layer y =
      let shape = query_shape database.tables y.query.0 in
      subquery-means database y.query.1.0 shape (query_meaning y.query.0) (trees y.query.0) y.query.1.1 y.negated y.left (subquery_made shape)

  sub_law : (x : JSub-F JFrom JSub JudgedQuery) (y : JSub-F KnownFrom KnownSub KnownQuery) → known_sub y ≡ x → SubHolds (roll-JSub x)
  sub_law x y is = subst (λ z. SubHolds (roll-JSub z)) is
      (of_three (SubqueryLaw database)
      (fold-roll-JSub ElementShape SubqueryShape QueryShape (element_step database.tables) subquery_step sound.query_step (known_sub y))
      (fold-roll-JSub (List Env) (Env → Bool) NumberedMeaning (from_step database) (meaning.sub_step database) (meaning.query_step database) (known_sub y))
      (fold-roll-JSub Part (Tree → Tree) Bound part_step bind.sub_step bind.query_step (known_sub y))
      (sub_layer y))

  -- ---- queries

  abbrev known_query : JudgedQuery-F KnownFrom KnownSub KnownQuery → JudgedQuery-F JFrom JSub JudgedQuery
  known_query = map-JudgedQuery KnownFrom KnownSub KnownQuery JFrom JSub JudgedQuery (λ x. x.0) (λ x. x.0) (λ x. x.0)

  abbrev query_shapes : JudgedQuery-F JFrom JSub JudgedQuery → JudgedQuery-F ElementShape SubqueryShape QueryShape
  query_shapes = map-JudgedQuery JFrom JSub JudgedQuery ElementShape SubqueryShape QueryShape (element_shape database.tables) (subquery_shape database.tables) (query_shape database.tables)

  abbrev query_meanings : JudgedQuery-F JFrom JSub JudgedQuery → JudgedQuery-F (List Env) (Env → Bool) NumberedMeaning
  query_meanings = map-JudgedQuery JFrom JSub JudgedQuery (List Env) (Env → Bool) NumberedMeaning from_meaning sub_meaning query_meaning

  abbrev query_trees : JudgedQuery-F JFrom JSub JudgedQuery → JudgedQuery-F Part (Tree → Tree) Bound
  query_trees = map-JudgedQuery JFrom JSub JudgedQuery Part (Tree → Tree) Bound bind.part bind.subquery trees

  from_elements : (known : List KnownFrom) → Elements database (map (element_shape database.tables) (map (λ (x : KnownFrom). x.0) known)) (map from_meaning (map (λ (x : KnownFrom). x.0) known)) (map bind.part (map (λ (x : KnownFrom). x.0) known))
  from_elements [] = elements.none
  from_elements (x ∷ known) = elements.more x.1 (from_elements known)

  all_subqueries : (known : List KnownSub) → Subqueries database (map (subquery_shape database.tables) (map (λ (x : KnownSub). x.0) known)) (map sub_meaning (map (λ (x : KnownSub). x.0) known)) (map bind.subquery (map (λ (x : KnownSub). x.0) known))
  all_subqueries [] = queries.none
  all_subqueries (x ∷ known) = queries.more x.1 (all_subqueries known)

  query_layer : (y : JudgedQuery-F KnownFrom KnownSub KnownQuery)
      → QueryLaw database (sound.query_step (query_shapes (known_query y))) (meaning.query_step database (query_meanings (known_query y))) (bind.query_step (query_trees (known_query y)))
  query_layer y = (
    query_parts database (from_elements y.from) (all_subqueries y.subs) y.plain y.outer y.group y.items y.distinct,
    query-means database (from_elements y.from) (all_subqueries y.subs) y.plain y.outer y.group y.items y.distinct,
  )

  query_law : (x : JudgedQuery-F JFrom JSub JudgedQuery) (y : JudgedQuery-F KnownFrom KnownSub KnownQuery) → known_query y ≡ x → QueryHolds (roll-JudgedQuery x)
  query_law x y is = subst (λ z. QueryHolds (roll-JudgedQuery z)) is
      (of_three (QueryLaw database)
      (fold-roll-JudgedQuery ElementShape SubqueryShape QueryShape (element_step database.tables) subquery_step sound.query_step (known_query y))
      (fold-roll-JudgedQuery (List Env) (Env → Bool) NumberedMeaning (from_step database) (meaning.sub_step database) (meaning.query_step database) (known_query y))
      (fold-roll-JudgedQuery Part (Tree → Tree) Bound part_step bind.sub_step bind.query_step (known_query y))
      (query_layer y))

  each_query : (q : JudgedQuery) → QueryHolds q
  each_query = ind-JudgedQuery FromHolds SubHolds QueryHolds from_law sub_law query_law

-- the tree of a query that stands by itself gives its rows
pub tree_means : (database : Database) (q : JudgedQuery) → stands_alone (query_shape database.tables q) ≡ true → rows_of database (bound q) ≡ (numbered database q).rows nulls
unfolding bound numbered
tree_means database q stands =
    let known = each_query database q in
    whole-rows database known.0 (query_shape database.tables q) (query_meaning database q) (trees q) known.1 stands
