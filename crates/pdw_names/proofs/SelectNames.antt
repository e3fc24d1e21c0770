-- The output names and the order of a judged SELECT are those of its meaning by names.
use Rattle.std.proofs.Common.{◌≡◌, ◌≢◌, ℕ, Bool, List, [], map, sym, ap, subst, ◌∙◌, arith}
use Rattle.pdw_syntax.specs.declared.query.Primary.TheFolds.{fold-roll-Query, map-Query}
use Rattle.pdw_syntax.specs.declared.query.Primary.TheViews.{roll-out-Query}
use Rattle.pdw_syntax.specs.declared.query.Primary.{Primary}
use Rattle.pdw_syntax.specs.declared.query.SqlCond.{SqlCond}
use Rattle.pdw_syntax.specs.declared.query.JoinPart.{JoinPart}
use Rattle.pdw_syntax.specs.declared.query.TableRef.{TableRef}
use Rattle.pdw_syntax.specs.declared.query.Query.{Query, out-Query}
use Rattle.pdw_syntax.specs.declared.query.Select.{Select}
use Rattle.pdw_names.proofs.OrderKeys.{keys_are}
use Rattle.pdw_names.proofs.OutputNames.{column_names, item_names, items_named}
use Rattle.pdw_catalog.specs.Catalog.{Tables}
use Rattle.pdw_catalog.specs.Database.{Database}
use Rattle.pdw_names.proofs.ExprMeaningLaws.{expr-means}
use Rattle.pdw_names.proofs.Induction.{query_means}
use Rattle.pdw_form.proofs.Once.{once}
use Rattle.pdw_walk.proofs.Outcomes.{done_value, done_walk, in_turn}
use Rattle.pdw_names.proofs.QueryMeaningLaws.{query_layer}
use Rattle.pdw_names.proofs.QueryParts.{parted}
use Rattle.pdw_names.proofs.Relations.{Proper, QueryGives}
use Rattle.pdw_names.proofs.WalkLaws.{none-some}
use Rattle.pdw_semantics.specs.Answer.{order_of}
use Rattle.pdw_semantics.specs.Queries as meaning
use Rattle.pdw_walk.specs.Conds.{Condition, QueryWalk, cond_step}
use Rattle.pdw_walk.specs.Froms.{ElementWalk, JoinWalk, join_step, primary_step, table_ref_step}
use Rattle.pdw_walk.specs.Lookup.{Scope}
use Rattle.pdw_walk.specs.Queries.{Text, condition, element, group_place, grouped, join, keys_if, name_of, order_key, ordered, query, query_step, query_walk, select, table_ref}
use Rattle.pdw_walk.specs.Walk.{Outcome, Walk, beginning, done, each, pure}
use Rattle.pdw_walk.specs.declared.entry.Role.{Role}
use Rattle.pdw_walk.specs.declared.entry.Role.TheVariants as role
use Rattle.pdw_walk.specs.declared.entry.Walked.{Walked}
use Rattle.pdw_form.specs.declared.judged.JFrom.{JFrom}
use Rattle.pdw_form.specs.declared.judged.JFrom.TheFolds.{fold-JudgedQuery, fold-roll-JudgedQuery, fold_out-JudgedQuery}
use Rattle.pdw_form.specs.declared.judged.JFrom.TheOpen.{JFrom-F, JSub-F, JudgedQuery-F}
use Rattle.pdw_form.specs.declared.judged.JItem.{JItem}
use Rattle.pdw_form.specs.declared.judged.JSub.{JSub}
use Rattle.pdw_form.specs.declared.judged.JudgedQuery.{JudgedQuery, out-JudgedQuery, roll-JudgedQuery}
use Rattle.pdw_form.specs.declared.judged.JudgedSelect.{JudgedSelect}

-- ---- the walk of a query is the step over its parts

abbrev parts : Query → Text
parts q = map-Query Primary SqlCond JoinPart Query TableRef ElementWalk Condition JoinWalk QueryWalk ElementWalk element condition join query_walk table_ref (out-Query q)

walk_is : (q : Query) → query_walk q ≡ query_step (parts q)
walk_is q = ap query_walk (sym (roll-out-Query q)) ∙ fold-roll-Query ElementWalk Condition JoinWalk QueryWalk ElementWalk primary_step cond_step join_step query_step table_ref_step (out-Query q)

-- the items of a query that is put together
abbrev no_element : JFrom-F (Unit {0}) (Unit {0}) (List JItem) → Unit {0}
no_element e = tt

abbrev no_subquery : JSub-F (Unit {0}) (Unit {0}) (List JItem) → Unit {0}
no_subquery s = tt

abbrev its_items : JudgedQuery-F (Unit {0}) (Unit {0}) (List JItem) → List JItem
its_items q = q.items

abbrev items_folded : JudgedQuery → List JItem
items_folded = fold-JudgedQuery (Unit {0}) (Unit {0}) (List JItem) no_element no_subquery its_items

items_rolled : (q : JudgedQuery-F JFrom JSub JudgedQuery) → (out-JudgedQuery (roll-JudgedQuery q)).items ≡ q.items
items_rolled q =
    sym (fold_out-JudgedQuery (Unit {0}) (Unit {0}) (List JItem) no_element no_subquery its_items (roll-JudgedQuery q))
    ∙ fold-roll-JudgedQuery (Unit {0}) (Unit {0}) (List JItem) no_element no_subquery its_items q

-- the items have the names of the output columns
walked_names : (tables : Tables) (q : Text) (part : Role) (outers : List Scope) (w : Walk) (walked : Walked) (w' : Walk) → query_step q tables part outers w ≡ done walked w'
    → item_names (out-JudgedQuery walked.query).items ≡ column_names walked.outputs
walked_names tables q part outers w walked w' is =
    let p = parted q tables part outers w walked w' is in
    subst (λ (x : Walked). item_names (out-JudgedQuery x.query).items ≡ column_names x.outputs) p.is
    (ap item_names (items_rolled _) ∙ items_named part (group_place outers (p.sources).own (keys_if (grouped q) p.keys)) q.items p.having_end p.outputs p.last p.items)

nothing_proper : Proper []
nothing_proper = record { once = λ i inside. absurd (omega (arith, inside)); made = λ n place at. absurd (none-some at) }

not_exists : role.Statement ≢ role.Exists
not_exists e = absurd (cc)

module _ (database : Database) (s : Select) (j : JudgedSelect) (w : Walk) where
  -- the parts of the walk of a SELECT
  record SelectWalk : Type 0 where
    walked : Walked
    between : Walk
    begins : query database.tables s.query role.Statement [] beginning ≡ done walked between
    same : walked.query ≡ j.query
    keys : each (order_key (map name_of walked.outputs)) s.order between ≡ done j.order w

  select_walk : select database.tables s beginning ≡ done j w → SelectWalk
  unfolding select
  select_walk is =
      let first = in_turn (query database.tables s.query role.Statement [] beginning) (ordered s.order) j w is in
      let second = in_turn (each (order_key (map name_of (first.value).outputs)) s.order first.middle) (λ keys. pure (record { query = (first.value).query; order = keys })) j w first.ended in
      let made = done_value second.ended in
      record {
        walked = first.value;
        between = first.middle;
        begins = first.begun;
        same = ap (λ (x : JudgedSelect). x.query) made;
        keys = subst (λ (o : Outcome (List (ℕ × Bool))). each (order_key (map name_of (first.value).outputs)) s.order first.middle ≡ o) (λ i. done (made i).order (done_walk second.ended i)) second.begun;
      }

  -- its names and its order
  module _ (p : SelectWalk) where
    gives : QueryGives database role.Statement [] (meaning.query database s.query) beginning p.walked p.between
    gives = (query_means database expr-means (query_layer database once expr-means) s.query).gives role.Statement [] beginning p.walked p.between nothing_proper tt p.begins

    names : column_names (p.walked).outputs ≡ (meaning.query database s.query).names
    names = gives.names not_exists

    its_names : item_names (out-JudgedQuery j.query).items ≡ (meaning.query database s.query).names
    its_names =
        ap (λ (q : JudgedQuery). item_names (out-JudgedQuery q).items) (sym p.same)
        ∙ walked_names database.tables (parts s.query) role.Statement [] beginning p.walked p.between
        (subst (λ (walk : QueryWalk). walk database.tables role.Statement [] beginning ≡ done p.walked p.between) (walk_is s.query) p.begins)
        ∙ names

    its_order : j.order ≡ order_of (meaning.query database s.query).names s.order
    its_order = sym (keys_are (map name_of (p.walked).outputs) s.order p.between j.order w p.keys) ∙ ap (λ ns. order_of ns s.order) names

-- the output names of a judged SELECT are those of its meaning
pub select_names : (database : Database) (s : Select) (j : JudgedSelect) (w : Walk) → select database.tables s beginning ≡ done j w → item_names (out-JudgedQuery j.query).items ≡ (meaning.query database s.query).names
select_names database s j w is = its_names database s j w (select_walk database s j w is)

-- its order keys are those that ORDER BY means
pub select_order : (database : Database) (s : Select) (j : JudgedSelect) (w : Walk) → select database.tables s beginning ≡ done j w → j.order ≡ order_of (meaning.query database s.query).names s.order
select_order database s j w is = its_order database s j w (select_walk database s j w is)
