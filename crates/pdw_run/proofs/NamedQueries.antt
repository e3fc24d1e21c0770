-- The judgement has no want of memory as a fault: conditions, FROM, WHERE and items.
use Rattle.std.proofs.Common.{ℕ, Bool, true, false, List, [], ◌∷◌, ◌++◌, Option, Some, None, if◌then◌else◌}
use Rattle.std.specs.Bool.{⊤}
use Rattle.std.specs.List.{AllByRecursion, flat_map}
use Rattle.std.specs.Prelude.{codes}
use Rattle.std.specs.Str.{bytes_eq}
use Rattle.pdw_syntax.specs.declared.expr.SqlExpr.{SqlExpr}
use Rattle.pdw_syntax.specs.declared.query.Item.TheVariants as item
use Rattle.pdw_syntax.specs.declared.query.Item.{Item}
use Rattle.pdw_syntax.specs.declared.query.Items.TheVariants.{Star, List as Listed}
use Rattle.pdw_syntax.specs.declared.query.Items.{Items}
use Rattle.pdw_syntax.specs.declared.query.JoinWord.{JoinWord}
use Rattle.pdw_catalog.specs.Catalog.{Tables}
use Rattle.pdw_catalog.specs.declared.table.Column.{Column as TableColumn}
use Rattle.pdw_catalog.specs.declared.table.Table.{Table}
use Rattle.pdw_expr.specs.declared.cond.Cmp.{Cmp}
use Rattle.pdw_expr.specs.declared.cond.Cond.{Cond}
use Rattle.pdw_walk.specs.Conds.{Condition, Conjunct, QueryWalk, Subquery, between, compared, comparison, conjuncts_of, in_list, like, likened, listed, negation_of, null_tested, ranged, tested, tests}
use Rattle.pdw_walk.specs.Conjuncts.{Around, condition_walk, conjunct_by, conjunct_walk, enclosing, exists_walk, in_subquery, in_walk, no_conjuncts, place_in, subquery_walk, where_place, where_walk, with_condition, with_subquery}
use Rattle.pdw_walk.specs.Exprs.{expr}
use Rattle.pdw_walk.specs.Froms.{ElementWalk, JoinWalk, derived_table, derived_walk, joined, joined_walk, known_table_walk, on_place, table_walk}
use Rattle.pdw_walk.specs.Items.{alias_column, alias_star, all_columns, item_walk, items_walk, made_item, made_output, no_outputs, refuse_repeated, star_column}
use Rattle.pdw_walk.specs.Lookup.{Place, Scope, qualified}
use Rattle.pdw_walk.specs.Walk.{Step, Walk, is_among, over, pure, refused}
use Rattle.pdw_walk.specs.declared.entry.Conjuncts.{Conjuncts}
use Rattle.pdw_walk.specs.declared.entry.Element.{Element}
use Rattle.pdw_walk.specs.declared.entry.Entry.{Entry}
use Rattle.pdw_walk.specs.declared.entry.Numbered.{Numbered}
use Rattle.pdw_walk.specs.declared.entry.Outputs.{Outputs}
use Rattle.pdw_walk.specs.declared.entry.Role.TheVariants as role
use Rattle.pdw_walk.specs.declared.entry.Role.{Role}
use Rattle.pdw_walk.specs.declared.entry.Slot.{Slot}
use Rattle.pdw_walk.specs.declared.entry.Typed.{Typed}
use Rattle.pdw_walk.specs.declared.entry.Walked.{Walked}
use Rattle.pdw_walk.specs.declared.fault.JudgeFault.{JudgeFault}
use Rattle.pdw_walk.specs.declared.fault.JudgeFault.TheVariants.{UnknownColumn}
use Rattle.pdw_run.proofs.NamedSteps.{ExprNames, IsNamed, IsNamedFault, Names, names_alias, names_count_reference, names_each, names_expr, names_forget, names_if, names_made_number, names_map, names_met, names_over, names_own, names_pure, names_refuse, names_then, nothing_known}

-- ---- what is known of each part

abbrev pub QueryNames : QueryWalk → Type 0
QueryNames walk = (tables : Tables) (role : Role) (outers : List Scope) → Names (walk tables role outers)

abbrev pub ElementNames : ElementWalk → Type 0
ElementNames walk = (tables : Tables) (outers : List Scope) → Names (walk tables outers)

abbrev pub JoinNames : JoinWalk → Type 0
JoinNames walk = (tables : Tables) (outers : List Scope) (left : Element) → Names (walk tables outers left)

abbrev pub LeftNames : Option (Place → Step Typed) → Type 0
LeftNames None = ⊤
LeftNames (Some x) = ExprNames x

pub record SubqueryNames (subquery : Subquery) : Type 0 where
  pub left : LeftNames subquery.left
  pub query : QueryNames subquery.query

abbrev pub SubqueryIf : Option Subquery → Type 0
SubqueryIf None = ⊤
SubqueryIf (Some subquery) = SubqueryNames subquery

pub record ConjunctNames (c : Conjunct) : Type 0 where
  pub test : (place : Place) → Names (c.test place)
  pub subquery : SubqueryIf c.subquery

pub record CondNames (c : Condition) : Type 0 where
  pub test : (place : Place) → Names (c.test place)
  pub conjuncts : AllByRecursion ConjunctNames c.conjuncts
  pub negation : SubqueryIf c.negation

abbrev pub CondIf : Option Condition → Type 0
CondIf None = ⊤
CondIf (Some c) = CondNames c

-- ---- predicates

names_comparison : (op : Cmp) (a b : Typed) → Names (comparison op a b)
unfolding comparison
names_comparison op a b = names_then (names_if _ _ tt) (λ u. names_pure _)

pub names_compared : (op : Cmp) (x y : SqlExpr) (place : Place) → Names (compared op x y place)
unfolding compared
names_compared op x y place = names_then (names_expr x place) (λ a. names_then (names_expr y place) (λ b. names_comparison op a b))

names_like : (negated : Bool) (a b : Typed) → Names (like negated a b)
unfolding like
names_like negated a b = names_then (names_if _ _ tt) (λ u. names_pure _)

pub names_likened : (negated : Bool) (x y : SqlExpr) (place : Place) → Names (likened negated x y place)
unfolding likened
names_likened negated x y place = names_then (names_expr x place) (λ a. names_then (names_expr y place) (λ b. names_like negated a b))

pub names_null : (negated : Bool) (x : SqlExpr) (place : Place) → Names (null_tested negated x place)
unfolding null_tested
names_null negated x place = names_map _ (names_expr x place)

names_between : (negated : Bool) (a low high : Typed) → Names (between negated a low high)
unfolding between
names_between negated a low high = names_then (names_if _ _ tt) (λ u. names_pure _)

pub names_ranged : (negated : Bool) (x low high : SqlExpr) (place : Place) → Names (ranged negated x low high place)
unfolding ranged
names_ranged negated x low high place =
    names_then (names_expr x place) (λ a. names_then (names_expr low place) (λ b. names_then (names_expr high place) (λ c. names_between negated a b c)))

names_in_list : (negated : Bool) (a : Typed) (list : List Typed) → Names (in_list negated a list)
unfolding in_list
names_in_list negated a list = names_then (names_if _ _ tt) (λ u. names_pure _)

pub names_listed : (negated : Bool) (x : SqlExpr) (list : List SqlExpr) (place : Place) → Names (listed negated x list place)
unfolding listed
names_listed negated x list place =
    names_then (names_expr x place) (λ a. names_then (names_each (λ y. ⊤) (λ y. expr y place) (λ y known. names_expr y place) list (nothing_known list)) (λ bs. names_in_list negated a bs))

-- ---- conditions

pub one_conjunct : (nested : Bool) (test : Place → Step Cond) (subquery negation : Option Subquery) → ((place : Place) → Names (test place)) → SubqueryIf subquery → SubqueryIf negation
    → CondNames (record { nested = nested; test = test; conjuncts = record { nested = nested; test = test; subquery = subquery } ∷ []; negation = negation })
one_conjunct nested test subquery negation tests subqueries negations =
    record { test = tests; conjuncts = (record { test = tests; subquery = subqueries }, tt); negation = negations }

pub names_negation : (negated : Bool) (subquery : Subquery) → SubqueryNames subquery → SubqueryIf (negation_of negated subquery)
names_negation true subquery known = tt
names_negation false subquery known = record { left = known.left; query = known.query }

pub names_tests : (parts : List Condition) → AllByRecursion CondNames parts → (place : Place) → Names (tests parts place)
names_tests parts known place = names_each CondNames (λ part. part.test place) (λ part one. one.test place) parts known

all_append : (xs ys : List Conjunct) → AllByRecursion ConjunctNames xs → AllByRecursion ConjunctNames ys → AllByRecursion ConjunctNames (xs ++ ys)
all_append [] ys first second = second
all_append (x ∷ xs) ys first second = (first.0, all_append xs ys first.1 second)

pub all_conjuncts : (parts : List Condition) → AllByRecursion CondNames parts → AllByRecursion ConjunctNames (flat_map (λ part. part.conjuncts) parts)
all_conjuncts [] known = tt
all_conjuncts (part ∷ parts) known = all_append part.conjuncts (flat_map (λ part. part.conjuncts) parts) (known.0).conjuncts (all_conjuncts parts known.1)

pub conjuncts_known : (c : Option Condition) → CondIf c → AllByRecursion ConjunctNames (conjuncts_of c)
conjuncts_known None known = tt
conjuncts_known (Some c) known = known.conjuncts

pub names_tested : (place : Place) (c : Option Condition) → CondIf c → Names (tested place c)
unfolding tested
names_tested place c known = names_each ConjunctNames (λ c. c.test place) (λ c one. one.test place) (conjuncts_of c) (conjuncts_known c known)

-- ---- FROM

names_known_table : (name alias : List ℕ) (columns : List TableColumn) → Names (known_table_walk name alias columns)
unfolding known_table_walk
names_known_table name alias columns = names_then names_count_reference (λ reference. names_then (names_alias alias) (λ u. names_pure _))

pub names_table : (name alias : List ℕ) (table : Option Table) → Names (table_walk name alias table)
names_table name alias None = names_refuse _ tt
names_table name alias (Some table) = names_known_table name alias table.columns

names_derived_walk : (alias : List ℕ) (walked : Walked) → Names (derived_walk alias walked)
unfolding derived_walk
names_derived_walk alias walked = names_then (names_alias alias) (λ u. names_pure _)

pub names_derived : (query : QueryWalk) (alias : List ℕ) → QueryNames query → ElementNames (derived_table query alias)
names_derived query alias known tables outers = names_then (known tables role.DerivedTable outers) (λ walked. names_derived_walk alias walked)

pub names_joined : (outers : List Scope) (word : JoinWord) (on : Option Condition) (left right : Element) → CondIf on → Names (joined_walk outers word on left right)
unfolding joined_walk
names_joined outers word on left right known = names_map (joined word left right) (names_tested (on_place outers (left.entries ++ right.entries)) on known)

-- ---- WHERE

names_in_subquery : (negated : Bool) (left : Typed) (walked : Walked) → Names (in_subquery negated left walked)
unfolding in_subquery
names_in_subquery negated left walked = names_then (names_if _ _ tt) (λ u. names_pure _)

names_in : (around : Around) (x : Place → Step Typed) (negated : Bool) (query : QueryWalk) → ExprNames x → QueryNames query → Names (in_walk around x negated query)
unfolding in_walk
names_in around x negated query left known =
    names_then (left (place_in around.outers around.own)) (λ value. names_then (known around.tables role.In (enclosing around)) (λ walked. names_in_subquery negated value walked))

names_exists : (around : Around) (negated : Bool) (query : QueryWalk) → QueryNames query → Names (exists_walk around negated query)
unfolding exists_walk
names_exists around negated query known = names_map _ (known around.tables role.Exists (enclosing around))

names_subquery : (around : Around) (left : Option (Place → Step Typed)) (negated : Bool) (query : QueryWalk) → LeftNames left → QueryNames query → Names (subquery_walk around left negated query)
names_subquery around None negated query left known = names_exists around negated query known
names_subquery around (Some x) negated query left known = names_in around x negated query left known

names_condition : (place : Place) (test : Place → Step Cond) (before : Conjuncts) → ((place : Place) → Names (test place)) → Names (condition_walk place test before)
unfolding condition_walk
names_condition place test before tests = names_then names_forget (λ u. names_then (tests place) (λ c. names_then names_met (λ outer. names_pure (with_condition before c outer))))

names_conjunct_by : (around : Around) (before : Conjuncts) (nested : Bool) (test : Place → Step Cond) (subquery : Option Subquery) → ((place : Place) → Names (test place)) → SubqueryIf subquery
    → Names (conjunct_by around before nested test subquery)
names_conjunct_by around before nested test None tests known = names_condition (where_place around nested) test before tests
names_conjunct_by around before nested test (Some sub) tests known = names_map (with_subquery before) (names_subquery around sub.left sub.negated sub.query known.left known.query)

pub names_where : (around : Around) (c : Option Condition) → CondIf c → Names (where_walk around c)
names_where around c known =
    names_over ConjunctNames (conjunct_walk around) (λ before c one. names_conjunct_by around before c.nested c.test c.subquery one.test one.subquery) no_conjuncts (conjuncts_of c) (conjuncts_known c known)

-- ---- items

names_star : (keys : Option (List Slot)) (alias : Option (List ℕ)) (before : Outputs) (entry : Entry) → Names (star_column keys alias before entry)
unfolding star_column
names_star keys alias before entry = names_then (names_if _ _ tt) (λ u. names_then (names_own keys (qualified alias entry.column) entry) (λ met. names_pure _))

names_made_output : (before : Outputs) (name : List ℕ) (x : Typed) (bare : Option Numbered) → Names (made_output before name x bare)
names_made_output before name x (Some column) = names_pure _
names_made_output before name x None = names_map _ names_made_number

names_made_item : (place : Place) (before : Outputs) (value : SqlExpr) (name : List ℕ) → Names (made_item place before value name)
unfolding made_item
names_made_item place before value name = names_then (names_if _ _ tt) (λ u. names_then (names_expr value place) (λ x. names_made_output before name x x.bare))

either_step : {A : Type 0} (test : Bool) (x y : Step A) → Names x → Names y → Names (if test then x else y)
either_step true x y first second = first
either_step false x y first second = second

names_alias_column : (keys : Option (List Slot)) (alias : List ℕ) (before : Outputs) (entry : Entry) → Names (alias_column keys alias before entry)
names_alias_column keys alias before entry = either_step (bytes_eq alias entry.alias) (star_column keys (Some alias) before entry) (pure before) (names_star keys (Some alias) before entry) (names_pure before)

by_alias : {A : Type 0} (test : Bool) (step : Step A) (fault : JudgeFault) (w : Walk) → Names step → IsNamedFault fault → IsNamed (if test then step w else refused fault)
by_alias true step fault w known named = known.at w
by_alias false step fault w known named = named

names_alias_star : (place : Place) (alias : List ℕ) (before : Outputs) → Names (alias_star place alias before)
unfolding alias_star
names_alias_star place alias before = record {
  at = λ w. by_alias (is_among alias w.taken) (over (alias_column place.keys alias) before place.own) (UnknownColumn (alias ++ codes ".*")) w
      (names_over (λ entry. ⊤) (alias_column place.keys alias) (λ before entry known. names_alias_column place.keys alias before entry) before place.own (nothing_known place.own)) tt;
}

names_item : (place : Place) (before : Outputs) (x : Item) → Names (item_walk place before x)
names_item place before (item.AliasStar alias) = names_alias_star place alias before
names_item place before (item.Made x name) = names_made_item place before x _

names_stars : (place : Place) → Names (over (star_column place.keys None) no_outputs place.own)
names_stars place = names_over (λ entry. ⊤) (star_column place.keys None) (λ before entry known. names_star place.keys None before entry) no_outputs place.own (nothing_known place.own)

names_all_columns : (role : Role) (place : Place) → Names (all_columns role place)
names_all_columns role.Exists place = names_pure no_outputs
names_all_columns _ place = names_stars place

pub names_items : (role : Role) (place : Place) (items : Items) → Names (items_walk role place items)
names_items role place Star = names_all_columns role place
names_items role place (Listed items) = names_over (λ x. ⊤) (item_walk place) (λ before x known. names_item place before x) no_outputs items (nothing_known items)

pub names_repeated : (name : Option (List ℕ)) → Names (refuse_repeated name)
names_repeated None = names_pure tt
names_repeated (Some name) = names_refuse _ tt
