-- What conditions, elements of FROM and queries count: what their numbered forms count.
use Rattle.std.proofs.Common.{◌≡◌, ℕ, ◌+◌, Bool, true, false, List, [], ◌∷◌, ◌++◌, map, Option, Some, None, refl, ap, subst, ◌∙◌, arith}
use Rattle.std.specs.Bool.{⊤}
use Rattle.std.specs.List.{AllByRecursion, flat_map, sum}
use Rattle.std.proofs.lemmas.List.{map-append}
use Rattle.std.proofs.lemmas.List.Sums.{fold-append}
use Rattle.pdw_syntax.specs.declared.expr.ColRef.{ColRef}
use Rattle.pdw_syntax.specs.declared.query.JoinWord.{JoinWord}
use Rattle.pdw_catalog.specs.Catalog.{Tables}
use Rattle.pdw_catalog.specs.declared.table.Column.{Column as TableColumn}
use Rattle.pdw_catalog.specs.declared.table.Table.{Table}
use Rattle.pdw_expr.specs.declared.cond.Cond.{Cond}
use Rattle.pdw_form.specs.Counts.{query_count, sub_count}
use Rattle.pdw_form.specs.declared.judged.JSub.{JSub}
use Rattle.pdw_sound.proofs.CountedForms.{draft_count, draft_count-derived, draft_count-join, draft_count-table, drafts_count, query_count-walked, sub_count-judged, subs_count}
use Rattle.pdw_sound.proofs.KeptExprs.{ExprKeeps, keeps_column}
use Rattle.pdw_sound.proofs.KeptItems.{keeps_items, keeps_repeated}
use Rattle.pdw_sound.proofs.Tallies.{Keeps, Tallies, TallyOf, counted, keeps_alias, keeps_each, keeps_forget, keeps_if, keeps_met, nothing_known, tallies_count_query, tallies_count_reference, tallies_map, tallies_over, tallies_pure, tallies_refuse, tallies_then}
use Rattle.pdw_walk.specs.Conds.{Condition, Conjunct, QueryWalk, Subquery, conjuncts_of, negation_of, tested, tests}
use Rattle.pdw_walk.specs.Conjuncts.{Around, condition_walk, conjunct_by, conjunct_walk, enclosing, exists_walk, in_subquery, in_walk, judged_subquery, no_conjuncts, place_in, subquery_walk, where_place, where_walk, with_condition, with_subquery}
use Rattle.pdw_walk.specs.Froms.{ElementWalk, JoinWalk, Sources, derived_element, derived_table, derived_walk, joined, joined_walk, known_table_walk, no_sources, on_place, source, table_element, table_walk, with_element}
use Rattle.pdw_walk.specs.Items.{repeated_name}
use Rattle.pdw_walk.specs.Lookup.{Place, Scope, column}
use Rattle.pdw_walk.specs.Queries.{Text, after_from, after_having, after_items, after_keys, after_where, apart, around_of, finish, group_of, group_place, grouped, keys_if, keys_walk, parts_walk, query_step, restored}
use Rattle.pdw_walk.specs.Walk.{Outcome, Step, Walk, done, refused, with_aggs, with_taken}
use Rattle.pdw_walk.specs.declared.entry.Conjuncts.{Conjuncts}
use Rattle.pdw_walk.specs.declared.entry.Draft.{Draft}
use Rattle.pdw_walk.specs.declared.entry.Element.{Element}
use Rattle.pdw_walk.specs.declared.entry.Met.{Met}
use Rattle.pdw_walk.specs.declared.entry.Outputs.{Outputs}
use Rattle.pdw_walk.specs.declared.entry.Role.TheVariants as role
use Rattle.pdw_walk.specs.declared.entry.Role.{Role}
use Rattle.pdw_walk.specs.declared.entry.Typed.{Typed}
use Rattle.pdw_walk.specs.declared.entry.Walked.{Walked}

-- one item more in a sum
sum-push : {X : Type 0} (f : X → ℕ) (n : ℕ) (xs : List X) (x : X) → n + sum (map f (xs ++ x ∷ [])) ≡ (n + sum (map f xs)) + f x
sum-push f n xs x =
    let pushed : sum (map f (xs ++ x ∷ [])) ≡ sum (map f xs) + f x = ap sum (map-append f xs (x ∷ [])) ∙ fold-append (λ a b. a + b) 0 (map f xs) (f x ∷ []) in
    omega (arith, pushed)

none-more : (n : ℕ) → n + 0 ≡ n
none-more n = omega arith

module _ (table query : ℕ) where
  -- ---- what is counted of each part, beside what was counted before

  abbrev pub element_count : ℕ → Element → ℕ
  element_count n e = n + draft_count table query e.draft

  abbrev pub sources_count : ℕ → Sources → ℕ
  sources_count n sources = n + drafts_count table query sources.drafts

  abbrev pub sub_count_on : ℕ → JSub → ℕ
  sub_count_on n sub = n + sub_count table query sub

  abbrev pub filters_count : ℕ → Conjuncts → ℕ
  filters_count n filters = n + subs_count table query filters.subs

  abbrev pub walked_count : ℕ → Walked → ℕ
  walked_count n walked = n + query_count table query walked.query

  -- ---- what is known of each part

  abbrev pub QueryCounts : QueryWalk → Type 0
  QueryCounts walk = (n : ℕ) (tables : Tables) (role : Role) (outers : List Scope) → Tallies table query n (walked_count n) (walk tables role outers)

  abbrev pub ElementCounts : ElementWalk → Type 0
  ElementCounts walk = (n : ℕ) (tables : Tables) (outers : List Scope) → Tallies table query n (element_count n) (walk tables outers)

  abbrev pub JoinCounts : JoinWalk → Type 0
  JoinCounts walk = (n : ℕ) (tables : Tables) (outers : List Scope) (left : Element) → Tallies table query (element_count n left) (element_count n) (walk tables outers left)

  abbrev pub LeftKeeps : Option (Place → Step Typed) → Type 0
  LeftKeeps None = ⊤
  LeftKeeps (Some x) = ExprKeeps table query x

  pub record SubqueryCounts (subquery : Subquery) : Type 0 where
    pub left : LeftKeeps subquery.left
    pub inner : QueryCounts subquery.query

  abbrev pub SubqueryIf : Option Subquery → Type 0
  SubqueryIf None = ⊤
  SubqueryIf (Some subquery) = SubqueryCounts subquery

  pub record ConjunctCounts (c : Conjunct) : Type 0 where
    pub test : (place : Place) → Keeps table query (c.test place)
    pub subquery : SubqueryIf c.subquery

  pub record CondCounts (c : Condition) : Type 0 where
    pub test : (place : Place) → Keeps table query (c.test place)
    pub conjuncts : AllByRecursion ConjunctCounts c.conjuncts
    pub negation : SubqueryIf c.negation

  abbrev pub CondIf : Option Condition → Type 0
  CondIf None = ⊤
  CondIf (Some c) = CondCounts c

  -- ---- conditions

  pub one_conjunct : (nested : Bool) (test : Place → Step Cond) (subquery negation : Option Subquery) → ((place : Place) → Keeps table query (test place)) → SubqueryIf subquery → SubqueryIf negation
      → CondCounts (record { nested = nested; test = test; conjuncts = record { nested = nested; test = test; subquery = subquery } ∷ []; negation = negation })
  one_conjunct nested test subquery negation tests subqueries negations =
      record { test = tests; conjuncts = (record { test = tests; subquery = subqueries }, tt); negation = negations }

  pub counts_negation : (negated : Bool) (subquery : Subquery) → SubqueryCounts subquery → SubqueryIf (negation_of negated subquery)
  counts_negation true subquery known = tt
  counts_negation false subquery known = record { left = known.left; inner = known.inner }

  pub keeps_tests : (parts : List Condition) → AllByRecursion CondCounts parts → (place : Place) → Keeps table query (tests parts place)
  keeps_tests parts known place = keeps_each CondCounts (λ part. part.test place) (λ part one. one.test place) parts known

  all_append : (xs ys : List Conjunct) → AllByRecursion ConjunctCounts xs → AllByRecursion ConjunctCounts ys → AllByRecursion ConjunctCounts (xs ++ ys)
  all_append [] ys first second = second
  all_append (x ∷ xs) ys first second = (first.0, all_append xs ys first.1 second)

  pub all_conjuncts : (parts : List Condition) → AllByRecursion CondCounts parts → AllByRecursion ConjunctCounts (flat_map (λ part. part.conjuncts) parts)
  all_conjuncts [] known = tt
  all_conjuncts (part ∷ parts) known = all_append part.conjuncts (flat_map (λ part. part.conjuncts) parts) (known.0).conjuncts (all_conjuncts parts known.1)

  conjuncts_known : (c : Option Condition) → CondIf c → AllByRecursion ConjunctCounts (conjuncts_of c)
  conjuncts_known None known = tt
  conjuncts_known (Some c) known = known.conjuncts

  keeps_tested : (place : Place) (c : Option Condition) → CondIf c → Keeps table query (tested place c)
  unfolding tested
  keeps_tested place c known = keeps_each ConjunctCounts (λ c. c.test place) (λ c one. one.test place) (conjuncts_of c) (conjuncts_known c known)

  -- ---- FROM

  counts_known_table : (name alias : List ℕ) (columns : List TableColumn) (n : ℕ) → Tallies table query n (element_count n) (known_table_walk name alias columns)
  unfolding known_table_walk
  counts_known_table name alias columns n =
      tallies_then (tallies_count_reference n) (λ reference. tallies_then (keeps_alias alias (n + table))
      (λ u. tallies_pure (table_element name alias columns reference) (ap (λ more. n + more) (draft_count-table table query name alias reference))))

  pub counts_table : (name alias : List ℕ) (found : Option Table) (n : ℕ) → Tallies table query n (element_count n) (table_walk name alias found)
  counts_table name alias None n = tallies_refuse _
  counts_table name alias (Some found) n = counts_known_table name alias found.columns n

  counts_derived_walk : (alias : List ℕ) (walked : Walked) (n : ℕ) → Tallies table query (walked_count n walked) (element_count n) (derived_walk alias walked)
  unfolding derived_walk
  counts_derived_walk alias walked n =
      tallies_then (keeps_alias alias (walked_count n walked)) (λ u. tallies_pure (derived_element alias walked) (ap (λ more. n + more) (draft_count-derived table query walked.query)))

  pub counts_derived : (inner : QueryWalk) (alias : List ℕ) → QueryCounts inner → ElementCounts (derived_table inner alias)
  counts_derived inner alias known n tables outers = tallies_then (known n tables role.DerivedTable outers) (λ walked. counts_derived_walk alias walked n)

  pub counts_joined : (outers : List Scope) (word : JoinWord) (on : Option Condition) (left right : Element) (n : ℕ) → CondIf on → Tallies table query (element_count (element_count n left) right) (element_count n) (joined_walk outers word on left right)
  unfolding joined_walk
  counts_joined outers word on left right n known =
      tallies_map (joined word left right)
      (λ conds. ap (λ more. n + more) (draft_count-join table query word left.draft right.draft conds) ∙ both n (draft_count table query left.draft) (draft_count table query right.draft))
      (keeps_tested (on_place outers (left.entries ++ right.entries)) on known (element_count (element_count n left) right))
    where
      both : (n a b : ℕ) → n + (a + b) ≡ (n + a) + b
      both n a b = omega arith

  pub counts_source : (tables : Tables) (outers : List Scope) (n : ℕ) (before : Sources) (element : ElementWalk) → ElementCounts element → Tallies table query (sources_count n before) (sources_count n) (source tables outers before element)
  counts_source tables outers n before element known =
      tallies_map (with_element before) (λ e. sum-push (draft_count table query) n before.drafts e.draft) (known (sources_count n before) tables outers)

  -- ---- WHERE

  counts_in_subquery : (negated : Bool) (left : Typed) (walked : Walked) (n : ℕ) → Tallies table query (walked_count n walked) (sub_count_on n) (in_subquery negated left walked)
  unfolding in_subquery
  counts_in_subquery negated left walked n =
      tallies_then (keeps_if _ _ (walked_count n walked)) (λ u. tallies_pure (judged_subquery negated (Some left.scalar) walked.query) (ap (λ more. n + more) (sub_count-judged table query negated (Some left.scalar) walked.query)))

  counts_in : (around : Around) (x : Place → Step Typed) (negated : Bool) (inner : QueryWalk) (n : ℕ) → ExprKeeps table query x → QueryCounts inner → Tallies table query n (sub_count_on n) (in_walk around x negated inner)
  unfolding in_walk
  counts_in around x negated inner n left known =
      tallies_then (left (place_in around.outers around.own) n) (λ value. tallies_then (known n around.tables role.In (enclosing around)) (λ walked. counts_in_subquery negated value walked n))

  counts_exists : (around : Around) (negated : Bool) (inner : QueryWalk) (n : ℕ) → QueryCounts inner → Tallies table query n (sub_count_on n) (exists_walk around negated inner)
  unfolding exists_walk
  counts_exists around negated inner n known =
      tallies_map (λ walked. judged_subquery negated None walked.query) (λ walked. ap (λ more. n + more) (sub_count-judged table query negated None walked.query)) (known n around.tables role.Exists (enclosing around))

  counts_subquery : (around : Around) (left : Option (Place → Step Typed)) (negated : Bool) (inner : QueryWalk) (n : ℕ) → LeftKeeps left → QueryCounts inner → Tallies table query n (sub_count_on n) (subquery_walk around left negated inner)
  counts_subquery around None negated inner n left known = counts_exists around negated inner n known
  counts_subquery around (Some x) negated inner n left known = counts_in around x negated inner n left known

  same_subs : (n : ℕ) (before : Conjuncts) (c : Cond) (outer : Bool) → filters_count n (with_condition before c outer) ≡ filters_count n before
  same_subs n before c true = refl
  same_subs n before c false = refl

  counts_condition : (place : Place) (test : Place → Step Cond) (n : ℕ) (before : Conjuncts) → ((place : Place) → Keeps table query (test place)) → Tallies table query (filters_count n before) (filters_count n) (condition_walk place test before)
  unfolding condition_walk
  counts_condition place test n before tests =
      tallies_then (keeps_forget (filters_count n before)) (λ u. tallies_then (tests place (filters_count n before))
      (λ c. tallies_then (keeps_met (filters_count n before)) (λ outer. tallies_pure (with_condition before c outer) (same_subs n before c outer))))

  counts_conjunct_by : (around : Around) (n : ℕ) (before : Conjuncts) (nested : Bool) (test : Place → Step Cond) (subquery : Option Subquery) → ((place : Place) → Keeps table query (test place)) → SubqueryIf subquery
      → Tallies table query (filters_count n before) (filters_count n) (conjunct_by around before nested test subquery)
  counts_conjunct_by around n before nested test None tests known = counts_condition (where_place around nested) test n before tests
  counts_conjunct_by around n before nested test (Some sub) tests known =
      tallies_map (with_subquery before) (λ one. sum-push (sub_count table query) n before.subs one) (counts_subquery around sub.left sub.negated sub.query (filters_count n before) known.left known.inner)

  counts_where : (around : Around) (n : ℕ) (c : Option Condition) → CondIf c → Tallies table query (filters_count n no_conjuncts) (filters_count n) (where_walk around c)
  counts_where around n c known =
      tallies_over ConjunctCounts (conjunct_walk around) (λ before c one. counts_conjunct_by around n before c.nested c.test c.subquery one.test one.subquery) no_conjuncts (conjuncts_of c) (conjuncts_known c known)

  -- ---- a query's parts in turn

  keeps_keys : (place : Place) (refs : List ColRef) → Keeps table query (keys_walk place refs)
  unfolding keys_walk
  keeps_keys place refs = keeps_each (λ ref. ⊤) (column place) (λ ref known. keeps_column place ref) refs (nothing_known refs)

  -- what a query's FROM and WHERE count, and the query itself
  abbrev parts_count : ℕ → List Draft → Conjuncts → ℕ
  parts_count n drafts filters = ((n + query) + drafts_count table query drafts) + subs_count table query filters.subs

  counts_finish : (n : ℕ) (distinct is_group : Bool) (drafts : List Draft) (filters : Conjuncts) (keys : List Met) (having : List Cond) (outputs : Outputs)
      → Tallies table query (parts_count n drafts filters) (walked_count n) (finish distinct is_group drafts filters keys having outputs)
  unfolding finish
  counts_finish n distinct is_group drafts filters keys having outputs = record {
    at = λ w. record {
      sums = in_all (counted table query w) n query (drafts_count table query drafts) (subs_count table query filters.subs) _ (query_count-walked table query w.numbers distinct drafts filters (group_of is_group keys w.aggs having) outputs);
      limits = λ within. record { references = within.references; queries = within.queries; used = within.used };
    };
  }
    where
      in_all : (a n b c d e : ℕ) → e ≡ b + (c + d) → a + (((n + b) + c) + d) ≡ a + (n + e)
      in_all a n b c d e same = omega (arith, same)

  tally_restored : {A : Type 0} (n : ℕ) (count : A → ℕ) (w : Walk) (o : Outcome A) → TallyOf table query n count (with_taken [] (with_aggs [] w)) o → TallyOf table query n count w (restored w o)
  tally_restored n count w (done a v) here = record {
    sums = here.sums;
    limits = λ within. let ends = here.limits (record { references = within.references; queries = within.queries; used = within.used }) in record { references = ends.references; queries = ends.queries; used = ends.used };
  }
  tally_restored n count w (refused fault) here = tt

  counts_apart : {A : Type 0} (n : ℕ) (count : A → ℕ) (step : Step A) → Tallies table query n count step → Tallies table query n count (apart step)
  counts_apart n count step known = record { at = λ w. tally_restored n count w (step (with_taken [] (with_aggs [] w))) (known.at (with_taken [] (with_aggs [] w))) }

  -- the parts of a query that lead back to queries
  pub record TextCounts (q : Text) : Type 0 where
    pub from : AllByRecursion ElementCounts q.from
    pub filter : CondIf q.filter
    pub having : CondIf q.having

  module _ (q : Text) (role : Role) (outers : List Scope) (own : Scope) (is_group : Bool) (n : ℕ) (drafts : List Draft) (filters : Conjuncts) where
    counts_after_items : (keys : List Met) (having : List Cond) (outputs : Outputs) → Tallies table query (parts_count n drafts filters) (walked_count n) (after_items q role outers own is_group drafts filters keys having outputs)
    unfolding after_items
    counts_after_items keys having outputs =
        tallies_then (keeps_repeated (repeated_name role outputs.columns) (parts_count n drafts filters)) (λ u. counts_finish n q.distinct is_group drafts filters keys having outputs)

    counts_after_having : (keys : List Met) (having : List Cond) → Tallies table query (parts_count n drafts filters) (walked_count n) (after_having q role outers own is_group drafts filters keys having)
    unfolding after_having
    counts_after_having keys having =
        tallies_then (keeps_items role (group_place outers own (keys_if is_group keys)) q.items (parts_count n drafts filters)) (λ outputs. counts_after_items keys having outputs)

    counts_after_keys : CondIf q.having → (keys : List Met) → Tallies table query (parts_count n drafts filters) (walked_count n) (after_keys q role outers own is_group drafts filters keys)
    unfolding after_keys
    counts_after_keys known keys =
        tallies_then (keeps_tested (group_place outers own (keys_if is_group keys)) q.having known (parts_count n drafts filters)) (λ having. counts_after_having keys having)

    counts_after_where : CondIf q.having → Tallies table query (parts_count n drafts filters) (walked_count n) (after_where q role outers own is_group drafts filters)
    unfolding after_where
    counts_after_where known = tallies_then (keeps_keys (place_in outers own) q.group (parts_count n drafts filters)) (λ keys. counts_after_keys known keys)

  from_none : {A : Type 0} (n : ℕ) (count : A → ℕ) (step : Step A) → Tallies table query (n + 0) count step → Tallies table query n count step
  from_none n count step known = subst (λ before. Tallies table query before count step) (none-more n) known

  module _ (q : Text) (known : TextCounts q) (n : ℕ) (tables : Tables) (role : Role) (outers : List Scope) where
    counts_after_from : (sources : Sources) → Tallies table query (sources_count (n + query) sources) (walked_count n) (after_from q tables role outers sources)
    unfolding after_from
    counts_after_from sources =
        tallies_then (from_none (sources_count (n + query) sources) (filters_count (sources_count (n + query) sources)) _ (counts_where (around_of q tables role outers sources.own) (sources_count (n + query) sources) q.filter known.filter))
        (λ filters. counts_after_where q role outers sources.own (grouped q) n sources.drafts filters known.having)

    counts_parts : Tallies table query (n + query) (walked_count n) (parts_walk q tables role outers)
    unfolding parts_walk
    counts_parts =
        tallies_then (from_none (n + query) (sources_count (n + query)) _ (tallies_over ElementCounts (source tables outers) (λ before element one. counts_source tables outers (n + query) before element one) no_sources q.from known.from))
        (λ sources. counts_after_from sources)

  pub counts_text : (q : Text) → TextCounts q → QueryCounts (query_step q)
  unfolding query_step
  counts_text q known n tables role outers =
      tallies_then (tallies_count_query n) (λ u. counts_apart (n + query) (walked_count n) (parts_walk q tables role outers) (counts_parts q known n tables role outers))
