-- The walk of a query, taken into its parts.
use Rattle.std.proofs.Common.{◌≡◌, ℕ, ◌+◌, List, [], map, Option, Some, None, sym, ap, subst, ◌∙◌}
use Rattle.pdw_catalog.specs.Catalog.{Tables}
use Rattle.pdw_expr.specs.declared.cond.Cond.{Cond}
use Rattle.pdw_walk.proofs.Loops.{Turns, over-turns}
use Rattle.pdw_walk.proofs.Outcomes.{done_value, done_walk, in_turn, refused_not_done}
use Rattle.pdw_names.proofs.WalkLaws.{count_query-done}
use Rattle.pdw_walk.specs.Conds.{tested}
use Rattle.pdw_walk.specs.Conjuncts.{place_in, where_walk}
use Rattle.pdw_walk.specs.Froms.{Sources, finished, no_sources, source}
use Rattle.pdw_walk.specs.Items.{items_walk, refuse_repeated, repeated_name}
use Rattle.pdw_walk.specs.Lookup.{Scope}
use Rattle.pdw_walk.specs.Queries as queries
use Rattle.pdw_walk.specs.Queries.{Text, apart, after_from, around_of, finish, group_of, group_place, grouped, keys_if, keys_walk, parts_walk, query_step, restored, walked_query}
use Rattle.pdw_walk.specs.Walk.{Outcome, Walk, count_query, done, over, refused, with_aggs, with_queries, with_taken}
use Rattle.pdw_walk.specs.declared.entry.Conjuncts.{Conjuncts}
use Rattle.pdw_walk.specs.declared.entry.Met.{Met}
use Rattle.pdw_walk.specs.declared.entry.Outputs.{Outputs}
use Rattle.pdw_walk.specs.declared.entry.Role.{Role}
use Rattle.pdw_walk.specs.declared.entry.Walked.{Walked}

-- the walk in which a query begins
abbrev pub start : Walk → Walk
start w = with_taken [] (with_aggs [] (with_queries (w.queries + 1) w))

-- the walk in which it ends
abbrev pub end : Walk → Walk → Walk
end w last = with_taken w.taken (with_aggs w.aggs last)

module _ (q : Text) (tables : Tables) (part : Role) (outers : List Scope) (w : Walk) where
  -- the walks of the parts, in turn
  pub record Parted (walked : Walked) (w' : Walk) : Type 0 where
    pub sources : Sources
    pub from_walk : Walk
    pub from : Turns (source tables outers) no_sources q.from (start w) sources from_walk
    pub filters : Conjuncts
    pub where_end : Walk
    pub filter : where_walk (around_of q tables part outers sources.own) q.filter from_walk ≡ done filters where_end
    pub keys : List Met
    pub keys_end : Walk
    pub group : keys_walk (place_in outers sources.own) q.group where_end ≡ done keys keys_end
    pub conds : List Cond
    pub having_end : Walk
    pub having : tested (group_place outers sources.own (keys_if (grouped q) keys)) q.having keys_end ≡ done conds having_end
    pub outputs : Outputs
    pub last : Walk
    pub items : items_walk part (group_place outers sources.own (keys_if (grouped q) keys)) q.items having_end ≡ done outputs last
    pub is : walked_query q.distinct (map (finished last.numbers) sources.drafts) filters (group_of (grouped q) keys last.aggs conds) outputs ≡ walked
    pub ends : end w last ≡ w'

restored-done : {A : Type 0} (before : Walk) (o : Outcome A) (a : A) (w' : Walk) → restored before o ≡ done a w' → (v : Walk) × (o ≡ done a v) × (with_taken before.taken (with_aggs before.aggs v) ≡ w')
restored-done before (done b v) a w' e = (v, ap (λ c. done c v) (done_value e), done_walk e)
restored-done before (refused fault) a w' e = refused_not_done e

refuse_repeated-done : (name : Option (List ℕ)) (w : Walk) (u : Unit {0}) (w' : Walk) → refuse_repeated name w ≡ done u w' → w ≡ w'
refuse_repeated-done None w u w' e = done_walk e
refuse_repeated-done (Some name) w u w' e = refused_not_done e

module _ (q : Text) (tables : Tables) (part : Role) (outers : List Scope) (w : Walk) (walked : Walked) (v : Walk) (w' : Walk) (ends : with_taken w.taken (with_aggs w.aggs v) ≡ w')
    (sources : Sources) (from_walk : Walk) (from : Turns (source tables outers) no_sources q.from (start w) sources from_walk) where
  module _ (filters : Conjuncts) (where_end : Walk) (filter : where_walk (around_of q tables part outers sources.own) q.filter from_walk ≡ done filters where_end) where
    module _ (keys : List Met) (keys_end : Walk) (group : keys_walk (place_in outers sources.own) q.group where_end ≡ done keys keys_end) where
      module _ (conds : List Cond) (having_end : Walk) (having : tested (group_place outers sources.own (keys_if (grouped q) keys)) q.having keys_end ≡ done conds having_end) where
        module _ (outputs : Outputs) (last : Walk) (items : items_walk part (group_place outers sources.own (keys_if (grouped q) keys)) q.items having_end ≡ done outputs last) where
          from-finish : finish q.distinct (grouped q) sources.drafts filters keys conds outputs last ≡ done walked v → Parted q tables part outers w walked w'
          unfolding finish
          from-finish e = record {
            sources = sources;
            from_walk = from_walk;
            from = from;
            filters = filters;
            where_end = where_end;
            filter = filter;
            keys = keys;
            keys_end = keys_end;
            group = group;
            conds = conds;
            having_end = having_end;
            having = having;
            outputs = outputs;
            last = last;
            items = items;
            is = done_value e;
            ends = ap (λ v. with_taken w.taken (with_aggs w.aggs v)) (done_walk e) ∙ ends;
          }

          from-named : (u : Unit {0}) (middle : Walk) → last ≡ middle → finish q.distinct (grouped q) sources.drafts filters keys conds outputs middle ≡ done walked v → Parted q tables part outers w walked w'
          from-named u middle is e = from-finish (subst (λ m. finish q.distinct (grouped q) sources.drafts filters keys conds outputs m ≡ done walked v) (sym is) e)

          from-items : queries.after_items q part outers sources.own (grouped q) sources.drafts filters keys conds outputs last ≡ done walked v → Parted q tables part outers w walked w'
          unfolding queries.after_items
          from-items e =
              let names = in_turn (refuse_repeated (repeated_name part outputs.columns) last) (λ _. finish q.distinct (grouped q) sources.drafts filters keys conds outputs) walked v e in
              from-named names.value names.middle (refuse_repeated-done (repeated_name part outputs.columns) last names.value names.middle names.begun) names.ended

        from-having : queries.after_having q part outers sources.own (grouped q) sources.drafts filters keys conds having_end ≡ done walked v → Parted q tables part outers w walked w'
        unfolding queries.after_having
        from-having e =
            let turn = in_turn (items_walk part (group_place outers sources.own (keys_if (grouped q) keys)) q.items having_end) (queries.after_items q part outers sources.own (grouped q) sources.drafts filters keys conds) walked v e in
            from-items turn.value turn.middle turn.begun turn.ended

      from-keys : queries.after_keys q part outers sources.own (grouped q) sources.drafts filters keys keys_end ≡ done walked v → Parted q tables part outers w walked w'
      unfolding queries.after_keys
      from-keys e =
          let turn = in_turn (tested (group_place outers sources.own (keys_if (grouped q) keys)) q.having keys_end) (queries.after_having q part outers sources.own (grouped q) sources.drafts filters keys) walked v e in
          from-having turn.value turn.middle turn.begun turn.ended

    from-where : queries.after_where q part outers sources.own (grouped q) sources.drafts filters where_end ≡ done walked v → Parted q tables part outers w walked w'
    unfolding queries.after_where
    from-where e =
        let turn = in_turn (keys_walk (place_in outers sources.own) q.group where_end) (queries.after_keys q part outers sources.own (grouped q) sources.drafts filters) walked v e in
        from-keys turn.value turn.middle turn.begun turn.ended

  from-from : queries.after_from q tables part outers sources from_walk ≡ done walked v → Parted q tables part outers w walked w'
  unfolding queries.after_from
  from-from e =
      let turn = in_turn (where_walk (around_of q tables part outers sources.own) q.filter from_walk) (queries.after_where q part outers sources.own (grouped q) sources.drafts) walked v e in
      from-where turn.value turn.middle turn.begun turn.ended

from-parts : (q : Text) (tables : Tables) (part : Role) (outers : List Scope) (w : Walk) (walked : Walked) (v : Walk) (w' : Walk) → with_taken w.taken (with_aggs w.aggs v) ≡ w'
    → parts_walk q tables part outers (start w) ≡ done walked v → Parted q tables part outers w walked w'
unfolding queries.parts_walk
from-parts q tables part outers w walked v w' ends e =
    let turn = in_turn (over (source tables outers) no_sources q.from (start w)) (after_from q tables part outers) walked v e in
    from-from q tables part outers w walked v w' ends turn.value turn.middle (over-turns (source tables outers) no_sources q.from (start w) turn.value turn.middle turn.begun) turn.ended

from-apart : (q : Text) (tables : Tables) (part : Role) (outers : List Scope) (w : Walk) (walked : Walked) (w' : Walk) → apart (parts_walk q tables part outers) (with_queries (w.queries + 1) w) ≡ done walked w' → Parted q tables part outers w walked w'
from-apart q tables part outers w walked w' e =
    let all = restored-done (with_queries (w.queries + 1) w) (parts_walk q tables part outers (start w)) walked w' e in
    from-parts q tables part outers w walked all.0 w' all.2 all.1

pub parted : (q : Text) (tables : Tables) (part : Role) (outers : List Scope) (w : Walk) (walked : Walked) (w' : Walk) → query_step q tables part outers w ≡ done walked w' → Parted q tables part outers w walked w'
unfolding query_step
parted q tables part outers w walked w' e =
    let counted = in_turn (count_query w) (λ _. apart (parts_walk q tables part outers)) walked w' e in
    from-apart q tables part outers w walked w' (subst (λ v. apart (parts_walk q tables part outers) v ≡ done walked w') (sym (count_query-done w counted.value counted.middle counted.begun)) counted.ended)
