-- What the numbered forms of the walk count: drafts of FROM, subqueries and queries.
use Rattle.std.proofs.Common.{◌≡◌, ℕ, ◌+◌, Bool, List, [], ◌∷◌, map, Option, refl, sym, ap, ap₂, subst, ◌∙◌}
use Rattle.std.specs.List.{sum}
use Rattle.pdw_expr.specs.declared.cond.Cond.{Cond}
use Rattle.pdw_expr.specs.declared.scalar.Scalar.{Scalar}
use Rattle.pdw_base.specs.declared.schema.ColId.{ColId}
use Rattle.pdw_form.specs.Counts.{from_count, from_step, query_count, query_step, sub_count, sub_step}
use Rattle.pdw_form.specs.declared.judged.JFrom.TheFolds.{fold-roll-JFrom, fold-roll-JSub, fold-roll-JudgedQuery}
use Rattle.pdw_form.specs.declared.judged.JFrom.TheOpen.{JFrom-F}
use Rattle.pdw_form.specs.declared.judged.JFrom.TheVariants as from
use Rattle.pdw_form.specs.declared.judged.JFrom.{JFrom}
use Rattle.pdw_form.specs.declared.judged.JGroup.{JGroup}
use Rattle.pdw_form.specs.declared.judged.JSub.{JSub}
use Rattle.pdw_form.specs.declared.judged.JudgedQuery.{JudgedQuery}
use Rattle.pdw_syntax.specs.declared.query.JoinWord.{JoinWord}
use Rattle.pdw_walk.specs.Conjuncts.{judged_subquery}
use Rattle.pdw_walk.specs.Froms.{finished, finished_step}
use Rattle.pdw_walk.specs.Queries.{walked_query}
use Rattle.pdw_walk.specs.declared.entry.Conjuncts.{Conjuncts}
use Rattle.pdw_walk.specs.declared.entry.Draft.TheFolds.{fold-Draft, fold-roll-Draft, ind-Draft, map-Draft}
use Rattle.pdw_walk.specs.declared.entry.Draft.TheOpen.{Draft-F}
use Rattle.pdw_walk.specs.declared.entry.Draft.TheVariants as draft
use Rattle.pdw_walk.specs.declared.entry.Draft.TheViews.{roll-Draft}
use Rattle.pdw_walk.specs.declared.entry.Draft.{Draft}
use Rattle.pdw_walk.specs.declared.entry.Outputs.{Outputs}
use Rattle.pdw_walk.specs.declared.entry.Slot.{Slot}

module _ (table query : ℕ) where
  abbrev pub draft_step : Draft-F ℕ → ℕ
  draft_step (Draft-F.Table name alias reference) = table
  draft_step (Draft-F.Derived inner) = query_count table query inner
  draft_step (Draft-F.Join word left right on) = left + right

  -- what an element of FROM counts before its used columns are known
  abbrev pub draft_count : Draft → ℕ
  draft_count = fold-Draft ℕ draft_step

  pub draft_count-table : (name alias : List ℕ) (reference : ℕ) → draft_count (draft.Table name alias reference) ≡ table
  draft_count-table name alias reference = ap draft_count (sym (draft.rolls-Table name alias reference)) ∙ fold-roll-Draft ℕ draft_step (Draft-F.Table name alias reference)

  pub draft_count-derived : (inner : JudgedQuery) → draft_count (draft.Derived inner) ≡ query_count table query inner
  draft_count-derived inner = ap draft_count (sym (draft.rolls-Derived inner)) ∙ fold-roll-Draft ℕ draft_step (Draft-F.Derived inner)

  pub draft_count-join : (word : JoinWord) (left right : Draft) (on : List Cond) → draft_count (draft.Join word left right on) ≡ draft_count left + draft_count right
  draft_count-join word left right on = ap draft_count (sym (draft.rolls-Join word left right on)) ∙ fold-roll-Draft ℕ draft_step (Draft-F.Join word left right on)

  -- ---- elements of FROM

  from_count-table : (name alias : List ℕ) (cols : List (ColId × ℕ)) → from_count table query (from.Table name alias cols) ≡ table
  from_count-table name alias cols = ap (from_count table query) (sym (from.rolls-Table name alias cols)) ∙ fold-roll-JFrom ℕ ℕ ℕ (from_step table) sub_step (query_step query) (JFrom-F.Table name alias cols)

  from_count-derived : (inner : JudgedQuery) → from_count table query (from.Derived inner) ≡ query_count table query inner
  from_count-derived inner = ap (from_count table query) (sym (from.rolls-Derived inner)) ∙ fold-roll-JFrom ℕ ℕ ℕ (from_step table) sub_step (query_step query) (JFrom-F.Derived inner)

  from_count-join : (word : JoinWord) (left right : JFrom) (on : List Cond) → from_count table query (from.Join word left right on) ≡ from_count table query left + from_count table query right
  from_count-join word left right on = ap (from_count table query) (sym (from.rolls-Join word left right on)) ∙ fold-roll-JFrom ℕ ℕ ℕ (from_step table) sub_step (query_step query) (JFrom-F.Join word left right on)

  module _ (numbers : List Slot) where
    abbrev Known : Type 0
    Known = (d : Draft) × (from_count table query (finished numbers d) ≡ draft_count d)

    abbrev known : Draft-F Known → Draft-F Draft
    known = map-Draft Known Draft (λ d. d.0)

    layer : (y : Draft-F Known) → from_count table query (finished_step numbers (map-Draft Draft JFrom (finished numbers) (known y))) ≡ draft_step (map-Draft Draft ℕ draft_count (known y))
    layer (Draft-F.Table name alias reference) = from_count-table name alias _
    layer (Draft-F.Derived inner) = from_count-derived inner
    layer (Draft-F.Join word left right on) = from_count-join word (finished numbers left.0) (finished numbers right.0) on ∙ ap₂ (λ a b. a + b) left.1 right.1

    law : (y : Draft-F Known) → from_count table query (finished numbers (roll-Draft (known y))) ≡ draft_count (roll-Draft (known y))
    law y = ap (from_count table query) (fold-roll-Draft JFrom (finished_step numbers) (known y)) ∙ layer y ∙ sym (fold-roll-Draft ℕ draft_step (known y))

    -- an element counts the same when its used columns are known
    pub finished-count : (d : Draft) → from_count table query (finished numbers d) ≡ draft_count d
    finished-count = ind-Draft (λ d. from_count table query (finished numbers d) ≡ draft_count d)
        (λ x y is. subst (λ z. from_count table query (finished numbers (roll-Draft z)) ≡ draft_count (roll-Draft z)) is (law y))

    pub finished-counts : (drafts : List Draft) → map (from_count table query) (map (finished numbers) drafts) ≡ map draft_count drafts
    finished-counts [] = refl
    finished-counts (d ∷ drafts) = ap₂ (λ n ns. n ∷ ns) (finished-count d) (finished-counts drafts)

  -- ---- subqueries and queries

  pub sub_count-judged : (negated : Bool) (left : Option Scalar) (inner : JudgedQuery) → sub_count table query (judged_subquery negated left inner) ≡ query_count table query inner
  sub_count-judged negated left inner = fold-roll-JSub ℕ ℕ ℕ (from_step table) sub_step (query_step query) (record { negated = negated; left = left; query = inner })

  abbrev pub drafts_count : List Draft → ℕ
  drafts_count drafts = sum (map draft_count drafts)

  abbrev pub subs_count : List JSub → ℕ
  subs_count subs = sum (map (sub_count table query) subs)

  pub query_count-walked : (numbers : List Slot) (distinct : Bool) (drafts : List Draft) (filters : Conjuncts) (group : Option JGroup) (outputs : Outputs)
      → query_count table query (walked_query distinct (map (finished numbers) drafts) filters group outputs).query ≡ query + (drafts_count drafts + subs_count filters.subs)
  query_count-walked numbers distinct drafts filters group outputs =
      fold-roll-JudgedQuery ℕ ℕ ℕ (from_step table) sub_step (query_step query)
      (record { from = map (finished numbers) drafts; plain = filters.plain; outer = filters.outer; subs = filters.subs; group = group; items = outputs.items; distinct = distinct })
      ∙ ap (λ ns. query + (sum ns + subs_count filters.subs)) (finished-counts numbers drafts)
