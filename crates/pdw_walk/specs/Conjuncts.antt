-- WHERE (SQL-92, 7.6): its conjuncts from left to right, in their three kinds.
use Rattle.std.specs.Prelude.{◌&&◌, Bool, true, false, not, List, [], ◌∷◌, ◌++◌, Option, Some, None}
use Rattle.pdw_base.specs.declared.value.Kind.{Kind}
use Rattle.pdw_catalog.specs.Catalog.{Tables}
use Rattle.pdw_expr.specs.declared.cond.Cond.{Cond}
use Rattle.pdw_expr.specs.declared.scalar.Scalar.{Scalar}
use Rattle.pdw_walk.specs.Conds.{Condition, Conjunct, QueryWalk, Subquery, conjuncts_of}
use Rattle.pdw_walk.specs.Exprs.{same_kind}
use Rattle.pdw_walk.specs.Lookup.{Place, Scope}
use Rattle.pdw_walk.specs.Walk.{Step, ◌>>=◌, ◌>>◌, ◌<$>◌, pure, refuse_if, over, forget_outer, met_outer}
use Rattle.pdw_walk.specs.declared.entry.Column.{Column}
use Rattle.pdw_walk.specs.declared.entry.Conjuncts.{Conjuncts}
use Rattle.pdw_walk.specs.declared.entry.Role.TheVariants as role
use Rattle.pdw_walk.specs.declared.entry.Role.{Role}
use Rattle.pdw_walk.specs.declared.entry.Typed.{Typed}
use Rattle.pdw_walk.specs.declared.entry.Walked.{Walked}
use Rattle.pdw_walk.specs.declared.fault.JudgeFault.TheVariants.{TypeMismatch}
use Rattle.pdw_form.specs.declared.judged.JSub.{JSub, roll-JSub}
use Rattle.pdw_form.specs.declared.judged.JudgedQuery.{JudgedQuery}

-- the own scope of a query, what encloses it, and whether the grouping columns alone count
abbrev pub place_in : List Scope → Scope → Place
place_in outers own = record { own = own; outers = outers; reaches = false; keys = None }

-- what a conjunct of WHERE stands in
pub record Around : Type 0 where
  pub tables : Tables
  -- the columns of the query's own FROM, and those of the enclosing queries
  pub own : Scope
  pub outers : List Scope
  -- whether the query is correlated
  pub correlated : Bool

-- the scopes that enclose a subquery
abbrev pub enclosing : Around → List Scope
enclosing around = around.own ∷ around.outers

-- a subquery of IN has one output column, of the kind of the left side
abbrev pub is_one_column : Kind → List Column → Bool
is_one_column kind (output ∷ []) = same_kind kind output.kind
is_one_column kind _ = false

abbrev pub judged_subquery : Bool → Option Scalar → JudgedQuery → JSub
judged_subquery negated left query = roll-JSub (record { negated = negated; left = left; query = query })

unfoldable pub in_subquery : Bool → Typed → Walked → Step JSub
in_subquery negated left walked =
    refuse_if (not (is_one_column left.kind walked.outputs)) TypeMismatch
    >> pure (judged_subquery negated (Some left.scalar) walked.query)

unfoldable pub in_walk : Around → (Place → Step Typed) → Bool → QueryWalk → Step JSub
in_walk around x negated query = do
  left ← x (place_in around.outers around.own)
  walked ← query around.tables role.In (enclosing around)
  in_subquery negated left walked

unfoldable pub exists_walk : Around → Bool → QueryWalk → Step JSub
exists_walk around negated query =
    (λ walked. judged_subquery negated None walked.query) <$> query around.tables role.Exists (enclosing around)

abbrev pub subquery_walk : Around → Option (Place → Step Typed) → Bool → QueryWalk → Step JSub
subquery_walk around None negated query = exists_walk around negated query
subquery_walk around (Some x) negated query = in_walk around x negated query

abbrev pub no_conjuncts : Conjuncts
no_conjuncts = record { plain = []; outer = []; subs = [] }

abbrev pub with_subquery : Conjuncts → JSub → Conjuncts
with_subquery before sub = record { plain = before.plain; outer = before.outer; subs = before.subs ++ sub ∷ [] }

-- a conjunct with a column of the enclosing query, or without one
abbrev pub with_condition : Conjuncts → Cond → Bool → Conjuncts
with_condition before c true = record { plain = before.plain; outer = before.outer ++ c ∷ []; subs = before.subs }
with_condition before c false = record { plain = before.plain ++ c ∷ []; outer = before.outer; subs = before.subs }

-- where a conjunct of WHERE stands: it reaches the enclosing query where the query is correlated and the conjunct
-- has no subquery
abbrev pub where_place : Around → Bool → Place
where_place around nested = record { own = around.own; outers = around.outers; reaches = around.correlated && not nested; keys = None }

unfoldable pub condition_walk : Place → (Place → Step Cond) → Conjuncts → Step Conjuncts
condition_walk place test before = do
  forget_outer
  c ← test place
  outer ← met_outer
  pure (with_condition before c outer)

abbrev pub subquery_conjunct : Around → Conjuncts → Option (Place → Step Typed) → Bool → QueryWalk → Step Conjuncts
subquery_conjunct around before left negated query = with_subquery before <$> subquery_walk around left negated query

abbrev pub conjunct_by : Around → Conjuncts → Bool → (Place → Step Cond) → Option Subquery → Step Conjuncts
conjunct_by around before nested test None = condition_walk (where_place around nested) test before
conjunct_by around before nested test (Some sub) = subquery_conjunct around before sub.left sub.negated sub.query

abbrev pub conjunct_walk : Around → Conjuncts → Conjunct → Step Conjuncts
conjunct_walk around before c = conjunct_by around before c.nested c.test c.subquery

-- conjuncts of WHERE after those before them
abbrev pub conjuncts_walk : Around → Conjuncts → List Conjunct → Step Conjuncts
conjuncts_walk around before conjuncts = over (conjunct_walk around) before conjuncts

abbrev pub where_walk : Around → Option Condition → Step Conjuncts
where_walk around condition = conjuncts_walk around no_conjuncts (conjuncts_of condition)

-- a query that is the subquery of a predicate and not grouped may have columns of the enclosing query in its WHERE
abbrev pub is_correlated : Role → Bool → Bool
is_correlated role.In grouped = not grouped
is_correlated role.Exists grouped = not grouped
is_correlated _ grouped = false
