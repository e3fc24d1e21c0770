-- Search conditions (SQL-92, 8.2 to 8.12): operands from left to right, and then their types.
use Rattle.std.specs.Prelude.{Bool, true, false, List, [], ◌∷◌, map, Option, Some, None, if◌then◌else◌}
use Rattle.std.specs.List.{flat_map, list_any}
use Rattle.pdw_syntax.specs.declared.query.Primary.TheOpen.{SqlCond-F}
use Rattle.pdw_syntax.specs.declared.expr.SqlExpr.{SqlExpr}
use Rattle.pdw_base.specs.declared.truth.Truth.{Truth}
use Rattle.pdw_base.specs.declared.value.Kind.TheVariants as kind
use Rattle.pdw_catalog.specs.Catalog.{Tables}
use Rattle.pdw_expr.specs.declared.cond.Cmp.{Cmp}
use Rattle.pdw_expr.specs.declared.cond.Cmp.TheVariants.{Eq, Le, Ge}
use Rattle.pdw_expr.specs.declared.cond.Cond.{Cond}
use Rattle.pdw_expr.specs.declared.cond.Cond.TheVariants as cond
use Rattle.pdw_walk.specs.Exprs.{have_to_be, expr}
use Rattle.pdw_walk.specs.Lookup.{Place, Scope}
use Rattle.pdw_walk.specs.Walk.{Step, ◌>>=◌, ◌>>◌, ◌<$>◌, pure, refuse, each, over, gathering}
use Rattle.pdw_walk.specs.declared.entry.Role.{Role}
use Rattle.pdw_walk.specs.declared.entry.Typed.{Typed}
use Rattle.pdw_walk.specs.declared.entry.Walked.{Walked}
use Rattle.pdw_walk.specs.declared.fault.JudgeFault.TheVariants.{SubqueryPlace}

-- the walk of a query over the tables that there are, in its role, within the scopes that enclose it
abbrev pub QueryWalk : Type 0
QueryWalk = Tables → Role → List Scope → Step Walked

-- a subquery predicate: IN where it has a left side, else EXISTS
pub record Subquery : Type 0 where
  pub negated : Bool
  pub left : Option (Place → Step Typed)
  pub query : QueryWalk

-- what is left of a condition when parentheses and AND at the top are taken away, again and again
pub record Conjunct : Type 0 where
  -- whether a subquery stands in it
  pub nested : Bool
  -- its walk where no subquery may stand
  pub test : Place → Step Cond
  -- where it is a subquery predicate, or one NOT over one
  pub subquery : Option Subquery

-- what the walk has to know of a condition
pub record Condition : Type 0 where
  pub nested : Bool
  pub test : Place → Step Cond
  pub conjuncts : List Conjunct
  -- what NOT over it is, where it is a subquery predicate that is not negated, in parentheses or not
  pub negation : Option Subquery

-- a condition that is one conjunct
abbrev pub conjunct : Bool → (Place → Step Cond) → Option Subquery → Option Subquery → Condition
conjunct nested test subquery negation = record { nested = nested; test = test; conjuncts = record { nested = nested; test = test; subquery = subquery } ∷ []; negation = negation }

-- ---- predicates

abbrev pub negated_if : Bool → Cond → Cond
negated_if negated c = if negated then cond.Not c else c

unfoldable pub comparison : Cmp → Typed → Typed → Step Cond
comparison op a b = have_to_be a.kind (b ∷ []) >> pure (cond.Compare op a.scalar b.scalar)

unfoldable pub like : Bool → Typed → Typed → Step Cond
like negated a b = have_to_be kind.Text (a ∷ b ∷ []) >> pure (negated_if negated (cond.Like a.scalar b.scalar))

abbrev pub is_null : Bool → Typed → Cond
is_null negated a = negated_if negated (cond.IsNull a.scalar)

-- x >= low AND x <= high
unfoldable pub between : Bool → Typed → Typed → Typed → Step Cond
between negated a low high =
    have_to_be a.kind (low ∷ high ∷ [])
    >> pure (negated_if negated (cond.All (cond.Compare Ge a.scalar low.scalar ∷ cond.Compare Le a.scalar high.scalar ∷ [])))

-- x = a OR x = b, and so on
unfoldable pub in_list : Bool → Typed → List Typed → Step Cond
in_list negated a list = have_to_be a.kind list >> pure (negated_if negated (cond.Any (map (λ b. cond.Compare Eq a.scalar b.scalar) list)))

unfoldable pub compared : Cmp → SqlExpr → SqlExpr → Place → Step Cond
compared op x y place = do a ← expr x place; b ← expr y place; comparison op a b

unfoldable pub likened : Bool → SqlExpr → SqlExpr → Place → Step Cond
likened negated x y place = do a ← expr x place; b ← expr y place; like negated a b

unfoldable pub null_tested : Bool → SqlExpr → Place → Step Cond
null_tested negated x place = is_null negated <$> expr x place

unfoldable pub ranged : Bool → SqlExpr → SqlExpr → SqlExpr → Place → Step Cond
ranged negated x low high place = do a ← expr x place; b ← expr low place; c ← expr high place; between negated a b c

unfoldable pub listed : Bool → SqlExpr → List SqlExpr → Place → Step Cond
listed negated x list place = do a ← expr x place; bs ← each (λ y. expr y place) list; in_list negated a bs

-- ---- any condition

-- one NOT over a subquery predicate that is not negated
abbrev pub negation_of : Bool → Subquery → Option Subquery
negation_of negated subquery = if negated then None else Some (record { negated = true; left = subquery.left; query = subquery.query })

abbrev pub predicate : Subquery → Condition
predicate subquery = conjunct true (λ place. refuse SubqueryPlace) (Some subquery) (negation_of subquery.negated subquery)

abbrev pub plain : (Place → Step Cond) → Condition
plain test = conjunct false test None None

abbrev pub any_nested : List Condition → Bool
any_nested parts = list_any (λ part. part.nested) parts

abbrev pub tests : List Condition → Place → Step (List Cond)
tests parts place = each (λ part. part.test place) parts

abbrev pub truth_tested : Bool → (Place → Step Cond) → Truth → Place → Step Cond
truth_tested negated test truth place = (λ c. negated_if negated (cond.Test c truth)) <$> test place

-- the carriers are those of a source of FROM, a condition, a join, a query and a joined table
abbrev pub cond_step : {Source Join Table : Type 0} → SqlCond-F Source Condition Join QueryWalk Table → Condition
cond_step (SqlCond-F.Compare op x y) = plain (compared op x y)
cond_step (SqlCond-F.Like negated x y) = plain (likened negated x y)
cond_step (SqlCond-F.IsNull negated x) = plain (null_tested negated x)
cond_step (SqlCond-F.Between negated x low high) = plain (ranged negated x low high)
cond_step (SqlCond-F.InList negated x list) = plain (listed negated x list)
cond_step (SqlCond-F.InQuery negated x query) = predicate (record { negated = negated; left = Some (expr x); query = query })
cond_step (SqlCond-F.Exists query) = predicate (record { negated = false; left = None; query = query })
cond_step (SqlCond-F.Test negated part truth) = conjunct part.nested (truth_tested negated part.test truth) None None
cond_step (SqlCond-F.Not part) = conjunct part.nested (λ place. cond.Not <$> part.test place) part.negation None
cond_step (SqlCond-F.All parts) = record { nested = any_nested parts; test = λ place. cond.All <$> tests parts place; conjuncts = flat_map (λ part. part.conjuncts) parts; negation = None }
cond_step (SqlCond-F.Any parts) = conjunct (any_nested parts) (λ place. cond.Any <$> tests parts place) None None
cond_step (SqlCond-F.«SqlCond::Paren» part) = part

-- a condition that may be left out
abbrev pub conjuncts_of : Option Condition → List Conjunct
conjuncts_of None = []
conjuncts_of (Some condition) = condition.conjuncts

-- conjuncts where no subquery may stand, after those before them
abbrev pub tested_after : Place → List Cond → List Conjunct → Step (List Cond)
tested_after place before conjuncts = over (gathering (λ c. c.test place)) before conjuncts

-- the conjuncts of ON and of HAVING
unfoldable pub tested : Place → Option Condition → Step (List Cond)
tested place condition = tested_after place [] (conjuncts_of condition)
