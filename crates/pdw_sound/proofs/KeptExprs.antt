-- What column references and value expressions count: nothing.
use Rattle.std.proofs.Common.{ℕ, Bool, true, false, List, [], ◌∷◌, map, Option, Some, None, sym, subst}
use Rattle.std.specs.Bool.{⊤}
use Rattle.std.specs.List.{AllByRecursion}
use Rattle.pdw_syntax.specs.declared.expr.ColRef.{ColRef}
use Rattle.pdw_syntax.specs.declared.expr.SqlExpr.{SqlExpr}
use Rattle.pdw_syntax.specs.declared.expr.SqlExpr.TheFolds.{fold-roll-SqlExpr, ind-SqlExpr, map-SqlExpr}
use Rattle.pdw_syntax.specs.declared.expr.SqlExpr.TheOpen.{SqlExpr-F}
use Rattle.pdw_syntax.specs.declared.expr.SqlExpr.TheViews.{roll-SqlExpr}
use Rattle.pdw_base.specs.declared.value.Kind.{Kind}
use Rattle.pdw_expr.specs.declared.agg.AggKind.{AggKind}
use Rattle.pdw_expr.specs.declared.agg.AggKind.TheVariants.{Sum}
use Rattle.pdw_expr.specs.declared.scalar.Arith.{Arith}
use Rattle.pdw_expr.specs.declared.scalar.Scalar.{Scalar}
use Rattle.pdw_sound.proofs.Tallies.{Keeps, keeps_aggregate, keeps_each, keeps_if, keeps_made_number, keeps_map, keeps_meet, keeps_number, keeps_pure, keeps_refuse, keeps_then}
use Rattle.pdw_walk.specs.Exprs.{aggregate_of, aggregated, argument_fits, chain, chained, expr, expr_step, made_aggregate, operand, signed}
use Rattle.pdw_walk.specs.Lookup.{Found, Place, Scope, column, has_to_be_key, matches, near_column, near_match, nothing, one, own_column, own_match, reached, several, use_column}
use Rattle.pdw_walk.specs.Walk.{Step}
use Rattle.pdw_walk.specs.declared.entry.Entry.{Entry}
use Rattle.pdw_walk.specs.declared.entry.Slot.{Slot}
use Rattle.pdw_walk.specs.declared.entry.Typed.{Typed}

module _ (table query : ℕ) where
  -- an expression counts nothing, wherever it stands
  abbrev pub ExprKeeps : (Place → Step Typed) → Type 0
  ExprKeeps walk = (place : Place) → Keeps table query (walk place)

  abbrev ArgumentKeeps : Option (Place → Step Typed) → Type 0
  ArgumentKeeps None = ⊤
  ArgumentKeeps (Some x) = ExprKeeps x

module _ {table query : ℕ} where
  -- ---- column references

  keeps_use : (entry : Entry) → Keeps table query (use_column entry)
  unfolding use_column
  keeps_use entry = keeps_map _ (keeps_number entry.slot)

  keeps_reached : (reaches : Bool) (ref : ColRef) (entry : Entry) → Keeps table query (reached reaches ref entry)
  keeps_reached true ref entry = keeps_then keeps_meet (λ u. keeps_use entry)
  keeps_reached false ref entry = keeps_refuse _

  keeps_near : (reaches : Bool) (ref : ColRef) (scopes : List Scope) (found : Found) → Keeps table query (near_match reaches ref scopes found)
  keeps_near reaches ref scopes nothing = keeps_refuse _
  keeps_near reaches ref scopes (one entry) = keeps_reached reaches ref entry
  keeps_near reaches ref scopes several = keeps_refuse _

  keeps_near_column : (reaches : Bool) (ref : ColRef) (scopes : List Scope) → Keeps table query (near_column reaches ref scopes)
  keeps_near_column reaches ref [] = keeps_refuse _
  keeps_near_column reaches ref (scope ∷ scopes) = keeps_near reaches ref scopes (matches ref scope)

  keeps_key : (keys : Option (List Slot)) (name : List ℕ) (entry : Entry) → Keeps table query (has_to_be_key keys name entry)
  keeps_key None name entry = keeps_pure tt
  keeps_key (Some keys) name entry = keeps_if _ _

  pub keeps_own : (keys : Option (List Slot)) (name : List ℕ) (entry : Entry) → Keeps table query (own_column keys name entry)
  keeps_own keys name entry = keeps_then (keeps_key keys name entry) (λ u. keeps_use entry)

  keeps_own_match : (place : Place) (ref : ColRef) (found : Found) → Keeps table query (own_match place ref found)
  keeps_own_match place ref nothing = keeps_near_column place.reaches ref place.outers
  keeps_own_match place ref (one entry) = keeps_own place.keys _ entry
  keeps_own_match place ref several = keeps_refuse _

  pub keeps_column : (place : Place) (ref : ColRef) → Keeps table query (column place ref)
  unfolding column
  keeps_column place ref = keeps_own_match place ref (matches ref place.own)

  -- ---- value expressions

  keeps_signed : (minus : Bool) (x : Typed) → Keeps table query (signed minus x)
  unfolding signed
  keeps_signed minus x = keeps_then (keeps_if _ _) (λ u. keeps_pure _)

  keeps_chained : (first : Typed) (rest : List (Arith × Typed)) → Keeps table query (chained first rest)
  unfolding chained
  keeps_chained first rest = keeps_then (keeps_if _ _) (λ u. keeps_pure _)

  keeps_chain : (first : Place → Step Typed) (rest : List (Arith × (Place → Step Typed))) → ExprKeeps table query first → AllByRecursion (λ link. ExprKeeps table query link.1) rest → ExprKeeps table query (chain first rest)
  keeps_chain first rest begins links place =
      keeps_then (begins place) (λ start. keeps_then (keeps_each (λ link. ExprKeeps table query link.1) (operand place) (λ link known. keeps_map _ (known place)) rest links) (λ found. keeps_chained start found))

  keeps_made : (aggregate : AggKind) (argument : Kind) (x : Option Scalar) → Keeps table query (made_aggregate aggregate argument x)
  unfolding made_aggregate
  keeps_made aggregate argument x = keeps_then keeps_made_number (λ number. keeps_then (keeps_aggregate _) (λ u. keeps_pure _))

  keeps_fits : (aggregate : AggKind) (x : Typed) → Keeps table query (argument_fits aggregate x)
  keeps_fits Sum x = keeps_if _ _
  keeps_fits _ x = keeps_pure tt

  keeps_aggregate_of : (aggregate : AggKind) (x : Typed) → Keeps table query (aggregate_of aggregate x)
  unfolding aggregate_of
  keeps_aggregate_of aggregate x = keeps_then (keeps_fits aggregate x) (λ u. keeps_made aggregate x.kind (Some x.scalar))

  keeps_aggregated : (aggregate : AggKind) (x : Option (Place → Step Typed)) → ArgumentKeeps table query x → ExprKeeps table query (aggregated aggregate x)
  keeps_aggregated aggregate None known place = keeps_then (keeps_if _ _) (λ u. keeps_made aggregate _ None)
  keeps_aggregated aggregate (Some x) known place = keeps_then (keeps_if _ _) (λ u. keeps_then (known _) (λ found. keeps_aggregate_of aggregate found))

module _ (table query : ℕ) where
  abbrev KnownExpr : Type 0
  KnownExpr = (x : SqlExpr) × ExprKeeps table query (expr x)

  abbrev known : SqlExpr-F KnownExpr → SqlExpr-F SqlExpr
  known = map-SqlExpr KnownExpr SqlExpr (λ x. x.0)

  links_known : (h : Arith × KnownExpr → Arith × SqlExpr) (g : Arith × SqlExpr → Arith × (Place → Step Typed)) → ((link : Arith × KnownExpr) → ExprKeeps table query (g (h link)).1)
      → (links : List (Arith × KnownExpr)) → AllByRecursion (λ link. ExprKeeps table query link.1) (map g (map h links))
  links_known h g here [] = tt
  links_known h g here (link ∷ links) = (here link, links_known h g here links)

  layer : (y : SqlExpr-F KnownExpr) → ExprKeeps table query (expr_step (map-SqlExpr SqlExpr (Place → Step Typed) expr (known y)))
  layer (SqlExpr-F.Col ref) place = keeps_map _ (keeps_column place ref)
  layer (SqlExpr-F.Number n) place = keeps_pure _
  layer (SqlExpr-F.Text t) place = keeps_pure _
  layer (SqlExpr-F.Signed minus x) place = keeps_then (x.1 place) (λ found. keeps_signed minus found)
  layer (SqlExpr-F.Chain first rest) place = keeps_chain (expr first.0) _ first.1 (links_known _ _ (λ link. link.1.1) rest) place
  layer (SqlExpr-F.Agg aggregate None) place = keeps_aggregated aggregate None tt place
  layer (SqlExpr-F.Agg aggregate (Some x)) place = keeps_aggregated aggregate (Some (expr x.0)) x.1 place
  layer (SqlExpr-F.Paren x) place = x.1 place

  each_expr : (x : SqlExpr) → ExprKeeps table query (expr x)
  each_expr = ind-SqlExpr (λ x. ExprKeeps table query (expr x)) (λ x y is. subst (λ z. ExprKeeps table query (expr (roll-SqlExpr z))) is
      (subst (ExprKeeps table query) (sym (fold-roll-SqlExpr (Place → Step Typed) expr_step (known y))) (layer y)))

pub keeps_expr : {table query : ℕ} (x : SqlExpr) → ExprKeeps table query (expr x)
keeps_expr x = each_expr _ _ x
