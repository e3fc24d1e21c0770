-- What predicates and items count: nothing.
use Rattle.std.proofs.Common.{ℕ, Bool, true, false, List, ◌++◌, Option, Some, None, if◌then◌else◌}
use Rattle.std.specs.Bool.{⊤}
use Rattle.std.specs.Prelude.{codes}
use Rattle.std.specs.Str.{bytes_eq}
use Rattle.pdw_syntax.specs.declared.expr.SqlExpr.{SqlExpr}
use Rattle.pdw_syntax.specs.declared.query.Item.TheVariants as item
use Rattle.pdw_syntax.specs.declared.query.Item.{Item}
use Rattle.pdw_syntax.specs.declared.query.Items.TheVariants.{Star, List as Listed}
use Rattle.pdw_syntax.specs.declared.query.Items.{Items}
use Rattle.pdw_expr.specs.declared.cond.Cmp.{Cmp}
use Rattle.pdw_sound.proofs.KeptExprs.{keeps_expr, keeps_own}
use Rattle.pdw_sound.proofs.Tallies.{Keeps, TallyOf, keeps_each, keeps_if, keeps_made_number, keeps_map, keeps_over, keeps_pure, keeps_refuse, keeps_then, nothing_known}
use Rattle.pdw_walk.specs.Conds.{between, compared, comparison, in_list, like, likened, listed, null_tested, ranged}
use Rattle.pdw_walk.specs.Exprs.{expr}
use Rattle.pdw_walk.specs.Items.{alias_column, alias_star, all_columns, item_walk, items_walk, made_item, made_output, no_outputs, refuse_repeated, star_column}
use Rattle.pdw_walk.specs.Lookup.{Place, qualified}
use Rattle.pdw_walk.specs.Walk.{Step, Walk, is_among, over, pure, refused}
use Rattle.pdw_walk.specs.declared.entry.Entry.{Entry}
use Rattle.pdw_walk.specs.declared.entry.Numbered.{Numbered}
use Rattle.pdw_walk.specs.declared.entry.Outputs.{Outputs}
use Rattle.pdw_walk.specs.declared.entry.Role.TheVariants as role
use Rattle.pdw_walk.specs.declared.entry.Role.{Role}
use Rattle.pdw_walk.specs.declared.entry.Slot.{Slot}
use Rattle.pdw_walk.specs.declared.entry.Typed.{Typed}
use Rattle.pdw_walk.specs.declared.fault.JudgeFault.{JudgeFault}
use Rattle.pdw_walk.specs.declared.fault.JudgeFault.TheVariants.{UnknownColumn}

module _ {table query : ℕ} where
  -- ---- predicates

  keeps_comparison : (op : Cmp) (a b : Typed) → Keeps table query (comparison op a b)
  unfolding comparison
  keeps_comparison op a b = keeps_then (keeps_if _ _) (λ u. keeps_pure _)

  pub keeps_compared : (op : Cmp) (x y : SqlExpr) (place : Place) → Keeps table query (compared op x y place)
  unfolding compared
  keeps_compared op x y place = keeps_then (keeps_expr x place) (λ a. keeps_then (keeps_expr y place) (λ b. keeps_comparison op a b))

  keeps_like : (negated : Bool) (a b : Typed) → Keeps table query (like negated a b)
  unfolding like
  keeps_like negated a b = keeps_then (keeps_if _ _) (λ u. keeps_pure _)

  pub keeps_likened : (negated : Bool) (x y : SqlExpr) (place : Place) → Keeps table query (likened negated x y place)
  unfolding likened
  keeps_likened negated x y place = keeps_then (keeps_expr x place) (λ a. keeps_then (keeps_expr y place) (λ b. keeps_like negated a b))

  pub keeps_null : (negated : Bool) (x : SqlExpr) (place : Place) → Keeps table query (null_tested negated x place)
  unfolding null_tested
  keeps_null negated x place = keeps_map _ (keeps_expr x place)

  keeps_between : (negated : Bool) (a low high : Typed) → Keeps table query (between negated a low high)
  unfolding between
  keeps_between negated a low high = keeps_then (keeps_if _ _) (λ u. keeps_pure _)

  pub keeps_ranged : (negated : Bool) (x low high : SqlExpr) (place : Place) → Keeps table query (ranged negated x low high place)
  unfolding ranged
  keeps_ranged negated x low high place =
      keeps_then (keeps_expr x place) (λ a. keeps_then (keeps_expr low place) (λ b. keeps_then (keeps_expr high place) (λ c. keeps_between negated a b c)))

  keeps_in_list : (negated : Bool) (a : Typed) (list : List Typed) → Keeps table query (in_list negated a list)
  unfolding in_list
  keeps_in_list negated a list = keeps_then (keeps_if _ _) (λ u. keeps_pure _)

  pub keeps_listed : (negated : Bool) (x : SqlExpr) (list : List SqlExpr) (place : Place) → Keeps table query (listed negated x list place)
  unfolding listed
  keeps_listed negated x list place =
      keeps_then (keeps_expr x place) (λ a. keeps_then (keeps_each (λ y. ⊤) (λ y. expr y place) (λ y known. keeps_expr y place) list (nothing_known list)) (λ bs. keeps_in_list negated a bs))

  -- ---- items

  keeps_star : (keys : Option (List Slot)) (alias : Option (List ℕ)) (before : Outputs) (entry : Entry) → Keeps table query (star_column keys alias before entry)
  unfolding star_column
  keeps_star keys alias before entry = keeps_then (keeps_if _ _) (λ u. keeps_then (keeps_own keys (qualified alias entry.column) entry) (λ met. keeps_pure _))

  keeps_made_output : (before : Outputs) (name : List ℕ) (x : Typed) (bare : Option Numbered) → Keeps table query (made_output before name x bare)
  keeps_made_output before name x (Some column) = keeps_pure _
  keeps_made_output before name x None = keeps_map _ keeps_made_number

  keeps_made_item : (place : Place) (before : Outputs) (value : SqlExpr) (name : List ℕ) → Keeps table query (made_item place before value name)
  unfolding made_item
  keeps_made_item place before value name = keeps_then (keeps_if _ _) (λ u. keeps_then (keeps_expr value place) (λ x. keeps_made_output before name x x.bare))

  either_step : {A : Type 0} (test : Bool) (x y : Step A) → Keeps table query x → Keeps table query y → Keeps table query (if test then x else y)
  either_step true x y first second = first
  either_step false x y first second = second

  keeps_alias_column : (keys : Option (List Slot)) (alias : List ℕ) (before : Outputs) (entry : Entry) → Keeps table query (alias_column keys alias before entry)
  keeps_alias_column keys alias before entry = either_step (bytes_eq alias entry.alias) (star_column keys (Some alias) before entry) (pure before) (keeps_star keys (Some alias) before entry) (keeps_pure before)

  -- a step that looks whether an alias is taken counts what the step that it goes on with counts
  by_alias : {A : Type 0} (test : Bool) (step : Step A) (fault : JudgeFault) (n : ℕ) (w : Walk) → Keeps table query step → TallyOf table query n (λ (a : A). n) w (if test then step w else refused fault)
  by_alias true step fault n w known = (known n).at w
  by_alias false step fault n w known = tt

  keeps_alias_star : (place : Place) (alias : List ℕ) (before : Outputs) → Keeps table query (alias_star place alias before)
  unfolding alias_star
  keeps_alias_star place alias before n = record {
    at = λ w. by_alias (is_among alias w.taken) (over (alias_column place.keys alias) before place.own) (UnknownColumn (alias ++ codes ".*")) n w
        (keeps_over (λ entry. ⊤) (alias_column place.keys alias) (λ before entry known. keeps_alias_column place.keys alias before entry) before place.own (nothing_known place.own));
  }

  keeps_item : (place : Place) (before : Outputs) (x : Item) → Keeps table query (item_walk place before x)
  keeps_item place before (item.AliasStar alias) = keeps_alias_star place alias before
  keeps_item place before (item.Made x name) = keeps_made_item place before x _

  keeps_stars : (place : Place) → Keeps table query (over (star_column place.keys None) no_outputs place.own)
  keeps_stars place = keeps_over (λ entry. ⊤) (star_column place.keys None) (λ before entry known. keeps_star place.keys None before entry) no_outputs place.own (nothing_known place.own)

  keeps_all_columns : (role : Role) (place : Place) → Keeps table query (all_columns role place)
  keeps_all_columns role.Exists place = keeps_pure no_outputs
  keeps_all_columns _ place = keeps_stars place

  pub keeps_items : (role : Role) (place : Place) (items : Items) → Keeps table query (items_walk role place items)
  keeps_items role place Star = keeps_all_columns role place
  keeps_items role place (Listed items) = keeps_over (λ x. ⊤) (item_walk place) (λ before x known. keeps_item place before x) no_outputs items (nothing_known items)

  pub keeps_repeated : (name : Option (List ℕ)) → Keeps table query (refuse_repeated name)
  keeps_repeated None = keeps_pure tt
  keeps_repeated (Some name) = keeps_refuse _
