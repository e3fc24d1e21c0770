-- The judgement has no want of memory as a fault: whatever it refuses, it names. Its steps, column references and value expressions.
use Rattle.std.proofs.Common.{ℕ, ◌+◌, ◌==◌, Bool, true, false, List, [], ◌∷◌, ◌++◌, length, map, position, Option, Some, None, if◌then◌else◌, sym, subst}
use Rattle.std.specs.Bool.{⊤}
use Rattle.std.specs.List.{AllByRecursion}
use Rattle.pdw_syntax.specs.declared.expr.ColRef.{ColRef}
use Rattle.pdw_syntax.specs.declared.expr.SqlExpr.{SqlExpr}
use Rattle.pdw_syntax.specs.declared.expr.SqlExpr.TheFolds.{fold-roll-SqlExpr, ind-SqlExpr, map-SqlExpr}
use Rattle.pdw_syntax.specs.declared.expr.SqlExpr.TheOpen.{SqlExpr-F}
use Rattle.pdw_syntax.specs.declared.expr.SqlExpr.TheViews.{roll-SqlExpr}
use Rattle.pdw_base.specs.declared.value.Kind.{Kind}
use Rattle.pdw_expr.specs.declared.agg.Agg.{Agg}
use Rattle.pdw_expr.specs.declared.agg.AggKind.{AggKind}
use Rattle.pdw_expr.specs.declared.agg.AggKind.TheVariants.{Sum}
use Rattle.pdw_expr.specs.declared.scalar.Arith.{Arith}
use Rattle.pdw_expr.specs.declared.scalar.Scalar.{Scalar}
use Rattle.pdw_walk.specs.Exprs.{aggregate_of, aggregated, argument_fits, chain, chained, expr, expr_step, made_aggregate, operand, signed}
use Rattle.pdw_walk.specs.Lookup.{Found, Place, Scope, column, far_fault, far_match, has_to_be_key, matches, near_column, near_match, nothing, one, own_column, own_match, reached, several, use_column}
use Rattle.pdw_walk.specs.Slot.{same_slot}
use Rattle.pdw_walk.specs.Walk.{Outcome, Step, Walk, ◌>>=◌, ◌<$>◌, add_aggregate, and_then, count_query, count_reference, done, each, forget_outer, gathering, col_id, is_among, made_number, meet_outer, met_outer, next_number, number_at, number_of, over, pure, refuse, refuse_if, refused, take_alias, with_numbers, with_queries, with_references, with_taken}
use Rattle.pdw_walk.specs.declared.entry.Entry.{Entry}
use Rattle.pdw_walk.specs.declared.entry.Slot.{Slot}
use Rattle.pdw_walk.specs.declared.entry.Slot.TheVariants.{Made}
use Rattle.pdw_walk.specs.declared.entry.Typed.{Typed}
use Rattle.pdw_walk.specs.declared.fault.JudgeFault.{JudgeFault}
use Rattle.pdw_walk.specs.declared.fault.JudgeFault.TheVariants.{DuplicateName, Limit, Memory}
use Rattle.pdw_walk.specs.declared.fault.LimitName.TheVariants as limit
use Rattle.pdw_walk.specs.declared.fault.TheConstants.{MOST_QUERIES, MOST_REFERENCES, MOST_USED}

-- any fault but want of memory
abbrev pub IsNamedFault : JudgeFault → Type 0
IsNamedFault Memory = ⊥
IsNamedFault _ = ⊤

abbrev pub IsNamed : {A : Type 0} → Outcome A → Type 0
IsNamed (done a w) = ⊤
IsNamed (refused fault) = IsNamedFault fault

-- wherever the step begins, it goes on or names its fault
pub record Names {A : Type 0} (step : Step A) : Type 0 where
  pub at : (w : Walk) → IsNamed (step w)

-- ---- steps that are made of steps

or_go_on : {A : Type 0} (test : Bool) (fault : JudgeFault) (a : A) (w : Walk) → IsNamedFault fault → IsNamed (if test then refused fault else done a w)
or_go_on true fault a w named = named
or_go_on false fault a w named = tt

then_by : {A B : Type 0} (first : Outcome A) (next : A → Step B) → IsNamed first → ((a : A) → Names (next a)) → IsNamed (and_then first next)
then_by (done a w) next here after = (after a).at w
then_by (refused fault) next here after = here

pub names_then : {A B : Type 0} {first : Step A} {next : A → Step B} → Names first → ((a : A) → Names (next a)) → Names (first >>= next)
names_then {first = first} {next = next} here after = record { at = λ w. then_by (first w) next (here.at w) after }

pub names_pure : {A : Type 0} (a : A) → Names (pure a)
names_pure a = record { at = λ w. tt }

pub names_refuse : {A : Type 0} (fault : JudgeFault) → IsNamedFault fault → Names {A = A} (refuse fault)
names_refuse fault named = record { at = λ w. named }

pub names_if : (test : Bool) (fault : JudgeFault) → IsNamedFault fault → Names (refuse_if test fault)
names_if true fault named = names_refuse fault named
names_if false fault named = names_pure tt

pub names_map : {A B : Type 0} (f : A → B) {step : Step A} → Names step → Names (f <$> step)
names_map f here = names_then here (λ a. names_pure (f a))

-- one step for each item, of which this is known
pub names_over : {A B : Type 0} (P : A → Type 0) (step : B → A → Step B) → ((b : B) (x : A) → P x → Names (step b x)) → (b : B) (xs : List A) → AllByRecursion P xs → Names (over step b xs)
names_over P step here b [] all = names_pure b
names_over P step here b (x ∷ xs) all = names_then (here b x all.0) (λ more. names_over P step here more xs all.1)

pub names_each : {A B : Type 0} (P : A → Type 0) (step : A → Step B) → ((x : A) → P x → Names (step x)) → (xs : List A) → AllByRecursion P xs → Names (each step xs)
names_each P step here xs all = names_over P (gathering step) (λ found x known. names_map (λ b. found ++ b ∷ []) (here x known)) [] xs all

pub nothing_known : {A : Type 0} (xs : List A) → AllByRecursion (λ x. ⊤) xs
nothing_known [] = tt
nothing_known (x ∷ xs) = (tt, nothing_known xs)

-- ---- limits, numbers and aliases

pub names_count_query : Names count_query
unfolding count_query
names_count_query = record { at = λ w. or_go_on (w.queries == MOST_QUERIES) (Limit limit.Queries MOST_QUERIES) tt (with_queries (w.queries + 1) w) tt }

pub names_count_reference : Names count_reference
unfolding count_reference
names_count_reference = record { at = λ w. or_go_on (w.references == MOST_REFERENCES) (Limit limit.References MOST_REFERENCES) w.references (with_references (w.references + 1) w) tt }

names_next : (slot : Slot) → Names (next_number slot)
names_next slot = record { at = λ w. or_go_on (length w.numbers == MOST_USED) (Limit limit.Used MOST_USED) (col_id (length w.numbers)) (with_numbers (w.numbers ++ slot ∷ []) w) tt }

names_number_at : (slot : Slot) (place : Option ℕ) → Names (number_at slot place)
names_number_at slot (Some place) = names_pure (col_id place)
names_number_at slot None = names_next slot

pub names_number : (slot : Slot) → Names (number_of slot)
unfolding number_of
names_number slot = record { at = λ w. (names_number_at slot (position (same_slot slot) w.numbers)).at w }

pub names_made_number : Names made_number
unfolding made_number
names_made_number = record { at = λ w. (names_map (λ number. record { number = number; slot = Made (length w.numbers) }) (names_next (Made (length w.numbers)))).at w }

pub names_alias : (alias : List ℕ) → Names (take_alias alias)
unfolding take_alias
names_alias alias = record { at = λ w. or_go_on (is_among alias w.taken) (DuplicateName alias) tt (with_taken (w.taken ++ alias ∷ []) w) tt }

pub names_aggregate : (agg : Agg) → Names (add_aggregate agg)
unfolding add_aggregate
names_aggregate agg = record { at = λ w. tt }

pub names_meet : Names meet_outer
unfolding meet_outer
names_meet = record { at = λ w. tt }

pub names_forget : Names forget_outer
unfolding forget_outer
names_forget = record { at = λ w. tt }

pub names_met : Names met_outer
names_met = record { at = λ w. tt }

-- ---- column references

names_use : (entry : Entry) → Names (use_column entry)
unfolding use_column
names_use entry = names_map _ (names_number entry.slot)

far_named : (ref : ColRef) (further : JudgeFault) (found : Found) → IsNamedFault further → IsNamedFault (far_match ref further found)
far_named ref further nothing named = named
far_named ref further (one entry) named = tt
far_named ref further several named = tt

far_fault_named : (ref : ColRef) (scopes : List Scope) → IsNamedFault (far_fault ref scopes)
far_fault_named ref [] = tt
far_fault_named ref (scope ∷ scopes) = far_named ref (far_fault ref scopes) (matches ref scope) (far_fault_named ref scopes)

names_reached : (reaches : Bool) (ref : ColRef) (entry : Entry) → Names (reached reaches ref entry)
names_reached true ref entry = names_then names_meet (λ u. names_use entry)
names_reached false ref entry = names_refuse _ tt

names_near : (reaches : Bool) (ref : ColRef) (scopes : List Scope) (found : Found) → Names (near_match reaches ref scopes found)
names_near reaches ref scopes nothing = names_refuse _ (far_fault_named ref scopes)
names_near reaches ref scopes (one entry) = names_reached reaches ref entry
names_near reaches ref scopes several = names_refuse _ tt

names_near_column : (reaches : Bool) (ref : ColRef) (scopes : List Scope) → Names (near_column reaches ref scopes)
names_near_column reaches ref [] = names_refuse _ tt
names_near_column reaches ref (scope ∷ scopes) = names_near reaches ref scopes (matches ref scope)

names_key : (keys : Option (List Slot)) (name : List ℕ) (entry : Entry) → Names (has_to_be_key keys name entry)
names_key None name entry = names_pure tt
names_key (Some keys) name entry = names_if _ _ tt

pub names_own : (keys : Option (List Slot)) (name : List ℕ) (entry : Entry) → Names (own_column keys name entry)
names_own keys name entry = names_then (names_key keys name entry) (λ u. names_use entry)

names_own_match : (place : Place) (ref : ColRef) (found : Found) → Names (own_match place ref found)
names_own_match place ref nothing = names_near_column place.reaches ref place.outers
names_own_match place ref (one entry) = names_own place.keys _ entry
names_own_match place ref several = names_refuse _ tt

pub names_column : (place : Place) (ref : ColRef) → Names (column place ref)
unfolding column
names_column place ref = names_own_match place ref (matches ref place.own)

-- ---- value expressions

abbrev pub ExprNames : (Place → Step Typed) → Type 0
ExprNames walk = (place : Place) → Names (walk place)

names_signed : (minus : Bool) (x : Typed) → Names (signed minus x)
unfolding signed
names_signed minus x = names_then (names_if _ _ tt) (λ u. names_pure _)

names_chained : (first : Typed) (rest : List (Arith × Typed)) → Names (chained first rest)
unfolding chained
names_chained first rest = names_then (names_if _ _ tt) (λ u. names_pure _)

names_chain : (first : Place → Step Typed) (rest : List (Arith × (Place → Step Typed))) → ExprNames first → AllByRecursion (λ link. ExprNames link.1) rest → ExprNames (chain first rest)
names_chain first rest begins links place =
    names_then (begins place) (λ start. names_then (names_each (λ link. ExprNames link.1) (operand place) (λ link known. names_map _ (known place)) rest links) (λ found. names_chained start found))

names_made : (aggregate : AggKind) (argument : Kind) (x : Option Scalar) → Names (made_aggregate aggregate argument x)
unfolding made_aggregate
names_made aggregate argument x = names_then names_made_number (λ number. names_then (names_aggregate _) (λ u. names_pure _))

names_fits : (aggregate : AggKind) (x : Typed) → Names (argument_fits aggregate x)
names_fits Sum x = names_if _ _ tt
names_fits _ x = names_pure tt

names_aggregate_of : (aggregate : AggKind) (x : Typed) → Names (aggregate_of aggregate x)
unfolding aggregate_of
names_aggregate_of aggregate x = names_then (names_fits aggregate x) (λ u. names_made aggregate x.kind (Some x.scalar))

ArgumentNames : Option (Place → Step Typed) → Type 0
ArgumentNames None = ⊤
ArgumentNames (Some x) = ExprNames x

names_aggregated : (aggregate : AggKind) (x : Option (Place → Step Typed)) → ArgumentNames x → ExprNames (aggregated aggregate x)
unfolding ArgumentNames
names_aggregated aggregate None known place = names_then (names_if _ _ tt) (λ u. names_made aggregate _ None)
names_aggregated aggregate (Some x) known place = names_then (names_if _ _ tt) (λ u. names_then (known _) (λ found. names_aggregate_of aggregate found))

abbrev KnownExpr : Type 0
KnownExpr = (x : SqlExpr) × ExprNames (expr x)

abbrev known : SqlExpr-F KnownExpr → SqlExpr-F SqlExpr
known = map-SqlExpr KnownExpr SqlExpr (λ x. x.0)

links_known : (h : Arith × KnownExpr → Arith × SqlExpr) (g : Arith × SqlExpr → Arith × (Place → Step Typed)) → ((link : Arith × KnownExpr) → ExprNames (g (h link)).1)
    → (links : List (Arith × KnownExpr)) → AllByRecursion (λ link. ExprNames link.1) (map g (map h links))
links_known h g here [] = tt
links_known h g here (link ∷ links) = (here link, links_known h g here links)

layer : (y : SqlExpr-F KnownExpr) → ExprNames (expr_step (map-SqlExpr SqlExpr (Place → Step Typed) expr (known y)))
unfolding ArgumentNames
layer (SqlExpr-F.Col ref) place = names_map _ (names_column place ref)
layer (SqlExpr-F.Number n) place = names_pure _
layer (SqlExpr-F.Text t) place = names_pure _
layer (SqlExpr-F.Signed minus x) place = names_then (x.1 place) (λ found. names_signed minus found)
layer (SqlExpr-F.Chain first rest) place = names_chain (expr first.0) _ first.1 (links_known _ _ (λ link. link.1.1) rest) place
layer (SqlExpr-F.Agg aggregate None) place = names_aggregated aggregate None tt place
layer (SqlExpr-F.Agg aggregate (Some x)) place = names_aggregated aggregate (Some (expr x.0)) x.1 place
layer (SqlExpr-F.Paren x) place = x.1 place

pub names_expr : (x : SqlExpr) → ExprNames (expr x)
names_expr = ind-SqlExpr (λ x. ExprNames (expr x)) (λ x y is. subst (λ z. ExprNames (expr (roll-SqlExpr z))) is
    (subst ExprNames (sym (fold-roll-SqlExpr (Place → Step Typed) expr_step (known y))) (layer y)))
