-- Conditions that are one conjunct.
use Rattle.std.proofs.Common.{◌≡◌, ◌⊎◌, inl, inr, Bool, List, [], ◌∷◌, Option, Some, None, is_some, option_map, refl, sym, ap, ◌∙◌}
use Rattle.pdw_syntax.specs.declared.expr.SqlExpr.{SqlExpr}
use Rattle.pdw_syntax.specs.declared.query.JoinPart.{JoinPart}
use Rattle.pdw_syntax.specs.declared.query.Primary.{Primary}
use Rattle.pdw_syntax.specs.declared.query.Primary.TheFolds.{fold-roll-SqlCond}
use Rattle.pdw_syntax.specs.declared.query.Primary.TheOpen.{SqlCond-F}
use Rattle.pdw_syntax.specs.declared.query.Query.{Query, out-Query}
use Rattle.pdw_syntax.specs.declared.query.SqlCond.{SqlCond, roll-SqlCond}
use Rattle.pdw_syntax.specs.declared.query.SqlCond.TheVariants as c
use Rattle.pdw_syntax.specs.declared.query.TableRef.{TableRef}
use Rattle.pdw_base.specs.declared.truth.Truth.{Truth}
use Rattle.pdw_expr.specs.declared.cond.Cmp.{Cmp}
use Rattle.pdw_expr.specs.declared.cond.Cond.{Cond}
use Rattle.pdw_walk.specs.Conds.{Condition, Conjunct, QueryWalk, cond_step, tested_after}
use Rattle.pdw_walk.specs.Froms.{ElementWalk, JoinWalk, join_step, primary_step, table_ref_step}
use Rattle.pdw_walk.specs.Lookup.{Place}
use Rattle.pdw_walk.specs.Names.{is_grouped}
use Rattle.pdw_walk.specs.Queries.{condition, grouped, query_step, text}
use Rattle.pdw_walk.specs.Walk.{Walk, Outcome, done, refused, and_then, gathering, pure}

-- ---- what a condition means that has this layer

abbrev Layer : Type 0
Layer = SqlCond-F Primary SqlCond JoinPart Query TableRef

by-layer : (x y : SqlCond) (f : Layer) (d : Condition) → x ≡ y → roll-SqlCond f ≡ y → condition (roll-SqlCond f) ≡ d → condition x ≡ d
by-layer x y f d is rolled folded = ap condition (is ∙ sym rolled) ∙ folded

-- ---- conditions that are no subquery predicate and no NOT, and one conjunct

abbrev pub Plain : SqlCond → Type 0
Plain x =
    (((op : Cmp) × (a : SqlExpr) × (b : SqlExpr) × (x ≡ c.Compare op a b))
    ⊎ (((negated : Bool) × (a : SqlExpr) × (b : SqlExpr) × (x ≡ c.Like negated a b))
    ⊎ (((negated : Bool) × (a : SqlExpr) × (x ≡ c.IsNull negated a))
    ⊎ (((negated : Bool) × (a : SqlExpr) × (low : SqlExpr) × (high : SqlExpr) × (x ≡ c.Between negated a low high))
    ⊎ (((negated : Bool) × (a : SqlExpr) × (list : List SqlExpr) × (x ≡ c.InList negated a list))
    ⊎ (((negated : Bool) × (part : SqlCond) × (truth : Truth) × (x ≡ c.Test negated part truth))
    ⊎ ((parts : List SqlCond) × (x ≡ c.Any parts))))))))

-- the one conjunct
abbrev pub alone : Condition → List Conjunct
alone d = record { nested = d.nested; test = d.test; subquery = None } ∷ []

by-meaning : (x : SqlCond) (d : Condition) → condition x ≡ d → d.conjuncts ≡ alone d → (condition x).conjuncts ≡ alone (condition x)
by-meaning x d means same = ap (λ d. d.conjuncts) means ∙ (same ∙ ap alone (sym means))

pub plain-alone : (x : SqlCond) → Plain x → (condition x).conjuncts ≡ alone (condition x)
plain-alone x (inl h) = by-meaning x _ (by-layer x _ (SqlCond-F.Compare h.0 h.1 h.2) _ h.3 (c.rolls-Compare h.0 h.1 h.2) (fold-roll-SqlCond ElementWalk Condition JoinWalk QueryWalk ElementWalk primary_step cond_step join_step query_step table_ref_step (SqlCond-F.Compare h.0 h.1 h.2))) refl
plain-alone x (inr (inl h)) = by-meaning x _ (by-layer x _ (SqlCond-F.Like h.0 h.1 h.2) _ h.3 (c.rolls-Like h.0 h.1 h.2) (fold-roll-SqlCond ElementWalk Condition JoinWalk QueryWalk ElementWalk primary_step cond_step join_step query_step table_ref_step (SqlCond-F.Like h.0 h.1 h.2))) refl
plain-alone x (inr (inr (inl h))) = by-meaning x _ (by-layer x _ (SqlCond-F.IsNull h.0 h.1) _ h.2 (c.rolls-IsNull h.0 h.1) (fold-roll-SqlCond ElementWalk Condition JoinWalk QueryWalk ElementWalk primary_step cond_step join_step query_step table_ref_step (SqlCond-F.IsNull h.0 h.1))) refl
plain-alone x (inr (inr (inr (inl h)))) = by-meaning x _ (by-layer x _ (SqlCond-F.Between h.0 h.1 h.2 h.3) _ h.4 (c.rolls-Between h.0 h.1 h.2 h.3) (fold-roll-SqlCond ElementWalk Condition JoinWalk QueryWalk ElementWalk primary_step cond_step join_step query_step table_ref_step (SqlCond-F.Between h.0 h.1 h.2 h.3))) refl
plain-alone x (inr (inr (inr (inr (inl h))))) = by-meaning x _ (by-layer x _ (SqlCond-F.InList h.0 h.1 h.2) _ h.3 (c.rolls-InList h.0 h.1 h.2) (fold-roll-SqlCond ElementWalk Condition JoinWalk QueryWalk ElementWalk primary_step cond_step join_step query_step table_ref_step (SqlCond-F.InList h.0 h.1 h.2))) refl
plain-alone x (inr (inr (inr (inr (inr (inl h)))))) = by-meaning x _ (by-layer x _ (SqlCond-F.Test h.0 h.1 h.2) _ h.3 (c.rolls-Test h.0 h.1 h.2) (fold-roll-SqlCond ElementWalk Condition JoinWalk QueryWalk ElementWalk primary_step cond_step join_step query_step table_ref_step (SqlCond-F.Test h.0 h.1 h.2))) refl
plain-alone x (inr (inr (inr (inr (inr (inr h)))))) = by-meaning x _ (by-layer x _ (SqlCond-F.Any h.0) _ h.1 (c.rolls-Any h.0) (fold-roll-SqlCond ElementWalk Condition JoinWalk QueryWalk ElementWalk primary_step cond_step join_step query_step table_ref_step (SqlCond-F.Any h.0))) refl

-- ---- conditions that are one conjunct

abbrev pub One : SqlCond → Type 0
One x =
    (((negated : Bool) × (a : SqlExpr) × (q : Query) × (x ≡ c.InQuery negated a q))
    ⊎ (((q : Query) × (x ≡ c.Exists q))
    ⊎ (((part : SqlCond) × (x ≡ c.Not part))
    ⊎ Plain x)))

abbrev Tests : Place → List Cond → Walk → Condition → Type 0
Tests place before w d = tested_after place before d.conjuncts w ≡ gathering (λ part. part.test place) before d w

by-test : (place : Place) (before : List Cond) (w : Walk) (x : SqlCond) (d : Condition) → condition x ≡ d → Tests place before w d → Tests place before w (condition x)
by-test place before w x d means same = ap (λ d. tested_after place before d.conjuncts w) means ∙ (same ∙ ap (λ d. gathering (λ part. part.test place) before d w) (sym means))

then-pure : {A : Type 0} (o : Outcome A) → and_then o pure ≡ o
then-pure (done a w) = refl
then-pure (refused fault) = refl

-- its test comes after those before it
pub one-tested : (place : Place) (before : List Cond) (w : Walk) (x : SqlCond) → One x → Tests place before w (condition x)
one-tested place before w x (inl h) = by-test place before w x _ (by-layer x _ (SqlCond-F.InQuery h.0 h.1 h.2) _ h.3 (c.rolls-InQuery h.0 h.1 h.2) (fold-roll-SqlCond ElementWalk Condition JoinWalk QueryWalk ElementWalk primary_step cond_step join_step query_step table_ref_step (SqlCond-F.InQuery h.0 h.1 h.2))) (then-pure _)
one-tested place before w x (inr (inl h)) = by-test place before w x _ (by-layer x _ (SqlCond-F.Exists h.0) _ h.1 (c.rolls-Exists h.0) (fold-roll-SqlCond ElementWalk Condition JoinWalk QueryWalk ElementWalk primary_step cond_step join_step query_step table_ref_step (SqlCond-F.Exists h.0))) (then-pure _)
one-tested place before w x (inr (inr (inl h))) = by-test place before w x _ (by-layer x _ (SqlCond-F.Not h.0) _ h.1 (c.rolls-Not h.0) (fold-roll-SqlCond ElementWalk Condition JoinWalk QueryWalk ElementWalk primary_step cond_step join_step query_step table_ref_step (SqlCond-F.Not h.0))) (then-pure _)
one-tested place before w x (inr (inr (inr h))) = ap (λ conjuncts. tested_after place before conjuncts w) (plain-alone x h) ∙ then-pure _

-- ---- whether a query is grouped, by its words

is_some_same : {A B : Type 0} (f : A → B) (o : Option A) → is_some (option_map f o) ≡ is_some o
is_some_same f None = refl
is_some_same f (Some a) = refl

pub grouped_same : (q : Query) → grouped (text q) ≡ is_grouped (out-Query q).group (is_some (out-Query q).having) (out-Query q).items
grouped_same q = ap (λ having. is_grouped (out-Query q).group having (out-Query q).items) (is_some_same condition (out-Query q).having)
