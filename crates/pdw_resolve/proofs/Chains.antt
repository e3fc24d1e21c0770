-- What the walk of a chain is, by the walks of its operands.
use Rattle.std.proofs.Common.{◌≡◌, List, [], ◌∷◌, map, ap, sym, ◌∙◌, refl}
use Rattle.pdw_syntax.specs.declared.expr.SqlExpr.{SqlExpr}
use Rattle.pdw_syntax.specs.declared.expr.SqlExpr.TheFolds.{fold-roll-SqlExpr}
use Rattle.pdw_syntax.specs.declared.expr.SqlExpr.TheOpen.{SqlExpr-F}
use Rattle.pdw_syntax.specs.declared.expr.SqlExpr.TheVariants as is
use Rattle.pdw_syntax.specs.declared.expr.SqlExpr.TheVariants.{rolls-Chain}
use Rattle.pdw_expr.specs.declared.scalar.Arith.{Arith}
use Rattle.pdw_walk.specs.Exprs.{chain, chained, expr, expr_step, operand, operand_of}
use Rattle.pdw_walk.specs.Lookup.{Place}
use Rattle.pdw_walk.specs.Walk.{Walk, Outcome, done, refused, Step, over, gathering, and_then, each}
use Rattle.pdw_walk.specs.declared.entry.Typed.{Typed}
use Rattle.pdw_walk.specs.declared.fault.JudgeFault.{JudgeFault}

and_then-same : {A B : Type 0} (o : Outcome A) (f g : A → Step B) → ((a : A) (w : Walk) → f a w ≡ g a w) → and_then o f ≡ and_then o g
and_then-same (done a w) f g same = same a w
and_then-same (refused fault) f g same = refl

-- a walk over what is made of each is a walk over each
pub over-map : {A B C : Type 0} (step : B → A → Step B) (f : C → A) (gathered : B) (xs : List C) (w : Walk)
    → over step gathered (map f xs) w ≡ over (λ before x. step before (f x)) gathered xs w
over-map step f gathered [] w = refl
over-map step f gathered (x ∷ xs) w =
    and_then-same (step gathered (f x) w) (λ more. over step more (map f xs)) (λ more. over (λ before x. step before (f x)) more xs) (λ more after. over-map step f more xs after)

pub expr-chain : (first : SqlExpr) (rest : List (Arith × SqlExpr)) (place : Place) (w : Walk)
    → expr (is.Chain first rest) place w ≡ chain (expr first) (map (λ link. (link.0, expr link.1)) rest) place w
expr-chain first rest place w =
    ap (λ walk. walk place w) (ap expr (sym (rolls-Chain first rest)) ∙ fold-roll-SqlExpr (Place → Step Typed) expr_step (SqlExpr-F.Chain first rest))

each-operand : (rest : List (Arith × SqlExpr)) (place : Place) (w : Walk)
    → each (operand place) (map (λ link. (link.0, expr link.1)) rest) w ≡ each (operand_of place) rest w
each-operand rest place w = over-map (gathering (operand place)) (λ (link : Arith × SqlExpr). (link.0, expr link.1)) [] rest w

-- the operands after the first, and then the chain
after-first : (first : SqlExpr) (rest : List (Arith × SqlExpr)) (place : Place) (start : Typed) (w after : Walk)
    → expr first place w ≡ done start after
    → expr (is.Chain first rest) place w ≡ and_then (each (operand_of place) rest after) (chained start)
after-first first rest place start w after is =
    expr-chain first rest place w
    ∙ ap (λ o. and_then o (λ start w. and_then (each (operand place) (map (λ link. (link.0, expr link.1)) rest) w) (chained start))) is
    ∙ ap (λ o. and_then o (chained start)) (each-operand rest place after)

pub chain-ends : {value first here : SqlExpr} {rest links : List (Arith × SqlExpr)} {start : Typed} {typed : List (Arith × Typed)} {middle after : Walk} (place : Place) (w : Walk)
    → value ≡ is.Chain first rest → here ≡ first → links ≡ rest
    → expr here place w ≡ done start middle → each (operand_of place) links middle ≡ done typed after
    → expr value place w ≡ chained start typed after
chain-ends {first = first} {rest = rest} {start = start} {middle = middle} place w whole head tail is those =
    ap (λ value. expr value place w) whole
    ∙ after-first first rest place start w middle (ap (λ value. expr value place w) (sym head) ∙ is)
    ∙ ap (λ o. and_then o (chained start)) (ap (λ rest. each (operand_of place) rest middle) (sym tail) ∙ those)

pub chain-stops : {value first here : SqlExpr} {rest links : List (Arith × SqlExpr)} {start : Typed} {middle : Walk} {fault : JudgeFault} (place : Place) (w : Walk)
    → value ≡ is.Chain first rest → here ≡ first → links ≡ rest
    → expr here place w ≡ done start middle → each (operand_of place) links middle ≡ refused fault
    → expr value place w ≡ refused fault
chain-stops {first = first} {rest = rest} {start = start} {middle = middle} place w whole head tail is those =
    ap (λ value. expr value place w) whole
    ∙ after-first first rest place start w middle (ap (λ value. expr value place w) (sym head) ∙ is)
    ∙ ap (λ o. and_then o (chained start)) (ap (λ rest. each (operand_of place) rest middle) (sym tail) ∙ those)
