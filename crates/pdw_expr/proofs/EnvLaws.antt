-- The laws of environments side by side.
use Rattle.std.proofs.Common.{◌≡◌, List, get_or, refl, ap, ◌∙◌}
use Rattle.pdw_base.specs.Schema.{Env}
use Rattle.pdw_base.specs.declared.schema.ColId.{ColId}
use Rattle.pdw_base.specs.declared.value.Value.{Value}
use Rattle.pdw_base.specs.declared.value.Value.TheVariants.{Null, Int, Text, Wide}
use Rattle.pdw_expr.specs.Env.{Agree, nulls, or_else, union}

or_else-Null : (a : Value) → or_else a Null ≡ a
or_else-Null Null = refl
or_else-Null (Int n) = refl
or_else-Null (Text t) = refl
or_else-Null (Wide n) = refl

or_else-or_else : (a b c : Value) → or_else (or_else a b) c ≡ or_else a (or_else b c)
or_else-or_else Null b c = refl
or_else-or_else (Int n) b c = refl
or_else-or_else (Text t) b c = refl
or_else-or_else (Wide n) b c = refl

pub union-nulls : (a : Env) → union a nulls ≡ a
union-nulls a = λ i c. or_else-Null (a c) i

pub union-union : (a b c : Env) → union (union a b) c ≡ union a (union b c)
union-union a b c = λ i column. or_else-or_else (a column) (b column) (c column) i

pub Agree-union_left : (columns : List ColId) (a b : Env) → Agree columns b nulls → Agree columns (union a b) a
Agree-union_left columns a b none k d within =
    let c = get_or columns k d in
    ap (or_else (a c)) (none k d within) ∙ or_else-Null (a c)

pub Agree-union_right : (columns : List ColId) (a b : Env) → Agree columns a nulls → Agree columns (union a b) b
Agree-union_right columns a b none k d within =
    let c = get_or columns k d in
    ap (λ value. or_else value (b c)) (none k d within)
