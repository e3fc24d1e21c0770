-- The words that are no names.
use Rattle.std.specs.Prelude.{ℕ, List, [], ◌∷◌, Option, codes}
use Rattle.std.specs.List.{find}
use Rattle.std.specs.Option.{option_map}
use Rattle.std.specs.Str.{bytes_eq}
use Rattle.pdw_lex.specs.declared.keyword.Keyword.{Keyword}
use Rattle.pdw_lex.specs.declared.keyword.Keyword.TheVariants.{KwAll, KwAnd, KwAs, KwAsc, KwBetween, KwBy, KwCount, KwCreate, KwCross, KwDesc, KwDistinct, KwDrop, KwExcept, KwExists, KwFalse, KwFrom, KwFull, KwGroup, KwHaving, KwIn, KwInner, KwIntersect, KwIs, KwJoin, KwLeft, KwLike, KwMax, KwMin, KwNot, KwNull, KwOn, KwOr, KwOrder, KwOuter, KwRight, KwSelect, KwSet, KwSum, KwTable, KwTrue, KwUnion, KwUnknown, KwUpdate, KwWhere, KwWith}

-- each keyword with its spelling in lower case
abbrev pub keywords : List (List ℕ × Keyword)
keywords =
    (codes "all", KwAll) ∷
    (codes "and", KwAnd) ∷
    (codes "as", KwAs) ∷
    (codes "asc", KwAsc) ∷
    (codes "between", KwBetween) ∷
    (codes "by", KwBy) ∷
    (codes "count", KwCount) ∷
    (codes "create", KwCreate) ∷
    (codes "cross", KwCross) ∷
    (codes "desc", KwDesc) ∷
    (codes "distinct", KwDistinct) ∷
    (codes "drop", KwDrop) ∷
    (codes "except", KwExcept) ∷
    (codes "exists", KwExists) ∷
    (codes "false", KwFalse) ∷
    (codes "from", KwFrom) ∷
    (codes "full", KwFull) ∷
    (codes "group", KwGroup) ∷
    (codes "having", KwHaving) ∷
    (codes "in", KwIn) ∷
    (codes "inner", KwInner) ∷
    (codes "intersect", KwIntersect) ∷
    (codes "is", KwIs) ∷
    (codes "join", KwJoin) ∷
    (codes "left", KwLeft) ∷
    (codes "like", KwLike) ∷
    (codes "max", KwMax) ∷
    (codes "min", KwMin) ∷
    (codes "not", KwNot) ∷
    (codes "null", KwNull) ∷
    (codes "on", KwOn) ∷
    (codes "or", KwOr) ∷
    (codes "order", KwOrder) ∷
    (codes "outer", KwOuter) ∷
    (codes "right", KwRight) ∷
    (codes "select", KwSelect) ∷
    (codes "set", KwSet) ∷
    (codes "sum", KwSum) ∷
    (codes "table", KwTable) ∷
    (codes "true", KwTrue) ∷
    (codes "union", KwUnion) ∷
    (codes "unknown", KwUnknown) ∷
    (codes "update", KwUpdate) ∷
    (codes "where", KwWhere) ∷
    (codes "with", KwWith) ∷
    []

-- the keyword that a table has at the spelling
abbrev pub keyword_among : List (List ℕ × Keyword) → List ℕ → Option Keyword
keyword_among table word = option_map (λ entry. entry.1) (find (λ entry. bytes_eq word entry.0) table)

-- the keyword of a word in lower case
unfoldable pub keyword_of : List ℕ → Option Keyword
keyword_of word = keyword_among keywords word
