-- The canonical spelling, one equation for each variant.
use Rattle.std.proofs.Common.{◌≡◌, ℕ, ℤ, Bool, List, [], ◌∷◌, ◌++◌, map, flat_map, Option, Some, None, option_map, refl, sym, ◌∙◌, ap, append_assoc, if◌then◌else◌}
use Rattle.pdw_expr.specs.declared.agg.AggKind.{AggKind}
use Rattle.pdw_expr.specs.declared.scalar.Arith.{Arith}
use Rattle.pdw_lex.specs.declared.sign.Sign.TheVariants as s
use Rattle.pdw_base.specs.declared.truth.Truth.{Truth}
use Rattle.pdw_expr.specs.declared.cond.Cmp.{Cmp}
use Rattle.pdw_lex.specs.declared.keyword.Keyword.TheVariants as k
use Rattle.pdw_syntax.specs.declared.query.Items.{Items}
use Rattle.pdw_syntax.specs.declared.query.JoinWord.{JoinWord}
use Rattle.pdw_syntax.specs.declared.query.JoinPart.{JoinPart, roll-JoinPart}
use Rattle.pdw_syntax.specs.declared.query.Primary.{Primary}
use Rattle.pdw_syntax.specs.declared.query.Primary.TheOpen.{Primary-F, SqlCond-F}
use Rattle.pdw_syntax.specs.declared.query.Primary.TheFolds.{fold-Primary, fold-SqlCond, fold-JoinPart, fold-TableRef, fold-roll-Primary, fold-roll-SqlCond, fold-roll-JoinPart, fold-roll-Query, fold-roll-TableRef}
use Rattle.pdw_syntax.specs.declared.query.Primary.TheVariants as p
use Rattle.pdw_syntax.specs.declared.query.Query.{Query, roll-Query}
use Rattle.pdw_syntax.specs.declared.query.SqlCond.{SqlCond}
use Rattle.pdw_syntax.specs.declared.query.SqlCond.TheVariants as c
use Rattle.pdw_syntax.specs.declared.query.TableRef.{TableRef, roll-TableRef}
use Rattle.pdw_ast.specs.Written.{key, name, number, text, sign}
use Rattle.pdw_ast.specs.Spelling.{Spelling, parenthesized, aggregate, operator, column_reference, expr_step, expr, query, primary_step, cond_step, join_step, query_step, table_step, negation, comparison, truth_word, keyword_list, comma_list, alias, clause, group_clause, selected, join_word}
use Rattle.pdw_syntax.specs.declared.expr.ColRef.{ColRef}
use Rattle.pdw_syntax.specs.declared.expr.SqlExpr.{SqlExpr}
use Rattle.pdw_syntax.specs.declared.expr.SqlExpr.TheOpen.{SqlExpr-F}
use Rattle.pdw_syntax.specs.declared.expr.SqlExpr.TheFolds.{fold-roll-SqlExpr}
use Rattle.pdw_syntax.specs.declared.expr.SqlExpr.TheVariants as e
use Rattle.pdw_syntax.specs.declared.expr.SqlExpr.TheVariants.{rolls-Col, rolls-Number, rolls-Text, rolls-Signed, rolls-Chain, rolls-Agg, rolls-Paren}

pub flat_map_map : {X Y Z : Type 0} (f : Y → List Z) (g : X → Y) (xs : List X) → flat_map f (map g xs) ≡ flat_map (λ x. f (g x)) xs
flat_map_map f g [] = refl
flat_map_map f g (x ∷ xs) = ap (λ zs. f (g x) ++ zs) (flat_map_map f g xs)

-- ---- value expressions

pub expr_col : (c : ColRef) → expr (e.Col c) ≡ column_reference c
expr_col c = ap expr (sym (rolls-Col c)) ∙ fold-roll-SqlExpr Spelling expr_step (SqlExpr-F.Col c)

pub expr_number : (n : ℤ) → expr (e.Number n) ≡ number n ∷ []
expr_number n = ap expr (sym (rolls-Number n)) ∙ fold-roll-SqlExpr Spelling expr_step (SqlExpr-F.Number n)

pub expr_text : (t : List ℕ) → expr (e.Text t) ≡ text t ∷ []
expr_text t = ap expr (sym (rolls-Text t)) ∙ fold-roll-SqlExpr Spelling expr_step (SqlExpr-F.Text t)

pub expr_signed : (minus : Bool) (x : SqlExpr) → expr (e.Signed minus x) ≡ sign (if minus then s.Minus else s.Plus) ∷ expr x
expr_signed minus x = ap expr (sym (rolls-Signed minus x)) ∙ fold-roll-SqlExpr Spelling expr_step (SqlExpr-F.Signed minus x)

pub expr_chain : (first : SqlExpr) (rest : List (Arith × SqlExpr)) → expr (e.Chain first rest) ≡ expr first ++ flat_map (λ link. operator link.0 ∷ expr link.1) rest
expr_chain first rest = ap expr (sym (rolls-Chain first rest)) ∙ (fold-roll-SqlExpr Spelling expr_step (SqlExpr-F.Chain first rest) ∙ ap (λ links. expr first ++ links) (flat_map_map (λ link. operator link.0 ∷ link.1) _ rest))

pub expr_agg : (kind : AggKind) (x : SqlExpr) → expr (e.Agg kind (Some x)) ≡ aggregate kind ∷ parenthesized (expr x)
expr_agg kind x = ap expr (sym (rolls-Agg kind (Some x))) ∙ fold-roll-SqlExpr Spelling expr_step (SqlExpr-F.Agg kind (Some x))

pub expr_agg_star : (kind : AggKind) → expr (e.Agg kind None) ≡ aggregate kind ∷ parenthesized (sign s.Star ∷ [])
expr_agg_star kind = ap expr (sym (rolls-Agg kind None)) ∙ fold-roll-SqlExpr Spelling expr_step (SqlExpr-F.Agg kind None)

pub expr_paren : (x : SqlExpr) → expr (e.Paren x) ≡ parenthesized (expr x)
expr_paren x = ap expr (sym (rolls-Paren x)) ∙ fold-roll-SqlExpr Spelling expr_step (SqlExpr-F.Paren x)

-- ---- conditions

abbrev pub cond : SqlCond → Spelling
cond = fold-SqlCond Spelling Spelling Spelling Spelling Spelling primary_step cond_step join_step query_step table_step

abbrev pub primary : Primary → Spelling
primary = fold-Primary Spelling Spelling Spelling Spelling Spelling primary_step cond_step join_step query_step table_step

abbrev pub join : JoinPart → Spelling
join = fold-JoinPart Spelling Spelling Spelling Spelling Spelling primary_step cond_step join_step query_step table_step

abbrev pub table_reference : TableRef → Spelling
table_reference = fold-TableRef Spelling Spelling Spelling Spelling Spelling primary_step cond_step join_step query_step table_step

pub cond_compare : (op : Cmp) (x y : SqlExpr) → cond (c.Compare op x y) ≡ expr x ++ comparison op ∷ expr y
cond_compare op x y = ap cond (sym (c.rolls-Compare op x y)) ∙ fold-roll-SqlCond Spelling Spelling Spelling Spelling Spelling primary_step cond_step join_step query_step table_step (SqlCond-F.Compare op x y)

pub cond_like : (negated : Bool) (x y : SqlExpr) → cond (c.Like negated x y) ≡ expr x ++ (negation negated ++ key k.KwLike ∷ expr y)
cond_like negated x y = ap cond (sym (c.rolls-Like negated x y)) ∙ (fold-roll-SqlCond Spelling Spelling Spelling Spelling Spelling primary_step cond_step join_step query_step table_step (SqlCond-F.Like negated x y) ∙ append_assoc (expr x) (negation negated) _)

pub cond_null : (negated : Bool) (x : SqlExpr) → cond (c.IsNull negated x) ≡ expr x ++ key k.KwIs ∷ (negation negated ++ key k.KwNull ∷ [])
cond_null negated x = ap cond (sym (c.rolls-IsNull negated x)) ∙ fold-roll-SqlCond Spelling Spelling Spelling Spelling Spelling primary_step cond_step join_step query_step table_step (SqlCond-F.IsNull negated x)

pub cond_between : (negated : Bool) (x low high : SqlExpr) → cond (c.Between negated x low high) ≡ expr x ++ (negation negated ++ key k.KwBetween ∷ (expr low ++ key k.KwAnd ∷ expr high))
cond_between negated x low high = ap cond (sym (c.rolls-Between negated x low high)) ∙ (fold-roll-SqlCond Spelling Spelling Spelling Spelling Spelling primary_step cond_step join_step query_step table_step (SqlCond-F.Between negated x low high) ∙ append_assoc (expr x) (negation negated) _)

pub cond_in_list : (negated : Bool) (x : SqlExpr) (xs : List SqlExpr) → cond (c.InList negated x xs) ≡ expr x ++ (negation negated ++ key k.KwIn ∷ parenthesized (comma_list (map expr xs)))
cond_in_list negated x xs = ap cond (sym (c.rolls-InList negated x xs)) ∙ (fold-roll-SqlCond Spelling Spelling Spelling Spelling Spelling primary_step cond_step join_step query_step table_step (SqlCond-F.InList negated x xs) ∙ append_assoc (expr x) (negation negated) _)

pub cond_in_query : (negated : Bool) (x : SqlExpr) (q : Query) → cond (c.InQuery negated x q) ≡ expr x ++ (negation negated ++ key k.KwIn ∷ parenthesized (query q))
cond_in_query negated x q = ap cond (sym (c.rolls-InQuery negated x q)) ∙ (fold-roll-SqlCond Spelling Spelling Spelling Spelling Spelling primary_step cond_step join_step query_step table_step (SqlCond-F.InQuery negated x q) ∙ append_assoc (expr x) (negation negated) _)

pub cond_exists : (q : Query) → cond (c.Exists q) ≡ key k.KwExists ∷ parenthesized (query q)
cond_exists q = ap cond (sym (c.rolls-Exists q)) ∙ fold-roll-SqlCond Spelling Spelling Spelling Spelling Spelling primary_step cond_step join_step query_step table_step (SqlCond-F.Exists q)

pub cond_test : (negated : Bool) (x : SqlCond) (t : Truth) → cond (c.Test negated x t) ≡ cond x ++ key k.KwIs ∷ (negation negated ++ truth_word t ∷ [])
cond_test negated x t = ap cond (sym (c.rolls-Test negated x t)) ∙ fold-roll-SqlCond Spelling Spelling Spelling Spelling Spelling primary_step cond_step join_step query_step table_step (SqlCond-F.Test negated x t)

pub cond_not : (x : SqlCond) → cond (c.Not x) ≡ key k.KwNot ∷ cond x
cond_not x = ap cond (sym (c.rolls-Not x)) ∙ fold-roll-SqlCond Spelling Spelling Spelling Spelling Spelling primary_step cond_step join_step query_step table_step (SqlCond-F.Not x)

pub cond_all : (xs : List SqlCond) → cond (c.All xs) ≡ keyword_list k.KwAnd (map cond xs)
cond_all xs = ap cond (sym (c.rolls-All xs)) ∙ fold-roll-SqlCond Spelling Spelling Spelling Spelling Spelling primary_step cond_step join_step query_step table_step (SqlCond-F.All xs)

pub cond_any : (xs : List SqlCond) → cond (c.Any xs) ≡ keyword_list k.KwOr (map cond xs)
cond_any xs = ap cond (sym (c.rolls-Any xs)) ∙ fold-roll-SqlCond Spelling Spelling Spelling Spelling Spelling primary_step cond_step join_step query_step table_step (SqlCond-F.Any xs)

pub cond_paren : (x : SqlCond) → cond (c.Paren x) ≡ parenthesized (cond x)
cond_paren x = ap cond (sym (c.rolls-Paren x)) ∙ fold-roll-SqlCond Spelling Spelling Spelling Spelling Spelling primary_step cond_step join_step query_step table_step (SqlCond-F.«SqlCond::Paren» x)

-- ---- tables and queries

pub primary_named : (table : List ℕ) (called : Option (List ℕ)) → primary (p.Named table called) ≡ name table ∷ alias called
primary_named table called = ap primary (sym (p.rolls-Named table called)) ∙ fold-roll-Primary Spelling Spelling Spelling Spelling Spelling primary_step cond_step join_step query_step table_step (Primary-F.Named table called)

pub primary_derived : (q : Query) (called : List ℕ) → primary (p.Derived q called) ≡ parenthesized (query q) ++ (key k.KwAs ∷ name called ∷ [])
primary_derived q called = ap primary (sym (p.rolls-Derived q called)) ∙ fold-roll-Primary Spelling Spelling Spelling Spelling Spelling primary_step cond_step join_step query_step table_step (Primary-F.Derived q called)

pub primary_paren : (t : TableRef) → primary (p.Paren t) ≡ parenthesized (table_reference t)
primary_paren t = ap primary (sym (p.rolls-Paren t)) ∙ fold-roll-Primary Spelling Spelling Spelling Spelling Spelling primary_step cond_step join_step query_step table_step (Primary-F.«Primary::Paren» t)

pub join_none : (word : JoinWord) (right : Primary)
    → join (roll-JoinPart (record { word = word; right = right; on = None })) ≡ join_word word ∷ key k.KwJoin ∷ (primary right ++ [])
join_none word right = fold-roll-JoinPart Spelling Spelling Spelling Spelling Spelling primary_step cond_step join_step query_step table_step (record { word = word; right = right; on = None })

pub join_some : (word : JoinWord) (right : Primary) (on : SqlCond)
    → join (roll-JoinPart (record { word = word; right = right; on = Some on })) ≡ join_word word ∷ key k.KwJoin ∷ (primary right ++ key k.KwOn ∷ cond on)
join_some word right on = fold-roll-JoinPart Spelling Spelling Spelling Spelling Spelling primary_step cond_step join_step query_step table_step (record { word = word; right = right; on = Some on })

pub table_roll : (first : Primary) (joins : List JoinPart) → table_reference (roll-TableRef (record { first = first; joins = joins })) ≡ primary first ++ flat_map join joins
table_roll first joins = fold-roll-TableRef Spelling Spelling Spelling Spelling Spelling primary_step cond_step join_step query_step table_step (record { first = first; joins = joins }) ∙ ap (λ parts. primary first ++ parts) (flat_map_map _ _ joins)

regroup : {X : Type 0} (once parts tables filter group having : List X) (from : X) → once ++ parts ++ from ∷ (tables ++ filter ++ group ++ having)
    ≡ once ++ (parts ++ from ∷ (tables ++ (filter ++ (group ++ having))))
regroup once parts tables filter group having from =
    append_assoc once parts _ ∙ ap (λ xs. once ++ (parts ++ from ∷ xs)) (append_assoc (tables ++ filter) group having ∙ append_assoc tables filter (group ++ having))

pub query_roll : (once : Bool) (parts : Items) (tables : List TableRef) (filter : Option SqlCond) (group : List ColRef) (having : Option SqlCond)
    → query (roll-Query (record { distinct = once; items = parts; from = tables; filter = filter; group = group; having = having }))
    ≡ key k.KwSelect ∷ ((if once then key k.KwDistinct ∷ [] else []) ++ (selected parts ++ key k.KwFrom ∷ (comma_list (map table_reference tables)
    ++ (clause k.KwWhere (option_map cond filter) ++ (group_clause group ++ clause k.KwHaving (option_map cond having))))))
query_roll once parts tables None group None = fold-roll-Query Spelling Spelling Spelling Spelling Spelling primary_step cond_step join_step query_step table_step (record { distinct = once; items = parts; from = tables; filter = None; group = group; having = None }) ∙ ap (λ xs. key k.KwSelect ∷ xs) (regroup (if once then key k.KwDistinct ∷ [] else []) (selected parts) (comma_list (map table_reference tables)) (clause k.KwWhere (option_map cond None)) (group_clause group) (clause k.KwHaving (option_map cond None)) (key k.KwFrom))
query_roll once parts tables None group (Some y) = fold-roll-Query Spelling Spelling Spelling Spelling Spelling primary_step cond_step join_step query_step table_step (record { distinct = once; items = parts; from = tables; filter = None; group = group; having = Some y }) ∙ ap (λ xs. key k.KwSelect ∷ xs) (regroup (if once then key k.KwDistinct ∷ [] else []) (selected parts) (comma_list (map table_reference tables)) (clause k.KwWhere (option_map cond None)) (group_clause group) (clause k.KwHaving (option_map cond (Some y))) (key k.KwFrom))
query_roll once parts tables (Some x) group None = fold-roll-Query Spelling Spelling Spelling Spelling Spelling primary_step cond_step join_step query_step table_step (record { distinct = once; items = parts; from = tables; filter = Some x; group = group; having = None }) ∙ ap (λ xs. key k.KwSelect ∷ xs) (regroup (if once then key k.KwDistinct ∷ [] else []) (selected parts) (comma_list (map table_reference tables)) (clause k.KwWhere (option_map cond (Some x))) (group_clause group) (clause k.KwHaving (option_map cond None)) (key k.KwFrom))
query_roll once parts tables (Some x) group (Some y) = fold-roll-Query Spelling Spelling Spelling Spelling Spelling primary_step cond_step join_step query_step table_step (record { distinct = once; items = parts; from = tables; filter = Some x; group = group; having = Some y }) ∙ ap (λ xs. key k.KwSelect ∷ xs) (regroup (if once then key k.KwDistinct ∷ [] else []) (selected parts) (comma_list (map table_reference tables)) (clause k.KwWhere (option_map cond (Some x))) (group_clause group) (clause k.KwHaving (option_map cond (Some y))) (key k.KwFrom))
