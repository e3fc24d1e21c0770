-- What the grammar gives of a part, one lemma for each variant.
use Rattle.std.proofs.Common.{◌≡◌, ◌&&◌, ℕ, ℤ, leb, Bool, true, false, not, List, [], ◌∷◌, length, map, Option, Some, None, refl, sym, ◌∙◌, ap}
use Rattle.std.specs.List.{list_all}
use Rattle.std.proofs.lemmas.Bool.{and_from}
use Rattle.std.proofs.lemmas.List.Folds.{list_all-map}
use Rattle.pdw_syntax.specs.Conds.{all_of, any_of, negated_by, tested}
use Rattle.pdw_syntax.specs.Exprs.{chained, with_sign}
use Rattle.pdw_syntax.specs.declared.expr.ColRef.{ColRef}
use Rattle.pdw_syntax.specs.declared.expr.SqlExpr.{SqlExpr}
use Rattle.pdw_syntax.specs.declared.expr.SqlExpr.TheOpen.{SqlExpr-F}
use Rattle.pdw_syntax.specs.declared.expr.SqlExpr.TheFolds.{fold-roll-SqlExpr, map-SqlExpr}
use Rattle.pdw_syntax.specs.declared.expr.SqlExpr.TheVariants as e
use Rattle.pdw_syntax.specs.declared.expr.SqlExpr.TheViews.{roll-SqlExpr}
use Rattle.pdw_syntax.specs.declared.query.Items.{Items}
use Rattle.pdw_syntax.specs.declared.query.JoinPart.{JoinPart, roll-JoinPart}
use Rattle.pdw_syntax.specs.declared.query.JoinWord.{JoinWord}
use Rattle.pdw_syntax.specs.declared.query.JoinWord.TheVariants.{Cross}
use Rattle.pdw_syntax.specs.declared.query.Primary.{Primary}
use Rattle.pdw_syntax.specs.declared.query.Primary.TheFolds.{fold-Primary, fold-SqlCond, fold-JoinPart, fold-TableRef, fold-roll-Primary, fold-roll-SqlCond, fold-roll-JoinPart, fold-roll-Query, fold-roll-TableRef, map-Primary, map-SqlCond}
use Rattle.pdw_syntax.specs.declared.query.Primary.TheOpen.{Primary-F, SqlCond-F, Query-F}
use Rattle.pdw_syntax.specs.declared.query.Primary.TheVariants as p
use Rattle.pdw_syntax.specs.declared.query.Primary.TheViews.{roll-Primary, roll-SqlCond}
use Rattle.pdw_syntax.specs.declared.query.Query.{Query, roll-Query}
use Rattle.pdw_syntax.specs.declared.query.SqlCond.{SqlCond}
use Rattle.pdw_syntax.specs.declared.query.SqlCond.TheVariants as c
use Rattle.pdw_syntax.specs.declared.query.TableRef.{TableRef, roll-TableRef}
use Rattle.pdw_base.specs.declared.truth.Truth.{Truth}
use Rattle.pdw_syntax.proofs.WrittenRules.{where_written}
use Rattle.pdw_syntax.specs.Written.{cond_written_step, counts_rows, expr_written, expr_written_step, items_written, join_written_step, primary_written_step, query_written, query_written_step, some_elements, table_written_step}
use Rattle.pdw_catalog.specs.declared.table.TheConstants.{MOST_TEXT_BYTES}
use Rattle.pdw_expr.specs.declared.agg.AggKind.{AggKind}
use Rattle.pdw_expr.specs.declared.agg.AggKind.TheVariants.{CountStar}
use Rattle.pdw_expr.specs.declared.cond.Cmp.{Cmp}
use Rattle.pdw_expr.specs.declared.scalar.Arith.{Arith}

-- ---- value expressions

-- an expression passes where its outermost variant does
expr_from : {x : SqlExpr} (layer : SqlExpr-F SqlExpr) → roll-SqlExpr layer ≡ x → expr_written_step (map-SqlExpr SqlExpr Bool expr_written layer) ≡ true → expr_written x ≡ true
expr_from layer is step = ap expr_written (sym is) ∙ (fold-roll-SqlExpr Bool expr_written_step layer ∙ step)

pub col_written : (ref : ColRef) → expr_written (e.Col ref) ≡ true
col_written ref = expr_from (SqlExpr-F.Col ref) (e.rolls-Col ref) refl

pub number_written : (n : ℤ) → expr_written (e.Number n) ≡ true
number_written n = expr_from (SqlExpr-F.Number n) (e.rolls-Number n) refl

pub text_written : (t : List ℕ) → leb (length t) MOST_TEXT_BYTES ≡ true → expr_written (e.Text t) ≡ true
text_written t short = expr_from (SqlExpr-F.Text t) (e.rolls-Text t) short

pub signed_written : (minus : Option Bool) (x : SqlExpr) → expr_written x ≡ true → expr_written (with_sign minus x) ≡ true
signed_written None x is = is
signed_written (Some minus) x is = expr_from (SqlExpr-F.Signed minus x) (e.rolls-Signed minus x) is

pub chain_written : (first : SqlExpr) (rest : List (Arith × SqlExpr)) → expr_written first ≡ true → list_all (λ link. expr_written link.1) rest ≡ true
    → expr_written (chained first rest) ≡ true
chain_written first [] is are = is
chain_written first (link ∷ rest) is are = expr_from (SqlExpr-F.Chain first (link ∷ rest)) (e.rolls-Chain first (link ∷ rest))
    (and_from (expr_written first) _ is (list_all-map (λ (l : Arith × Bool). l.1) (λ (l : Arith × SqlExpr). (l.0, expr_written l.1)) (link ∷ rest) ∙ are))

pub count_written : expr_written (e.Agg CountStar None) ≡ true
count_written = expr_from (SqlExpr-F.Agg CountStar None) (e.rolls-Agg CountStar None) refl

pub aggregate_written : (aggregate : AggKind) (x : SqlExpr) → not (counts_rows aggregate) ≡ true → expr_written x ≡ true → expr_written (e.Agg aggregate (Some x)) ≡ true
aggregate_written aggregate x takes is = expr_from (SqlExpr-F.Agg aggregate (Some x)) (e.rolls-Agg aggregate (Some x)) (and_from (not (counts_rows aggregate)) (expr_written x) takes is)

pub paren_written : (x : SqlExpr) → expr_written x ≡ true → expr_written (e.Paren x) ≡ true
paren_written x is = expr_from (SqlExpr-F.Paren x) (e.rolls-Paren x) is

-- ---- conditions

abbrev pub cond_written : SqlCond → Bool
cond_written = fold-SqlCond Bool Bool Bool Bool Bool primary_written_step cond_written_step join_written_step query_written_step table_written_step

abbrev pub primary_written : Primary → Bool
primary_written = fold-Primary Bool Bool Bool Bool Bool primary_written_step cond_written_step join_written_step query_written_step table_written_step

abbrev pub join_written : JoinPart → Bool
join_written = fold-JoinPart Bool Bool Bool Bool Bool primary_written_step cond_written_step join_written_step query_written_step table_written_step

abbrev pub table_written : TableRef → Bool
table_written = fold-TableRef Bool Bool Bool Bool Bool primary_written_step cond_written_step join_written_step query_written_step table_written_step

-- a condition passes where its outermost variant does
cond_from : {x : SqlCond} (layer : SqlCond-F Primary SqlCond JoinPart Query TableRef) → roll-SqlCond layer ≡ x
    → cond_written_step (map-SqlCond Primary SqlCond JoinPart Query TableRef Bool Bool Bool Bool Bool primary_written cond_written join_written query_written table_written layer) ≡ true
    → cond_written x ≡ true
cond_from layer is step = ap cond_written (sym is) ∙ (fold-roll-SqlCond Bool Bool Bool Bool Bool primary_written_step cond_written_step join_written_step query_written_step table_written_step layer ∙ step)

pub compare_written : (op : Cmp) (x y : SqlExpr) → expr_written x ≡ true → expr_written y ≡ true → cond_written (c.Compare op x y) ≡ true
compare_written op x y is are = cond_from (SqlCond-F.Compare op x y) (c.rolls-Compare op x y) (and_from (expr_written x) (expr_written y) is are)

pub like_written : (negated : Bool) (x y : SqlExpr) → expr_written x ≡ true → expr_written y ≡ true → cond_written (c.Like negated x y) ≡ true
like_written negated x y is are = cond_from (SqlCond-F.Like negated x y) (c.rolls-Like negated x y) (and_from (expr_written x) (expr_written y) is are)

pub null_written : (negated : Bool) (x : SqlExpr) → expr_written x ≡ true → cond_written (c.IsNull negated x) ≡ true
null_written negated x is = cond_from (SqlCond-F.IsNull negated x) (c.rolls-IsNull negated x) is

pub between_written : (negated : Bool) (x low high : SqlExpr) → expr_written x ≡ true → expr_written low ≡ true → expr_written high ≡ true
    → cond_written (c.Between negated x low high) ≡ true
between_written negated x low high is below above = cond_from (SqlCond-F.Between negated x low high) (c.rolls-Between negated x low high)
    (and_from (expr_written x) (expr_written low && expr_written high) is (and_from (expr_written low) (expr_written high) below above))

pub in_list_written : (negated : Bool) (x : SqlExpr) (xs : List SqlExpr) → expr_written x ≡ true → list_all expr_written xs ≡ true → cond_written (c.InList negated x xs) ≡ true
in_list_written negated x xs is are = cond_from (SqlCond-F.InList negated x xs) (c.rolls-InList negated x xs) (and_from (expr_written x) (list_all expr_written xs) is are)

pub in_query_written : (negated : Bool) (x : SqlExpr) (q : Query) → expr_written x ≡ true → query_written q ≡ true → cond_written (c.InQuery negated x q) ≡ true
in_query_written negated x q is are = cond_from (SqlCond-F.InQuery negated x q) (c.rolls-InQuery negated x q) (and_from (expr_written x) (query_written q) is are)

pub exists_written : (q : Query) → query_written q ≡ true → cond_written (c.Exists q) ≡ true
exists_written q is = cond_from (SqlCond-F.Exists q) (c.rolls-Exists q) is

pub tested_written : (x : SqlCond) (t : Option (Bool × Truth)) → cond_written x ≡ true → cond_written (tested x t) ≡ true
tested_written x None is = is
tested_written x (Some t) is = cond_from (SqlCond-F.Test t.0 x t.1) (c.rolls-Test t.0 x t.1) is

pub negated_written : (negated : Bool) (x : SqlCond) → cond_written x ≡ true → cond_written (negated_by negated x) ≡ true
negated_written true x is = cond_from (SqlCond-F.Not x) (c.rolls-Not x) is
negated_written false x is = is

all_parts : (xs : List SqlCond) → list_all cond_written xs ≡ true → list_all (λ part. part) (map cond_written xs) ≡ true
all_parts xs are = list_all-map (λ part. part) cond_written xs ∙ are

pub all_written : (x : SqlCond) (xs : List SqlCond) → cond_written x ≡ true → list_all cond_written xs ≡ true → cond_written (all_of x xs) ≡ true
all_written x [] is are = is
all_written x (y ∷ ys) is are = cond_from (SqlCond-F.All (x ∷ y ∷ ys)) (c.rolls-All (x ∷ y ∷ ys)) (all_parts (x ∷ y ∷ ys) (and_from (cond_written x) _ is are))

pub any_written : (x : SqlCond) (xs : List SqlCond) → cond_written x ≡ true → list_all cond_written xs ≡ true → cond_written (any_of x xs) ≡ true
any_written x [] is are = is
any_written x (y ∷ ys) is are = cond_from (SqlCond-F.Any (x ∷ y ∷ ys)) (c.rolls-Any (x ∷ y ∷ ys)) (all_parts (x ∷ y ∷ ys) (and_from (cond_written x) _ is are))

pub paren_cond_written : (x : SqlCond) → cond_written x ≡ true → cond_written (c.Paren x) ≡ true
paren_cond_written x is = cond_from (SqlCond-F.«SqlCond::Paren» x) (c.rolls-Paren x) is

-- ---- what stands in FROM

-- so does what can be joined
primary_from : {x : Primary} (layer : Primary-F Primary SqlCond JoinPart Query TableRef) → roll-Primary layer ≡ x
    → primary_written_step (map-Primary Primary SqlCond JoinPart Query TableRef Bool Bool Bool Bool Bool primary_written cond_written join_written query_written table_written layer) ≡ true
    → primary_written x ≡ true
primary_from layer is step = ap primary_written (sym is) ∙ (fold-roll-Primary Bool Bool Bool Bool Bool primary_written_step cond_written_step join_written_step query_written_step table_written_step layer ∙ step)

pub named_written : (table : List ℕ) (alias : Option (List ℕ)) → primary_written (p.Named table alias) ≡ true
named_written table alias = primary_from (Primary-F.Named table alias) (p.rolls-Named table alias) refl

pub derived_written : (q : Query) (alias : List ℕ) → query_written q ≡ true → primary_written (p.Derived q alias) ≡ true
derived_written q alias is = primary_from (Primary-F.Derived q alias) (p.rolls-Derived q alias) is

pub paren_table_written : (t : TableRef) → table_written t ≡ true → primary_written (p.Paren t) ≡ true
paren_table_written t is = primary_from (Primary-F.«Primary::Paren» t) (p.rolls-Paren t) is

pub cross_written : (right : Primary) → primary_written right ≡ true → join_written (roll-JoinPart (record { word = Cross; right = right; on = None })) ≡ true
cross_written right is = fold-roll-JoinPart Bool Bool Bool Bool Bool primary_written_step cond_written_step join_written_step query_written_step table_written_step (record { word = Cross; right = right; on = None })
    ∙ and_from (primary_written right) true is refl

pub join_on_written : (word : JoinWord) (right : Primary) (on : SqlCond) → primary_written right ≡ true → cond_written on ≡ true
    → join_written (roll-JoinPart (record { word = word; right = right; on = Some on })) ≡ true
join_on_written word right on is holds = fold-roll-JoinPart Bool Bool Bool Bool Bool primary_written_step cond_written_step join_written_step query_written_step table_written_step (record { word = word; right = right; on = Some on })
    ∙ and_from (primary_written right) (cond_written on) is holds

pub table_reference_written : (first : Primary) (joins : List JoinPart) → primary_written first ≡ true → list_all join_written joins ≡ true
    → table_written (roll-TableRef (record { first = first; joins = joins })) ≡ true
table_reference_written first joins is are = fold-roll-TableRef Bool Bool Bool Bool Bool primary_written_step cond_written_step join_written_step query_written_step table_written_step (record { first = first; joins = joins })
    ∙ and_from (primary_written first) _ is (list_all-map (λ join. join) join_written joins ∙ are)

-- ---- queries

-- FROM is not empty
abbrev pub some_tables : List TableRef → Bool
some_tables [] = false
some_tables (first ∷ rest) = true

some_mapped : (tables : List TableRef) → some_tables tables ≡ true → some_elements (map table_written tables) ≡ true
some_mapped [] some = some
some_mapped (first ∷ rest) some = refl

all_five : (a b c d e : Bool) → a ≡ true → b ≡ true → c ≡ true → d ≡ true → e ≡ true → (a && (b && (c && (d && e)))) ≡ true
all_five a b c d e is-a is-b is-c is-d is-e = and_from a _ is-a (and_from b _ is-b (and_from c _ is-c (and_from d e is-d is-e)))

-- what a query needs of its items, elements of FROM, WHERE and HAVING
pub record PartsWritten (selected : Items) (elements : List TableRef) (rows groups : Option SqlCond) : Type 0 where
  pub items : items_written selected ≡ true
  pub some : some_tables elements ≡ true
  pub tables : list_all table_written elements ≡ true
  pub filter : where_written cond_written rows ≡ true
  pub having : where_written cond_written groups ≡ true

query_from : (layer : Query-F Primary SqlCond JoinPart Query TableRef) (filter having : Bool) → PartsWritten layer.items layer.from layer.filter layer.having
    → filter ≡ true → having ≡ true
    → (items_written layer.items && (some_elements (map table_written layer.from) && (list_all (λ element. element) (map table_written layer.from) && (filter && having)))) ≡ true
query_from layer filter having parts filters holds = all_five (items_written layer.items) (some_elements (map table_written layer.from)) (list_all (λ element. element) (map table_written layer.from)) filter having
    parts.items (some_mapped layer.from parts.some) (list_all-map (λ element. element) table_written layer.from ∙ parts.tables) filters holds

pub query_parts_written : (once : Bool) (items : Items) (tables : List TableRef) (filter : Option SqlCond) (group : List ColRef) (having : Option SqlCond)
    → PartsWritten items tables filter having
    → query_written (roll-Query (record { distinct = once; items = items; from = tables; filter = filter; group = group; having = having })) ≡ true
query_parts_written once items tables None group None parts =
    let layer : Query-F Primary SqlCond JoinPart Query TableRef = record { distinct = once; items = items; from = tables; filter = None; group = group; having = None } in
    fold-roll-Query Bool Bool Bool Bool Bool primary_written_step cond_written_step join_written_step query_written_step table_written_step layer ∙ query_from layer true true parts refl refl
query_parts_written once items tables None group (Some y) parts =
    let layer : Query-F Primary SqlCond JoinPart Query TableRef = record { distinct = once; items = items; from = tables; filter = None; group = group; having = Some y } in
    fold-roll-Query Bool Bool Bool Bool Bool primary_written_step cond_written_step join_written_step query_written_step table_written_step layer ∙ query_from layer true (cond_written y) parts refl parts.having
query_parts_written once items tables (Some x) group None parts =
    let layer : Query-F Primary SqlCond JoinPart Query TableRef = record { distinct = once; items = items; from = tables; filter = Some x; group = group; having = None } in
    fold-roll-Query Bool Bool Bool Bool Bool primary_written_step cond_written_step join_written_step query_written_step table_written_step layer ∙ query_from layer (cond_written x) true parts parts.filter refl
query_parts_written once items tables (Some x) group (Some y) parts =
    let layer : Query-F Primary SqlCond JoinPart Query TableRef = record { distinct = once; items = items; from = tables; filter = Some x; group = group; having = Some y } in
    fold-roll-Query Bool Bool Bool Bool Bool primary_written_step cond_written_step join_written_step query_written_step table_written_step layer ∙ query_from layer (cond_written x) (cond_written y) parts parts.filter parts.having
