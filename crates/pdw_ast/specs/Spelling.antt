-- The canonical spelling of statements.
use Rattle.std.specs.Prelude.{ℕ, ℤ, Bool, List, [], ◌∷◌, ◌++◌, map, flat_map, Option, Some, None, codes, if◌then◌else◌}
use Rattle.pdw_base.specs.declared.truth.Truth.{Truth}
use Rattle.pdw_base.specs.declared.truth.Truth.TheVariants as truth
use Rattle.pdw_base.specs.declared.value.Kind.{Kind}
use Rattle.pdw_base.specs.declared.value.Kind.TheVariants as kind
use Rattle.pdw_catalog.specs.declared.table.Column.{Column}
use Rattle.pdw_expr.specs.declared.agg.AggKind.{AggKind}
use Rattle.pdw_expr.specs.declared.agg.AggKind.TheVariants as agg
use Rattle.pdw_expr.specs.declared.cond.Cmp.{Cmp}
use Rattle.pdw_expr.specs.declared.cond.Cmp.TheVariants as cmp
use Rattle.pdw_expr.specs.declared.scalar.Arith.{Arith}
use Rattle.pdw_expr.specs.declared.scalar.Arith.TheVariants as arith
use Rattle.pdw_lex.specs.declared.keyword.Keyword.{Keyword}
use Rattle.pdw_lex.specs.declared.keyword.Keyword.TheVariants as k
use Rattle.pdw_lex.specs.declared.sign.Sign.TheVariants as s
use Rattle.pdw_ast.specs.Written.{Written, key, word, name, number, text, sign, spaced}
use Rattle.pdw_syntax.specs.declared.expr.ColRef.{ColRef}
use Rattle.pdw_syntax.specs.declared.expr.SqlExpr.{SqlExpr}
use Rattle.pdw_syntax.specs.declared.expr.SqlExpr.TheOpen.{SqlExpr-F}
use Rattle.pdw_syntax.specs.declared.expr.SqlExpr.TheFolds.{fold-SqlExpr}
use Rattle.pdw_syntax.specs.declared.query.Item.{Item}
use Rattle.pdw_syntax.specs.declared.query.Item.TheVariants as item_is
use Rattle.pdw_syntax.specs.declared.query.Items.{Items}
use Rattle.pdw_syntax.specs.declared.query.Items.TheVariants as items_are
use Rattle.pdw_syntax.specs.declared.query.JoinWord.{JoinWord}
use Rattle.pdw_syntax.specs.declared.query.JoinWord.TheVariants as join_is
use Rattle.pdw_syntax.specs.declared.query.OrderKey.{OrderKey}
use Rattle.pdw_syntax.specs.declared.query.OrderName.{OrderName}
use Rattle.pdw_syntax.specs.declared.query.OrderName.TheVariants as order_is
use Rattle.pdw_syntax.specs.declared.query.Primary.TheOpen.{Primary-F, SqlCond-F, JoinPart-F, Query-F, TableRef-F}
use Rattle.pdw_syntax.specs.declared.query.Primary.TheFolds.{fold-Query}
use Rattle.pdw_syntax.specs.declared.query.Query.{Query}
use Rattle.pdw_syntax.specs.declared.query.Select.{Select}
use Rattle.pdw_syntax.specs.declared.statement.CostPart.{CostPart}
use Rattle.pdw_syntax.specs.declared.statement.CostPart.TheVariants as cost
use Rattle.pdw_syntax.specs.declared.statement.Statement.{Statement}
use Rattle.pdw_syntax.specs.declared.statement.Statement.TheVariants as statement_is

abbrev pub Spelling : Type 0
Spelling = List Written

-- ---- parts that many rules have

abbrev pub parenthesized : Spelling → Spelling
parenthesized inner = sign s.ParenOpen ∷ (inner ++ sign s.ParenClose ∷ [])

-- a first part, and the others after commas
abbrev pub comma_list : List Spelling → Spelling
comma_list [] = []
comma_list (first ∷ rest) = first ++ flat_map (λ part. sign s.Comma ∷ part) rest

-- a first part, and the others after a keyword
abbrev pub keyword_list : Keyword → List Spelling → Spelling
keyword_list keyword [] = []
keyword_list keyword (first ∷ rest) = first ++ flat_map (λ part. key keyword ∷ part) rest

-- AS and the alias, if there is one
abbrev pub alias : Option (List ℕ) → Spelling
alias None = []
alias (Some called) = key k.KwAs ∷ name called ∷ []

-- a keyword and what follows it, if there is any
abbrev pub clause : Keyword → Option Spelling → Spelling
clause keyword None = []
clause keyword (Some part) = key keyword ∷ part

abbrev pub negation : Bool → Spelling
negation negated = if negated then key k.KwNot ∷ [] else []

-- ---- words and signs

abbrev pub operator : Arith → Written
operator arith.Add = sign s.Plus
operator arith.Sub = sign s.Minus
operator arith.Mul = sign s.Star
operator arith.Div = sign s.Slash
operator arith.Rem = sign s.Percent

abbrev pub comparison : Cmp → Written
comparison cmp.Eq = sign s.Equal
comparison cmp.Ne = sign s.NotEqual
comparison cmp.Lt = sign s.Less
comparison cmp.Le = sign s.LessEqual
comparison cmp.Gt = sign s.Greater
comparison cmp.Ge = sign s.GreaterEqual

abbrev pub aggregate : AggKind → Written
aggregate agg.CountStar = key k.KwCount
aggregate agg.Count = key k.KwCount
aggregate agg.Sum = key k.KwSum
aggregate agg.Min = key k.KwMin
aggregate agg.Max = key k.KwMax

abbrev pub truth_word : Truth → Written
truth_word truth.True = key k.KwTrue
truth_word truth.False = key k.KwFalse
truth_word truth.Unknown = key k.KwUnknown

-- INNER is written, OUTER is not
abbrev pub join_word : JoinWord → Written
join_word join_is.Cross = key k.KwCross
join_word join_is.Inner = key k.KwInner
join_word join_is.Left = key k.KwLeft
join_word join_is.Right = key k.KwRight
join_word join_is.Full = key k.KwFull

-- ---- expressions

abbrev pub column_reference : ColRef → Spelling
column_reference c = qualified c.alias (name c.column ∷ [])
  where
    qualified : Option (List ℕ) → Spelling → Spelling
    qualified None column = column
    qualified (Some alias) column = name alias ∷ sign s.Dot ∷ column

-- without argument it is of `*`
abbrev pub argument : Option Spelling → Spelling
argument None = sign s.Star ∷ []
argument (Some x) = x

abbrev pub expr_step : SqlExpr-F Spelling → Spelling
expr_step (SqlExpr-F.Col c) = column_reference c
expr_step (SqlExpr-F.Number n) = number n ∷ []
expr_step (SqlExpr-F.Text t) = text t ∷ []
expr_step (SqlExpr-F.Signed minus x) = sign (if minus then s.Minus else s.Plus) ∷ x
expr_step (SqlExpr-F.Chain first rest) = first ++ flat_map (λ link. operator link.0 ∷ link.1) rest
expr_step (SqlExpr-F.Agg kind x) = aggregate kind ∷ parenthesized (argument x)
expr_step (SqlExpr-F.Paren x) = parenthesized x

abbrev pub expr : SqlExpr → Spelling
expr = fold-SqlExpr Spelling expr_step

-- ---- queries

abbrev pub made_item : Item → Spelling
made_item (item_is.AliasStar called) = name called ∷ sign s.Dot ∷ sign s.Star ∷ []
made_item (item_is.Made x called) = expr x ++ alias called

abbrev pub selected : Items → Spelling
selected items_are.Star = sign s.Star ∷ []
selected (items_are.List parts) = comma_list (map made_item parts)

abbrev pub primary_step : Primary-F Spelling Spelling Spelling Spelling Spelling → Spelling
primary_step (Primary-F.Named table called) = name table ∷ alias called
primary_step (Primary-F.Derived query called) = parenthesized query ++ alias (Some called)
primary_step (Primary-F.«Primary::Paren» tables) = parenthesized tables

abbrev pub cond_step : SqlCond-F Spelling Spelling Spelling Spelling Spelling → Spelling
cond_step (SqlCond-F.Compare op x y) = expr x ++ comparison op ∷ expr y
cond_step (SqlCond-F.Like negated x y) = expr x ++ negation negated ++ key k.KwLike ∷ expr y
cond_step (SqlCond-F.IsNull negated x) = expr x ++ key k.KwIs ∷ (negation negated ++ key k.KwNull ∷ [])
cond_step (SqlCond-F.Between negated x low high) = expr x ++ negation negated ++ key k.KwBetween ∷ (expr low ++ key k.KwAnd ∷ expr high)
cond_step (SqlCond-F.InList negated x list) = expr x ++ negation negated ++ key k.KwIn ∷ parenthesized (comma_list (map expr list))
cond_step (SqlCond-F.InQuery negated x query) = expr x ++ negation negated ++ key k.KwIn ∷ parenthesized query
cond_step (SqlCond-F.Exists query) = key k.KwExists ∷ parenthesized query
cond_step (SqlCond-F.Test negated cond truth) = cond ++ key k.KwIs ∷ (negation negated ++ truth_word truth ∷ [])
cond_step (SqlCond-F.Not cond) = key k.KwNot ∷ cond
cond_step (SqlCond-F.All conds) = keyword_list k.KwAnd conds
cond_step (SqlCond-F.Any conds) = keyword_list k.KwOr conds
cond_step (SqlCond-F.«SqlCond::Paren» cond) = parenthesized cond

abbrev pub join_step : JoinPart-F Spelling Spelling Spelling Spelling Spelling → Spelling
join_step part = join_word part.word ∷ key k.KwJoin ∷ (part.right ++ clause k.KwOn part.on)

abbrev pub group_clause : List ColRef → Spelling
group_clause [] = []
group_clause (c ∷ cs) = key k.KwGroup ∷ key k.KwBy ∷ comma_list (map column_reference (c ∷ cs))

abbrev pub query_step : Query-F Spelling Spelling Spelling Spelling Spelling → Spelling
query_step q =
    key k.KwSelect ∷ ((if q.distinct then key k.KwDistinct ∷ [] else []) ++ selected q.items
    ++ key k.KwFrom ∷ (comma_list q.from ++ clause k.KwWhere q.filter ++ group_clause q.group ++ clause k.KwHaving q.having))

abbrev pub table_step : TableRef-F Spelling Spelling Spelling Spelling Spelling → Spelling
table_step t = t.first ++ flat_map (λ part. part) t.joins

abbrev pub query : Query → Spelling
query = fold-Query Spelling Spelling Spelling Spelling Spelling primary_step cond_step join_step query_step table_step

abbrev pub order_key : OrderKey → Spelling
order_key o = named o.name ∷ key (if o.descending then k.KwDesc else k.KwAsc) ∷ []
  where
    named : OrderName → Written
    named (order_is.Name n) = name n
    named (order_is.Position n) = number n

abbrev pub order_clause : List OrderKey → Spelling
order_clause [] = []
order_clause (o ∷ os) = key k.KwOrder ∷ key k.KwBy ∷ comma_list (map order_key (o ∷ os))

abbrev pub select : Select → Spelling
select x = query x.query ++ order_clause x.order

-- ---- statements

-- no table has a column of another kind
abbrev pub kind_word : Kind → Written
kind_word kind.Int = word (codes "int")
kind_word kind.Text = word (codes "text")
kind_word kind.Wide = word (codes "wide")

abbrev pub column : Column → Spelling
column c = name c.name ∷ kind_word c.kind ∷ (if c.nullable then [] else key k.KwNot ∷ key k.KwNull ∷ [])

abbrev pub placing : Option (List ℕ) → Spelling
placing None = word (codes "replicate") ∷ []
placing (Some hashed) = word (codes "hash") ∷ parenthesized (name hashed ∷ [])

abbrev pub cost_word : CostPart → Written
cost_word cost.Reader = word (codes "reader")
cost_word cost.HashReader = word (codes "hashreader")
cost_word cost.Network = word (codes "network")
cost_word cost.Writer = word (codes "writer")
cost_word cost.Bulk = word (codes "bulk")
cost_word cost.Control = word (codes "control")

abbrev pub column_statistics : List ℕ × ℤ × ℤ → Spelling
column_statistics c = name c.0 ∷ key k.KwDistinct ∷ number c.1 ∷ word (codes "width") ∷ number c.2 ∷ []

abbrev pub statement : Statement → Spelling
statement (statement_is.CreateNamed table columns hash) =
    key k.KwCreate ∷ key k.KwTable ∷ name table ∷ (parenthesized (comma_list (map column columns))
    ++ key k.KwWith ∷ parenthesized (word (codes "distribution") ∷ sign s.Equal ∷ placing hash))
statement (statement_is.Drop table) = key k.KwDrop ∷ key k.KwTable ∷ name table ∷ []
statement (statement_is.Load table file) = word (codes "load") ∷ name table ∷ key k.KwFrom ∷ text file ∷ []
statement (statement_is.Measure table) = key k.KwUpdate ∷ word (codes "statistics") ∷ name table ∷ []
statement (statement_is.Hand table rows columns) =
    key k.KwUpdate ∷ word (codes "statistics") ∷ name table ∷ key k.KwWith ∷ word (codes "rows") ∷ number rows
    ∷ flat_map (λ c. sign s.Comma ∷ column_statistics c) columns
statement (statement_is.Budget n) = key k.KwSet ∷ word (codes "budget") ∷ number n ∷ []
statement (statement_is.Cost part n) = key k.KwSet ∷ word (codes "cost") ∷ cost_word part ∷ number n ∷ []
statement (statement_is.Select x) = select x
statement (statement_is.Explain x) = word (codes "explain") ∷ select x
statement (statement_is.ExplainJson x) = word (codes "explain") ∷ word (codes "json") ∷ select x
statement (statement_is.Profile x) = word (codes "profile") ∷ select x
statement (statement_is.CheckPlan file x) = word (codes "check") ∷ word (codes "plan") ∷ text file ∷ word (codes "for") ∷ select x

-- the tokens with one space between each two
abbrev pub canonical : Statement → List ℕ
canonical x = spaced (statement x)
