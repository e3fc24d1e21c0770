-- Queries and SELECT are read by their rules.
use Rattle.std.proofs.Common.{◌≡◌, ℕ, Bool, true, false, ◌||◌, List, [], ◌∷◌, ◌++◌, Option, Some, None, refl, sym, ◌∙◌, subst, append-nil, append_assoc, true≢false, unwrap_or}
use Rattle.pdw_lex.specs.declared.keyword.Keyword.TheVariants.{KwAs, KwBy, KwFrom, KwGroup, KwHaving, KwOrder, KwSelect, KwWhere}
use Rattle.pdw_lex.specs.declared.sign.Sign.TheVariants.{ParenClose, Comma, Dot, Star, Plus, Minus, Semicolon}
use Rattle.pdw_lex.specs.declared.token.Lexeme.{Lexeme}
use Rattle.pdw_lex.specs.declared.token.Lexeme.TheVariants as lexeme
use Rattle.pdw_syntax.specs.Rule.{Rule, Empty, empty, One, Then, both, Either, first, second, Maybe, absent, present}
use Rattle.pdw_syntax.specs.Lexemes.{same_keyword, same_sign, is_key, is_sign, name_of, quantifier_of, direction_of, order_name_of, name}
use Rattle.pdw_syntax.specs.Parentheses.{Parentheses}
use Rattle.pdw_syntax.specs.Exprs as expr_rule
use Rattle.pdw_syntax.specs.Conds as cond_rule
use Rattle.pdw_syntax.specs.Tables as table_rule
use Rattle.pdw_syntax.specs.Queries as rule
use Rattle.pdw_syntax.specs.declared.expr.SqlExpr.{SqlExpr}
use Rattle.pdw_syntax.specs.declared.expr.SqlExpr.TheVariants.{Col}
use Rattle.pdw_syntax.specs.declared.query.Item.{Item}
use Rattle.pdw_syntax.specs.declared.query.Item.TheVariants.{AliasStar, Made}
use Rattle.pdw_syntax.specs.declared.query.Items.TheVariants as items_are
use Rattle.pdw_syntax.specs.declared.query.OrderName.TheVariants as order
use Rattle.pdw_syntax.specs.declared.query.SqlCond.{SqlCond}
use Rattle.pdw_reading.specs.declared.content.Among.{Among}
use Rattle.pdw_reading.specs.declared.content.Among.TheVariants as among_is
use Rattle.pdw_reading.specs.declared.content.Source.{Source}
use Rattle.pdw_reading.specs.declared.content.Source.TheVariants as source_is
use Rattle.pdw_reading.specs.Reading.{Reader, and_then, ◌>>=◌, ◌<$>◌, next, take, eat}
use Rattle.pdw_reading.specs.ReadExprs.{Nested, expr}
use Rattle.pdw_reading.specs.ReadTables.{alias}
use Rattle.pdw_reading.specs.ReadQueries as reads
use Rattle.pdw_reading.proofs.Law.{Lawful}
use Rattle.pdw_reading.proofs.Closure.{always, after, pure_law, one_law, narrower_law}
use Rattle.pdw_reading.proofs.ClosureMany.{maybe_law, begun_law}
use Rattle.pdw_reading.proofs.ClosureNext.{take_if_law, same_law, equal_law}
use Rattle.pdw_reading.proofs.Rules.{made, then_map, either_map, then_assoc, then_assoc_back}
use Rattle.pdw_reading.proofs.Leads.{seen, unless, choose, Narrower, narrower_key, narrower_sign, narrower_name, narrower_same, narrower_or, narrower_right, Leads, leads_one, leads_either, leads_first, leads_then, leads_empty, leads_made, leads_maybe, leads_always, key_law, name_law, made_law, in_all, in_turn, branch, by_test}
use Rattle.pdw_reading.proofs.Steps.{split_law}
use Rattle.pdw_reading.proofs.Level.{LevelLaw}
use Rattle.pdw_reading.proofs.ExprLaws.{expr_rest, expr_law, expr_from_law, listed_law, column_reference_law}
use Rattle.pdw_reading.proofs.ExprBegins.{HoldsAtValue, leads_expr, leads_expr_rest, expr_by_name, expr_of_column, after_name, column_split, column_join}
use Rattle.pdw_reading.proofs.CondLaws.{closes, cond_law}
use Rattle.pdw_reading.proofs.TableLaws.{leads_called, alias_law, leads_table, table_reference_law, tables_law}

-- ---- tests

-- what follows a query: a parenthesis that closes, a semicolon, ORDER, or nothing
abbrev pub ends_query : Option Lexeme → Bool
ends_query (Some (lexeme.Sign ParenClose)) = true
ends_query (Some (lexeme.Sign Semicolon)) = true
ends_query (Some (lexeme.Key KwOrder)) = true
ends_query None = true
ends_query o = false

narrower_query : {s : Option Lexeme → Bool} → s (Some (lexeme.Sign ParenClose)) ≡ true → s (Some (lexeme.Sign Semicolon)) ≡ true → s (Some (lexeme.Key KwOrder)) ≡ true
    → s None ≡ true → Narrower ends_query s
narrower_query {s} close semicolon order at_end = record { into = go }
  where
    go : (o : Option Lexeme) → ends_query o ≡ true → s o ≡ true
    go (Some (lexeme.Sign ParenClose)) e = close
    go (Some (lexeme.Sign Semicolon)) e = semicolon
    go (Some (lexeme.Key KwOrder)) e = order
    go None e = at_end
    go (Some (lexeme.Key m)) e = absurd (true≢false (sym e))
    go (Some (lexeme.Sign m)) e = absurd (true≢false (sym e))
    go (Some (lexeme.Name m)) e = absurd (true≢false (sym e))
    go (Some (lexeme.Number m)) e = absurd (true≢false (sym e))
    go (Some (lexeme.Text m)) e = absurd (true≢false (sym e))

pub narrower_closes : {s : Option Lexeme → Bool} → s (Some (lexeme.Sign ParenClose)) ≡ true → Narrower closes s
narrower_closes {s} close = record { into = go }
  where
    go : (o : Option Lexeme) → closes o ≡ true → s o ≡ true
    go (Some (lexeme.Sign ParenClose)) e = close
    go None e = absurd (true≢false (sym e))
    go (Some (lexeme.Key m)) e = absurd (true≢false (sym e))
    go (Some (lexeme.Sign m)) e = absurd (true≢false (sym e))
    go (Some (lexeme.Name m)) e = absurd (true≢false (sym e))
    go (Some (lexeme.Number m)) e = absurd (true≢false (sym e))
    go (Some (lexeme.Text m)) e = absurd (true≢false (sym e))

-- what follows each part of a query
abbrev ends_grouping : Option Lexeme → Bool
ends_grouping o = seen (is_key KwHaving) o || ends_query o

abbrev ends_filter : Option Lexeme → Bool
ends_filter o = seen (is_key KwGroup) o || ends_grouping o

abbrev ends_tables : Option Lexeme → Bool
ends_tables o = seen (is_key KwWhere) o || ends_filter o

abbrev ends_items : Option Lexeme → Bool
ends_items = seen (is_key KwFrom)

abbrev ends_item : Option Lexeme → Bool
ends_item o = seen (is_sign Comma) o || ends_items o

narrower_grouping : {s : Option Lexeme → Bool} → s (Some (lexeme.Key KwHaving)) ≡ true → Narrower ends_query s → Narrower ends_grouping s
narrower_grouping having narrower = narrower_or (narrower_key KwHaving having) narrower

narrower_filter : {s : Option Lexeme → Bool} → s (Some (lexeme.Key KwGroup)) ≡ true → Narrower ends_grouping s → Narrower ends_filter s
narrower_filter group narrower = narrower_or (narrower_key KwGroup group) narrower

narrower_tables : {s : Option Lexeme → Bool} → s (Some (lexeme.Key KwWhere)) ≡ true → Narrower ends_filter s → Narrower ends_tables s
narrower_tables filter narrower = narrower_or (narrower_key KwWhere filter) narrower

narrower_item : {s : Option Lexeme → Bool} → s (Some (lexeme.Sign Comma)) ≡ true → s (Some (lexeme.Key KwFrom)) ≡ true → Narrower ends_item s
narrower_item comma from = narrower_or (narrower_sign Comma comma) (narrower_key KwFrom from)

-- ---- what may be left out, with its meaning where it is

optional_into : {A : Type 0} {R : List Lexeme → A → Type 0} (d : A) (w : List Lexeme) (a : A) → Then (Maybe R) (λ o. Empty (unwrap_or o d)) w a → Either R (Empty d) w a
optional_into d w a (both u v absent empty) = second empty
optional_into {R = R} d w a (both u v (present {a = b} spells) empty) = first (subst (λ x. R x b) (sym (append-nil u)) spells)

optional_back : {A : Type 0} {R : List Lexeme → A → Type 0} (d : A) (w : List Lexeme) (a : A) → Either R (Empty d) w a → Then (Maybe R) (λ o. Empty (unwrap_or o d)) w a
optional_back d w a (first spells) = made (λ o. unwrap_or o d) w (Some a) (present spells)
optional_back d w a (second empty) = both [] [] absent empty

-- the two words and the list after them
optional_words : {A : Type 0} {K L : List Lexeme → Unit {0} → Type 0} {R : List Lexeme → A → Type 0} (d : A) (w : List Lexeme) (a : A)
    → Then (Maybe (Then (Then K (λ x. L)) (λ x. R))) (λ o. Empty (unwrap_or o d)) w a → Either (Then K (λ x. Then L (λ y. R))) (Empty d) w a
optional_words d w a spells = either_map then_assoc (λ v b r. r) w a (optional_into d w a spells)

optional_words_back : {A : Type 0} {K L : List Lexeme → Unit {0} → Type 0} {R : List Lexeme → A → Type 0} (d : A) (w : List Lexeme) (a : A)
    → Either (Then K (λ x. Then L (λ y. R))) (Empty d) w a → Then (Maybe (Then (Then K (λ x. L)) (λ x. R))) (λ o. Empty (unwrap_or o d)) w a
optional_words_back d w a spells = optional_back d w a (either_map then_assoc_back (λ v b r. r) w a spells)

-- ---- the parts that hold no parentheses

pub distinct_law : {n : ℕ} → Lawful n rule.distinct rule.distinct reads.distinct reads.distinct (after always (seen quantifier_of))
unfolding reads.distinct
distinct_law = made_law _ (maybe_law (take_if_law quantifier_of refl refl))

pub grouping_law : {n : ℕ} → Lawful n rule.grouping rule.grouping reads.grouping reads.grouping ends_grouping
unfolding reads.grouping same_keyword
grouping_law =
    same_law (optional_words []) (optional_words_back []) (optional_words_back [])
    (branch (is_key KwGroup) refl refl reads.grouping_if reads.grouping_if
    (in_turn (key_law KwBy)
    (λ a. listed_law column_reference_law refl (narrower_grouping refl (narrower_query refl refl refl refl)).into (narrower_grouping refl (narrower_query refl refl refl refl)).into)
    (λ a. leads_always))
    (in_all (pure_law []))
    (leads_empty (narrower_grouping refl (narrower_query refl refl refl refl))))

pub order_key_law : {n : ℕ} → Lawful n rule.order_key rule.order_key reads.order_key reads.order_key (after always (seen direction_of))
unfolding reads.order_key
order_key_law =
    in_turn (one_law order_name_of (lexeme.Name []) (order.Name []) refl refl refl) (λ called. made_law _ (maybe_law (take_if_law direction_of refl refl))) (λ called. leads_always)

pub ordering_law : {n : ℕ} → Lawful n rule.ordering rule.ordering reads.ordering reads.ordering (seen (is_sign Semicolon))
unfolding reads.ordering same_keyword
ordering_law =
    same_law (optional_words []) (optional_words_back []) (optional_words_back [])
    (branch (is_key KwOrder) refl refl reads.ordering_if reads.ordering_if
    (in_turn (key_law KwBy) (λ a. listed_law order_key_law refl (narrower_sign Semicolon refl).into (narrower_sign Semicolon refl).into) (λ a. leads_always))
    (in_all (pure_law []))
    (leads_empty (narrower_sign Semicolon refl)))

-- what [ GROUP BY .. ] and what follows it begin with
leads_grouping : {t s : Option Lexeme → Bool} → s (Some (lexeme.Key KwGroup)) ≡ true → Narrower t s → Leads rule.grouping t s
leads_grouping group narrower = leads_made (leads_maybe (leads_first (leads_first (leads_one (narrower_key KwGroup group)))) narrower)

leads_ordering : {t s : Option Lexeme → Bool} → s (Some (lexeme.Key KwOrder)) ≡ true → Narrower t s → Leads rule.ordering t s
leads_ordering order narrower = leads_made (leads_maybe (leads_first (leads_first (leads_one (narrower_key KwOrder order)))) narrower)

-- ---- items

-- what follows the first value of an item
abbrev made_rest : Parentheses → SqlExpr → Rule Item
made_rest g x = Then (expr_rest g x) (λ y. Then (Maybe table_rule.called) (λ o. Empty (Made y o)))

-- what follows a name and a dot
abbrev dotted : Parentheses → List ℕ → Rule Item
dotted g m = Either (Then (One (is_sign Star)) (λ a. Empty (AliasStar m))) (Then name (λ c. made_rest g (Col (record { alias = Some m; column = c }))))

-- an item that begins with a name
abbrev named : Parentheses → Rule Item
named g = Then name (λ m. Either (Then (One (is_sign Dot)) (λ a. dotted g m)) (made_rest g (Col (record { alias = None; column = m }))))

-- an item that is an expression
abbrev made_item : Parentheses → Rule Item
made_item g = Then (expr_rule.expr g) (λ x. Then (Maybe table_rule.called) (λ o. Empty (Made x o)))

read_named : Nested → Reader Item
read_named k = take name_of >>= (λ m. eat (is_sign Dot) >>= reads.named_by k m)

read_made : Nested → Reader Item
read_made k = expr k >>= (λ x. Made x <$> alias)

leads_made_alias : {s : Option Lexeme → Bool} (x : SqlExpr) → s (Some (lexeme.Key KwAs)) ≡ true → ((m : List ℕ) → s (Some (lexeme.Name m)) ≡ true) → Narrower ends_item s
    → Leads (Then (Maybe table_rule.called) (λ o. Empty (Made x o))) ends_item s
leads_made_alias x at_as at_name narrower = leads_made (leads_maybe (leads_called at_as at_name) narrower)

module _ (g : Parentheses) where
  column_item : (w : List Lexeme) (a : Item) → Then name (after_name (λ c. made_rest g (Col c))) w a → made_item g w a
  column_item w a spells = then_map (expr_of_column g) (λ x v b r. r) w a (then_assoc_back w a (column_join {S = λ c. made_rest g (Col c)} w a spells))

  named_into : (w : List Lexeme) (a : Item) (rest : List Lexeme) → rule.item g w a → seen name_of (next (w ++ rest)) ≡ true → named g w a
  unfolding rule.item
  named_into w a rest (first spells) e = then_map (λ v m r. r) (λ m v b r. first (then_map (λ u x q. q) (λ x u c q. first q) v b r)) w a spells
  named_into w a rest (second spells) e = then_map (λ v m r. r) (λ m v b r. either_map (λ u c q. then_map (λ y x z. z) (λ x y c z. second z) u c q) (λ u c q. q) v b r) w a (column_split w a (then_assoc w a (by_name w a rest spells e)))
    where
      by_name : (w : List Lexeme) (a : Item) (rest : List Lexeme) → made_item g w a → seen name_of (next (w ++ rest)) ≡ true
          → Then (Then expr_rule.column_reference (λ c. expr_rest g (Col c))) (λ x. Then (Maybe table_rule.called) (λ o. Empty (Made x o))) w a
      by_name w a rest (both {a = x} u v spells called) e = both u v (expr_by_name g u x (v ++ rest) spells (rw (append_assoc u v rest) at e)) called

  named_back : (w : List Lexeme) (a : Item) → named g w a → rule.item g w a
  unfolding rule.item
  named_back w a (both u v m (first (both x y dot (first star)))) = first (both u (x ++ y) m (both x y dot star))
  named_back w a (both u v m (first (both x y dot (second column)))) = second (column_item (u ++ (x ++ y)) a (both u (x ++ y) m (first (both x y dot column))))
  named_back w a (both u v m (second column)) = second (column_item (u ++ v) a (both u v m (second column)))

  made_into : (w : List Lexeme) (a : Item) (rest : List Lexeme) → rule.item g w a → seen name_of (next (w ++ rest)) ≡ false → made_item g w a
  unfolding rule.item
  made_into w a rest (second spells) e = spells
  made_into w a rest (first spells) e = absurd (true≢false (sym ((leads_first {t = always} (leads_one {f = name_of} {s = seen name_of} narrower_same)).leads w a rest spells refl) ∙ e))

  made_back : (w : List Lexeme) (a : Item) → made_item g w a → rule.item g w a
  unfolding rule.item
  made_back w a spells = second spells

  leads_item : {s t : Option Lexeme → Bool} → HoldsAtValue s → s (Some (lexeme.Sign Plus)) ≡ true → s (Some (lexeme.Sign Minus)) ≡ true → Leads (rule.item g) t s
  unfolding rule.item
  leads_item holds plus minus = leads_either (leads_first (leads_one (narrower_name holds.at_name))) (leads_first (leads_expr g holds plus minus))

  leads_items : {s t : Option Lexeme → Bool} → HoldsAtValue s → s (Some (lexeme.Sign Plus)) ≡ true → s (Some (lexeme.Sign Minus)) ≡ true → s (Some (lexeme.Sign Star)) ≡ true
      → Leads (rule.items g) t s
  unfolding rule.items
  leads_items holds plus minus star = leads_either (leads_first (leads_one (narrower_sign Star star))) (leads_first (leads_first (leads_item holds plus minus)))

  pub leads_query : {t s : Option Lexeme → Bool} → s (Some (lexeme.Key KwSelect)) ≡ true → Leads (rule.query g) t s
  unfolding rule.query
  leads_query select = leads_first (leads_one (narrower_key KwSelect select))

-- a query, or expressions
abbrev pub among_content : Parentheses → Rule Among
among_content g = Either (Then (rule.query g) (λ q. Empty (among_is.Query q))) (Then (expr_rule.listed (expr_rule.expr g)) (λ xs. Empty (among_is.Exprs xs)))

-- a query, or tables
abbrev pub source_content : Parentheses → Rule Source
source_content g = Either (Then (rule.query g) (λ q. Empty (source_is.Query q))) (Then (table_rule.table_reference g) (λ t. Empty (source_is.Tables t)))

item_by_name : (k : Nested) (ts : List Lexeme) → reads.item k ts ≡ choose (read_named k) (read_made k) (seen name_of (next ts)) ts
unfolding reads.item read_named read_made take
item_by_name k [] = refl
item_by_name k (lexeme.Name m ∷ ts) = refl
item_by_name k (lexeme.Key m ∷ ts) = refl
item_by_name k (lexeme.Sign m ∷ ts) = refl
item_by_name k (lexeme.Number m ∷ ts) = refl
item_by_name k (lexeme.Text m ∷ ts) = refl

module _ {n : ℕ} {g g' : Parentheses} {k k' : Nested} (level : LevelLaw n g g' k k') where
  alias_end : Lawful n (Maybe table_rule.called) (Maybe table_rule.called) alias alias ends_item
  unfolding same_sign same_keyword
  alias_end = narrower_law alias_law (narrower_item refl refl).into

  made_rest_law : (x : SqlExpr) → Lawful n (made_rest g x) (made_rest g' x) (reads.made_from k x) (reads.made_from k' x) ends_item
  unfolding reads.made_from same_keyword same_sign
  made_rest_law x = in_turn (expr_from_law level x) (λ y. made_law (Made y) alias_end) (λ y. leads_made_alias y refl (λ m. refl) (narrower_item refl refl))

  dotted_law : (m : List ℕ) → Lawful n (dotted g m) (dotted g' m) (λ ts. and_then (eat (is_sign Star) ts) (reads.dotted_by k m)) (λ ts. and_then (eat (is_sign Star) ts) (reads.dotted_by k' m)) ends_item
  unfolding same_sign
  dotted_law m =
      branch (is_sign Star) refl refl (reads.dotted_by k m) (reads.dotted_by k' m) (in_all (pure_law (AliasStar m)))
      (in_turn name_law (λ c. made_rest_law (Col (record { alias = Some m; column = c }))) (λ c. leads_always))
      (leads_first (leads_one (narrower_name (λ c. refl))))

  named_law : Lawful n (named g) (named g') (read_named k) (read_named k') ends_item
  unfolding read_named same_sign same_keyword
  named_law =
      in_turn name_law
      (λ m. branch (is_sign Dot) refl refl (reads.named_by k m) (reads.named_by k' m) (dotted_law m) (made_rest_law (Col (record { alias = None; column = m })))
      (leads_then {u = unless (seen (is_sign Dot))} (leads_expr_rest g (Col (record { alias = None; column = m })) refl refl refl refl refl narrower_same)
      (λ y. leads_made_alias y refl (λ c. refl) (narrower_item refl refl))))
      (λ m. leads_always)

  made_item_law : Lawful n (made_item g) (made_item g') (read_made k) (read_made k') ends_item
  unfolding read_made same_sign same_keyword
  made_item_law = in_turn (expr_law level) (λ y. made_law (Made y) alias_end) (λ y. leads_made_alias y refl (λ m. refl) (narrower_item refl refl))

  pub item_law : Lawful n (rule.item g) (rule.item g') (reads.item k) (reads.item k') ends_item
  item_law =
      equal_law (item_by_name k) (item_by_name k')
      (split_law (seen name_of) (choose (read_named k) (read_made k)) (choose (read_named k') (read_made k')) named_law made_item_law
      (named_back g) (named_back g') (made_back g) (made_back g') (named_into g) (made_into g))

  pub items_law : Lawful n (rule.items g) (rule.items g') (reads.items k) (reads.items k') ends_items
  unfolding rule.items reads.items same_sign same_keyword
  items_law =
      branch (is_sign Star) refl refl (reads.items_if k) (reads.items_if k') (in_all (pure_law items_are.Star))
      (made_law items_are.List (listed_law item_law refl (narrower_key KwFrom refl).into (narrower_key KwFrom refl).into))
      (leads_first (leads_first (leads_item g
      (record { at_number = λ m. refl; at_text = λ m. refl; at_name = λ m. refl; at_count = refl; at_sum = refl; at_min = refl; at_max = refl; at_paren = refl }) refl refl)))

  pub filter_law : Lawful n (Maybe (Then (One (is_key KwWhere)) (λ a. cond_rule.cond g))) (Maybe (Then (One (is_key KwWhere)) (λ a. cond_rule.cond g'))) (reads.filter k) (reads.filter k') ends_filter
  unfolding reads.filter same_keyword
  filter_law =
      narrower_law (maybe_law (begun_law (is_key KwWhere) refl refl (λ a. cond_law level)))
      (narrower_filter refl (narrower_grouping refl (narrower_query refl refl refl refl))).into

  pub having_law : Lawful n (Maybe (Then (One (is_key KwHaving)) (λ a. cond_rule.cond g))) (Maybe (Then (One (is_key KwHaving)) (λ a. cond_rule.cond g'))) (reads.having k) (reads.having k') ends_query
  unfolding reads.having same_keyword
  having_law = narrower_law (maybe_law (begun_law (is_key KwHaving) refl refl (λ a. cond_law level))) (narrower_query refl refl refl refl).into

  pub query_law : Lawful n (rule.query g) (rule.query g') (reads.query k) (reads.query k') ends_query
  unfolding rule.query reads.query reads.query_from reads.query_of reads.query_filtered reads.query_grouped same_keyword same_sign
  query_law =
      in_turn (key_law KwSelect)
      (λ select. in_turn distinct_law
      (λ once. in_turn items_law
      (λ selected. in_turn (key_law KwFrom)
      (λ from_word. in_turn (tables_law level (narrower_tables refl (narrower_filter refl (narrower_grouping refl (narrower_query refl refl refl refl))))
      (narrower_tables refl (narrower_filter refl (narrower_grouping refl (narrower_query refl refl refl refl)))))
      (λ from. in_turn filter_law
      (λ filter. in_turn grouping_law (λ group. made_law _ having_law) (λ group. after_grouping))
      (λ filter. leads_then (leads_grouping refl (narrower_right (seen (is_key KwGroup)) ends_grouping)) (λ group. after_grouping)))
      (λ from. leads_then (leads_maybe (leads_first (leads_one (narrower_key KwWhere refl))) (narrower_right (seen (is_key KwWhere)) ends_filter))
      (λ filter. leads_then (leads_grouping refl (narrower_right (seen (is_key KwGroup)) ends_grouping)) (λ group. after_grouping))))
      (λ from_word. leads_always))
      (λ selected. leads_first (leads_one narrower_same)))
      (λ once. leads_first (leads_items g
      (record { at_number = λ m. refl; at_text = λ m. refl; at_name = λ m. refl; at_count = refl; at_sum = refl; at_min = refl; at_max = refl; at_paren = refl }) refl refl refl)))
      (λ select. leads_always)
    where
      after_grouping : {A : Type 0} {f : Option SqlCond → A} → Leads (Then (Maybe (Then (One (is_key KwHaving)) (λ a. cond_rule.cond g))) (λ o. Empty (f o))) ends_query ends_grouping
      after_grouping = leads_made (leads_maybe (leads_first (leads_one (narrower_key KwHaving refl))) (narrower_right (seen (is_key KwHaving)) ends_query))

  pub select_law : Lawful n (rule.select g) (rule.select g') (reads.select k) (reads.select k') (seen (is_sign Semicolon))
  unfolding rule.select reads.select
  select_law = in_turn query_law (λ q. made_law _ ordering_law) (λ q. leads_made (leads_ordering refl (narrower_sign Semicolon refl)))

  pub among_content_law : Lawful n (among_content g) (among_content g') (reads.among k) (reads.among k') closes
  unfolding reads.among same_keyword
  among_content_law =
      by_test (seen (is_key KwSelect)) (reads.among_by k) (reads.among_by k')
      (made_law among_is.Query (narrower_law query_law (narrower_closes refl).into))
      (made_law among_is.Exprs (listed_law (expr_law level) refl (narrower_closes refl).into (narrower_closes refl).into))
      (leads_first (leads_query g refl))
      (leads_first (leads_first (leads_expr g
      (record { at_number = λ m. refl; at_text = λ m. refl; at_name = λ m. refl; at_count = refl; at_sum = refl; at_min = refl; at_max = refl; at_paren = refl }) refl refl)))

  pub source_content_law : Lawful n (source_content g) (source_content g') (reads.source k) (reads.source k') closes
  unfolding reads.source same_keyword
  source_content_law =
      by_test (seen (is_key KwSelect)) (reads.source_by k) (reads.source_by k')
      (made_law source_is.Query (narrower_law query_law (narrower_closes refl).into))
      (made_law source_is.Tables (narrower_law (table_reference_law level) (narrower_closes refl).into))
      (leads_first (leads_query g refl))
      (leads_first (leads_table g refl (λ m. refl)))
