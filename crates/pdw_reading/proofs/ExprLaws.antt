-- Value expressions are read by their rules.
use Rattle.std.proofs.Common.{◌≡◌, ℕ, Bool, true, false, not, ◌&&◌, List, [], ◌∷◌, ◌++◌, Option, Some, None, is_some, refl, sym, ◌∙◌, ap, subst}
use Rattle.pdw_expr.specs.declared.agg.AggKind.{AggKind}
use Rattle.pdw_expr.specs.declared.agg.AggKind.TheVariants.{CountStar, Count}
use Rattle.pdw_expr.specs.declared.scalar.Arith.{Arith}
use Rattle.pdw_lex.specs.declared.keyword.Keyword.TheVariants.{KwCount, KwSum, KwMin, KwMax}
use Rattle.pdw_lex.specs.declared.sign.Sign.TheVariants.{Dot, Comma, Star, Slash, Percent, Plus, Minus, ParenOpen, ParenClose}
use Rattle.pdw_lex.specs.declared.token.Lexeme.{Lexeme}
use Rattle.pdw_lex.specs.declared.token.Lexeme.TheVariants.{Key, Name, Number, Sign, Text}
use Rattle.pdw_syntax.specs.Rule.{Rule, ◌>>=◌, ◌>>◌, ◌<$>◌, ◌or◌, pure, Empty, One, one, Then, both, Either, first, second, Many, Enclosed, enclosed}
use Rattle.pdw_syntax.specs.Lexemes.{is_key, is_sign, same_keyword, same_sign, sign, key, name, number, text, name_of, number_of, text_of, minus_of, aggregate_of, term_operator_of, factor_operator_of}
use Rattle.pdw_syntax.specs.Parentheses.{Parentheses}
use Rattle.pdw_syntax.specs.Exprs as rule
use Rattle.pdw_syntax.specs.Exprs.{chained, operation, with_sign}
use Rattle.pdw_syntax.specs.declared.expr.ColRef.{ColRef}
use Rattle.pdw_syntax.specs.declared.expr.SqlExpr.{SqlExpr}
use Rattle.pdw_syntax.specs.declared.expr.SqlExpr.TheVariants as e
use Rattle.pdw_reading.specs.Reading.{Outcome, read, and_then, next, take, meaning_of, many}
use Rattle.pdw_reading.specs.ReadExprs.{Nested, listed, column_reference, column_from, column_after, aggregate, aggregate_by, count_of, value, value_by, signed, product_from, product, sum_from, expr, expr_from, counted, counted_by, operations, after_comma}
use Rattle.pdw_reading.proofs.Law.{Lawful, LawfulStep}
use Rattle.pdw_reading.proofs.Closure.{always, after, one_law, then_law, then_always, narrower_law}
use Rattle.pdw_reading.proofs.ClosureMany.{begun_law, maybe_law, many_law}
use Rattle.pdw_reading.proofs.ClosureNext.{same_law, next_law, branch_law, take_if_law}
use Rattle.pdw_reading.proofs.Level.{LevelLaw, counted as counted_around}
use Rattle.pdw_reading.proofs.MoreClosure.{pure_until, empty_follows, made_law, at_by_law, seen, one_first, next_append, some_not_none, none_not_some, false_not_true, key_is, no_sign, sign_seen, many_made_follows, and_left}
use Rattle.pdw_reading.proofs.Rules.{then_map, either_map, then_assoc, then_assoc_back, empty_then, empty_then_back, then_either, then_either_back, either_then, either_then_back, maybe_then, maybe_then_back, then_empty, made}
use Rattle.pdw_reading.proofs.Stops.{ends_expr}

-- ---- what follows an operand that is read already

-- { ( *, / or % ) signed }
abbrev pub product_rest : Parentheses → SqlExpr → Rule SqlExpr
product_rest g x = chained x <$> Many (operation factor_operator_of (rule.signed g))

-- { ( + or - ) product }
abbrev pub sum_rest : Parentheses → SqlExpr → Rule SqlExpr
sum_rest g x = chained x <$> Many (operation term_operator_of (rule.product g))

-- what follows the first value of an expression that no sign stands before
abbrev pub expr_rest : Parentheses → SqlExpr → Rule SqlExpr
expr_rest g x = product_rest g x >>= sum_rest g

-- what a COUNT counts
abbrev pub counted_in : Parentheses → Rule (Option SqlExpr)
counted_in g = (sign Star >> pure None) or (Some <$> rule.expr g)

-- no dot
abbrev pub ends_column : Option Lexeme → Bool
ends_column (Some (Sign Dot)) = false
ends_column o = true

-- no comma
abbrev pub is_no_comma : Option Lexeme → Bool
is_no_comma (Some (Sign Comma)) = false
is_no_comma o = true

-- ---- column references

-- after a first name
abbrev pub column_rest : List ℕ → Rule ColRef
column_rest n = (sign Dot >> (λ column. record { alias = Some n; column = column }) <$> name) or pure (record { alias = None; column = n })

name_law : {n : ℕ} → Lawful n name name (take name_of) (take name_of) always
name_law = one_law name_of (Name []) [] refl refl refl

column_from_law : {n : ℕ} (alias : List ℕ) → Lawful n (column_rest alias) (column_rest alias) (column_from alias) (column_from alias) ends_column
unfolding column_from same_sign
column_from_law alias = branch_law (is_sign Dot) refl refl (column_after alias) (column_after alias)
    (narrower_law (made_law (λ column. record { alias = Some alias; column = column }) name_law) (λ o e. refl))
    (pure_until (record { alias = None; column = alias }))
    (λ w b rest t e. ap is_some (no_sign Dot ends_column refl (next (w ++ rest)) (empty_follows ends_column w rest t e)))

-- an alias is the first of two names
column_into : (w : List Lexeme) (c : ColRef) → rule.column_reference w c → Then name column_rest w c
column_into w c t = then_either_back w c
    (either_map (λ w c t. then_map (λ w a t. t) (λ n w c t. then_map (λ w a t. t) (λ u w c t. empty_then n w c t) w c (then_assoc w c t)) w c (then_assoc w c t)) (λ w c t. t) w c (maybe_then w c t))

column_back : (w : List Lexeme) (c : ColRef) → Then name column_rest w c → rule.column_reference w c
column_back w c t = maybe_then_back w c
    (either_map (λ w c t. then_assoc_back w c (then_map (λ w a t. t) (λ n w c t. then_assoc_back w c (then_map (λ w a t. t) (λ u w c t. empty_then_back n w c t) w c t)) w c t)) (λ w c t. t) w c (then_either w c t))

pub column_reference_law : {n : ℕ} → Lawful n rule.column_reference rule.column_reference column_reference column_reference ends_column
unfolding column_reference
column_reference_law {n} = same_law column_into column_back column_back (then_always name_law column_from_law)

-- ---- lists

rest_law : {A : Type 0} {n : ℕ} {R S : List Lexeme → A → Type 0} {r q : List Lexeme → Outcome A} {ends : Option Lexeme → Bool}
    → Lawful n R S r q ends → ends (Some (Sign Comma)) ≡ true
    → Lawful n (Many (sign Comma >> R)) (Many (sign Comma >> S)) (many (after_comma r)) (many (after_comma q)) (after ends (λ o. is_some (meaning_of (is_sign Comma) o)))
unfolding same_sign
rest_law {ends = ends} item at_comma = many_law (begun_law (is_sign Comma) refl refl (λ u. item)) (λ l. sign_seen Comma ends at_comma (Some l))

pub both_hold : (a b : Bool) → a ≡ true → b ≡ false → (a && not b) ≡ true
both_hold true false s t = refl
both_hold true true s t = sym t
both_hold false b s t = s

pub listed_law : {A : Type 0} {n : ℕ} {R S : List Lexeme → A → Type 0} {r q : List Lexeme → Outcome A} {ends stops : Option Lexeme → Bool}
    → Lawful n R S r q ends → ends (Some (Sign Comma)) ≡ true
    → ((o : Option Lexeme) → stops o ≡ true → ends o ≡ true) → ((o : Option Lexeme) → stops o ≡ true → is_no_comma o ≡ true)
    → Lawful n (rule.listed R) (rule.listed S) (listed r) (listed q) stops
unfolding listed
listed_law {ends = ends} {stops = stops} item at_comma narrower no_comma = then_law item
    (λ x. made_law (λ xs. x ∷ xs) (narrower_law (rest_law item at_comma)
    (λ o t. both_hold (ends o) _ (narrower o t) (ap is_some (no_sign Comma is_no_comma refl o (no_comma o t))))))
    (λ a b v rest t e. many_made_follows ends (λ o. sign_seen Comma ends at_comma o) v b rest t (narrower (next rest) e))

-- ---- aggregates

-- after the word of the aggregate
abbrev pub aggregate_rest : Parentheses → AggKind → Rule SqlExpr
aggregate_rest g Count = count_of <$> counted_around g
aggregate_rest g kind = (λ x. e.Agg kind (Some x)) <$> Enclosed g.expr

count_is : (l : Lexeme) (u : Unit {0}) → is_key KwCount l ≡ Some u → aggregate_of l ≡ Some Count
count_is l u h = ap aggregate_of (key_is KwCount l u h)

is_count : (l : Lexeme) → aggregate_of l ≡ Some Count → is_key KwCount l ≡ Some tt
unfolding same_keyword
is_count (Key KwCount) h = refl
is_count (Key KwSum) h = absurd cc
is_count (Key KwMin) h = absurd cc
is_count (Key KwMax) h = absurd cc
is_count (Key k) h = none_not_some Count h
is_count l h = none_not_some Count h

count_lexeme : (w : List Lexeme) (u : Unit {0}) → key KwCount w u → One aggregate_of w Count
count_lexeme w u (one l h) = one l (count_is l u h)

lexeme_count : (w : List Lexeme) → One aggregate_of w Count → key KwCount w tt
lexeme_count w (one l h) = one l (is_count l h)

star_into : (g : Parentheses) (w : List Lexeme) (x : SqlExpr) → Then (Enclosed g.star) (λ u. Empty (e.Agg CountStar None)) w x → (count_of <$> counted_around g) w x
star_into g w x t = either_then_back w x (first (then_assoc_back w x (then_map (λ w a t. t) (λ u w x t. empty_then_back None w x t) w x t)))

counted_into : (g : Parentheses) (w : List Lexeme) (x : SqlExpr) → Then (Enclosed g.expr) (λ x. Empty (e.Agg Count (Some x))) w x → (count_of <$> counted_around g) w x
counted_into g w x t = either_then_back w x (second (then_assoc_back w x (then_map (λ w a t. t) (λ y w x t. empty_then_back (Some y) w x t) w x t)))

counted_back : (g : Parentheses) (w : List Lexeme) (x : SqlExpr) → (count_of <$> counted_around g) w x
    → Either (Then (Enclosed g.star) (λ u. Empty (e.Agg CountStar None))) (Then (Enclosed g.expr) (λ x. Empty (e.Agg Count (Some x)))) w x
counted_back g w x t = either_map
    (λ w x t. then_map (λ w a t. t) (λ u w x t. empty_then None w x t) w x (then_assoc w x t))
    (λ w x t. then_map (λ w a t. t) (λ y w x t. empty_then (Some y) w x t) w x (then_assoc w x t)) w x (either_then w x t)

count_parentheses : (g : Parentheses) (w : List Lexeme) (x : SqlExpr) → Then (key KwCount) (λ u. Then (Enclosed g.star) (λ u. Empty (e.Agg CountStar None))) w x → Then (One aggregate_of) (aggregate_rest g) w x
count_parentheses g w x (both {a = a} u v t s) = both {a = Count} u v (count_lexeme u a t) (star_into g v x s)

kind_parentheses : (g : Parentheses) (kind : AggKind) (w : List Lexeme) (x : SqlExpr) → Then (Enclosed g.expr) (λ x. Empty (e.Agg kind (Some x))) w x → aggregate_rest g kind w x
kind_parentheses g Count w x t = counted_into g w x t
kind_parentheses g kind w x t = t

aggregate_into : (g : Parentheses) (w : List Lexeme) (x : SqlExpr) → rule.aggregate g w x → Then (One aggregate_of) (aggregate_rest g) w x
unfolding rule.aggregate
aggregate_into g w x (first t) = count_parentheses g w x (then_assoc w x t)
aggregate_into g w x (second t) = then_map (λ w a t. t) (kind_parentheses g) w x t

aggregate_made : (g : Parentheses) (kind : AggKind) (u v : List Lexeme) (x : SqlExpr) → One aggregate_of u kind → aggregate_rest g kind v x → rule.aggregate g (u ++ v) x
unfolding rule.aggregate
aggregate_made g Count u v x t s = go (counted_back g v x s)
  where
    go : Either (Then (Enclosed g.star) (λ u. Empty (e.Agg CountStar None))) (Then (Enclosed g.expr) (λ x. Empty (e.Agg Count (Some x)))) v x → rule.aggregate g (u ++ v) x
    go (first s) = first (then_assoc_back (u ++ v) x (both u v (lexeme_count u t) s))
    go (second s) = second (both u v t s)
aggregate_made g kind u v x t s = second (both u v t s)

aggregate_back : (g : Parentheses) (w : List Lexeme) (x : SqlExpr) → Then (One aggregate_of) (aggregate_rest g) w x → rule.aggregate g w x
aggregate_back g w x (both {a = kind} u v t s) = aggregate_made g kind u v x t s

aggregate_rest_law : {n : ℕ} {g g' : Parentheses} {k k' : Nested} → LevelLaw n g g' k k' → (kind : AggKind)
    → Lawful n (aggregate_rest g kind) (aggregate_rest g' kind) (aggregate_by k kind) (aggregate_by k' kind) always
aggregate_rest_law level Count = made_law count_of level.counts
aggregate_rest_law level kind = made_law (λ x. e.Agg kind (Some x)) level.expr

aggregate_law : {n : ℕ} {g g' : Parentheses} {k k' : Nested} → LevelLaw n g g' k k' → Lawful n (rule.aggregate g) (rule.aggregate g') (aggregate k) (aggregate k') always
unfolding aggregate
aggregate_law {g = g} {g' = g'} level = same_law (aggregate_into g) (aggregate_back g) (aggregate_back g')
    (then_always (one_law aggregate_of (Key KwCount) Count refl refl refl) (aggregate_rest_law level))

-- ---- values

-- the values that this lexeme begins
abbrev pub value_at : Parentheses → Option Lexeme → Rule SqlExpr
value_at g (Some (Number n)) = e.Number <$> number
value_at g (Some (Text t)) = e.Text <$> text
value_at g (Some (Name n)) = e.Col <$> rule.column_reference
value_at g (Some (Key k)) = rule.aggregate g
value_at g o = e.Paren <$> Enclosed g.expr

-- whether a value may begin so
abbrev pub starts_value : Option Lexeme → Bool
starts_value (Some (Number n)) = true
starts_value (Some (Text t)) = true
starts_value (Some (Name n)) = true
starts_value (Some (Key k)) = is_some (aggregate_of (Key k))
starts_value (Some (Sign ParenOpen)) = true
starts_value o = false

number_at : (g : Parentheses) (o : Option Lexeme) (w : List Lexeme) (x : SqlExpr) → is_some (meaning_of number_of o) ≡ true → (e.Number <$> number) w x → value_at g o w x
number_at g (Some (Number n)) w x h t = t
number_at g o w x h t = false_not_true h

text_at : (g : Parentheses) (o : Option Lexeme) (w : List Lexeme) (x : SqlExpr) → is_some (meaning_of text_of o) ≡ true → (e.Text <$> text) w x → value_at g o w x
text_at g (Some (Text n)) w x h t = t
text_at g o w x h t = false_not_true h

column_at : (g : Parentheses) (o : Option Lexeme) (w : List Lexeme) (x : SqlExpr) → is_some (meaning_of name_of o) ≡ true → (e.Col <$> rule.column_reference) w x → value_at g o w x
column_at g (Some (Name n)) w x h t = t
column_at g o w x h t = false_not_true h

aggregate_at : (g : Parentheses) (o : Option Lexeme) (w : List Lexeme) (x : SqlExpr) → is_some (meaning_of aggregate_of o) ≡ true → rule.aggregate g w x → value_at g o w x
aggregate_at g (Some (Key k)) w x h t = t
aggregate_at g o w x h t = false_not_true h

pub parentheses_first : {A : Type 0} {R : List Lexeme → A → Type 0} (w : List Lexeme) (a : A) (rest : List Lexeme) → Enclosed R w a → next (w ++ rest) ≡ Some (Sign ParenOpen)
parentheses_first w a rest (enclosed inner r) = refl

aggregate_first : (g : Parentheses) (w : List Lexeme) (x : SqlExpr) (rest : List Lexeme) → rule.aggregate g w x → is_some (meaning_of aggregate_of (next (w ++ rest))) ≡ true
aggregate_first g w x rest t = one_first w x rest (aggregate_into g w x t)

pub then_parentheses_first : {A B : Type 0} {R : List Lexeme → A → Type 0} {S : A → List Lexeme → B → Type 0} (w : List Lexeme) (b : B) (rest : List Lexeme)
    → Then (Enclosed R) S w b → next (w ++ rest) ≡ Some (Sign ParenOpen)
then_parentheses_first w b rest (both {a = a} u v t s) = next_append u v rest ∙ parentheses_first u a (v ++ rest) t

column_first : (w : List Lexeme) (x : SqlExpr) (rest : List Lexeme) → (e.Col <$> rule.column_reference) w x → is_some (meaning_of name_of (next (w ++ rest))) ≡ true
column_first w x rest (both {a = c} u v t s) = ap (λ o. is_some (meaning_of name_of o)) (next_append u v rest) ∙ one_first u c (v ++ rest) (column_into u c t)

pub value_into : (g : Parentheses) (w : List Lexeme) (x : SqlExpr) (rest : List Lexeme) → rule.value g w x → value_at g (next (w ++ rest)) w x
unfolding rule.value
value_into g w x rest (first t) = number_at g (next (w ++ rest)) w x (one_first w x rest t) t
value_into g w x rest (second (first t)) = text_at g (next (w ++ rest)) w x (one_first w x rest t) t
value_into g w x rest (second (second (first t))) = column_at g (next (w ++ rest)) w x (column_first w x rest t) t
value_into g w x rest (second (second (second (first t)))) = aggregate_at g (next (w ++ rest)) w x (aggregate_first g w x rest t) t
value_into g w x rest (second (second (second (second t)))) = let P : Option Lexeme → Type 0 = λ o. value_at g o w x in subst P (sym (then_parentheses_first w x rest t)) t

pub value_back : (g : Parentheses) (o : Option Lexeme) (w : List Lexeme) (x : SqlExpr) → value_at g o w x → rule.value g w x
unfolding rule.value
value_back g (Some (Number n)) w x t = first t
value_back g (Some (Text n)) w x t = second (first t)
value_back g (Some (Name n)) w x t = second (second (first t))
value_back g (Some (Key k)) w x t = second (second (second (first t)))
value_back g (Some (Sign s)) w x t = second (second (second (second t)))
value_back g None w x t = second (second (second (second t)))

value_here : (g : Parentheses) (o : Option Lexeme) (w : List Lexeme) (x : SqlExpr) (rest : List Lexeme) → next (w ++ rest) ≡ o → rule.value g w x → value_at g o w x
value_here g o w x rest at t = let P : Option Lexeme → Type 0 = λ o. value_at g o w x in subst P at (value_into g w x rest t)

-- how the values that this lexeme begins are read by their own rules
abbrev value_reader : Nested → Option Lexeme → List Lexeme → Outcome SqlExpr
value_reader k (Some (Number n)) = λ ts. and_then (take number_of ts) (λ n ts. read (e.Number n) ts)
value_reader k (Some (Text t)) = λ ts. and_then (take text_of ts) (λ t ts. read (e.Text t) ts)
value_reader k (Some (Name n)) = λ ts. and_then (column_reference ts) (λ c ts. read (e.Col c) ts)
value_reader k (Some (Key j)) = aggregate k
value_reader k o = λ ts. and_then (k.expr ts) (λ x ts. read (e.Paren x) ts)

value_read : (k : Nested) (o : Option Lexeme) (ts : List Lexeme) → next ts ≡ o → value_by k o ts ≡ value_reader k o ts
unfolding column_reference
value_read k (Some (Number n)) ts at = sym (seen number_of n (λ n ts. read (e.Number n) ts) ts (ap (meaning_of number_of) at))
value_read k (Some (Text t)) ts at = sym (seen text_of t (λ t ts. read (e.Text t) ts) ts (ap (meaning_of text_of) at))
value_read k (Some (Name n)) ts at = sym (ap (λ out. and_then out (λ c ts. read (e.Col c) ts)) (seen name_of n column_from ts (ap (meaning_of name_of) at)))
value_read k (Some (Key j)) ts at = refl
value_read k (Some (Sign s)) ts at = refl
value_read k None ts at = refl

value_reader_law : {n : ℕ} {g g' : Parentheses} {k k' : Nested} → LevelLaw n g g' k k' → (o : Option Lexeme)
    → Lawful n (value_at g o) (value_at g' o) (value_reader k o) (value_reader k' o) ends_column
value_reader_law level (Some (Number n)) = narrower_law (made_law e.Number (one_law number_of (Number n) n refl refl refl)) (λ o h. refl)
value_reader_law level (Some (Text t)) = narrower_law (made_law e.Text (one_law text_of (Text t) t refl refl refl)) (λ o h. refl)
value_reader_law level (Some (Name n)) = made_law e.Col column_reference_law
value_reader_law level (Some (Key j)) = narrower_law (aggregate_law level) (λ o h. refl)
value_reader_law level (Some (Sign s)) = narrower_law (made_law e.Paren level.expr) (λ o h. refl)
value_reader_law level None = narrower_law (made_law e.Paren level.expr) (λ o h. refl)

value_law : {n : ℕ} {g g' : Parentheses} {k k' : Nested} → LevelLaw n g g' k k' → Lawful n (rule.value g) (rule.value g') (value k) (value k') ends_column
unfolding value
value_law {n} {g} {g'} {k} {k'} level = next_law {f = value_by k} {g = value_by k'}
    (λ o. at_by_law o (value_reader_law level o) (value_back g o) (value_back g' o) (λ w x rest at t h. value_here g o w x rest at t) (value_read k o) (value_read k' o))
    (λ w x t. value_back g' (next (w ++ [])) w x ((value_reader_law level (next (w ++ []))).wider w x (value_into g w x [] t)))
    (λ w x t. (value_reader_law level (next (w ++ []))).balanced w x (value_into g w x [] t))
    (record { text = Text [] ∷ []; means = e.Text []; spells = value_back g' (Some (Text [])) _ _ (made e.Text (Text [] ∷ []) [] (one (Text []) refl)) })

-- ---- signs

number_starts : (o : Option Lexeme) → is_some (meaning_of number_of o) ≡ true → starts_value o ≡ true
number_starts (Some (Number n)) h = refl
number_starts o h = false_not_true h

text_starts : (o : Option Lexeme) → is_some (meaning_of text_of o) ≡ true → starts_value o ≡ true
text_starts (Some (Text n)) h = refl
text_starts o h = false_not_true h

name_starts : (o : Option Lexeme) → is_some (meaning_of name_of o) ≡ true → starts_value o ≡ true
name_starts (Some (Name n)) h = refl
name_starts o h = false_not_true h

aggregate_starts : (o : Option Lexeme) → is_some (meaning_of aggregate_of o) ≡ true → starts_value o ≡ true
aggregate_starts (Some (Key k)) h = h
aggregate_starts o h = false_not_true h

value_first : (g : Parentheses) (w : List Lexeme) (x : SqlExpr) (rest : List Lexeme) → rule.value g w x → starts_value (next (w ++ rest)) ≡ true
unfolding rule.value
value_first g w x rest (first t) = number_starts _ (one_first w x rest t)
value_first g w x rest (second (first t)) = text_starts _ (one_first w x rest t)
value_first g w x rest (second (second (first t))) = name_starts _ (column_first w x rest t)
value_first g w x rest (second (second (second (first t)))) = aggregate_starts _ (aggregate_first g w x rest t)
value_first g w x rest (second (second (second (second t)))) = ap starts_value (then_parentheses_first w x rest t)

no_sign_begins : (o : Option Lexeme) → starts_value o ≡ true → meaning_of minus_of o ≡ None
no_sign_begins (Some (Sign Plus)) h = false_not_true h
no_sign_begins (Some (Sign Minus)) h = false_not_true h
no_sign_begins (Some (Sign s)) h = refl
no_sign_begins o h = refl

no_second_sign : (g : Parentheses) (minus : Option Bool) (x : SqlExpr) (w rest : List Lexeme) → (with_sign minus <$> rule.value g) w x → ends_column (next rest) ≡ true
    → after always (λ o. is_some (meaning_of minus_of o)) (next (w ++ rest)) ≡ true
no_second_sign g minus x w rest (both {a = y} u v t s) h = ap (λ o. not (is_some (meaning_of minus_of o))) (next_append u v rest)
    ∙ ap (λ m. not (is_some m)) (no_sign_begins (next (u ++ (v ++ rest))) (value_first g u y (v ++ rest) t))

signed_law : {n : ℕ} {g g' : Parentheses} {k k' : Nested} → LevelLaw n g g' k k' → Lawful n (rule.signed g) (rule.signed g') (signed k) (signed k') ends_column
unfolding signed rule.signed
signed_law {g = g} level = then_law (maybe_law (take_if_law minus_of refl refl)) (λ minus. made_law (with_sign minus) (value_law level)) (no_second_sign g)

-- ---- operations

operations_law : {n : ℕ} {R S : Rule SqlExpr} {r q : List Lexeme → Outcome SqlExpr} {ends : Option Lexeme → Bool} (operator : Lexeme → Option Arith)
    → operator (Sign ParenOpen) ≡ None → operator (Sign ParenClose) ≡ None → Lawful n R S r q ends
    → LawfulStep n (operation operator R) (operation operator S) (operations operator r) (operations operator q) ends (λ o. is_some (meaning_of operator o))
operations_law operator no_open no_close operand = begun_law operator no_open no_close (λ op. made_law (λ x. (op, x)) operand)

abbrev pub ends_product : Option Lexeme → Bool
ends_product = after ends_column (λ o. is_some (meaning_of factor_operator_of o))

factor_ends : (o : Option Lexeme) → is_some (meaning_of factor_operator_of o) ≡ true → ends_column o ≡ true
factor_ends (Some (Sign Dot)) h = h
factor_ends (Some (Sign s)) h = refl
factor_ends o h = refl

term_ends : (o : Option Lexeme) → is_some (meaning_of term_operator_of o) ≡ true → ends_product o ≡ true
term_ends (Some (Sign Plus)) h = refl
term_ends (Some (Sign Minus)) h = refl
term_ends (Some (Sign s)) h = false_not_true h
term_ends o h = false_not_true h

ends_of_expr : (o : Option Lexeme) → ends_expr o ≡ true → after ends_product (λ o. is_some (meaning_of term_operator_of o)) o ≡ true
ends_of_expr (Some (Sign Dot)) h = h
ends_of_expr (Some (Sign Star)) h = h
ends_of_expr (Some (Sign Slash)) h = h
ends_of_expr (Some (Sign Percent)) h = h
ends_of_expr (Some (Sign Plus)) h = h
ends_of_expr (Some (Sign Minus)) h = h
ends_of_expr (Some (Sign s)) h = refl
ends_of_expr o h = refl

ends_product_of_expr : (o : Option Lexeme) → ends_expr o ≡ true → ends_product o ≡ true
ends_product_of_expr o h = and_left (ends_product o) _ (ends_of_expr o h)

product_from_law : {n : ℕ} {g g' : Parentheses} {k k' : Nested} → LevelLaw n g g' k k' → (x : SqlExpr)
    → Lawful n (product_rest g x) (product_rest g' x) (product_from k x) (product_from k' x) ends_product
unfolding product_from
product_from_law level x = made_law (chained x) (many_law (operations_law factor_operator_of refl refl (signed_law level)) (λ l. factor_ends (Some l)))

product_law : {n : ℕ} {g g' : Parentheses} {k k' : Nested} → LevelLaw n g g' k k' → Lawful n (rule.product g) (rule.product g') (product k) (product k') ends_product
unfolding product rule.product
product_law level = then_law (signed_law level) (product_from_law level)
    (λ a b v rest t h. many_made_follows ends_column factor_ends v b rest t (and_left (ends_column (next rest)) _ h))

sum_from_law : {n : ℕ} {g g' : Parentheses} {k k' : Nested} → LevelLaw n g g' k k' → (x : SqlExpr)
    → Lawful n (sum_rest g x) (sum_rest g' x) (sum_from k x) (sum_from k' x) ends_expr
unfolding sum_from
sum_from_law level x = made_law (chained x) (narrower_law (many_law (operations_law term_operator_of refl refl (product_law level)) (λ l. term_ends (Some l))) ends_of_expr)

sum_follows : (g : Parentheses) (x y : SqlExpr) (v rest : List Lexeme) → sum_rest g x v y → ends_expr (next rest) ≡ true → ends_product (next (v ++ rest)) ≡ true
sum_follows g x y v rest t h = many_made_follows ends_product term_ends v y rest t (ends_product_of_expr (next rest) h)

pub expr_law : {n : ℕ} {g g' : Parentheses} {k k' : Nested} → LevelLaw n g g' k k' → Lawful n (rule.expr g) (rule.expr g') (expr k) (expr k') ends_expr
unfolding expr rule.expr
expr_law {g = g} level = then_law (product_law level) (sum_from_law level) (sum_follows g)

-- an expression whose first value is read already
pub expr_from_law : {n : ℕ} {g g' : Parentheses} {k k' : Nested} → LevelLaw n g g' k k' → (x : SqlExpr)
    → Lawful n (expr_rest g x) (expr_rest g' x) (expr_from k x) (expr_from k' x) ends_expr
unfolding expr_from
expr_from_law {g = g} level x = then_law (product_from_law level x) (sum_from_law level) (sum_follows g)

-- ---- what an expression begins with

-- whether an expression may begin so
abbrev pub starts_expr : Option Lexeme → Bool
starts_expr (Some (Sign Plus)) = true
starts_expr (Some (Sign Minus)) = true
starts_expr o = starts_value o

sign_starts : (o : Option Lexeme) → is_some (meaning_of minus_of o) ≡ true → starts_expr o ≡ true
sign_starts (Some (Sign Plus)) h = refl
sign_starts (Some (Sign Minus)) h = refl
sign_starts (Some (Sign s)) h = false_not_true h
sign_starts o h = false_not_true h

value_starts : (o : Option Lexeme) → starts_value o ≡ true → starts_expr o ≡ true
value_starts (Some (Sign Plus)) h = refl
value_starts (Some (Sign Minus)) h = refl
value_starts (Some (Sign s)) h = h
value_starts o h = h

signed_parts : (g : Parentheses) (w : List Lexeme) (x : SqlExpr) → rule.signed g w x
    → Either (Then (One minus_of) (λ minus. Then (rule.value g) (λ x. Empty (with_sign (Some minus) x)))) (rule.value g) w x
unfolding rule.signed
signed_parts g w x t = either_map (λ w x t. t) (λ w x t. then_empty w x t) w x (maybe_then w x t)

expr_parts : (g : Parentheses) (w : List Lexeme) (x : SqlExpr) → rule.expr g w x → Then (rule.signed g) (expr_rest g) w x
unfolding rule.expr rule.product
expr_parts g w x t = then_assoc w x t

signed_first : (g : Parentheses) (w : List Lexeme) (x : SqlExpr) (rest : List Lexeme) → rule.signed g w x → starts_expr (next (w ++ rest)) ≡ true
signed_first g w x rest t = go (signed_parts g w x t)
  where
    go : Either (Then (One minus_of) (λ minus. Then (rule.value g) (λ x. Empty (with_sign (Some minus) x)))) (rule.value g) w x → starts_expr (next (w ++ rest)) ≡ true
    go (first t) = sign_starts _ (one_first w x rest t)
    go (second t) = value_starts _ (value_first g w x rest t)

parts_first : (g : Parentheses) (w : List Lexeme) (x : SqlExpr) (rest : List Lexeme) → Then (rule.signed g) (expr_rest g) w x → starts_expr (next (w ++ rest)) ≡ true
parts_first g w x rest (both {a = y} u v t s) = ap starts_expr (next_append u v rest) ∙ signed_first g u y (v ++ rest) t

pub expr_first : (g : Parentheses) (w : List Lexeme) (x : SqlExpr) (rest : List Lexeme) → rule.expr g w x → starts_expr (next (w ++ rest)) ≡ true
expr_first g w x rest t = parts_first g w x rest (expr_parts g w x t)

pub counted_content_law : {n : ℕ} {g g' : Parentheses} {k k' : Nested} → LevelLaw n g g' k k'
    → Lawful n (counted_in g) (counted_in g') (counted k) (counted k') ends_expr
unfolding counted same_sign
counted_content_law {g = g} {k = k} {k' = k'} level = branch_law (is_sign Star) refl refl (counted_by k) (counted_by k') (pure_until None) (made_law (λ x. Some x) (expr_law level))
    (λ w x rest t h. ap is_some (no_sign Star starts_expr refl (next (w ++ rest)) (made_first w x rest t)))
  where
    made_first : (w : List Lexeme) (x : Option SqlExpr) (rest : List Lexeme) → Then (rule.expr g) (λ x. Empty (Some x)) w x → starts_expr (next (w ++ rest)) ≡ true
    made_first w x rest (both {a = y} u v t s) = ap starts_expr (next_append u v rest) ∙ expr_first g u y (v ++ rest) t

-- ---- an expression by its first value

-- a value and what follows it make an expression
pub expr_of_value : (g : Parentheses) (w : List Lexeme) (x : SqlExpr) → Then (rule.value g) (expr_rest g) w x → rule.expr g w x
unfolding rule.expr rule.product rule.signed
expr_of_value g w x t = then_assoc_back w x (then_map (λ w x t. maybe_then_back w x (second (made (with_sign None) w x t))) (λ a w x t. t) w x t)

-- an expression that no sign begins is a value and what follows it
pub value_of_expr : (g : Parentheses) (w : List Lexeme) (x : SqlExpr) (rest : List Lexeme) → rule.expr g w x → meaning_of minus_of (next (w ++ rest)) ≡ None
    → Then (rule.value g) (expr_rest g) w x
value_of_expr g w x rest t h = go w x (expr_parts g w x t) h
  where
    unsigned : (u : List Lexeme) (x : SqlExpr) (rest : List Lexeme) → meaning_of minus_of (next (u ++ rest)) ≡ None
        → Either (Then (One minus_of) (λ minus. Then (rule.value g) (λ x. Empty (with_sign (Some minus) x)))) (rule.value g) u x → rule.value g u x
    unsigned u x rest h (first t) = some_not_none minus_of (next (u ++ rest)) h (one_first u x rest t)
    unsigned u x rest h (second t) = t

    go : (w : List Lexeme) (x : SqlExpr) → Then (rule.signed g) (expr_rest g) w x → meaning_of minus_of (next (w ++ rest)) ≡ None → Then (rule.value g) (expr_rest g) w x
    go w x (both {a = y} u v t s) h = both u v (unsigned u y (v ++ rest) (ap (meaning_of minus_of) (sym (next_append u v rest)) ∙ h) (signed_parts g u y t)) s
