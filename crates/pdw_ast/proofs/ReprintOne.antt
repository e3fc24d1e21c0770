-- Rules of one lexeme, and their canonical tokens.
use Rattle.std.proofs.Common.{◌≡◌, ℕ, ℤ, Bool, true, false, List, [], ◌∷◌, codes, Option, Some, None, refl, ap, subst, if◌then◌else◌}
use Rattle.std.specs.Option.{unwrap_or}
use Rattle.std.specs.Str.{bytes_eq}
use Rattle.std.proofs.lemmas.Slice.Eq.{bytes_eq-Decides}
use denote.Enum.Bare.{true_same}
use Rattle.pdw_base.specs.declared.truth.Truth.{Truth}
use Rattle.pdw_base.specs.declared.value.Kind.{Kind}
use Rattle.pdw_base.specs.declared.value.Kind.TheVariants as kind
use Rattle.pdw_expr.specs.declared.agg.AggKind.{AggKind}
use Rattle.pdw_expr.specs.declared.cond.Cmp.{Cmp}
use Rattle.pdw_expr.specs.declared.scalar.Arith.{Arith}
use Rattle.pdw_lex.specs.contracts.keyword.Keyword.{the_type as the_keywords}
use Rattle.pdw_lex.specs.contracts.sign.Sign.{the_type as the_signs}
use Rattle.pdw_lex.specs.declared.keyword.Keyword.{Keyword}
use Rattle.pdw_lex.specs.declared.keyword.Keyword.TheVariants as k
use Rattle.pdw_lex.specs.declared.sign.Sign.{Sign}
use Rattle.pdw_lex.specs.declared.sign.Sign.TheVariants as s
use Rattle.pdw_lex.specs.declared.token.Lexeme.{Lexeme}
use Rattle.pdw_lex.specs.declared.token.Lexeme.TheVariants as lexeme
use Rattle.pdw_syntax.specs.Rule.{One, one, Then}
use Rattle.pdw_syntax.specs.Lexemes as rule
use Rattle.pdw_syntax.specs.Lexemes.{same_keyword, same_sign, is_key, is_sign, is_word}
use Rattle.pdw_ast.specs.Written as written
use Rattle.pdw_ast.specs.Written.{Written}
use Rattle.pdw_ast.specs.Spelling as spelling
use Rattle.pdw_ast.specs.Spelling.{Spelling}
use Rattle.pdw_syntax.specs.declared.query.JoinWord.{JoinWord}
use Rattle.pdw_syntax.specs.declared.query.OrderName.{OrderName}
use Rattle.pdw_syntax.specs.declared.query.OrderName.TheVariants as order
use Rattle.pdw_syntax.specs.declared.statement.CostPart.{CostPart}
use Rattle.pdw_syntax.specs.declared.statement.CostPart.TheVariants as cost
use Rattle.pdw_ast.proofs.Valid.{Valid, Spelled}
use Rattle.pdw_ast.proofs.Reprint.{Printed, Reprints, Continues, Token, none_not_some, printed_one, always}
use Rattle.pdw_ast.proofs.ReprintTokens.{key_spelled, sign_spelled, int_spelled, text_word_spelled, reader_spelled, hashreader_spelled, network_spelled, writer_spelled, bulk_spelled, control_spelled, name_spelled, text_spelled, number_spelled}

some_same : {A : Type 0} {x y : A} → Some x ≡ Some y → x ≡ y
some_same {x = x} e = ap (λ o. unwrap_or o x) e

-- ---- lexemes that mean nothing but themselves

key_token : (keyword : Keyword) → Token (is_key keyword) (written.key keyword) tt
unfolding same_keyword
key_token keyword = record { means = ap (λ t. if t then Some tt else None) (true_same the_keywords keyword keyword refl); spelled = key_spelled keyword }

sign_token : (t : Sign) → Token (is_sign t) (written.sign t) tt
unfolding same_sign
sign_token t = record { means = ap (λ same. if same then Some tt else None) (true_same the_signs t t refl); spelled = sign_spelled t }

word_token : (w : List ℕ) → Spelled (written.word w) → Token (is_word w) (written.word w) tt
word_token w spelled = record { means = ap (λ same. if same then Some tt else None) ((bytes_eq-Decides w w).1 refl); spelled = spelled }

pub printed_key : {w : List Lexeme} (keyword : Keyword) → Printed (rule.key keyword) (written.key keyword ∷ []) w tt
printed_key keyword = printed_one (key_token keyword)

printed_sign : {w : List Lexeme} (t : Sign) → Printed (rule.sign t) (written.sign t ∷ []) w tt
printed_sign t = printed_one (sign_token t)

printed_word : {w : List Lexeme} (place : List ℕ) → Spelled (written.word place) → Printed (rule.word place) (written.word place ∷ []) w tt
printed_word place spelled = printed_one (word_token place spelled)

pub key_reprints : (keyword : Keyword) → Reprints (rule.key keyword) (λ u. written.key keyword ∷ [])
key_reprints keyword = record { from = λ w u r. printed_key keyword }

pub sign_reprints : (t : Sign) → Reprints (rule.sign t) (λ u. written.sign t ∷ [])
sign_reprints t = record { from = λ w u r. printed_sign t }

pub word_reprints : {place : List ℕ} → Spelled (written.word place) → Reprints (rule.word place) (λ u. written.word place ∷ [])
word_reprints {place = place} spelled = record { from = λ w u r. printed_word place spelled }

pub at_key : {A : Type 0} {S : List Lexeme → A → Type 0} {front : Spelling → Spelling} {h : A → Spelling} (keyword : Keyword)
    → Continues (λ tokens. front (written.key keyword ∷ tokens)) S h → Continues front (Then (rule.key keyword) (λ x. S)) h
at_key keyword follows = always (λ w. printed_key keyword) follows

pub at_sign : {A : Type 0} {S : List Lexeme → A → Type 0} {front : Spelling → Spelling} {h : A → Spelling} (t : Sign)
    → Continues (λ tokens. front (written.sign t ∷ tokens)) S h → Continues front (Then (rule.sign t) (λ x. S)) h
at_sign t follows = always (λ w. printed_sign t) follows

pub at_word : {A : Type 0} {S : List Lexeme → A → Type 0} {front : Spelling → Spelling} {h : A → Spelling} {place : List ℕ} → Spelled (written.word place)
    → Continues (λ tokens. front (written.word place ∷ tokens)) S h → Continues front (Then (rule.word place) (λ x. S)) h
at_word {place = place} spelled follows = always (λ w. printed_word place spelled) follows

-- ---- lexemes that carry a value

known : {A : Type 0} (P : A → Type 0) {x a : A} → P x → Some x ≡ Some a → P a
known P p e = subst P (some_same e) p

-- a token for each meaning
reprints_one : {A : Type 0} {meaning : Lexeme → Option A} {f : A → Written}
    → ((l : Lexeme) (a : A) → meaning l ≡ Some a → (meaning (f a).says ≡ Some a) × (Valid l → Spelled (f a))) → Reprints (One meaning) (λ a. f a ∷ [])
reprints_one {A = A} {meaning = meaning} {f = f} each = record { from = go }
  where
    go : (w : List Lexeme) (a : A) → One meaning w a → Printed (One meaning) (f a ∷ []) w a
    go w a (one l e) = let token = each l a e in record { means = one (f a).says token.0; spelled = λ all. (token.1 all.0, tt) }

pub name_reprints : Reprints rule.name (λ n. written.name n ∷ [])
name_reprints = reprints_one each
  where
    each : (l : Lexeme) (n : List ℕ) → rule.name_of l ≡ Some n → (Some n ≡ Some n) × (Valid l → Spelled (written.name n))
    each (lexeme.Name m) n e = known (λ n. (Some n ≡ Some n) × (Valid (lexeme.Name m) → Spelled (written.name n))) (refl, name_spelled m) e
    each l n e = none_not_some e

pub number_reprints : Reprints rule.number (λ z. written.number z ∷ [])
number_reprints = reprints_one each
  where
    each : (l : Lexeme) (z : ℤ) → rule.number_of l ≡ Some z → (Some z ≡ Some z) × (Valid l → Spelled (written.number z))
    each (lexeme.Number y) z e = known (λ z. (Some z ≡ Some z) × (Valid (lexeme.Number y) → Spelled (written.number z))) (refl, number_spelled y) e
    each l z e = none_not_some e

pub text_reprints : Reprints rule.text (λ t. written.text t ∷ [])
text_reprints = reprints_one each
  where
    each : (l : Lexeme) (t : List ℕ) → rule.text_of l ≡ Some t → (Some t ≡ Some t) × (Valid l → Spelled (written.text t))
    each (lexeme.Text u) t e = known (λ t. (Some t ≡ Some t) × (Valid (lexeme.Text u) → Spelled (written.text t))) (refl, text_spelled u) e
    each l t e = none_not_some e

-- ---- a choice of one lexeme

-- a token for each meaning, whatever the lexeme was
reprints_choice : {A : Type 0} {meaning : Lexeme → Option A} {f : A → Written}
    → ((l : Lexeme) (a : A) → meaning l ≡ Some a → Token meaning (f a) a) → Reprints (One meaning) (λ a. f a ∷ [])
reprints_choice {A = A} {meaning = meaning} {f = f} each = record { from = go }
  where
    go : (w : List Lexeme) (a : A) → One meaning w a → Printed (One meaning) (f a ∷ []) w a
    go w a (one l e) = printed_one (each l a e)

-- the meaning where a test holds, or another one
tested : {A : Type 0} {x a : A} {o : Option A} (P : A → Type 0) (t : Bool) → P x → (o ≡ Some a → P a) → (if t then Some x else o) ≡ Some a → P a
tested P true p others e = known P p e
tested P false p others e = others e

pub quantifier_reprints : Reprints (One rule.quantifier_of) (λ a. written.key (if a then k.KwDistinct else k.KwAll) ∷ [])
quantifier_reprints = reprints_choice each
  where
    each : (l : Lexeme) (a : Bool) → rule.quantifier_of l ≡ Some a → Token rule.quantifier_of (written.key (if a then k.KwDistinct else k.KwAll)) a
    each (lexeme.Key k.KwAll) a e = known (λ a. Token rule.quantifier_of (written.key (if a then k.KwDistinct else k.KwAll)) a) (record { means = refl; spelled = key_spelled k.KwAll }) e
    each (lexeme.Key k.KwDistinct) a e = known (λ a. Token rule.quantifier_of (written.key (if a then k.KwDistinct else k.KwAll)) a) (record { means = refl; spelled = key_spelled k.KwDistinct }) e
    each l a e = none_not_some e

pub outer_reprints : Reprints (One rule.outer_of) (λ a. spelling.join_word a ∷ [])
outer_reprints = reprints_choice each
  where
    each : (l : Lexeme) (a : JoinWord) → rule.outer_of l ≡ Some a → Token rule.outer_of (spelling.join_word a) a
    each (lexeme.Key k.KwLeft) a e = known (λ a. Token rule.outer_of (spelling.join_word a) a) (record { means = refl; spelled = key_spelled k.KwLeft }) e
    each (lexeme.Key k.KwRight) a e = known (λ a. Token rule.outer_of (spelling.join_word a) a) (record { means = refl; spelled = key_spelled k.KwRight }) e
    each (lexeme.Key k.KwFull) a e = known (λ a. Token rule.outer_of (spelling.join_word a) a) (record { means = refl; spelled = key_spelled k.KwFull }) e
    each l a e = none_not_some e

pub truth_reprints : Reprints (One rule.truth_of) (λ a. spelling.truth_word a ∷ [])
truth_reprints = reprints_choice each
  where
    each : (l : Lexeme) (a : Truth) → rule.truth_of l ≡ Some a → Token rule.truth_of (spelling.truth_word a) a
    each (lexeme.Key k.KwTrue) a e = known (λ a. Token rule.truth_of (spelling.truth_word a) a) (record { means = refl; spelled = key_spelled k.KwTrue }) e
    each (lexeme.Key k.KwFalse) a e = known (λ a. Token rule.truth_of (spelling.truth_word a) a) (record { means = refl; spelled = key_spelled k.KwFalse }) e
    each (lexeme.Key k.KwUnknown) a e = known (λ a. Token rule.truth_of (spelling.truth_word a) a) (record { means = refl; spelled = key_spelled k.KwUnknown }) e
    each l a e = none_not_some e

pub comparison_reprints : Reprints (One rule.comparison_of) (λ a. spelling.comparison a ∷ [])
comparison_reprints = reprints_choice each
  where
    each : (l : Lexeme) (a : Cmp) → rule.comparison_of l ≡ Some a → Token rule.comparison_of (spelling.comparison a) a
    each (lexeme.Sign s.Equal) a e = known (λ a. Token rule.comparison_of (spelling.comparison a) a) (record { means = refl; spelled = sign_spelled s.Equal }) e
    each (lexeme.Sign s.NotEqual) a e = known (λ a. Token rule.comparison_of (spelling.comparison a) a) (record { means = refl; spelled = sign_spelled s.NotEqual }) e
    each (lexeme.Sign s.Less) a e = known (λ a. Token rule.comparison_of (spelling.comparison a) a) (record { means = refl; spelled = sign_spelled s.Less }) e
    each (lexeme.Sign s.LessEqual) a e = known (λ a. Token rule.comparison_of (spelling.comparison a) a) (record { means = refl; spelled = sign_spelled s.LessEqual }) e
    each (lexeme.Sign s.Greater) a e = known (λ a. Token rule.comparison_of (spelling.comparison a) a) (record { means = refl; spelled = sign_spelled s.Greater }) e
    each (lexeme.Sign s.GreaterEqual) a e = known (λ a. Token rule.comparison_of (spelling.comparison a) a) (record { means = refl; spelled = sign_spelled s.GreaterEqual }) e
    each l a e = none_not_some e

pub term_operator_reprints : Reprints (One rule.term_operator_of) (λ a. spelling.operator a ∷ [])
term_operator_reprints = reprints_choice each
  where
    each : (l : Lexeme) (a : Arith) → rule.term_operator_of l ≡ Some a → Token rule.term_operator_of (spelling.operator a) a
    each (lexeme.Sign s.Plus) a e = known (λ a. Token rule.term_operator_of (spelling.operator a) a) (record { means = refl; spelled = sign_spelled s.Plus }) e
    each (lexeme.Sign s.Minus) a e = known (λ a. Token rule.term_operator_of (spelling.operator a) a) (record { means = refl; spelled = sign_spelled s.Minus }) e
    each l a e = none_not_some e

pub factor_operator_reprints : Reprints (One rule.factor_operator_of) (λ a. spelling.operator a ∷ [])
factor_operator_reprints = reprints_choice each
  where
    each : (l : Lexeme) (a : Arith) → rule.factor_operator_of l ≡ Some a → Token rule.factor_operator_of (spelling.operator a) a
    each (lexeme.Sign s.Star) a e = known (λ a. Token rule.factor_operator_of (spelling.operator a) a) (record { means = refl; spelled = sign_spelled s.Star }) e
    each (lexeme.Sign s.Slash) a e = known (λ a. Token rule.factor_operator_of (spelling.operator a) a) (record { means = refl; spelled = sign_spelled s.Slash }) e
    each (lexeme.Sign s.Percent) a e = known (λ a. Token rule.factor_operator_of (spelling.operator a) a) (record { means = refl; spelled = sign_spelled s.Percent }) e
    each l a e = none_not_some e

pub minus_reprints : Reprints (One rule.minus_of) (λ a. written.sign (if a then s.Minus else s.Plus) ∷ [])
minus_reprints = reprints_choice each
  where
    each : (l : Lexeme) (a : Bool) → rule.minus_of l ≡ Some a → Token rule.minus_of (written.sign (if a then s.Minus else s.Plus)) a
    each (lexeme.Sign s.Plus) a e = known (λ a. Token rule.minus_of (written.sign (if a then s.Minus else s.Plus)) a) (record { means = refl; spelled = sign_spelled s.Plus }) e
    each (lexeme.Sign s.Minus) a e = known (λ a. Token rule.minus_of (written.sign (if a then s.Minus else s.Plus)) a) (record { means = refl; spelled = sign_spelled s.Minus }) e
    each l a e = none_not_some e

pub aggregate_reprints : Reprints (One rule.aggregate_of) (λ a. spelling.aggregate a ∷ [])
aggregate_reprints = reprints_choice each
  where
    each : (l : Lexeme) (a : AggKind) → rule.aggregate_of l ≡ Some a → Token rule.aggregate_of (spelling.aggregate a) a
    each (lexeme.Key k.KwCount) a e = known (λ a. Token rule.aggregate_of (spelling.aggregate a) a) (record { means = refl; spelled = key_spelled k.KwCount }) e
    each (lexeme.Key k.KwSum) a e = known (λ a. Token rule.aggregate_of (spelling.aggregate a) a) (record { means = refl; spelled = key_spelled k.KwSum }) e
    each (lexeme.Key k.KwMin) a e = known (λ a. Token rule.aggregate_of (spelling.aggregate a) a) (record { means = refl; spelled = key_spelled k.KwMin }) e
    each (lexeme.Key k.KwMax) a e = known (λ a. Token rule.aggregate_of (spelling.aggregate a) a) (record { means = refl; spelled = key_spelled k.KwMax }) e
    each l a e = none_not_some e

pub kind_reprints : Reprints (One rule.kind_of) (λ a. spelling.kind_word a ∷ [])
kind_reprints = reprints_choice each
  where
    int_is : Token rule.kind_of (written.word (codes "int")) kind.Int
    int_is = record { means = refl; spelled = int_spelled }

    text_is : Token rule.kind_of (written.word (codes "text")) kind.Text
    text_is = record { means = refl; spelled = text_word_spelled }

    each : (l : Lexeme) (a : Kind) → rule.kind_of l ≡ Some a → Token rule.kind_of (spelling.kind_word a) a
    each (lexeme.Name n) a e = tested (λ a. Token rule.kind_of (spelling.kind_word a) a) (bytes_eq n (codes "int")) int_is (tested (λ a. Token rule.kind_of (spelling.kind_word a) a) (bytes_eq n (codes "text")) text_is none_not_some) e
    each l a e = none_not_some e

pub cost_part_reprints : Reprints (One rule.cost_part_of) (λ a. spelling.cost_word a ∷ [])
cost_part_reprints = reprints_choice each
  where
    reader_is : Token rule.cost_part_of (written.word (codes "reader")) cost.Reader
    reader_is = record { means = refl; spelled = reader_spelled }

    hashreader_is : Token rule.cost_part_of (written.word (codes "hashreader")) cost.HashReader
    hashreader_is = record { means = refl; spelled = hashreader_spelled }

    network_is : Token rule.cost_part_of (written.word (codes "network")) cost.Network
    network_is = record { means = refl; spelled = network_spelled }

    writer_is : Token rule.cost_part_of (written.word (codes "writer")) cost.Writer
    writer_is = record { means = refl; spelled = writer_spelled }

    bulk_is : Token rule.cost_part_of (written.word (codes "bulk")) cost.Bulk
    bulk_is = record { means = refl; spelled = bulk_spelled }

    control_is : Token rule.cost_part_of (written.word (codes "control")) cost.Control
    control_is = record { means = refl; spelled = control_spelled }

    each : (l : Lexeme) (a : CostPart) → rule.cost_part_of l ≡ Some a → Token rule.cost_part_of (spelling.cost_word a) a
    each (lexeme.Name n) a e = tested (λ a. Token rule.cost_part_of (spelling.cost_word a) a) (bytes_eq n (codes "reader")) reader_is (tested (λ a. Token rule.cost_part_of (spelling.cost_word a) a) (bytes_eq n (codes "hashreader")) hashreader_is (tested (λ a. Token rule.cost_part_of (spelling.cost_word a) a) (bytes_eq n (codes "network")) network_is (tested (λ a. Token rule.cost_part_of (spelling.cost_word a) a) (bytes_eq n (codes "writer")) writer_is (tested (λ a. Token rule.cost_part_of (spelling.cost_word a) a) (bytes_eq n (codes "bulk")) bulk_is (tested (λ a. Token rule.cost_part_of (spelling.cost_word a) a) (bytes_eq n (codes "control")) control_is none_not_some))))) e
    each l a e = none_not_some e

-- an output column's name or number
abbrev pub order_word : OrderName → Written
order_word (order.Name n) = written.name n
order_word (order.Position n) = written.number n

pub order_name_reprints : Reprints (One rule.order_name_of) (λ o. order_word o ∷ [])
order_name_reprints = reprints_one each
  where
    each : (l : Lexeme) (o : OrderName) → rule.order_name_of l ≡ Some o → (rule.order_name_of (order_word o).says ≡ Some o) × (Valid l → Spelled (order_word o))
    each (lexeme.Name m) o e = known (λ o. (rule.order_name_of (order_word o).says ≡ Some o) × (Valid (lexeme.Name m) → Spelled (order_word o))) (refl, name_spelled m) e
    each (lexeme.Number m) o e = known (λ o. (rule.order_name_of (order_word o).says ≡ Some o) × (Valid (lexeme.Number m) → Spelled (order_word o))) (refl, number_spelled m) e
    each l o e = none_not_some e

pub printed_direction : {w : List Lexeme} (descending : Bool) → Printed (One rule.direction_of) (written.key (if descending then k.KwDesc else k.KwAsc) ∷ []) w descending
printed_direction true = printed_one (record { means = refl; spelled = key_spelled k.KwDesc })
printed_direction false = printed_one (record { means = refl; spelled = key_spelled k.KwAsc })
