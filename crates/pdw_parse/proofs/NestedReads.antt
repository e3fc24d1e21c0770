-- What a pair of parentheses reads, from what stands in it.
use Rattle.std.proofs.Common.{◌≡◌, ℕ, zero, suc, ◌-◌, ◌<◌, Bool, true, false, List, drop, Option, Some, None, is_some, if◌then◌else◌, refl, ◌∙◌, ap, arith}
use Rattle.pdw_lex.specs.declared.sign.Sign.TheVariants.{ParenOpen, ParenClose}
use Rattle.pdw_lex.specs.declared.token.Lexeme.{Lexeme}
use Rattle.pdw_syntax.specs.Lexemes.{is_sign}
use Rattle.pdw_reading.specs.declared.content.Content.{Content}
use Rattle.pdw_reading.specs.declared.content.Content.TheVariants as content
use Rattle.pdw_reading.specs.declared.content.Wanted.{Wanted}
use Rattle.pdw_reading.specs.declared.content.Wanted.TheVariants as wanted
use Rattle.pdw_reading.specs.declared.parse_error.Stop.{Stop}
use Rattle.pdw_reading.specs.declared.parse_error.Stop.TheVariants.{Syntax, TooDeep}
use Rattle.pdw_reading.specs.Reading.{Outcome, read, stopped, Reader, and_then, ◌<$>◌, pure, next, meaning_of, sees, taken, take, closed, enclosed}
use Rattle.pdw_reading.specs.ReadExprs.{expr, counted}
use Rattle.pdw_reading.specs.ReadConds.{operand}
use Rattle.pdw_reading.specs.ReadQueries.{query, among, source}
use Rattle.pdw_reading.specs.Levels.{nested, content_by, inner_by, opening}

-- ---- the parenthesis that comes first

seen : {A : Type 0} (m : Option A) (ts : List Lexeme) → is_some m ≡ true → (a : A) × (taken m ts ≡ read a (drop 1 ts))
seen None ts is = cc
seen (Some a) ts is = (a, refl)

unseen : {A : Type 0} (m : Option A) (ts : List Lexeme) → is_some m ≡ false → taken m ts ≡ stopped Syntax ts
unseen None ts not = refl
unseen (Some a) ts not = cc

take_seen : {A : Type 0} (f : Lexeme → Option A) (ts : List Lexeme) → sees f ts ≡ true → (a : A) × (take f ts ≡ read a (drop 1 ts))
unfolding take
take_seen f ts is = seen (meaning_of f (next ts)) ts is

take_unseen : {A : Type 0} (f : Lexeme → Option A) (ts : List Lexeme) → sees f ts ≡ false → take f ts ≡ stopped Syntax ts
unfolding take
take_unseen f ts not = unseen (meaning_of f (next ts)) ts not

closed_seen : {A : Type 0} (ts : List Lexeme) → sees (is_sign ParenOpen) ts ≡ true → closed {A = A} ts ≡ stopped TooDeep ts
unfolding closed
closed_seen {A = A} ts is = let by : Bool → Outcome A = λ b. if b then stopped TooDeep ts else stopped Syntax ts in ap by is

closed_unseen : {A : Type 0} (ts : List Lexeme) → sees (is_sign ParenOpen) ts ≡ false → closed {A = A} ts ≡ stopped Syntax ts
unfolding closed
closed_unseen {A = A} ts not = let by : Bool → Outcome A = λ b. if b then stopped TooDeep ts else stopped Syntax ts in ap by not

-- ---- what is made of the content can be made inside the parentheses

-- after the content
abbrev pub finished : {A : Type 0} → A → List Lexeme → Outcome A
finished a us = and_then (take (is_sign ParenClose) us) (λ u vs. read a vs)

module _ {A B : Type 0} (f : A → B) where
  ended : (a : A) (o : Outcome (Unit {0})) → and_then (and_then o (λ u vs. read a vs)) (λ x. pure (f x)) ≡ and_then o (λ u vs. read (f a) vs)
  ended a (read u vs) = refl
  ended a (stopped why vs) = refl

  held : (o : Outcome A) → and_then (and_then o finished) (λ x. pure (f x)) ≡ and_then (and_then o (λ x. pure (f x))) finished
  held (read a us) = ended a (take (is_sign ParenClose) us)
  held (stopped why us) = refl

  begun : (r : Reader A) (o : Outcome (Unit {0}))
      → and_then (and_then o (λ u us. and_then (r us) finished)) (λ x. pure (f x)) ≡ and_then o (λ u us. and_then (and_then (r us) (λ x. pure (f x))) finished)
  begun r (read u us) = held (r us)
  begun r (stopped why us) = refl

  mapped : (r : Reader A) (ts : List Lexeme) → (f <$> enclosed r) ts ≡ enclosed (f <$> r) ts
  mapped r ts = begun r (take (is_sign ParenOpen) ts)

  shut_for : (b : Bool) (ts : List Lexeme)
      → and_then (if b then stopped TooDeep ts else stopped Syntax ts) (λ x. pure (f x)) ≡ (if b then stopped TooDeep ts else stopped Syntax ts)
  shut_for true ts = refl
  shut_for false ts = refl

  shut_all : (ts : List Lexeme) → (f <$> closed) ts ≡ closed ts
  unfolding closed
  shut_all ts = shut_for (sees (is_sign ParenOpen) ts) ts

-- where no more may be open
shut : (w : Wanted) (ts : List Lexeme) → content_by (nested zero) w ts ≡ closed ts
unfolding nested
shut wanted.Expr ts = shut_all content.Expr ts
shut wanted.Counted ts = shut_all content.Counted ts
shut wanted.Operand ts = shut_all content.Operand ts
shut wanted.Among ts = shut_all content.Among ts
shut wanted.Query ts = shut_all content.Query ts
shut wanted.Source ts = shut_all content.Source ts

-- where one more may be open
opened : (n : ℕ) (w : Wanted) (ts : List Lexeme) → content_by (nested (suc n)) w ts ≡ enclosed (inner_by (nested n) w) ts
unfolding nested
opened n wanted.Expr ts = mapped content.Expr (expr (nested n)) ts
opened n wanted.Counted ts = mapped content.Counted (counted (nested n)) ts
opened n wanted.Operand ts = mapped content.Operand (operand (nested n)) ts
opened n wanted.Among ts = mapped content.Among (among (nested n)) ts
opened n wanted.Query ts = mapped content.Query (query (nested n)) ts
opened n wanted.Source ts = mapped content.Source (source (nested n)) ts

-- ---- the parenthesis that opens

pub unopened : (d : ℕ) (ts : List Lexeme) → sees (is_sign ParenOpen) ts ≡ false → opening d ts ≡ stopped Syntax ts
unopened zero ts not = closed_unseen ts not
unopened (suc n) ts not = ap (λ o. and_then o (λ u us. read n us)) (take_unseen (is_sign ParenOpen) ts not)

pub one_too_many : (d : ℕ) (ts : List Lexeme) → d ≡ 0 → sees (is_sign ParenOpen) ts ≡ true → opening d ts ≡ stopped TooDeep ts
one_too_many zero ts none is = closed_seen ts is
one_too_many (suc n) ts none is = let no : ⊥ = omega (arith, none) in absurd no

pub one_fewer : (d : ℕ) (ts : List Lexeme) → 0 < d → sees (is_sign ParenOpen) ts ≡ true → opening d ts ≡ read (d - 1) (drop 1 ts)
one_fewer zero ts some is = let no : ⊥ = omega arith in absurd no
one_fewer (suc n) ts some is =
    let same : n ≡ suc n - 1 = omega arith in
    ap (λ o. and_then o (λ u us. read n us)) (take_seen (is_sign ParenOpen) ts is).1 ∙ ap (λ k. read k (drop 1 ts)) same

pub ruleset openings = (unopened, one_too_many, one_fewer)

-- ---- the outcomes

-- what stands in the parentheses is read by how many more may be open there
module _ (w : Wanted) where
  abbrev body : ℕ → List Lexeme → Outcome Content
  body n us = and_then (inner_by (nested n) w us) finished

  nothing_read : (b : Bool) (ts : List Lexeme)
      → (if b then stopped TooDeep ts else stopped Syntax ts) ≡ and_then (if b then stopped TooDeep ts else stopped Syntax ts) body
  nothing_read true ts = refl
  nothing_read false ts = refl

  none_inside : (ts : List Lexeme) → closed ts ≡ and_then (closed ts) body
  unfolding closed
  none_inside ts = nothing_read (sees (is_sign ParenOpen) ts) ts

  told : (n : ℕ) (o : Outcome (Unit {0})) → and_then o (λ u us. body n us) ≡ and_then (and_then o (λ u us. read n us)) body
  told n (read u us) = refl
  told n (stopped why us) = refl

  inside : (d : ℕ) (ts : List Lexeme) → content_by (nested d) w ts ≡ and_then (opening d ts) body
  inside zero ts = shut w ts ∙ none_inside ts
  inside (suc n) ts = opened n w ts ∙ told n (take (is_sign ParenOpen) ts)

module _ (d : ℕ) (w : Wanted) (ts : List Lexeme) where
  pub stops_before : {why : Stop} {rest : List Lexeme} → opening d ts ≡ stopped why rest → content_by (nested d) w ts ≡ stopped why rest
  stops_before stops = inside w d ts ∙ ap (λ o. and_then o (body w)) stops

  module _ {n : ℕ} {us : List Lexeme} where
    pub stops_inside : {why : Stop} {rest : List Lexeme} → opening d ts ≡ read n us → inner_by (nested n) w us ≡ stopped why rest → content_by (nested d) w ts ≡ stopped why rest
    stops_inside opens stops = inside w d ts ∙ ap (λ o. and_then o (body w)) opens ∙ ap (λ o. and_then o finished) stops

    pub stops_after : {x : Content} {vs rest : List Lexeme} {why : Stop} → opening d ts ≡ read n us → inner_by (nested n) w us ≡ read x vs
        → take (is_sign ParenClose) vs ≡ stopped why rest → content_by (nested d) w ts ≡ stopped why rest
    stops_after {x = x} opens reads stops =
        inside w d ts ∙ ap (λ o. and_then o (body w)) opens ∙ ap (λ o. and_then o finished) reads ∙ ap (λ o. and_then o (λ u rest. read x rest)) stops

    pub closes : {x : Content} {vs rest : List Lexeme} {u : Unit {0}} → opening d ts ≡ read n us → inner_by (nested n) w us ≡ read x vs
        → take (is_sign ParenClose) vs ≡ read u rest → content_by (nested d) w ts ≡ read x rest
    closes {x = x} opens reads ends =
        inside w d ts ∙ ap (λ o. and_then o (body w)) opens ∙ ap (λ o. and_then o finished) reads ∙ ap (λ o. and_then o (λ u rest. read x rest)) ends
