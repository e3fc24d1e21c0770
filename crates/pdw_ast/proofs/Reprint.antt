-- Written tokens that are a text of a rule, and are well spelled where the tokens of another text are valid.
use Rattle.std.proofs.Common.{◌≡◌, List, [], ◌∷◌, ◌++◌, flat_map, Option, Some, None, refl, sym, subst, append-nil}
use Rattle.std.proofs.lemmas.List.{map-append}
use Rattle.pdw_lex.specs.declared.sign.Sign.TheVariants.{ParenOpen, ParenClose}
use Rattle.pdw_lex.specs.declared.token.Lexeme.{Lexeme}
use Rattle.pdw_lex.specs.declared.token.Lexeme.TheVariants.{Sign}
use Rattle.pdw_syntax.specs.Rule.{Empty, empty, One, one, Then, both, Either, first, second, Maybe, absent, present, Many, none, more, Enclosed, enclosed}
use Rattle.pdw_ast.specs.Written.{Written, sayings, sign}
use Rattle.pdw_ast.specs.Spelling.{Spelling, parenthesized}
use Rattle.pdw_ast.proofs.Valid.{AllValid, Spelled, AllSpelled}
use Rattle.pdw_ast.proofs.ReprintTokens.{sign_spelled}

-- the tokens say a text of the rule that means the value, and are well spelled where the other text is valid
pub record Printed {A : Type 0} (R : List Lexeme → A → Type 0) (ws : Spelling) (w : List Lexeme) (a : A) : Type 0 where
  pub means : R (sayings ws) a
  pub spelled : AllValid w → AllSpelled ws

-- the spelling of what a text means
pub record Reprints {A : Type 0} (R : List Lexeme → A → Type 0) (f : A → Spelling) : Type 0 where
  pub from : (w : List Lexeme) (a : A) → R w a → Printed R (f a) w a

-- one token, and what it means
pub record Token {A : Type 0} (meaning : Lexeme → Option A) (t : Written) (a : A) : Type 0 where
  pub means : meaning t.says ≡ Some a
  pub spelled : Spelled t

valid_left : (u v : List Lexeme) → AllValid (u ++ v) → AllValid u
valid_left [] v all = tt
valid_left (l ∷ u) v all = (all.0, valid_left u v all.1)

valid_right : (u v : List Lexeme) → AllValid (u ++ v) → AllValid v
valid_right [] v all = all
valid_right (l ∷ u) v all = valid_right u v all.1

spelled_append : (us vs : Spelling) → AllSpelled us → AllSpelled vs → AllSpelled (us ++ vs)
spelled_append [] vs front back = back
spelled_append (w ∷ us) vs front back = (front.0, spelled_append us vs front.1 back)

sayings_append : (us vs : Spelling) → sayings (us ++ vs) ≡ sayings us ++ sayings vs
sayings_append us vs = map-append _ us vs

pub none_not_some : {A B : Type 0} {x : A} → None ≡ Some x → B
none_not_some e = cc e

-- ---- rules that are made of rules

pub printed_empty : {A : Type 0} {a : A} → Printed (Empty a) [] [] a
printed_empty = record { means = empty; spelled = λ all. tt }

pub printed_one : {A : Type 0} {meaning : Lexeme → Option A} {t : Written} {a : A} {w : List Lexeme} → Token meaning t a → Printed (One meaning) (t ∷ []) w a
printed_one {t = t} token = record { means = one t.says token.means; spelled = λ all. (token.spelled, tt) }

pub printed_then : {A B : Type 0} {R : List Lexeme → A → Type 0} {S : A → List Lexeme → B → Type 0} {a : A} {b : B} {us vs ws : Spelling} {u v : List Lexeme}
    → Printed R us u a → Printed (S a) vs v b → us ++ vs ≡ ws → Printed (Then R S) ws (u ++ v) b
printed_then {R = R} {S = S} {a = a} {b = b} {us = us} {vs = vs} {u = u} {v = v} p q is = subst (λ ws. Printed (Then R S) ws (u ++ v) b) is (record {
  means = subst (λ w. Then R S w b) (sym (sayings_append us vs)) (both (sayings us) (sayings vs) p.means q.means);
  spelled = λ all. spelled_append us vs (p.spelled (valid_left u v all)) (q.spelled (valid_right u v all));
})

-- a text and a value made of its meaning
pub printed_made : {A B : Type 0} {R : List Lexeme → A → Type 0} {f : A → B} {a : A} {ws : Spelling} {w : List Lexeme}
    → Printed R ws w a → Printed (Then R (λ x. Empty (f x))) ws (w ++ []) (f a)
printed_made {ws = ws} p = printed_then p printed_empty (append-nil ws)

pub printed_first : {A : Type 0} {R S : List Lexeme → A → Type 0} {ws : Spelling} {w : List Lexeme} {a : A} → Printed R ws w a → Printed (Either R S) ws w a
printed_first p = record { means = first p.means; spelled = p.spelled }

pub printed_second : {A : Type 0} {R S : List Lexeme → A → Type 0} {ws : Spelling} {w : List Lexeme} {a : A} → Printed S ws w a → Printed (Either R S) ws w a
printed_second p = record { means = second p.means; spelled = p.spelled }

printed_absent : {A : Type 0} {R : List Lexeme → A → Type 0} → Printed (Maybe R) [] [] None
printed_absent = record { means = absent; spelled = λ all. tt }

pub printed_present : {A : Type 0} {R : List Lexeme → A → Type 0} {ws : Spelling} {w : List Lexeme} {a : A} → Printed R ws w a → Printed (Maybe R) ws w (Some a)
printed_present p = record { means = present p.means; spelled = p.spelled }

pub printed_none : {A : Type 0} {R : List Lexeme → A → Type 0} → Printed (Many R) [] [] []
printed_none = record { means = none; spelled = λ all. tt }

printed_more : {A : Type 0} {R : List Lexeme → A → Type 0} {us vs ws : Spelling} {u v : List Lexeme} {x : A} {xs : List A}
    → Printed R us u x → Printed (Many R) vs v xs → us ++ vs ≡ ws → Printed (Many R) ws (u ++ v) (x ∷ xs)
printed_more {R = R} {us = us} {vs = vs} {u = u} {v = v} {x = x} {xs = xs} p q is = subst (λ ws. Printed (Many R) ws (u ++ v) (x ∷ xs)) is (record {
  means = subst (λ w. Many R w (x ∷ xs)) (sym (sayings_append us vs)) (more (sayings us) (sayings vs) p.means q.means);
  spelled = λ all. spelled_append us vs (p.spelled (valid_left u v all)) (q.spelled (valid_right u v all));
})

-- a text in parentheses
printed_enclosed : {A : Type 0} {R : List Lexeme → A → Type 0} {ws : Spelling} {w : List Lexeme} {a : A}
    → Printed R ws w a → Printed (Enclosed R) (parenthesized ws) (Sign ParenOpen ∷ (w ++ Sign ParenClose ∷ [])) a
printed_enclosed {R = R} {ws = ws} {w = w} {a = a} p = record {
  means = subst (λ u. Enclosed R (Sign ParenOpen ∷ u) a) (sym (sayings_append ws (sign ParenClose ∷ []))) (enclosed (sayings ws) p.means);
  spelled = λ all. (sign_spelled ParenOpen, spelled_append ws (sign ParenClose ∷ []) (p.spelled (valid_left w _ all.1)) (sign_spelled ParenClose, tt));
}

pub reprints_enclosed : {A : Type 0} {R : List Lexeme → A → Type 0} {f : A → Spelling} → Reprints R f → Reprints (Enclosed R) (λ a. parenthesized (f a))
reprints_enclosed {A = A} {R = R} {f = f} law = record { from = go }
  where
    go : (w : List Lexeme) (a : A) → Enclosed R w a → Printed (Enclosed R) (parenthesized (f a)) w a
    go w a (enclosed u r) = printed_enclosed (law.from u a r)

-- the spelling is another one that it is equal to
pub respelled : {A : Type 0} {R : List Lexeme → A → Type 0} {us ws : Spelling} {w : List Lexeme} {a : A} → ws ≡ us → Printed R us w a → Printed R ws w a
respelled {R = R} {w = w} {a = a} is p = subst (λ ws. Printed R ws w a) (sym is) p

-- any number of texts, each spelled for itself
pub reprints_many : {A : Type 0} {R : List Lexeme → A → Type 0} {f : A → Spelling} → Reprints R f → Reprints (Many R) (flat_map f)
reprints_many {A = A} {R = R} {f = f} law = record { from = go }
  where
    go : (w : List Lexeme) (xs : List A) → Many R w xs → Printed (Many R) (flat_map f xs) w xs
    go w xs none = printed_none
    go w xs (more {x = x} {xs = ys} u v t ts) = printed_more (law.from u x t) (go v ys ts) refl

pub reprints_either : {A : Type 0} {R S : List Lexeme → A → Type 0} {f : A → Spelling} → Reprints R f → Reprints S f → Reprints (Either R S) f
reprints_either {A = A} {R = R} {S = S} {f = f} law other = record { from = go }
  where
    go : (w : List Lexeme) (a : A) → Either R S w a → Printed (Either R S) (f a) w a
    go w a (first r) = printed_first (law.from w a r)
    go w a (second s) = printed_second (other.from w a s)

-- the spelling of what may be left out
abbrev pub if_any : {A : Type 0} → (A → Spelling) → Option A → Spelling
if_any f None = []
if_any f (Some a) = f a

pub reprints_maybe : {A : Type 0} {R : List Lexeme → A → Type 0} {f : A → Spelling} → Reprints R f → Reprints (Maybe R) (if_any f)
reprints_maybe {A = A} {R = R} {f = f} law = record { from = go }
  where
    go : (w : List Lexeme) (o : Option A) → Maybe R w o → Printed (Maybe R) (if_any f o) w o
    go w o absent = printed_absent
    go w o (present {a = a} r) = printed_present (law.from w a r)

-- ---- texts one after the other

-- tokens that are spelled for what is left of a rule; where the front is written around them, they are the spelling of the whole
pub record Continued {A : Type 0} (front : Spelling → Spelling) (R : List Lexeme → A → Type 0) (f : A → Spelling) (w : List Lexeme) (a : A) : Type 0 where
  pub tokens : Spelling
  pub printed : Printed R tokens w a
  pub is : front tokens ≡ f a

pub record Continues {A : Type 0} (front : Spelling → Spelling) (R : List Lexeme → A → Type 0) (f : A → Spelling) : Type 0 where
  pub from : (w : List Lexeme) (a : A) → R w a → Continued front R f w a

-- from the start of a rule
pub spelled_as : {A : Type 0} {R : List Lexeme → A → Type 0} {f : A → Spelling} → Continues (λ tokens. tokens) R f → Reprints R f
spelled_as {R = R} law = record { from = λ w a r. let rest = law.from w a r in subst (λ ws. Printed R ws w a) rest.is rest.printed }

-- a text whose meaning the spelling of what follows may need
pub and_then : {A B : Type 0} {R : List Lexeme → A → Type 0} {S : A → List Lexeme → B → Type 0} {front : Spelling → Spelling} {f : A → Spelling} {h : B → Spelling}
    → Reprints R f → ((a : A) → Continues (λ tokens. front (f a ++ tokens)) (S a) h) → Continues front (Then R S) h
and_then {A = A} {B = B} {R = R} {S = S} {front = front} {f = f} {h = h} law follows = record { from = go }
  where
    go : (w : List Lexeme) (b : B) → Then R S w b → Continued front (Then R S) h w b
    go w b (both {a = a} u v r s) = let rest = (follows a).from v b s in record {
      tokens = f a ++ rest.tokens;
      printed = printed_then (law.from u a r) rest.printed refl;
      is = rest.is;
    }

-- a text that is written so whatever it was
pub always : {A B : Type 0} {R : List Lexeme → A → Type 0} {S : List Lexeme → B → Type 0} {front : Spelling → Spelling} {h : B → Spelling} {us : Spelling} {a : A}
    → ((w : List Lexeme) → Printed R us w a) → Continues (λ tokens. front (us ++ tokens)) S h → Continues front (Then R (λ x. S)) h
always {B = B} {R = R} {S = S} {front = front} {h = h} {us = us} fixed follows = record { from = go }
  where
    go : (w : List Lexeme) (b : B) → Then R (λ x. S) w b → Continued front (Then R (λ x. S)) h w b
    go w b (both u v r s) = let rest = follows.from v b s in record {
      tokens = us ++ rest.tokens;
      printed = printed_then (fixed u) rest.printed refl;
      is = rest.is;
    }

-- a last text
pub and_text : {A : Type 0} {R : List Lexeme → A → Type 0} {front : Spelling → Spelling} {f h : A → Spelling} → Reprints R f → ((a : A) → front (f a) ≡ h a) → Continues front R h
and_text {f = f} law is = record { from = λ w a r. record { tokens = f a; printed = law.from w a r; is = is a } }

-- a last text, of whose meaning the value is made
pub and_last : {A B : Type 0} {R : List Lexeme → A → Type 0} {front : Spelling → Spelling} {f : A → Spelling} {h : B → Spelling} {make : A → B}
    → Reprints R f → ((a : A) → front (f a) ≡ h (make a)) → Continues front (Then R (λ a. Empty (make a))) h
and_last {A = A} {B = B} {R = R} {front = front} {f = f} {h = h} {make = make} law is = record { from = go }
  where
    ended : (a : A) (u v : List Lexeme) (b : B) → R u a → Empty (make a) v b → Continued front (Then R (λ a. Empty (make a))) h (u ++ v) b
    ended a u v b r empty = record { tokens = f a; printed = printed_made (law.from u a r); is = is a }

    go : (w : List Lexeme) (b : B) → Then R (λ a. Empty (make a)) w b → Continued front (Then R (λ a. Empty (make a))) h w b
    go w b (both {a = a} u v r end) = ended a u v b r end

pub and_nothing : {A : Type 0} {front : Spelling → Spelling} {h : A → Spelling} {a : A} → front [] ≡ h a → Continues front (Empty a) h
and_nothing {A = A} {front = front} {h = h} {a = a} is = record { from = go }
  where
    go : (w : List Lexeme) (b : A) → Empty a w b → Continued front (Empty a) h w b
    go w b empty = record { tokens = []; printed = printed_empty; is = is }

-- a value that is made of a text's meaning
pub reprints_made : {A B : Type 0} {R : List Lexeme → A → Type 0} {f : A → Spelling} {h : B → Spelling} {make : A → B}
    → Reprints R f → ((a : A) → f a ≡ h (make a)) → Reprints (Then R (λ a. Empty (make a))) h
reprints_made law is = spelled_as (and_last law is)
