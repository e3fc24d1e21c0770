-- What comes next, and how many parentheses are open, in lexemes one after the other.
use Rattle.std.proofs.Common.{◌≡◌, ℕ, ◌+◌, ◌≤◌, List, [], ◌∷◌, ◌++◌, Option, Some, None, refl, ◌∙◌, ap, arith}
use Rattle.pdw_lex.specs.declared.sign.Sign.TheVariants.{ParenOpen, ParenClose}
use Rattle.pdw_lex.specs.declared.token.Lexeme.{Lexeme}
use Rattle.pdw_lex.specs.declared.token.Lexeme.TheVariants.{Sign}
use Rattle.pdw_reading.specs.Depth.{open_past}
use Rattle.pdw_reading.specs.Reading.{next}
use Rattle.pdw_reading.proofs.Law.{open_from, Within, Balanced, Begins}

pub next_append : (u v w : List Lexeme) → next v ≡ next w → next (u ++ v) ≡ next (u ++ w)
next_append [] v w same = same
next_append (l ∷ u) v w same = refl

pub open_append : (d : ℕ) (u v : List Lexeme) → open_from d (u ++ v) ≡ open_from (open_from d u) v
open_append d [] v = refl
open_append d (l ∷ u) v = open_append (open_past d l) u v

pub within_append : (k d : ℕ) (u v : List Lexeme) → Within k d u → Within k (open_from d u) v → Within k d (u ++ v)
within_append k d [] v first then = then
within_append k d (l ∷ u) v first then = (first.0, within_append k (open_past d l) u v first.1 then)

pub within_first : (k d : ℕ) (w : List Lexeme) → Within k d w → d ≤ k
within_first k d [] all = all
within_first k d (l ∷ w) all = all.0

pub within_rest : (k d : ℕ) (u v : List Lexeme) → Within k d (u ++ v) → Within k (open_from d u) v
within_rest k d [] v all = all
within_rest k d (l ∷ u) v all = within_rest k (open_past d l) u v all.1

-- fronts that open no further parentheses than they close, one after the other
pub within_after : (n d : ℕ) (u v : List Lexeme) → Balanced n u → ((e : ℕ) → Within (e + n) e v) → Within (d + n) d (u ++ v)
within_after n d u v first then = within_append (d + n) d u v (first.within d) (rw (first.back d) (then d))

pub balanced_none : (n : ℕ) → Balanced n []
balanced_none n = record { back = λ d. refl; within = λ d. omega arith }

pub balanced_append : (n : ℕ) (u v : List Lexeme) → Balanced n u → Balanced n v → Balanced n (u ++ v)
balanced_append n u v first then = record {
  back = λ d. open_append d u v ∙ (ap (λ e. open_from e v) (first.back d) ∙ then.back d);
  within = λ d. within_after n d u v first then.within;
}

-- a lexeme of a test that parentheses don't pass
pub plain : {A : Type 0} (f : Lexeme → Option A) (l : Lexeme) (a : A) (d : ℕ) → f l ≡ Some a → f (Sign ParenOpen) ≡ None → f (Sign ParenClose) ≡ None
    → open_past d l ≡ d
plain f (Sign ParenOpen) a d is no_open no_close = cc
plain f (Sign ParenClose) a d is no_open no_close = cc
plain f l a d is no_open no_close = refl

pub balanced_one : {A : Type 0} (n : ℕ) (f : Lexeme → Option A) (l : Lexeme) (a : A) → f l ≡ Some a → f (Sign ParenOpen) ≡ None → f (Sign ParenClose) ≡ None
    → Balanced n (l ∷ [])
balanced_one n f l a is no_open no_close = record {
  back = λ d. plain f l a d is no_open no_close;
  within = λ d. (omega arith, rw (plain f l a d is no_open no_close) (omega arith));
}

pub within_none : (n d : ℕ) → Within (d + n) d []
within_none n d = omega arith

pub begins_map : {A : Type 0} {F : List Lexeme → A → Type 0} {R : List Lexeme → A → Type 0} → ((w : List Lexeme) (a : A) → F w a → R w a)
    → (w : List Lexeme) → Begins F w → Begins R w
begins_map into w b = record { more = b.more; means = b.means; spells = into (w ++ b.more) b.means b.spells }
