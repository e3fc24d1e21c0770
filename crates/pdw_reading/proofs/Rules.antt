-- How the rules that are made of rules relate to each other.
use Rattle.std.proofs.Common.{List, [], ◌∷◌, ◌++◌, Option, Some, None, sym, subst, append_assoc, append-nil}
use Rattle.pdw_lex.specs.declared.sign.Sign.TheVariants.{ParenOpen, ParenClose}
use Rattle.pdw_lex.specs.declared.token.Lexeme.{Lexeme}
use Rattle.pdw_lex.specs.declared.token.Lexeme.TheVariants.{Sign}
use Rattle.pdw_syntax.specs.Rule.{Empty, empty, Then, both, Either, first, second, Maybe, absent, present, Many, none, more, Enclosed, enclosed}

-- ---- each text of the one rule is a text of the other

pub then_map : {A B : Type 0} {R R' : List Lexeme → A → Type 0} {S S' : A → List Lexeme → B → Type 0}
    → ((w : List Lexeme) (a : A) → R w a → R' w a) → ((a : A) (w : List Lexeme) (b : B) → S a w b → S' a w b)
    → (w : List Lexeme) (b : B) → Then R S w b → Then R' S' w b
then_map first_into second_into w b (both {a = a} u v ru sv) = both u v (first_into u a ru) (second_into a v b sv)

pub either_map : {A : Type 0} {R R' S S' : List Lexeme → A → Type 0}
    → ((w : List Lexeme) (a : A) → R w a → R' w a) → ((w : List Lexeme) (a : A) → S w a → S' w a)
    → (w : List Lexeme) (a : A) → Either R S w a → Either R' S' w a
either_map first_into second_into w a (first t) = first (first_into w a t)
either_map first_into second_into w a (second t) = second (second_into w a t)

pub maybe_map : {A : Type 0} {R R' : List Lexeme → A → Type 0} → ((w : List Lexeme) (a : A) → R w a → R' w a)
    → (w : List Lexeme) (o : Option A) → Maybe R w o → Maybe R' w o
maybe_map into w o absent = absent
maybe_map into w o (present {a = a} t) = present (into w a t)

pub many_map : {A : Type 0} {R R' : List Lexeme → A → Type 0} → ((w : List Lexeme) (a : A) → R w a → R' w a)
    → (w : List Lexeme) (xs : List A) → Many R w xs → Many R' w xs
many_map into w xs none = none
many_map into w xs (more {x = x} {xs = ys} u v t ts) = more u v (into u x t) (many_map into v ys ts)

pub enclosed_map : {A : Type 0} {R R' : List Lexeme → A → Type 0} → ((w : List Lexeme) (a : A) → R w a → R' w a)
    → (w : List Lexeme) (a : A) → Enclosed R w a → Enclosed R' w a
enclosed_map into w a (enclosed u t) = enclosed u (into u a t)

-- ---- one text after the other

pub then_assoc : {A B C : Type 0} {R : List Lexeme → A → Type 0} {S : A → List Lexeme → B → Type 0} {T : B → List Lexeme → C → Type 0}
    → (w : List Lexeme) (c : C) → Then (Then R S) T w c → Then R (λ a. Then (S a) T) w c
then_assoc {A = A} {B = B} {C = C} {R = R} {S = S} {T = T} w c (both {a = b} u v rs tv) = regroup u v b c rs tv
  where
    regroup : (u v : List Lexeme) (b : B) (c : C) → Then R S u b → T b v c → Then R (λ a. Then (S a) T) (u ++ v) c
    regroup u v b c (both {a = a} u' v' ru sv) tv = subst (λ w. Then R (λ x. Then (S x) T) w c) (sym (append_assoc u' v' v)) (both u' (v' ++ v) ru (both v' v sv tv))

pub then_assoc_back : {A B C : Type 0} {R : List Lexeme → A → Type 0} {S : A → List Lexeme → B → Type 0} {T : B → List Lexeme → C → Type 0}
    → (w : List Lexeme) (c : C) → Then R (λ a. Then (S a) T) w c → Then (Then R S) T w c
then_assoc_back {A = A} {B = B} {C = C} {R = R} {S = S} {T = T} w c (both {a = a} u v ru st) = regroup u v a c ru st
  where
    regroup : (u v : List Lexeme) (a : A) (c : C) → R u a → Then (S a) T v c → Then (Then R S) T (u ++ v) c
    regroup u v a c ru (both {a = b} u' v' su tv) = subst (λ w. Then (Then R S) T w c) (append_assoc u u' v') (both (u ++ u') v' (both u u' ru su) tv)

-- no lexeme before
pub empty_then : {A B : Type 0} {S : A → List Lexeme → B → Type 0} (a : A) (w : List Lexeme) (b : B) → Then (Empty a) S w b → S a w b
empty_then {A = A} {B = B} {S = S} a w b (both {a = x} u v empty_text sv) = drop_it u v x b empty_text sv
  where
    drop_it : (u v : List Lexeme) (x : A) (b : B) → Empty a u x → S x v b → S a (u ++ v) b
    drop_it u v x b empty sv = sv

pub empty_then_back : {A B : Type 0} {S : A → List Lexeme → B → Type 0} (a : A) (w : List Lexeme) (b : B) → S a w b → Then (Empty a) S w b
empty_then_back a w b s = both [] w empty s

-- no lexeme after
pub then_empty : {A : Type 0} {R : List Lexeme → A → Type 0} (w : List Lexeme) (a : A) → Then R (λ x. Empty x) w a → R w a
then_empty {A = A} {R = R} w a (both {a = x} u v ru empty_text) = drop_it u v x a ru empty_text
  where
    drop_it : (u v : List Lexeme) (x a : A) → R u x → Empty x v a → R (u ++ v) a
    drop_it u v x a ru empty = subst (λ w. R w x) (sym (append-nil u)) ru

-- a text and a value made of its meaning
pub made : {A B : Type 0} {R : List Lexeme → A → Type 0} (f : A → B) (w : List Lexeme) (a : A) → R w a → Then R (λ x. Empty (f x)) w (f a)
made {R = R} f w a r = subst (λ u. Then R (λ x. Empty (f x)) u (f a)) (append-nil w) (both w [] r empty)

-- ---- one of two rules

pub then_either : {A B : Type 0} {R : List Lexeme → A → Type 0} {S T : A → List Lexeme → B → Type 0}
    → (w : List Lexeme) (b : B) → Then R (λ a. Either (S a) (T a)) w b → Either (Then R S) (Then R T) w b
then_either {A = A} {B = B} {R = R} {S = S} {T = T} w b (both {a = a} u v ru st) = choose u v a b ru st
  where
    choose : (u v : List Lexeme) (a : A) (b : B) → R u a → Either (S a) (T a) v b → Either (Then R S) (Then R T) (u ++ v) b
    choose u v a b ru (first sv) = first (both u v ru sv)
    choose u v a b ru (second tv) = second (both u v ru tv)

pub then_either_back : {A B : Type 0} {R : List Lexeme → A → Type 0} {S T : A → List Lexeme → B → Type 0}
    → (w : List Lexeme) (b : B) → Either (Then R S) (Then R T) w b → Then R (λ a. Either (S a) (T a)) w b
then_either_back w b (first t) = then_map (λ u a spells. spells) (λ a v c spells. first spells) w b t
then_either_back w b (second t) = then_map (λ u a spells. spells) (λ a v c spells. second spells) w b t

pub either_then : {A B : Type 0} {R R' : List Lexeme → A → Type 0} {S : A → List Lexeme → B → Type 0}
    → (w : List Lexeme) (b : B) → Then (Either R R') S w b → Either (Then R S) (Then R' S) w b
either_then {A = A} {B = B} {R = R} {R' = R'} {S = S} w b (both {a = a} u v rr sv) = choose u v a b rr sv
  where
    choose : (u v : List Lexeme) (a : A) (b : B) → Either R R' u a → S a v b → Either (Then R S) (Then R' S) (u ++ v) b
    choose u v a b (first ru) sv = first (both u v ru sv)
    choose u v a b (second ru) sv = second (both u v ru sv)

pub either_then_back : {A B : Type 0} {R R' : List Lexeme → A → Type 0} {S : A → List Lexeme → B → Type 0}
    → (w : List Lexeme) (b : B) → Either (Then R S) (Then R' S) w b → Then (Either R R') S w b
either_then_back w b (first t) = then_map (λ u a spells. first spells) (λ a v c spells. spells) w b t
either_then_back w b (second t) = then_map (λ u a spells. second spells) (λ a v c spells. spells) w b t

-- a text that may be left out, and what stands after it with or without it
pub maybe_then : {A B : Type 0} {R : List Lexeme → A → Type 0} {S : Option A → List Lexeme → B → Type 0}
    → (w : List Lexeme) (b : B) → Then (Maybe R) S w b → Either (Then R (λ a. S (Some a))) (S None) w b
maybe_then {A = A} {B = B} {R = R} {S = S} w b (both {a = o} u v maybe_text sv) = choose u v o b maybe_text sv
  where
    choose : (u v : List Lexeme) (o : Option A) (b : B) → Maybe R u o → S o v b → Either (Then R (λ a. S (Some a))) (S None) (u ++ v) b
    choose u v o b absent sv = second sv
    choose u v o b (present ru) sv = first (both u v ru sv)

pub maybe_then_back : {A B : Type 0} {R : List Lexeme → A → Type 0} {S : Option A → List Lexeme → B → Type 0}
    → (w : List Lexeme) (b : B) → Either (Then R (λ a. S (Some a))) (S None) w b → Then (Maybe R) S w b
maybe_then_back {B = B} {R = R} {S = S} w b (first t) = with_text w b t
  where
    with_text : (w : List Lexeme) (b : B) → Then R (λ a. S (Some a)) w b → Then (Maybe R) S w b
    with_text w b (both u v ru sv) = both u v (present ru) sv
maybe_then_back w b (second t) = both [] w absent t

-- ---- parentheses

pub enclosed_either : {A : Type 0} {R S : List Lexeme → A → Type 0}
    → (w : List Lexeme) (a : A) → Enclosed (Either R S) w a → Either (Enclosed R) (Enclosed S) w a
enclosed_either {A = A} {R = R} {S = S} w a (enclosed u t) = choose u a t
  where
    choose : (u : List Lexeme) (a : A) → Either R S u a → Either (Enclosed R) (Enclosed S) (Sign ParenOpen ∷ (u ++ Sign ParenClose ∷ [])) a
    choose u a (first t) = first (enclosed u t)
    choose u a (second t) = second (enclosed u t)

pub enclosed_either_back : {A : Type 0} {R S : List Lexeme → A → Type 0}
    → (w : List Lexeme) (a : A) → Either (Enclosed R) (Enclosed S) w a → Enclosed (Either R S) w a
enclosed_either_back w a (first t) = enclosed_map (λ u x spells. first spells) w a t
enclosed_either_back w a (second t) = enclosed_map (λ u x spells. second spells) w a t

pub enclosed_made : {A B : Type 0} {R : List Lexeme → A → Type 0} {f : A → B}
    → (w : List Lexeme) (b : B) → Enclosed (Then R (λ a. Empty (f a))) w b → Then (Enclosed R) (λ a. Empty (f a)) w b
enclosed_made {A = A} {B = B} {R = R} {f = f} w b (enclosed u t) = of_made u b t
  where
    by_empty : (u v : List Lexeme) (a : A) (b : B) → R u a → Empty (f a) v b
        → Then (Enclosed R) (λ x. Empty (f x)) (Sign ParenOpen ∷ ((u ++ v) ++ Sign ParenClose ∷ [])) b
    by_empty u v a b ru empty =
        subst (λ w. Then (Enclosed R) (λ x. Empty (f x)) (Sign ParenOpen ∷ (w ++ Sign ParenClose ∷ [])) (f a)) (sym (append-nil u))
        (made f (Sign ParenOpen ∷ (u ++ Sign ParenClose ∷ [])) a (enclosed u ru))

    of_made : (u : List Lexeme) (b : B) → Then R (λ a. Empty (f a)) u b → Then (Enclosed R) (λ a. Empty (f a)) (Sign ParenOpen ∷ (u ++ Sign ParenClose ∷ [])) b
    of_made u b (both {a = a} v e rv empty_text) = by_empty v e a b rv empty_text

pub enclosed_made_back : {A B : Type 0} {R : List Lexeme → A → Type 0} {f : A → B}
    → (w : List Lexeme) (b : B) → Then (Enclosed R) (λ a. Empty (f a)) w b → Enclosed (Then R (λ a. Empty (f a))) w b
enclosed_made_back {A = A} {B = B} {R = R} {f = f} w b (both {a = a} u v group empty_text) = by_empty u v a b group empty_text
  where
    inside : (u : List Lexeme) (a : A) → Enclosed R u a → Enclosed (Then R (λ x. Empty (f x))) u (f a)
    inside u a (enclosed w ru) = enclosed w (made f w a ru)

    by_empty : (u v : List Lexeme) (a : A) (b : B) → Enclosed R u a → Empty (f a) v b → Enclosed (Then R (λ x. Empty (f x))) (u ++ v) b
    by_empty u v a b group empty = subst (λ w. Enclosed (Then R (λ x. Empty (f x))) w (f a)) (sym (append-nil u)) (inside u a group)
