-- Steps over lists that are made of other lists.
use Rattle.std.proofs.Common.{◌≡◌, List, [], ◌∷◌, ◌++◌, map, Bool, ◌||◌, refl, sym, ap, ◌∙◌}
use Rattle.std.specs.List.{flat_map, list_any}
use Rattle.pdw_syntax.specs.declared.query.SqlCond.{SqlCond}
use Rattle.pdw_walk.specs.Conds.{any_nested}
use Rattle.pdw_walk.specs.Queries.{condition}
use Rattle.pdw_walk.specs.Walk.{Walk, Outcome, done, refused, Step, ◌>>=◌, over, gathering, and_then}
use Rattle.pdw_resolve.proofs.Turns.{Left, LeftEach}

pub then-same : {A B : Type 0} (o : Outcome A) (f g : A → Step B) → ((a : A) (w : Walk) → f a w ≡ g a w) → and_then o f ≡ and_then o g
then-same (done a w) f g same = same a w
then-same (refused fault) f g same = refl

pub then-then : {A B C : Type 0} (o : Outcome A) (f : A → Step B) (g : B → Step C) → and_then (and_then o f) g ≡ and_then o (λ a. f a >>= g)
then-then (done a w) f g = refl
then-then (refused fault) f g = refl

-- over what a function makes of a list's items
pub over-map : {A B C : Type 0} (step : B → C → Step B) (f : A → C) (xs : List A) (gathered : B) (w : Walk)
    → over step gathered (map f xs) w ≡ over (λ before x. step before (f x)) gathered xs w
over-map step f [] gathered w = refl
over-map step f (x ∷ xs) gathered w =
    then-same (step gathered (f x) w) (λ more. over step more (map f xs)) (λ more. over (λ before x. step before (f x)) more xs) (λ more after. over-map step f xs more after)

pub over-append : {A B : Type 0} (step : B → A → Step B) (xs ys : List A) (gathered : B) (w : Walk)
    → over step gathered (xs ++ ys) w ≡ and_then (over step gathered xs w) (λ more. over step more ys)
over-append step [] ys gathered w = refl
over-append step (x ∷ xs) ys gathered w =
    then-same (step gathered x w) (λ more. over step more (xs ++ ys)) (λ more. over step more xs >>= (λ more. over step more ys)) (λ more after. over-append step xs ys more after)
    ∙ sym (then-then (step gathered x w) (λ more. over step more xs) (λ more. over step more ys))

-- over lists, one after the other
pub over-flat_map : {A B C : Type 0} (step : B → C → Step B) (f : A → List C) (xs : List A) (gathered : B) (w : Walk)
    → over step gathered (flat_map f xs) w ≡ over (λ before x. over step before (f x)) gathered xs w
over-flat_map step f [] gathered w = refl
over-flat_map step f (x ∷ xs) gathered w =
    over-append step (f x) (flat_map f xs) gathered w
    ∙ then-same (over step gathered (f x) w) (λ more. over step more (flat_map f xs)) (λ more. over (λ before x. over step before (f x)) more xs) (λ more after. over-flat_map step f xs more after)

-- a loop over what a function makes of a list's items
pub map-begins : {A B C : Type 0} (step : B → C → Step B) (f : A → C) (xs : List A) (start gathered : B) (w : Walk) → gathered ≡ start
    → Left (λ before x. step before (f x)) (over step start (map f xs) w) xs 0 gathered w
map-begins step f xs start gathered w is =
    record { same = over-map step f xs start w ∙ ap (λ before. over (λ before x. step before (f x)) before xs w) (sym is) }

pub each-map-begins : {A B C : Type 0} (step : C → Step B) (f : A → C) (xs : List A) (found : List B) (w : Walk) → found ≡ []
    → LeftEach (λ x. step (f x)) (over (gathering step) [] (map f xs) w) xs 0 found w
each-map-begins step f xs found w none =
    record { left = record { same = over-map (gathering step) f xs [] w ∙ ap (λ before. over (gathering (λ x. step (f x))) before xs w) (sym none) } }

pub flat_map-begins : {A B C D : Type 0} (step : B → D → Step B) (g : C → List D) (f : A → C) (xs : List A) (gathered : B) (w : Walk)
    → Left (λ before x. over step before (g (f x))) (over step gathered (flat_map g (map f xs)) w) xs 0 gathered w
flat_map-begins step g f xs gathered w =
    record { same = over-flat_map step g (map f xs) gathered w ∙ over-map (λ before x. over step before (g x)) f xs gathered w }

pub any-map : {A B : Type 0} (test : B → Bool) (f : A → B) (xs : List A) → list_any test (map f xs) ≡ list_any (λ x. test (f x)) xs
any-map test f [] = refl
any-map test f (x ∷ xs) = ap (λ found. test (f x) || found) (any-map test f xs)

pub any_nested_same : (parts : List SqlCond) → any_nested (map condition parts) ≡ list_any (λ part. (condition part).nested) parts
any_nested_same parts = any-map (λ part. part.nested) condition parts
