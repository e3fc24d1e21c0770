-- The order keys of a query are judged alike whatever was walked before.
use Rattle.std.proofs.Common.{◌≡◌, ℕ, ℤ, pos, negsuc, ◌-◌, ◌&&◌, leb, Bool, true, false, List, [], ◌∷◌, ◌++◌, length, map, Result, Ok, Err, refl, sym, ap, ◌∙◌, subst, if◌then◌else◌}
use Rattle.std.specs.Fmt.{signed_decimal}
use Rattle.pdw_syntax.specs.declared.query.OrderKey.{OrderKey}
use Rattle.pdw_syntax.specs.declared.query.OrderName.{OrderName}
use Rattle.pdw_syntax.specs.declared.query.OrderName.TheVariants.{Name, Position}
use Rattle.pdw_syntax.specs.declared.query.Select.{Select}
use Rattle.pdw_catalog.specs.Catalog.{Tables}
use Rattle.pdw_walk.specs.Queries.{name_of, named_place, order_key, order_place, ordered, place_at, places, query, select}
use Rattle.pdw_walk.specs.Statements.{Answers, answer_of}
use Rattle.pdw_walk.specs.Walk.{Walk, Outcome, done, refused, Step, ◌>>=◌, and_then, pure, refuse, over, each, gathering, beginning, Walks}
use Rattle.pdw_walk.specs.declared.entry.Role.TheVariants as role
use Rattle.pdw_walk.specs.declared.entry.Walked.{Walked}
use Rattle.pdw_walk.specs.declared.fault.JudgeFault.{JudgeFault}
use Rattle.pdw_walk.specs.declared.fault.JudgeFault.TheVariants.{UnknownColumn}
use Rattle.pdw_form.specs.declared.judged.JudgedSelect.{JudgedSelect}

-- the same outcome over another state
abbrev moved : {A : Type 0} → Walk → Outcome A → Outcome A
moved w (done a v) = done a w
moved w (refused fault) = refused fault

moved_twice : {A : Type 0} (w v : Walk) (o : Outcome A) → moved w (moved v o) ≡ moved w o
moved_twice w v (done a u) = refl
moved_twice w v (refused fault) = refl

-- a step that neither reads the state nor changes it
record Still {A : Type 0} (step : Step A) : Type 0 where
  pub same : (w : Walk) → step w ≡ moved w (step beginning)

still_pure : {A : Type 0} (a : A) → Still (pure a)
still_pure a = record { same = λ w. refl }

still_refuse : {A : Type 0} (fault : JudgeFault) → Still (refuse {A = A} fault)
still_refuse fault = record { same = λ w. refl }

still_next : {A B : Type 0} (next : A → Step B) (w : Walk) (o : Outcome A) → ((a : A) → Still (next a)) → and_then (moved w o) next ≡ moved w (and_then o next)
still_next next w (done a v) still =
    (still a).same w ∙ sym (ap (moved w) ((still a).same v) ∙ moved_twice w v (next a beginning))
still_next next w (refused fault) still = refl

still_then : {A B : Type 0} (step : Step A) (next : A → Step B) → Still step → ((a : A) → Still (next a)) → Still (step >>= next)
still_then step next first second = record { same = λ w. ap (λ o. and_then o next) (first.same w) ∙ still_next next w (step beginning) second }

still_over : {A B : Type 0} (step : B → A → Step B) → ((b : B) (a : A) → Still (step b a)) → (b : B) (xs : List A) → Still (over step b xs)
still_over step still b [] = still_pure b
still_over step still b (x ∷ xs) = still_then (step b x) (λ more. over step more xs) (still b x) (λ more. still_over step still more xs)

still_each : {A B : Type 0} (step : A → Step B) → ((a : A) → Still (step a)) → (xs : List A) → Still (each step xs)
still_each step still xs = still_over (gathering step) (λ found x. still_then (step x) (λ b. pure (found ++ b ∷ [])) (still x) (λ b. still_pure (found ++ b ∷ []))) [] xs

-- ---- order keys

named_still : (name : List ℕ) (ps : List (ℕ × List ℕ)) → Still (named_place name ps)
named_still name [] = still_refuse _
named_still name (p ∷ []) = still_pure p.0
named_still name (p ∷ q ∷ ps) = still_refuse _

if_still : {A : Type 0} (b : Bool) (a : A) (fault : JudgeFault) → Still (if b then pure a else refuse fault)
if_still true a fault = still_pure a
if_still false a fault = still_refuse fault

place_still : (position : ℤ) (count : ℕ) → Still (place_at position count)
place_still (pos position) count = if_still (leb 1 position && leb position count) (position - 1) (UnknownColumn (signed_decimal (pos position)))
place_still (negsuc n) count = still_refuse _

order_still : (names : List (List ℕ)) (name : OrderName) → Still (order_place names name)
order_still names (Name name) = named_still name (places name names)
order_still names (Position position) = place_still position (length names)

key_still : (names : List (List ℕ)) (key : OrderKey) → Still (order_key names key)
unfolding order_key
key_still names key = still_then (order_place names key.name) (λ place. pure (place, key.descending)) (order_still names key.name) (λ place. still_pure (place, key.descending))

ordered_still : (order : List OrderKey) (walked : Walked) → Still (ordered order walked)
ordered_still order walked =
    still_then (each (order_key (map name_of walked.outputs)) order) (λ keys. pure (record { query = walked.query; order = keys }))
    (still_each (order_key (map name_of walked.outputs)) (key_still (map name_of walked.outputs)) order) (λ keys. still_pure (record { query = walked.query; order = keys }))

-- ---- over any state

pub ordered_anywhere : (order : List OrderKey) (walked : Walked) (w : Walk) (found : Result JudgedSelect JudgeFault) → Walks (ordered order walked beginning) found beginning → Walks (ordered order walked w) found w
ordered_anywhere order walked w (Ok found) keys = (ordered_still order walked).same w ∙ ap (λ o. moved w o) keys
ordered_anywhere order walked w (Err fault) keys = λ told. (ordered_still order walked).same w ∙ ap (λ o. moved w o) (keys told)

pub selected : (tables : Tables) (s : Select) (w : Walk) {after : Walk} {walked : Walked} {order : List OrderKey} (found : Result JudgedSelect JudgeFault)
    → query tables s.query role.Statement [] w ≡ done walked after → order ≡ s.order → Walks (ordered order walked beginning) found beginning
    → Walks (select tables s w) found after
unfolding select
selected tables s w {after = after} {walked = walked} {order = order} found e same keys =
    subst (λ o. Walks (and_then o (ordered s.order)) found after) (sym e) (ordered_anywhere s.order walked after found (subst (λ order. Walks (ordered order walked beginning) found beginning) same keys))

-- what a walk from the beginning answers
pub answers : {A : Type 0} (outcome : Outcome A) (after : Walk) (found : Result A JudgeFault) → Walks outcome found after → Answers (answer_of outcome) found
answers outcome after (Ok a) e = ap answer_of e
answers outcome after (Err fault) e = λ told. ap answer_of (e told)
