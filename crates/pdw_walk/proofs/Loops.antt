-- Loops of the walk that were done, turn by turn.
use Rattle.std.proofs.Common.{◌≡◌, List, [], ◌∷◌, subst}
use Rattle.pdw_walk.proofs.Outcomes.{done_value, done_walk, in_turn}
use Rattle.pdw_walk.specs.Walk.{Step, Walk, done, over}

-- one step for each, over what was made so far
pub data Turns {A B : Type 0} (step : B → A → Step B) : B → List A → Walk → B → Walk → Type 0 where
  turned : {b : B} {w : Walk} → Turns step b [] w b w
  again : {x : A} {xs : List A} {b more last : B} {w middle w' : Walk} → step b x w ≡ done more middle → Turns step more xs middle last w' → Turns step b (x ∷ xs) w last w'

pub over-turns : {A B : Type 0} (step : B → A → Step B) (b : B) (xs : List A) (w : Walk) (last : B) (w' : Walk) → over step b xs w ≡ done last w' → Turns step b xs w last w'
over-turns step b [] w last w' e = subst (λ c. Turns step b [] w c w') (done_value e) (subst (λ v. Turns step b [] w b v) (done_walk e) turned)
over-turns step b (x ∷ xs) w last w' e =
    let turn = in_turn (step b x w) (λ more. over step more xs) last w' e in
    again turn.begun (over-turns step turn.value xs turn.middle last w' turn.ended)
