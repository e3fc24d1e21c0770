-- Taking a walk that was done into its parts.
use Rattle.std.proofs.Common.{◌≡◌, Bool, true, false, refl, ap}
use Rattle.pdw_walk.specs.Walk.{Outcome, Step, Walk, and_then, done, refused}
use Rattle.pdw_walk.specs.declared.fault.JudgeFault.{JudgeFault}

is_done : {A : Type 0} → Outcome A → Bool
is_done (done a w) = true
is_done (refused fault) = false

pub refused_not_done : {A B : Type 0} {fault : JudgeFault} {a : A} {w : Walk} → refused fault ≡ done a w → B
unfolding is_done
refused_not_done e = absurd (let h : false ≡ true = ap is_done e in cc)

given : {A : Type 0} → A → Outcome A → A
given otherwise (done a w) = a
given otherwise (refused fault) = otherwise

after : {A : Type 0} → Walk → Outcome A → Walk
after otherwise (done a w) = w
after otherwise (refused fault) = otherwise

pub done_value : {A : Type 0} {a b : A} {w w' : Walk} → done a w ≡ done b w' → a ≡ b
unfolding given
done_value {a = a} e = ap (given a) e

pub done_walk : {A : Type 0} {a b : A} {w w' : Walk} → done a w ≡ done b w' → w ≡ w'
unfolding after
done_walk {w = w} e = ap (after w) e

pub record InTurn {A B : Type 0} (first : Outcome A) (next : A → Step B) (b : B) (w' : Walk) : Type 0 where
  pub value : A
  pub middle : Walk
  pub begun : first ≡ done value middle
  pub ended : next value middle ≡ done b w'

pub in_turn : {A B : Type 0} (first : Outcome A) (next : A → Step B) (b : B) (w' : Walk) → and_then first next ≡ done b w' → InTurn first next b w'
in_turn (done a w) next b w' e = record { value = a; middle = w; begun = refl; ended = e }
in_turn (refused fault) next b w' e = refused_not_done e
