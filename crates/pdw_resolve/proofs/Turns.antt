-- A loop that walks over a list from left to right.
use Rattle.std.proofs.Common.{◌≡◌, ℕ, ◌+◌, ◌<◌, ◌≤◌, List, [], ◌∷◌, ◌++◌, drop, length, get_or, ap, ◌∙◌, refl}
use Rattle.std.proofs.lemmas.List.{at_drop_more, at_drop_all}
use Rattle.pdw_walk.specs.Walk.{Walk, Outcome, done, refused, Step, over, gathering, and_then, pure}
use Rattle.pdw_walk.specs.declared.fault.JudgeFault.{JudgeFault}

-- ---- a loop that has one value, which each turn makes anew

-- what the loop is to give is what its turns that are left give
pub record Left {A B : Type 0} (step : B → A → Step B) (whole : Outcome B) (xs : List A) (at : ℕ) (gathered : B) (w : Walk) : Type 0 where
  pub same : whole ≡ over step gathered (drop at xs) w

pub begins : {A B : Type 0} {step : B → A → Step B} {xs : List A} {gathered : B} {w : Walk}
    → Left step (over step gathered xs w) xs 0 gathered w
begins = record { same = refl }

turn : {A B : Type 0} {step : B → A → Step B} {whole : Outcome B} {xs : List A} {at : ℕ} {gathered : B} {w : Walk} (d : A)
    → Left step whole xs at gathered w → at < length xs
    → whole ≡ and_then (step gathered (get_or xs at d) w) (λ more. over step more (drop (at + 1) xs))
turn {step = step} {xs = xs} {at = at} {gathered = gathered} {w = w} d left below =
    left.same ∙ at_drop_more (λ ys. over step gathered ys w) xs at d below

pub goes_on : {A B : Type 0} {step : B → A → Step B} {whole : Outcome B} {xs : List A} {at : ℕ} {gathered more : B} {w after : Walk} (d : A)
    → Left step whole xs at gathered w → at < length xs → step gathered (get_or xs at d) w ≡ done more after
    → Left step whole xs (at + 1) more after
goes_on {step = step} {xs = xs} {at = at} d left below is =
    record { same = turn d left below ∙ ap (λ o. and_then o (λ more. over step more (drop (at + 1) xs))) is }

pub stops : {A B : Type 0} {step : B → A → Step B} {whole : Outcome B} {xs : List A} {at : ℕ} {gathered : B} {w : Walk} {fault : JudgeFault} (d : A)
    → Left step whole xs at gathered w → at < length xs → step gathered (get_or xs at d) w ≡ refused fault
    → whole ≡ refused fault
stops {step = step} {xs = xs} {at = at} d left below is =
    turn d left below ∙ ap (λ o. and_then o (λ more. over step more (drop (at + 1) xs))) is

pub ends : {A B : Type 0} {step : B → A → Step B} {whole : Outcome B} {xs : List A} {at : ℕ} {gathered : B} {w : Walk}
    → Left step whole xs at gathered w → length xs ≤ at → whole ≡ done gathered w
ends {step = step} {xs = xs} {at = at} {gathered = gathered} {w = w} left past =
    left.same ∙ at_drop_all (λ ys. over step gathered ys w) xs at past

-- ---- a loop that puts what each turn gives to the end of a list

pub record LeftEach {A B : Type 0} (step : A → Step B) (whole : Outcome (List B)) (xs : List A) (at : ℕ) (found : List B) (w : Walk) : Type 0 where
  pub left : Left (gathering step) whole xs at found w

pub each-begins : {A B : Type 0} {step : A → Step B} {xs : List A} {w : Walk}
    → LeftEach step (over (gathering step) [] xs w) xs 0 [] w
each-begins = record { left = begins }

pub each-goes_on : {A B : Type 0} {step : A → Step B} {whole : Outcome (List B)} {xs : List A} {at : ℕ} {found : List B} {w after : Walk} {b : B} (d : A)
    → LeftEach step whole xs at found w → at < length xs → step (get_or xs at d) w ≡ done b after
    → LeftEach step whole xs (at + 1) (found ++ b ∷ []) after
each-goes_on {found = found} {b = b} d each below is =
    record { left = goes_on d each.left below (ap (λ o. and_then o (λ b. pure (found ++ b ∷ []))) is) }

pub each-stops : {A B : Type 0} {step : A → Step B} {whole : Outcome (List B)} {xs : List A} {at : ℕ} {found : List B} {w : Walk} {fault : JudgeFault} (d : A)
    → LeftEach step whole xs at found w → at < length xs → step (get_or xs at d) w ≡ refused fault
    → whole ≡ refused fault
each-stops {found = found} d each below is = stops d each.left below (ap (λ o. and_then o (λ b. pure (found ++ b ∷ []))) is)

pub each-ends : {A B : Type 0} {step : A → Step B} {whole : Outcome (List B)} {xs : List A} {at : ℕ} {found : List B} {w : Walk}
    → LeftEach step whole xs at found w → length xs ≤ at → whole ≡ done found w
each-ends each past = ends each.left past

pub ruleset turns = (begins, goes_on, stops, ends, each-begins, each-goes_on, each-stops, each-ends)
