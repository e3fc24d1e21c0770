-- Steps by their numbers.
use Rattle.std.proofs.Common.{◌≡◌, ℕ, ◌+◌, ◌<◌, ◌≤◌, List, ◌∷◌, ◌++◌, length, drop, get_or, append_assoc, append-nil, sym, ap, ◌∙◌}
use Rattle.std.proofs.lemmas.List.{drop_all, drop_more}
use Rattle.pdw_answer.specs.declared.answer.StepCount.{StepCount}
use Rattle.pdw_show.specs.Profile.{step_text, steps_text}

pub next-step : (steps : List StepCount) (i : ℕ) (step : StepCount) → i < length steps → step ≡ get_or steps i step → (text new all : List ℕ)
    → text ++ steps_text (i + 1) (drop i steps) ≡ all → new ≡ text ++ step_text (i + 1) step → new ++ steps_text (i + 1 + 1) (drop (i + 1) steps) ≡ all
next-step steps i step within item text new all before at =
    ap (λ t. t ++ steps_text (i + 1 + 1) (drop (i + 1) steps)) at
    ∙ append_assoc text (step_text (i + 1) step) (steps_text (i + 1 + 1) (drop (i + 1) steps))
    ∙ ap (λ some. text ++ steps_text (i + 1) some) (ap (λ s. s ∷ drop (i + 1) steps) item ∙ sym (drop_more steps i step within))
    ∙ before

pub last-step : (steps : List StepCount) (i : ℕ) → length steps ≤ i → (text all : List ℕ) → text ++ steps_text (i + 1) (drop i steps) ≡ all → text ≡ all
last-step steps i past text all before = sym (append-nil text) ∙ ap (λ some. text ++ steps_text (i + 1) some) (sym (drop_all i steps past)) ∙ before
