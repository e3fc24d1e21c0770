-- The test of LIKE decides its rules.
use Rattle.std.proofs.Common.{◌≡◌, ◌≢◌, ℕ, Bool, true, false, ◌||◌, ◌==◌, List, [], ◌∷◌, ◌++◌, refl, sym, ap, subst, ◌∙◌, true≢false, inl, inr, eqb-true, eq-eqb, if◌then◌else◌}
use Rattle.std.proofs.lemmas.Bool.{and_parts, or_cases}
use Rattle.pdw_expr.specs.Like.{percent, underscore, Matches, matches, some_suffix, stands_for, after_one}
use Rattle.pdw_expr.specs.Like.Matches.{nothing, any_run, any_one, itself}
use Rattle.pdw_expr.proofs.LikeLemmas.{some_suffix-after, matches-same}

pub matches-from_Matches : (pattern text : List ℕ) → Matches pattern text → matches pattern text ≡ true
matches-from_Matches _ _ nothing = refl
matches-from_Matches _ _ (any_run pattern before suffix rest) = some_suffix-after (matches pattern) before suffix (matches-from_Matches pattern suffix rest)
matches-from_Matches _ _ (any_one pattern text c rest) = matches-from_Matches pattern text rest
matches-from_Matches _ _ (itself pattern text c other no_any rest) = matches-same c pattern text other ∙ matches-from_Matches pattern text rest

at_suffix : (test : List ℕ → Bool) (text : List ℕ) → some_suffix test text ≡ true → (before : List ℕ) × (suffix : List ℕ) × (text ≡ before ++ suffix) × (test suffix ≡ true)
at_suffix test [] found = ([], [], refl, found)
at_suffix test (c ∷ text) found = elim (or_cases (test (c ∷ text)) (some_suffix test text) found) [
  | inl here ↦ ([], c ∷ text, refl, here)
  | inr there ↦ let at = at_suffix test text there in (c ∷ at.0, at.1, ap (λ l. c ∷ l) at.2, at.3)
]

by_percent : (c : ℕ) (pattern before suffix text : List ℕ) → c ≡ percent → text ≡ before ++ suffix → Matches pattern suffix → Matches (c ∷ pattern) text
by_percent c pattern before suffix text same is rest =
    subst (λ l. Matches (c ∷ pattern) l) (sym is) (subst (λ d. Matches (d ∷ pattern) (before ++ suffix)) (sym same) (any_run pattern before suffix rest))

by_one : (c d : ℕ) (pattern text : List ℕ) → c ≢ percent → stands_for c d ≡ true → Matches pattern text → Matches (c ∷ pattern) (d ∷ text)
by_one c d pattern text other h rest = by (c == underscore) refl h
  where
    by : (b : Bool) → (c == underscore) ≡ b → (b || (c == d)) ≡ true → Matches (c ∷ pattern) (d ∷ text)
    by true is h = subst (λ e. Matches (e ∷ pattern) (d ∷ text)) (sym (eqb-true _ _ is)) (any_one pattern text d rest)
    by false is h =
        subst (λ e. Matches (c ∷ pattern) (e ∷ text)) (eqb-true _ _ h)
        (itself pattern text c other (λ e. true≢false (sym (eq-eqb _ _ e) ∙ is)) rest)

by_after_one : (c : ℕ) (pattern text : List ℕ) → c ≢ percent → ((t : List ℕ) → matches pattern t ≡ true → Matches pattern t)
    → after_one (stands_for c) (matches pattern) text ≡ true → Matches (c ∷ pattern) text
by_after_one c pattern [] other rest h = absurd (true≢false (sym h))
by_after_one c pattern (d ∷ text) other rest h =
    let parts = and_parts (stands_for c d) _ h in
    by_one c d pattern text other parts.0 (rest text parts.1)

by_first : (c : ℕ) (pattern text : List ℕ) → ((t : List ℕ) → matches pattern t ≡ true → Matches pattern t) → matches (c ∷ pattern) text ≡ true → Matches (c ∷ pattern) text
by_first c pattern text rest h = by (c == percent) refl h
  where
    by : (b : Bool) → (c == percent) ≡ b → (if b then some_suffix (matches pattern) else after_one (stands_for c) (matches pattern)) text ≡ true
        → Matches (c ∷ pattern) text
    by true is h = let at = at_suffix (matches pattern) text h in by_percent c pattern at.0 at.1 text (eqb-true _ _ is) at.2 (rest at.1 at.3)
    by false is h = by_after_one c pattern text (λ e. true≢false (sym (eq-eqb _ _ e) ∙ is)) rest h

pub Matches-from_matches : (pattern text : List ℕ) → matches pattern text ≡ true → Matches pattern text
Matches-from_matches [] [] h = nothing
Matches-from_matches [] (d ∷ text) h = absurd (true≢false (sym h))
Matches-from_matches (c ∷ pattern) text h = by_first c pattern text (Matches-from_matches pattern) h
