-- The scan of LIKE: one character, one part before a `%`, and that the first match of a part is as good as any later one.
use Rattle.std.proofs.Common.{◌≡◌, ◌≢◌, ℕ, zero, suc, ◌+◌, ◌<◌, ◌≤◌, Bool, true, false, ◌&&◌, ◌||◌, ◌==◌, List, [], ◌∷◌, ◌++◌, length, drop, refl, sym, ap, subst, ◌∙◌, true≢false, inl, inr, append_assoc, length-append, arith, eq-eqb, ne_eqb}
use Rattle.std.proofs.lemmas.List.{drop-drop}
use Rattle.std.proofs.lemmas.Bool.{and_parts, or_cases, or_left, or_right}
use Rattle.std.specs.List.{AllByRecursion}
use Rattle.pdw_expr.specs.Like.{percent, underscore, matches, some_suffix, stands_for, after_one, is_empty}
use Rattle.pdw_expr.specs.Run.{ReachesPercent}

-- ---- one character of the pattern

pub matches-percent : (later text : List ℕ) → matches (percent ∷ later) text ≡ some_suffix (matches later) text
matches-percent later text = refl

pub matches-other : (c : ℕ) (later text : List ℕ) → c ≢ percent → matches (c ∷ later) text ≡ after_one (stands_for c) (matches later) text
matches-other c later text other = rw (ne_eqb c percent other)

pub matches-no_text : (c : ℕ) (later : List ℕ) → c ≢ percent → false ≡ matches (c ∷ later) []
matches-no_text c later other = sym (matches-other c later [] other)

pub matches-same : (c : ℕ) (later rest : List ℕ) → c ≢ percent → matches (c ∷ later) (c ∷ rest) ≡ matches later rest
matches-same c later rest other =
    matches-other c later (c ∷ rest) other ∙ ap (λ b. ((c == underscore) || b) && matches later rest) (eq-eqb c c refl) ∙ by (c == underscore)
  where
    by : (b : Bool) → ((b || true) && matches later rest) ≡ matches later rest
    by true = refl
    by false = refl

pub matches-stands : (c d : ℕ) (later rest : List ℕ) → c ≢ percent → stands_for c d ≡ true → matches later rest ≡ matches (c ∷ later) (d ∷ rest)
matches-stands c d later rest other stands = sym (matches-other c later (d ∷ rest) other ∙ ap (λ b. b && matches later rest) stands)

pub matches-differs : (c d : ℕ) (later rest : List ℕ) → c ≢ percent → stands_for c d ≡ false → false ≡ matches (c ∷ later) (d ∷ rest)
matches-differs c d later rest other differs = sym (matches-other c later (d ∷ rest) other ∙ ap (λ b. b && matches later rest) differs)

-- ---- some suffix

pub some_suffix-here : (test : List ℕ → Bool) (text : List ℕ) → test text ≡ true → some_suffix test text ≡ true
some_suffix-here test [] passes = passes
some_suffix-here test (c ∷ text) passes = or_left _ _ passes

pub some_suffix-later : (test : List ℕ → Bool) (c : ℕ) (rest : List ℕ) → test (c ∷ rest) ≡ false → some_suffix test rest ≡ some_suffix test (c ∷ rest)
some_suffix-later test c rest fails = sym (ap (λ b. b || some_suffix test rest) fails)

pub some_suffix-after : (test : List ℕ → Bool) (before suffix : List ℕ) → test suffix ≡ true → some_suffix test (before ++ suffix) ≡ true
some_suffix-after test [] suffix passes = some_suffix-here test suffix passes
some_suffix-after test (c ∷ before) suffix passes = or_right _ _ (some_suffix-after test before suffix passes)

some_suffix-drop : (test : List ℕ → Bool) (k : ℕ) (text : List ℕ) → some_suffix test (drop k text) ≡ true → some_suffix test text ≡ true
some_suffix-drop test zero text found = found
some_suffix-drop test (suc k) [] found = found
some_suffix-drop test (suc k) (c ∷ text) found = or_right _ _ (some_suffix-drop test k text found)

some_suffix-at : (test : List ℕ → Bool) (text : List ℕ) → some_suffix test text ≡ true → (k : ℕ) × (test (drop k text) ≡ true)
some_suffix-at test [] found = (0, found)
some_suffix-at test (c ∷ text) found = elim (or_cases (test (c ∷ text)) (some_suffix test text) found) [
  | inl here ↦ (0, here)
  | inr there ↦ let at = some_suffix-at test text there in (suc at.0, at.1)
]

-- ---- one part before a `%`

past_one : (first : ℕ → Bool) (rest : List ℕ → Bool) (text : List ℕ) → after_one first rest text ≡ true → rest (drop 1 text) ≡ true
past_one first rest [] h = absurd (true≢false (sym h))
past_one first rest (c ∷ text) h = (and_parts (first c) _ h).1

past_part : (part later text : List ℕ) → AllByRecursion (λ c. c ≢ percent) part → matches (part ++ percent ∷ later) text ≡ true
    → some_suffix (matches later) (drop (length part) text) ≡ true
past_part [] later text plain h = h
past_part (c ∷ part) later text plain h =
    let one = past_one (stands_for c) (matches (part ++ percent ∷ later)) text (sym (matches-other c (part ++ percent ∷ later) text plain.0) ∙ h) in
    subst (λ left. some_suffix (matches later) left ≡ true) (turned (length part) text) (past_part part later (drop 1 text) plain.1 one)
  where
    turned : (n : ℕ) (text : List ℕ) → drop n (drop 1 text) ≡ drop (suc n) text
    turned zero [] = refl
    turned (suc n) [] = refl
    turned n (d ∷ text) = refl

same_answer : (a b : Bool) → (a ≡ true → b ≡ true) → (b ≡ true → a ≡ true) → a ≡ b
same_answer true b there back = sym (there refl)
same_answer false true there back = back refl
same_answer false false there back = refl

-- a part that matches here matches nowhere better
pub first_match : (pattern text later left : List ℕ) → ReachesPercent pattern text later left → some_suffix (matches later) left ≡ some_suffix (matches pattern) text
first_match pattern text later left reached = same_answer _ _
    (λ found. some_suffix-here (matches pattern) text (reached.same ∙ found))
    (λ found.
    let at = some_suffix-at (matches pattern) text found in
    let n = length reached.part in
    let here : matches (reached.part ++ percent ∷ later) (drop at.0 text) ≡ true = subst (λ p. matches p (drop at.0 text) ≡ true) reached.split at.1 in
    let after = past_part reached.part later (drop at.0 text) reached.plain here in
    let turn : at.0 + n ≡ n + at.0 = omega arith in
    let moved : drop n (drop at.0 text) ≡ drop at.0 left =
    drop-drop n at.0 text ∙ ap (λ m. drop m text) turn ∙ sym (drop-drop at.0 n text) ∙ ap (drop at.0) (sym reached.passed) in
    some_suffix-drop (matches later) at.0 left (subst (λ l. some_suffix (matches later) l ≡ true) moved after))

-- what the loop over one part has passed
pub record HasPassed (pattern text p t : List ℕ) : Type 0 where
  pub part : List ℕ
  pub plain : AllByRecursion (λ c. c ≢ percent) part
  pub split : pattern ≡ part ++ p
  pub passed : t ≡ drop (length part) text
  pub same : matches p t ≡ matches pattern text

pub passed-none : (pattern text : List ℕ) → HasPassed pattern text pattern text
passed-none pattern text = record { part = []; plain = tt; split = refl; passed = refl; same = refl }

plain-append : (part : List ℕ) (c : ℕ) → AllByRecursion (λ c. c ≢ percent) part → c ≢ percent → AllByRecursion (λ c. c ≢ percent) (part ++ c ∷ [])
plain-append [] c plain other = (other, tt)
plain-append (d ∷ part) c plain other = (plain.0, plain-append part c plain.1 other)

pub passed-more : (pattern text p t : List ℕ) (c d : ℕ) (later rest : List ℕ) → HasPassed pattern text p t → p ≡ c ∷ later → t ≡ d ∷ rest → c ≢ percent
    → stands_for c d ≡ true → HasPassed pattern text later rest
passed-more pattern text p t c d later rest h is_p is_t other stands = record {
  part = h.part ++ c ∷ [];
  plain = plain-append h.part c h.plain other;
  split = h.split ∙ ap (λ l. h.part ++ l) is_p ∙ sym (append_assoc h.part (c ∷ []) later);
  passed =
      let front = length-append h.part (c ∷ []) in
      let n : length h.part + 1 ≡ length (h.part ++ c ∷ []) = omega arith in
      ap (drop 1) (sym is_t ∙ h.passed) ∙ drop-drop 1 (length h.part) text ∙ ap (λ m. drop m text) n;
  same = matches-stands c d later rest other stands ∙ sym (ap (λ l. matches l (d ∷ rest)) is_p) ∙ sym (ap (matches p) is_t) ∙ h.same;
}

pub reached : (pattern text p t later : List ℕ) (c : ℕ) → HasPassed pattern text p t → p ≡ c ∷ later → c ≡ percent → ReachesPercent pattern text later t
reached pattern text p t later c h is percent_is = record {
  part = h.part;
  plain = h.plain;
  split = h.split ∙ ap (λ l. h.part ++ l) (is ∙ ap (λ d. d ∷ later) percent_is);
  passed = h.passed;
  same = sym h.same ∙ ap (λ l. matches l t) (is ∙ ap (λ d. d ∷ later) percent_is);
}

pub ended : (pattern text p t : List ℕ) → HasPassed pattern text p t → p ≡ [] → is_empty t ≡ matches pattern text
ended pattern text p t h is = sym (ap (λ l. matches l t) is) ∙ h.same

pub out_of_text : (pattern text p t : List ℕ) (c : ℕ) (later : List ℕ) → HasPassed pattern text p t → p ≡ c ∷ later → t ≡ [] → c ≢ percent → false ≡ matches pattern text
out_of_text pattern text p t c later h is_p is_t other =
    matches-no_text c later other ∙ sym (ap (λ l. matches l []) is_p) ∙ sym (ap (matches p) is_t) ∙ h.same

pub differed : (pattern text p t : List ℕ) (c d : ℕ) (later rest : List ℕ) → HasPassed pattern text p t → p ≡ c ∷ later → t ≡ d ∷ rest → c ≢ percent
    → stands_for c d ≡ false → false ≡ matches pattern text
differed pattern text p t c d later rest h is_p is_t other differs =
    matches-differs c d later rest other differs ∙ sym (ap (λ l. matches l (d ∷ rest)) is_p) ∙ sym (ap (matches p) is_t) ∙ h.same

-- the scan goes on with less
pub ReachesPercent-shorter : (pattern text later left : List ℕ) → ReachesPercent pattern text later left → (length later < length pattern) × (length left ≤ length text)
ReachesPercent-shorter pattern text later left h =
    let all = ap length h.split in
    let parts = length-append h.part (percent ∷ later) in
    let rest = ap length h.passed in
    (omega arith, omega (arith, length-drop_le (length h.part) text))
  where
    length-drop_le : (n : ℕ) (xs : List ℕ) → length (drop n xs) ≤ length xs
    length-drop_le zero xs = omega arith
    length-drop_le (suc n) [] = omega arith
    length-drop_le (suc n) (x ∷ xs) = let less = length-drop_le n xs in omega arith
