-- The output columns of a name.
use Rattle.std.proofs.Common.{◌≡◌, ℕ, suc, ◌+◌, ◌||◌, Bool, true, false, List, [], ◌∷◌, map, drop, take, length, ◌-◌, position, Some, None, cond, refl, sym, ap, ◌∙◌, arith}
use Rattle.std.specs.List.{enumerate_from, filter, list_any, position_from}
use Rattle.std.proofs.lemmas.List.{length-drop, take_all}
use Rattle.std.proofs.lemmas.Iterator.Adapters.{position_from-zero}
use Rattle.pdw_walk.specs.Queries.{has_name, name_of, named_place, place_has_name, places}
use Rattle.pdw_walk.specs.Walk.{done, refused, beginning}
use Rattle.pdw_walk.specs.declared.entry.Column.{Column}
use Rattle.pdw_walk.specs.declared.fault.JudgeFault.TheVariants.{Ambiguous, UnknownColumn}

module _ (name : List ℕ) where
  -- the places of the name, where the columns begin at place k
  abbrev from : ℕ → List Column → List (ℕ × List ℕ)
  from k xs = filter (place_has_name name) (enumerate_from k (map name_of xs))

  no_first : (xs : List Column) (k : ℕ) → position_from (has_name name) k xs ≡ None → from k xs ≡ []
  no_first [] k e = refl
  no_first (x ∷ xs) k e = by (has_name name x) (no_first xs (k + 1)) e
    where
      by : (b : Bool) → (position_from (has_name name) (k + 1) xs ≡ None → from (k + 1) xs ≡ []) → cond b (Some k) (position_from (has_name name) (k + 1) xs) ≡ None → cond b ((k, x.name) ∷ from (k + 1) xs) (from (k + 1) xs) ≡ []
      by true rest e = absurd (cc)
      by false rest e = rest e

  none_left : (xs : List Column) (k : ℕ) → list_any (has_name name) xs ≡ false → from k xs ≡ []
  none_left [] k e = refl
  none_left (x ∷ xs) k e = by (has_name name x) (none_left xs (k + 1)) e
    where
      by : (b : Bool) → (list_any (has_name name) xs ≡ false → from (k + 1) xs ≡ []) → (b || list_any (has_name name) xs) ≡ false → cond b ((k, x.name) ∷ from (k + 1) xs) (from (k + 1) xs) ≡ []
      by true rest e = absurd (cc)
      by false rest e = rest e

  abbrev IsSome : List (ℕ × List ℕ) → Type 0
  IsSome found = (q : ℕ × List ℕ) × (qs : List (ℕ × List ℕ)) × (found ≡ q ∷ qs)

  some_left : (xs : List Column) (k : ℕ) → list_any (has_name name) xs ≡ true → IsSome (from k xs)
  some_left [] k e = absurd (cc)
  some_left (x ∷ xs) k e = by (has_name name x) (some_left xs (k + 1)) e
    where
      by : (b : Bool) → (list_any (has_name name) xs ≡ true → IsSome (from (k + 1) xs)) → (b || list_any (has_name name) xs) ≡ true → IsSome (cond b ((k, x.name) ∷ from (k + 1) xs) (from (k + 1) xs))
      by true rest e = ((k, x.name), from (k + 1) xs, refl)
      by false rest e = rest e

  -- the first place of the name, and those behind it
  pub record First (k i : ℕ) (xs : List Column) (found : List (ℕ × List ℕ)) : Type 0 where
    pub far : ℕ
    pub same : i ≡ k + far
    pub column : List ℕ
    pub behind : found ≡ (i, column) ∷ from (i + 1) (drop (suc far) xs)

  first : (xs : List Column) (k i : ℕ) → position_from (has_name name) k xs ≡ Some i → First k i xs (from k xs)
  first [] k i e = absurd (cc)
  first (x ∷ xs) k i e = by (has_name name x) (first xs (k + 1) i) e
    where
      by : (b : Bool) → (position_from (has_name name) (k + 1) xs ≡ Some i → First (k + 1) i xs (from (k + 1) xs)) → cond b (Some k) (position_from (has_name name) (k + 1) xs) ≡ Some i → First k i (x ∷ xs) (cond b ((k, x.name) ∷ from (k + 1) xs) (from (k + 1) xs))
      by true rest e = let here : k ≡ i = cc in record { far = 0; same = omega arith; column = x.name; behind = ap (λ at. (at, x.name) ∷ from (at + 1) xs) here }
      by false rest e = let later = rest e in record { far = suc later.far; same = omega (arith, later.same); column = later.column; behind = later.behind }

  first_place : (xs : List Column) (i : ℕ) → position (has_name name) xs ≡ Some i → (column : List ℕ) × (from 0 xs ≡ (i, column) ∷ from (i + 1) (drop (i + 1) xs))
  first_place xs i e =
      let found = first xs 0 i (sym (position_from-zero (has_name name) xs) ∙ e) in
      let far : suc found.far ≡ i + 1 = omega (arith, found.same) in
      (found.column, found.behind ∙ ap (λ n. (i, found.column) ∷ from (i + 1) (drop n xs)) far)

  -- the columns behind a place
  abbrev rest : List Column → ℕ → List Column
  rest xs i = take (length xs - (i + 1)) (drop (i + 1) xs)

  whole_rest : (xs : List Column) (i : ℕ) → rest xs i ≡ drop (i + 1) xs
  whole_rest xs i = take_all (length xs - (i + 1)) (drop (i + 1) xs) (omega (arith, length-drop (i + 1) xs))

  pub unknown_name : (xs : List Column) → position (has_name name) xs ≡ None → named_place name (places name (map name_of xs)) beginning ≡ refused (UnknownColumn name)
  unknown_name xs e = ap (λ ps. named_place name ps beginning) (no_first xs 0 (sym (position_from-zero (has_name name) xs) ∙ e))

  pub one_name : (xs : List Column) (i : ℕ) → position (has_name name) xs ≡ Some i → list_any (has_name name) (rest xs i) ≡ false
      → named_place name (places name (map name_of xs)) beginning ≡ done i beginning
  one_name xs i e none =
      let found = first_place xs i e in
      let left = ap (list_any (has_name name)) (sym (whole_rest xs i)) ∙ none in
      ap (λ ps. named_place name ps beginning) (found.1 ∙ ap (λ ps. (i, found.0) ∷ ps) (none_left (drop (i + 1) xs) (i + 1) left))

  pub several_names : (xs : List Column) (i : ℕ) → position (has_name name) xs ≡ Some i → list_any (has_name name) (rest xs i) ≡ true
      → named_place name (places name (map name_of xs)) beginning ≡ refused (Ambiguous name)
  several_names xs i e some =
      let found = first_place xs i e in
      let left = ap (list_any (has_name name)) (sym (whole_rest xs i)) ∙ some in
      let more = some_left (drop (i + 1) xs) (i + 1) left in
      ap (λ ps. named_place name ps beginning) (found.1 ∙ ap (λ ps. (i, found.0) ∷ ps) more.2)

pub ruleset found = (unknown_name, one_name, several_names)
