-- The interesting columns of some leaves of a block follow from those of all its leaves.
use Rattle.std.proofs.Common.{◌≡◌, ℕ, suc, ◌<◌, All, suc-le-suc, eq-eqb, ◌==◌, ◌&&◌, ◌||◌, Bool, true, false, cond, List, [], ◌∷◌, ◌++◌, filter, refl, sym, ap, ap₂, ◌∙◌, arith, eqb-true, ne_eqb, true≢false, if◌then◌else◌}
use Rattle.std.specs.Bool.{⊤}
use Rattle.std.specs.List.{AllByRecursion, flat_map, list_any}
use Rattle.std.proofs.lemmas.List.Elements.{All-head, All-tail}
use Rattle.pdw_algebra.proofs.AllLaws.{numbers-same}
use Rattle.pdw_algebra.proofs.PlacedLemmas.{rising-schema}
use Rattle.pdw_algebra.proofs.Used.{has_number-append}
use Rattle.pdw_algebra.specs.Schema.{rising}
use Rattle.pdw_algebra.specs.Shape.{has_number}
use Rattle.pdw_base.specs.Schema.{Columns, IsAscending}
use Rattle.pdw_base.specs.declared.schema.ColId.{ColId}
use Rattle.pdw_groups.proofs.SchemaLaws.{has_number-rising}
use Rattle.pdw_groups.specs.Columns.{interesting_in, numbers_of, or_first}
use Rattle.pdw_parts.specs.Part.{LeafSet, chosen, columns_in}

-- ---- numbers among others

abbrev is_in : List ColId → ColId → Bool
is_in those c = list_any (λ u. u.0 == c.0) those

and-true : (b : Bool) → b ≡ (b && true)
and-true true = refl
and-true false = refl

in-filter : (useful : List ColId) (those : List ColId) (c : ColId) → is_in (filter (is_in useful) those) c ≡ (is_in useful c && is_in those c)
in-filter useful [] c = by (is_in useful c)
  where
    by : (b : Bool) → false ≡ (b && false)
    by true = refl
    by false = refl
in-filter useful (d ∷ those) c = by (d.0 == c.0) refl (in-filter useful those c)
  where
    other : (b : Bool) → is_in (filter (is_in useful) those) c ≡ (is_in useful c && is_in those c) → (d.0 == c.0) ≡ false
        → is_in (cond b (d ∷ filter (is_in useful) those) (filter (is_in useful) those)) c ≡ (is_in useful c && is_in those c)
    other true rest differs = ap (λ b. b || is_in (filter (is_in useful) those) c) differs ∙ rest
    other false rest differs = rest

    this : (b : Bool) → is_in useful c ≡ b → is_in (filter (is_in useful) those) c ≡ (is_in useful c && is_in those c) → (d.0 == c.0) ≡ true
        → is_in (cond b (d ∷ filter (is_in useful) those) (filter (is_in useful) those)) c ≡ (b && true)
    this true is rest same = ap (λ b. b || is_in (filter (is_in useful) those) c) same
    this false is rest same = rest ∙ ap (λ b. b && is_in those c) is

    by : (here : Bool) → (d.0 == c.0) ≡ here → is_in (filter (is_in useful) those) c ≡ (is_in useful c && is_in those c)
        → is_in (cond (is_in useful d) (d ∷ filter (is_in useful) those) (filter (is_in useful) those)) c ≡ (is_in useful c && ((d.0 == c.0) || is_in those c))
    by true same rest =
        let one = numbers-same d c same in
        ap (λ e. is_in (cond (is_in useful e) (d ∷ filter (is_in useful) those) (filter (is_in useful) those)) c) one
        ∙ this (is_in useful c) refl rest same
        ∙ ap (λ b. is_in useful c && (b || is_in those c)) (sym same)
    by false differs rest =
        other (is_in useful d) rest differs ∙ ap (λ b. is_in useful c && (b || is_in those c)) (sym differs)

same-kept : {X : Type 0} (p q : X → Bool) (xs : List X) → AllByRecursion (λ x. p x ≡ q x) xs → filter p xs ≡ filter q xs
same-kept p q [] all = refl
same-kept p q (x ∷ xs) all = ap₂ (λ b rest. cond b (x ∷ rest) rest) all.0 (same-kept p q xs all.1)

none-kept : {X : Type 0} (p : X → Bool) (xs : List X) → AllByRecursion (λ x. p x ≡ false) xs → filter p xs ≡ []
none-kept p [] all = refl
none-kept p (x ∷ xs) all = ap (λ b. cond b (x ∷ filter p xs) (filter p xs)) all.0 ∙ none-kept p xs all.1

each-from : {X : Type 0} (P Q : X → Type 0) → ((x : X) → P x → Q x) → (xs : List X) → AllByRecursion P xs → AllByRecursion Q xs
each-from P Q holds [] all = tt
each-from P Q holds (x ∷ xs) all = (holds x all.0, each-from P Q holds xs all.1)

-- ---- numbers that rise

abbrev Rises : List ColId → Type 0
Rises [] = ⊤
Rises (c ∷ cs) = AllByRecursion (λ d. c.0 < d.0) cs × Rises cs

above : (n : ℕ) (those : List ColId) (c : ColId) → AllByRecursion (λ d. n < d.0) those → is_in those c ≡ true → n < c.0
above n [] c all there = absurd (true≢false (sym there))
above n (d ∷ those) c all there = by (d.0 == c.0) refl (above n those c all.1) there
  where
    by : (here : Bool) → (d.0 == c.0) ≡ here → (is_in those c ≡ true → n < c.0) → (here || is_in those c) ≡ true → n < c.0
    by true same rest there = let one = eqb-true d.0 c.0 same in omega (arith, one, all.0)
    by false differs rest there = rest there

-- the first of all numbers, where it is among some, is the first of some
first-again : (all some : List ColId) → Rises all → Rises some → AllByRecursion (λ c. is_in all c ≡ true) some
    → or_first (filter (is_in (or_first [] all)) some) some ≡ or_first [] some
first-again [] some rises_all rises_some among = ap (λ kept. or_first kept some) (none-kept (is_in []) some (each-from (λ c. is_in [] c ≡ true) (λ c. is_in [] c ≡ false) (λ c there. refl) some among))
first-again (a ∷ more) [] rises_all rises_some among = refl
first-again (a ∷ more) (s ∷ ss) rises_all rises_some among = by (a.0 == s.0) refl among.0
  where
    differs : (d : ColId) → a.0 < d.0 → is_in (a ∷ []) d ≡ false
    differs d less = ap (λ b. b || false) (ne_eqb a.0 d.0 (λ same. absurd (omega (arith, same, less))))

    by : (here : Bool) → (a.0 == s.0) ≡ here → (here || is_in more s) ≡ true → or_first (filter (is_in (a ∷ [])) (s ∷ ss)) (s ∷ ss) ≡ s ∷ []
    by true same there =
        let one = eqb-true a.0 s.0 same in
        ap (λ b. or_first (cond (b || false) (s ∷ filter (is_in (a ∷ [])) ss) (filter (is_in (a ∷ [])) ss)) (s ∷ ss)) same
        ∙ ap (λ rest. s ∷ rest) (none-kept (is_in (a ∷ [])) ss (each-from (λ d. s.0 < d.0) (λ d. is_in (a ∷ []) d ≡ false) (λ d less. differs d (omega (arith, one, less))) ss rises_some.0))
    by false other there =
        let less = above a.0 more s rises_all.0 there in
        ap (λ kept. or_first kept (s ∷ ss))
        (none-kept (is_in (a ∷ [])) (s ∷ ss) (differs s less, each-from (λ d. s.0 < d.0) (λ d. is_in (a ∷ []) d ≡ false) (λ d later. differs d (omega (arith, less, later))) ss rises_some.0))

-- useful ones among all are the useful ones among some
again : (useful all some : List ColId) → Rises all → Rises some → AllByRecursion (λ c. is_in all c ≡ true) some
    → or_first (filter (is_in (or_first (filter (is_in useful) all) all)) some) some ≡ or_first (filter (is_in useful) some) some
again useful all some rises_all rises_some among = by (filter (is_in useful) all) refl
  where
    by : (kept : List ColId) → filter (is_in useful) all ≡ kept → or_first (filter (is_in (or_first kept all)) some) some ≡ or_first (filter (is_in useful) some) some
    by (k ∷ ks) is =
        ap (λ these. or_first these some)
        (same-kept (is_in (k ∷ ks)) (is_in useful) some
        (each-from (λ c. is_in all c ≡ true) (λ c. is_in (k ∷ ks) c ≡ is_in useful c)
        (λ c there. ap (λ those. is_in those c) (sym is) ∙ in-filter useful all c ∙ ap (λ b. is_in useful c && b) there ∙ sym (and-true (is_in useful c))) some among))
    by [] is =
        first-again all some rises_all rises_some among
        ∙ ap (λ these. or_first these some)
        (sym (none-kept (is_in useful) some
        (each-from (λ c. is_in all c ≡ true) (λ c. is_in useful c ≡ false)
        (λ c there. and-true (is_in useful c) ∙ ap (λ b. is_in useful c && b) (sym there) ∙ sym (in-filter useful all c) ∙ ap (λ those. is_in those c) is) some among)))

-- ---- the numbers of columns

beyond : (n : ℕ) (columns : Columns) → All (λ later. n < later.0.0) columns → AllByRecursion (λ d. n < d.0) (numbers_of columns)
beyond n [] all = tt
beyond n (column ∷ columns) all = (All-head (λ later. n < later.0.0) column columns all, beyond n columns (All-tail (λ later. n < later.0.0) column columns all))

rises : (columns : Columns) → IsAscending columns → Rises (numbers_of columns)
rises [] ascending = tt
rises (column ∷ columns) ascending = (
  beyond column.0.0 columns (λ k d within. ascending 0 (suc k) d (omega arith) (suc-le-suc within)),
  rises columns (λ i j d less within. ascending (suc i) (suc j) d (suc-le-suc less) (suc-le-suc within)),
)

number-in : (c : ColId) (columns : Columns) → is_in (numbers_of columns) c ≡ has_number c columns
number-in c [] = refl
number-in c (column ∷ columns) = ap (λ rest. (column.0.0 == c.0) || rest) (number-in c columns)

or-right : (a b : Bool) → b ≡ true → (a || b) ≡ true
or-right true b is = refl
or-right false b is = is

each-number : (P : ColId → Type 0) (columns : Columns) → ((c : ColId) → has_number c columns ≡ true → P c) → AllByRecursion P (numbers_of columns)
each-number P [] holds = tt
each-number P (column ∷ columns) holds = (
  holds column.0 (ap (λ b. b || has_number column.0 columns) (eq-eqb column.0.0 column.0.0 refl)),
  each-number P columns (λ c there. holds c (or-right (column.0.0 == c.0) (has_number c columns) there)),
)

module _ (useful : List ColId) (all some : Columns) (among : (c : ColId) → has_number c some ≡ true → has_number c all ≡ true) where
  pub interesting-again : interesting_in (interesting_in useful (rising all)) (rising some) ≡ interesting_in useful (rising some)
  interesting-again =
      again useful (numbers_of (rising all)) (numbers_of (rising some)) (rises (rising all) (rising-schema all).ascending) (rises (rising some) (rising-schema some).ascending)
      (each-number (λ c. is_in (numbers_of (rising all)) c ≡ true) (rising some)
      (λ c there. number-in c (rising all) ∙ has_number-rising c all ∙ among c (sym (has_number-rising c some) ∙ there)))

-- ---- columns of some leaves

chosen-among : (set : LeafSet) (leaves : List Columns) (c : ColId) → has_number c (columns_in set leaves) ≡ true → has_number c (flat_map (λ columns. columns) leaves) ≡ true
chosen-among set [] c there = there
chosen-among set (leaf ∷ leaves) c there = by (set 0) (chosen-among (λ i. set (suc i)) leaves c) there
  where
    both : (here some every : Bool) → (some ≡ true → every ≡ true) → (here || some) ≡ true → (here || every) ≡ true
    both true some every more there = refl
    both false some every more there = more there

    by : (b : Bool) → (has_number c (columns_in (λ i. set (suc i)) leaves) ≡ true → has_number c (flat_map (λ columns. columns) leaves) ≡ true)
        → has_number c (flat_map (λ columns. columns) (if b then leaf ∷ chosen (λ i. set (suc i)) leaves else chosen (λ i. set (suc i)) leaves)) ≡ true
        → has_number c (leaf ++ flat_map (λ columns. columns) leaves) ≡ true
    by true rest there =
        has_number-append leaf (flat_map (λ columns. columns) leaves) c
        ∙ both (has_number c leaf) (has_number c (columns_in (λ i. set (suc i)) leaves)) (has_number c (flat_map (λ columns. columns) leaves)) rest
        (sym (has_number-append leaf (columns_in (λ i. set (suc i)) leaves) c) ∙ there)
    by false rest there = has_number-append leaf (flat_map (λ columns. columns) leaves) c ∙ or-right (has_number c leaf) (has_number c (flat_map (λ columns. columns) leaves)) (rest there)

pub some-again : (useful : List ColId) (leaves : List Columns) (set : LeafSet)
    → interesting_in (interesting_in useful (rising (flat_map (λ columns. columns) leaves))) (rising (columns_in set leaves)) ≡ interesting_in useful (rising (columns_in set leaves))
some-again useful leaves set = interesting-again useful (flat_map (λ columns. columns) leaves) (columns_in set leaves) (chosen-among set leaves)
