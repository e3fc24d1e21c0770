-- Keys that occur in two lists apart: each of them once, and the groups of the rows.
use Rattle.std.proofs.Common.{◌≡◌, ℕ, ◌+◌, ◌<◌, Bool, true, false, true≢false, cond, ◌||◌, List, [], ◌∷◌, ◌++◌, length, map, filter, refl, sym, ap, ap₂, ◌∙◌, append-nil, arith, if◌then◌else◌}
use Rattle.std.proofs.lemmas.List.Elements.{filter-append}
use Rattle.std.proofs.lemmas.List.Folds.{list_any-append}
use Rattle.std.proofs.lemmas.List.{map-append}
use Rattle.std.specs.List.{AllByRecursion}
use Rattle.std.specs.Ordering.{eq_by_cmp}
use Rattle.pdw_bag_laws.proofs.Groups.{none-of_key}
use Rattle.pdw_bag_laws.proofs.Keys.{all-each_once, occurs, one-each_once, one_or_none, part_of, same_row-itself, same_row-≡}
use Rattle.pdw_base.proofs.SameBagLaws.{SameBag-cons, SameBag-map, SameBag-middle, SameBag-refl, SameBag-sym, SameBag-trans, SameBag-≡, weigh-append}
use Rattle.pdw_base.specs.SameBag.{SameBag, weigh}
use Rattle.pdw_base.specs.declared.value.Value.{Value}
use Rattle.pdw_expr.specs.Parts.{each_once, parts, row_cmp, same_row}

abbrev Key : Type 0
Key = List Value

-- ---- lists of keys are equal bags where each key stands in them as often

abbrev pub one_if : Bool → ℕ
one_if is = if is then 1 else 0

abbrev pub one_of : Key → Key → ℕ
one_of k other = one_if (same_row other k)

abbrev pub times : Key → List Key → ℕ
times k = weigh (one_of k)

itself-once : (k : Key) → one_of k k ≡ 1
itself-once k = ap one_if (same_row-itself k)

fronted : (k : Key) (ks : List Key) → 0 < times k ks → (others : List Key) × SameBag ks (k ∷ others)
fronted k [] there = absurd (omega (arith, there))
fronted k (first ∷ ks) there = by (same_row first k) refl there (fronted k ks)
  where
    by : (is : Bool) → same_row first k ≡ is → 0 < one_if is + times k ks → (0 < times k ks → (others : List Key) × SameBag ks (k ∷ others)) → (others : List Key) × SameBag (first ∷ ks) (k ∷ others)
    by true is _ rest = (ks, SameBag-≡ (ap (λ other. other ∷ ks) (same_row-≡ first k is)))
    by false is there rest =
        let later = rest (omega (arith, there)) in
        (first ∷ later.0, SameBag-trans (SameBag-cons first later.1) (SameBag-middle (first ∷ []) k later.0))

pub SameBag-by_times : (xs ys : List Key) → ((k : Key) → times k xs ≡ times k ys) → SameBag xs ys
SameBag-by_times [] [] same = SameBag-refl []
SameBag-by_times [] (y ∷ ys) same = let none = same y in let one = itself-once y in absurd (omega (arith, none, one))
SameBag-by_times (x ∷ xs) ys same =
    let here = same x in
    let one = itself-once x in
    let front = fronted x ys (omega (arith, here, one)) in
    SameBag-trans
    (SameBag-cons x (SameBag-by_times xs front.0 (λ k. let all = same k in let moved = front.1.weighs (one_of k) in omega (arith, all, moved))))
    (SameBag-sym front.1)

-- ---- each key once

times-filter : (k : Key) (ks : List Key) → times k ks ≡ length (filter (λ other. same_row other k) ks)
times-filter k [] = refl
times-filter k (first ∷ ks) = by (same_row first k) (times-filter k ks)
  where
    by : (is : Bool) → times k ks ≡ length (filter (λ other. same_row other k) ks)
        → one_if is + times k ks ≡ length (cond is (first ∷ filter (λ other. same_row other k) ks) (filter (λ other. same_row other k) ks))
    by true rest = omega (arith, rest)
    by false rest = omega (arith, rest)

pub times-each_once : (k : Key) (ks : List Key) → times k (each_once ks) ≡ one_if (occurs k ks)
times-each_once k ks = times-filter k (each_once ks) ∙ ap length (one-each_once ks k) ∙ by (occurs k ks)
  where
    by : (there : Bool) → length (one_or_none there k) ≡ one_if there
    by true = refl
    by false = refl

pub each_once-none : SameBag (each_once []) []
each_once-none = SameBag-by_times (each_once []) [] (λ k. times-each_once k [])

-- no key occurs in both
abbrev pub AreApart : List Key → List Key → Type 0
AreApart ks ls = (k : Key) → occurs k ks ≡ true → occurs k ls ≡ false

each_once-apart : (ks ls : List Key) → AreApart ks ls → SameBag (each_once (ks ++ ls)) (each_once ks ++ each_once ls)
each_once-apart ks ls apart = SameBag-by_times (each_once (ks ++ ls)) (each_once ks ++ each_once ls) (λ k.
    times-each_once k (ks ++ ls)
    ∙ ap one_if (list_any-append (eq_by_cmp row_cmp k) ks ls)
    ∙ by k (occurs k ks) (occurs k ls) (apart k)
    ∙ sym (weigh-append (one_of k) (each_once ks) (each_once ls) ∙ ap₂ (λ a b. a + b) (times-each_once k ks) (times-each_once k ls)))
  where
    by : (k : Key) (a b : Bool) → (a ≡ true → b ≡ false) → one_if (a || b) ≡ one_if a + one_if b
    by k true true never = absurd (true≢false (never refl))
    by k true false never = refl
    by k false true never = refl
    by k false false never = refl

-- ---- groups by keys

module _ {X O : Type 0} (key : X → Key) (make : List X → O) where
  abbrev pub made_groups : List X → List O
  made_groups xs = map make (parts key xs)

  abbrev pub made : List X → Key → O
  made xs k = make (part_of key xs k)

  pub groups-made : (xs : List X) → made_groups xs ≡ map (made xs) (each_once (map key xs))
  groups-made xs = each (each_once (map key xs))
    where
      each : (ks : List Key) → map make (map (part_of key xs) ks) ≡ map (made xs) ks
      each [] = refl
      each (k ∷ ks) = ap (λ rest. made xs k ∷ rest) (each ks)

  map-alike : (f g : Key → O) (ks : List Key) → AllByRecursion (λ k. f k ≡ g k) ks → map f ks ≡ map g ks
  map-alike f g [] all = refl
  map-alike f g (k ∷ ks) all = ap₂ (λ first rest. first ∷ rest) all.0 (map-alike f g ks all.1)

  -- the groups of no row
  pub groups-none : SameBag (made_groups []) []
  groups-none = SameBag-trans (SameBag-≡ (groups-made [])) (SameBag-map (made []) each_once-none)

  module _ (xs ys : List X) (apart : AreApart (map key xs) (map key ys)) where
    part-both : (k : Key) → part_of key (xs ++ ys) k ≡ part_of key xs k ++ part_of key ys k
    part-both k = filter-append (λ x. same_row (key x) k) xs ys

    of-left : (k : Key) → occurs k (map key xs) ≡ true → made (xs ++ ys) k ≡ made xs k
    of-left k there = ap make (part-both k ∙ ap (λ rest. part_of key xs k ++ rest) (none-of_key key ys k (apart k there)) ∙ append-nil (part_of key xs k))

    of-right : (k : Key) → occurs k (map key ys) ≡ true → made (xs ++ ys) k ≡ made ys k
    of-right k there = ap make (part-both k ∙ ap (λ first. first ++ part_of key ys k) (none-of_key key xs k (by (occurs k (map key xs)) refl)))
      where
        by : (is : Bool) → occurs k (map key xs) ≡ is → occurs k (map key xs) ≡ false
        by true is = absurd (true≢false (sym there ∙ apart k is))
        by false is = is

    -- where no key occurs in both, the groups of two lists of rows are those of each
    pub groups-apart : SameBag (made_groups (xs ++ ys)) (made_groups xs ++ made_groups ys)
    groups-apart =
        let left = each_once (map key xs) in
        let right = each_once (map key ys) in
        SameBag-trans (SameBag-≡ (groups-made (xs ++ ys) ∙ ap (λ ks. map (made (xs ++ ys)) (each_once ks)) (map-append key xs ys)))
        (SameBag-trans (SameBag-map (made (xs ++ ys)) (each_once-apart (map key xs) (map key ys) apart))
        (SameBag-≡ (map-append (made (xs ++ ys)) left right
        ∙ ap₂ (λ first second. first ++ second)
        (map-alike (made (xs ++ ys)) (made xs) left (all-each_once (λ k. made (xs ++ ys) k ≡ made xs k) (map key xs) of-left) ∙ sym (groups-made xs))
        (map-alike (made (xs ++ ys)) (made ys) right (all-each_once (λ k. made (xs ++ ys) k ≡ made ys k) (map key ys) of-right) ∙ sym (groups-made ys)))))
