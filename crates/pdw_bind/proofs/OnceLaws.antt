-- Keys, items and rows each once give the same groups, the same rows and the same distinct rows.
use Rattle.std.proofs.Common.{◌≡◌, ℕ, ◌==◌, Bool, true, false, ◌||◌, ◌⊎◌, List, [], ◌∷◌, ◌++◌, map, filter, fold, Option, is_some, refl, sym, ap, subst, ◌∙◌, inl, inr, if◌then◌else◌, append_assoc, append-nil, true≢false}
use Rattle.std.proofs.lemmas.List.{map-append}
use Rattle.std.specs.FinMap.Entries.{by_order}
use Rattle.std.specs.List.{list_any}
use Rattle.std.specs.Ordering.{is_eq, ordering_then}
use Rattle.std.specs.declared.cmp.Ordering.{Ordering}
use Rattle.std.specs.declared.cmp.Ordering.TheVariants.{Less, Equal, Greater}
use Rattle.pdw_base.specs.Comparison.{value_cmp}
use Rattle.pdw_base.specs.Schema.{Env}
use Rattle.pdw_base.specs.declared.schema.ColId.{ColId}
use Rattle.pdw_base.specs.declared.value.Value.{Value}
use Rattle.pdw_base.specs.declared.value.Value.TheVariants.{Null}
use Rattle.pdw_form.specs.Columns.{each_item_once, each_number_once, first_of, new_item, new_number}
use Rattle.pdw_expr.specs.Env.{union}
use Rattle.pdw_expr.specs.Parts.{each_once, groups, parts, row_cmp, same_row}
use Rattle.pdw_expr.specs.Rows.{aggregate_cells, first_row, group_row, grouped, item_value, key_of, projected}
use Rattle.pdw_expr.specs.declared.agg.Agg.{Agg}
use Rattle.pdw_expr.specs.declared.scalar.Scalar.{Scalar}
use Rattle.pdw_form.proofs.Distinct.{numbers-same}
use Rattle.pdw_expr.proofs.PartLemmas.{each_once-more, each_once-nil}
use Rattle.pdw_form.specs.Numbered.{distinct_rows, items_of, outs_of}
use Rattle.pdw_expr.specs.Rising.{put_once}
use Rattle.pdw_form.specs.declared.judged.JItem.{JItem}

-- ---- parts by the order of their keys alone

module _ {X : Type 0} (order : X → X → Ordering) where
  -- an item in its place among rising ones, unless one of the same place stands there
  abbrev pub put_by : X → List X → List X
  put_by x [] = x ∷ []
  put_by x (first ∷ rest) = by_order (order x first) (x ∷ first ∷ rest) (first ∷ rest) (first ∷ put_by x rest)

  -- of each place the one that came first, in rising order
  abbrev pub firsts_by : List X → List X → List X
  firsts_by held xs = fold (λ before x. put_by x before) held xs

  abbrev pub parts_by : List X → List (List X)
  parts_by xs = map (λ first. filter (λ x. is_eq (order x first)) xs) (firsts_by [] xs)

module _ {X : Type 0} (key : X → List Value) where
  abbrev by_key : X → X → Ordering
  by_key a b = row_cmp (key a) (key b)

  put_once-key : (x : X) (xs : List X) → put_once (key x) (map key xs) ≡ map key (put_by by_key x xs)
  put_once-key x [] = refl
  put_once-key x (first ∷ rest) = by (by_key x first) (put_once-key x rest)
    where
      by : (o : Ordering) → put_once (key x) (map key rest) ≡ map key (put_by by_key x rest)
          → by_order o (key x ∷ key first ∷ map key rest) (key first ∷ map key rest) (key first ∷ put_once (key x) (map key rest))
          ≡ map key (by_order o (x ∷ first ∷ rest) (first ∷ rest) (first ∷ put_by by_key x rest))
      by Less more = refl
      by Equal more = refl
      by Greater more = ap (λ keys. key first ∷ keys) more

  each_once-after : (held before xs : List X) → each_once (map key before) ≡ map key held → each_once (map key (before ++ xs)) ≡ map key (firsts_by by_key held xs)
  each_once-after held before [] e = ap (λ l. each_once (map key l)) (append-nil before) ∙ e
  each_once-after held before (x ∷ xs) e =
      ap (λ l. each_once (map key l)) (sym (append_assoc before (x ∷ []) xs))
      ∙ each_once-after (put_by by_key x held) (before ++ x ∷ []) xs (
      ap each_once (map-append key before (x ∷ []))
      ∙ each_once-more (map key before) (key x)
      ∙ ap (put_once (key x)) e
      ∙ put_once-key x held)

  by_firsts : (xs firsts : List X) → map (λ k. filter (λ x. same_row (key x) k) xs) (map key firsts) ≡ map (λ first. filter (λ x. is_eq (by_key x first)) xs) firsts
  by_firsts xs [] = refl
  by_firsts xs (first ∷ firsts) = ap (λ rest. filter (λ x. same_row (key x) (key first)) xs ∷ rest) (by_firsts xs firsts)

  parts-by : (xs : List X) → parts key xs ≡ parts_by by_key xs
  parts-by xs =
      ap (map (λ k. filter (λ x. same_row (key x) k) xs)) (each_once-after [] [] xs each_once-nil)
      ∙ by_firsts xs (firsts_by by_key [] xs)

-- keys that are ordered alike make the same parts
pub parts-same : {X : Type 0} (key other : X → List Value) → ((a b : X) → row_cmp (key a) (key b) ≡ row_cmp (other a) (other b)) → (xs : List X) → parts key xs ≡ parts other xs
parts-same key other same xs =
    parts-by key xs
    ∙ ap (λ order. parts_by order xs) (λ i a b. same a b i)
    ∙ sym (parts-by other xs)

-- ---- what comes again counts once

module _ {T : Type 0} (number : T → ℕ) where
  -- something of its number stands there
  abbrev pub stands_in : T → List T → Bool
  stands_in x before = list_any (λ other. number other == number x) before

  abbrev pub one_more : List T → T → List T
  one_more before x = if stands_in x before then before else before ++ x ∷ []

module _ {T A : Type 0} (number : T → ℕ) (whole : List T → A) (layer : T → A → A) (layers : (x : T) (xs : List T) → whole (x ∷ xs) ≡ layer x (whole xs)) where
  -- a second layer of the same number does nothing, or the first one hides it
  abbrev pub OnceIsEnough : Type 0
  OnceIsEnough = (x y : T) → (number x == number y) ≡ true → ((a : A) → layer y a ≡ a) ⊎ ((a b : A) → layer x a ≡ layer x b)

  -- a layer that does nothing
  without : (before rest : List T) (x : T) → ((a : A) → layer x a ≡ a) → whole (before ++ x ∷ rest) ≡ whole (before ++ rest)
  without [] rest x nothing = layers x rest ∙ nothing (whole rest)
  without (first ∷ before) rest x nothing =
      layers first (before ++ x ∷ rest) ∙ ap (layer first) (without before rest x nothing) ∙ sym (layers first (before ++ rest))

  module _ (enough : OnceIsEnough) where
    -- what stands before once more
    again : (before rest : List T) (x : T) → stands_in number x before ≡ true → whole (before ++ x ∷ rest) ≡ whole (before ++ rest)
    again [] rest x stands = absurd (true≢false (sym stands))
    again (first ∷ before) rest x stands = by (number first == number x) refl stands (again before rest x)
      where
        here : ((a : A) → layer x a ≡ a) ⊎ ((a b : A) → layer first a ≡ layer first b) → whole (first ∷ (before ++ x ∷ rest)) ≡ whole (first ∷ (before ++ rest))
        here (inl nothing) = without (first ∷ before) rest x nothing
        here (inr hides) = layers first (before ++ x ∷ rest) ∙ hides (whole (before ++ x ∷ rest)) (whole (before ++ rest)) ∙ sym (layers first (before ++ rest))

        by : (is : Bool) → (number first == number x) ≡ is → (is || stands_in number x before) ≡ true
            → (stands_in number x before ≡ true → whole (before ++ x ∷ rest) ≡ whole (before ++ rest))
            → whole (first ∷ (before ++ x ∷ rest)) ≡ whole (first ∷ (before ++ rest))
        by true same _ _ = here (enough first x same)
        by false other stands more = layers first (before ++ x ∷ rest) ∙ ap (layer first) (more stands) ∙ sym (layers first (before ++ rest))

    turn : (before rest : List T) (x : T) (stands : Bool) → stands_in number x before ≡ stands → whole ((if stands then before else before ++ x ∷ []) ++ rest) ≡ whole (before ++ x ∷ rest)
    turn before rest x true is = sym (again before rest x is)
    turn before rest x false is = ap whole (append_assoc before (x ∷ []) rest)

    -- each once gives the same as all of them
    pub once-same : (before xs : List T) → whole (fold (one_more number) before xs) ≡ whole (before ++ xs)
    once-same before [] = ap whole (sym (append-nil before))
    once-same before (x ∷ xs) = once-same (one_more number before x) xs ∙ turn before xs x (stands_in number x before) refl

-- ---- columns each once

abbrev column_number : ColId → ℕ
column_number c = c.0

module _ (a b : Env) where
  -- the order of two rows by some columns
  abbrev order_by : List ColId → Ordering
  order_by keys = row_cmp (key_of keys a) (key_of keys b)

  abbrev first_order : ColId → Ordering → Ordering
  first_order c more = ordering_then (value_cmp (a c) (b c)) more

  tie_or_decided : (o : Ordering) → ((more : Ordering) → ordering_then o more ≡ more) ⊎ ((more other : Ordering) → ordering_then o more ≡ ordering_then o other)
  tie_or_decided Less = inr (λ more other. refl)
  tie_or_decided Equal = inl (λ more. refl)
  tie_or_decided Greater = inr (λ more other. refl)

  order-enough : OnceIsEnough column_number order_by first_order (λ c keys. refl)
  order-enough x y same =
      subst (λ c. ((more : Ordering) → first_order c more ≡ more) ⊎ ((more other : Ordering) → first_order x more ≡ first_order x other)) (numbers-same x y same)
      (tie_or_decided (value_cmp (a x) (b x)))

  order-once : (keys : List ColId) → order_by (each_number_once keys) ≡ order_by keys
  order-once keys = once-same column_number order_by first_order (λ c keys. refl) order-enough [] keys

module _ (c : ColId) where
  abbrev is_among : List ColId → Bool
  is_among keys = list_any (λ key. key.0 == c.0) keys

  abbrev or_first : ColId → Bool → Bool
  or_first key more = (key.0 == c.0) || more

  there_or_not : (is : Bool) → ((more : Bool) → (is || more) ≡ more) ⊎ ((more other : Bool) → (is || more) ≡ (is || other))
  there_or_not true = inr (λ more other. refl)
  there_or_not false = inl (λ more. refl)

  among-enough : OnceIsEnough column_number is_among or_first (λ key keys. refl)
  among-enough x y same =
      subst (λ key. ((more : Bool) → or_first key more ≡ more) ⊎ ((more other : Bool) → or_first x more ≡ or_first x other)) (numbers-same x y same)
      (there_or_not (x.0 == c.0))

  among-once : (keys : List ColId) → is_among (each_number_once keys) ≡ is_among keys
  among-once keys = once-same column_number is_among or_first (λ key keys. refl) among-enough [] keys

group_row-once : (keys : List ColId) (aggs : List Agg) → group_row (each_number_once keys) aggs ≡ group_row keys aggs
group_row-once keys aggs = λ i rows. union (λ c. if among-once c keys i then first_row rows c else Null) (aggregate_cells aggs rows)

-- keys that are each once are some where there are some
groups-some : {X : Type 0} (key : X → List Value) (xs : List X) (first : ColId) (before keys : List ColId) → groups (fold new_number (first ∷ before) keys) key xs ≡ parts key xs
groups-some key xs first before [] = refl
groups-some key xs first before (c ∷ keys) = by (list_any (λ other. other.0 == c.0) (first ∷ before)) (groups-some key xs first before keys) (groups-some key xs first (before ++ c ∷ []) keys)
  where
    by : (stands : Bool) → groups (fold new_number (first ∷ before) keys) key xs ≡ parts key xs → groups (fold new_number (first ∷ (before ++ c ∷ [])) keys) key xs ≡ parts key xs
        → groups (fold new_number (if stands then first ∷ before else first ∷ (before ++ c ∷ [])) keys) key xs ≡ parts key xs
    by true kept more = kept
    by false kept more = more

groups-once : (keys : List ColId) (rows : List Env) → groups (each_number_once keys) (key_of (each_number_once keys)) rows ≡ groups keys (key_of keys) rows
groups-once [] rows = refl
groups-once (first ∷ rest) rows =
    groups-some (key_of (each_number_once (first ∷ rest))) rows first [] rest
    ∙ parts-same (key_of (each_number_once (first ∷ rest))) (key_of (first ∷ rest)) (λ a b. order-once a b (first ∷ rest)) rows

-- a grouping column that is written twice counts once
pub keys_once : (keys : List ColId) (aggs : List Agg) (rows : List Env) → grouped (each_number_once keys) aggs rows ≡ grouped keys aggs rows
keys_once keys aggs rows = λ i. map (group_row-once keys aggs i) (groups-once keys rows i)

-- ---- items each once

abbrev item_number : (ColId × Option Scalar) → ℕ
item_number item = item.0.0

module _ (row : Env) (c : ColId) where
  -- the value of a column in a projected row
  abbrev value_in : List (ColId × Option Scalar) → Value
  value_in items = projected items row c

  abbrev item_or : (ColId × Option Scalar) → Value → Value
  item_or item more = if item.0.0 == c.0 then item_value row item.0 item.1 else more

  here_or_not : (is : Bool) (x y : Value) → ((more : Value) → (if is then y else more) ≡ more) ⊎ ((more other : Value) → (if is then x else more) ≡ (if is then x else other))
  here_or_not true x y = inr (λ more other. refl)
  here_or_not false x y = inl (λ more. refl)

  value-enough : OnceIsEnough item_number value_in item_or (λ item items. refl)
  value-enough x y same =
      subst (λ key. ((more : Value) → (if key.0 == c.0 then item_value row y.0 y.1 else more) ≡ more) ⊎ ((more other : Value) → item_or x more ≡ item_or x other)) (numbers-same x.0 y.0 same)
      (here_or_not (x.0.0 == c.0) (item_value row x.0 x.1) (item_value row y.0 y.1))

  value-once : (items : List (ColId × Option Scalar)) → value_in (fold (one_more item_number) [] items) ≡ value_in items
  value-once items = once-same item_number value_in item_or (λ item items. refl) value-enough [] items

items-fold : (before : List (ColId × Option Scalar)) (items : List JItem) → fold new_item before items ≡ fold (one_more item_number) before (items_of items)
items-fold before [] = refl
items-fold before (item ∷ items) = items-fold (new_item before item) items

-- of two items of one number the first counts
pub items_once : (items : List JItem) → projected (each_item_once items) ≡ projected (items_of items)
items_once items = ap projected (items-fold [] items) ∙ (λ i row c. value-once row c (items_of items) i)

-- ---- rows each once

-- DISTINCT is a grouping by the output columns, each once
pub distinct_once : (items : List JItem) → is_some (first_of items) ≡ true → (rows : List Env)
    → grouped (each_number_once (map (λ item. item.out) items)) [] rows ≡ distinct_rows true (outs_of items) rows
distinct_once [] some rows = absurd (true≢false (sym some))
distinct_once (first ∷ rest) some rows = keys_once (outs_of (first ∷ rest)) [] rows
