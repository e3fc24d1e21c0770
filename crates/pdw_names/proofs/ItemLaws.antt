-- The items of a query: their names, and their values from the numbered row.
use Rattle.std.proofs.Common.{◌≡◌, ◌≢◌, ℕ, ◌+◌, ◌==◌, ◌<◌, ◌≤◌, Bool, true, false, cond, ◌||◌, ◌⊎◌, inl, inr, List, [], ◌∷◌, ◌++◌, length, map, filter, fold, Option, Some, None, position, slice_index_or, refl, sym, ap, ap₂, subst, subst₂, ◌∙◌, append_assoc, append-nil, length-append, eqb-true, eq-eqb, bytes_eq, codes, arith, if◌then◌else◌}
use Rattle.std.specs.List.{AllByRecursion, flat_map, list_any}
use Rattle.std.proofs.lemmas.Bool.{ne_eqb}
use Rattle.std.proofs.lemmas.List.Quantifiers.{position-Some}
use Rattle.pdw_syntax.specs.declared.expr.SqlExpr.{SqlExpr}
use Rattle.pdw_syntax.specs.declared.query.Item.{Item}
use Rattle.pdw_syntax.specs.declared.query.Item.TheVariants as item
use Rattle.pdw_syntax.specs.declared.query.Items.{Items}
use Rattle.pdw_syntax.specs.declared.query.Items.TheVariants.{Star, List as Listed}
use Rattle.pdw_base.specs.Schema.{Env}
use Rattle.pdw_base.specs.declared.schema.ColId.{ColId}
use Rattle.pdw_base.specs.declared.value.Kind.{Kind}
use Rattle.pdw_base.specs.declared.value.Value.{Value}
use Rattle.pdw_base.specs.declared.value.Value.TheVariants.{Null}
use Rattle.pdw_catalog.specs.Database.{Database}
use Rattle.pdw_expr.specs.Rows.{item_value, key_of, projected}
use Rattle.pdw_expr.specs.Scalar.{value_of}
use Rattle.pdw_expr.specs.declared.agg.Agg.{Agg}
use Rattle.pdw_expr.specs.declared.scalar.Scalar.{Scalar}
use Rattle.pdw_form.proofs.Related.{Related, related-append, none as no_more, more as one_more}
use Rattle.pdw_names.proofs.Relations.{Allowed, BeginsWith, ExprGives, ExprMeans, Fits, GivenAt, Grows, Numbering, Owns, Proper, Settled, SettledAt, SettledIn, Shows, Source, Stands, Within, more, own as from_own, made as from_made, near as from_near}
use Rattle.pdw_walk.proofs.Outcomes.{InTurn, done_value, done_walk, in_turn, refused_not_done}
use Rattle.pdw_names.proofs.LookupLaws.{own_column-done, use_column-done}
use Rattle.pdw_names.proofs.ExprMeaningLaws.{value-col}
use Rattle.pdw_names.proofs.JoinMeaningLaws.{range_ends}
use Rattle.pdw_names.proofs.WalkLaws.{MakesNumber, all-append, all-map, all-right, begins-grows, fits-grows, grows-length, grows-refl, grows-trans, made_number-done, position-grows, refuse_if-then, same_slot-is, settled-grows, settled_at-grows}
use Rattle.pdw_semantics.specs.Environment.{Group, first_row}
use Rattle.pdw_semantics.specs.Exprs as named
use Rattle.pdw_semantics.specs.Froms.{label_of}
use Rattle.pdw_semantics.specs.Queries.{item_names, item_values, names_of, values_of}
use Rattle.pdw_semantics.specs.declared.labels.Label.{Label}
use Rattle.pdw_semantics.specs.declared.labels.Cell.{Cell}
use Rattle.pdw_form.specs.Numbered.{items_of, outs_of}
use Rattle.pdw_walk.specs.Items.{alias_column, alias_star, item_walk, items_walk, made_item, made_output, no_outputs, star_column, with_output}
use Rattle.pdw_walk.specs.Exprs.{expr}
use Rattle.pdw_walk.specs.Names.{item_name}
use Rattle.pdw_walk.specs.Lookup.{Place, own_column, qualified}
use Rattle.pdw_walk.specs.Slot.{same_slot}
use Rattle.pdw_walk.specs.Walk.{Step, Walk, ◌>>=◌, col_id, done, is_among, made_number, over, pure, refused}
use Rattle.pdw_walk.specs.declared.entry.Column.{Column}
use Rattle.pdw_walk.specs.declared.entry.Entry.{Entry}
use Rattle.pdw_walk.specs.declared.entry.Numbered.{Numbered}
use Rattle.pdw_walk.specs.declared.entry.Outputs.{Outputs}
use Rattle.pdw_walk.specs.declared.entry.Typed.{Typed}
use Rattle.pdw_walk.specs.declared.entry.Role.{Role}
use Rattle.pdw_walk.specs.declared.entry.Role.TheVariants as role
use Rattle.pdw_walk.specs.declared.entry.Slot.{Slot}
use Rattle.pdw_walk.specs.declared.entry.Slot.TheVariants.{Base, Made}
use Rattle.pdw_walk.specs.declared.fault.JudgeFault.TheVariants.{Limit, UnknownColumn}
use Rattle.pdw_walk.specs.declared.fault.LimitName.TheVariants as limit
use Rattle.pdw_walk.specs.declared.fault.TheConstants.{MOST_ITEMS}
use Rattle.pdw_form.specs.declared.judged.JItem.{JItem}

-- ---- lists

map_append : {A B : Type 0} (f : A → B) (xs ys : List A) → map f (xs ++ ys) ≡ map f xs ++ map f ys
map_append f [] ys = refl
map_append f (x ∷ xs) ys = ap (λ rest. f x ∷ rest) (map_append f xs ys)

all_same : {A B : Type 0} (f g : A → B) (xs : List A) → AllByRecursion (λ x. f x ≡ g x) xs → map f xs ≡ map g xs
all_same f g [] all = refl
all_same f g (x ∷ xs) all = ap₂ (λ first rest. first ∷ rest) all.0 (all_same f g xs all.1)

-- ---- what projecting to the items gives

abbrev value_in : Env → JItem → Value
value_in m i = item_value m i.out i.make

or_later : (a b : Bool) → b ≡ true → (a || b) ≡ true
or_later true b later = refl
or_later false b later = later

module _ (make : ColId → Option Scalar) (m : Env) where
  -- items of one number make the same
  projected_at : (items : List JItem) → AllByRecursion (λ i. i.make ≡ make i.out) items → (c : ColId) → list_any (λ (i : JItem). i.out.0 == c.0) items ≡ true → projected (items_of items) m c ≡ item_value m c (make c)
  projected_at [] all c among = absurd (let h : false ≡ true = among in cc)
  projected_at (i ∷ items) all c among = by (i.out.0 == c.0) refl (λ later. projected_at items all.1 c later) among
    where
      by : (b : Bool) → (i.out.0 == c.0) ≡ b → (list_any (λ (i : JItem). i.out.0 == c.0) items ≡ true → projected (items_of items) m c ≡ item_value m c (make c))
          → (b || list_any (λ (i : JItem). i.out.0 == c.0) items) ≡ true → (if b then item_value m i.out i.make else projected (items_of items) m c) ≡ item_value m c (make c)
      by true is later among = ap (λ made. item_value m i.out made) all.0 ∙ ap (λ (d : ColId). item_value m d (make d)) (ap col_id (eqb-true i.out.0 c.0 is))
      by false is later among = later among

  each_among : (items : List JItem) → AllByRecursion (λ i. list_any (λ (other : JItem). other.out.0 == i.out.0) items ≡ true) items
  each_among [] = tt
  each_among (i ∷ items) = (
    ap (λ b. b || list_any (λ (other : JItem). other.out.0 == i.out.0) items) (eq-eqb i.out.0 i.out.0 refl),
    all-map (λ (j : JItem). list_any (λ (other : JItem). other.out.0 == j.out.0) items ≡ true) (λ (j : JItem). list_any (λ (other : JItem). other.out.0 == j.out.0) (i ∷ items) ≡ true)
        (λ j among. or_later (i.out.0 == j.out.0) (list_any (λ (other : JItem). other.out.0 == j.out.0) items) among) items (each_among items),
  )

  values_at : (items some : List JItem) → AllByRecursion (λ i. i.make ≡ make i.out) items → AllByRecursion (λ i. i.make ≡ make i.out) some
      → AllByRecursion (λ i. list_any (λ (other : JItem). other.out.0 == i.out.0) items ≡ true) some → map (value_in m) some ≡ key_of (outs_of some) (projected (items_of items) m)
  values_at items [] all makes among = refl
  values_at items (i ∷ some) all makes among =
      ap₂ (λ first rest. first ∷ rest) (ap (item_value m i.out) makes.0 ∙ sym (projected_at items all i.out among.0)) (values_at items some all makes.1 among.1)

  pub projected_values : (items : List JItem) → AllByRecursion (λ i. i.make ≡ make i.out) items → map (value_in m) items ≡ key_of (outs_of items) (projected (items_of items) m)
  projected_values items all = values_at items items all all (each_among items)

-- ---- slots of numbers

made_is : {n k : ℕ} → Made n ≡ Made k → n ≡ k
made_is {n} same = ap get same
  where
    get : Slot → ℕ
    get (Made k) = k
    get (Base reference column) = n

slots_same : (a b : Slot) (numbers : List Slot) (place : ℕ) → position (same_slot a) numbers ≡ Some place → position (same_slot b) numbers ≡ Some place → a ≡ b
slots_same a b numbers place at_a at_b =
    let first = position-Some (same_slot a) numbers place a at_a in
    let second = position-Some (same_slot b) numbers place a at_b in
    same_slot-is a (slice_index_or numbers place a) first.1 ∙ sym (same_slot-is b (slice_index_or numbers place a) second.1)

number_below : (slot : Slot) (numbers : List Slot) (place : ℕ) → position (same_slot slot) numbers ≡ Some place → place < length numbers
number_below slot numbers place at = (position-Some (same_slot slot) numbers place slot at).0

-- ---- cells

head_value : List Cell → Value
head_value [] = Null
head_value (cell ∷ cells) = cell.value

rest_cells : List Cell → List Cell
rest_cells [] = []
rest_cells (cell ∷ cells) = cells

abbrev cell_values : List Cell → List Value
cell_values cells = map (λ (cell : Cell). cell.value) cells

module _ {N : Numbering} {m : Env} {P : Slot → Type 0} where
  shown_head : (entry : Entry) (entries : List Entry) (cells : List Cell) → Shows N m P (entry ∷ entries) cells → P entry.slot → (c : ColId) → N.number_of entry.slot ≡ Some c → head_value cells ≡ m c
  unfolding head_value
  shown_head entry entries [] shows allowed c number = elim shows [ ]
  shown_head entry entries (cell ∷ cells) (more alias column value rest) allowed c number = value c allowed number

  shown_rest : (entry : Entry) (entries : List Entry) (cells : List Cell) → Shows N m P (entry ∷ entries) cells → Shows N m P entries (rest_cells cells)
  unfolding rest_cells
  shown_rest entry entries [] shows = elim shows [ ]
  shown_rest entry entries (cell ∷ cells) (more alias column value rest) = rest

  shown_none : (cells : List Cell) → Shows N m P [] cells → cells ≡ []
  shown_none [] shows = refl
  shown_none (cell ∷ cells) shows = elim shows [ ]

  module _ (pick : Entry → Bool) (kept : Cell → Bool) (same : (entry : Entry) (cell : Cell) → entry.alias ≡ cell.alias → pick entry ≡ kept cell) where
    shown_kept : (entry : Entry) (entries : List Entry) (cells : List Cell) → Shows N m P (entry ∷ entries) cells → pick entry ≡ true
        → head_value cells ∷ cell_values (filter kept (rest_cells cells)) ≡ cell_values (filter kept cells)
    unfolding head_value rest_cells
    shown_kept entry entries [] shows picked = elim shows [ ]
    shown_kept entry entries (cell ∷ cells) (more alias column value rest) picked = ap (λ b. cell_values (cond b (cell ∷ filter kept cells) (filter kept cells))) (sym picked ∙ same entry cell alias)

    shown_left : (entry : Entry) (entries : List Entry) (cells : List Cell) → Shows N m P (entry ∷ entries) cells → pick entry ≡ false
        → cell_values (filter kept (rest_cells cells)) ≡ cell_values (filter kept cells)
    unfolding rest_cells
    shown_left entry entries [] shows picked = elim shows [ ]
    shown_left entry entries (cell ∷ cells) (more alias column value rest) picked = ap (λ b. cell_values (cond b (cell ∷ filter kept cells) (filter kept cells))) (sym picked ∙ same entry cell alias)

-- ---- the outputs so far

module _ (database : Database) (w0 w : Walk) (place : Place) where
  given_later : {v v' : Walk} → Grows v v' → {columns : List Column} {outs : List ColId} → Related (GivenAt database w0 v) columns outs → Related (GivenAt database w0 v') columns outs
  given_later grows no_more = no_more
  given_later grows (one_more {x = column} {y = out} given rest) = one_more (position-grows grows column.slot out.0 given.0, range_ends w0 grows column.slot given.1) (given_later grows rest)

  -- the names and values of the output columns that were made, from the walk at `w` on
  record SoFar (names : List (List ℕ)) (read : Group → List Value) (before : Outputs) (v : Walk) : Type 0 where
    grows : Grows w v
    plain : place.keys ≡ None → v.aggs ≡ w.aggs
    named : map (λ (c : Column). c.name) before.columns ≡ names
    count : length before.items ≡ length names
    given : Related (GivenAt database w0 v) before.columns (outs_of before.items)
    below : AllByRecursion (λ (i : JItem). i.out.0 < length v.numbers) before.items
    make : ColId → Option Scalar
    makes : AllByRecursion (λ (i : JItem). i.make ≡ make i.out) before.items
    made_at : (c : ColId) → (make c ≡ None) ⊎ ((length w.numbers ≤ c.0) × (position (same_slot (Made c.0)) v.numbers ≡ Some c.0))
    values : (N : Numbering) → Fits N v.numbers → (aggs : List Agg) → BeginsWith v.aggs aggs → (group : Group) (m : Env) → Stands N place v.outer group m aggs → read group ≡ map (value_in m) before.items

  module _ (unreached : place.reaches ≡ false) where
    stands_any : {N : Numbering} {met met' : Bool} {group : Group} {m : Env} {aggs : List Agg} → Stands N place met group m aggs → Stands N place met' group m aggs
    stands_any stands = record { own = stands.own; near = λ reaches met. absurd (let h : false ≡ true = sym unreached ∙ reaches in cc); grouped = stands.grouped }

    -- what a new output column has to have
    record New (before : Outputs) (made : ColId → Option Scalar) (v : Walk) (value : Group → Value) (column : Numbered) (make : Option Scalar) (v' : Walk) : Type 0 where
      grows : Grows v v'
      plain : place.keys ≡ None → v'.aggs ≡ v.aggs
      number : position (same_slot column.slot) v'.numbers ≡ Some column.number.0
      within : Within w0 v' column.slot
      makes : ColId → Option Scalar
      as_before : (c : ColId) → c.0 < length v.numbers → makes c ≡ made c
      as_made : make ≡ makes column.number
      made_at : (c : ColId) → (makes c ≡ None) ⊎ ((length w.numbers ≤ c.0) × (position (same_slot (Made c.0)) v'.numbers ≡ Some c.0))
      means : (N : Numbering) → Fits N v'.numbers → (aggs : List Agg) → BeginsWith v'.aggs aggs → (group : Group) (m : Env) → Stands N place v'.outer group m aggs → value group ≡ item_value m column.number make

    pushed : (names : List (List ℕ)) (read : Group → List Value) (before : Outputs) (v : Walk) (so_far : SoFar names read before v) (name : List ℕ) (kind : Kind) (value : Group → Value) (column : Numbered) (make : Option Scalar) (v' : Walk)
        → New before so_far.make v value column make v' → SoFar (names ++ name ∷ []) (λ group. read group ++ value group ∷ []) (with_output before name kind column make) v'
    pushed names read before v so_far name kind value column make v' new = record {
      grows = grows-trans so_far.grows new.grows;
      plain = λ keys. new.plain keys ∙ so_far.plain keys;
      named = map_append (λ (c : Column). c.name) before.columns (record { name = name; kind = kind; slot = column.slot } ∷ []) ∙ ap (λ ns. ns ++ name ∷ []) so_far.named;
      count = let one = length-append before.items (record { name = name; out = column.number; make = make } ∷ []) in let other = length-append names (name ∷ []) in let same = so_far.count in omega arith;
      given = subst (λ outs. Related (GivenAt database w0 v') (with_output before name kind column make).columns outs) (sym (map_append (λ (i : JItem). i.out) before.items (record { name = name; out = column.number; make = make } ∷ [])))
          (related-append (given_later new.grows so_far.given) (one_more (new.number, new.within) no_more));
      below = all-append (λ (i : JItem). i.out.0 < length v'.numbers) before.items (record { name = name; out = column.number; make = make } ∷ [])
          (all-map (λ (i : JItem). i.out.0 < length v.numbers) (λ (i : JItem). i.out.0 < length v'.numbers) (λ i low. let more = grows-length new.grows in omega (arith, low)) before.items so_far.below)
          (number_below column.slot v'.numbers column.number.0 new.number, tt);
      make = new.makes;
      makes = all-append (λ (i : JItem). i.make ≡ new.makes i.out) before.items (record { name = name; out = column.number; make = make } ∷ [])
          (still before.items so_far.below so_far.makes) (new.as_made, tt);
      made_at = new.made_at;
      values = λ N fits aggs begins group m stands.
          ap₂ (λ xs x. xs ++ x ∷ []) (so_far.values N (fits-grows N fits new.grows) aggs (begins-grows begins new.grows) group m (stands_any stands)) (new.means N fits aggs begins group m stands)
          ∙ sym (map_append (value_in m) before.items (record { name = name; out = column.number; make = make } ∷ []));
    }
      where
        still : (items : List JItem) → AllByRecursion (λ (i : JItem). i.out.0 < length v.numbers) items → AllByRecursion (λ (i : JItem). i.make ≡ so_far.make i.out) items → AllByRecursion (λ (i : JItem). i.make ≡ new.makes i.out) items
        still [] low all = tt
        still (i ∷ items) low all = (all.0 ∙ sym (new.as_before i.out low.0), still items low.1 all.1)

    -- ---- a column or an aggregate that is passed through, and what is computed

    module _ (names : List (List ℕ)) (read : Group → List Value) (before : Outputs) (v : Walk) (so_far : SoFar names read before v) where
      at_later : {v' : Walk} → Grows v v' → (c : ColId) → (so_far.make c ≡ None) ⊎ ((length w.numbers ≤ c.0) × (position (same_slot (Made c.0)) v'.numbers ≡ Some c.0))
      at_later {v'} grows c = by (so_far.made_at c)
        where
          by : (so_far.make c ≡ None) ⊎ ((length w.numbers ≤ c.0) × (position (same_slot (Made c.0)) v.numbers ≡ Some c.0)) → (so_far.make c ≡ None) ⊎ ((length w.numbers ≤ c.0) × (position (same_slot (Made c.0)) v'.numbers ≡ Some c.0))
          by (inl nothing) = inl nothing
          by (inr made) = inr (made.0, position-grows grows (Made c.0) c.0 made.1)

      -- its slot is none of those that were made for items
      abbrev Other : Slot → Type 0
      Other slot = (c : ℕ) → slot ≡ Made c → (c < length w.numbers) ⊎ (length v.numbers ≤ c)

      bare_new : {v' : Walk} → Grows v v' → (place.keys ≡ None → v'.aggs ≡ v.aggs) → (column : Numbered) → position (same_slot column.slot) v'.numbers ≡ Some column.number.0 → Within w0 v' column.slot → Other column.slot
          → (value : Group → Value)
          → ((N : Numbering) → Fits N v'.numbers → (aggs : List Agg) → BeginsWith v'.aggs aggs → (group : Group) (m : Env) → Stands N place v'.outer group m aggs → value group ≡ m column.number)
          → New before so_far.make v value column None v'
      bare_new {v'} grows plain column number within other value means = record {
        grows = grows;
        plain = plain;
        number = number;
        within = within;
        makes = so_far.make;
        as_before = λ c low. refl;
        as_made = by (so_far.made_at column.number);
        made_at = at_later grows;
        means = means;
      }
        where
          not_that : (position (same_slot (Made column.number.0)) v.numbers ≡ Some column.number.0) → length w.numbers ≤ column.number.0 → (column.number.0 < length w.numbers) ⊎ (length v.numbers ≤ column.number.0) → ⊥
          not_that at low (inl early) = absurd (omega (arith, low, early))
          not_that at low (inr late) = let inside = number_below (Made column.number.0) v.numbers column.number.0 at in absurd (omega (arith, inside, late))

          by : (so_far.make column.number ≡ None) ⊎ ((length w.numbers ≤ column.number.0) × (position (same_slot (Made column.number.0)) v.numbers ≡ Some column.number.0)) → None ≡ so_far.make column.number
          by (inl nothing) = sym nothing
          by (inr made) = absurd (not_that made.1 made.0
              (other column.number.0 (slots_same column.slot (Made column.number.0) v'.numbers column.number.0 number (position-grows grows (Made column.number.0) column.number.0 made.1))))

      made_new : {v1 v' : Walk} → Grows v v1 → (place.keys ≡ None → v1.aggs ≡ v.aggs) → Proper v1.numbers → Grows w0 v1 → (column : Numbered) → MakesNumber v1 column v' → (x : Scalar) (value : Group → Value)
          → ((N : Numbering) → Fits N v1.numbers → (aggs : List Agg) → BeginsWith v1.aggs aggs → (group : Group) (m : Env) → Stands N place v1.outer group m aggs → value group ≡ value_of x m)
          → New before so_far.make v value column (Some x) v'
      made_new {v1} {v'} grows plain proper from_start column made x value means = record {
        grows = grows-trans grows made.grows;
        plain = λ keys. sym (ap (λ (u : Walk). u.aggs) made.walk) ∙ plain keys;
        number = ap (λ slot. position (same_slot slot) v'.numbers) made.slot ∙ (made.stands proper ∙ ap (λ (c : ColId). Some c.0) (sym made.number));
        within = subst (Within w0 v') (sym made.slot) (grows-length from_start, number_below (Made (length v1.numbers)) v'.numbers (length v1.numbers) (made.stands proper));
        makes = makes;
        as_before = λ c low. let longer = grows-length grows in ap (λ b. if b then Some x else so_far.make c) (ne_eqb c.0 (length v1.numbers) (λ e. absurd (omega (arith, low, e))));
        as_made = sym (ap (λ (c : ColId). makes c) made.number ∙ ap (λ b. if b then Some x else so_far.make (col_id (length v1.numbers))) (eq-eqb (length v1.numbers) (length v1.numbers) refl));
        made_at = λ c. by c (c.0 == length v1.numbers) refl;
        means = λ N fits aggs begins group m stands. means N (fits-grows N fits made.grows) aggs (begins-grows begins made.grows) group m (stands_any stands);
      }
        where
          makes : ColId → Option Scalar
          makes c = if c.0 == length v1.numbers then Some x else so_far.make c

          by : (c : ColId) (b : Bool) → (c.0 == length v1.numbers) ≡ b → ((if b then Some x else so_far.make c) ≡ None) ⊎ ((length w.numbers ≤ c.0) × (position (same_slot (Made c.0)) v'.numbers ≡ Some c.0))
          by c true is =
              let same = eqb-true c.0 (length v1.numbers) is in
              let longer = grows-length so_far.grows in
              let more = grows-length grows in
              inr (omega arith, subst (λ k. position (same_slot (Made k)) v'.numbers ≡ Some k) (sym same) (made.stands proper))
          by c false is = at_later (grows-trans grows made.grows) c

    so_far_again : {names names' : List (List ℕ)} {read read' : Group → List Value} {before : Outputs} {v : Walk} → names ≡ names'
        → ((N : Numbering) (aggs : List Agg) (group : Group) (m : Env) → Stands N place v.outer group m aggs → read group ≡ read' group) → SoFar names read before v → SoFar names' read' before v
    so_far_again same_names same so_far = record {
      grows = so_far.grows;
      plain = so_far.plain;
      named = so_far.named ∙ same_names;
      count = so_far.count ∙ ap length same_names;
      given = so_far.given;
      below = so_far.below;
      make = so_far.make;
      makes = so_far.makes;
      made_at = so_far.made_at;
      values = λ N fits aggs begins group m stands. sym (same N aggs group m stands) ∙ so_far.values N fits aggs begins group m stands;
    }

    module _ (wf : Walk) (from : Grows w0 wf) (to : Grows wf w) where
      own_other : (slot : Slot) → Within w0 wf slot → (c : ℕ) → slot ≡ Made c → c < length w.numbers
      own_other slot within c same = let inside : Within w0 wf (Made c) = subst (Within w0 wf) same within in let longer = grows-length to in omega (arith, inside.1)

      -- ---- a column of `*` or `a.*`

      star_pushed : (names : List (List ℕ)) (read : Group → List Value) (before : Outputs) (v : Walk) → SoFar names read before v → (alias : Option (List ℕ)) (entry : Entry) → Within w0 wf entry.slot → Settled v.numbers entry.slot
          → (value : Group → Value)
          → (Allowed place.keys entry.slot → (N : Numbering) (aggs : List Agg) (group : Group) (m : Env) (met : Bool) → Stands N place met group m aggs → (c : ColId) → N.number_of entry.slot ≡ Some c → value group ≡ m c)
          → (after : Outputs) (v' : Walk) → star_column place.keys alias before entry v ≡ done after v'
          → SoFar (names ++ entry.column ∷ []) (λ group. read group ++ value group ∷ []) after v' × Allowed place.keys entry.slot
      unfolding star_column
      star_pushed names read before v so_far alias entry within settled value means after v' walked =
          let rest = (refuse_if-then (length before.items == MOST_ITEMS) (Limit limit.Items MOST_ITEMS)
          (own_column place.keys (qualified alias entry.column) entry >>= (λ met. pure (with_output before entry.column met.kind met.column None))) v after v' walked).1 in
          let turn = in_turn (own_column place.keys (qualified alias entry.column) entry v) (λ met. pure (with_output before entry.column met.kind met.column None)) after v' rest in
          let own = own_column-done place.keys (qualified alias entry.column) entry v turn.value turn.middle turn.begun in
          let uses = use_column-done entry v turn.value turn.middle settled own.1 in
          let met = turn.value in
          let number : position (same_slot met.column.slot) (turn.middle).numbers ≡ Some met.column.number.0 = ap (λ slot. position (same_slot slot) (turn.middle).numbers) uses.slot ∙ uses.numbers.number in
          let new = bare_new names read before v so_far uses.numbers.grows (λ keys. sym (ap (λ (u : Walk). u.aggs) uses.numbers.only)) met.column number
          (subst (Within w0 turn.middle) (sym uses.slot) (range_ends w0 (grows-trans to (grows-trans so_far.grows uses.numbers.grows)) entry.slot within))
          (λ c same. inl (own_other entry.slot within c (sym uses.slot ∙ same))) value
          (λ N fits aggs begins group m stands. means own.0 N aggs group m (turn.middle).outer stands met.column.number (fits entry.slot met.column.number.0 uses.numbers.number)) in (
            subst₂ (λ after v'. SoFar (names ++ entry.column ∷ []) (λ group. read group ++ value group ∷ []) after v') (done_value turn.ended) (done_walk turn.ended)
                (pushed names read before v so_far entry.column met.kind value met.column None turn.middle new),
            own.0,
          )

      -- the cells that are left of the first row of a group
      abbrev Left : List Entry → (Group → List Cell) → Type 0
      Left entries cells = (N : Numbering) (aggs : List Agg) (group : Group) (m : Env) (met : Bool) → Stands N place met group m aggs
          → ((cells group ≡ []) × ((slot : Slot) → Allowed place.keys slot → ⊥)) ⊎ Shows N m (Allowed place.keys) entries (cells group)

      left_head : (entry : Entry) (entries : List Entry) (cells : Group → List Cell) → Left (entry ∷ entries) cells → Allowed place.keys entry.slot
          → (N : Numbering) (aggs : List Agg) (group : Group) (m : Env) (met : Bool) → Stands N place met group m aggs → (c : ColId) → N.number_of entry.slot ≡ Some c → head_value (cells group) ≡ m c
      left_head entry entries cells left allowed N aggs group m met stands c number = by (left N aggs group m met stands)
        where
          by : ((cells group ≡ []) × ((slot : Slot) → Allowed place.keys slot → ⊥)) ⊎ Shows N m (Allowed place.keys) (entry ∷ entries) (cells group) → head_value (cells group) ≡ m c
          by (inl empty) = absurd (empty.1 entry.slot allowed)
          by (inr shows) = shown_head entry entries (cells group) shows allowed c number

      left_rest : (entry : Entry) (entries : List Entry) (cells : Group → List Cell) → Left (entry ∷ entries) cells → Left entries (λ group. rest_cells (cells group))
      unfolding rest_cells
      left_rest entry entries cells left N aggs group m met stands = by (left N aggs group m met stands)
        where
          by : ((cells group ≡ []) × ((slot : Slot) → Allowed place.keys slot → ⊥)) ⊎ Shows N m (Allowed place.keys) (entry ∷ entries) (cells group)
              → ((rest_cells (cells group) ≡ []) × ((slot : Slot) → Allowed place.keys slot → ⊥)) ⊎ Shows N m (Allowed place.keys) entries (rest_cells (cells group))
          by (inl empty) = inl (ap rest_cells empty.0, empty.1)
          by (inr shows) = inr (shown_rest entry entries (cells group) shows)

      module _ (alias : Option (List ℕ)) (pick : Entry → Bool) (kept : Cell → Bool) (same : (entry : Entry) (cell : Cell) → entry.alias ≡ cell.alias → pick entry ≡ kept cell) where
        abbrev picked : Outputs → Entry → Step Outputs
        picked before entry = if pick entry then star_column place.keys alias before entry else pure before

        abbrev picked_names : List Entry → List (List ℕ)
        picked_names entries = map (λ (entry : Entry). entry.column) (filter pick entries)

        -- the values of the cells that are kept, where no cell is left to come
        left_none : (cells : Group → List Cell) → Left [] cells → (N : Numbering) (aggs : List Agg) (group : Group) (m : Env) (met : Bool) → Stands N place met group m aggs → cell_values (filter kept (cells group)) ≡ []
        left_none cells left N aggs group m met stands = ap (λ cs. cell_values (filter kept cs)) (by (left N aggs group m met stands))
          where
            by : ((cells group ≡ []) × ((slot : Slot) → Allowed place.keys slot → ⊥)) ⊎ Shows N m (Allowed place.keys) [] (cells group) → cells group ≡ []
            by (inl empty) = empty.0
            by (inr shows) = shown_none (cells group) shows

        left_kept : (entry : Entry) (entries : List Entry) (cells : Group → List Cell) → Left (entry ∷ entries) cells → pick entry ≡ true → Allowed place.keys entry.slot
            → (N : Numbering) (aggs : List Agg) (group : Group) (m : Env) (met : Bool) → Stands N place met group m aggs
            → head_value (cells group) ∷ cell_values (filter kept (rest_cells (cells group))) ≡ cell_values (filter kept (cells group))
        left_kept entry entries cells left is allowed N aggs group m met stands = by (left N aggs group m met stands)
          where
            by : ((cells group ≡ []) × ((slot : Slot) → Allowed place.keys slot → ⊥)) ⊎ Shows N m (Allowed place.keys) (entry ∷ entries) (cells group)
                → head_value (cells group) ∷ cell_values (filter kept (rest_cells (cells group))) ≡ cell_values (filter kept (cells group))
            by (inl empty) = absurd (empty.1 entry.slot allowed)
            by (inr shows) = shown_kept pick kept same entry entries (cells group) shows is

        left_passed : (entry : Entry) (entries : List Entry) (cells : Group → List Cell) → Left (entry ∷ entries) cells → pick entry ≡ false
            → (N : Numbering) (aggs : List Agg) (group : Group) (m : Env) (met : Bool) → Stands N place met group m aggs → cell_values (filter kept (rest_cells (cells group))) ≡ cell_values (filter kept (cells group))
        unfolding rest_cells
        left_passed entry entries cells left is N aggs group m met stands = by (left N aggs group m met stands)
          where
            by : ((cells group ≡ []) × ((slot : Slot) → Allowed place.keys slot → ⊥)) ⊎ Shows N m (Allowed place.keys) (entry ∷ entries) (cells group)
                → cell_values (filter kept (rest_cells (cells group))) ≡ cell_values (filter kept (cells group))
            by (inl empty) = ap (λ cs. cell_values (filter kept (rest_cells cs))) empty.0 ∙ sym (ap (λ cs. cell_values (filter kept cs)) empty.0)
            by (inr shows) = shown_left pick kept same entry entries (cells group) shows is

        abbrev PicksLaw : List Entry → Type 0
        PicksLaw entries = (cells : Group → List Cell) → Left entries cells → (names : List (List ℕ)) (read : Group → List Value) (before : Outputs) (v : Walk) → SoFar names read before v
            → (after : Outputs) (v' : Walk) → over picked before entries v ≡ done after v' → SoFar (names ++ picked_names entries) (λ group. read group ++ cell_values (filter kept (cells group))) after v'

        picks_next : (entry : Entry) (entries : List Entry) → Within w0 wf entry.slot → Settled w.numbers entry.slot → PicksLaw entries → PicksLaw (entry ∷ entries)
        picks_next entry entries within settled again cells left names read before v so_far after v' walked = by (pick entry) refl turn.begun
          where
            turn : InTurn (picked before entry v) (λ more. over picked more entries) after v'
            turn = in_turn (picked before entry v) (λ more. over picked more entries) after v' walked

            by : (b : Bool) → pick entry ≡ b → (if b then star_column place.keys alias before entry else pure before) v ≡ done turn.value turn.middle
                → SoFar (names ++ map (λ (entry : Entry). entry.column) (cond b (entry ∷ filter pick entries) (filter pick entries))) (λ group. read group ++ cell_values (filter kept (cells group))) after v'
            by true is begun =
                let star = star_pushed names read before v so_far alias entry within (settled-grows so_far.grows entry.slot settled) (λ group. head_value (cells group)) (left_head entry entries cells left) turn.value turn.middle begun in
                so_far_again (append_assoc names (entry.column ∷ []) (picked_names entries))
                (λ N aggs group m stands. append_assoc (read group) (head_value (cells group) ∷ []) (cell_values (filter kept (rest_cells (cells group))))
                ∙ ap (λ vs. read group ++ vs) (left_kept entry entries cells left is star.1 N aggs group m v'.outer stands))
                (again (λ group. rest_cells (cells group)) (left_rest entry entries cells left) (names ++ entry.column ∷ []) (λ group. read group ++ head_value (cells group) ∷ []) turn.value turn.middle star.0 after v' turn.ended)
            by false is begun =
                so_far_again refl (λ N aggs group m stands. ap (λ vs. read group ++ vs) (left_passed entry entries cells left is N aggs group m v'.outer stands))
                (again (λ group. rest_cells (cells group)) (left_rest entry entries cells left) names read turn.value turn.middle
                (subst₂ (λ before v. SoFar names read before v) (done_value begun) (done_walk begun) so_far) after v' turn.ended)

        picks_none : PicksLaw []
        picks_none cells left names read before v so_far after v' walked =
            subst₂ (λ after v'. SoFar (names ++ []) (λ group. read group ++ cell_values (filter kept (cells group))) after v') (done_value walked) (done_walk walked)
            (so_far_again (sym (append-nil names)) (λ N aggs group m stands. sym (append-nil (read group)) ∙ ap (λ vs. read group ++ vs) (sym (left_none cells left N aggs group m v.outer stands))) so_far)

        picks : (entries : List Entry) → AllByRecursion (λ (entry : Entry). Within w0 wf entry.slot) entries → SettledIn w.numbers entries → PicksLaw entries
        picks [] within settled = picks_none
        picks (entry ∷ entries) within settled = picks_next entry entries within.0 settled.0 (picks entries within.1 settled.1)

        -- over all own columns, from the first row of a group
        picks_own : AllByRecursion (λ (entry : Entry). Within w0 wf entry.slot) place.own → SettledIn w.numbers place.own
            → (names : List (List ℕ)) (read : Group → List Value) (before : Outputs) (v : Walk) → SoFar names read before v
            → (after : Outputs) (v' : Walk) → over picked before place.own v ≡ done after v' → SoFar (names ++ picked_names place.own) (λ group. read group ++ cell_values (filter kept (first_row group.rows))) after v'
        picks_own within settled names read before v so_far after v' walked = picks place.own within settled (λ group. first_row group.rows) all_left names read before v so_far after v' walked
          where
            by : (N : Numbering) (m : Env) (rows : List (List Cell)) → Owns N m place.keys place.own rows → ((first_row rows ≡ []) × ((slot : Slot) → Allowed place.keys slot → ⊥)) ⊎ Shows N m (Allowed place.keys) place.own (first_row rows)
            by N m [] owns = inl (refl, owns)
            by N m (row ∷ rows) owns = inr owns

            all_left : Left place.own (λ group. first_row group.rows)
            all_left N aggs group m met stands = by N m group.rows stands.own

      -- ---- an expression

      module _ (own_within : AllByRecursion (λ (entry : Entry). Within w0 wf entry.slot) place.own) (proper : Proper w.numbers) (settled : SettledAt w.numbers place) where
        own_slot : (first last : List Entry) (entry : Entry) → place.own ≡ first ++ entry ∷ last → Within w0 wf entry.slot
        own_slot first last entry is = (all-right (λ (e : Entry). Within w0 wf e.slot) first (entry ∷ last) (subst (AllByRecursion (λ (e : Entry). Within w0 wf e.slot)) is own_within)).0

        -- where a bare column comes from
        source_within : {v v1 : Walk} {slot : Slot} → Grows w v → Grows v v1 → Source place v v1 slot → Within w0 v1 slot × ((c : ℕ) → slot ≡ Made c → (c < length w.numbers) ⊎ (length v.numbers ≤ c))
        source_within grows later (from_own first last entry is) =
            (range_ends w0 (grows-trans to (grows-trans grows later)) entry.slot (own_slot first last entry is), λ c same. inl (own_other entry.slot (own_slot first last entry is) c same))
        source_within grows later (from_made n low high) =
            let begins = grows-length (grows-trans from (grows-trans to grows)) in
            ((omega (arith, begins, low), high), λ c same. inr (omega (arith, low, made_is same)))
        source_within grows later (from_near reaches) = absurd (let h : false ≡ true = sym unreached ∙ reaches in cc)

        module _ (expr-means : (x : SqlExpr) → ExprMeans (expr x) (named.value_of x)) where
          output_pushed : (names : List (List ℕ)) (read : Group → List Value) (before : Outputs) (v : Walk) → SoFar names read before v → (value : Group → Value) (name : List ℕ) (x : Typed) (v1 : Walk) → ExprGives place value v x v1
              → (bare : Option Numbered) → x.bare ≡ bare → (after : Outputs) (v' : Walk) → made_output before name x bare v1 ≡ done after v' → SoFar (names ++ name ∷ []) (λ group. read group ++ value group ∷ []) after v'
          output_pushed names read before v so_far value name x v1 gives (Some column) is after v' walked =
              let at = gives.bare column is in
              let source = source_within so_far.grows gives.grows at.source in
              let new = bare_new names read before v so_far gives.grows gives.plain column at.number source.0 source.1 value
              (λ N fits aggs begins group m stands. gives.means N fits aggs begins group m stands ∙ (ap (λ s. value_of s m) at.scalar ∙ value-col column.number m)) in
              subst₂ (λ after v'. SoFar (names ++ name ∷ []) (λ group. read group ++ value group ∷ []) after v') (done_value walked) (done_walk walked)
              (pushed names read before v so_far name x.kind value column None v1 new)
          output_pushed names read before v so_far value name x v1 gives None is after v' walked =
              let turn = in_turn (made_number v1) (λ column. pure (with_output before name x.kind column (Some x.scalar))) after v' walked in
              let made = made_number-done v1 turn.value turn.middle turn.begun in
              let new = made_new names read before v so_far gives.grows gives.plain ((gives.grows).proper ((so_far.grows).proper proper)) (grows-trans from (grows-trans to (grows-trans so_far.grows gives.grows)))
              turn.value made x.scalar value gives.means in
              subst₂ (λ after v'. SoFar (names ++ name ∷ []) (λ group. read group ++ value group ∷ []) after v') (done_value turn.ended) (done_walk turn.ended)
              (pushed names read before v so_far name x.kind value turn.value (Some x.scalar) turn.middle new)

          item_pushed : (names : List (List ℕ)) (read : Group → List Value) (before : Outputs) (v : Walk) → SoFar names read before v → (x : SqlExpr) (name : List ℕ)
              → (after : Outputs) (v' : Walk) → made_item place before x name v ≡ done after v' → SoFar (names ++ name ∷ []) (λ group. read group ++ named.value_of x group ∷ []) after v'
          unfolding made_item
          item_pushed names read before v so_far x name after v' walked =
              let rest = (refuse_if-then (length before.items == MOST_ITEMS) (Limit limit.Items MOST_ITEMS) (expr x place >>= (λ t. made_output before name t t.bare)) v after v' walked).1 in
              let turn = in_turn (expr x place v) (λ t. made_output before name t t.bare) after v' rest in
              let gives = (expr-means x).gives place v turn.value turn.middle ((so_far.grows).proper proper) (settled_at-grows so_far.grows place settled) turn.begun in
              output_pushed names read before v so_far (named.value_of x) name turn.value turn.middle gives (turn.value).bare refl after v' turn.ended

          -- ---- the items

          alias_kept : (alias : List ℕ) (entry : Entry) (cell : Cell) → entry.alias ≡ cell.alias → bytes_eq alias entry.alias ≡ bytes_eq alias cell.alias
          alias_kept alias entry cell same = ap (bytes_eq alias) same

          alias_names : (alias : List ℕ) (entries : List Entry) → map (λ (entry : Entry). entry.column) (filter (λ (entry : Entry). bytes_eq alias entry.alias) entries)
              ≡ map (λ (label : Label). label.column) (filter (λ (label : Label). bytes_eq alias label.alias) (map (λ (entry : Entry). label_of entry.alias entry.column) entries))
          alias_names alias [] = refl
          alias_names alias (entry ∷ entries) = by (bytes_eq alias entry.alias) (alias_names alias entries)
            where
              rest : List (List ℕ)
              rest = map (λ (entry : Entry). entry.column) (filter (λ (entry : Entry). bytes_eq alias entry.alias) entries)

              by : (b : Bool) → map (λ (entry : Entry). entry.column) (filter (λ (entry : Entry). bytes_eq alias entry.alias) entries)
                  ≡ map (λ (label : Label). label.column) (filter (λ (label : Label). bytes_eq alias label.alias) (map (λ (entry : Entry). label_of entry.alias entry.column) entries))
                  → map (λ (entry : Entry). entry.column) (cond b (entry ∷ filter (λ (entry : Entry). bytes_eq alias entry.alias) entries) (filter (λ (entry : Entry). bytes_eq alias entry.alias) entries))
                  ≡ map (λ (label : Label). label.column) (cond b (label_of entry.alias entry.column ∷ filter (λ (label : Label). bytes_eq alias label.alias) (map (λ (entry : Entry). label_of entry.alias entry.column) entries))
                  (filter (λ (label : Label). bytes_eq alias label.alias) (map (λ (entry : Entry). label_of entry.alias entry.column) entries)))
              by true same = ap (λ names. entry.column ∷ names) same
              by false same = same

          alias_pushed : (names : List (List ℕ)) (read : Group → List Value) (before : Outputs) (v : Walk) → SoFar names read before v → (alias : List ℕ)
              → (after : Outputs) (v' : Walk) → alias_star place alias before v ≡ done after v'
              → SoFar (names ++ map (λ (label : Label). label.column) (filter (λ (label : Label). bytes_eq alias label.alias) (map (λ (entry : Entry). label_of entry.alias entry.column) place.own)))
              (λ group. read group ++ cell_values (filter (λ (cell : Cell). bytes_eq alias cell.alias) (first_row group.rows))) after v'
          unfolding alias_star
          alias_pushed names read before v so_far alias after v' walked = by (is_among alias v.taken) walked
            where
              by : (b : Bool) → (if b then over (alias_column place.keys alias) before place.own v else refused (UnknownColumn (alias ++ codes ".*"))) ≡ done after v'
                  → SoFar (names ++ map (λ (label : Label). label.column) (filter (λ (label : Label). bytes_eq alias label.alias) (map (λ (entry : Entry). label_of entry.alias entry.column) place.own)))
                  (λ group. read group ++ cell_values (filter (λ (cell : Cell). bytes_eq alias cell.alias) (first_row group.rows))) after v'
              by true walked = so_far_again (ap (λ ns. names ++ ns) (alias_names alias place.own)) (λ N aggs group m stands. refl)
                  (picks_own (Some alias) (λ (entry : Entry). bytes_eq alias entry.alias) (λ (cell : Cell). bytes_eq alias cell.alias) (alias_kept alias) own_within settled.0 names read before v so_far after v' walked)
              by false walked = refused_not_done walked

          module _ (labels : List Label) (are : map (λ (entry : Entry). label_of entry.alias entry.column) place.own ≡ labels) where
            one_item : (names : List (List ℕ)) (read : Group → List Value) (before : Outputs) (v : Walk) → SoFar names read before v → (i : Item)
                → (after : Outputs) (v' : Walk) → item_walk place before i v ≡ done after v' → SoFar (names ++ item_names labels (length names) i) (λ group. read group ++ item_values group i) after v'
            one_item names read before v so_far (item.AliasStar alias) after v' walked =
                so_far_again (ap (λ ls. names ++ map (λ (label : Label). label.column) (filter (λ (label : Label). bytes_eq alias label.alias) ls)) are) (λ N aggs group m stands. refl)
                (alias_pushed names read before v so_far alias after v' walked)
            one_item names read before v so_far (item.Made x name) after v' walked =
                so_far_again (ap (λ n. names ++ item_name x name (n + 1) ∷ []) so_far.count) (λ N aggs group m stands. refl)
                (item_pushed names read before v so_far x (item_name x name (length before.items + 1)) after v' walked)

            all_items : (items : List Item) (names : List (List ℕ)) (read : Group → List Value) (before : Outputs) (v : Walk) → SoFar names read before v
                → (after : Outputs) (v' : Walk) → over (item_walk place) before items v ≡ done after v'
                → SoFar (fold (λ names i. names ++ item_names labels (length names) i) names items) (λ group. read group ++ flat_map (item_values group) items) after v'
            all_items [] names read before v so_far after v' walked =
                subst₂ (λ after v'. SoFar names (λ group. read group ++ []) after v') (done_value walked) (done_walk walked)
                (so_far_again refl (λ N aggs group m stands. sym (append-nil (read group))) so_far)
            all_items (i ∷ items) names read before v so_far after v' walked =
                let turn = in_turn (item_walk place before i v) (λ more. over (item_walk place) more items) after v' walked in
                so_far_again refl (λ N aggs group m stands. append_assoc (read group) (item_values group i) (flat_map (item_values group) items))
                (all_items items (names ++ item_names labels (length names) i) (λ group. read group ++ item_values group i) turn.value turn.middle
                (one_item names read before v so_far i turn.value turn.middle turn.begun) after v' turn.ended)

    -- before the first item
    nothing_yet : SoFar [] (λ group. []) no_outputs w
    nothing_yet = record {
      grows = grows-refl w;
      plain = λ keys. refl;
      named = refl;
      count = refl;
      given = no_more;
      below = tt;
      make = λ c. None;
      makes = tt;
      made_at = λ c. inl refl;
      values = λ N fits aggs begins group m stands. refl;
    }

-- ---- what the items of a query give

every_cell : (cells : List Cell) → filter (λ (cell : Cell). true) cells ≡ cells
every_cell [] = refl
every_cell (cell ∷ cells) = ap (λ rest. cell ∷ rest) (every_cell cells)

every_entry : (entries : List Entry) → filter (λ (entry : Entry). true) entries ≡ entries
every_entry [] = refl
every_entry (entry ∷ entries) = ap (λ rest. entry ∷ rest) (every_entry entries)

label_columns : (entries : List Entry) → map (λ (entry : Entry). entry.column) entries ≡ map (λ (label : Label). label.column) (map (λ (entry : Entry). label_of entry.alias entry.column) entries)
label_columns [] = refl
label_columns (entry ∷ entries) = ap (λ rest. entry.column ∷ rest) (label_columns entries)

module _ (database : Database) where
  pub record ItemsGive (part : Role) (place : Place) (labels : List Label) (items : Items) (w0 w : Walk) (all : Outputs) (w' : Walk) : Type 0 where
    pub grows : Grows w w'
    pub plain : place.keys ≡ None → w'.aggs ≡ w.aggs
    pub names : part ≢ role.Exists → map (λ (c : Column). c.name) all.columns ≡ names_of labels items
    pub outputs : Related (GivenAt database w0 w') all.columns (outs_of all.items)
    pub values : part ≢ role.Exists → (N : Numbering) → Fits N w'.numbers → (aggs : List Agg) → BeginsWith w'.aggs aggs → (group : Group) (m : Env) → Stands N place w'.outer group m aggs
        → values_of items group ≡ key_of (outs_of all.items) (projected (items_of all.items) m)

  module _ (part : Role) (place : Place) (labels : List Label) (items : Items) (w0 w : Walk) where
    gives_all : (names : List (List ℕ)) (read : Group → List Value) (outputs : Outputs) (w' : Walk) → names ≡ names_of labels items → ((group : Group) → values_of items group ≡ read group)
        → SoFar database w0 w place names read outputs w' → ItemsGive part place labels items w0 w outputs w'
    gives_all names read outputs w' same_names same so_far = record {
      grows = so_far.grows;
      plain = so_far.plain;
      names = λ other. so_far.named ∙ same_names;
      outputs = so_far.given;
      values = λ other N fits aggs begins group m stands. same group ∙ (so_far.values N fits aggs begins group m stands ∙ projected_values so_far.make m outputs.items so_far.makes);
    }

  gives_none : (place : Place) (labels : List Label) (items : Items) (w0 w : Walk) → ItemsGive role.Exists place labels items w0 w no_outputs w
  gives_none place labels items w0 w = record {
    grows = grows-refl w;
    plain = λ keys. refl;
    names = λ other. absurd (other refl);
    outputs = no_more;
    values = λ other. absurd (other refl);
  }

  module _ (expr-means : (x : SqlExpr) → ExprMeans (expr x) (named.value_of x)) where
    module _ (part : Role) (place : Place) (labels : List Label) (w0 wf w : Walk) (proper : Proper w.numbers) (settled : SettledAt w.numbers place) (unreached : place.reaches ≡ false) (from : Grows w0 wf) (to : Grows wf w)
        (within : AllByRecursion (λ (entry : Entry). Within w0 wf entry.slot) place.own) (are : map (λ (entry : Entry). label_of entry.alias entry.column) place.own ≡ labels) where
      star_gives : (outputs : Outputs) (w' : Walk) → over (star_column place.keys None) no_outputs place.own w ≡ done outputs w' → ItemsGive part place labels Star w0 w outputs w'
      star_gives outputs w' walked = gives_all part place labels Star w0 w
          (map (λ (entry : Entry). entry.column) (filter (λ (entry : Entry). true) place.own)) (λ group. cell_values (filter (λ (cell : Cell). true) (first_row group.rows))) outputs w'
          (ap (λ entries. map (λ (entry : Entry). entry.column) entries) (every_entry place.own) ∙ (label_columns place.own ∙ ap (λ ls. map (λ (label : Label). label.column) ls) are))
          (λ group. ap cell_values (sym (every_cell (first_row group.rows))))
          (picks_own database w0 w place unreached wf from to None (λ entry. true) (λ cell. true) (λ entry cell same. refl) within settled.0 [] (λ group. []) no_outputs w (nothing_yet database w0 w place unreached) outputs w' walked)

      list_gives : (items : List Item) (outputs : Outputs) (w' : Walk) → over (item_walk place) no_outputs items w ≡ done outputs w' → ItemsGive part place labels (Listed items) w0 w outputs w'
      list_gives items outputs w' walked = gives_all part place labels (Listed items) w0 w
          (fold (λ names i. names ++ item_names labels (length names) i) [] items) (λ group. flat_map (item_values group) items) outputs w' refl (λ group. refl)
          (all_items database w0 w place unreached wf from to within proper settled expr-means labels are items [] (λ group. []) no_outputs w (nothing_yet database w0 w place unreached) outputs w' walked)

    pub items_give : (part : Role) (place : Place) (labels : List Label) (items : Items) (w0 wf w : Walk) (outputs : Outputs) (w' : Walk) → Proper w.numbers → SettledAt w.numbers place → place.reaches ≡ false
        → Grows w0 wf → Grows wf w → AllByRecursion (λ (entry : Entry). Within w0 wf entry.slot) place.own → map (λ (entry : Entry). label_of entry.alias entry.column) place.own ≡ labels
        → items_walk part place items w ≡ done outputs w' → ItemsGive part place labels items w0 w outputs w'
    items_give part place labels (Listed items) w0 wf w outputs w' proper settled unreached from to within are walked = list_gives part place labels w0 wf w proper settled unreached from to within are items outputs w' walked
    items_give role.Exists place labels Star w0 wf w outputs w' proper settled unreached from to within are walked =
        subst₂ (λ outputs w'. ItemsGive role.Exists place labels Star w0 w outputs w') (done_value walked) (done_walk walked) (gives_none place labels Star w0 w)
    items_give role.In place labels Star w0 wf w outputs w' proper settled unreached from to within are walked = star_gives role.In place labels w0 wf w proper settled unreached from to within are outputs w' walked
    items_give role.DerivedTable place labels Star w0 wf w outputs w' proper settled unreached from to within are walked = star_gives role.DerivedTable place labels w0 wf w proper settled unreached from to within are outputs w' walked
    items_give role.Statement place labels Star w0 wf w outputs w' proper settled unreached from to within are walked = star_gives role.Statement place labels w0 wf w proper settled unreached from to within are outputs w' walked
