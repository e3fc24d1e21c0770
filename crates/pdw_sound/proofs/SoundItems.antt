-- The items of a query: each has its kind, and the numbers that they make are new.
use Rattle.std.proofs.Common.{◌≡◌, ◌≢◌, ℕ, ◌+◌, ◌==◌, ◌<◌, ◌≤◌, ◌||◌, ◌⊎◌, inl, inr, Bool, true, false, List, [], ◌∷◌, ◌++◌, length, Option, Some, None, is_some, position, refl, sym, ap, subst, subst₂, ◌∙◌, le_trans, le_refl, length-append, eqb-true, eq-eqb, true≢false, bytes_eq, codes, arith, if◌then◌else◌}
use Rattle.std.specs.List.{AllByRecursion, list_all, list_any}
use Rattle.std.proofs.lemmas.Bool.{and_parts, ne_eqb}
use Rattle.std.proofs.lemmas.List.Quantifiers.{position-Some}
use Rattle.pdw_algebra.specs.Schema.{kind_at}
use Rattle.pdw_algebra.specs.Types.{scalar_kind}
use Rattle.pdw_syntax.specs.declared.expr.SqlExpr.{SqlExpr}
use Rattle.pdw_syntax.specs.declared.query.Item.{Item}
use Rattle.pdw_syntax.specs.declared.query.Item.TheVariants as item
use Rattle.pdw_syntax.specs.declared.query.Items.{Items}
use Rattle.pdw_syntax.specs.declared.query.Items.TheVariants.{Star, List as Listed}
use Rattle.pdw_base.specs.Schema.{Columns}
use Rattle.pdw_base.specs.declared.schema.ColId.{ColId}
use Rattle.pdw_base.specs.declared.value.Kind.{Kind}
use Rattle.pdw_sound.proofs.Added.{adds-one, adds-same, adds-trans, among-head, among-right}
use Rattle.pdw_sound.proofs.Ranges.{one-slot}
use Rattle.pdw_sound.proofs.SoundExprs.{kind_col, use_column-adds, used_own}
use Rattle.pdw_sound.proofs.SoundLater.{aggs_made-grows, kinds-before, later-grows, later-itself, sees-before}
use Rattle.pdw_sound.proofs.SoundRelations.{Adds, AggsMade, AggsTyped, Among, ExprSound, KindAt, KindsOf, Sees, Used}
use Rattle.pdw_form.specs.Columns.{first_of}
use Rattle.pdw_form.specs.Sound.{judged_kind}
use Rattle.pdw_syntax.specs.Written.{expr_written, item_written, items_written, some_items}
use Rattle.pdw_expr.specs.declared.agg.Agg.{Agg}
use Rattle.pdw_expr.specs.declared.scalar.Scalar.{Scalar}
use Rattle.pdw_expr.specs.declared.scalar.Scalar.TheVariants.{Col}
use Rattle.pdw_names.proofs.LookupLaws.{own_column-done, use_column-done}
use Rattle.pdw_walk.proofs.Outcomes.{InTurn, done_value, done_walk, in_turn, refused_not_done}
use Rattle.pdw_form.proofs.Related.{Related, related-append, none as no_more, more as one_more}
use Rattle.pdw_names.proofs.Relations.{Allowed, BeginsWith, Grows, Proper, Settled, SettledAt, Source, Within, own as from_own, made as from_made, near as from_near}
use Rattle.pdw_names.proofs.WalkLaws.{MakesNumber, all-append, all-map, all-right, begins-grows, grows-length, grows-refl, grows-trans, made_number-done, position-grows, refuse_if-then, settled-grows, settled_at-grows}
use Rattle.pdw_walk.specs.Exprs.{expr}
use Rattle.pdw_walk.specs.Items.{alias_column, alias_star, item_walk, items_walk, made_item, made_output, no_outputs, star_column, with_output}
use Rattle.pdw_walk.specs.Lookup.{Place, Scope, own_column, qualified}
use Rattle.pdw_walk.specs.Names.{item_name}
use Rattle.pdw_walk.specs.Slot.{same_slot}
use Rattle.pdw_walk.specs.Walk.{Step, Walk, ◌>>=◌, col_id, done, is_among, made_number, over, pure, refused}
use Rattle.pdw_walk.specs.declared.entry.Column.{Column}
use Rattle.pdw_walk.specs.declared.entry.Entry.{Entry}
use Rattle.pdw_walk.specs.declared.entry.Numbered.{Numbered}
use Rattle.pdw_walk.specs.declared.entry.Outputs.{Outputs}
use Rattle.pdw_walk.specs.declared.entry.Role.{Role}
use Rattle.pdw_walk.specs.declared.entry.Role.TheVariants as role
use Rattle.pdw_walk.specs.declared.entry.Slot.{Slot}
use Rattle.pdw_walk.specs.declared.entry.Slot.TheVariants.{Base, Made}
use Rattle.pdw_walk.specs.declared.entry.Typed.{Typed}
use Rattle.pdw_walk.specs.declared.fault.JudgeFault.TheVariants.{Limit, UnknownColumn}
use Rattle.pdw_walk.specs.declared.fault.LimitName.TheVariants as limit
use Rattle.pdw_walk.specs.declared.fault.TheConstants.{MOST_ITEMS}
use Rattle.pdw_form.specs.declared.judged.JItem.{JItem}

-- an item has the kind of its output column
abbrev pub ItemKind : Columns → Column → JItem → Type 0
ItemKind columns output i = judged_kind columns i ≡ Some output.kind

number_below : (slot : Slot) (numbers : List Slot) (place : ℕ) → position (same_slot slot) numbers ≡ Some place → place < length numbers
number_below slot numbers place at = (position-Some (same_slot slot) numbers place slot at).0

made_is : {n k : ℕ} → Made n ≡ Made k → n ≡ k
made_is {n} same = ap get same
  where
    get : Slot → ℕ
    get (Made k) = k
    get (Base reference column) = n

-- the columns of a scope are among them
every_among : (scope : Scope) → AllByRecursion (λ (entry : Entry). Among scope entry.slot) scope
every_among [] = tt
every_among (entry ∷ scope) = (
  among-head entry scope,
  all-map (λ (other : Entry). Among scope other.slot) (λ (other : Entry). Among (entry ∷ scope) other.slot) (λ other among. among-right (entry ∷ []) scope other.slot among) scope (every_among scope),
)

module _ (place : Place) (unreached : place.reaches ≡ false) where
  -- what a step says that begins no table reference
  pub record StepFits (v v' : Walk) : Type 0 where
    pub grows : Grows v v'
    pub taken : v'.taken ≡ v.taken
    pub references : v'.references ≡ v.references
    pub uses : Adds (Used place) v v'
    pub aggs : (rows : Columns) → KindsOf v'.numbers rows place.own → AggsTyped rows v.aggs → AggsTyped rows v'.aggs
    pub made : AggsMade v.numbers v.aggs → AggsMade v'.numbers v'.aggs

  step-itself : (v : Walk) → StepFits v v
  step-itself v = record { grows = grows-refl v; taken = refl; references = refl; uses = adds-same (Used place) refl; aggs = λ rows kinds before. before; made = λ before. before }

  -- a step that makes no aggregate
  kept_step : {v v' : Walk} → Grows v v' → v'.taken ≡ v.taken → v'.references ≡ v.references → v'.aggs ≡ v.aggs → Adds (Used place) v v' → StepFits v v'
  kept_step {v} {v'} grows taken references kept uses = record {
    grows = grows;
    taken = taken;
    references = references;
    uses = uses;
    aggs = λ rows kinds before. subst (AggsTyped rows) (sym kept) before;
    made = λ before. subst (AggsMade v'.numbers) (sym kept) (aggs_made-grows grows v.aggs before);
  }

  -- the step that gives the next number
  number_step : {v v' : Walk} {column : Numbered} → MakesNumber v column v' → StepFits v v'
  number_step {v} {v'} made = kept_step made.grows (sym (ap (λ (u : Walk). u.taken) made.walk)) (sym (ap (λ (u : Walk). u.references) made.walk)) (sym (ap (λ (u : Walk). u.aggs) made.walk))
      (adds-one (Used place) (Made (length v.numbers)) (sym (ap (λ (u : Walk). u.numbers) made.walk)) tt)

  step-trans : {a b c : Walk} → StepFits a b → StepFits b c → StepFits a c
  step-trans {c = c} first second = record {
    grows = grows-trans first.grows second.grows;
    taken = second.taken ∙ first.taken;
    references = second.references ∙ first.references;
    uses = adds-trans (Used place) first.uses second.uses;
    aggs = λ rows kinds before. second.aggs rows kinds (first.aggs rows (kinds-before (later-grows second.grows (later-itself c)) rows place.own kinds) before);
    made = λ before. second.made (first.made before);
  }

  sees_any : {numbers : List Slot} {aggs : List Agg} {columns : Columns} (met met' : Bool) → Sees numbers aggs met place columns → Sees numbers aggs met' place columns
  sees_any met met' sees = record { own = sees.own; near = λ reaches _. absurd (true≢false (sym reaches ∙ unreached)); grouped = sees.grouped }

  module _ (w : Walk) where
    -- a number that an item made, after the walk at `w`; no aggregate has it
    pub record MadeHere (v : Walk) (c : ColId) : Type 0 where
      pub low : length w.numbers ≤ c.0
      pub at : position (same_slot (Made c.0)) v.numbers ≡ Some c.0
      pub apart : AllByRecursion (λ (agg : Agg). agg.out.0 ≢ c.0) v.aggs

    here-later : {v v' : Walk} → Grows v v' → (c : ColId) → MadeHere v c → MadeHere v' c
    here-later {v} {v'} grows c here = record {
      low = here.low;
      at = position-grows grows (Made c.0) c.0 here.at;
      apart = subst (AllByRecursion (λ (agg : Agg). agg.out.0 ≢ c.0)) (sym grows.aggs)
          (all-append (λ (agg : Agg). agg.out.0 ≢ c.0) v.aggs grows.new_aggs here.apart
          (all-map (λ (agg : Agg). length v.numbers ≤ agg.out.0) (λ (agg : Agg). agg.out.0 ≢ c.0)
          (λ agg above same. let inside = number_below (Made c.0) v.numbers c.0 here.at in absurd (omega (arith, above, inside, same))) grows.new_aggs (grows.made).low));
    }

    -- the output columns so far
    pub record ItemsFit (k : Outputs) (v : Walk) : Type 0 where
      pub step : StepFits w v
      pub aggs : AggsMade v.numbers v.aggs
      pub kinds : (aggs : List Agg) → BeginsWith v.aggs aggs → (met : Bool) (columns : Columns) → Sees v.numbers aggs met place columns → Related (ItemKind columns) k.columns k.items
      pub below : AllByRecursion (λ (i : JItem). i.out.0 < length v.numbers) k.items
      pub make : ColId → Option Scalar
      pub makes : AllByRecursion (λ (i : JItem). i.make ≡ make i.out) k.items
      pub made_at : (c : ColId) → (make c ≡ None) ⊎ MadeHere v c

    pub fits_none : AggsMade w.numbers w.aggs → ItemsFit no_outputs w
    fits_none made = record {
      step = step-itself w;
      aggs = made;
      kinds = λ aggs begins met columns sees. no_more;
      below = tt;
      make = λ c. None;
      makes = tt;
      made_at = λ c. inl refl;
    }

    at_later : {k : Outputs} {v v' : Walk} (fits : ItemsFit k v) → Grows v v' → (c : ColId) → (fits.make c ≡ None) ⊎ MadeHere v' c
    at_later {k} {v} {v'} fits grows c = by (fits.made_at c)
      where
        by : (fits.make c ≡ None) ⊎ MadeHere v c → (fits.make c ≡ None) ⊎ MadeHere v' c
        by (inl nothing) = inl nothing
        by (inr here) = inr (here-later grows c here)

    below_later : {v v' : Walk} → Grows v v' → (items : List JItem) → AllByRecursion (λ (i : JItem). i.out.0 < length v.numbers) items → AllByRecursion (λ (i : JItem). i.out.0 < length v'.numbers) items
    below_later {v} {v'} grows = all-map (λ (i : JItem). i.out.0 < length v.numbers) (λ (i : JItem). i.out.0 < length v'.numbers) (λ i low. let more = grows-length grows in omega (arith, low, more))

    -- after a step that gives no output column
    fits_step : {k : Outputs} {v v' : Walk} → ItemsFit k v → StepFits v v' → ItemsFit k v'
    fits_step {k} {v} {v'} fits step = record {
      step = step-trans fits.step step;
      aggs = step.made fits.aggs;
      kinds = λ aggs begins met columns sees. fits.kinds aggs (begins-grows begins step.grows) met columns (sees-before step.grows place unreached aggs columns met met sees);
      below = below_later step.grows k.items fits.below;
      make = fits.make;
      makes = fits.makes;
      made_at = at_later fits step.grows;
    }

    -- its slot is none of those that were made for items
    abbrev Other : Walk → Slot → Type 0
    Other v slot = (c : ℕ) → slot ≡ Made c → (c < length w.numbers) ⊎ (length v.numbers ≤ c)

    -- a column or an aggregate that is passed through
    passed : (k : Outputs) (v : Walk) (fits : ItemsFit k v) (v' : Walk) (step : StepFits v v') (name : List ℕ) (kind : Kind) (column : Numbered) → position (same_slot column.slot) v'.numbers ≡ Some column.number.0 → Other v column.slot
        → ((aggs : List Agg) → BeginsWith v'.aggs aggs → (met : Bool) (columns : Columns) → Sees v'.numbers aggs met place columns → kind_at columns column.number ≡ Some kind)
        → ItemsFit (with_output k name kind column None) v'
    passed k v fits v' step name kind column number other typed = record {
      step = later.step;
      aggs = later.aggs;
      kinds = λ aggs begins met columns sees. related-append (later.kinds aggs begins met columns sees) (one_more (typed aggs begins met columns sees) no_more);
      below = all-append (λ (i : JItem). i.out.0 < length v'.numbers) k.items (record { name = name; out = column.number; make = None } ∷ []) later.below (number_below column.slot v'.numbers column.number.0 number, tt);
      make = fits.make;
      makes = all-append (λ (i : JItem). i.make ≡ fits.make i.out) k.items (record { name = name; out = column.number; make = None } ∷ []) fits.makes (by (fits.made_at column.number), tt);
      made_at = at_later fits step.grows;
    }
      where
        later : ItemsFit k v'
        later = fits_step fits step

        not_that : MadeHere v column.number → (column.number.0 < length w.numbers) ⊎ (length v.numbers ≤ column.number.0) → ⊥
        not_that here (inl early) = let low = here.low in absurd (omega (arith, low, early))
        not_that here (inr late) = let inside = number_below (Made column.number.0) v.numbers column.number.0 here.at in absurd (omega (arith, inside, late))

        by : (fits.make column.number ≡ None) ⊎ MadeHere v column.number → None ≡ fits.make column.number
        by (inl nothing) = sym nothing
        by (inr here) = absurd (not_that here
            (other column.number.0 (one-slot v'.numbers column.slot (Made column.number.0) column.number.0 number (position-grows (step.grows) (Made column.number.0) column.number.0 here.at))))

    -- a new number is that of no aggregate
    new_here : {k : Outputs} {v v' : Walk} {column : Numbered} → ItemsFit k v → Proper v.numbers → MakesNumber v column v' → MadeHere v' (col_id (length v.numbers))
    new_here {k} {v} {v'} fits proper made = record {
      low = grows-length ((fits.step).grows);
      at = made.stands proper;
      apart = subst (AllByRecursion (λ (agg : Agg). agg.out.0 ≢ length v.numbers)) (ap (λ (u : Walk). u.aggs) made.walk)
          (all-map (λ (agg : Agg). position (same_slot (Made agg.out.0)) v.numbers ≡ Some agg.out.0) (λ (agg : Agg). agg.out.0 ≢ length v.numbers)
          (λ agg found same. let inside = number_below (Made agg.out.0) v.numbers agg.out.0 found in absurd (omega (arith, inside, same))) v.aggs fits.aggs);
    }

    -- what is computed gets a new number
    computed : (k : Outputs) (v : Walk) (fits : ItemsFit k v) → Proper v.numbers → (column : Numbered) (v' : Walk) → MakesNumber v column v' → (name : List ℕ) (kind : Kind) (x : Scalar)
        → ((aggs : List Agg) → BeginsWith v.aggs aggs → (met : Bool) (columns : Columns) → Sees v.numbers aggs met place columns → scalar_kind columns x ≡ Some kind)
        → ItemsFit (with_output k name kind column (Some x)) v'
    computed k v fits proper column v' made name kind x typed = record {
      step = later.step;
      aggs = later.aggs;
      kinds = λ aggs begins met columns sees. related-append (later.kinds aggs begins met columns sees)
          (one_more (typed aggs (begins-grows begins made.grows) met columns (sees-before made.grows place unreached aggs columns met met sees)) no_more);
      below = all-append (λ (i : JItem). i.out.0 < length v'.numbers) k.items (record { name = name; out = column.number; make = Some x } ∷ []) later.below
          (subst (λ (c : ColId). c.0 < length v'.numbers) (sym made.number) (number_below (Made (length v.numbers)) v'.numbers (length v.numbers) (made.stands proper)), tt);
      make = makes;
      makes = all-append (λ (i : JItem). i.make ≡ makes i.out) k.items (record { name = name; out = column.number; make = Some x } ∷ []) (still k.items fits.below fits.makes)
          (sym (ap (λ (c : ColId). makes c) made.number ∙ ap (λ b. if b then Some x else fits.make (col_id (length v.numbers))) (eq-eqb (length v.numbers) (length v.numbers) refl)), tt);
      made_at = λ c. by c (c.0 == length v.numbers) refl;
    }
      where
        later : ItemsFit k v'
        later = fits_step fits (number_step made)

        makes : ColId → Option Scalar
        makes c = if c.0 == length v.numbers then Some x else fits.make c

        still : (items : List JItem) → AllByRecursion (λ (i : JItem). i.out.0 < length v.numbers) items → AllByRecursion (λ (i : JItem). i.make ≡ fits.make i.out) items → AllByRecursion (λ (i : JItem). i.make ≡ makes i.out) items
        still [] low all = tt
        still (i ∷ items) low all =
            let below = low.0 in
            (all.0 ∙ sym (ap (λ b. if b then Some x else fits.make i.out) (ne_eqb i.out.0 (length v.numbers) (λ e. absurd (omega (arith, below, e))))), still items low.1 all.1)

        by : (c : ColId) (b : Bool) → (c.0 == length v.numbers) ≡ b → ((if b then Some x else fits.make c) ≡ None) ⊎ MadeHere v' c
        by c true is = inr (subst (λ n. MadeHere v' (col_id n)) (sym (eqb-true c.0 (length v.numbers) is)) (new_here fits proper made))
        by c false is = at_later fits made.grows c

    module _ (w0 wf : Walk) (to : Grows wf w) (own_within : AllByRecursion (λ (entry : Entry). Within w0 wf entry.slot) place.own) (proper : Proper w.numbers) (settled : SettledAt w.numbers place) where
      own_other : (v : Walk) (slot : Slot) → Within w0 wf slot → Other v slot
      own_other v slot within c same = let inside : Within w0 wf (Made c) = subst (Within w0 wf) same within in let longer = grows-length to in let below = inside.1 in inl (omega (arith, below, longer))

      -- ---- a column of `*` or `a.*`

      star_fits : (alias : Option (List ℕ)) (entry : Entry) → ((P : Entry → Type 0) → AllByRecursion P place.own → P entry) → (k : Outputs) (v : Walk) → ItemsFit k v
          → (after : Outputs) (v' : Walk) → star_column place.keys alias k entry v ≡ done after v' → ItemsFit after v'
      unfolding star_column
      star_fits alias entry member k v fits after v' walked =
          let rest = (refuse_if-then (length k.items == MOST_ITEMS) (Limit limit.Items MOST_ITEMS)
          (own_column place.keys (qualified alias entry.column) entry >>= (λ met. pure (with_output k entry.column met.kind met.column None))) v after v' walked).1 in
          let turn = in_turn (own_column place.keys (qualified alias entry.column) entry v) (λ met. pure (with_output k entry.column met.kind met.column None)) after v' rest in
          let own = own_column-done place.keys (qualified alias entry.column) entry v turn.value turn.middle turn.begun in
          let here = settled-grows ((fits.step).grows) entry.slot (member (λ (e : Entry). Settled w.numbers e.slot) settled.0) in
          let uses = use_column-done entry v turn.value turn.middle here own.1 in
          let met = turn.value in
          let step = kept_step uses.numbers.grows (sym (ap (λ (u : Walk). u.taken) uses.numbers.only)) (sym (ap (λ (u : Walk). u.references) uses.numbers.only)) (sym (ap (λ (u : Walk). u.aggs) uses.numbers.only))
          (use_column-adds (Used place) entry (used_own place entry.slot (member (λ (e : Entry). Among place.own e.slot) (every_among place.own))) v met turn.middle own.1) in
          let number : position (same_slot met.column.slot) (turn.middle).numbers ≡ Some met.column.number.0 = ap (λ slot. position (same_slot slot) (turn.middle).numbers) uses.slot ∙ uses.numbers.number in
          let other : Other v met.column.slot = λ c same. own_other v entry.slot (member (λ (e : Entry). Within w0 wf e.slot) own_within) c (sym uses.slot ∙ same) in
          subst₂ ItemsFit (done_value turn.ended) (done_walk turn.ended)
          (passed k v fits turn.middle step entry.column met.kind met.column number other
          (λ aggs begins seen columns sees.
          member (λ (e : Entry). Allowed place.keys e.slot → KindAt (turn.middle).numbers columns e) sees.own own.0 met.column.number.0 uses.numbers.number ∙ ap Some (sym uses.kind)))

      abbrev picked : Option (List ℕ) → (Entry → Bool) → Outputs → Entry → Step Outputs
      picked alias pick before entry = if pick entry then star_column place.keys alias before entry else pure before

      picks_fit : (alias : Option (List ℕ)) (pick : Entry → Bool) (entries : List Entry) → ((P : Entry → Type 0) → AllByRecursion P place.own → AllByRecursion P entries) → (k : Outputs) (v : Walk) → ItemsFit k v
          → (after : Outputs) (v' : Walk) → over (picked alias pick) k entries v ≡ done after v' → ItemsFit after v'
      picks_fit alias pick [] part k v fits after v' walked = subst₂ ItemsFit (done_value walked) (done_walk walked) fits
      picks_fit alias pick (entry ∷ entries) part k v fits after v' walked =
          picks_fit alias pick entries (λ P all. (part P all).1) turn.value turn.middle (by (pick entry) turn.begun) after v' turn.ended
        where
          turn : InTurn (picked alias pick k entry v) (λ more. over (picked alias pick) more entries) after v'
          turn = in_turn (picked alias pick k entry v) (λ more. over (picked alias pick) more entries) after v' walked

          by : (b : Bool) → (if b then star_column place.keys alias k entry else pure k) v ≡ done turn.value turn.middle → ItemsFit turn.value turn.middle
          by true begun = star_fits alias entry (λ P all. (part P all).0) k v fits turn.value turn.middle begun
          by false begun = subst₂ ItemsFit (done_value begun) (done_walk begun) fits

      -- ---- an expression

      own_slot : (first last : List Entry) (entry : Entry) → place.own ≡ first ++ entry ∷ last → Within w0 wf entry.slot
      own_slot first last entry is = (all-right (λ (e : Entry). Within w0 wf e.slot) first (entry ∷ last) (subst (AllByRecursion (λ (e : Entry). Within w0 wf e.slot)) is own_within)).0

      -- where a bare column comes from
      source_other : (v v1 : Walk) (slot : Slot) → Source place v v1 slot → Other v slot
      source_other v v1 slot (from_own first last entry is) = own_other v entry.slot (own_slot first last entry is)
      source_other v v1 slot (from_made n low high) = λ c same. inr (omega (arith, low, made_is same))
      source_other v v1 slot (from_near reaches) = absurd (true≢false (sym reaches ∙ unreached))

      module _ (expr_sound : (x : SqlExpr) → expr_written x ≡ true → ExprSound (expr x)) where
        output_fits : (k : Outputs) (v : Walk) (fits : ItemsFit k v) (name : List ℕ) (x : Typed) (v1 : Walk) → StepFits v v1 → Proper v1.numbers
            → ((column : Numbered) → x.bare ≡ Some column → (x.scalar ≡ Col column.number) × ((position (same_slot column.slot) v1.numbers ≡ Some column.number.0) × Other v column.slot))
            → ((aggs : List Agg) → BeginsWith v1.aggs aggs → (met : Bool) (columns : Columns) → Sees v1.numbers aggs met place columns → scalar_kind columns x.scalar ≡ Some x.kind)
            → (bare : Option Numbered) → x.bare ≡ bare → (after : Outputs) (v' : Walk) → made_output k name x bare v1 ≡ done after v' → ItemsFit after v'
        output_fits k v fits name x v1 step fine bares typed (Some column) is after v' walked =
            let at = bares column is in
            subst₂ ItemsFit (done_value walked) (done_walk walked)
            (passed k v fits v1 step name x.kind column (at.1).0 (at.1).1
            (λ aggs begins met columns sees. sym (kind_col columns column.number) ∙ (ap (scalar_kind columns) (sym at.0) ∙ typed aggs begins met columns sees)))
        output_fits k v fits name x v1 step fine bares typed None is after v' walked =
            let turn = in_turn (made_number v1) (λ column. pure (with_output k name x.kind column (Some x.scalar))) after v' walked in
            let made = made_number-done v1 turn.value turn.middle turn.begun in
            subst₂ ItemsFit (done_value turn.ended) (done_walk turn.ended) (computed k v1 (fits_step fits step) fine turn.value turn.middle made name x.kind x.scalar typed)

        expr_fits : (x : SqlExpr) → expr_written x ≡ true → (name : List ℕ) (k : Outputs) (v : Walk) → ItemsFit k v → (after : Outputs) (v' : Walk) → made_item place k x name v ≡ done after v' → ItemsFit after v'
        unfolding made_item
        expr_fits x written name k v fits after v' walked =
            let rest = (refuse_if-then (length k.items == MOST_ITEMS) (Limit limit.Items MOST_ITEMS) (expr x place >>= (λ t. made_output k name t t.bare)) v after v' walked).1 in
            let turn = in_turn (expr x place v) (λ t. made_output k name t t.bare) after v' rest in
            let sound = expr_sound x written in
            let here = settled_at-grows ((fits.step).grows) place settled in
            let fine = ((fits.step).grows).proper proper in
            let gives = (sound.means).gives place v turn.value turn.middle fine here turn.begun in
            let kinds = sound.kinds place v turn.value turn.middle fine here turn.begun in
            let step : StepFits v turn.middle = record { grows = gives.grows; taken = kinds.taken; references = kinds.references; uses = kinds.uses; aggs = kinds.aggs unreached; made = kinds.made } in
            output_fits k v fits name turn.value turn.middle step ((gives.grows).proper fine)
            (λ column is. let at = gives.bare column is in (at.scalar, (at.number, source_other v turn.middle column.slot at.source)))
            (λ aggs begins met columns sees. kinds.typed aggs begins columns (sees_any met (turn.middle).outer sees)) (turn.value).bare refl after v' turn.ended

        -- ---- the items

        alias_fits : (alias : List ℕ) (k : Outputs) (v : Walk) → ItemsFit k v → (after : Outputs) (v' : Walk) → alias_star place alias k v ≡ done after v' → ItemsFit after v'
        unfolding alias_star
        alias_fits alias k v fits after v' walked = by (is_among alias v.taken) walked
          where
            by : (b : Bool) → (if b then over (alias_column place.keys alias) k place.own v else refused (UnknownColumn (alias ++ codes ".*"))) ≡ done after v' → ItemsFit after v'
            by true walked = picks_fit (Some alias) (λ (entry : Entry). bytes_eq alias entry.alias) place.own (λ P all. all) k v fits after v' walked
            by false walked = refused_not_done walked

        one_fits : (i : Item) → item_written i ≡ true → (k : Outputs) (v : Walk) → ItemsFit k v → (after : Outputs) (v' : Walk) → item_walk place k i v ≡ done after v' → ItemsFit after v'
        one_fits (item.AliasStar alias) written k v fits after v' walked = alias_fits alias k v fits after v' walked
        one_fits (item.Made x name) written k v fits after v' walked = expr_fits x written (item_name x name (length k.items + 1)) k v fits after v' walked

        all_fit : (items : List Item) → list_all item_written items ≡ true → (k : Outputs) (v : Walk) → ItemsFit k v → (after : Outputs) (v' : Walk) → over (item_walk place) k items v ≡ done after v' → ItemsFit after v'
        all_fit [] written k v fits after v' walked = subst₂ ItemsFit (done_value walked) (done_walk walked) fits
        all_fit (i ∷ items) written k v fits after v' walked =
            let turn = in_turn (item_walk place k i v) (λ more. over (item_walk place) more items) after v' walked in
            let both = and_parts (item_written i) (list_all item_written items) written in
            all_fit items both.1 turn.value turn.middle (one_fits i both.0 k v fits turn.value turn.middle turn.begun) after v' turn.ended

        star_all : AggsMade w.numbers w.aggs → (after : Outputs) (v' : Walk) → over (star_column place.keys None) no_outputs place.own w ≡ done after v' → ItemsFit after v'
        star_all made after v' walked = picks_fit None (λ entry. true) place.own (λ P all. all) no_outputs w (fits_none made) after v' walked

        pub items_fit : AggsMade w.numbers w.aggs → (part : Role) (items : Items) → items_written items ≡ true → (after : Outputs) (v' : Walk) → items_walk part place items w ≡ done after v' → ItemsFit after v'
        items_fit made part (Listed items) written after v' walked = all_fit items (and_parts _ _ written).1 no_outputs w (fits_none made) after v' walked
        items_fit made role.Exists Star written after v' walked = subst₂ ItemsFit (done_value walked) (done_walk walked) (fits_none made)
        items_fit made role.In Star written after v' walked = star_all made after v' walked
        items_fit made role.DerivedTable Star written after v' walked = star_all made after v' walked
        items_fit made role.Statement Star written after v' walked = star_all made after v' walked

-- ---- that there are items

module _ (place : Place) where
  star_more : (alias : Option (List ℕ)) (entry : Entry) (k : Outputs) (v : Walk) (after : Outputs) (v' : Walk) → star_column place.keys alias k entry v ≡ done after v' → length k.items < length after.items
  unfolding star_column
  star_more alias entry k v after v' walked =
      let rest = (refuse_if-then (length k.items == MOST_ITEMS) (Limit limit.Items MOST_ITEMS)
      (own_column place.keys (qualified alias entry.column) entry >>= (λ met. pure (with_output k entry.column met.kind met.column None))) v after v' walked).1 in
      let turn = in_turn (own_column place.keys (qualified alias entry.column) entry v) (λ met. pure (with_output k entry.column met.kind met.column None)) after v' rest in
      subst (λ (all : Outputs). length k.items < length all.items) (done_value turn.ended)
      (let one = length-append k.items (record { name = entry.column; out = (turn.value).column.number; make = None } ∷ []) in omega arith)

  picks_more : (alias : Option (List ℕ)) (pick : Entry → Bool) (entries : List Entry) (k : Outputs) (v : Walk) (after : Outputs) (v' : Walk)
      → over (λ before entry. if pick entry then star_column place.keys alias before entry else pure before) k entries v ≡ done after v'
      → (length k.items ≤ length after.items) × (list_any pick entries ≡ true → length k.items < length after.items)
  picks_more alias pick [] k v after v' walked = (subst (λ (all : Outputs). length k.items ≤ length all.items) (done_value walked) (le_refl (length k.items)), λ is. absurd (true≢false (sym is)))
  picks_more alias pick (entry ∷ entries) k v after v' walked = by (pick entry) turn.begun (picks_more alias pick entries turn.value turn.middle after v' turn.ended)
    where
      step : Outputs → Entry → Step Outputs
      step before entry = if pick entry then star_column place.keys alias before entry else pure before

      turn : InTurn (step k entry v) (λ more. over step more entries) after v'
      turn = in_turn (step k entry v) (λ more. over step more entries) after v' walked

      by : (b : Bool) → (if b then star_column place.keys alias k entry else pure k) v ≡ done turn.value turn.middle
          → (length (turn.value).items ≤ length after.items) × (list_any pick entries ≡ true → length (turn.value).items < length after.items)
          → (length k.items ≤ length after.items) × ((b || list_any pick entries) ≡ true → length k.items < length after.items)
      by true begun rest =
          let here = star_more alias entry k v turn.value turn.middle begun in
          let there = rest.0 in
          (omega (arith, here, there), λ is. omega (arith, here, there))
      by false begun rest = subst (λ (all : Outputs). (length all.items ≤ length after.items) × (list_any pick entries ≡ true → length all.items < length after.items)) (sym (done_value begun)) rest

  output_more : (k : Outputs) (name : List ℕ) (x : Typed) (bare : Option Numbered) (v : Walk) (after : Outputs) (v' : Walk) → made_output k name x bare v ≡ done after v' → length k.items < length after.items
  output_more k name x (Some column) v after v' walked = subst (λ (all : Outputs). length k.items < length all.items) (done_value walked)
      (let one = length-append k.items (record { name = name; out = column.number; make = None } ∷ []) in omega arith)
  output_more k name x None v after v' walked =
      let turn = in_turn (made_number v) (λ column. pure (with_output k name x.kind column (Some x.scalar))) after v' walked in
      subst (λ (all : Outputs). length k.items < length all.items) (done_value turn.ended)
      (let one = length-append k.items (record { name = name; out = (turn.value).number; make = Some x.scalar } ∷ []) in omega arith)

  made_more : (k : Outputs) (x : SqlExpr) (name : List ℕ) (v : Walk) (after : Outputs) (v' : Walk) → made_item place k x name v ≡ done after v' → length k.items < length after.items
  unfolding made_item
  made_more k x name v after v' walked =
      let rest = (refuse_if-then (length k.items == MOST_ITEMS) (Limit limit.Items MOST_ITEMS) (expr x place >>= (λ t. made_output k name t t.bare)) v after v' walked).1 in
      let turn = in_turn (expr x place v) (λ t. made_output k name t t.bare) after v' rest in
      output_more k name turn.value (turn.value).bare turn.middle after v' turn.ended

  -- an alias that was taken is one of an own column
  abbrev pub TakenHere : Walk → Type 0
  TakenHere v = (alias : List ℕ) → is_among alias v.taken ≡ true → list_any (λ (entry : Entry). bytes_eq alias entry.alias) place.own ≡ true

  alias_more : (alias : List ℕ) (k : Outputs) (v : Walk) (after : Outputs) (v' : Walk) → alias_star place alias k v ≡ done after v' → (length k.items ≤ length after.items) × (TakenHere v → length k.items < length after.items)
  unfolding alias_star
  alias_more alias k v after v' walked = by (is_among alias v.taken) refl walked
    where
      by : (b : Bool) → is_among alias v.taken ≡ b → (if b then over (alias_column place.keys alias) k place.own v else refused (UnknownColumn (alias ++ codes ".*"))) ≡ done after v'
          → (length k.items ≤ length after.items) × (TakenHere v → length k.items < length after.items)
      by true is walked =
          let more = picks_more (Some alias) (λ (entry : Entry). bytes_eq alias entry.alias) place.own k v after v' walked in
          (more.0, λ taken. more.1 (taken alias is))
      by false is walked = refused_not_done walked

  item_more : (i : Item) (k : Outputs) (v : Walk) (after : Outputs) (v' : Walk) → item_walk place k i v ≡ done after v' → (length k.items ≤ length after.items) × (TakenHere v → length k.items < length after.items)
  item_more (item.AliasStar alias) k v after v' walked = alias_more alias k v after v' walked
  item_more (item.Made x name) k v after v' walked = let more = made_more k x (item_name x name (length k.items + 1)) v after v' walked in (omega (arith, more), λ taken. more)

  items_more : (items : List Item) (k : Outputs) (v : Walk) (after : Outputs) (v' : Walk) → over (item_walk place) k items v ≡ done after v' → length k.items ≤ length after.items
  items_more [] k v after v' walked = subst (λ (all : Outputs). length k.items ≤ length all.items) (done_value walked) (le_refl (length k.items))
  items_more (i ∷ items) k v after v' walked =
      let turn = in_turn (item_walk place k i v) (λ more. over (item_walk place) more items) after v' walked in
      le_trans (item_more i k v turn.value turn.middle turn.begun).0 (items_more items turn.value turn.middle after v' turn.ended)

  has_first : (items : List JItem) → 0 < length items → is_some (first_of items) ≡ true
  has_first [] long = absurd (omega (arith, long))
  has_first (i ∷ items) long = refl

  module _ (w : Walk) (taken : TakenHere w) (own : list_any (λ (entry : Entry). true) place.own ≡ true) where
    star_some : (after : Outputs) (v' : Walk) → over (star_column place.keys None) no_outputs place.own w ≡ done after v' → is_some (first_of after.items) ≡ true
    star_some after v' walked = has_first after.items ((picks_more None (λ entry. true) place.own no_outputs w after v' walked).1 own)

    list_some : (items : List Item) → some_items items ≡ true → (after : Outputs) (v' : Walk) → over (item_walk place) no_outputs items w ≡ done after v' → is_some (first_of after.items) ≡ true
    list_some [] some after v' walked = absurd (true≢false (sym some))
    list_some (i ∷ items) some after v' walked =
        let turn = in_turn (item_walk place no_outputs i w) (λ more. over (item_walk place) more items) after v' walked in
        let first = (item_more i no_outputs w turn.value turn.middle turn.begun).1 taken in
        let rest = items_more items turn.value turn.middle after v' turn.ended in
        has_first after.items (omega (arith, first, rest))

    -- a query has output columns, unless it is that of EXISTS
    pub items_some : (part : Role) → part ≢ role.Exists → (items : Items) → items_written items ≡ true → (after : Outputs) (v' : Walk) → items_walk part place items w ≡ done after v' → is_some (first_of after.items) ≡ true
    items_some part other (Listed items) written after v' walked = list_some items (and_parts _ _ written).0 after v' walked
    items_some role.Exists other Star written after v' walked = absurd (other refl)
    items_some role.In other Star written after v' walked = star_some after v' walked
    items_some role.DerivedTable other Star written after v' walked = star_some after v' walked
    items_some role.Statement other Star written after v' walked = star_some after v' walked
