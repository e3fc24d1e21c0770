-- Groups: the rows of a group by names, and the row that stands for it by numbers.
use Rattle.std.proofs.Common.{◌≡◌, ℕ, suc, ◌≤◌, ◌<◌, ◌==◌, ◌||◌, Bool, true, false, List, [], ◌∷◌, length, map, get_or, Some, None, AllPairs, position, refl, sym, ap, ap₂, ◌∙◌, true≢false, arith, eq-eqb, tests, inl, inr, if◌then◌else◌}
use Rattle.std.proofs.lemmas.Bool.{cases_lt}
use Rattle.std.specs.Bool.{⊤}
use Rattle.std.specs.List.{AllByRecursion, list_any}
use Rattle.std.proofs.lemmas.List.Quantifiers.{position-Some}
use Rattle.pdw_syntax.specs.declared.expr.ColRef.{ColRef}
use Rattle.pdw_base.specs.Schema.{Env}
use Rattle.pdw_base.specs.declared.schema.ColId.{ColId}
use Rattle.pdw_base.specs.declared.value.Value.{Value}
use Rattle.pdw_base.specs.declared.value.Value.TheVariants.{Null}
use Rattle.pdw_expr.specs.Aggregate.{aggregated}
use Rattle.pdw_expr.proofs.EnvLaws.{union-nulls}
use Rattle.pdw_expr.specs.Env.{or_else}
use Rattle.pdw_expr.specs.Parts.{groups}
use Rattle.pdw_expr.specs.Rows.{aggregate_cells, argument, group_row, key_cells}
use Rattle.pdw_expr.specs.Rows as rows
use Rattle.pdw_expr.specs.declared.agg.Agg.{Agg}
use Rattle.pdw_form.proofs.Distinct.{Headed, OnceIs, headed, parts-headed}
use Rattle.pdw_names.proofs.LookupLaws.{column-gives}
use Rattle.pdw_form.proofs.Related as related
use Rattle.pdw_form.proofs.Related.{Related, related-groups, related-map, related-parts, related-same}
use Rattle.pdw_names.proofs.Relations.{Allowed, Every, Fits, Grows, Numbering, Owns, SettledAt, Shows, Stands}
use Rattle.pdw_names.proofs.SideBySide.{shows-again}
use Rattle.pdw_names.proofs.WalkLaws.{Chain, Takes, each-chain, ends, fits-grows, grows-refl, grows-trans, next, position-grows, same_slot-is, settled_at-grows, some-is}
use Rattle.pdw_semantics.specs.Environment.{Environment, Scope, alone, group_of, looked_up}
use Rattle.pdw_semantics.specs.Queries.{all_groups, key_of}
use Rattle.pdw_walk.specs.Lookup.{Place, column, is_key}
use Rattle.pdw_walk.specs.Lookup as lookup
use Rattle.pdw_walk.specs.Conjuncts.{place_in}
use Rattle.pdw_walk.specs.Queries.{group_place, keys_walk}
use Rattle.pdw_walk.specs.Slot.{same_slot}
use Rattle.pdw_walk.specs.Walk.{Walk, done}
use Rattle.pdw_walk.specs.declared.entry.Entry.{Entry}
use Rattle.pdw_walk.specs.declared.entry.Met.{Met}
use Rattle.pdw_walk.specs.declared.entry.Slot.{Slot}

-- ---- GROUP BY

-- a grouping column has its number, and the value there that its name means
pub record KeyOf (own : lookup.Scope) (w : Walk) (ref : ColRef) (met : Met) : Type 0 where
  pub number : position (same_slot met.column.slot) w.numbers ≡ Some met.column.number.0
  pub means : (N : Numbering) → Fits N w.numbers → (env : Environment) (row : Scope) (m : Env) → Shows N m Every own row → looked_up ref (row ∷ env) ≡ m met.column.number

pub record KeysGive (own : lookup.Scope) (refs : List ColRef) (w : Walk) (mets : List Met) (w' : Walk) : Type 0 where
  pub grows : Grows w w'
  pub kept : w'.aggs ≡ w.aggs
  pub keys : Related (KeyOf own w') refs mets

module _ (outers : List lookup.Scope) (own : lookup.Scope) where
  key-later : {w w' : Walk} → Grows w w' → (ref : ColRef) (met : Met) → KeyOf own w ref met → KeyOf own w' ref met
  key-later grows ref met key = record {
    number = position-grows grows met.column.slot met.column.number.0 key.number;
    means = λ N fits env row m shows. key.means N (fits-grows N fits grows) env row m shows;
  }

  keys-chain : {refs : List ColRef} {w : Walk} {mets : List Met} {w' : Walk} → SettledAt w.numbers (place_in outers own) → Chain (Takes (column (place_in outers own))) refs w mets w' → KeysGive own refs w mets w'
  keys-chain settled (ends {w = w}) = record { grows = grows-refl w; kept = refl; keys = related.none }
  keys-chain settled (next {x = ref} {b = met} {w = w} {v = middle} walked chain) =
      let gives = column-gives (place_in outers own) ref w met middle settled walked in
      let rest = keys-chain (settled_at-grows gives.grows (place_in outers own) settled) chain in
      record {
        grows = grows-trans gives.grows rest.grows;
        kept = rest.kept ∙ gives.kept;
        keys = related.more
            (key-later rest.grows ref met (record {
              number = gives.number;
              means = λ N fits env row m shows. gives.means N fits [] (alone env row) m (record { own = shows; near = λ reaches _. absurd (true≢false (sym reaches)); grouped = tt });
            }))
            rest.keys;
      }

  pub keys-give : (refs : List ColRef) (w : Walk) (mets : List Met) (w' : Walk) → SettledAt w.numbers (place_in outers own) → keys_walk (place_in outers own) refs w ≡ done mets w' → KeysGive own refs w mets w'
  unfolding keys_walk
  keys-give refs w mets w' settled e = keys-chain settled (each-chain (column (place_in outers own)) refs w mets w' e)

abbrev pub key_numbers : List Met → List ColId
key_numbers mets = map (λ met. met.column.number) mets

abbrev pub key_slots : List Met → List Slot
key_slots mets = map (λ met. met.column.slot) mets

keys-related : {own : lookup.Scope} {w : Walk} {refs : List ColRef} {mets : List Met} → Related (KeyOf own w) refs mets → Related (λ ref c. (met : Met) × (c ≡ met.column.number) × KeyOf own w ref met) refs (key_numbers mets)
keys-related related.none = related.none
keys-related (related.more {y = met} key rest) = related.more (met, refl, key) (keys-related rest)

-- equal keys by names and by numbers
pub same-keys : {own : lookup.Scope} {w : Walk} {refs : List ColRef} {mets : List Met} → Related (KeyOf own w) refs mets
    → (N : Numbering) → Fits N w.numbers → (env : Environment) (row : Scope) (m : Env) → Shows N m Every own row → key_of refs env row ≡ rows.key_of (key_numbers mets) m
same-keys {own = own} {w = w} {refs = refs} {mets = mets} keys N fits env row m shows =
    related-same (λ ref. looked_up ref (row ∷ env)) m (λ ref c known. (known.2).means N fits env row m shows ∙ ap m (sym known.1)) (keys-related keys)

-- ---- aggregates

pairs-first : {X : Type 0} (R : X → X → Type 0) (x : X) (xs : List X) → AllPairs R (x ∷ xs) → AllByRecursion (R x) xs
pairs-first R x xs pairs = each xs (λ j d within. pairs 0 (suc j) d (omega arith) (omega (arith, within)))
  where
    each : (ys : List _) → ((j : ℕ) (d : _) → j < length ys → R x (get_or ys j d)) → AllByRecursion (R x) ys
    each [] f = tt
    each (y ∷ ys) f = (f 0 y (omega arith), each ys (λ j d within. f (suc j) d (omega (arith, within))))

pairs-rest : {X : Type 0} (R : X → X → Type 0) (x : X) (xs : List X) → AllPairs R (x ∷ xs) → AllPairs R xs
pairs-rest R x xs pairs = λ i j d before within. pairs (suc i) (suc j) d (omega (arith, before)) (omega (arith, within))

below-differs : (a b : ℕ) → a < b → (a == b) ≡ false
below-differs a b below = grind (arith, tests)

later-differs : (a b : ℕ) → b < a → (a == b) ≡ false
later-differs a b below = grind (arith, tests)

or-true : (b : Bool) → (b || true) ≡ true
or-true true = refl
or-true false = refl

module _ (maps : List Env) where
  -- no aggregate has this number
  cells-none : (low : ℕ) (aggs : List Agg) (c : ColId) → AllByRecursion (λ agg. low ≤ agg.out.0) aggs → c.0 < low → aggregate_cells aggs maps c ≡ Null
  cells-none low [] c from below = refl
  cells-none low (agg ∷ aggs) c from below =
      let above = from.0 in
      let other : (agg.out.0 == c.0) ≡ false = later-differs agg.out.0 c.0 (omega (arith, above, below)) in
      ap (λ b. if b then aggregated agg.kind (map (argument agg.arg) maps) else aggregate_cells aggs maps c) other ∙ cells-none low aggs c from.1 below

  cells-skip : (agg : Agg) (aggs : List Agg) (others : List Agg) → AllByRecursion (λ b. agg.out.0 < b.out.0) others
      → AllByRecursion (λ b. aggregate_cells aggs maps b.out ≡ aggregated b.kind (map (argument b.arg) maps)) others
      → AllByRecursion (λ b. aggregate_cells (agg ∷ aggs) maps b.out ≡ aggregated b.kind (map (argument b.arg) maps)) others
  cells-skip agg aggs [] above all = tt
  cells-skip agg aggs (b ∷ others) above all =
      (ap (λ t. if t then aggregated agg.kind (map (argument agg.arg) maps) else aggregate_cells aggs maps b.out) (below-differs agg.out.0 b.out.0 above.0) ∙ all.0, cells-skip agg aggs others above.1 all.1)

  -- each aggregate stands at its number
  cells-each : (aggs : List Agg) → AllPairs (λ a b. a.out.0 < b.out.0) aggs → AllByRecursion (λ agg. aggregate_cells aggs maps agg.out ≡ aggregated agg.kind (map (argument agg.arg) maps)) aggs
  cells-each [] rising = tt
  cells-each (agg ∷ aggs) rising = (
    ap (λ t. if t then aggregated agg.kind (map (argument agg.arg) maps) else aggregate_cells aggs maps agg.out) (eq-eqb agg.out.0 agg.out.0 refl),
    cells-skip agg aggs aggs (pairs-first (λ (a b : Agg). a.out.0 < b.out.0) agg aggs rising) (cells-each aggs (pairs-rest (λ (a b : Agg). a.out.0 < b.out.0) agg aggs rising)),
  )

-- ---- the row that stands for a group

keys-below : {own : lookup.Scope} {w : Walk} {refs : List ColRef} {mets : List Met} → Related (KeyOf own w) refs mets → (c : ColId) → length w.numbers ≤ c.0 → list_any (λ key. key.0 == c.0) (key_numbers mets) ≡ false
keys-below related.none c above = refl
keys-below {w = w} (related.more {y = met} {ys = mets} key rest) c above =
    let at = position-Some (same_slot met.column.slot) w.numbers met.column.number.0 met.column.slot key.number in
    let inside = at.0 in
    ap (λ b. b || list_any (λ key. key.0 == c.0) (key_numbers mets)) (below-differs met.column.number.0 c.0 (omega (arith, inside, above))) ∙ keys-below rest c above

-- the number of a grouping column is among the keys
key-among : {own : lookup.Scope} {w : Walk} {refs : List ColRef} {mets : List Met} → Related (KeyOf own w) refs mets → (N : Numbering) → Fits N w.numbers
    → (slot : Slot) (c : ColId) → is_key (key_slots mets) slot ≡ true → N.number_of slot ≡ Some c → list_any (λ key. key.0 == c.0) (key_numbers mets) ≡ true
key-among related.none N fits slot c is number = absurd (true≢false (sym is))
key-among {w = w} (related.more {y = met} {ys = mets} key rest) N fits slot c is number = by (same_slot slot met.column.slot) refl is (λ later. key-among rest N fits slot c later number)
  where
    by : (b : Bool) → same_slot slot met.column.slot ≡ b → (b || is_key (key_slots mets) slot) ≡ true → (is_key (key_slots mets) slot ≡ true → list_any (λ key. key.0 == c.0) (key_numbers mets) ≡ true)
        → (met.column.number.0 == c.0 || list_any (λ key. key.0 == c.0) (key_numbers mets)) ≡ true
    by true same is later =
        let slot_is = same_slot-is slot met.column.slot same in
        let has : N.number_of met.column.slot ≡ Some met.column.number = fits met.column.slot met.column.number.0 key.number in
        let one : met.column.number ≡ c = some-is (sym has ∙ ap N.number_of (sym slot_is) ∙ number) in
        ap (λ (n : ColId). n.0 == c.0 || list_any (λ key. key.0 == c.0) (key_numbers mets)) one ∙ ap (λ b. b || list_any (λ key. key.0 == c.0) (key_numbers mets)) (eq-eqb c.0 c.0 refl)
    by false same is later = ap (λ b. met.column.number.0 == c.0 || b) (later is) ∙ or-true (met.column.number.0 == c.0)

-- a group that is not empty, unless there are no keys
abbrev pub Filled : List Met → List Scope → Type 0
Filled [] part = ⊤
Filled (met ∷ mets) [] = ⊥
Filled (met ∷ mets) (row ∷ rows) = ⊤

module _ (outers : List lookup.Scope) (own : lookup.Scope) {wk : Walk} {refs : List ColRef} {mets : List Met} (keys : Related (KeyOf own wk) refs mets)
    (N : Numbering) (fits : Fits N wk.numbers) (aggs : List Agg) (low : AllByRecursion (λ agg. length wk.numbers ≤ agg.out.0) aggs) (rising : AllPairs (λ a b. a.out.0 < b.out.0) aggs) where
  key-value : (maps : List Env) (c : ColId) → list_any (λ key. key.0 == c.0) (key_numbers mets) ≡ true → c.0 < length wk.numbers → rows.first_row maps c ≡ group_row (key_numbers mets) aggs maps c
  key-value maps c among below =
      sym (ap₂ (λ b value. or_else (if b then rows.first_row maps c else Null) value) among (cells-none maps (length wk.numbers) aggs c low below) ∙ ap (λ m. m c) (union-nulls (rows.first_row maps)))

  agg-values : (maps : List Env) (some : List Agg) → AllByRecursion (λ agg. length wk.numbers ≤ agg.out.0) some
      → AllByRecursion (λ agg. aggregate_cells aggs maps agg.out ≡ aggregated agg.kind (map (argument agg.arg) maps)) some
      → AllByRecursion (λ agg. group_row (key_numbers mets) aggs maps agg.out ≡ aggregated agg.kind (map (argument agg.arg) maps)) some
  agg-values maps [] above all = tt
  agg-values maps (agg ∷ some) above all =
      (ap (λ b. or_else (if b then rows.first_row maps agg.out else Null) (aggregate_cells aggs maps agg.out)) (keys-below keys agg.out above.0) ∙ all.0, agg-values maps some above.1 all.1)

  group-owns : (part : List Scope) (maps : List Env) → Filled mets part → Related (λ row v. Shows N v Every own row) part maps → Owns N (group_row (key_numbers mets) aggs maps) (Some (key_slots mets)) own part
  group-owns [] maps filled shown = none-owned mets filled
    where
      none-owned : (mets : List Met) → Filled mets [] → (slot : Slot) → Allowed (Some (key_slots mets)) slot → ⊥
      none-owned [] filled slot allowed = true≢false (sym allowed)
      none-owned (met ∷ mets) filled slot allowed = filled
  group-owns (row ∷ part) [] filled shown = elim shown [ ]
  group-owns (row ∷ part) (v ∷ maps) filled (related.more shows rest) =
      shows-again N (λ slot. ⊤) (λ slot c _ allowed number.
      let among = key-among keys N fits slot c allowed number in
      (tt, key-value (v ∷ maps) c among (key-number-below among))) (all-true own) shows
    where
      all-true : (es : List Entry) → AllByRecursion (λ entry. ⊤) es
      all-true [] = tt
      all-true (e ∷ es) = (tt, all-true es)

      key-number-below : {c : ColId} → list_any (λ key. key.0 == c.0) (key_numbers mets) ≡ true → c.0 < length wk.numbers
      key-number-below {c} among = elim (cases_lt c.0 (length wk.numbers)) [
        | inl inside ↦ inside
        | inr past ↦ absurd (true≢false (sym among ∙ keys-below keys c past))
      ]

  pub group-stands : (met : Bool) (env : Environment) (part : List Scope) (maps : List Env) → Filled mets part → Related (λ row v. Shows N v Every own row) part maps
      → Stands N (group_place outers own (Some (key_slots mets))) met (group_of part env) (group_row (key_numbers mets) aggs maps) aggs
  group-stands met env part maps filled shown = record {
    own = group-owns part maps filled shown;
    near = λ reaches _. absurd (true≢false (sym reaches));
    grouped = record { unreached = refl; maps = maps; rows = shown; values = agg-values maps aggs low (cells-each maps aggs rising) };
  }

-- ---- all groups

headed-filled : (met : Met) (mets : List Met) {key : Scope → List Value} {ks : List (List Value)} {ps : List (List Scope)} {Y : Type 0} {S : List Scope → Y → Type 0} {qs : List Y}
    → Related (Headed key) ks ps → Related S ps qs → Related (λ part maps. Filled (met ∷ mets) part × S part maps) ps qs
headed-filled met mets related.none related.none = related.none
headed-filled met mets (related.more (headed row rows is) heads) (related.more s rest) = related.more (tt, s) (headed-filled met mets heads rest)

filled-groups : OnceIs → {own : lookup.Scope} {w : Walk} {refs : List ColRef} {mets : List Met} → Related (KeyOf own w) refs mets
    → {R : Scope → Env → Type 0} (key : Scope → List Value) (key' : Env → List Value) → ((row : Scope) (m : Env) → R row m → key row ≡ key' m) → {named : List Scope} {numbered : List Env} → Related R named numbered
    → Related (λ part maps. Filled mets part × Related R part maps) (groups refs key named) (groups (key_numbers mets) key' numbered)
filled-groups once related.none key key' same rows = related.more (tt, rows) related.none
filled-groups once (related.more {y = met} {ys = mets} first rest) key key' same {named = named} rows = headed-filled met mets (parts-headed once key named) (related-parts key key' same rows)

module _ (once : OnceIs) (outers : List lookup.Scope) (own : lookup.Scope) {wk : Walk} {refs : List ColRef} {mets : List Met} (keys : Related (KeyOf own wk) refs mets)
    (N : Numbering) (fits : Fits N wk.numbers) (aggs : List Agg) where
  -- the aggregates were made after the keys
  pub record After : Type 0 where
    pub low : AllByRecursion (λ agg. length wk.numbers ≤ agg.out.0) aggs
    pub rising : AllPairs (λ a b. a.out.0 < b.out.0) aggs

  pub groups-stand : After → (env : Environment) {named : List Scope} {numbered : List Env} → Related (λ row v. Shows N v Every own row) named numbered
      → Related (λ group m. (met : Bool) → Stands N (group_place outers own (Some (key_slots mets))) met group m aggs) (all_groups true refs env named) (rows.grouped (key_numbers mets) aggs numbered)
  groups-stand after env {named = named} {numbered = numbered} shown =
      related-map (λ part. group_of part env) (group_row (key_numbers mets) aggs)
      (λ part maps at met. group-stands outers own keys N fits aggs after.low after.rising met env part maps at.0 at.1)
      (filled-groups once keys (key_of refs env) (rows.key_of (key_numbers mets)) (λ row m shows. same-keys keys N fits env row m shows) shown)

-- the rows of a query that is not grouped
pub rows-stand : (outers : List lookup.Scope) (own : lookup.Scope) (N : Numbering) (aggs : List Agg) (env : Environment) {named : List Scope} {numbered : List Env} → Related (λ row v. Shows N v Every own row) named numbered
    → Related (λ group m. (met : Bool) → Stands N (group_place outers own None) met group m aggs) (map (alone env) named) numbered
rows-stand outers own N aggs env related.none = related.none
rows-stand outers own N aggs env (related.more shows rest) =
    related.more (λ met. record { own = shows; near = λ reaches _. absurd (true≢false (sym reaches)); grouped = tt }) (rows-stand outers own N aggs env rest)
