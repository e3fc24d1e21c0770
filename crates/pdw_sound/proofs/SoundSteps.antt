-- What is known of kinds after several steps: expressions and tests one after another.
use Rattle.std.proofs.Common.{◌≡◌, ℕ, Bool, true, false, List, [], ◌∷◌, ◌++◌, Option, Some, None, position, refl, subst₂, ◌∙◌}
use Rattle.std.specs.List.{AllByRecursion}
use Rattle.pdw_algebra.specs.Types.{is_typed, scalar_kind}
use Rattle.pdw_base.specs.Schema.{Columns}
use Rattle.pdw_sound.proofs.Added.{adds-same, adds-trans}
use Rattle.pdw_sound.proofs.SoundRelations.{Adds, AggsMade, AggsTyped, ExprKinds, GroupKindsIn, KindAt, KindsAllowed, KindsOf, NearKinds, Sees, TestKinds, Used}
use Rattle.pdw_expr.specs.declared.agg.Agg.{Agg}
use Rattle.pdw_expr.specs.declared.cond.Cond.{Cond}
use Rattle.pdw_names.proofs.Relations.{Allowed, BeginsWith, Grows, Proper, SettledAt}
use Rattle.pdw_names.proofs.WalkLaws.{Chain, Takes, all-map, begins-grows, done-value, done-walk, each-chain, ends, grows-refl, grows-trans, next, position-append, position-grows, refuse_if-then, settled_at-grows, turn}
use Rattle.pdw_walk.specs.Lookup.{Place, Scope}
use Rattle.pdw_walk.specs.Slot.{same_slot}
use Rattle.pdw_walk.specs.Walk.{Step, Walk, ◌>>=◌, ◌>>◌, done, each, pure, refuse_if}
use Rattle.pdw_walk.specs.declared.entry.Entry.{Entry}
use Rattle.pdw_walk.specs.declared.entry.Slot.{Slot}
use Rattle.pdw_walk.specs.declared.entry.Typed.{Typed}
use Rattle.pdw_walk.specs.declared.fault.JudgeFault.{JudgeFault}

-- ---- kinds at more numbers are kinds at fewer

-- each number that the first list has is the second's
abbrev pub Extends : List Slot → List Slot → Type 0
Extends fewer numbers = (slot : Slot) (place : ℕ) → position (same_slot slot) fewer ≡ Some place → position (same_slot slot) numbers ≡ Some place

pub extends-grows : {w w' : Walk} → Grows w w' → Extends w.numbers w'.numbers
extends-grows g slot place found = position-grows g slot place found

pub extends-append : (numbers later : List Slot) → Extends numbers (numbers ++ later)
extends-append numbers later slot place found = position-append (same_slot slot) numbers later place found

module _ (fewer numbers : List Slot) (extends : Extends fewer numbers) (columns : Columns) where
  pub kind_at-fewer : (entry : Entry) → KindAt numbers columns entry → KindAt fewer columns entry
  kind_at-fewer entry kinds place found = kinds place (extends entry.slot place found)

  pub kinds_of-fewer : (scope : Scope) → KindsOf numbers columns scope → KindsOf fewer columns scope
  kinds_of-fewer = all-map (KindAt numbers columns) (KindAt fewer columns) kind_at-fewer

  pub kinds_allowed-fewer : (keys : Option (List Slot)) (scope : Scope) → KindsAllowed keys numbers columns scope → KindsAllowed keys fewer columns scope
  kinds_allowed-fewer keys = all-map (λ entry. Allowed keys entry.slot → KindAt numbers columns entry) (λ entry. Allowed keys entry.slot → KindAt fewer columns entry)
      (λ entry kinds allowed. kind_at-fewer entry (kinds allowed))

  pub near_kinds-fewer : (outers : List Scope) → NearKinds numbers columns outers → NearKinds fewer columns outers
  near_kinds-fewer [] near = tt
  near_kinds-fewer (outer ∷ outers) near = kinds_of-fewer outer near

module _ (fewer numbers : List Slot) (extends : Extends fewer numbers) (place : Place) (columns : Columns) (aggs : List Agg) where
  grouped-fewer : (keys : Option (List Slot)) → GroupKindsIn numbers place columns aggs keys → GroupKindsIn fewer place columns aggs keys
  grouped-fewer None grouped = tt
  grouped-fewer (Some keys) grouped = record {
    unreached = grouped.unreached;
    rows = grouped.rows;
    own = kinds_of-fewer fewer numbers extends grouped.rows place.own grouped.own;
    aggregates = grouped.aggregates;
  }

  pub sees-fewer : (before after : Bool) → (before ≡ true → after ≡ true) → Sees numbers aggs after place columns → Sees fewer aggs before place columns
  sees-fewer before after still sees = record {
    own = kinds_allowed-fewer fewer numbers extends columns place.keys place.own sees.own;
    near = λ reaches met. near_kinds-fewer fewer numbers extends columns place.outers (sees.near reaches (still met));
    grouped = grouped-fewer place.keys sees.grouped;
  }

-- ---- what is known after a step

-- a fact over columns of what was walked, and kinds of the aggregates that were made
pub record Knows {A : Type 0} (fact : A → Columns → Type 0) (place : Place) (w : Walk) (a : A) (w' : Walk) : Type 0 where
  pub grows : Grows w w'
  pub met : w.outer ≡ true → w'.outer ≡ true
  pub typed : (aggs : List Agg) → BeginsWith w'.aggs aggs → (columns : Columns) → Sees w'.numbers aggs w'.outer place columns → fact a columns
  pub aggs : place.reaches ≡ false → (rows : Columns) → KindsOf w'.numbers rows place.own → AggsTyped rows w.aggs → AggsTyped rows w'.aggs
  pub made : AggsMade w.numbers w.aggs → AggsMade w'.numbers w'.aggs
  pub unmet : place.reaches ≡ false → w'.outer ≡ w.outer
  pub references : w'.references ≡ w.references
  pub taken : w'.taken ≡ w.taken
  pub uses : Adds (Used place) w w'

-- an expression has its kind
abbrev pub HasKind : Typed → Columns → Type 0
HasKind x columns = scalar_kind columns x.scalar ≡ Some x.kind

abbrev pub IsTyped : Cond → Columns → Type 0
IsTyped c columns = is_typed columns c ≡ true

-- a fact of each
abbrev pub Every : {A : Type 0} → (A → Columns → Type 0) → List A → Columns → Type 0
Every fact items columns = AllByRecursion (λ a. fact a columns) items

abbrev pub Both : {A B : Type 0} → (A → Columns → Type 0) → (B → Columns → Type 0) → A × B → Columns → Type 0
Both fact other both columns = fact both.0 columns × other both.1 columns

pub knows_expr : {place : Place} {w : Walk} {x : Typed} {w' : Walk} → Knows HasKind place w x w' → ExprKinds place w x w'
knows_expr knows = record {
  typed = knows.typed;
  aggs = knows.aggs;
  made = knows.made;
  unmet = knows.unmet;
  references = knows.references;
  taken = knows.taken;
  uses = knows.uses;
}

pub knows_test : {place : Place} {w : Walk} {c : Cond} {w' : Walk} → Knows IsTyped place w c w' → TestKinds place w c w'
knows_test knows = record {
  typed = knows.typed;
  aggs = knows.aggs;
  made = knows.made;
  unmet = knows.unmet;
  references = knows.references;
  taken = knows.taken;
  uses = knows.uses;
}

module _ {place : Place} where
  -- nothing was walked
  pub knows_pure : {A : Type 0} {fact : A → Columns → Type 0} {a : A} (w : Walk) → ((columns : Columns) → fact a columns) → Knows fact place w a w
  knows_pure w holds = record {
    grows = grows-refl w;
    met = λ h. h;
    typed = λ aggs begins columns sees. holds columns;
    aggs = λ unreached rows kinds before. before;
    made = λ before. before;
    unmet = λ unreached. refl;
    references = refl;
    taken = refl;
    uses = adds-same (Used place) refl;
  }

  -- one after another
  pub knows_both : {A B : Type 0} {fact : A → Columns → Type 0} {other : B → Columns → Type 0} {w w1 w2 : Walk} {a : A} {b : B}
      → Knows fact place w a w1 → Knows other place w1 b w2 → Knows (Both fact other) place w (a, b) w2
  knows_both {w1 = w1} {w2 = w2} one two = record {
    grows = grows-trans one.grows two.grows;
    met = λ h. two.met (one.met h);
    typed = λ aggs begins columns sees. (
      one.typed aggs (begins-grows begins two.grows) columns (sees-fewer w1.numbers w2.numbers (extends-grows two.grows) place columns aggs w1.outer w2.outer two.met sees),
      two.typed aggs begins columns sees,
    );
    aggs = λ unreached rows kinds before.
        two.aggs unreached rows kinds (one.aggs unreached rows (kinds_of-fewer w1.numbers w2.numbers (extends-grows two.grows) rows place.own kinds) before);
    made = λ before. two.made (one.made before);
    unmet = λ unreached. two.unmet unreached ∙ one.unmet unreached;
    references = two.references ∙ one.references;
    taken = two.taken ∙ one.taken;
    uses = adds-trans (Used place) one.uses two.uses;
  }

  -- what is made of it
  pub knows_made : {A B : Type 0} {fact : A → Columns → Type 0} {other : B → Columns → Type 0} {w w' : Walk} {a : A} {b : B}
      → ((columns : Columns) → fact a columns → other b columns) → Knows fact place w a w' → Knows other place w b w'
  knows_made gives knows = record {
    grows = knows.grows;
    met = knows.met;
    typed = λ aggs begins columns sees. gives columns (knows.typed aggs begins columns sees);
    aggs = knows.aggs;
    made = knows.made;
    unmet = knows.unmet;
    references = knows.references;
    taken = knows.taken;
    uses = knows.uses;
  }

-- each walk of a step gives the fact
abbrev pub Knowing : {A : Type 0} → (A → Columns → Type 0) → Place → Step A → Type 0
Knowing {A} fact place step = (w : Walk) (a : A) (w' : Walk) → Proper w.numbers → SettledAt w.numbers place → step w ≡ done a w' → Knows fact place w a w'

-- ---- steps for each

module _ {X A : Type 0} (fact : A → Columns → Type 0) (place : Place) (step : X → Step A) where
  abbrev pub StepKnows : X → Type 0
  StepKnows x = Knowing fact place (step x)

  chain_knows : {xs : List X} {w : Walk} {items : List A} {w' : Walk} → AllByRecursion StepKnows xs → Chain (Takes step) xs w items w' → Proper w.numbers → SettledAt w.numbers place
      → Knows (Every fact) place w items w'
  chain_knows all (ends {w = w}) proper settled = knows_pure w (λ columns. tt)
  chain_knows all (next {x = x} {b = b} {w = w} {v = v} taken rest) proper settled =
      let one = all.0 w b v proper settled taken in
      knows_made (λ columns both. both) (knows_both one (chain_knows all.1 rest ((one.grows).proper proper) (settled_at-grows one.grows place settled)))

  pub each_knows : (xs : List X) → AllByRecursion StepKnows xs → Knowing (Every fact) place (each step xs)
  each_knows xs all w items w' proper settled walked = chain_knows all (each-chain step xs w items w' walked) proper settled

-- ---- steps that go on from what is known

module _ {A : Type 0} (fact : A → Columns → Type 0) (place : Place) where
  -- a step after what is known, which gives a fact of its own
  abbrev pub GoesOn : {B : Type 0} → (A → Step B) → (B → Columns → Type 0) → Type 0
  GoesOn {B} onward other =
      (w w1 : Walk) (a : A) → Proper w1.numbers → SettledAt w1.numbers place → Knows fact place w a w1 → (b : B) (w' : Walk) → onward a w1 ≡ done b w' → Knows other place w b w'

  module _ {B : Type 0} {other : B → Columns → Type 0} where
    pub knowing_then : (step : Step A) (onward : A → Step B) → Knowing fact place step → GoesOn onward other → Knowing other place (step >>= onward)
    knowing_then step onward knowing on w b w' proper settled walked =
        let parts = turn (step w) onward b w' walked in
        let knows = knowing w parts.given parts.between proper settled parts.begins in
        on w parts.between parts.given ((knows.grows).proper proper) (settled_at-grows knows.grows place settled) knows b w' parts.goes_on

    module _ {C : Type 0} (also : C → Columns → Type 0) where
      pub goes_on_then : (step : Step C) (onward : A → C → Step B) → Knowing also place step
          → ((w w1 : Walk) (both : A × C) → Proper w1.numbers → SettledAt w1.numbers place → Knows (Both fact also) place w both w1 → (b : B) (w' : Walk) → onward both.0 both.1 w1 ≡ done b w' → Knows other place w b w')
          → GoesOn (λ a. step >>= onward a) other
      goes_on_then step onward knowing on w w1 a proper settled knows b w' walked =
          let parts = turn (step w1) (onward a) b w' walked in
          let more = knowing w1 parts.given parts.between proper settled parts.begins in
          on w parts.between (a, parts.given) ((more.grows).proper proper) (settled_at-grows more.grows place settled) (knows_both knows more) b w' parts.goes_on

    pub ends_with : (made : A → B) → ((a : A) (columns : Columns) → fact a columns → other (made a) columns) → GoesOn (λ a. pure (made a)) other
    ends_with made gives w w1 a proper settled knows b w' walked =
        subst₂ (λ b w'. Knows other place w b w') (done-value walked) (done-walk walked) (knows_made (gives a) knows)

    pub ends_checked : (made : A → B) (refuses : A → Bool) (fault : JudgeFault) → ((a : A) → refuses a ≡ false → (columns : Columns) → fact a columns → other (made a) columns)
        → GoesOn (λ a. refuse_if (refuses a) fault >> pure (made a)) other
    ends_checked made refuses fault gives w w1 a proper settled knows b w' walked =
        let rest = refuse_if-then (refuses a) fault (pure (made a)) w1 b w' walked in
        subst₂ (λ b w'. Knows other place w b w') (done-value rest.1) (done-walk rest.1) (knows_made (gives a rest.0) knows)
