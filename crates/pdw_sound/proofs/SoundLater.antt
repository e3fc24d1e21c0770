-- What has its kind at the numbers of a later moment of the walk has it at those of an earlier one, and what was numbered
-- keeps its number.
use Rattle.std.proofs.Common.{◌≡◌, ℕ, Bool, true, false, List, [], ◌∷◌, ◌++◌, Option, Some, None, position, refl, sym, ap, ◌∙◌, append_assoc, append-nil, true≢false, if◌then◌else◌}
use Rattle.pdw_base.specs.Schema.{Columns}
use Rattle.pdw_base.specs.declared.schema.ColId.{ColId}
use Rattle.pdw_sound.proofs.SoundRelations.{AggsMade, GroupKindsIn, KindAt, KindsAllowed, KindsOf, NearKinds, Ranged, Sees}
use Rattle.pdw_expr.specs.declared.agg.Agg.{Agg}
use Rattle.pdw_names.proofs.JoinMeaningLaws.{range_begins, range_ends}
use Rattle.pdw_names.proofs.Relations.{Allowed, Grows}
use Rattle.pdw_names.proofs.WalkLaws.{all-map, position-append, position-grows}
use Rattle.pdw_walk.specs.Lookup.{Place, Scope}
use Rattle.pdw_walk.specs.Slot.{same_slot}
use Rattle.pdw_walk.specs.Walk.{Walk}
use Rattle.pdw_walk.specs.declared.entry.Entry.{Entry}
use Rattle.pdw_walk.specs.declared.entry.Slot.{Slot}
use Rattle.pdw_walk.specs.declared.entry.Slot.TheVariants.{Made}

pub either : {A : Type 0} (P : A → Type 0) (b : Bool) (x y : A) → P x → P y → P (if b then x else y)
either P true x y first second = first
either P false x y first second = second

-- ---- the numbers of a later moment

pub record Later (w : Walk) (numbers : List Slot) : Type 0 where
  pub more : List Slot
  pub is : numbers ≡ w.numbers ++ more

pub later-itself : (w : Walk) → Later w w.numbers
later-itself w = record { more = []; is = sym (append-nil w.numbers) }

pub later-append : (w : Walk) (more : List Slot) → Later w (w.numbers ++ more)
later-append w more = record { more = more; is = refl }

pub later-grows : {w w' : Walk} {numbers : List Slot} → Grows w w' → Later w' numbers → Later w numbers
later-grows {w} grows later = record {
  more = grows.added ++ later.more;
  is = later.is ∙ (ap (λ ns. ns ++ later.more) grows.numbers ∙ append_assoc w.numbers grows.added later.more);
}

module _ {w : Walk} {numbers : List Slot} (later : Later w numbers) where
  pub later-at : (slot : Slot) (place : ℕ) → position (same_slot slot) w.numbers ≡ Some place → position (same_slot slot) numbers ≡ Some place
  later-at slot place found = ap (position (same_slot slot)) later.is ∙ position-append (same_slot slot) w.numbers later.more place found

  -- ---- kinds

  pub kind-before : (columns : Columns) (entry : Entry) → KindAt numbers columns entry → KindAt w.numbers columns entry
  kind-before columns entry kind place found = kind place (later-at entry.slot place found)

  pub kinds-before : (columns : Columns) (scope : Scope) → KindsOf numbers columns scope → KindsOf w.numbers columns scope
  kinds-before columns = all-map (KindAt numbers columns) (KindAt w.numbers columns) (kind-before columns)

  pub near-before : (columns : Columns) (outers : List Scope) → NearKinds numbers columns outers → NearKinds w.numbers columns outers
  near-before columns [] near = tt
  near-before columns (outer ∷ outers) near = kinds-before columns outer near

  -- ---- ranges

  pub ranged-at : (a b : Walk) (x : ColId) → Ranged w.numbers a b x → Ranged numbers a b x
  ranged-at a b x r = record { slot = r.slot; at = later-at r.slot x.0 r.at; within = r.within }

-- at later numbers, from an earlier moment to a later one
pub ranged-wider : {numbers : List Slot} {a b c d : Walk} → Grows a b → Grows c d → (x : ColId) → Ranged numbers b c x → Ranged numbers a d x
ranged-wider {b = b} {d = d} first last x r = record { slot = r.slot; at = r.at; within = range_begins d first r.slot (range_ends b last r.slot r.within) }

pub all-kinds : (keys : Option (List Slot)) (numbers : List Slot) (columns : Columns) (scope : Scope) → KindsOf numbers columns scope → KindsAllowed keys numbers columns scope
all-kinds keys numbers columns =
    all-map (KindAt numbers columns) (λ (entry : Entry). Allowed keys entry.slot → KindAt numbers columns entry) (λ entry kind allowed. kind)

-- ---- what a place sees

module _ {w w' : Walk} (grows : Grows w w') (place : Place) (unreached : place.reaches ≡ false) (aggs : List Agg) (columns : Columns) where
  groups-before : (keys : Option (List Slot)) → GroupKindsIn w'.numbers place columns aggs keys → GroupKindsIn w.numbers place columns aggs keys
  groups-before None groups = tt
  groups-before (Some keys) groups = record {
    unreached = groups.unreached;
    rows = groups.rows;
    own = kinds-before (later-grows grows (later-itself w')) groups.rows place.own groups.own;
    aggregates = groups.aggregates;
  }

  pub sees-before : (met met' : Bool) → Sees w'.numbers aggs met' place columns → Sees w.numbers aggs met place columns
  sees-before met met' sees = record {
    own = all-map (λ (entry : Entry). Allowed place.keys entry.slot → KindAt w'.numbers columns entry) (λ (entry : Entry). Allowed place.keys entry.slot → KindAt w.numbers columns entry)
        (λ entry kind allowed. kind-before (later-grows grows (later-itself w')) columns entry (kind allowed)) place.own sees.own;
    near = λ reaches _. absurd (true≢false (sym reaches ∙ unreached));
    grouped = groups-before place.keys sees.grouped;
  }

-- each aggregate keeps its number
pub aggs_made-grows : {w w' : Walk} → Grows w w' → (aggs : List Agg) → AggsMade w.numbers aggs → AggsMade w'.numbers aggs
aggs_made-grows {w} {w'} grows =
    all-map (λ (agg : Agg). position (same_slot (Made agg.out.0)) w.numbers ≡ Some agg.out.0) (λ (agg : Agg). position (same_slot (Made agg.out.0)) w'.numbers ≡ Some agg.out.0)
    (λ agg found. position-grows grows (Made agg.out.0) agg.out.0 found)
