-- The steps of the walk: what each adds, and what steps in turn add.
use Rattle.std.proofs.Common.{◌≡◌, ◌⊎◌, ℕ, zero, suc, ◌+◌, ◌-◌, ◌≤◌, ◌<◌, ◌==◌, ◌&&◌, Bool, true, false, not, cond, List, [], ◌∷◌, ◌++◌, length, Option, Some, None, AllPairs, position, get_or, slice_index_or, get_or-append-add, refl, sym, ap, ap₂, subst, ◌∙◌, inl, inr, true≢false, append_assoc, append-nil, le_trans, le_refl, length-append, eqb-true, eq-eqb, ltb, lt-ltb, arith, if◌then◌else◌}
use Rattle.std.specs.List.{AllByRecursion, position_or_len}
use Rattle.std.proofs.lemmas.Bool.{and_parts, cases_lt}
use Rattle.std.proofs.lemmas.Grind.{common_steps}
use Rattle.std.proofs.lemmas.List.{get_or_append_left, get_or_at, get_or_past}
use Rattle.std.proofs.lemmas.List.Quantifiers.{position-Some}
use Rattle.std.proofs.lemmas.List.Sums.{position_or_len_is, fails_before_first}
use Rattle.pdw_base.specs.declared.schema.ColId.{ColId}
use Rattle.pdw_expr.specs.declared.agg.Agg.{Agg}
use Rattle.pdw_form.proofs.Related.{Related}
use Rattle.pdw_form.proofs.Related as related
use Rattle.pdw_names.proofs.Relations.{BeginsWith, Exact, Fits, Grows, MadeFrom, Numbering, Proper, Settled, SettledAll, SettledAt, SettledIn}
use Rattle.pdw_walk.specs.Lookup.{Place, Scope}
use Rattle.pdw_walk.specs.Slot.{same_slot}
use Rattle.pdw_walk.specs.Walk.{Outcome, Step, Walk, add_aggregate, and_then, col_id, count_query, count_reference, done, each, forget_outer, gathering, is_among, made_number, meet_outer, next_number, number_at, number_of, over, pure, refuse_if, refused, take_alias, with_aggs, with_numbers, with_outer, with_queries, with_references, with_taken}
use Rattle.pdw_walk.specs.declared.entry.Entry.{Entry}
use Rattle.pdw_walk.specs.declared.entry.Numbered.{Numbered}
use Rattle.pdw_walk.specs.declared.entry.Slot.{Slot}
use Rattle.pdw_walk.specs.declared.entry.Slot.TheVariants.{Base, Made}
use Rattle.pdw_walk.specs.declared.fault.JudgeFault.{JudgeFault}

-- ---- outcomes

abbrev value_or : {A : Type 0} → A → Outcome A → A
value_or other (done a w) = a
value_or other (refused fault) = other

abbrev walk_or : {A : Type 0} → Walk → Outcome A → Walk
walk_or other (done a w) = w
walk_or other (refused fault) = other

abbrev is_done : {A : Type 0} → Outcome A → Bool
is_done (done a w) = true
is_done (refused fault) = false

module _ {A : Type 0} where
  pub done-value : {a b : A} {w v : Walk} → done a w ≡ done b v → a ≡ b
  done-value {a = a} same = ap (value_or a) same

  pub done-walk : {a b : A} {w v : Walk} → done a w ≡ done b v → w ≡ v
  done-walk {w = w} same = ap (walk_or w) same

  pub refused-done : {fault : JudgeFault} {a : A} {w : Walk} {B : Type 0} → refused fault ≡ done a w → B
  refused-done same = absurd (true≢false (sym (ap is_done same)))

-- ---- one step and then another

pub record Turn {A B : Type 0} (first : Outcome A) (next : A → Step B) (b : B) (w' : Walk) : Type 0 where
  pub given : A
  pub between : Walk
  pub begins : first ≡ done given between
  pub goes_on : next given between ≡ done b w'

pub turn : {A B : Type 0} (first : Outcome A) (next : A → Step B) (b : B) (w' : Walk) → and_then first next ≡ done b w' → Turn first next b w'
turn (done a w) next b w' same = record { given = a; between = w; begins = refl; goes_on = same }
turn (refused fault) next b w' same = refused-done same

-- the same where the rest only makes a value of what the step gives
pub record Made_of {A B : Type 0} (first : Outcome A) (f : A → B) (b : B) (w' : Walk) : Type 0 where
  pub given : A
  pub begins : first ≡ done given w'
  pub makes : b ≡ f given

pub mapped : {A B : Type 0} (first : Outcome A) (f : A → B) (b : B) (w' : Walk) → and_then first (λ a. pure (f a)) ≡ done b w' → Made_of first f b w'
mapped (done a w) f b w' same = record { given = a; begins = ap (done a) (done-walk same); makes = sym (done-value same) }
mapped (refused fault) f b w' same = refused-done same

pub unless_refused : {A : Type 0} (b : Bool) (fault : JudgeFault) (o : Outcome A) (a : A) (w' : Walk) → (if b then refused fault else o) ≡ done a w' → (b ≡ false) × (o ≡ done a w')
unless_refused true fault o a w' same = refused-done same
unless_refused false fault o a w' same = (refl, same)

pub refuse_if-done : (b : Bool) (fault : JudgeFault) (w : Walk) (u : Unit {0}) (w' : Walk) → refuse_if b fault w ≡ done u w' → (b ≡ false) × (w ≡ w')
refuse_if-done true fault w u w' same = refused-done same
refuse_if-done false fault w u w' same = (refl, done-walk same)

-- a test, and then the rest from the same walk
pub refuse_if-then : {B : Type 0} (b : Bool) (fault : JudgeFault) (next : Step B) (w : Walk) (a : B) (w' : Walk)
    → and_then (refuse_if b fault w) (λ _. next) ≡ done a w' → (b ≡ false) × (next w ≡ done a w')
refuse_if-then true fault next w a w' same = refused-done same
refuse_if-then false fault next w a w' same = (refl, same)

pub not-false : (b : Bool) → not b ≡ false → b ≡ true
not-false true same = refl
not-false false same = sym same

-- ---- slots

pub same_slot-is : (a b : Slot) → same_slot a b ≡ true → a ≡ b
same_slot-is (Base r c) (Base r' c') same =
    let both = and_parts (r == r') (c == c') same in
    ap₂ Base (eqb-true r r' both.0) (eqb-true c c' both.1)
same_slot-is (Made n) (Made m) same = ap Made (eqb-true n m same)
same_slot-is (Base r c) (Made m) same = absurd (true≢false (sym same))
same_slot-is (Made n) (Base r c) same = absurd (true≢false (sym same))

pub same_slot-itself : (a : Slot) → same_slot a a ≡ true
same_slot-itself (Base r c) = ap₂ (λ x y. x && y) (eq-eqb r r refl) (eq-eqb c c refl)
same_slot-itself (Made n) = eq-eqb n n refl

-- ---- places in lists

module _ {X : Type 0} (p : X → Bool) where
  pub position-is : (xs : List X) (i : ℕ) (d : X) → i < length xs → p (get_or xs i d) ≡ true → ((k : ℕ) → k < i → p (get_or xs k d) ≡ false) → position p xs ≡ Some i
  position-is xs i d within passes fails =
      let first = position_or_len_is p xs i d (omega arith) fails (λ h. passes) in
      grind (arith, common_steps)

  pub position-none : (xs : List X) → position p xs ≡ None → (k : ℕ) (d : X) → k < length xs → p (get_or xs k d) ≡ false
  position-none xs none k d within = elim (cases_lt (position_or_len p xs) (length xs)) [
    | inl inside ↦ let found : position p xs ≡ Some (position_or_len p xs) = grind (arith, common_steps) in some_none found none
    | inr past ↦ fails_before_first p xs k d (omega arith)
  ]
    where
      some_none : {i : ℕ} {B : Type 0} → position p xs ≡ Some i → position p xs ≡ None → B
      some_none a b = absurd (let h : Some _ ≡ None = sym a ∙ b in cc)

  pub position-append : (xs ys : List X) (i : ℕ) → position p xs ≡ Some i → position p (xs ++ ys) ≡ Some i
  position-append [] ys i found = absurd cc
  position-append (x ∷ xs) ys i found =
      let at = position-Some p (x ∷ xs) i x found in
      position-is ((x ∷ xs) ++ ys) i x
      (let long = length-append (x ∷ xs) ys in let h = at.0 in omega arith)
      (ap p (get_or_append_left (x ∷ xs) ys x i at.0) ∙ at.1)
      (λ k below. let h = at.0 in ap p (get_or_append_left (x ∷ xs) ys x k (omega arith)) ∙ at.2 k below)

  pub position-push : (xs : List X) (y : X) → position p xs ≡ None → p y ≡ true → position p (xs ++ y ∷ []) ≡ Some (length xs)
  position-push xs y none passes =
      position-is (xs ++ y ∷ []) (length xs) y
      (let long = length-append xs (y ∷ []) in omega arith)
      (ap p (get_or_at xs y [] y (length xs) refl) ∙ passes)
      (λ k below. ap p (get_or_append_left xs (y ∷ []) y k below) ∙ position-none xs none k y below)

-- ---- lists by recursion and by places

pub all-map : {X : Type 0} (P Q : X → Type 0) → ((x : X) → P x → Q x) → (xs : List X) → AllByRecursion P xs → AllByRecursion Q xs
all-map P Q f [] all = tt
all-map P Q f (x ∷ xs) all = (f x all.0, all-map P Q f xs all.1)

pub all-append : {X : Type 0} (P : X → Type 0) (xs ys : List X) → AllByRecursion P xs → AllByRecursion P ys → AllByRecursion P (xs ++ ys)
all-append P [] ys first second = second
all-append P (x ∷ xs) ys first second = (first.0, all-append P xs ys first.1 second)

pub all-left : {X : Type 0} (P : X → Type 0) (xs ys : List X) → AllByRecursion P (xs ++ ys) → AllByRecursion P xs
all-left P [] ys all = tt
all-left P (x ∷ xs) ys all = (all.0, all-left P xs ys all.1)

pub all-right : {X : Type 0} (P : X → Type 0) (xs ys : List X) → AllByRecursion P (xs ++ ys) → AllByRecursion P ys
all-right P [] ys all = all
all-right P (x ∷ xs) ys all = all-right P xs ys all.1

pub all-at : {X : Type 0} (P : X → Type 0) (xs : List X) → AllByRecursion P xs → (k : ℕ) (d : X) → k < length xs → P (get_or xs k d)
all-at P [] all k d within = absurd (omega arith)
all-at P (x ∷ xs) all zero d within = all.0
all-at P (x ∷ xs) all (suc k) d within = all-at P xs all.1 k d (omega arith)

pub pairs-append : {X : Type 0} (R : X → X → Type 0) (xs ys : List X) → AllPairs R xs → AllPairs R ys
    → ((i j : ℕ) (d : X) → i < length xs → j < length ys → R (get_or xs i d) (get_or ys j d)) → AllPairs R (xs ++ ys)
pairs-append R xs ys left right across i j d before within =
    let long = length-append xs ys in
    elim (cases_lt j (length xs)) [
      | inl inside ↦
          let low : get_or (xs ++ ys) i d ≡ get_or xs i d = get_or_append_left xs ys d i (omega arith) in
          let high : get_or (xs ++ ys) j d ≡ get_or xs j d = get_or_append_left xs ys d j inside in
          rw (low, high) (left i j d before inside)
      | inr past ↦
          let j' = j - length xs in
          let is : length xs + j' ≡ j = omega arith in
          let high : get_or (xs ++ ys) j d ≡ get_or ys j' d = ap (λ k. get_or (xs ++ ys) k d) (sym is) ∙ get_or-append-add xs ys j' d in
          elim (cases_lt i (length xs)) [
            | inl inside ↦
                let low : get_or (xs ++ ys) i d ≡ get_or xs i d = get_or_append_left xs ys d i inside in
                rw (low, high) (across i j' d inside (omega arith))
            | inr beyond ↦
                let i' = i - length xs in
                let same : length xs + i' ≡ i = omega arith in
                let low : get_or (xs ++ ys) i d ≡ get_or ys i' d = ap (λ k. get_or (xs ++ ys) k d) (sym same) ∙ get_or-append-add xs ys i' d in
                rw (low, high) (right i' j' d (omega arith) (omega arith))
          ]
    ]

-- ---- what a walk adds

pub made-none : (n : ℕ) → MadeFrom n n []
made-none n = record { low = tt; high = tt; rising = λ i j d before within. absurd (omega arith) }

pub made-append : (a b c : ℕ) (xs ys : List Agg) → a ≤ b → b ≤ c → MadeFrom a b xs → MadeFrom b c ys → MadeFrom a c (xs ++ ys)
made-append a b c xs ys ab bc first second = record {
  low = all-append (λ (agg : Agg). a ≤ agg.out.0) xs ys first.low (all-map (λ (agg : Agg). b ≤ agg.out.0) (λ (agg : Agg). a ≤ agg.out.0) (λ agg h. omega arith) ys second.low);
  high = all-append (λ (agg : Agg). agg.out.0 < c) xs ys (all-map (λ (agg : Agg). agg.out.0 < b) (λ (agg : Agg). agg.out.0 < c) (λ agg h. omega arith) xs first.high) second.high;
  rising = pairs-append (λ (a b : Agg). a.out.0 < b.out.0) xs ys first.rising second.rising
      (λ i j d inside within.
      let left : (get_or xs i d).out.0 < b = all-at (λ (agg : Agg). agg.out.0 < b) xs first.high i d inside in
      let right : b ≤ (get_or ys j d).out.0 = all-at (λ (agg : Agg). b ≤ agg.out.0) ys second.low j d within in
      omega arith);
}

pub grows-length : {w w' : Walk} → Grows w w' → length w.numbers ≤ length w'.numbers
grows-length {w} {w'} g = let long = length-append w.numbers g.added in let is = ap length g.numbers in omega arith

-- a step that leaves numbers and aggregates as they are
pub grows-same : {w w' : Walk} → w'.numbers ≡ w.numbers → w.references ≤ w'.references → w'.aggs ≡ w.aggs → Grows w w'
grows-same {w} {w'} numbers references aggs = record {
  added = [];
  numbers = numbers ∙ sym (append-nil w.numbers);
  references = references;
  proper = λ p. subst Proper (sym numbers) p;
  new_aggs = [];
  aggs = aggs ∙ sym (append-nil w.aggs);
  made = subst (λ ns. MadeFrom (length w.numbers) (length ns) []) (sym numbers) (made-none (length w.numbers));
}

pub grows-refl : (w : Walk) → Grows w w
grows-refl w = grows-same refl (le_refl w.references) refl

pub grows-is : {w w' : Walk} → w ≡ w' → Grows w w'
grows-is {w} same = subst (Grows w) same (grows-refl w)

pub grows-trans : {a b c : Walk} → Grows a b → Grows b c → Grows a c
grows-trans {a} {b} {c} first second = record {
  added = first.added ++ second.added;
  numbers = second.numbers ∙ (ap (λ ns. ns ++ second.added) first.numbers ∙ append_assoc a.numbers first.added second.added);
  references = le_trans first.references second.references;
  proper = λ p. second.proper (first.proper p);
  new_aggs = first.new_aggs ++ second.new_aggs;
  aggs = second.aggs ∙ (ap (λ ns. ns ++ second.new_aggs) first.aggs ∙ append_assoc a.aggs first.new_aggs second.new_aggs);
  made = made-append (length a.numbers) (length b.numbers) (length c.numbers) first.new_aggs second.new_aggs (grows-length first) (grows-length second) first.made second.made;
}

-- ---- what goes down to earlier walks, and what goes up to later ones

pub position-grows : {w w' : Walk} → Grows w w' → (slot : Slot) (place : ℕ) → position (same_slot slot) w.numbers ≡ Some place → position (same_slot slot) w'.numbers ≡ Some place
position-grows {w} {w'} g slot place found = ap (position (same_slot slot)) g.numbers ∙ position-append (same_slot slot) w.numbers g.added place found

pub fits-append : (N : Numbering) (numbers later : List Slot) → Fits N (numbers ++ later) → Fits N numbers
fits-append N numbers later fits slot place found = fits slot place (position-append (same_slot slot) numbers later place found)

pub fits-grows : (N : Numbering) {w w' : Walk} → Fits N w'.numbers → Grows w w' → Fits N w.numbers
fits-grows N fits g slot place found = fits slot place (position-grows g slot place found)

pub begins-append : (first more all : List Agg) → BeginsWith (first ++ more) all → BeginsWith first all
begins-append first more all begins = (more ++ begins.0, begins.1 ∙ append_assoc first more begins.0)

pub begins-grows : {w w' : Walk} {all : List Agg} → BeginsWith w'.aggs all → Grows w w' → BeginsWith w.aggs all
begins-grows {w} {w'} {all} begins g = (g.new_aggs ++ begins.0, begins.1 ∙ (ap (λ first. first ++ begins.0) g.aggs ∙ append_assoc w.aggs g.new_aggs begins.0))

pub begins-itself : (aggs : List Agg) → BeginsWith aggs aggs
begins-itself aggs = ([], sym (append-nil aggs))

pub settled-append : (numbers later : List Slot) (slot : Slot) → Settled numbers slot → Settled (numbers ++ later) slot
settled-append numbers later (Base reference column) settled = tt
settled-append numbers later (Made n) settled = position-append (same_slot (Made n)) numbers later n settled

pub settled-grows : {w w' : Walk} → Grows w w' → (slot : Slot) → Settled w.numbers slot → Settled w'.numbers slot
settled-grows {w} {w'} g slot settled = subst (λ ns. Settled ns slot) (sym g.numbers) (settled-append w.numbers g.added slot settled)

pub settled_in-grows : {w w' : Walk} → Grows w w' → (scope : Scope) → SettledIn w.numbers scope → SettledIn w'.numbers scope
settled_in-grows {w} {w'} g = all-map (λ (entry : Entry). Settled w.numbers entry.slot) (λ (entry : Entry). Settled w'.numbers entry.slot) (λ entry. settled-grows g entry.slot)

pub settled_all-grows : {w w' : Walk} → Grows w w' → (scopes : List Scope) → SettledAll w.numbers scopes → SettledAll w'.numbers scopes
settled_all-grows {w} {w'} g = all-map (SettledIn w.numbers) (SettledIn w'.numbers) (settled_in-grows g)

pub settled_at-grows : {w w' : Walk} → Grows w w' → (place : Place) → SettledAt w.numbers place → SettledAt w'.numbers place
settled_at-grows g place settled = (settled_in-grows g place.own settled.0, settled_all-grows g place.outers settled.1)

-- ---- proper numbers

pub some-is : {X : Type 0} {x y : X} → Some x ≡ Some y → x ≡ y
some-is {X} {x} {y} same = ap get same
  where
    get : Option X → X
    get (Some z) = z
    get None = x

pub none-some : {X : Type 0} {x : X} {B : Type 0} → None ≡ Some x → B
none-some same = absurd cc

-- one more, which stands not among them
pub proper-push : (numbers : List Slot) (slot : Slot) → position (same_slot slot) numbers ≡ None → ((n : ℕ) → slot ≡ Made n → n ≡ length numbers) → Proper numbers → Proper (numbers ++ slot ∷ [])
proper-push numbers slot fresh own p = record { once = once; made = made }
  where
    long : length (numbers ++ slot ∷ []) ≡ length numbers + 1
    long = length-append numbers (slot ∷ [])

    once : (i : ℕ) → i < length (numbers ++ slot ∷ []) → position (same_slot (slice_index_or (numbers ++ slot ∷ []) i (Made i))) (numbers ++ slot ∷ []) ≡ Some i
    once i within = elim (cases_lt i (length numbers)) [
      | inl inside ↦
          ap (λ s. position (same_slot s) (numbers ++ slot ∷ [])) (get_or_append_left numbers (slot ∷ []) (Made i) i inside)
          ∙ position-append (same_slot (get_or numbers i (Made i))) numbers (slot ∷ []) i (p.once i inside)
      | inr past ↦
          let last : length numbers ≡ i = let h = long in omega arith in
          ap (λ s. position (same_slot s) (numbers ++ slot ∷ [])) (get_or_at numbers slot [] (Made i) i last)
          ∙ position-push (same_slot slot) numbers slot fresh (same_slot-itself slot)
          ∙ ap Some last
    ]

    made : (n place : ℕ) → position (same_slot (Made n)) (numbers ++ slot ∷ []) ≡ Some place → place ≡ n
    made n place found = by (position (same_slot (Made n)) numbers) refl
      where
        by : (o : Option ℕ) → position (same_slot (Made n)) numbers ≡ o → place ≡ n
        by (Some before) is =
            let at : before ≡ place = some-is (sym (position-append (same_slot (Made n)) numbers (slot ∷ []) before is) ∙ found) in
            sym at ∙ p.made n before is
        by None is =
            let at = position-Some (same_slot (Made n)) (numbers ++ slot ∷ []) place (Made n) found in
            elim (cases_lt place (length numbers)) [
              | inl inside ↦
                  let here : same_slot (Made n) (get_or numbers place (Made n)) ≡ true = ap (same_slot (Made n)) (sym (get_or_append_left numbers (slot ∷ []) (Made n) place inside)) ∙ at.1 in
                  absurd (true≢false (sym here ∙ position-none (same_slot (Made n)) numbers is place (Made n) inside))
              | inr past ↦
                  let last : length numbers ≡ place = let h = long in let k = at.0 in omega arith in
                  let here : same_slot (Made n) slot ≡ true = ap (same_slot (Made n)) (sym (get_or_at numbers slot [] (Made n) place last)) ∙ at.1 in
                  sym last ∙ sym (own n (sym (same_slot-is (Made n) slot here)))
            ]

-- the next number stands not among proper ones
pub next-fresh : (numbers : List Slot) → Proper numbers → position (same_slot (Made (length numbers))) numbers ≡ None
next-fresh numbers p = by (position (same_slot (Made (length numbers))) numbers) refl
  where
    by : (o : Option ℕ) → position (same_slot (Made (length numbers))) numbers ≡ o → position (same_slot (Made (length numbers))) numbers ≡ None
    by None is = is
    by (Some place) is =
        let at = position-Some (same_slot (Made (length numbers))) numbers place (Made 0) is in
        let same = p.made (length numbers) place is in
        absurd (let h = at.0 in omega arith)

made-is : {n m : ℕ} → Made n ≡ Made m → n ≡ m
made-is {n} same = ap get same
  where
    get : Slot → ℕ
    get (Made k) = k
    get (Base r c) = n

-- a slot that stands not among the numbers gets the next one
pub grows-push : (w : Walk) (slot : Slot) → (Proper w.numbers → (position (same_slot slot) w.numbers ≡ None) × ((n : ℕ) → slot ≡ Made n → n ≡ length w.numbers))
    → Grows w (with_numbers (w.numbers ++ slot ∷ []) w)
grows-push w slot fresh = record {
  added = slot ∷ [];
  numbers = refl;
  references = le_refl w.references;
  proper = λ p. proper-push w.numbers slot (fresh p).0 (fresh p).1 p;
  new_aggs = [];
  aggs = sym (append-nil w.aggs);
  made = record { low = tt; high = tt; rising = λ i j d before within. absurd (omega arith) };
}

-- ---- steps

pub next_number-done : (slot : Slot) (w : Walk) (c : ColId) (w' : Walk) → next_number slot w ≡ done c w' → (col_id (length w.numbers) ≡ c) × (with_numbers (w.numbers ++ slot ∷ []) w ≡ w')
next_number-done slot w c w' same = let go = (unless_refused _ _ _ c w' same).1 in (done-value go, done-walk go)

-- a step that gives a number to a slot
pub record Numbers (slot : Slot) (w : Walk) (c : ColId) (w' : Walk) : Type 0 where
  pub grows : Grows w w'
  pub number : position (same_slot slot) w'.numbers ≡ Some c.0
  pub only : with_numbers w'.numbers w ≡ w'

pub number_of-done : (slot : Slot) (w : Walk) (c : ColId) (w' : Walk) → Settled w.numbers slot → number_of slot w ≡ done c w' → Numbers slot w c w'
unfolding number_of
number_of-done slot w c w' settled same = by (position (same_slot slot) w.numbers) refl same
  where
    by : (o : Option ℕ) → position (same_slot slot) w.numbers ≡ o → number_at slot o w ≡ done c w' → Numbers slot w c w'
    by (Some place) found same =
        let walk = done-walk same in
        record {
          grows = grows-is walk;
          number = ap (λ (v : Walk). position (same_slot slot) v.numbers) (sym walk) ∙ (found ∙ ap (λ (k : ColId). Some k.0) (done-value same));
          only = ap (λ (v : Walk). with_numbers v.numbers w) (sym walk) ∙ walk;
        }
    by None fresh same =
        let next = next_number-done slot w c w' same in
        record {
          grows = subst (Grows w) next.1 (grows-push w slot (λ p. (fresh, λ n is. none-some (sym fresh ∙ ap (λ s. position (same_slot s) w.numbers) is ∙ subst (Settled w.numbers) is settled))));
          number = ap (λ (v : Walk). position (same_slot slot) v.numbers) (sym next.1) ∙ (position-push (same_slot slot) w.numbers slot fresh (same_slot-itself slot) ∙ ap (λ (k : ColId). Some k.0) next.0);
          only = ap (λ (v : Walk). with_numbers v.numbers w) (sym next.1) ∙ next.1;
        }

pub record MakesNumber (w : Walk) (column : Numbered) (w' : Walk) : Type 0 where
  pub grows : Grows w w'
  pub walk : with_numbers (w.numbers ++ Made (length w.numbers) ∷ []) w ≡ w'
  pub slot : column.slot ≡ Made (length w.numbers)
  pub number : column.number ≡ col_id (length w.numbers)
  pub stands : Proper w.numbers → position (same_slot (Made (length w.numbers))) w'.numbers ≡ Some (length w.numbers)

pub made_number-done : (w : Walk) (column : Numbered) (w' : Walk) → made_number w ≡ done column w' → MakesNumber w column w'
unfolding made_number
made_number-done w column w' same =
    let made = mapped (next_number (Made (length w.numbers)) w) _ column w' same in
    let next = next_number-done (Made (length w.numbers)) w made.given w' made.begins in
    let slot = Made (length w.numbers) in
    record {
      grows = subst (Grows w) next.1 (grows-push w slot (λ p. (next-fresh w.numbers p, λ n is. made-is (sym is))));
      walk = next.1;
      slot = ap (λ (n : Numbered). n.slot) made.makes;
      number = ap (λ (n : Numbered). n.number) made.makes ∙ sym next.0;
      stands = λ p. ap (λ (v : Walk). position (same_slot slot) v.numbers) (sym next.1) ∙ position-push (same_slot slot) w.numbers slot (next-fresh w.numbers p) (same_slot-itself slot);
    }

pub count_query-done : (w : Walk) (u : Unit {0}) (w' : Walk) → count_query w ≡ done u w' → with_queries (w.queries + 1) w ≡ w'
unfolding count_query
count_query-done w u w' same = done-walk (unless_refused _ _ _ u w' same).1

pub count_query-grows : (w : Walk) (u : Unit {0}) (w' : Walk) → count_query w ≡ done u w' → Grows w w'
count_query-grows w u w' same = subst (Grows w) (count_query-done w u w' same) (grows-same refl (le_refl w.references) refl)

pub count_reference-done : (w : Walk) (reference : ℕ) (w' : Walk) → count_reference w ≡ done reference w' → (w.references ≡ reference) × (with_references (w.references + 1) w ≡ w')
unfolding count_reference
count_reference-done w reference w' same = let go = (unless_refused _ _ _ reference w' same).1 in (done-value go, done-walk go)

pub count_reference-grows : (w : Walk) (reference : ℕ) (w' : Walk) → count_reference w ≡ done reference w' → Grows w w'
count_reference-grows w reference w' same = subst (Grows w) (count_reference-done w reference w' same).1 (grows-same refl (omega arith) refl)

pub take_alias-done : (alias : List ℕ) (w : Walk) (u : Unit {0}) (w' : Walk) → take_alias alias w ≡ done u w' → (is_among alias w.taken ≡ false) × (with_taken (w.taken ++ alias ∷ []) w ≡ w')
unfolding take_alias
take_alias-done alias w u w' same = let go = unless_refused _ _ _ u w' same in (go.0, done-walk go.1)

pub take_alias-grows : (alias : List ℕ) (w : Walk) (u : Unit {0}) (w' : Walk) → take_alias alias w ≡ done u w' → Grows w w'
take_alias-grows alias w u w' same = subst (Grows w) (take_alias-done alias w u w' same).1 (grows-same refl (le_refl w.references) refl)

pub add_aggregate-done : (agg : Agg) (w : Walk) (u : Unit {0}) (w' : Walk) → add_aggregate agg w ≡ done u w' → with_aggs (w.aggs ++ agg ∷ []) w ≡ w'
unfolding add_aggregate
add_aggregate-done agg w u w' same = done-walk same

pub meet_outer-done : (w : Walk) (u : Unit {0}) (w' : Walk) → meet_outer w ≡ done u w' → with_outer true w ≡ w'
unfolding meet_outer
meet_outer-done w u w' same = done-walk same

pub meet_outer-grows : (w : Walk) (u : Unit {0}) (w' : Walk) → meet_outer w ≡ done u w' → Grows w w'
meet_outer-grows w u w' same = subst (Grows w) (meet_outer-done w u w' same) (grows-same refl (le_refl w.references) refl)

pub forget_outer-done : (w : Walk) (u : Unit {0}) (w' : Walk) → forget_outer w ≡ done u w' → with_outer false w ≡ w'
unfolding forget_outer
forget_outer-done w u w' same = done-walk same

pub forget_outer-grows : (w : Walk) (u : Unit {0}) (w' : Walk) → forget_outer w ≡ done u w' → Grows w w'
forget_outer-grows w u w' same = subst (Grows w) (forget_outer-done w u w' same) (grows-same refl (le_refl w.references) refl)

-- ---- loops

module _ {A B : Type 0} (step : B → A → Step B) (I : List A → B → Walk → Type 0)
    (one : (before : List A) (b : B) (x : A) (w : Walk) (b' : B) (w' : Walk) → I before b w → step b x w ≡ done b' w' → I (before ++ x ∷ []) b' w') where
  -- what each step keeps, the loop keeps
  pub over-law : (before : List A) (b : B) (w : Walk) (xs : List A) (b' : B) (w' : Walk) → I before b w → over step b xs w ≡ done b' w' → I (before ++ xs) b' w'
  over-law before b w [] b' w' holds same =
      subst (λ all. I all b' w') (sym (append-nil before)) (subst (λ v. I before b' v) (done-walk same) (subst (λ c. I before c w) (done-value same) holds))
  over-law before b w (x ∷ xs) b' w' holds same =
      let t = turn (step b x w) (λ more. over step more xs) b' w' same in
      subst (λ all. I all b' w') (append_assoc before (x ∷ []) xs)
      (over-law (before ++ x ∷ []) t.given t.between xs b' w' (one before b x w t.given t.between holds t.begins) t.goes_on)

-- steps in turn, with what each gives
pub data Chain {A B : Type 0} (P : A → Walk → B → Walk → Type 0) : List A → Walk → List B → Walk → Type 0 where
  ends : {w : Walk} → Chain P [] w [] w
  next : {x : A} {xs : List A} {b : B} {bs : List B} {w v w' : Walk} → P x w b v → Chain P xs v bs w' → Chain P (x ∷ xs) w (b ∷ bs) w'

abbrev pub Takes : {A B : Type 0} → (A → Step B) → A → Walk → B → Walk → Type 0
Takes step x w b w' = step x w ≡ done b w'

module _ {A B : Type 0} (step : A → Step B) where
  gathered-chain : (found : List B) (xs : List A) (w : Walk) (bs : List B) (w' : Walk) → over (gathering step) found xs w ≡ done bs w'
      → (rest : List B) × (bs ≡ found ++ rest) × Chain (Takes step) xs w rest w'
  gathered-chain found [] w bs w' same = ([], sym (done-value same) ∙ sym (append-nil found), subst (λ v. Chain (Takes step) [] w [] v) (done-walk same) ends)
  gathered-chain found (x ∷ xs) w bs w' same =
      let t = turn (gathering step found x w) (λ more. over (gathering step) more xs) bs w' same in
      let m = mapped (step x w) (λ b. found ++ b ∷ []) t.given t.between t.begins in
      let r = gathered-chain t.given xs t.between bs w' t.goes_on in
      (m.given ∷ r.0, r.1 ∙ ap (λ more. more ++ r.0) m.makes ∙ append_assoc found (m.given ∷ []) r.0, next m.begins r.2)

  pub each-chain : (xs : List A) (w : Walk) (bs : List B) (w' : Walk) → each step xs w ≡ done bs w' → Chain (Takes step) xs w bs w'
  each-chain xs w bs w' same =
      let r = gathered-chain [] xs w bs w' same in
      subst (λ all. Chain (Takes step) xs w all w') (sym r.1) r.2

module _ {A B : Type 0} {P Q : A → Walk → B → Walk → Type 0} where
  -- what holds of each step, from what held before it
  pub chain-with : (I : Walk → Type 0) → ((x : A) (w : Walk) (b : B) (w' : Walk) → I w → P x w b w' → I w' × Q x w b w')
      → {xs : List A} {w : Walk} {bs : List B} {w' : Walk} → I w → Chain P xs w bs w' → I w' × Chain Q xs w bs w'
  chain-with I one holds ends = (holds, ends)
  chain-with I one holds (next {x = x} {b = b} {w = w} {v = v} p rest) =
      let here = one x w b v holds p in
      let after = chain-with I one here.0 rest in
      (after.0, next here.1 after.1)

-- an item and what its step gives, between two walks
pub record Between {A B : Type 0} (R : Walk → Walk → Type 0) (P : A → Walk → B → Walk → Type 0) (w w' : Walk) (x : A) (b : B) : Type 0 where
  pub from : Walk
  pub to : Walk
  pub before : R w from
  pub gives : P x from b to
  pub after : R to w'

module _ {A B : Type 0} {P : A → Walk → B → Walk → Type 0} (R : Walk → Walk → Type 0) (itself : (w : Walk) → R w w) (through : (a b c : Walk) → R a b → R b c → R a c)
    (one : (x : A) (w : Walk) (b : B) (w' : Walk) → P x w b w' → R w w') where
  pub chain-after : {xs : List A} {w : Walk} {bs : List B} {w' : Walk} → Chain P xs w bs w' → R w w'
  chain-after (ends {w = w}) = itself w
  chain-after (next {x = x} {b = b} {w = w} {v = v} p rest) = through w v _ (one x w b v p) (chain-after rest)

  related-from : {start : Walk} {xs : List A} {w : Walk} {bs : List B} {w' : Walk} → R start w → Chain P xs w bs w' → Related (Between R P start w') xs bs
  related-from since ends = related.none
  related-from since (next {x = x} {b = b} {w = w} {v = v} p rest) =
      related.more (record { from = w; to = v; before = since; gives = p; after = chain-after rest }) (related-from (through _ w v since (one x w b v p)) rest)

  pub chain-related : {xs : List A} {w : Walk} {bs : List B} {w' : Walk} → Chain P xs w bs w' → Related (Between R P w w') xs bs
  chain-related {w = w} chain = related-from (itself w) chain

-- each step grows: so does the loop, and each item has its step between the walks
pub each-law : {A B : Type 0} {P : A → Walk → B → Walk → Type 0} (step : A → Step B)
    → ((x : A) (w : Walk) (b : B) (w' : Walk) → Proper w.numbers → step x w ≡ done b w' → Grows w w' × P x w b w')
    → (xs : List A) (w : Walk) (bs : List B) (w' : Walk) → Proper w.numbers → each step xs w ≡ done bs w'
    → Grows w w' × Related (Between Grows (λ x w b w'. Grows w w' × P x w b w') w w') xs bs
each-law {A} {B} {P} step one xs w bs w' proper same =
    let Q : A → Walk → B → Walk → Type 0 = λ x w b w'. Grows w w' × P x w b w' in
    let all = chain-with {Q = Q} (λ (v : Walk). Proper v.numbers) (λ x w b w' p taken. let here = one x w b w' p taken in (here.0.proper p, here)) proper (each-chain step xs w bs w' same) in
    (chain-after Grows grows-refl (λ a b c. grows-trans) (λ x w b w' q. q.0) all.1, chain-related Grows grows-refl (λ a b c. grows-trans) (λ x w b w' q. q.0) all.1)

-- ---- the numbering of proper numbers

not-below : (n m : ℕ) → m ≤ n → ltb n m ≡ false
not-below n m past = grind arith

module _ (numbers : List Slot) where
  abbrev numbered_slot : ColId → Slot
  numbered_slot c = slice_index_or numbers c.0 (Made c.0)

  -- the number of a slot that stands at this place among the numbers
  abbrev number_by : Slot → Option ℕ → Option ColId
  number_by slot (Some place) = Some (col_id place)
  number_by (Made n) None = cond (ltb n (length numbers)) None (Some (col_id n))
  number_by (Base reference column) None = None

  module _ (p : Proper numbers) where
    pub numbered-back : (c : ColId) → number_by (numbered_slot c) (position (same_slot (numbered_slot c)) numbers) ≡ Some c
    numbered-back c = elim (cases_lt c.0 (length numbers)) [
      | inl inside ↦ ap (number_by (numbered_slot c)) (p.once c.0 inside)
      | inr past ↦
          let slot : numbered_slot c ≡ Made c.0 = get_or_past numbers c.0 (Made c.0) past in
          ap (λ s. number_by s (position (same_slot s) numbers)) slot ∙ by past (position (same_slot (Made c.0)) numbers) refl
    ]
      where
        by : length numbers ≤ c.0 → (o : Option ℕ) → position (same_slot (Made c.0)) numbers ≡ o → number_by (Made c.0) o ≡ Some c
        by past (Some place) is =
            let at = position-Some (same_slot (Made c.0)) numbers place (Made 0) is in
            let same = p.made c.0 place is in
            absurd (let h = at.0 in omega arith)
        by past None is = ap (λ b. cond b None (Some c)) (not-below c.0 (length numbers) past)

    pub numbered-forth : (slot : Slot) (c : ColId) (o : Option ℕ) → position (same_slot slot) numbers ≡ o → number_by slot o ≡ Some c → numbered_slot c ≡ slot
    numbered-forth slot c (Some place) is same =
        let at = position-Some (same_slot slot) numbers place (Made place) is in
        ap numbered_slot (sym (some-is same)) ∙ sym (same_slot-is slot _ at.1)
    numbered-forth (Base reference column) c None is same = none-some same
    numbered-forth (Made n) c None is same = by (cases_lt n (length numbers))
      where
        by : (n < length numbers) ⊎ (length numbers ≤ n) → numbered_slot c ≡ Made n
        by (inl inside) = none-some (sym (ap (λ b. cond b None (Some (col_id n))) (lt-ltb n (length numbers) inside)) ∙ same)
        by (inr past) =
            let is_n : col_id n ≡ c = some-is (sym (ap (λ b. cond b None (Some (col_id n))) (not-below n (length numbers) past)) ∙ same) in
            ap numbered_slot (sym is_n) ∙ get_or_past numbers n (Made n) past

    abbrev pub numbering : Numbering
    numbering = record {
      slot_at = numbered_slot;
      number_of = λ slot. number_by slot (position (same_slot slot) numbers);
      back = numbered-back;
      forth = λ slot c same. numbered-forth slot c (position (same_slot slot) numbers) refl same;
    }

    pub numbering-fits : Fits numbering numbers
    numbering-fits slot place found = ap (number_by slot) found

    pub numbering-exact : Exact numbering numbers
    numbering-exact = record {
      inside = λ i within. refl;
      outside = λ i past. get_or_past numbers i (Made i) past;
    }
