-- What steps of the walk add to the numbers, and that what has a number was begun before.
use Rattle.std.proofs.Common.{◌≡◌, ◌≤◌, ◌<◌, ◌||◌, ◌⊎◌, Bool, true, false, List, [], ◌∷◌, ◌++◌, refl, sym, ap, subst, ◌∙◌, inl, inr, append_assoc, append-nil, true≢false, arith}
use Rattle.std.specs.List.{AllByRecursion, list_any}
use Rattle.std.proofs.lemmas.List.{append_cancel_left}
use Rattle.std.proofs.lemmas.List.Folds.{list_any-append}
use Rattle.pdw_sound.proofs.SoundRelations.{Adds, Among, AmongNear, Behind, New, Old, OldIn, Used, UsedBy}
use Rattle.pdw_names.proofs.JoinMeaningLaws.{range_begins, range_ends}
use Rattle.pdw_names.proofs.Relations.{Grows, Within}
use Rattle.pdw_names.proofs.WalkLaws.{all-append, all-map, same_slot-is, same_slot-itself}
use Rattle.pdw_walk.specs.Lookup.{Place, Scope}
use Rattle.pdw_walk.specs.Slot.{same_slot}
use Rattle.pdw_walk.specs.Walk.{Walk}
use Rattle.pdw_walk.specs.declared.entry.Entry.{Entry}
use Rattle.pdw_walk.specs.declared.entry.Role.{Role}
use Rattle.pdw_walk.specs.declared.entry.Role.TheVariants as role
use Rattle.pdw_walk.specs.declared.entry.Slot.{Slot}
use Rattle.pdw_walk.specs.declared.entry.Slot.TheVariants.{Base, Made}

-- ---- what is added

module _ (P : Slot → Type 0) where
  pub adds-same : {w w' : Walk} → w'.numbers ≡ w.numbers → Adds P w w'
  adds-same {w} same = record { added = []; numbers = same ∙ sym (append-nil w.numbers); all = tt }

  pub adds-one : {w w' : Walk} (slot : Slot) → w'.numbers ≡ w.numbers ++ slot ∷ [] → P slot → Adds P w w'
  adds-one slot more is = record { added = slot ∷ []; numbers = more; all = (is, tt) }

  pub adds-trans : {a b c : Walk} → Adds P a b → Adds P b c → Adds P a c
  adds-trans {a} {b} {c} first second = record {
    added = first.added ++ second.added;
    numbers = second.numbers ∙ (ap (λ ns. ns ++ second.added) first.numbers ∙ append_assoc a.numbers first.added second.added);
    all = all-append P first.added second.added first.all second.all;
  }

  -- the same of what the growth of a walk names
  pub adds-grows : {w w' : Walk} → Adds P w w' → (g : Grows w w') → AllByRecursion P g.added
  adds-grows {w} adds g = subst (AllByRecursion P) (append_cancel_left w.numbers adds.added g.added (sym adds.numbers ∙ g.numbers)) adds.all

  -- all numbers after the step
  pub adds-all : {w w' : Walk} → AllByRecursion P w.numbers → Adds P w w' → AllByRecursion P w'.numbers
  adds-all {w} before adds = subst (AllByRecursion P) (sym adds.numbers) (all-append P w.numbers adds.added before adds.all)

  pub adds-map : (Q : Slot → Type 0) → ((slot : Slot) → P slot → Q slot) → {w w' : Walk} → Adds P w w' → Adds Q w w'
  adds-map Q f adds = record { added = adds.added; numbers = adds.numbers; all = all-map P Q f adds.added adds.all }

-- ---- columns of scopes

pub or-true : (a b : Bool) → b ≡ true → (a || b) ≡ true
or-true true b is = refl
or-true false b is = is

pub among-head : (entry : Entry) (scope : Scope) → Among (entry ∷ scope) entry.slot
among-head entry scope = ap (λ b. b || list_any (λ other. same_slot entry.slot other.slot) scope) (same_slot-itself entry.slot)

pub among-left : (first second : Scope) (slot : Slot) → Among first slot → Among (first ++ second) slot
among-left first second slot among =
    list_any-append (λ (entry : Entry). same_slot slot entry.slot) first second ∙ ap (λ b. b || list_any (λ entry. same_slot slot entry.slot) second) among

pub among-right : (first second : Scope) (slot : Slot) → Among second slot → Among (first ++ second) slot
among-right first second slot among =
    list_any-append (λ (entry : Entry). same_slot slot entry.slot) first second ∙ or-true (list_any (λ entry. same_slot slot entry.slot) first) (list_any (λ entry. same_slot slot entry.slot) second) among

pub among-member : (scope before after : Scope) (entry : Entry) → scope ≡ before ++ entry ∷ after → Among scope entry.slot
among-member scope before after entry is = subst (λ all. Among all entry.slot) (sym is) (among-right before (entry ∷ after) entry.slot (among-head entry after))

-- what holds of the slots of a scope holds of its columns
pub among-all : (Q : Slot → Type 0) (scope : Scope) (slot : Slot) → AllByRecursion (λ entry. Q entry.slot) scope → Among scope slot → Q slot
among-all Q [] slot all among = absurd (true≢false (sym among))
among-all Q (entry ∷ scope) slot all among = by (same_slot slot entry.slot) refl (among-all Q scope slot all.1) among
  where
    by : (b : Bool) → same_slot slot entry.slot ≡ b → (Among scope slot → Q slot) → (b || list_any (λ other. same_slot slot other.slot) scope) ≡ true → Q slot
    by true is later found = subst Q (sym (same_slot-is slot entry.slot is)) all.0
    by false is later found = later found

-- one of the two parts has it
pub among-append : (first second : Scope) (slot : Slot) → Among (first ++ second) slot → Among first slot ⊎ Among second slot
among-append first second slot among = by (list_any (λ (entry : Entry). same_slot slot entry.slot) first) refl (sym (list_any-append (λ (entry : Entry). same_slot slot entry.slot) first second) ∙ among)
  where
    by : (b : Bool) → list_any (λ entry. same_slot slot entry.slot) first ≡ b → (b || list_any (λ entry. same_slot slot entry.slot) second) ≡ true → Among first slot ⊎ Among second slot
    by true is found = inl is
    by false is found = inr found

-- ---- what was begun

pub new-begins : {a b : Walk} (c : Walk) → Grows a b → (slot : Slot) → New b c slot → New a c slot
new-begins c grows (Base reference column) is = range_begins c grows (Base reference column) is
new-begins c grows (Made n) is = tt

pub new-ends : (a : Walk) {b c : Walk} → Grows b c → (slot : Slot) → New a b slot → New a c slot
new-ends a grows (Base reference column) is = range_ends a grows (Base reference column) is
new-ends a grows (Made n) is = tt

-- what stands between two moments is new
pub new-within : (a b : Walk) (slot : Slot) → Within a b slot → New a b slot
new-within a b (Base reference column) inside = inside
new-within a b (Made n) inside = tt

pub old-later : (w w' : Walk) → w.references ≤ w'.references → (slot : Slot) → Old w slot → Old w' slot
old-later w w' more (Base reference column) old = let h : reference < _ = old in omega arith
old-later w w' more (Made n) old = tt

pub old-new : (w w' : Walk) (slot : Slot) → New w w' slot → Old w' slot
old-new w w' (Base reference column) is = is.1
old-new w w' (Made n) is = tt

pub old_in-later : (w w' : Walk) → w.references ≤ w'.references → (scope : Scope) → OldIn w scope → OldIn w' scope
old_in-later w w' more = all-map (λ (entry : Entry). Old w entry.slot) (λ (entry : Entry). Old w' entry.slot) (λ entry. old-later w w' more entry.slot)

pub old_in-within : (a b : Walk) (scope : Scope) → AllByRecursion (λ entry. Within a b entry.slot) scope → OldIn b scope
old_in-within a b = all-map (λ (entry : Entry). Within a b entry.slot) (λ (entry : Entry). Old b entry.slot) (λ entry inside. old-new a b entry.slot (new-within a b entry.slot inside))

-- after steps that number new columns
pub behind-new : {w w' : Walk} {outers : List Scope} → Grows w w' → Behind w outers → Adds (New w w') w w' → Behind w' outers
behind-new {w} {w'} {outers} grows behind adds = record {
  numbers = adds-all (Old w') (all-map (Old w) (Old w') (old-later w w' grows.references) w.numbers behind.numbers) (adds-map (New w w') (Old w') (old-new w w') adds);
  scopes = all-map (OldIn w) (OldIn w') (old_in-later w w' grows.references) outers behind.scopes;
}

near-old : (w : Walk) (outers : List Scope) → AllByRecursion (OldIn w) outers → (slot : Slot) → AmongNear outers slot → Old w slot
near-old w [] old slot among = absurd among
near-old w (outer ∷ outers) old slot among = among-all (Old w) outer slot old.0 among

-- what is used at a place was begun before, where all that is seen there was
pub old-used : (w : Walk) (place : Place) → OldIn w place.own → AllByRecursion (OldIn w) place.outers → (slot : Slot) → Used place slot → Old w slot
old-used w place own outers (Base reference column) (inl among) = among-all (Old w) place.own (Base reference column) own among
old-used w place own outers (Base reference column) (inr near) = near-old w place.outers outers (Base reference column) near.1
old-used w place own outers (Made n) used = tt

-- the same of a query
pub old-used_by : (part : Role) (outers : List Scope) (w w' : Walk) → w.references ≤ w'.references → AllByRecursion (OldIn w) outers → (slot : Slot) → UsedBy part outers w w' slot → Old w' slot
old-used_by role.Statement outers w w' more old slot new = old-new w w' slot new
old-used_by role.DerivedTable outers w w' more old slot new = old-new w w' slot new
old-used_by role.In outers w w' more old slot (inl new) = old-new w w' slot new
old-used_by role.In outers w w' more old slot (inr near) = old-later w w' more slot (near-old w outers old slot near)
old-used_by role.Exists outers w w' more old slot (inl new) = old-new w w' slot new
old-used_by role.Exists outers w w' more old slot (inr near) = old-later w w' more slot (near-old w outers old slot near)

-- after steps at a place that sees only what was begun before
pub behind-used : {w w' : Walk} {outers : List Scope} (place : Place) → Grows w w' → Behind w outers → OldIn w place.own → AllByRecursion (OldIn w) place.outers → Adds (Used place) w w' → Behind w' outers
behind-used {w} {w'} {outers} place grows behind own near adds = record {
  numbers = adds-all (Old w') (all-map (Old w) (Old w') (old-later w w' grows.references) w.numbers behind.numbers)
      (adds-map (Used place) (Old w') (λ slot used. old-later w w' grows.references slot (old-used w place own near slot used)) adds);
  scopes = all-map (OldIn w) (OldIn w') (old_in-later w w' grows.references) outers behind.scopes;
}

-- after a query
pub behind-used_by : {w w' : Walk} {outers : List Scope} (part : Role) (scopes : List Scope) → Grows w w' → Behind w outers → AllByRecursion (OldIn w) scopes → Adds (UsedBy part scopes w w') w w' → Behind w' outers
behind-used_by {w} {w'} {outers} part scopes grows behind old adds = record {
  numbers = adds-all (Old w') (all-map (Old w) (Old w') (old-later w w' grows.references) w.numbers behind.numbers)
      (adds-map (UsedBy part scopes w w') (Old w') (old-used_by part scopes w w' grows.references old) adds);
  scopes = all-map (OldIn w) (OldIn w') (old_in-later w w' grows.references) outers behind.scopes;
}
