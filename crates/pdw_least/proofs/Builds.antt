-- A plan that is read off a log costs what the log says.
use Rattle.std.proofs.Common.{◌≡◌, ◌<◌, ◌+◌, ℕ, zero, suc, Bool, true, false, List, [], ◌∷◌, ◌++◌, length, take, drop, get_or, Option, Some, None, refl, sym, ap, subst, ◌∙◌, arith, if◌then◌else◌}
use Rattle.std.proofs.lemmas.Option.{same_Some, slice_get_within}
use Rattle.std.proofs.lemmas.List.{length-take, take_more}
use Rattle.std.specs.List.{slice_get}
use Rattle.std.specs.Option.{IsSome}
use Rattle.pdw_groups.specs.declared.group.Group.{Group}
use Rattle.pdw_move.specs.Move.{property_before}
use Rattle.pdw_move.specs.declared.kinds.Move.{Move}
use Rattle.pdw_move.specs.declared.kinds.Prop.{Prop}
use Rattle.pdw_ways.specs.Bounds.{AtMost, Bound}
use Rattle.pdw_ways.specs.Ways.{Costs}
use Rattle.pdw_ways.specs.declared.made.Made.{Made}
use Rattle.pdw_ways.specs.declared.plan.Plan.{Plan}
use Rattle.pdw_ways.specs.declared.plan.Plan.TheVariants as plan
use Rattle.pdw_ways.specs.declared.way.Way.{Way}
use Rattle.pdw_ways.specs.declared.way.Way.TheVariants as way
use Rattle.pdw_least.proofs.Logs.{bounds-longer, log-front, made-alike, one-part, two-parts}
use Rattle.pdw_least.proofs.Nodes.{Makes, freed-makes, moved-makes, one-makes, scan-makes, two-makes}
use Rattle.pdw_least.proofs.Steps.{after-more}
use Rattle.pdw_least.specs.Built.{IsBuilt, IsLast, IsLastAt, IsLastIn}
use Rattle.pdw_least.specs.Log.{IsBelow, IsEntry, IsLog, IsLogFrom, bounds_after, is_same_made, none_before, put}
use Rattle.pdw_least.specs.declared.entry.Entry.{Entry}

-- ---- the last entry

get-first : {X : Type 0} (xs : List X) (x : X) → slice_get (xs ++ x ∷ []) (length xs) ≡ Some x
get-first [] x = refl
get-first (first ∷ xs) x = get-first xs x

get-before : {X : Type 0} (xs : List X) (x y : X) (k : ℕ) → slice_get xs k ≡ Some y → slice_get (xs ++ x ∷ []) k ≡ Some y
get-before [] x y k there = absurd (cc)
get-before (first ∷ xs) x y zero there = there
get-before (first ∷ xs) x y (suc k) there = get-before xs x y k there

module _ (log : List Entry) (entry : Entry) (made : Made) where
  after-entry : bounds_after (log ++ entry ∷ []) made ≡ put (bounds_after log) entry made
  after-entry = ap (λ (bound : Bound). bound made) (after-more log entry)

  kept-last : (found : Option ℕ) → is_same_made entry.made made ≡ false → IsLastIn log made found → IsLastIn (log ++ entry ∷ []) made found
  kept-last None other is = after-entry ∙ ap (λ (test : Bool). if test then Some entry.cost else bounds_after log made) other ∙ is
  kept-last (Some number) other is = record {
    entry = is.entry;
    there = get-before log entry is.entry number is.there;
    makes = is.makes;
    found = after-entry ∙ ap (λ (test : Bool). if test then Some entry.cost else bounds_after log made) other ∙ is.found;
  }

  pub last-more : (found : Option ℕ) → IsLastIn log made found → IsLastIn (log ++ entry ∷ []) made (if is_same_made entry.made made then Some (length log) else found)
  last-more found is = by (is_same_made entry.made made) refl
    where
      by : (test : Bool) → is_same_made entry.made made ≡ test → IsLastIn (log ++ entry ∷ []) made (if test then Some (length log) else found)
      by true same = record {
        entry = entry;
        there = get-first log entry;
        makes = made-alike entry.made made same;
        found = after-entry ∙ ap (λ (test : Bool). if test then Some entry.cost else bounds_after log made) same;
      }
      by false other = kept-last found other is

-- in a loop over the log
pub last-step : (log : List Entry) (made : Made) (number : ℕ) (other : Entry) (found result : Option ℕ) → number < length log → IsLastIn (take number log) made found
    → result ≡ (if is_same_made (get_or log number other).made made then Some number else found) → IsLastIn (take (number + 1) log) made result
last-step log made number other found result within is same =
    let entry = get_or log number other in
    subst (IsLastIn (take (number + 1) log) made) (sym same)
    (subst (λ (xs : List Entry). IsLastIn xs made (if is_same_made entry.made made then Some number else found)) (sym (take_more log number other within))
    (subst (λ (n : ℕ). IsLastIn (take number log ++ entry ∷ []) made (if is_same_made entry.made made then Some n else found)) (taken log number within) (last-more (take number log) entry made found is)))
  where
    taken : (xs : List Entry) (n : ℕ) → n < length xs → length (take n xs) ≡ n
    taken xs n less = omega (arith, length-take n xs)

pub entry-way : (log : List Entry) (number : ℕ) (entry other : Entry) → Some entry ≡ slice_get log number → slice_get log number ≡ Some other → entry.way ≡ other.way
entry-way log number entry other first second = ap (λ (e : Entry). e.way) (same_Some entry other (first ∙ second))

-- what is before an entry, and what is behind it
split-at : {X : Type 0} (xs : List X) (k : ℕ) (x : X) → slice_get xs k ≡ Some x → xs ≡ take k xs ++ x ∷ drop (suc k) xs
split-at [] k x there = absurd (cc)
split-at (first ∷ xs) zero x there = let same : first ≡ x = cc in ap (λ (y : _). y ∷ xs) same
split-at (first ∷ xs) (suc k) x there = ap (λ (ys : _). first ∷ ys) (split-at xs k x there)

module _ (groups : List Group) (costs : Costs) (log : List Entry) (is : IsLog groups costs log) (made : Made) (number : ℕ) (last : IsLastAt log made number) where
  pub last-is : (w : Way) → w ≡ last.entry.way → IsLast groups costs log made number w
  last-is w same =
      let whole = subst (IsLogFrom groups costs none_before) (split-at log number last.entry last.there) is in
      let parts = log-front groups costs none_before (take number log) (last.entry ∷ drop (suc number) log) whole in
      record {
        within = slice_get_within log number last.entry last.there;
        front = parts.0;
        cost = last.entry.cost;
        found = last.found;
        entry = subst (λ (x : Way). IsEntry groups costs (bounds_after (take number log)) (record { made = made; way = x; cost = last.entry.cost })) (sym same)
            (subst (λ (m : Made). IsEntry groups costs (bounds_after (take number log)) (record { made = m; way = last.entry.way; cost = last.entry.cost })) last.makes parts.1.0);
        below = subst (λ (m : Made). IsBelow last.entry.cost (bounds_after (take number log) m)) last.makes parts.1.1;
        falls = λ other. subst (λ (l : List Entry). AtMost (bounds_after l other) (bounds_after (take number log) other)) (sym (split-at log number last.entry last.there))
            (bounds-longer groups costs (take number log) (last.entry ∷ drop (suc number) log) whole other);
      }

-- ---- plans of entries

reached-some : (bound : Option ℕ) (n : ℕ) → bound ≡ Some n → IsSome bound
reached-some bound n is = subst IsSome (sym is) refl

module _ (groups : List Group) (costs : Costs) (log : List Entry) (made : Made) (number : ℕ) where
  abbrev front : Bound
  front = bounds_after (take number log)

  abbrev Last : Way → Type 0
  Last = IsLast groups costs log made number

  built-of : (tree : Plan) (m : Made) (cost : ℕ) (bound : Option ℕ) → bound ≡ Some cost → Makes groups costs tree m cost → IsBuilt groups costs tree m bound
  built-of tree m cost bound is makes = subst (IsBuilt groups costs tree m) (sym is) (makes.is, makes.total)

  makes-of : (tree : Plan) (m : Made) (cost : ℕ) (bound : Option ℕ) → bound ≡ Some cost → IsBuilt groups costs tree m bound → Makes groups costs tree m cost
  makes-of tree m cost bound is built = let there : IsBuilt groups costs tree m (Some cost) = subst (IsBuilt groups costs tree m) is built in record { is = there.0; total = there.1 }

  makes-as : (tree : Plan) (m : Made) (cost other : ℕ) → cost ≡ other → Makes groups costs tree m cost → Makes groups costs tree m other
  makes-as tree m cost other same makes = subst (Makes groups costs tree m) same makes

  pub built-scan : Last way.Scan → IsBuilt groups costs (plan.Scan made.group made.prop) made (bounds_after log made)
  built-scan last =
      let same : 0 ≡ last.cost = (let total : Some (0 + 0) ≡ Some last.cost = last.entry.total in let sum : 0 + 0 ≡ last.cost = cc in omega arith) in
      built-of _ made last.cost (bounds_after log made) last.found (makes-as _ made 0 last.cost same (scan-makes groups costs made.group last.entry.group last.entry.there made.prop last.entry.allowed))

  pub one-reached : (child : Made) → Last (way.One child) → IsSome (front child)
  one-reached child last = let part = one-part (front child) 0 last.cost last.entry.total in reached-some (front child) part.0 part.1.0

  pub built-one : (child : Made) → Last (way.One child) → (tree : Plan) → IsBuilt groups costs tree child (front child) → IsBuilt groups costs (plan.Op made.group made.prop (tree ∷ [])) made (bounds_after log made)
  built-one child last tree built =
      let part = one-part (front child) 0 last.cost last.entry.total in
      let same : part.0 ≡ last.cost = (let sum : part.0 + 0 ≡ last.cost = part.1.1 in omega arith) in
      built-of _ made last.cost (bounds_after log made) last.found (makes-as _ made part.0 last.cost same
      (one-makes groups costs made.group last.entry.group last.entry.there made.prop child tree part.0 last.entry.allowed (makes-of tree child part.0 (front child) part.1.0 built)))

  pub two-reached : (left right : Made) → Last (way.Two left right) → IsSome (front left) × IsSome (front right)
  two-reached left right last = let parts = two-parts (front left) (front right) last.cost last.entry.total in (reached-some (front left) parts.0 parts.2.0, reached-some (front right) parts.1 parts.2.1)

  pub built-two : (left right : Made) → Last (way.Two left right) → (first second : Plan) → IsBuilt groups costs first left (front left) → IsBuilt groups costs second right (front right)
      → IsBuilt groups costs (plan.Op made.group made.prop (first ∷ second ∷ [])) made (bounds_after log made)
  built-two left right last first second built also =
      let parts = two-parts (front left) (front right) last.cost last.entry.total in
      built-of _ made last.cost (bounds_after log made) last.found (makes-as _ made (parts.0 + parts.1) last.cost parts.2.2
      (two-makes groups costs made.group last.entry.group last.entry.there made.prop left right first second parts.0 parts.1 last.entry.allowed
      (makes-of first left parts.0 (front left) parts.2.0 built) (makes-of second right parts.1 (front right) parts.2.1 also)))

  abbrev pub source : Prop → Made
  source p = record { group = made.group; prop = p }

  pub moved-reached : (mv : Move) → Last (way.Moved mv) → IsSome (front (source (property_before mv)))
  moved-reached mv last = let part = one-part (front (source (property_before mv))) (costs made.group mv) last.cost last.entry.total in reached-some (front (source (property_before mv))) part.0 part.1.0

  pub built-moved : (mv : Move) → Last (way.Moved mv) → (tree : Plan) → IsBuilt groups costs tree (source (property_before mv)) (front (source (property_before mv))) → IsBuilt groups costs (plan.Moved mv tree) made (bounds_after log made)
  built-moved mv last tree built =
      let part = one-part (front (source (property_before mv))) (costs made.group mv) last.cost last.entry.total in
      built-of _ made last.cost (bounds_after log made) last.found (makes-as _ made (part.0 + costs made.group mv) last.cost part.1.1
      (moved-makes groups costs made.group last.entry.group last.entry.there made.prop mv tree part.0 last.entry.allowed (makes-of tree (source (property_before mv)) part.0 (front (source (property_before mv))) part.1.0 built)))

  pub free-reached : (before : Prop) → Last (way.Free before) → IsSome (front (source before))
  free-reached before last = let part = one-part (front (source before)) 0 last.cost last.entry.total in reached-some (front (source before)) part.0 part.1.0

  pub built-freed : (before : Prop) → Last (way.Free before) → (tree : Plan) → IsBuilt groups costs tree (source before) (front (source before)) → IsBuilt groups costs (plan.Free made.prop tree) made (bounds_after log made)
  built-freed before last tree built =
      let part = one-part (front (source before)) 0 last.cost last.entry.total in
      let same : part.0 ≡ last.cost = (let sum : part.0 + 0 ≡ last.cost = part.1.1 in omega arith) in
      built-of _ made last.cost (bounds_after log made) last.found (makes-as _ made part.0 last.cost same
      (freed-makes groups costs made.group last.entry.group last.entry.there made.prop before tree part.0 last.entry.allowed (makes-of tree (source before) part.0 (front (source before)) part.1.0 built)))
