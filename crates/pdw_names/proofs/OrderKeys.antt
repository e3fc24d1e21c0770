-- The order keys of a judged SELECT are those that its ORDER BY means.
use Rattle.std.proofs.Common.{◌≡◌, ℕ, ℤ, zero, suc, ◌+◌, ◌-◌, ◌<◌, ◌&&◌, leb, Bool, true, false, cond, if◌then◌else◌, pos, negsuc, List, [], ◌∷◌, ◌++◌, length, get_or, position, refl, sym, ap, ◌∙◌, append_assoc, append-nil, arith}
use Rattle.std.specs.Fmt.{signed_decimal}
use Rattle.std.specs.List.{enumerate_from, filter}
use Rattle.std.specs.Str.{bytes_eq}
use Rattle.pdw_syntax.specs.declared.query.OrderKey.{OrderKey}
use Rattle.pdw_syntax.specs.declared.query.OrderName.{OrderName}
use Rattle.pdw_syntax.specs.declared.query.OrderName.TheVariants.{Name, Position}
use Rattle.pdw_walk.proofs.Outcomes.{done_value, in_turn, refused_not_done}
use Rattle.pdw_names.proofs.WalkLaws.{position-is}
use Rattle.pdw_semantics.specs.Answer.{order_of, place_of, place_or_first}
use Rattle.pdw_walk.specs.Queries.{named_place, order_key, order_place, place_at, place_has_name, places}
use Rattle.pdw_walk.specs.Walk.{Walk, done, each, gathering, over, pure, refused}
use Rattle.pdw_walk.specs.declared.fault.JudgeFault.TheVariants.{UnknownColumn}

-- ---- the place of a name

-- the first place of a name, counted from some number
data FirstAt (name : List ℕ) (names : List (List ℕ)) (from : ℕ) (found : ℕ × List ℕ) : Type 0 where
  first : (i : ℕ) → i < length names → bytes_eq name (get_or names i []) ≡ true → ((k : ℕ) → k < i → bytes_eq name (get_or names k []) ≡ false) → found.0 ≡ from + i → FirstAt name names from found

module _ (name n : List ℕ) (names : List (List ℕ)) (from : ℕ) (found : ℕ × List ℕ) where
  before_next : bytes_eq name n ≡ false → (i : ℕ) → ((k : ℕ) → k < i → bytes_eq name (get_or names k []) ≡ false) → (k : ℕ) → k < suc i → bytes_eq name (get_or (n ∷ names) k []) ≡ false
  before_next other i before zero lt = other
  before_next other i before (suc k) lt = before k (omega (arith, lt))

  later : bytes_eq name n ≡ false → FirstAt name names (from + 1) found → FirstAt name (n ∷ names) from found
  later other (first i within here before at) = first (suc i) (omega (arith, within)) here (before_next other i before) (omega (arith, at))

first_at : (name : List ℕ) (names : List (List ℕ)) (from : ℕ) (found : ℕ × List ℕ) (others : List (ℕ × List ℕ)) → filter (place_has_name name) (enumerate_from from names) ≡ found ∷ others → FirstAt name names from found
first_at name [] from found others is = absurd (cc)
first_at name (n ∷ names) from found others is = by (bytes_eq name n) refl is (first_at name names (from + 1) found others)
  where
    by : (b : Bool) → bytes_eq name n ≡ b → cond b ((from, n) ∷ filter (place_has_name name) (enumerate_from (from + 1) names)) (filter (place_has_name name) (enumerate_from (from + 1) names)) ≡ found ∷ others
        → (filter (place_has_name name) (enumerate_from (from + 1) names) ≡ found ∷ others → FirstAt name names (from + 1) found) → FirstAt name (n ∷ names) from found
    by true now is rest = first 0 (omega arith) now (λ k lt. absurd (omega (arith, lt))) (let same : found ≡ (from, n) = cc in ap (λ f. f.0) same ∙ omega arith)
    by false now is rest = later name n names from found now (rest is)

place_of_first : (name : List ℕ) (names : List (List ℕ)) (found : ℕ × List ℕ) → FirstAt name names 0 found → place_of names (Name name) ≡ found.0
place_of_first name names found (first i within here before at) = ap place_or_first (position-is (bytes_eq name) names i [] within here before) ∙ (let same : i ≡ found.0 = omega (arith, at) in same)

by_name : (name : List ℕ) (names : List (List ℕ)) (found : List (ℕ × List ℕ)) → places name names ≡ found → (w : Walk) (place : ℕ) (w' : Walk) → named_place name found w ≡ done place w' → place_of names (Name name) ≡ place
by_name name names [] is w place w' walked = refused_not_done walked
by_name name names (found ∷ []) is w place w' walked = place_of_first name names found (first_at name names 0 found [] is) ∙ done_value walked
by_name name names (found ∷ other ∷ others) is w place w' walked = refused_not_done walked

by_position : (names : List (List ℕ)) (position : ℤ) (w : Walk) (place : ℕ) (w' : Walk) → place_at position (length names) w ≡ done place w' → place_of names (Position position) ≡ place
by_position names (pos position) w place w' walked = by (leb 1 position && leb position (length names)) walked
  where
    by : (b : Bool) → (if b then pure (position - 1) else (λ _. refused (UnknownColumn (signed_decimal (pos position))))) w ≡ done place w' → position - 1 ≡ place
    by true walked = done_value walked
    by false walked = refused_not_done walked
by_position names (negsuc n) w place w' walked = refused_not_done walked

by_order_name : (names : List (List ℕ)) (name : OrderName) (w : Walk) (place : ℕ) (w' : Walk) → order_place names name w ≡ done place w' → place_of names name ≡ place
by_order_name names (Name name) w place w' walked = by_name name names (places name names) refl w place w' walked
by_order_name names (Position position) w place w' walked = by_position names position w place w' walked

-- ---- the keys

key_place : (names : List (List ℕ)) (key : OrderKey) (w : Walk) (found : ℕ × Bool) (w' : Walk) → order_key names key w ≡ done found w' → (place_of names key.name, key.descending) ≡ found
unfolding order_key
key_place names key w found w' walked =
    let at = in_turn (order_place names key.name w) (λ place. pure (place, key.descending)) found w' walked in
    ap (λ place. (place, key.descending)) (by_order_name names key.name w at.value at.middle at.begun) ∙ done_value at.ended

keys_after : (names : List (List ℕ)) (keys : List OrderKey) (before : List (ℕ × Bool)) (w : Walk) (found : List (ℕ × Bool)) (w' : Walk) → over (gathering (order_key names)) before keys w ≡ done found w' → before ++ order_of names keys ≡ found
keys_after names [] before w found w' walked = append-nil before ∙ done_value walked
keys_after names (key ∷ keys) before w found w' walked =
    let turn = in_turn (gathering (order_key names) before key w) (λ more. over (gathering (order_key names)) more keys) found w' walked in
    let one = in_turn (order_key names key w) (λ place. pure (before ++ place ∷ [])) turn.value turn.middle turn.begun in
    sym (append_assoc before ((place_of names key.name, key.descending) ∷ []) (order_of names keys))
    ∙ ap (λ place. (before ++ place ∷ []) ++ order_of names keys) (key_place names key w one.value one.middle one.begun)
    ∙ ap (λ more. more ++ order_of names keys) (done_value one.ended)
    ∙ keys_after names keys turn.value turn.middle found w' turn.ended

-- the keys that the walk gives are those that ORDER BY means
pub keys_are : (names : List (List ℕ)) (keys : List OrderKey) (w : Walk) (found : List (ℕ × Bool)) (w' : Walk) → each (order_key names) keys w ≡ done found w' → order_of names keys ≡ found
keys_are names keys w found w' walked = keys_after names keys [] w found w' walked
