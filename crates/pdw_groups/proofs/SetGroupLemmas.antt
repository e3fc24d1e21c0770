-- One more set of leaves.
use Rattle.std.proofs.Common.{◌≡◌, ℕ, zero, suc, ◌+◌, ◌≤◌, Bool, true, false, List, [], ◌∷◌, ◌++◌, length, map, filter, cond, refl, sym, ap, ap₂, ◌∙◌, arith, append_assoc, length-append, if◌then◌else◌}
use Rattle.std.specs.List.{AllByRecursion}
use Rattle.std.proofs.lemmas.List.{length-map, map-append}
use Rattle.pdw_base.specs.Schema.{Columns}
use Rattle.pdw_expr.specs.declared.cond.Cond.{Cond}
use Rattle.pdw_groups.proofs.PartOrder.{kept-suc}
use Rattle.pdw_groups.specs.Level.{below, set_of}
use Rattle.pdw_groups.specs.Sets.{flags}
use Rattle.pdw_parts.specs.Part.{columns_in, is_inside}

pub below-length : (n : ℕ) → length (below n) ≡ n
below-length zero = refl
below-length (suc n) = length-append (below n) (n ∷ []) ∙ (let rest = below-length n in omega (arith, rest))

pub flags-lengths : (leaves : List Columns) (conds : List Cond) (masks : List ℕ) → AllByRecursion (λ flags. length flags ≡ length conds) (map (flags leaves conds) masks)
flags-lengths leaves conds [] = tt
flags-lengths leaves conds (mask ∷ masks) = (length-map conds (is_inside (columns_in (set_of mask) leaves)), flags-lengths leaves conds masks)

module _ {X : Type 0} (f : ℕ → X) (n : ℕ) where
  pub map-next : map f (below (n + 1)) ≡ map f (below n) ++ f n ∷ []
  map-next = let same : n + 1 ≡ suc n = omega arith in ap (λ k. map f (below k)) same ∙ map-append f (below n) (n ∷ [])

  module _ (test : ℕ → Bool) (start before after : List X) (had : before ≡ start ++ map f (filter test (below n))) (added : after ≡ before ++ (if test n then f n ∷ [] else [])) where
    one-or_none : (b : Bool) → (if b then f n ∷ [] else []) ≡ map f (cond b (n ∷ []) [])
    one-or_none true = refl
    one-or_none false = refl

    pub kept-next : after ≡ start ++ map f (filter test (below (n + 1)))
    kept-next =
        added
        ∙ ap₂ (λ some more. some ++ more) had (one-or_none (test n))
        ∙ append_assoc start (map f (filter test (below n))) (map f (filter test (n ∷ [])))
        ∙ ap (λ some. start ++ some) (sym (kept-suc f test n) ∙ (let same : suc n ≡ n + 1 = omega arith in ap (λ k. map f (filter test (below k))) same))

    one-most : (b : Bool) → length (if b then f n ∷ [] else []) ≤ 1
    one-most true = omega arith
    one-most false = omega arith

    pub room-next : length before ≤ length start + n → length after ≤ length start + (n + 1)
    room-next room =
        let all = ap length added ∙ length-append before (if test n then f n ∷ [] else []) in
        let most = one-most (test n) in
        omega (arith, room, all, most)

  -- how many are kept so far
  pub kept-count : (test : ℕ → Bool) (start before : List X) → before ≡ start ++ map f (filter test (below n)) → length before ≡ length start + length (filter test (below n))
  kept-count test start before had = ap length had ∙ length-append start (map f (filter test (below n))) ∙ ap (λ k. length start + k) (length-map (filter test (below n)) f)
