-- Two lists whose items are related place by place, and what keeps that: so the rows of two meanings are compared.
use Rattle.std.proofs.Common.{◌≡◌, Bool, true, false, cond, ◌&&◌, ◌||◌, List, [], ◌∷◌, ◌++◌, map, filter, refl, sym, ap, subst, if◌then◌else◌}
use Rattle.std.specs.List.{flat_map, list_any, list_all}
use Rattle.pdw_base.specs.declared.value.Value.{Value}
use Rattle.pdw_expr.specs.Join.{crossed, partners, inner_joined, left_joined, full_joined, or_alone, right_partnered, unpartnered}
use Rattle.pdw_expr.specs.Parts.{each_once, groups, parts, same_row}

pub data Related {X Y : Type 0} (R : X → Y → Type 0) : List X → List Y → Type 0 where
  none : Related R [] []
  more : {x : X} {y : Y} {xs : List X} {ys : List Y} → R x y → Related R xs ys → Related R (x ∷ xs) (y ∷ ys)

module _ {X Y : Type 0} {R : X → Y → Type 0} where
  pub related-append : {xs us : List X} {ys vs : List Y} → Related R xs ys → Related R us vs → Related R (xs ++ us) (ys ++ vs)
  related-append none others = others
  related-append (more r rest) others = more r (related-append rest others)

module _ {X Y : Type 0} {R : X → Y → Type 0} where
  kept-related : (b : Bool) (x : X) (y : Y) {xs : List X} {ys : List Y} → R x y → Related R xs ys → Related R (cond b (x ∷ xs) xs) (cond b (y ∷ ys) ys)
  kept-related true x y r rest = more r rest
  kept-related false x y r rest = rest

  pub related-filter : (p : X → Bool) (q : Y → Bool) → ((x : X) (y : Y) → R x y → p x ≡ q y) → {xs : List X} {ys : List Y} → Related R xs ys → Related R (filter p xs) (filter q ys)
  related-filter p q same none = none
  related-filter p q same (more {x = x} {y = y} {xs = xs} {ys = ys} r rest) =
      subst (λ b. Related R (cond b (x ∷ filter p xs) (filter p xs)) (cond (q y) (y ∷ filter q ys) (filter q ys))) (sym (same x y r))
      (kept-related (q y) x y r (related-filter p q same rest))

  pub related-any : (p : X → Bool) (q : Y → Bool) → ((x : X) (y : Y) → R x y → p x ≡ q y) → {xs : List X} {ys : List Y} → Related R xs ys → list_any p xs ≡ list_any q ys
  related-any p q same none = refl
  related-any p q same (more {x = x} {y = y} r rest) = λ i. same x y r i || related-any p q same rest i

  pub related-all : (p : X → Bool) (q : Y → Bool) → ((x : X) (y : Y) → R x y → p x ≡ q y) → {xs : List X} {ys : List Y} → Related R xs ys → list_all p xs ≡ list_all q ys
  related-all p q same none = refl
  related-all p q same (more {x = x} {y = y} r rest) = λ i. same x y r i && related-all p q same rest i

  -- related items that give the same
  pub related-same : {A : Type 0} (f : X → A) (g : Y → A) → ((x : X) (y : Y) → R x y → f x ≡ g y) → {xs : List X} {ys : List Y} → Related R xs ys → map f xs ≡ map g ys
  related-same f g same none = refl
  related-same f g same (more {x = x} {y = y} r rest) = λ i. same x y r i ∷ related-same f g same rest i

  module _ {A B : Type 0} {S : A → B → Type 0} where
    pub related-map : (f : X → A) (g : Y → B) → ((x : X) (y : Y) → R x y → S (f x) (g y)) → {xs : List X} {ys : List Y} → Related R xs ys → Related S (map f xs) (map g ys)
    related-map f g each none = none
    related-map f g each (more {x = x} {y = y} r rest) = more (each x y r) (related-map f g each rest)

    pub related-flat_map : (f : X → List A) (g : Y → List B) → ((x : X) (y : Y) → R x y → Related S (f x) (g y)) → {xs : List X} {ys : List Y} → Related R xs ys → Related S (flat_map f xs) (flat_map g ys)
    related-flat_map f g each none = none
    related-flat_map f g each (more {x = x} {y = y} r rest) = related-append (each x y r) (related-flat_map f g each rest)

-- ---- joins of related rows are related

module _ {L L' R R' O O' : Type 0} {Left : L → L' → Type 0} {Right : R → R' → Type 0} {Out : O → O' → Type 0}
    (both : L → R → O) (both' : L' → R' → O') (join : (l : L) (l' : L') (r : R) (r' : R') → Left l l' → Right r r' → Out (both l r) (both' l' r')) where
  pub related-crossed : {ls : List L} {ls' : List L'} {rs : List R} {rs' : List R'} → Related Left ls ls' → Related Right rs rs' → Related Out (crossed both ls rs) (crossed both' ls' rs')
  related-crossed {rs = rs} {rs' = rs'} left right =
      related-flat_map (λ l. map (both l) rs) (λ l'. map (both' l') rs') (λ l l' at. related-map (both l) (both' l') (λ r r' of. join l l' r r' at of) right) left

  module _ (holds : O → Bool) (holds' : O' → Bool) (same : (o : O) (o' : O') → Out o o' → holds o ≡ holds' o') where
    related-partners : {rs : List R} {rs' : List R'} → Related Right rs rs' → (l : L) (l' : L') → Left l l' → Related Out (partners both holds rs l) (partners both' holds' rs' l')
    related-partners right l l' at = related-filter holds holds' same (related-map (both l) (both' l') (λ r r' of. join l l' r r' at of) right)

    pub related-inner : {ls : List L} {ls' : List L'} {rs : List R} {rs' : List R'} → Related Left ls ls' → Related Right rs rs' → Related Out (inner_joined both holds ls rs) (inner_joined both' holds' ls' rs')
    related-inner {rs = rs} {rs' = rs'} left right = related-flat_map (partners both holds rs) (partners both' holds' rs') (related-partners right) left

    or_alone-related : (o : O) (o' : O') → Out o o' → {os : List O} {os' : List O'} → Related Out os os' → Related Out (or_alone o os) (or_alone o' os')
    or_alone-related o o' alone none = more alone none
    or_alone-related o o' alone (more first rest) = more first rest

    pub related-left : (alone : L → O) (alone' : L' → O') → ((l : L) (l' : L') → Left l l' → Out (alone l) (alone' l'))
        → {ls : List L} {ls' : List L'} {rs : List R} {rs' : List R'} → Related Left ls ls' → Related Right rs rs' → Related Out (left_joined both holds alone ls rs) (left_joined both' holds' alone' ls' rs')
    related-left alone alone' single {rs = rs} {rs' = rs'} left right =
        related-flat_map (λ l. or_alone (alone l) (partners both holds rs l)) (λ l'. or_alone (alone' l') (partners both' holds' rs' l'))
        (λ l l' at. or_alone-related (alone l) (alone' l') (single l l' at) (related-partners right l l' at)) left

    unless-related : (b : Bool) (o : O) (o' : O') → Out o o' → Related Out (if b then [] else o ∷ []) (if b then [] else o' ∷ [])
    unless-related true o o' alone = none
    unless-related false o o' alone = more alone none

    partnered-same : {ls : List L} {ls' : List L'} → Related Left ls ls' → (r : R) (r' : R') → Right r r' → right_partnered both holds ls r ≡ right_partnered both' holds' ls' r'
    partnered-same left r r' of = related-any (λ l. holds (both l r)) (λ l'. holds' (both' l' r')) (λ l l' at. same (both l r) (both' l' r') (join l l' r r' at of)) left

    related-unpartnered : (alone : R → O) (alone' : R' → O') → ((r : R) (r' : R') → Right r r' → Out (alone r) (alone' r'))
        → {ls : List L} {ls' : List L'} → Related Left ls ls' → (r : R) (r' : R') → Right r r' → Related Out (unpartnered both holds alone ls r) (unpartnered both' holds' alone' ls' r')
    related-unpartnered alone alone' single {ls = ls} {ls' = ls'} left r r' of =
        subst (λ b. Related Out (if b then [] else alone r ∷ []) (unpartnered both' holds' alone' ls' r')) (sym (partnered-same left r r' of))
        (unless-related (right_partnered both' holds' ls' r') (alone r) (alone' r') (single r r' of))

    pub related-full : (left_alone : L → O) (left_alone' : L' → O') → ((l : L) (l' : L') → Left l l' → Out (left_alone l) (left_alone' l'))
        → (right_alone : R → O) (right_alone' : R' → O') → ((r : R) (r' : R') → Right r r' → Out (right_alone r) (right_alone' r'))
        → {ls : List L} {ls' : List L'} {rs : List R} {rs' : List R'} → Related Left ls ls' → Related Right rs rs'
        → Related Out (full_joined both holds left_alone right_alone ls rs) (full_joined both' holds' left_alone' right_alone' ls' rs')
    related-full left_alone left_alone' single_left right_alone right_alone' single_right {ls = ls} {ls' = ls'} left right =
        related-append (related-left left_alone left_alone' single_left left right)
        (related-flat_map (unpartnered both holds right_alone ls) (unpartnered both' holds' right_alone' ls') (related-unpartnered right_alone right_alone' single_right left) right)

-- ---- groups of related rows with equal keys are related

module _ {X Y : Type 0} {R : X → Y → Type 0} (key : X → List Value) (key' : Y → List Value) (same : (x : X) (y : Y) → R x y → key x ≡ key' y) where
  pub related-parts : {xs : List X} {ys : List Y} → Related R xs ys → Related (Related R) (parts key xs) (parts key' ys)
  related-parts {xs} {ys} rows =
      subst (λ keys. Related (Related R) (map (λ k. filter (λ x. same_row (key x) k) xs) (each_once keys)) (parts key' ys)) (sym (related-same key key' same rows))
      (by_keys (each_once (map key' ys)))
    where
      by_keys : (keys : List (List Value)) → Related (Related R) (map (λ k. filter (λ x. same_row (key x) k) xs) keys) (map (λ k. filter (λ y. same_row (key' y) k) ys) keys)
      by_keys [] = none
      by_keys (k ∷ ks) = more (related-filter (λ x. same_row (key x) k) (λ y. same_row (key' y) k) (λ x y r. ap (λ own. same_row own k) (same x y r)) rows) (by_keys ks)

  pub related-groups : {K K' : Type 0} {T : K → K' → Type 0} {keys : List K} {keys' : List K'} → Related T keys keys' → {xs : List X} {ys : List Y} → Related R xs ys → Related (Related R) (groups keys key xs) (groups keys' key' ys)
  related-groups none rows = more rows none
  related-groups (more first rest) rows = related-parts rows
