-- Joins, node by node, under each of their rules.
use Rattle.std.proofs.Common.{◌≡◌, ℕ, ◌<◌, ◌≤◌, Bool, true, false, true≢false, ◌&&◌, ◌||◌, ◌⊎◌, inl, inr, not, List, [], ◌∷◌, refl, sym, ap, ◌∙◌, subst, arith}
use Rattle.std.proofs.lemmas.Bool.{and_parts, or_cases}
use Rattle.std.specs.List.{AllByRecursion, flat_map}
use Rattle.pdw_bag_laws.proofs.Operators.{SameBag-joined}
use Rattle.pdw_base.proofs.SameBagLaws.{SameBag-refl, SameBag-swap, SameBag-trans, SameBag-≡}
use Rattle.pdw_base.specs.Hash.{node_for}
use Rattle.pdw_base.specs.SameBag.{SameBag}
use Rattle.pdw_base.specs.Schema.{Env}
use Rattle.pdw_base.specs.declared.node.Node.{Node}
use Rattle.pdw_base.specs.declared.node.Node.TheVariants as node
use Rattle.pdw_base.specs.declared.schema.ColId.{ColId}
use Rattle.pdw_base.specs.declared.value.Value.TheVariants.{Null}
use Rattle.pdw_expr.specs.Env.{union}
use Rattle.pdw_expr.specs.Join.{partners}
use Rattle.pdw_expr.specs.Rows.{joined, meets}
use Rattle.pdw_expr.specs.declared.agg.JoinKind.TheVariants as joins
use Rattle.pdw_expr.specs.declared.agg.JoinKind.{JoinKind}
use Rattle.pdw_expr.specs.declared.cond.Cond.{Cond}
use Rattle.pdw_move.specs.Placed.{compute_nodes}
use Rattle.pdw_move.specs.declared.kinds.Prop.TheVariants.{Spread, Hash, Replicated, Single, Control}
use Rattle.pdw_move.specs.declared.kinds.Prop.{Prop}
use Rattle.pdw_rules.proofs.Matched.{IsSideAt, both-sides, matched-full, matched-left, matched-lists, matched-right}
use Rattle.pdw_rules.proofs.SiteLemmas.{at-hash, at-spread, made-elsewhere, same-property, under-result}
use Rattle.pdw_rules.proofs.Sides.{all-at, all-inner, all-joined, joined-none, joined-parts, left-cell, none-same, partners-append, right-cell}
use Rattle.pdw_rules.proofs.Together.{together-bags, together-made}
use Rattle.pdw_rules.specs.Rules.{hashes_rule, is_divided, is_full, is_inner, is_same, is_whole, join_rule, matched_rule, matches_on, one_site_rule, replicated_left_rule, replicated_right_rule}
use Rattle.pdw_rules.specs.Stands.{HasNone, HasNoneOf, PlacedRows, StandsFor, made_at, together}

-- ---- rows of which one side has NULL in the other's column

none-at : (n : ℕ) (c : ColId) (rows : PlacedRows) (bag : List Env) → SameBag (together n rows) bag → HasNone c bag → (k : ℕ) → k < n → HasNone c (rows (node.Compute k))
none-at n c rows bag same none k less = all-at (λ (row : Env). row c ≡ Null) n rows (none-same c (together n rows) bag same none) k less

left-hashed : (n : ℕ) (c : ColId) (k : ℕ) (ls rs : List Env) → AllByRecursion (λ (l : Env). node_for n (l c) ≡ k) ls → HasNone c rs
    → AllByRecursion (λ (l : Env). AllByRecursion (λ (r : Env). node_for n (union l r c) ≡ k) rs) ls
left-hashed n c k [] rs at none = tt
left-hashed n c k (l ∷ ls) rs at none = (each rs none, left-hashed n c k ls rs at.1 none)
  where
    each : (xs : List Env) → HasNone c xs → AllByRecursion (λ (r : Env). node_for n (union l r c) ≡ k) xs
    each [] none = tt
    each (r ∷ xs) none = (ap (node_for n) (left-cell c l r none.0) ∙ at.0, each xs none.1)

right-hashed : (n : ℕ) (c : ColId) (k : ℕ) (ls rs : List Env) → HasNone c ls → AllByRecursion (λ (r : Env). node_for n (r c) ≡ k) rs
    → AllByRecursion (λ (l : Env). AllByRecursion (λ (r : Env). node_for n (union l r c) ≡ k) rs) ls
right-hashed n c k [] rs none at = tt
right-hashed n c k (l ∷ ls) rs none at = (each rs at, right-hashed n c k ls rs none.1 at)
  where
    each : (xs : List Env) → AllByRecursion (λ (r : Env). node_for n (r c) ≡ k) xs → AllByRecursion (λ (r : Env). node_for n (union l r c) ≡ k) xs
    each [] at = tt
    each (r ∷ xs) at = (ap (node_for n) (right-cell c l r none.0) ∙ at.0, each xs at.1)

abbrev pub joined_at : JoinKind → List Cond → PlacedRows → PlacedRows → PlacedRows
joined_at kind conds left right place = joined kind conds (left place) (right place)

module _ (n : ℕ) (conds : List Cond) (left right : PlacedRows) (ls rs : List Env) where
  abbrev Result : JoinKind → Prop → Type 0
  Result kind p = StandsFor n p (made_at p (joined_at kind conds left right)) (joined kind conds ls rs)

  under : (kind : JoinKind) (p result : Prop) → is_same p result ≡ true → Result kind p → Result kind result
  under kind p result same stands = under-result n p result (joined_at kind conds left right) (joined kind conds ls rs) same stands

  -- ---- both sides by the hash of compared columns

  module _ (a b : ColId) (matches : matches_on conds a b ≡ true) (first : StandsFor n (Hash a) left ls) (second : StandsFor n (Hash b) right rs) (own : HasNone a rs) (other : HasNone b ls) where
    lefts : (k : ℕ) → k < n → AllByRecursion (IsSideAt n a b k) (left (node.Compute k))
    lefts k less = both-sides n a b k (left (node.Compute k)) (first.1 k less) (none-at n b left ls first.0 other k less)

    rights : (k : ℕ) → k < n → AllByRecursion (IsSideAt n b a k) (right (node.Compute k))
    rights k less = both-sides n b a k (right (node.Compute k)) (second.1 k less) (none-at n a right rs second.0 own k less)

    hash-together : (kind : JoinKind) → is_full kind ≡ false → SameBag (together n (joined_at kind conds left right)) (joined kind conds ls rs)
    hash-together kind partial = SameBag-trans (SameBag-≡ (matched-lists n conds a b matches left right lefts rights kind partial)) (SameBag-joined kind conds first.0 second.0)

    by-left : (kind : JoinKind) → is_full kind ≡ false → Result kind (Hash a)
    by-left kind partial = at-hash n a (joined_at kind conds left right) (joined kind conds ls rs) (hash-together kind partial) (matched-left n conds a b matches left right lefts rights kind partial)

    by-right : Result joins.Inner (Hash b)
    by-right = at-hash n b (joined_at joins.Inner conds left right) (joined joins.Inner conds ls rs) (hash-together joins.Inner refl) (matched-right n conds a b matches left right lefts rights)

    spread-full : Result joins.Full Spread
    spread-full =
        at-spread n (joined_at joins.Full conds left right) (joined joins.Full conds ls rs)
        (SameBag-trans (matched-full n conds a b matches left right lefts rights) (SameBag-joined joins.Full conds first.0 second.0))

    matched-result : (kind : JoinKind) (result : Prop) → matched_rule kind a b result ≡ true → Result kind result
    matched-result joins.Inner result rule = by (or_cases (is_same (Hash a) result) (is_same (Hash b) result) rule)
      where
        by : ((is_same (Hash a) result ≡ true) ⊎ (is_same (Hash b) result ≡ true)) → Result joins.Inner result
        by (inl same) = under joins.Inner (Hash a) result same (by-left joins.Inner refl)
        by (inr same) = under joins.Inner (Hash b) result same by-right
    matched-result joins.Left result rule = under joins.Left (Hash a) result rule (by-left joins.Left refl)
    matched-result joins.Full result rule = under joins.Full Spread result rule spread-full
    matched-result joins.Semi result rule = under joins.Semi (Hash a) result rule (by-left joins.Semi refl)
    matched-result joins.Anti result rule = under joins.Anti (Hash a) result rule (by-left joins.Anti refl)

  hashes-result : (kind : JoinKind) (p q result : Prop) → hashes_rule kind conds p q result ≡ true → StandsFor n p left ls → StandsFor n q right rs → HasNoneOf p rs → HasNoneOf q ls → Result kind result
  hashes-result kind (Hash a) (Hash b) result rule first second own other =
      let parts = and_parts (matches_on conds a b) (matched_rule kind a b result) rule in
      matched-result a b parts.0 first second own other kind result parts.1
  hashes-result kind _ _ result rule first second own other = absurd (true≢false (sym rule))

  -- ---- the right side replicated

  module _ (kind : JoinKind) (partial : is_full kind ≡ false) (second : StandsFor n Replicated right rs) where
    right-together : SameBag (together n left) ls → SameBag (together n (joined_at kind conds left right)) (joined kind conds ls rs)
    right-together first =
        SameBag-trans (together-bags n (joined_at kind conds left right) (λ place. joined kind conds (left place) rs) (λ k less. SameBag-joined kind conds (SameBag-refl (left (node.Compute k))) (second k less)))
        (SameBag-trans (SameBag-≡ (sym (together-made (λ xs. joined kind conds xs rs) (joined-none conds kind partial rs) (joined-parts conds kind partial rs) left (compute_nodes n))))
        (SameBag-joined kind conds first (SameBag-refl rs)))

    right-replicated : 1 ≤ n → (p : Prop) → is_divided p ≡ true → StandsFor n p left ls → HasNoneOf p rs → Result kind p
    right-replicated some Spread divided first own = at-spread n (joined_at kind conds left right) (joined kind conds ls rs) (right-together first)
    right-replicated some (Hash a) divided first own =
        at-hash n a (joined_at kind conds left right) (joined kind conds ls rs) (right-together first.0) (λ k less.
        all-joined conds (λ (row : Env). node_for n (row a) ≡ k) kind partial (left (node.Compute k)) (right (node.Compute k)) (first.1 k less)
        (left-hashed n a k (left (node.Compute k)) (right (node.Compute k)) (first.1 k less) (none-same a (right (node.Compute k)) rs (second k less) own)))
    right-replicated some Replicated divided first own = absurd (true≢false (sym divided))
    right-replicated some Single divided first own = (
      SameBag-joined kind conds first.0 (second 0 (omega (arith, some))),
      λ k more less. made-elsewhere (joined_at kind conds left right) k more,
    )
    right-replicated some Control divided first own = absurd (true≢false (sym divided))

  -- ---- the left side replicated, of an inner join

  module _ (first : StandsFor n Replicated left ls) where
    left-together : SameBag (together n right) rs → SameBag (together n (joined_at joins.Inner conds left right)) (joined joins.Inner conds ls rs)
    left-together second =
        SameBag-trans (together-bags n (joined_at joins.Inner conds left right) (λ place. joined joins.Inner conds ls (right place)) (λ k less. SameBag-joined joins.Inner conds (first k less) (SameBag-refl (right (node.Compute k)))))
        (SameBag-trans (SameBag-swap (λ (place : Node) (l : Env). partners union (meets conds) (right place) l) (compute_nodes n) ls)
        (SameBag-trans (SameBag-≡ (ap (λ (f : Env → List Env). flat_map f ls) (λ i l. sym (partners-together l) i)))
        (SameBag-joined joins.Inner conds (SameBag-refl ls) second)))
      where
        partners-together : (l : Env) → partners union (meets conds) (together n right) l ≡ flat_map (λ place. partners union (meets conds) (right place) l) (compute_nodes n)
        partners-together l = together-made (λ xs. partners union (meets conds) xs l) refl (λ xs ys. partners-append (meets conds) xs ys l) right (compute_nodes n)

    left-replicated : 1 ≤ n → (q : Prop) → is_divided q ≡ true → StandsFor n q right rs → HasNoneOf q ls → Result joins.Inner q
    left-replicated some Spread divided second own = at-spread n (joined_at joins.Inner conds left right) (joined joins.Inner conds ls rs) (left-together second)
    left-replicated some (Hash b) divided second own =
        at-hash n b (joined_at joins.Inner conds left right) (joined joins.Inner conds ls rs) (left-together second.0) (λ k less.
        all-inner conds (λ (row : Env). node_for n (row b) ≡ k) (left (node.Compute k)) (right (node.Compute k))
        (right-hashed n b k (left (node.Compute k)) (right (node.Compute k)) (none-same b (left (node.Compute k)) ls (first k less) own) (second.1 k less)))
    left-replicated some Replicated divided second own = absurd (true≢false (sym divided))
    left-replicated some Single divided second own = (
      SameBag-joined joins.Inner conds (first 0 (omega (arith, some))) second.0,
      λ k more less. made-elsewhere (joined_at joins.Inner conds left right) k more,
    )
    left-replicated some Control divided second own = absurd (true≢false (sym divided))

  -- ---- both sides whole at the same nodes

  one-site : (kind : JoinKind) (p : Prop) → is_whole p ≡ true → StandsFor n p left ls → StandsFor n p right rs → Result kind p
  one-site kind Spread whole first second = absurd (true≢false (sym whole))
  one-site kind (Hash c) whole first second = absurd (true≢false (sym whole))
  one-site kind Replicated whole first second = λ k less. SameBag-joined kind conds (first k less) (second k less)
  one-site kind Single whole first second = (SameBag-joined kind conds first.0 second.0, λ k more less. made-elsewhere (joined_at kind conds left right) k more)
  one-site kind Control whole first second = SameBag-joined kind conds first second

  -- ---- the rules

  module _ (some : 1 ≤ n) (kind : JoinKind) (p q result : Prop) (first : StandsFor n p left ls) (second : StandsFor n q right rs) (own : HasNoneOf p rs) (other : HasNoneOf q ls) where
    right-result : replicated_right_rule kind p q result ≡ true → Result kind result
    right-result rule =
        let full = and_parts (not (is_full kind)) _ rule in
        let divided = and_parts (is_divided p) _ full.1 in
        let same = and_parts (is_same q Replicated) (is_same p result) divided.1 in
        let replicated : StandsFor n Replicated right rs = subst (λ r. StandsFor n r right rs) (same-property q Replicated same.0) second in
        under kind p result same.1 (right-replicated kind (by (is_full kind) full.0) replicated some p divided.0 first own)
      where
        by : (is : Bool) → not is ≡ true → is ≡ false
        by true e = absurd (true≢false (sym e))
        by false e = refl

    left-result : replicated_left_rule kind p q result ≡ true → Result kind result
    left-result rule = by kind (and_parts (is_inner kind) _ rule).0 (and_parts (is_inner kind) _ rule).1
      where
        inner : (is_same p Replicated && (is_divided q && is_same q result)) ≡ true → Result joins.Inner result
        inner rest =
            let same = and_parts (is_same p Replicated) _ rest in
            let divided = and_parts (is_divided q) (is_same q result) same.1 in
            let replicated : StandsFor n Replicated left ls = subst (λ r. StandsFor n r left ls) (same-property p Replicated same.0) first in
            under joins.Inner q result divided.1 (left-replicated replicated some q divided.0 second other)

        by : (kind : JoinKind) → is_inner kind ≡ true → (is_same p Replicated && (is_divided q && is_same q result)) ≡ true → Result kind result
        by joins.Inner is rest = inner rest
        by _ is rest = absurd (true≢false (sym is))

    site-result : one_site_rule p q result ≡ true → Result kind result
    site-result rule =
        let whole = and_parts (is_whole p) _ rule in
        let same = and_parts (is_same p q) (is_same p result) whole.1 in
        under kind p result same.1 (one-site kind p whole.0 first (subst (λ r. StandsFor n r right rs) (sym (same-property p q same.0)) second))

    join-result : join_rule kind conds p q result ≡ true → Result kind result
    join-result rule = by (or_cases (hashes_rule kind conds p q result) _ rule)
      where
        last : ((replicated_left_rule kind p q result ≡ true) ⊎ (one_site_rule p q result ≡ true)) → Result kind result
        last (inl rule) = left-result rule
        last (inr rule) = site-result rule

        later : ((replicated_right_rule kind p q result ≡ true) ⊎ ((replicated_left_rule kind p q result || one_site_rule p q result) ≡ true)) → Result kind result
        later (inl rule) = right-result rule
        later (inr rest) = last (or_cases (replicated_left_rule kind p q result) (one_site_rule p q result) rest)

        by : ((hashes_rule kind conds p q result ≡ true) ⊎ ((replicated_right_rule kind p q result || (replicated_left_rule kind p q result || one_site_rule p q result)) ≡ true)) → Result kind result
        by (inl rule) = hashes-result kind p q result rule first second own other
        by (inr rest) = later (or_cases (replicated_right_rule kind p q result) _ rest)

pub join-stands : (n : ℕ) → 1 ≤ n → (kind : JoinKind) (conds : List Cond) (p q result : Prop) → join_rule kind conds p q result ≡ true → (left right : PlacedRows) (ls rs : List Env)
    → StandsFor n p left ls → StandsFor n q right rs → HasNoneOf p rs → HasNoneOf q ls
    → StandsFor n result (made_at result (λ place. joined kind conds (left place) (right place))) (joined kind conds ls rs)
join-stands n some kind conds p q result rule left right ls rs first second own other = join-result n conds left right ls rs some kind p q result first second own other rule
