-- Joins where both sides stand by the hash of columns that a conjunct compares: rows at different nodes are no partners.
use Rattle.std.proofs.Common.{◌≡◌, ◌≢◌, ℕ, ◌<◌, Bool, true, false, cond, List, [], ◌∷◌, ◌++◌, filter, refl, sym, ap, ap₂, ◌∙◌, if◌then◌else◌}
use Rattle.std.proofs.lemmas.Grind.{flat_map-append}
use Rattle.std.proofs.lemmas.List.Elements.{filter-append}
use Rattle.std.specs.List.{AllByRecursion, flat_map}
use Rattle.pdw_base.proofs.SameBagLaws.{SameBag-trans, SameBag-≡}
use Rattle.pdw_base.specs.Hash.{node_for}
use Rattle.pdw_base.specs.SameBag.{SameBag}
use Rattle.pdw_base.specs.Schema.{Env}
use Rattle.pdw_base.specs.declared.node.Node.TheVariants as node
use Rattle.pdw_base.specs.declared.schema.ColId.{ColId}
use Rattle.pdw_base.specs.declared.value.Value.TheVariants.{Null}
use Rattle.pdw_expr.specs.Env.{union}
use Rattle.pdw_expr.specs.Join.{partners, right_partnered, unpartnered}
use Rattle.pdw_expr.specs.Rows.{itself, joined, meets}
use Rattle.pdw_expr.specs.declared.agg.JoinKind.TheVariants as joins
use Rattle.pdw_expr.specs.declared.agg.JoinKind.{JoinKind}
use Rattle.pdw_expr.specs.declared.cond.Cond.{Cond}
use Rattle.pdw_move.specs.Placed.{compute_nodes}
use Rattle.pdw_rules.proofs.Equalities.{meets-equates}
use Rattle.pdw_rules.proofs.Sides.{all-inner, all-joined, any-filter, flat_map-alike, from_left, given_left, has_some, joined-left, left-cell, partners-append, right-cell}
use Rattle.pdw_rules.proofs.Together.{SameBag-flat_map_both, together-lists, together-made, together-only}
use Rattle.pdw_rules.specs.Rules.{is_full, matches_on}
use Rattle.pdw_rules.specs.Stands.{HasNone, IsHashed, PlacedRows, together}

-- a row at a node by its column, that has NULL in the other side's
abbrev pub IsSideAt : ℕ → ColId → ColId → ℕ → Env → Type 0
IsSideAt n own other k row = (node_for n (row own) ≡ k) × (row other ≡ Null)

pub both-sides : (n : ℕ) (own other : ColId) (k : ℕ) (rows : List Env) → AllByRecursion (λ (row : Env). node_for n (row own) ≡ k) rows → HasNone other rows → AllByRecursion (IsSideAt n own other k) rows
both-sides n own other k [] at none = tt
both-sides n own other k (row ∷ rows) at none = ((at.0, none.0), both-sides n own other k rows at.1 none.1)

-- what is made of a left and a right row at a node has the values of both
by-left : (n : ℕ) (a b : ColId) (k : ℕ) (ls rs : List Env) → AllByRecursion (IsSideAt n a b k) ls → AllByRecursion (IsSideAt n b a k) rs
    → AllByRecursion (λ (l : Env). AllByRecursion (λ (r : Env). node_for n (union l r a) ≡ k) rs) ls
by-left n a b k [] rs lefts rights = tt
by-left n a b k (l ∷ ls) rs lefts rights = (each rs rights, by-left n a b k ls rs lefts.1 rights)
  where
    each : (xs : List Env) → AllByRecursion (IsSideAt n b a k) xs → AllByRecursion (λ (r : Env). node_for n (union l r a) ≡ k) xs
    each [] all = tt
    each (r ∷ xs) all = (ap (node_for n) (left-cell a l r all.0.1) ∙ lefts.0.0, each xs all.1)

by-right : (n : ℕ) (a b : ColId) (k : ℕ) (ls rs : List Env) → AllByRecursion (IsSideAt n a b k) ls → AllByRecursion (IsSideAt n b a k) rs
    → AllByRecursion (λ (l : Env). AllByRecursion (λ (r : Env). node_for n (union l r b) ≡ k) rs) ls
by-right n a b k [] rs lefts rights = tt
by-right n a b k (l ∷ ls) rs lefts rights = (each rs rights, by-right n a b k ls rs lefts.1 rights)
  where
    each : (xs : List Env) → AllByRecursion (IsSideAt n b a k) xs → AllByRecursion (λ (r : Env). node_for n (union l r b) ≡ k) xs
    each [] all = tt
    each (r ∷ xs) all = (ap (node_for n) (right-cell b l r lefts.0.1) ∙ all.0.0, each xs all.1)

alone : (n : ℕ) (a b : ColId) (k : ℕ) (ls : List Env) → AllByRecursion (IsSideAt n a b k) ls → AllByRecursion (λ (l : Env). node_for n (l a) ≡ k) ls
alone n a b k [] all = tt
alone n a b k (l ∷ ls) all = (all.0.0, alone n a b k ls all.1)

module _ (n : ℕ) (conds : List Cond) (a b : ColId) (matches : matches_on conds a b ≡ true) where
  never : (i k : ℕ) → k ≢ i → (l r : Env) → IsSideAt n a b i l → IsSideAt n b a k r → meets conds (union l r) ≡ false
  never i k other l r left right = by (meets conds (union l r)) refl
    where
      by : (is : Bool) → meets conds (union l r) ≡ is → meets conds (union l r) ≡ false
      by true met =
          let same : l a ≡ r b = sym (left-cell a l r right.1) ∙ meets-equates conds a b matches (union l r) met ∙ right-cell b l r left.1 in
          absurd (other (sym right.0 ∙ ap (node_for n) (sym same) ∙ left.0))
      by false is = is

  none-right : (i k : ℕ) → k ≢ i → (l : Env) → IsSideAt n a b i l → (rs : List Env) → AllByRecursion (IsSideAt n b a k) rs → partners union (meets conds) rs l ≡ []
  none-right i k other l left [] rights = refl
  none-right i k other l left (r ∷ rs) rights =
      ap (λ is. cond is (union l r ∷ partners union (meets conds) rs l) (partners union (meets conds) rs l)) (never i k other l r left rights.0)
      ∙ none-right i k other l left rs rights.1

  none-left : (i k : ℕ) → i ≢ k → (r : Env) → IsSideAt n b a k r → (ls : List Env) → AllByRecursion (IsSideAt n a b i) ls → filter (λ l. meets conds (union l r)) ls ≡ []
  none-left i k other r right [] lefts = refl
  none-left i k other r right (l ∷ ls) lefts =
      ap (λ is. cond is (l ∷ filter (λ l. meets conds (union l r)) ls) (filter (λ l. meets conds (union l r)) ls)) (never i k (λ e. other (sym e)) l r lefts.0 right)
      ∙ none-left i k other r right ls lefts.1

  module _ (left right : PlacedRows) (lefts : (k : ℕ) → k < n → AllByRecursion (IsSideAt n a b k) (left (node.Compute k))) (rights : (k : ℕ) → k < n → AllByRecursion (IsSideAt n b a k) (right (node.Compute k))) where
    abbrev all_left : List Env
    all_left = together n left

    abbrev all_right : List Env
    all_right = together n right

    -- a left row has its partners at its own node
    partners-at : (i : ℕ) → i < n → (l : Env) → IsSideAt n a b i l → partners union (meets conds) all_right l ≡ partners union (meets conds) (right (node.Compute i)) l
    partners-at i there l at =
        together-made (λ rs. partners union (meets conds) rs l) refl (λ xs ys. partners-append (meets conds) xs ys l) right (compute_nodes n)
        ∙ together-only n i (λ place. partners union (meets conds) (right place) l) there (λ k less other. none-right i k other l at (right (node.Compute k)) (rights k less))

    -- and a right row
    partnered-at : (k : ℕ) → k < n → (r : Env) → IsSideAt n b a k r → right_partnered union (meets conds) all_left r ≡ right_partnered union (meets conds) (left (node.Compute k)) r
    partnered-at k there r at =
        any-filter (λ l. meets conds (union l r)) all_left
        ∙ ap has_some (together-made (filter (λ l. meets conds (union l r))) refl (filter-append (λ l. meets conds (union l r))) left (compute_nodes n)
        ∙ together-only n k (λ place. filter (λ l. meets conds (union l r)) (left place)) there (λ i less other. none-left i k other r at (left (node.Compute i)) (lefts i less)))
        ∙ sym (any-filter (λ l. meets conds (union l r)) (left (node.Compute k)))

    left-at : (kind : JoinKind) (i : ℕ) → i < n → (ls : List Env) → AllByRecursion (IsSideAt n a b i) ls
        → AllByRecursion (λ l. given_left conds kind all_right l ≡ given_left conds kind (right (node.Compute i)) l) ls
    left-at kind i there [] all = tt
    left-at kind i there (l ∷ ls) all = (ap (from_left kind l) (partners-at i there l all.0), left-at kind i there ls all.1)

    -- what is given of left rows is given of those of each node
    left-together : (kind : JoinKind) → flat_map (given_left conds kind all_right) all_left ≡ together n (λ place. flat_map (given_left conds kind (right place)) (left place))
    left-together kind =
        together-made (flat_map (given_left conds kind all_right)) refl (flat_map-append (given_left conds kind all_right)) left (compute_nodes n)
        ∙ together-lists n (λ place. flat_map (given_left conds kind all_right) (left place)) (λ place. flat_map (given_left conds kind (right place)) (left place))
        (λ k less. flat_map-alike (given_left conds kind all_right) (given_left conds kind (right (node.Compute k))) (left (node.Compute k)) (left-at kind k less (left (node.Compute k)) (lefts k less)))

    abbrev alone_of : List Env → Env → List Env
    alone_of ls r = unpartnered union (meets conds) itself ls r

    right-at : (k : ℕ) → k < n → (rs : List Env) → AllByRecursion (IsSideAt n b a k) rs → AllByRecursion (λ r. alone_of all_left r ≡ alone_of (left (node.Compute k)) r) rs
    right-at k there [] all = tt
    right-at k there (r ∷ rs) all = (ap (λ is. if is then [] else r ∷ []) (partnered-at k there r all.0), right-at k there rs all.1)

    right-together : flat_map (alone_of all_left) all_right ≡ together n (λ place. flat_map (alone_of (left place)) (right place))
    right-together =
        together-made (flat_map (alone_of all_left)) refl (flat_map-append (alone_of all_left)) right (compute_nodes n)
        ∙ together-lists n (λ place. flat_map (alone_of all_left) (right place)) (λ place. flat_map (alone_of (left place)) (right place))
        (λ k less. flat_map-alike (alone_of all_left) (alone_of (left (node.Compute k))) (right (node.Compute k)) (right-at k less (right (node.Compute k)) (rights k less)))

    abbrev joined_rows : JoinKind → PlacedRows
    joined_rows kind place = joined kind conds (left place) (right place)

    -- the joins of all nodes are the join
    pub matched-lists : (kind : JoinKind) → is_full kind ≡ false → together n (joined_rows kind) ≡ joined kind conds all_left all_right
    matched-lists kind other =
        together-lists n (joined_rows kind) (λ place. flat_map (given_left conds kind (right place)) (left place)) (λ k less. joined-left conds kind other (left (node.Compute k)) (right (node.Compute k)))
        ∙ sym (left-together kind)
        ∙ sym (joined-left conds kind other all_left all_right)

    pub matched-full : SameBag (together n (joined_rows joins.Full)) (joined joins.Full conds all_left all_right)
    matched-full =
        SameBag-trans
        (SameBag-flat_map_both (λ place. flat_map (given_left conds joins.Full (right place)) (left place)) (λ place. flat_map (alone_of (left place)) (right place)) (compute_nodes n))
        (SameBag-≡ (ap₂ (λ first second. first ++ second) (sym (left-together joins.Full)) (sym right-together)))

    -- and they stand by the hash of the left column, and inner ones by that of the right one
    pub matched-left : (kind : JoinKind) → is_full kind ≡ false → IsHashed n a (joined_rows kind)
    matched-left kind other = λ k less.
        all-joined conds (λ (row : Env). node_for n (row a) ≡ k) kind other (left (node.Compute k)) (right (node.Compute k))
        (alone n a b k (left (node.Compute k)) (lefts k less))
        (by-left n a b k (left (node.Compute k)) (right (node.Compute k)) (lefts k less) (rights k less))

    pub matched-right : IsHashed n b (joined_rows joins.Inner)
    matched-right = λ k less.
        all-inner conds (λ (row : Env). node_for n (row b) ≡ k) (left (node.Compute k)) (right (node.Compute k))
        (by-right n a b k (left (node.Compute k)) (right (node.Compute k)) (lefts k less) (rights k less))
