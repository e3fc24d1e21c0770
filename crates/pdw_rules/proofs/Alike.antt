-- What rows stand for is a matter of bags, at each node and in whole.
use Rattle.std.proofs.Common.{◌≡◌, ℕ, ◌==◌, ◌||◌, Bool, true, false, true≢false, List, [], ◌∷◌, length, not, arith, refl, ap, ap₂, ◌∙◌, eq-eqb, eqb-true}
use Rattle.std.specs.List.{AllByRecursion, list_any}
use Rattle.pdw_bag_laws.proofs.Occurrence.{SameBag-list_any}
use Rattle.pdw_base.proofs.SameBagLaws.{SameBag-length, SameBag-sym, SameBag-trans}
use Rattle.pdw_base.specs.Hash.{node_for}
use Rattle.pdw_base.specs.SameBag.{SameBag}
use Rattle.pdw_base.specs.Schema.{Env}
use Rattle.pdw_base.specs.declared.node.Node.TheVariants as node
use Rattle.pdw_base.specs.declared.node.Node.{Node}
use Rattle.pdw_base.specs.declared.schema.ColId.{ColId}
use Rattle.pdw_move.specs.declared.kinds.Prop.TheVariants.{Spread, Hash, Replicated, Single, Control}
use Rattle.pdw_move.specs.declared.kinds.Prop.{Prop}
use Rattle.pdw_rules.proofs.Together.{together-bags}
use Rattle.pdw_rules.specs.Stands.{PlacedRows, StandsFor}

-- ---- a test that no row of a bag passes

module _ (test : Env → Bool) where
  none-any : (rows : List Env) → AllByRecursion (λ (row : Env). test row ≡ false) rows → list_any test rows ≡ false
  none-any [] none = refl
  none-any (row ∷ rows) none = ap₂ (λ here later. here || later) none.0 (none-any rows none.1)

  any-none : (rows : List Env) → list_any test rows ≡ false → AllByRecursion (λ (row : Env). test row ≡ false) rows
  any-none [] none = tt
  any-none (row ∷ rows) none = by (test row) refl none (any-none rows)
    where
      by : (is : Bool) → test row ≡ is → (is || list_any test rows) ≡ false → (list_any test rows ≡ false → AllByRecursion (λ (r : Env). test r ≡ false) rows)
          → AllByRecursion (λ (r : Env). test r ≡ false) (row ∷ rows)
      by true is none rest = absurd (true≢false none)
      by false is none rest = (is, rest none)

  -- no row of an equal bag passes it
  pub none-alike : (rows others : List Env) → SameBag rows others → AllByRecursion (λ (row : Env). test row ≡ false) others → AllByRecursion (λ (row : Env). test row ≡ false) rows
  none-alike rows others same none = any-none rows (SameBag-list_any test same ∙ none-any others none)

-- ---- rows by the hash of a column

module _ (n : ℕ) (c : ColId) (k : ℕ) where
  abbrev is_elsewhere : Env → Bool
  is_elsewhere row = not (node_for n (row c) == k)

  to-test : (rows : List Env) → AllByRecursion (λ (row : Env). node_for n (row c) ≡ k) rows → AllByRecursion (λ (row : Env). is_elsewhere row ≡ false) rows
  to-test [] all = tt
  to-test (row ∷ rows) all = (ap not (eq-eqb (node_for n (row c)) k all.0), to-test rows all.1)

  from-test : (rows : List Env) → AllByRecursion (λ (row : Env). is_elsewhere row ≡ false) rows → AllByRecursion (λ (row : Env). node_for n (row c) ≡ k) rows
  from-test [] none = tt
  from-test (row ∷ rows) none = (eqb-true (node_for n (row c)) k (by (node_for n (row c) == k) none.0), from-test rows none.1)
    where
      by : (is : Bool) → not is ≡ false → is ≡ true
      by true e = refl
      by false e = absurd (true≢false e)

  hashed-alike : (rows others : List Env) → SameBag rows others → AllByRecursion (λ (row : Env). node_for n (row c) ≡ k) others → AllByRecursion (λ (row : Env). node_for n (row c) ≡ k) rows
  hashed-alike rows others same all = from-test rows (none-alike is_elsewhere rows others same (to-test others all))

-- ---- the law

none-of : (rows : List Env) → length rows ≡ 0 → rows ≡ []
none-of [] none = refl
none-of (row ∷ rows) none = absurd (omega (arith, none))

module _ (n : ℕ) (bag other : List Env) (same : SameBag bag other) (rows others : PlacedRows) (alike : (place : Node) → SameBag (rows place) (others place)) where
  back : (place : Node) → SameBag (others place) (rows place)
  back place = SameBag-sym (alike place)

  pub stands-alike : (p : Prop) → StandsFor n p rows bag → StandsFor n p others other
  stands-alike Spread stands = SameBag-trans (together-bags n others rows (λ k less. back (node.Compute k))) (SameBag-trans stands same)
  stands-alike (Hash c) stands = (
    SameBag-trans (together-bags n others rows (λ k less. back (node.Compute k))) (SameBag-trans stands.0 same),
    λ k less. hashed-alike n c k (others (node.Compute k)) (rows (node.Compute k)) (back (node.Compute k)) (stands.1 k less),
  )
  stands-alike Replicated stands = λ k less. SameBag-trans (back (node.Compute k)) (SameBag-trans (stands k less) same)
  stands-alike Single stands = (
    SameBag-trans (back (node.Compute 0)) (SameBag-trans stands.0 same),
    λ k more less. none-of (others (node.Compute k)) (SameBag-length (back (node.Compute k)) ∙ ap length (stands.1 k more less)),
  )
  stands-alike Control stands = SameBag-trans (back node.Control) (SameBag-trans stands same)
