-- Properties that are the same, rows made at a site, free changes, and what is returned.
use Rattle.std.proofs.Common.{◌≡◌, ℕ, ◌<◌, ◌≤◌, true, true≢false, List, [], ◌++◌, refl, sym, ap, subst, arith, ne_eqb, if◌then◌else◌}
use Rattle.pdw_algebra.proofs.AllLaws.{numbers-same}
use Rattle.pdw_base.proofs.SameBagLaws.{SameBag-trans, SameBag-≡}
use Rattle.pdw_base.specs.SameBag.{SameBag}
use Rattle.pdw_base.specs.Schema.{Env}
use Rattle.pdw_base.specs.declared.node.Node.TheVariants as node
use Rattle.pdw_base.specs.declared.schema.ColId.{ColId}
use Rattle.pdw_move.specs.Placed.{compute_nodes}
use Rattle.pdw_move.specs.declared.kinds.Prop.TheVariants.{Spread, Hash, Replicated, Single, Control}
use Rattle.pdw_move.specs.declared.kinds.Prop.{Prop}
use Rattle.pdw_rules.proofs.Together.{together-lists, together-made}
use Rattle.pdw_rules.specs.Rules.{is_free, is_same, is_whole}
use Rattle.pdw_rules.specs.Stands.{IsHashed, IsInside, PlacedRows, StandsFor, made_at, returned, together}

pub same-property : (p q : Prop) → is_same p q ≡ true → p ≡ q
same-property Spread Spread same = refl
same-property (Hash c) (Hash d) same = ap Hash (numbers-same c d same)
same-property Replicated Replicated same = refl
same-property Single Single same = refl
same-property Control Control same = refl
same-property _ _ same = absurd (true≢false (sym same))

-- ---- rows made at a site

pub made-inside : (p : Prop) (rows : PlacedRows) → IsInside p (made_at p rows)
made-inside p rows place outside = ap (λ is. if is then rows place else []) outside

-- the other compute nodes have no row
pub made-elsewhere : (rows : PlacedRows) (k : ℕ) → 0 < k → made_at Single rows (node.Compute k) ≡ []
made-elsewhere rows k more = made-inside Single rows (node.Compute k) (ne_eqb k 0 (λ e. absurd (omega (arith, more, e))))

-- under a result that a rule gives
pub under-result : (n : ℕ) (p result : Prop) (rows : PlacedRows) (bag : List Env) → is_same p result ≡ true → StandsFor n p (made_at p rows) bag → StandsFor n result (made_at result rows) bag
under-result n p result rows bag same stands = subst (λ q. StandsFor n q (made_at q rows) bag) (same-property p result same) stands

module _ (n : ℕ) where
  -- rows that are made at the compute nodes
  pub at-spread : (rows : PlacedRows) (bag : List Env) → SameBag (together n rows) bag → StandsFor n Spread (made_at Spread rows) bag
  at-spread rows bag same = SameBag-trans (SameBag-≡ (together-lists n (made_at Spread rows) rows (λ k less. refl))) same

  pub at-hash : (c : ColId) (rows : PlacedRows) (bag : List Env) → SameBag (together n rows) bag → IsHashed n c rows → StandsFor n (Hash c) (made_at (Hash c) rows) bag
  at-hash c rows bag same hashed = (SameBag-trans (SameBag-≡ (together-lists n (made_at (Hash c) rows) rows (λ k less. refl))) same, hashed)

  -- ---- free changes

  pub free-stands : 1 ≤ n → (p q : Prop) → is_free p q ≡ true → (rows : PlacedRows) (bag : List Env) → StandsFor n p rows bag → StandsFor n q (made_at q rows) bag
  free-stands some (Hash c) Spread free rows bag stands = at-spread rows bag stands.0
  free-stands some Replicated Single free rows bag stands = (stands 0 (omega (arith, some)), λ k more less. made-elsewhere rows k more)
  free-stands some _ _ free rows bag stands = absurd (true≢false (sym free))

  -- ---- the return

  pub returned-bag : 1 ≤ n → (p : Prop) (rows : PlacedRows) (bag : List Env) → StandsFor n p rows bag → SameBag (returned n p rows) bag
  returned-bag some Spread rows bag stands = stands
  returned-bag some (Hash c) rows bag stands = stands.0
  returned-bag some Replicated rows bag stands = stands 0 (omega (arith, some))
  returned-bag some Single rows bag stands = stands.0
  returned-bag some Control rows bag stands = stands

  -- ---- operators of one child, applied node by node

  module _ (give : List Env → List Env) (same : (xs ys : List Env) → SameBag xs ys → SameBag (give xs) (give ys)) where
    abbrev each : PlacedRows → PlacedRows
    each rows place = give (rows place)

    -- where each node of the site has the whole bag
    pub whole-stands : (p : Prop) → is_whole p ≡ true → (rows : PlacedRows) (bag : List Env) → StandsFor n p rows bag → StandsFor n p (made_at p (each rows)) (give bag)
    whole-stands Spread whole rows bag stands = absurd (true≢false (sym whole))
    whole-stands (Hash c) whole rows bag stands = absurd (true≢false (sym whole))
    whole-stands Replicated whole rows bag stands = λ k less. same (rows (node.Compute k)) bag (stands k less)
    whole-stands Single whole rows bag stands = (same (rows (node.Compute 0)) bag stands.0, λ k more less. made-elsewhere (each rows) k more)
    whole-stands Control whole rows bag stands = same (rows node.Control) bag stands

    -- where what is given of parts is given of the whole
    pub together-stands : give [] ≡ [] → ((xs ys : List Env) → give (xs ++ ys) ≡ give xs ++ give ys) → (rows : PlacedRows) (bag : List Env) → SameBag (together n rows) bag
        → SameBag (together n (each rows)) (give bag)
    together-stands none parts rows bag stands =
        SameBag-trans (SameBag-≡ (sym (together-made give none parts rows (compute_nodes n)))) (same (together n rows) bag stands)
