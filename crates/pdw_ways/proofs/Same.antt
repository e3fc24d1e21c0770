-- Properties that are the same are equal.
use Rattle.std.proofs.Common.{◌≡◌, ◌==◌, ℕ, true, false, true≢false, refl, sym, ap, eq-eqb}
use Rattle.std.proofs.lemmas.Bool.{eqb-true}
use Rattle.pdw_base.specs.declared.schema.ColId.{ColId}
use Rattle.pdw_groups.specs.declared.key.GroupId.{GroupId}
use Rattle.pdw_move.specs.declared.kinds.Prop.TheVariants.{Spread, Hash, Replicated, Single, Control}
use Rattle.pdw_move.specs.declared.kinds.Prop.{Prop}
use Rattle.pdw_rules.specs.Rules.{is_same}

pub column-alike : (c d : ColId) → (c.0 == d.0) ≡ true → c ≡ d
column-alike c d same = ap (λ (number : ℕ). let column : ColId = record { 0 = number } in column) (eqb-true c.0 d.0 same)

pub column-itself : (c : ColId) → (c.0 == c.0) ≡ true
column-itself c = eq-eqb c.0 c.0 refl

pub group-alike : (g h : GroupId) → (g.0 == h.0) ≡ true → g ≡ h
group-alike g h same = ap (λ (number : ℕ). let group : GroupId = record { 0 = number } in group) (eqb-true g.0 h.0 same)

pub group-itself : (g : GroupId) → (g.0 == g.0) ≡ true
group-itself g = eq-eqb g.0 g.0 refl

pub never : {A : Type 0} → false ≡ true → A
never wrong = absurd (true≢false (sym wrong))

pub same-alike : (p q : Prop) → is_same p q ≡ true → p ≡ q
same-alike Spread Spread same = refl
same-alike (Hash c) (Hash d) same = ap Hash (column-alike c d same)
same-alike Replicated Replicated same = refl
same-alike Single Single same = refl
same-alike Control Control same = refl
same-alike _ _ same = never same

pub same-itself : (p : Prop) → is_same p p ≡ true
same-itself Spread = refl
same-itself (Hash c) = column-itself c
same-itself Replicated = refl
same-itself Single = refl
same-itself Control = refl
