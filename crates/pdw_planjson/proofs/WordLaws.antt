-- Properties by the hash of a column.
use Rattle.std.proofs.Common.{◌≡◌, ◌≢◌, ℕ, List, [], ◌∷◌, ◌++◌, bytes_eq, codes, drop, take, length, cond, Bool, true, false, Option, Some, None, option_map, refl, sym, ap, subst, ◌∙◌}
use Rattle.std.proofs.lemmas.List.{take-append-drop}
use Rattle.std.proofs.lemmas.Slice.Eq.{bytes_eq-Decides}
use Rattle.pdw_move.specs.declared.kinds.Prop.TheVariants as prop
use Rattle.pdw_planjson.specs.Numerals.{column_in}
use Rattle.pdw_planjson.specs.Words.{hashed}

behind : (rest : List ℕ) → option_map prop.Hash (column_in rest) ≡ hashed (codes "hash:" ++ rest)
behind rest = refl

pub hashed-behind : (text rest : List ℕ) (n : ℕ) → n ≡ length (codes "hash:") → text ≡ codes "hash:" ++ drop n text → rest ≡ drop n text → option_map prop.Hash (column_in rest) ≡ hashed text
hashed-behind text rest n is splits cut = behind rest ∙ ap hashed (ap (λ more. codes "hash:" ++ more) cut ∙ sym splits)

no-hash : (text : List ℕ) (test : Bool) → bytes_eq (take 5 text) (codes "hash:") ≡ test → ((rest : List ℕ) → drop 0 text ≢ codes "hash:" ++ rest) → None ≡ hashed text
no-hash text true is lacks = absurd (lacks (drop 5 text) (sym (take-append-drop 5 text) ∙ ap (λ first. first ++ drop 5 text) ((bytes_eq-Decides (take 5 text) (codes "hash:")).0 is)))
no-hash text false is lacks = ap (λ (test : Bool). cond test (option_map prop.Hash (column_in (drop 5 text))) None) (sym is)

pub not-hashed : (text : List ℕ) → ((rest : List ℕ) → drop 0 text ≢ codes "hash:" ++ rest) → None ≡ hashed text
not-hashed text = no-hash text (bytes_eq (take 5 text) (codes "hash:")) refl
