-- The bytes up to the first that does not pass a test.
use Rattle.std.proofs.Common.{◌≡◌, ℕ, suc, ◌+◌, ◌<◌, Bool, true, false, cond, List, [], ◌∷◌, ◌++◌, length, take, drop, refl, ap, ◌∙◌, arith}
use Rattle.std.specs.List.{prefix_len, list_all}
use Rattle.std.proofs.lemmas.Bool.{and_parts}
use Rattle.pdw_lex.specs.Bytes.{begins_with}

pub run_all : (p : ℕ → Bool) (bytes : List ℕ) → list_all p (take (prefix_len p bytes) bytes) ≡ true
run_all p [] = refl
run_all p (b ∷ bs) = by (run_all p bs) (p b) refl
  where
    by : list_all p (take (prefix_len p bs) bs) ≡ true → (t : Bool) → p b ≡ t → list_all p (take (cond t (1 + prefix_len p bs) 0) (b ∷ bs)) ≡ true
    by more true e = let one : 1 + prefix_len p bs ≡ suc (prefix_len p bs) = omega arith in rw (one, e) more
    by more false e = refl

pub run_ends : (p : ℕ → Bool) (bytes : List ℕ) → begins_with p (drop (prefix_len p bytes) bytes) ≡ false
run_ends p [] = refl
run_ends p (b ∷ bs) = by (run_ends p bs) (p b) refl
  where
    by : begins_with p (drop (prefix_len p bs) bs) ≡ false → (t : Bool) → p b ≡ t → begins_with p (drop (cond t (1 + prefix_len p bs) 0) (b ∷ bs)) ≡ false
    by more true e = let one : 1 + prefix_len p bs ≡ suc (prefix_len p bs) = omega arith in rw one more
    by more false e = e

-- the bytes of a run begin as all bytes do, and there is one
pub run_begins : (p q : ℕ → Bool) → ((b : ℕ) → q b ≡ true → p b ≡ true) → (bytes : List ℕ) → begins_with q bytes ≡ true
    → (begins_with q (take (prefix_len p bytes) bytes) ≡ true) × (0 < prefix_len p bytes)
run_begins p q more [] e = cc e
run_begins p q more (b ∷ bs) e =
    let passes = more b e in
    let one : 1 + prefix_len p bs ≡ suc (prefix_len p bs) = omega arith in
    rw (passes, one) (e, omega arith)

-- a run that ends where it must is the longest
pub run_front : (p : ℕ → Bool) (front rest : List ℕ) → list_all p front ≡ true → begins_with p rest ≡ false → prefix_len p (front ++ rest) ≡ length front
run_front p [] [] all ends = refl
run_front p [] (b ∷ bs) all ends = rw ends refl
run_front p (c ∷ cs) rest all ends =
    let parts = and_parts (p c) (list_all p cs) all in
    rw parts.0 (ap (λ n. 1 + n) (run_front p cs rest parts.1 ends) ∙ omega arith)
