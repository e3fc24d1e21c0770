-- Tests that both hold.
use Rattle.std.proofs.Common.{◌≡◌, ◌&&◌, Bool, true, ap}
use Rattle.std.proofs.lemmas.Bool.{and_from}

pub both_hold : (a b : Bool) → a ≡ true → b ≡ true → (a && b) ≡ true
both_hold = and_from

pub and_next : (a b : Bool) → a ≡ true → (a && b) ≡ b
and_next a b holds = ap (λ (test : Bool). test && b) holds
