use Rattle.std.proofs.Common.{◌≡◌, ◌*◌, ◌%◌, ◌^◌, ◌<◌, ◌∙◌, arith, ap}
use Rattle.std.proofs.lemmas.Nat.{pow_below}
use Rattle.std.proofs.Math.Nat.{mod-eq_of_lt}
use Rattle.pdw_groups.proofs.level.only.Goals as goal

pub returns : goal.returns
returns c =
    let one : 1 * 2 ^ c.args.leaf ≡ 2 ^ c.args.leaf = omega arith in
    let less : 2 ^ c.args.leaf < 4294967296 = pow_below c.args.leaf 32 (omega (arith, c.requires)) in
    ap (λ n. n % 4294967296) one ∙ mod-eq_of_lt less
