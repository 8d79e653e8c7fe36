use Rattle.std.proofs.Common.{◌≡◌, ◌*◌, ◌^◌, ◌-◌, ◌<◌, ◌≤◌, length, arith, rules}
use Rattle.drive_script.proofs.Decimals.{fraction_small}
use Rattle.drive_script.proofs.cursor.fraction_of.Goals as goal
use Rattle.drive_script.proofs.cursor.fraction_of.Goals.{After-pow}

-- the fraction is less than one
below_one : (c : After-pow) → c.short_value.result * c.pow.result < 1000000000
below_one c =
    let few : length c.args.digits.now ≤ 9 = search rules in
    let power : c.pow.result ≡ 10 ^ (9 - length c.args.digits.now) = search rules in
    rw (c.short_value.ensures.value, power) (fraction_small c.args.digits.now few c.requires)

pub overflow_mul-result : goal.overflow_mul-result
overflow_mul-result c = let small = below_one c in omega arith

pub returns-clause-below : goal.returns-clause-below
returns-clause-below c = below_one c
