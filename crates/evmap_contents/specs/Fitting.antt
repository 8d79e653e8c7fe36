-- Fitting all bags of a map.
use Rattle.std.specs.Prelude.{◌≡◌, List, Option}
use Rattle.std.specs.List.{AllZip}
use Rattle.std.specs.Option.{unwrap_or}
use Rattle.value_bags.specs.declared.bag.BagForm.{BagForm}
use Rattle.value_bags.specs.Bags.{fitted}

-- an entry with its bag fitted
abbrev pub fit_entry : {K V : Type 0} → K × BagForm V → K × BagForm V
fit_entry e = (e.0, fitted e.1)

-- for each bag there is one that stands for it fitted, or none where it stays as it is
abbrev pub AreFitted : {V : Type 0} → List (BagForm V) → List (Option (BagForm V)) → Type 0
AreFitted bags shorts = AllZip (λ bag short. unwrap_or short bag ≡ fitted bag) bags shorts
