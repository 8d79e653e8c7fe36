use Rattle.std.proofs.Common.{◌≡◌, [], ◌∷◌, ◌++◌, map, take}
use Rattle.drive_script.specs.Script.{Register}
use Rattle.drive_script.specs.Texts.{setup_of}
use Rattle.bench_scripts.proofs.setup.register_four.Given as goal

abbrev pub invariant-loop-number : goal.invariant-loop-number
invariant-loop-number l =
    map setup_of l.setup.items
    ≡ map setup_of l.initial.setup.items
    ++ map (λ number. Register l.kind (record { name = l.name; labels = record { key = l.label; value = number.now } ∷ [] })) (take l.number-index l.number-items)
