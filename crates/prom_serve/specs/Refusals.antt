-- What a refusal to serve leaves.
use Rattle.std.specs.Prelude.{ℕ}
use Rattle.prom_serve.specs.declared.errors.ServeError.{ServeError}
use Rattle.prom_serve.specs.declared.errors.ServeError.TheVariants.{FailedToCreateHTTPListener, Memory}

-- how many of the connections that were given back may not have been served: where memory is refused, the last
abbrev pub excepted : ServeError → ℕ
excepted FailedToCreateHTTPListener = 0
excepted Memory = 1
