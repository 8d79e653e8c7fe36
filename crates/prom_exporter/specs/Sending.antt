-- Bytes that go to a sink in pieces.
use Rattle.std.specs.Prelude.{◌≡◌, ◌≤◌, ◌⊎◌, ℕ, List, ◌++◌, Option, Result, Err, IfErr, OnErr, OnOk}
use Rattle.metrics_core.specs.Outside.{GrewBy, GrewByPrefix, Rose}
use Rattle.prom_exporter.specs.declared.errors.BuildError.{BuildError}
use Rattle.prom_exporter.specs.declared.errors.BuildError.TheVariants.{Memory, WriteFault}

-- of some bytes a prefix was sent, and the others wait
pub record IsSent (before now : Option (List ℕ)) (waiting bytes : List ℕ) : Type 0 where
  pub sent : List ℕ
  pub grew : GrewBy before now sent
  pub spelled : bytes ≡ sent ++ waiting

-- further bytes came behind all that had been sent or waited, and were sent or wait; and a prefix of them and of what waited was sent
abbrev pub SendsMore : Option (List ℕ) → Option (List ℕ) → List ℕ → List ℕ → List ℕ → Type 0
SendsMore old new waited waits more =
    (start : Option (List ℕ)) (bytes : List ℕ) → IsSent start old waited bytes → IsSent start new waits (bytes ++ more)

abbrev pub SendsPrefix : Option (List ℕ) → Option (List ℕ) → List ℕ → List ℕ → Type 0
SendsPrefix old new waited more = (start : Option (List ℕ)) (bytes : List ℕ) → IsSent start old waited bytes → GrewByPrefix start new (bytes ++ more)

-- a call that sends these further bytes: where it fails a prefix was sent
abbrev pub Sends : {X E : Type 0} → Result X E → Option (List ℕ) → Option (List ℕ) → List ℕ → List ℕ → List ℕ → Type 0
Sends result old new waited waits more = OnOk result (SendsMore old new waited waits more) × OnErr result (SendsPrefix old new waited more)

-- it fails by a fault of the sink, which counts it, or for want of memory; the faults that the sink counts never get fewer
abbrev pub FailsOnly : {X : Type 0} → Result X BuildError → ℕ → ℕ → Type 0
FailsOnly result old new =
    IfErr result (λ error. (error ≡ WriteFault) ⊎ (error ≡ Memory)) × (result ≡ Err WriteFault → Rose old new) × (old ≤ new)
