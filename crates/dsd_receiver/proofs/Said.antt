-- What a line asks for: one call at least, at a rate that is not 0.
use Rattle.std.proofs.Common.{ℕ, ◌<◌, ◌≤◌, Bool, true, false, List, length, map, Option, Some, None, arith}
use Rattle.std.specs.List.{AllZip}
use Rattle.std.proofs.lemmas.List.{length-map}
use Rattle.std.proofs.lemmas.Slice.Zip.{AllZip-long}
use Rattle.metrics_core.specs.Numbers.{one}
use Rattle.dsd_lines.specs.declared.dialects.Dialect.{Dialect}
use Rattle.dsd_lines.specs.Grammar.{AreRateParts, AreSpelled, Counter, Distribution, Gauge, Histogram, IsDecimal, IsLineIn, IsMillis, IsNumber, IsStep, LineText, PointsText, Steps, Timer}
use Rattle.prom_exporter.specs.State.{PrometheusState}
use Rattle.dsd_receiver.specs.Received.{calls_of_points, calls_said, rate_said}
use Rattle.dsd_receiver.specs.Receiving.{IsInPart, StopsIn}

as_many : {A B C : Type 0} (R : A → B → Type 0) (f : B → C) (xs : List A) (ys : List B) → AllZip R xs ys → 0 < length xs → 0 < length (map f ys)
as_many R f xs ys all some = let long = AllZip-long R xs ys all in let same = length-map ys f in omega (arith, long, same, some)

pub has_calls : (dialect : Dialect) (moment : ℕ) (line : List ℕ) (said : LineText) → IsLineIn dialect line said → 0 < length (calls_said moment said)
has_calls dialect moment line said is = by said.points is.are_values
  where
    by : (points : PointsText) → AreSpelled dialect points is.values → 0 < length (calls_of_points moment (rate_said said.rate) points)
    by (Counter counts) all = as_many IsNumber _ is.values counts all is.some
    by (Gauge numbers) all = as_many IsDecimal _ is.values numbers all.1 is.some
    by (Steps steps) all = as_many IsStep _ is.values steps all.1 is.some
    by (Timer numbers) all = as_many IsMillis _ is.values numbers all.1 is.some
    by (Histogram numbers) all = as_many IsDecimal _ is.values numbers all is.some
    by (Distribution numbers) all = as_many IsDecimal _ is.values numbers all is.some

pub rate_within : (dialect : Dialect) (line : List ℕ) (said : LineText) → IsLineIn dialect line said → (0 < rate_said said.rate) × (rate_said said.rate ≤ one)
rate_within dialect line said is = by said.rate is.is_rate
  where
    by : (rate : Option ℕ) → AreRateParts is.rate rate → (0 < rate_said rate) × (rate_said rate ≤ one)
    by None none = (omega arith, omega arith)
    by (Some rate) (text, parts, own) = (let least = own.least in omega (arith, least), own.most)

-- a line that was received in part
pub stops_said : (dialect : Dialect) (moment : ℕ) (line : List ℕ) (said : LineText) (registered : Bool) (values : ℕ) (s t : PrometheusState) → IsLineIn dialect line said → IsInPart moment said registered values s t → StopsIn dialect moment line registered values s t
stops_said dialect moment line said true values s t is part = (said, is, part)
stops_said dialect moment line said false values s t is part = part.0
