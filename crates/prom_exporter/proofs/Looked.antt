-- What a look leaves: the pass has then seen all that a look may find.
use Rattle.std.proofs.Common.{◌≡◌, ℕ, ◌%◌, ◌^◌, length, true, None, List, refl, sym, ap, subst, ◌∙◌, arith}
use Rattle.legal_history.specs.declared.history.Entry.{Entry}
use Rattle.legal_history.specs.declared.history.View.{View}
use Rattle.legal_history.specs.History.{calls, looked, Sees, Settled}
use Rattle.legal_history.proofs.Prefixes.{prefix_self, prefix_trans}
use Rattle.cell_lanes.specs.Calls.{Shows}
use Rattle.metrics_core.specs.declared.calls.SeriesCall.{SeriesCall}
use Rattle.metrics_core.specs.declared.kinds.MetricKind.{MetricKind}
use Rattle.prom_exporter.specs.Shared.{Shared, KnowsAll, Looks}
use Rattle.prom_exporter.specs.Stepped.{IsNoted}

sees-looked : (v : View SeriesCall) (log : List (Entry SeriesCall)) → Sees v log → Sees (looked v log) log
sees-looked v log sees = record {
  begins = prefix_self log;
  own = sees.own;
  own_seen = sees.own;
  back = sees.back;
  returned = λ h given. record { begins = prefix_trans h.seen v.seen log (sees.returned h given).begins sees.begins; told = (sees.returned h given).told };
  whole = λ root home.
      (let whole = sees.whole root home in
      let same : v ≡ looked v log = ap (looked v) (sym whole.0) in
      (refl, subst Settled same whole.1));
}

module _ {R : Type 0} (value_of : List SeriesCall → R) where
  -- the value that was read is that of what the pass has seen, and with no pass out that is all
  pub shown-known : (v w : View SeriesCall) (reading : R) → Shows value_of v reading w → (reading ≡ value_of (calls w.seen)) × KnowsAll w
  shown-known v w reading shows = (
    shows.2 ∙ ap (λ (u : View SeriesCall). value_of (calls u.seen)) (sym shows.3),
    λ home. subst (λ (u : View SeriesCall). Sees u u.seen) (sym shows.3) (sees-looked v shows.0 shows.1),
  )

-- where series never fall idle a look is all: it tells how many calls there are
pub look_noted : {F : Type 0} (moment : ℕ) (kind : MetricKind) (s t : Shared F) → Looks s t → IsNoted None moment kind s true t
look_noted moment kind s t (log, sees, is) = record {
  seen = t;
  count = length log % 2 ^ 64;
  counts = (looked s.root log, (length log, refl, (log, sees, omega arith, (λ root. omega arith), refl)), (log, sees-looked s.root log sees, is));
  stays_is = refl;
  left = refl;
}
