use Rattle.std.proofs.Common.{refl}
use Rattle.std.specs.Prelude.{option_copied}
use Rattle.scrape_loops.specs.declared.serving.Serving.{Serving}
use Rattle.scrape_loops.proofs.InOrder.{served_in_order}
use Rattle.scrape_loops.proofs.serving.serve_until.Goals as goal

pub returns : goal.returns
returns g c = served_in_order g.P.Pages.shows g.P.Pages.misses
    (λ (s : Serving g.row.N.Denot g.row.P.Denot g.row.M.Denot). record { allowed = option_copied s.allowed; pages = s.pages; to_come = g.M.Moments.to_come s.moments; finished = g.N.Listener.finished s.listener; served = s.served; failed = s.failed })
    c.run_until.ensures.times _ _ c.run_until.ensures.runs _ refl
