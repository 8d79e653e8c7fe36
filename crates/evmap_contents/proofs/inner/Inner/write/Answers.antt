use Rattle.std.proofs.Common.{sym, ap, ◌∙◌}
use Rattle.std.specs.Arc.{arc_value}
use Rattle.evmap_contents.specs.Fold.{after}
use Rattle.evmap_contents.specs.Views.{contents, write_of}
use Rattle.evmap_contents.proofs.Fitted.{contents-fitted}
use Rattle.evmap_contents.proofs.inner.Inner.write.Goals as goal

pub returns-in_ok-fit_all-in-FitAll : goal.returns-in_ok-fit_all-in-FitAll
returns-in_ok-fit_all-in-FitAll g c =
    let was = c.args.self.now in
    contents-fitted g.K.KeyClone.plain g.K.KeyClone.same g.V.PartialEq.eq g.P.Keep.keeps was.map.entries c.fit_all.new.entries.entries (arc_value was.meta) was.ready c.in_ok-fit_all-in-FitAll.ensures.fitted
    ∙ ap (λ w. after g.K.KeyClone.same g.V.PartialEq.eq g.P.Keep.keeps (contents g.K.KeyClone.plain was) (write_of g.K.KeyClone.plain w)) (sym c.in-FitAll.is)
