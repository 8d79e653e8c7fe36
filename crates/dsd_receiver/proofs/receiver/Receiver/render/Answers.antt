use Rattle.std.proofs.Common.{◌≡◌, ℕ, List, ◌++◌, Some, ap, subst, sym, ◌∙◌}
use Rattle.std.specs.Prelude.{IfOk, string_bytes}
use Rattle.prom_exporter.specs.Exporter.{written_page}
use Rattle.dsd_receiver.proofs.receiver.Receiver.render.Goals as goal
use Rattle.dsd_receiver.proofs.receiver.Receiver.render.Goals.{in-Ok, in-Err}

written_is : (x y : List ℕ) → Some x ≡ Some y → x ≡ y
written_is x y e = cc

pub returns-clause-page : goal.returns-clause-page
returns-clause-page g c =
    elim c.match-render_to_write.branch [
      | in-Ok w ↦
          let wrote = written_is _ _ (w.in-Ok.ensures.page c.self.invariant) in
          subst (λ r. IfOk r (λ text. string_bytes text ≡ written_page c.args.moment c.args.self.now)) (sym w.result-is)
          (w.into_text.ensures ∙ wrote ∙ ap (λ sink. sink.bytes ++ written_page c.args.moment c.self.inside.state) c.new-sink.ensures
          ∙ ap (written_page c.args.moment) c.self.view_is)
      | in-Err w ↦ subst (λ r. IfOk r (λ text. string_bytes text ≡ written_page c.args.moment c.args.self.now)) (sym w.result-is) tt
    ]
