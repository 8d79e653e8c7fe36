use Rattle.std.proofs.Common.{◌∙◌}
use Rattle.shared_turns.specs.Passes.{view_of}
use Rattle.prom_exporter.specs.Exporter.{Exporter, written_body}
use Rattle.shared_recorder.specs.Pages.{MakesPart, Paged}
use Rattle.shared_recorder.proofs.Texts.{grew_text, unwritten}
use Rattle.shared_recorder.proofs.recorder.SharedRecorder.render.Goals as goal

pub returns-in-Ok-clause-page : goal.returns-in-Ok-clause-page
returns-in-Ok-clause-page g c =
    let p = c.in-Ok.ensures.page in
    (p.0, p.1, c.into_text.ensures ∙ grew_text c.new-sink.result c.render_to_write.new.sink (written_body c.args.moment p.0) c.new-sink.ensures p.2)

pub returns-in-Err-clause-refused : goal.returns-in-Err-clause-refused
returns-in-Err-clause-refused g c =
    unwritten (λ (y : Exporter). Paged (MakesPart c.args.moment) y (view_of c.args.pass.now) (view_of c.render_to_write.new.pass)) _ c.in-Err.ensures.refused
