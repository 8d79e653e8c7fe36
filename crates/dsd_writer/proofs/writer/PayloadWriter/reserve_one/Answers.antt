use Rattle.std.proofs.Common.{◌≡◌, ◌∷◌, [], sym, ap, ◌∙◌}
use Rattle.std.specs.Option.{option_copied}
use Rattle.std.proofs.lemmas.Result.{on_ok_weaker}
use Rattle.dsd_writer.specs.Items.{key_text, type_text}
use Rattle.dsd_writer.specs.Lines.{lines_of}
use Rattle.dsd_writer.specs.Writers.{item_in, item_of, timed}
use Rattle.dsd_writer.proofs.PointRooms.{adds_within}
use Rattle.dsd_writer.proofs.writer.PayloadWriter.reserve_one.Goals as goal

pub returns-clause-room : goal.returns-clause-room
returns-clause-room c =
    let w = c.args.self.now in
    let item = timed c.args.timestamp (item_in w (type_text c.args.line_type) (option_copied c.args.prefix) (key_text c.args.key)) in
    let tags : c.as_slice.result.now ≡ w.global_tags = c.as_slice.ensures.value ∙ ap (λ v. v.global_tags) c.self.view_is in
    let same : c.at-item.result ≡ item =
    c.at-item.ensures ∙ ap (timed c.args.timestamp) (c.new.ensures ∙ ap (item_of (type_text c.args.line_type) (option_copied c.args.prefix) (key_text c.args.key)) tags) in
    on_ok_weaker c.reserve.result (λ enough text short.
    let most = rw (same, ap (λ v. v.limit) c.self.view_is) at (c.most_of_a_line-most.ensures text short) in
    rw (sym c.reserve.ensures.settings.same_limit) (
    adds_within c.reserve.new.self.on_stream c.reserve.new.self.limit c.most_of_a_line-most.result c.reserve.new.self.spare c.reserve.new.self.lines (lines_of c.reserve.new.self.limit item (text ∷ []))
    (rw c.reserve.ensures.settings.same_limit most) enough))
    c.reserve.ensures.spare
