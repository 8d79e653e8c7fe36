use Rattle.std.proofs.Common.{◌≡◌, ℕ, ◌+◌, ◌≤◌, ◌++◌, List, [], ◌∷◌, true, length, vec_len, vec_capacity, sym, ap, subst, ◌∙◌, arith}
use Rattle.std.specs.Result.{is_ok}
use Rattle.std.specs.declared.snapshot.Snapshot.{Snapshot}
use Rattle.std.proofs.lemmas.Bool.{false≢true, le-leb}
use Rattle.dsd_writer.specs.Lines.{line_fits, line_of}
use Rattle.dsd_writer.specs.Packing.{before_line, last_takes, noted, payloads_at, start_of_line}
use Rattle.dsd_writer.proofs.Appended.{appends_line, appends_refused, one_line}
use Rattle.dsd_writer.proofs.points.write_made.Goals as goal

pub returns-in_err-make_way-clause-appends : goal.returns-in_err-make_way-clause-appends
returns-in_err-make_way-clause-appends c item text line_is =
    let limit = c.args.limit in
    let on_stream = c.args.on_stream in
    let bytes = c.args.bytes.now in
    let starts = c.args.starts.now in
    let line = line_of item (text ∷ []) in
    let n = length c.args.line.now in
    let payloads = payloads_at on_stream starts.items bytes.items in
    let is : n ≡ length line = omega (arith, ap length line_is, c.if-length-limit.false) in
    let fits : line_fits limit item (text ∷ []) ≡ true = le-leb (length line) limit (omega (arith, ap length line_is, c.if-length-limit.false)) in
    appends_refused limit on_stream bytes c.make_way.new.bytes starts c.make_way.new.starts c.args.lengths.now c.make_way.new.lengths c.requires c.from_residual.result line _ c.from_residual.ensures.0
    (one_line limit item text fits) c.in_err-make_way.ensures.refused.0 c.in_err-make_way.ensures.refused.1 c.make_way.ensures.lengths.0
    c.make_way.ensures.capacities.0 c.make_way.ensures.capacities.1 c.make_way.ensures.capacities.2
    (λ bytes_enough starts_enough lengths_enough.
    let bytes_now = subst (λ (m : ℕ). vec_len bytes + length (before_line on_stream (last_takes limit payloads m)) + m ≤ vec_capacity bytes) (sym is) bytes_enough in
    let starts_now = subst (λ (m : ℕ). vec_len starts + length (start_of_line (last_takes limit payloads m) bytes.items) ≤ vec_capacity starts) (sym is) starts_enough in
    false≢true (sym (ap is_ok c.in_err-make_way.was) ∙ c.make_way.ensures.no_memory bytes_now starts_now lengths_enough))

pub returns-clause-appends : goal.returns-clause-appends
returns-clause-appends c item text line_is =
    let limit = c.args.limit in
    let on_stream = c.args.on_stream in
    let bytes = c.args.bytes.now in
    let starts = c.args.starts.now in
    let line = line_of item (text ∷ []) in
    let n = length c.args.line.now in
    let payloads = payloads_at on_stream starts.items bytes.items in
    let is : n ≡ length line = omega (arith, ap length line_is, c.if-length-limit.false) in
    let short : length line ≤ limit = omega (arith, ap length line_is, c.if-length-limit.false) in
    let fits : line_fits limit item (text ∷ []) ≡ true = le-leb (length line) limit short in
    let bytes_now = subst (λ (m : ℕ). c.make_way.new.bytes.items ≡ bytes.items ++ before_line on_stream (last_takes limit payloads m)) is c.in_ok-make_way.ensures.bytes in
    let starts_now = subst (λ (m : ℕ). c.make_way.new.starts.items ≡ starts.items ++ start_of_line (last_takes limit payloads m) bytes.items) is c.in_ok-make_way.ensures.starts in
    appends_line limit on_stream bytes c.push_bytes.new.bytes starts c.make_way.new.starts c.args.lengths.now c.note_length.new.lengths c.requires c.new.result line _ (one_line limit item text fits) short
    (c.push_bytes.ensures.items ∙ (λ j. bytes_now j ++ line_is j)) starts_now
    (c.note_length.ensures.noted ∙ ap (λ (l : List (Snapshot ℕ)). noted l ++ n ∷ []) c.make_way.ensures.lengths.0 ∙ ap (λ (m : ℕ). noted c.args.lengths.now.items ++ m ∷ []) is)
    (omega (arith, c.make_way.ensures.capacities.0, c.push_bytes.ensures.capacity)) c.make_way.ensures.capacities.1 (omega (arith, c.make_way.ensures.capacities.2, c.note_length.ensures.capacity))
