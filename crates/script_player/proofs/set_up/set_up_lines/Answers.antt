use Rattle.std.proofs.Common.{◌≡◌, ◌∷◌, [], ◌-◌, ◌∙◌, sym, ap, fold, map, arith}
use Rattle.std.specs.Vec.Iter.{drain_items}
use Rattle.std.proofs.lemmas.List.{take_all}
use Rattle.drive_script.specs.Texts.{setup_of}
use Rattle.script_player.specs.Copies.{in_parts}
use Rattle.script_player.specs.Flushes.{register_step}
use Rattle.script_player.specs.Player.{lines_state}
use Rattle.script_player.proofs.Copies.{behind}
use Rattle.script_player.proofs.set_up.set_up_lines.Goals as goal

pub loop-part-preserved : goal.loop-part-preserved
loop-part-preserved g c =
    let inv = c.loop-part.invariant in
    let e = c.in_ok-set_up_part.ensures in
    let steps : drain_items c.loop-part.part-iterator ≡ c.in-Some.part ∷ drain_items c.next.new.self = c.in-Some.ensures.steps.0 in
    let others = in_parts (drain_items c.next.new.self) in
    record {
      settings = e.settings ∙ inv.settings;
      rest = λ rests. e.rest (inv.rest rests);
      registered = λ marks. ap (λ p. fold register_step p (map setup_of others)) (e.registered marks)
          ∙ behind (lines_state marks c.loop-part.lines c.loop-part.handles.items) c.in-Some.part.items others
          ∙ ap (λ parts. fold register_step (lines_state marks c.loop-part.lines c.loop-part.handles.items) (map setup_of (in_parts parts))) (sym steps)
          ∙ inv.registered marks;
    }

pub returns-clause-registered : goal.returns-clause-registered
returns-clause-registered g c = λ marks.
    let all : drain_items c.into_iter-part-iterator.result ≡ c.args.parts.now.items =
    ap drain_items c.into_iter-part-iterator.ensures.into_iter_gives ∙ c.drain-part-items.ensures.rest ∙ take_all (c.args.parts.now.len - 0) c.args.parts.now.items (omega (arith, c.args.parts.now.ok.0)) in
    let none : drain_items c.loop-part.part-iterator ≡ [] = c.in-None.ensures.steps.0 in
    sym (ap (λ parts. fold register_step (lines_state marks c.loop-part.lines c.loop-part.handles.items) (map setup_of (in_parts parts))) none)
    ∙ c.loop-part.invariant.registered marks
    ∙ ap (λ parts. fold register_step (lines_state marks c.args.lines.now c.args.handles.now.items) (map setup_of (in_parts parts))) all
