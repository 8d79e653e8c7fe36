use Rattle.std.proofs.Common.{◌≡◌, ◌+◌, ◌*◌, map, subst, arith}
use Rattle.std.specs.List.{range_with_len}
use Rattle.drive_script.specs.Texts.{call_line_of}
use Rattle.bench_scripts.specs.Bench.{call_at}
use Rattle.bench_scripts.specs.Drawing.{HasDrawn}
use Rattle.bench_scripts.proofs.CallSteps.{one_call_more}
use Rattle.bench_scripts.proofs.calls.next_calls.Goals as goal

pub loop-place-preserved : goal.loop-place-preserved
loop-place-preserved c = record {
  calls = λ round h.
      one_call_more round c.loop-place.place c.next_draw-drawn.result c.call_by.result c.loop-place.calls.items c.push.new.self.items c.in_ok-push.ensures.items
      (c.loop-place.invariant.calls round h)
      (c.next_draw-drawn.ensures.value (64 * round + c.loop-place.place) (c.loop-place.invariant.words round h))
      c.call_by.ensures;
  words = λ round h.
      let place : 64 * round + c.loop-place.place + 1 ≡ 64 * round + (c.loop-place.place + 1) = omega arith in
      subst (λ n. HasDrawn n c.next_draw-drawn.new.words) place (c.next_draw-drawn.ensures.words (64 * round + c.loop-place.place) (c.loop-place.invariant.words round h));
}

pub returns-clause-calls : goal.returns-clause-calls
returns-clause-calls c round h =
    let last : c.loop-place.place ≡ 64 = omega arith in
    subst (λ n. map call_line_of c.loop-place.calls.items ≡ map (call_at round) (range_with_len 0 n)) last (c.loop-place.invariant.calls round h)

pub returns-clause-words : goal.returns-clause-words
returns-clause-words c round h =
    let place : 64 * round + c.loop-place.place ≡ 64 * (round + 1) = omega arith in
    subst (λ n. HasDrawn n c.loop-place.words) place (c.loop-place.invariant.words round h)
