use Rattle.std.proofs.Common.{◌≡◌, ◌+◌, ◌-◌, ◌<◌, ◌≤◌, ◌++◌, List, ℕ, length, take, drop, min, Some, arith, refl, ap, length-drop}
use Rattle.std.proofs.Math.Seq.{take-add}
use Rattle.std.proofs.lemmas.List.{drop-drop, take_all, drop_all}
use Rattle.page_answers.specs.Connections.{Told, Took, with_taken}
use Rattle.page_answers.proofs.devices.ExchangeConn.read.Goals as goal

-- what is told where the bytes up to a place were taken, the last ones from another place on
abbrev told_at : ℕ → ℕ → List ℕ → List ℕ → Told
told_at before at bytes written = record { earlier = take before bytes; taken = take at bytes; left = drop at bytes; written = written }

told_on : (bytes written : List ℕ) (before at n : ℕ) → told_at at (at + n) bytes written ≡ with_taken (told_at before at bytes written) (take n (drop at bytes)) (drop n (drop at bytes))
told_on bytes written before at n = rw (take-add at n bytes, drop-drop n at bytes) refl

took : (from bytes buffer new written : List ℕ) (before at most n : ℕ) → from ≡ bytes → at ≤ length bytes → 0 < most
    → n ≡ min (min (length (take (length from - at) (drop at from))) most) (length buffer)
    → new ≡ take n (take (length from - at) (drop at from)) ++ drop n buffer
    → Took (told_at before at bytes written) (Some (told_at at (at + n) bytes written)) buffer new n
took from bytes buffer new written before at most n same inside some count moved =
    let whole : take (length from - at) (drop at from) ≡ drop at bytes = rw same (take_all _ (drop at bytes) (omega (arith, length-drop at bytes))) in
    let count' : n ≡ min (min (length (drop at bytes)) most) (length buffer) = rw whole at count in
    let moved' : new ≡ take n (drop at bytes) ++ drop n buffer = rw whole at moved in
    record {
      enough = omega arith;
      prefix = moved';
      told = ap Some (told_on bytes written before at n);
      at_the_end = λ wide none. drop_all at bytes (omega (arith, length-drop at bytes));
    }

pub returns-clause-took : goal.returns-clause-took
returns-clause-took c =
    let inside = c.self.inside in
    let copied = c.copy_prefix-count.ensures in
    rw (← c.self.view_is) (took c.deref.result.now inside.bytes.items c.args.buf.now _ inside.sink.written inside.earlier inside.at inside.most _ c.deref.ensures.value c.self.invariant.0 c.self.invariant.1 copied.count copied.prefix)
