-- Parts of copies say to the flushes what all lines say.
use Rattle.std.proofs.Common.{◌≡◌, ◌∷◌, [], ◌++◌, ◌*◌, ◌+◌, ◌/◌, ◌%◌, ◌<◌, ◌≤◌, min, ℕ, suc, List, Result, Ok, ap, sym, subst, ◌∙◌, refl, fold, map, take, drop, length, arith}
use Rattle.std.specs.Prelude.{IfOk, slice_index_or}
use Rattle.std.specs.List.{AllZip}
use Rattle.std.specs.Fork.{slice_chunk}
use Rattle.std.specs.declared.vec.Vec.{Vec}
use Rattle.std.specs.declared.alloc.Global.{Global}
use Rattle.std.proofs.lemmas.List.{map-append, drop-drop, length-drop, take-append-drop}
use Rattle.std.proofs.lemmas.List.Sums.{fold-append}
use mathlib.Core.Logic.{⊎_elim}
use native.Mathlib.Nat.{add-mul, one-mul, suc-mul, zero-mul}
use Rattle.std.proofs.lemmas.Bool.{cases_lt}
use Rattle.std.proofs.lemmas.Nat.{div-add-mod', mod_below}
use Rattle.metrics_core.specs.declared.memory.Memory.{Memory}
use Rattle.drive_script.specs.Texts.{setup_of}
use Rattle.drive_script.specs.declared.script.Setup.{Setup}
use Rattle.script_player.specs.Copies.{AreForFlushes, IsMade, in_parts}
use Rattle.script_player.specs.Flushes.{FlushPlay, register_step}

-- what lines do, and behind it what others do
pub behind : (p : FlushPlay) (lines others : List Setup)
    → fold register_step (fold register_step p (map setup_of lines)) (map setup_of others) ≡ fold register_step p (map setup_of (lines ++ others))
behind p lines others = sym (ap (fold register_step p) (map-append setup_of lines others) ∙ fold-append register_step p (map setup_of lines) (map setup_of others))

-- copies of lines, and behind them copies of other lines
joined : (lines copies others more : List Setup) → AreForFlushes lines copies → AreForFlushes others more → AreForFlushes (lines ++ others) (copies ++ more)
joined lines copies others more first second = λ p.
    sym (behind p copies more)
    ∙ ap (λ q. fold register_step q (map setup_of more)) (first p)
    ∙ second (fold register_step p (map setup_of lines))
    ∙ behind p lines others

-- the first part
first_made : (lines : List Setup) (result : Result (Vec Setup Global) Memory) (part : Vec Setup Global) → result ≡ Ok part
    → IfOk result (λ copies. AreForFlushes lines copies.items) → AreForFlushes lines part.items
first_made lines result part is made = subst (λ r. IfOk r (λ copies. AreForFlushes lines copies.items)) is made

-- the chunk behind the first one is the first of the lines behind it
next_chunk : (size n : ℕ) (lines : List Setup) → slice_chunk lines size (suc n) ≡ slice_chunk (drop size lines) size n
next_chunk size n lines = ap (take size) (ap (λ k. drop k lines) (omega (arith, suc-mul n size)) ∙ sym (drop-drop (n * size) size lines))

-- as many chunks as are cut have room for all
pub enough : (count len size : ℕ) → 0 < size → count ≡ len / size + min 1 (len % size) → len ≤ count * size
enough count len size some is =
    let whole : len / size * size + len % size ≡ len = div-add-mod' len size in
    let less : len % size < size = mod_below len size some in
    ⊎_elim
    (λ over. let more : count ≡ len / size + 1 = omega arith in omega (arith, ap (λ n. n * size) more, add-mul (len / size) 1 size, one-mul size))
    (λ none. let same : count ≡ len / size = omega arith in omega (arith, ap (λ n. n * size) same))
    (cases_lt 0 (len % size))

-- where each chunk of the lines was copied, all of them were
pub chunks_copied : (size : ℕ) (lines : List Setup) (results : List (Result (Vec Setup Global) Memory)) (parts : List (Vec Setup Global))
    → AllZip IsMade results parts
    → ((n : ℕ) (d : Result (Vec Setup Global) Memory) → n < length results → IfOk (slice_index_or results n d) (λ copies. AreForFlushes (slice_chunk lines size n) copies.items))
    → length lines ≤ length results * size → AreForFlushes lines (in_parts parts)
chunks_copied size [] [] [] made each all = λ p. refl
chunks_copied size (line ∷ lines) [] [] made each all = absurd (omega (arith, all, zero-mul size))
chunks_copied size lines [] (part ∷ parts) made each all = absurd made
chunks_copied size lines (result ∷ results) [] made each all = absurd made
chunks_copied size lines (result ∷ results) (part ∷ parts) made each all =
    let head : AreForFlushes (take size lines) part.items = first_made (take size lines) result part made.0
    (subst (λ k. IfOk result (λ copies. AreForFlushes (take size (drop k lines)) copies.items)) (zero-mul size) (each 0 result (omega arith))) in
    let tail : AreForFlushes (drop size lines) (in_parts parts) = chunks_copied size (drop size lines) results parts made.1
    (λ n d less. subst (λ chunk. IfOk (slice_index_or results n d) (λ copies. AreForFlushes chunk copies.items)) (next_chunk size n lines) (each (suc n) d (omega arith)))
    (omega (arith, length-drop size lines, suc-mul (length results) size, all)) in
    subst (λ ls. AreForFlushes ls (in_parts (part ∷ parts))) (take-append-drop size lines) (joined (take size lines) part.items (drop size lines) (in_parts parts) head tail)
