-- The calls of a round, one more at a time.
use Rattle.std.proofs.Common.{◌≡◌, ℕ, ◌+◌, ◌*◌, ◌/◌, List, [], ◌∷◌, ◌++◌, map, ap, sym, ◌∙◌, arith}
use Rattle.std.proofs.lemmas.List.{map-append}
use Rattle.std.proofs.lemmas.List.FromFn.{map-range_with_len_more}
use Rattle.std.specs.List.{range_with_len}
use Rattle.drive_script.specs.Texts.{call_line_of}
use Rattle.drive_script.specs.declared.script.CallLine.{CallLine}
use Rattle.bench_scripts.specs.Bench.{bench_call, call_at}
use Rattle.bench_scripts.specs.Generator.{draw}

-- with the call of the next place, the calls are those of one place more
pub one_call_more : (k place drawn : ℕ) (call : CallLine) (calls grown : List CallLine)
    → grown ≡ calls ++ call ∷ []
    → map call_line_of calls ≡ map (call_at k) (range_with_len 0 place)
    → drawn ≡ draw (64 * k + place)
    → call_line_of call ≡ bench_call (place / 16) drawn
    → map call_line_of grown ≡ map (call_at k) (range_with_len 0 (place + 1))
one_call_more k place drawn call calls grown pushed before is made =
    let here : 0 + place ≡ place = omega arith in
    let last : call_line_of call ≡ call_at k place = made ∙ ap (bench_call (place / 16)) is in
    let front : map call_line_of (calls ++ call ∷ []) ≡ map call_line_of calls ++ call_line_of call ∷ [] = map-append call_line_of calls (call ∷ []) in
    ap (map call_line_of) pushed ∙ (front ∙ (ap (λ l. l ++ call_line_of call ∷ []) before
    ∙ (ap (λ l. map (call_at k) (range_with_len 0 place) ++ l ∷ []) last ∙ sym (map-range_with_len_more (call_at k) 0 place place here))))
