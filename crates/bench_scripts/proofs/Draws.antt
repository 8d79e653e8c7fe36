-- What the next word of a generator is, by how many words were drawn.
use Rattle.std.proofs.Common.{◌≡◌, ℕ, suc, ◌+◌, ◌/◌, ◌^◌, ap, ◌∙◌, arith, Some}
use Rattle.metrics_core.specs.Words.{lcg_words}
use Rattle.metrics_core.specs.declared.words.Lcg.{Lcg}
use Rattle.bench_scripts.specs.Drawing.{HasDrawn}
use Rattle.bench_scripts.specs.Generator.{draw}

pub drawn_value : (words : Lcg) (n word : ℕ) → HasDrawn n words → word ≡ lcg_words words.word 0 → word / 2 ^ 33 ≡ draw n
unfolding draw
drawn_value words n word drawn is =
    let place : n + 0 ≡ n = omega arith in
    ap (λ w. w / 2 ^ 33) (is ∙ (drawn 0 ∙ ap (lcg_words 0) place))

pub one_drawn : (old new : Lcg) (n : ℕ) → HasDrawn n old → Some (lcg_words new.word) ≡ Some (λ k. lcg_words old.word (suc k)) → HasDrawn (n + 1) new
one_drawn old new n drawn left k =
    let same : lcg_words new.word ≡ (λ j. lcg_words old.word (suc j)) = cc in
    let place : n + suc k ≡ n + 1 + k = omega arith in
    ap (λ f. f k) same ∙ (drawn (suc k) ∙ ap (lcg_words 0) place)
