-- Where the first line of some bytes ends, and that lines are told apart by their newlines.
use Rattle.std.proofs.Common.{◌≡◌, ℕ, List, [], ◌∷◌, ◌++◌, refl, sym, ◌∙◌, append_assoc}
use Rattle.std.proofs.lemmas.List.Elements.{All-head, All-tail}
use Rattle.metrics_core.specs.Characters.{newline, line}
use Rattle.prom_format.proofs.ReadOnce.{first_same, others_same}
use Rattle.rule_eval.proofs.WordBytes.{NoNewline, none_is}

ended_told : (x y r s : List ℕ) → NoNewline x → NoNewline y → x ++ newline ∷ r ≡ y ++ newline ∷ s → (x ≡ y) × (r ≡ s)
ended_told [] [] r s hx hy e = (refl, others_same newline newline r s e)
ended_told [] (b ∷ y) r s hx hy e = absurd (All-head none_is b y hy (sym (first_same newline b r (y ++ newline ∷ s) e)))
ended_told (a ∷ x) [] r s hx hy e = absurd (All-head none_is a x hx (first_same a newline (x ++ newline ∷ r) s e))
ended_told (a ∷ x) (b ∷ y) r s hx hy e =
    let first = first_same a b (x ++ newline ∷ r) (y ++ newline ∷ s) e in
    let behind = ended_told x y r s (All-tail none_is a x hx) (All-tail none_is b y hy) (others_same a b (x ++ newline ∷ r) (y ++ newline ∷ s) e) in
    ((λ j. first j ∷ behind.0 j), behind.1)

-- two lines at the front of the same bytes are one, and the same bytes stand behind them
pub line_told : (x y r s : List ℕ) → NoNewline x → NoNewline y → line x ++ r ≡ line y ++ s → (x ≡ y) × (r ≡ s)
line_told x y r s hx hy e = ended_told x y r s hx hy (sym (append_assoc x (newline ∷ []) r) ∙ e ∙ append_assoc y (newline ∷ []) s)
