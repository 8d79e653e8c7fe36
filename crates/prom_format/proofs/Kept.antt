-- A text that still begins with what was there can be shortened to that.
use Rattle.std.proofs.Common.{◌≡◌, ℕ, ◌≤◌, List, ◌++◌, length, take, drop, sym, ap, ◌∙◌, subst, arith, string_bytes}
use Rattle.std.specs.Str.{IsUtf8, IsCharBoundary}
use Rattle.std.specs.declared.string.String.{String}
use Rattle.std.specs.declared.alloc.Global.{Global}
use Rattle.std.proofs.Math.Seq.{take-append_seam}
use Rattle.std.proofs.lemmas.List.{length-take, take-append-drop, take-append-le}
use Rattle.std.proofs.lemmas.Str.{IsUtf8-string_bytes, IsCharBoundary-from_take}
use Rattle.prom_format.specs.Texts.{Begins}

within : (old new : List ℕ) → Begins old new → length old ≤ length new
within old new kept = omega (arith, ap length kept, length-take (length old) new)

pub Begins-append : (old new more : List ℕ) → new ≡ old ++ more → Begins old new
Begins-append old new more is = ap (take (length old)) is ∙ take-append_seam old more

pub Begins-more : (old now new more : List ℕ) → Begins old now → new ≡ now ++ more → Begins old new
Begins-more old now new more kept is =
    ap (take (length old)) is ∙ take-append-le (length old) now more (within old now kept) ∙ kept

pub Begins-trans : (old now new : List ℕ) → Begins old now → Begins now new → Begins old new
Begins-trans old now new kept kept_now =
    Begins-more old now new (drop (length now) new) kept
    (sym (take-append-drop (length now) new) ∙ ap (λ front. front ++ drop (length now) new) kept_now)

pub IsCharBoundary-kept : (old new : String Global) (n : ℕ) → n ≡ length (string_bytes old) → Begins (string_bytes old) (string_bytes new) → IsCharBoundary (string_bytes new) n
IsCharBoundary-kept old new n is kept =
    subst (IsCharBoundary (string_bytes new)) (sym is)
    (IsCharBoundary-from_take (string_bytes new) (length (string_bytes old)) (IsUtf8-string_bytes new) (within (string_bytes old) (string_bytes new) kept) (subst IsUtf8 (sym kept) (IsUtf8-string_bytes old)))
