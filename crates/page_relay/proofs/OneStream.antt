-- A stream is read in one way.
use Rattle.std.proofs.Common.{◌≡◌, ◌≢◌, ℕ, List, [], ◌∷◌, ◌++◌, length, drop, refl, sym, ap, subst, ◌∙◌, append_assoc, arith, inl}
use Rattle.std.specs.Prelude.{codes, flat_map}
use Rattle.std.proofs.lemmas.List.{length-append, append-nil}
use Rattle.metrics_core.specs.Characters.{line}
use Rattle.prom_format.specs.Pages.{Family, body_text}
use Rattle.prom_format.proofs.PageText.{page_is}
use Rattle.prom_format.proofs.PagesReadOnce.{page_told}
use Rattle.page_relay.specs.Streams.{IsRelayPage, IsStream}
use Rattle.page_relay.specs.Fitting.{Start, place_behind}
use Rattle.page_relay.proofs.Streams.{AreLines, AreInner, body_lines, fit_lines, lines_append, flat_append, page_printable, stream_lines}
use Rattle.page_relay.proofs.BadLines.{lines_told}

abbrev end : List ℕ
end = codes "# EOF"

-- the lines of a page: no one but the last ends it
record PageLines (bytes : List ℕ) : Type 0 where
  body : List (List ℕ)
  are : bytes ≡ flat_map line (body ++ end ∷ [])
  lines : AreLines (body ++ end ∷ [])
  inner : AreInner body

page_lines : (bytes : List ℕ) (page : List Family) → IsRelayPage bytes page → PageLines bytes
page_lines bytes page is =
    let body = body_lines Start page (inl refl) (page_printable bytes page is.page) is.in_range in
    record {
      body = body.lines;
      are = page_is bytes page is.page ∙ ap (λ l. l ++ line end) body.are ∙ sym (flat_append body.lines (end ∷ []));
      lines = lines_append body.lines (end ∷ []) (fit_lines Start body.lines body.fit) (refl, tt);
      inner = body.inner;
    }

-- up to the first line that ends a page, lines are told
ends_told : (xs ys us vs : List (List ℕ)) → AreInner xs → AreInner ys → xs ++ end ∷ us ≡ ys ++ end ∷ vs → (xs ≡ ys) × (us ≡ vs)
ends_told [] [] us vs hx hy e = (refl, ap (drop 1) e)
ends_told [] (y ∷ ys) us vs hx hy e = let first : end ≡ y = cc in absurd (hy.0 (ap place_behind (sym first)))
ends_told (x ∷ xs) [] us vs hx hy e = let first : x ≡ end = cc in absurd (hx.0 (ap place_behind first))
ends_told (x ∷ xs) (y ∷ ys) us vs hx hy e =
    let first : x ≡ y = cc in
    let behind = ends_told xs ys us vs hx.1 hy.1 (ap (drop 1) e) in
    ((λ j. first j ∷ behind.0 j), behind.1)

-- lines are told by their bytes
lines_equal : (xs ys : List (List ℕ)) → AreLines xs → AreLines ys → flat_map line xs ≡ flat_map line ys → xs ≡ ys
lines_equal xs ys hx hy e =
    let told = lines_told xs ys [] hx hy (append-nil (flat_map line xs) ∙ e) in
    sym (told.split ∙ ap (λ ls. xs ++ ls) (none told.more told.rest) ∙ append-nil xs)
  where
    none : (more : List (List ℕ)) → [] ≡ flat_map line more → more ≡ []
    none [] f = refl
    none (m ∷ more) f = absurd (omega (arith, ap length f, length-append (line m) (flat_map line more), length-append m (10 ∷ [])))

page_some : (bytes rest : List ℕ) (page : List Family) → IsRelayPage bytes page → bytes ++ rest ≢ []
page_some bytes rest page is e =
    let text = page_is bytes page is.page in
    omega (arith, ap length e, length-append bytes rest, ap length text, length-append (body_text page) (line end))

pub stream_told : (bytes : List ℕ) (ps qs : List (List Family)) → IsStream bytes ps → IsStream bytes qs → ps ≡ qs
stream_told bytes [] [] hp hq = refl
stream_told bytes [] (q ∷ qs) hp (first, rest, whole, is, are) = absurd (page_some first rest q is (sym whole ∙ hp))
stream_told bytes (p ∷ ps) [] (first, rest, whole, is, are) hq = absurd (page_some first rest p is (sym whole ∙ hq))
stream_told bytes (p ∷ ps) (q ∷ qs) (first, rest, whole, is, are) (first_q, rest_q, whole_q, is_q, are_q) =
    let here = page_lines first p is in
    let here_q = page_lines first_q q is_q in
    let behind = stream_lines rest ps are in
    let behind_q = stream_lines rest_q qs are_q in
    let all : bytes ≡ flat_map line ((here.body ++ end ∷ []) ++ behind.lines) = whole ∙ (λ j. here.are j ++ behind.are j) ∙ sym (flat_append (here.body ++ end ∷ []) behind.lines) in
    let all_q : bytes ≡ flat_map line ((here_q.body ++ end ∷ []) ++ behind_q.lines) = whole_q ∙ (λ j. here_q.are j ++ behind_q.are j) ∙ sym (flat_append (here_q.body ++ end ∷ []) behind_q.lines) in
    let same = lines_equal ((here.body ++ end ∷ []) ++ behind.lines) ((here_q.body ++ end ∷ []) ++ behind_q.lines)
    (lines_append (here.body ++ end ∷ []) behind.lines here.lines (fit_lines Start behind.lines behind.fit))
    (lines_append (here_q.body ++ end ∷ []) behind_q.lines here_q.lines (fit_lines Start behind_q.lines behind_q.fit)) (sym all ∙ all_q) in
    let told = ends_told here.body here_q.body behind.lines behind_q.lines here.inner here_q.inner
    (sym (append_assoc here.body (end ∷ []) behind.lines) ∙ same ∙ append_assoc here_q.body (end ∷ []) behind_q.lines) in
    let firsts : first ≡ first_q = here.are ∙ ap (λ b. flat_map line (b ++ end ∷ [])) told.0 ∙ sym here_q.are in
    let rests : rest ≡ rest_q = behind.are ∙ ap (flat_map line) told.1 ∙ sym behind_q.are in
    let page : p ≡ q = page_told first_q p q is.in_range is_q.in_range (subst (λ l. IsRelayPage l p) firsts is).page is_q.page in
    let pages = stream_told rest_q ps qs (subst (λ l. IsStream l ps) rests are) are_q in
    (λ j. page j ∷ pages j)
