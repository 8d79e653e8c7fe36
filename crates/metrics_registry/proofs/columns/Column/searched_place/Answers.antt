use Rattle.std.proofs.Common.{◌≡◌, ◌<◌, ℕ, true, false, rules, nat_eq, length, List, sym, ap, subst, ◌∙◌}
use Rattle.std.specs.Prelude.{◌&&◌, Result, Ok, Err}
use Rattle.std.specs.Ordering.{nat_cmp}
use Rattle.std.specs.List.Sorted.{IsBinarySearchResult}
use Rattle.std.proofs.lemmas.List.Sorted.{answers_always}
use Rattle.metrics_registry.specs.Live.{id_eq}
use Rattle.metrics_registry.specs.declared.columns.Series.{Series}
use Rattle.metrics_registry.proofs.StoredSeries.{place-hit, none-hit, none-searched, same_kind}
use Rattle.metrics_registry.proofs.columns.Column.searched_place.Goals as goal

-- what a search found in one list it found in an equal one
found : {X : Type 0} (n : ℕ) (r : Result ℕ ℕ) (xs ys : List (Series X)) → xs ≡ ys → IsBinarySearchResult (λ s. nat_cmp s.id.number n) xs r → IsBinarySearchResult (λ s. nat_cmp s.id.number n) ys r
found n r xs ys same searched = subst (λ zs. IsBinarySearchResult (λ s. nat_cmp s.id.number n) zs r) same searched

pub returns-then-eq : goal.returns-then-eq
returns-then-eq g c = λ ks stored.
    let own : id_eq c.index.result.now.id c.args.id ≡ true =
    ap (λ b. b && nat_eq c.index.result.now.id.number c.args.id.number) (sym (same_kind c.index.result.now.id.kind c.args.id.kind)) ∙ sym c.eq.ensures ∙ c.if-eq.true in
    place-hit ks c.args.self.now.items.items c.args.id c.in-Ok.place c.index.result.now stored.beside
    (subst (λ xs. c.in-Ok.place < length xs) c.deref.ensures.value c.in-Ok.ensures.bound) c.index.ensures own

pub returns-else-eq : goal.returns-else-eq
returns-else-eq g c = λ ks stored.
    let other : id_eq c.index.result.now.id c.args.id ≡ false =
    ap (λ b. b && nat_eq c.index.result.now.id.number c.args.id.number) (sym (same_kind c.index.result.now.id.kind c.args.id.kind)) ∙ sym c.eq.ensures ∙ c.if-eq.false in
    none-hit ks c.args.self.now.items.items c.args.id c.in-Ok.place c.index.result.now stored
    (subst (λ xs. c.in-Ok.place < length xs) c.deref.ensures.value c.in-Ok.ensures.bound)
    (found c.args.id.number (Ok c.in-Ok.place) c.deref.result.now c.args.self.now.items.items c.deref.ensures.value (c.in-Ok.ensures.position (λ s. s.id.number) (answers_always _ _ _ (λ f a r g' h. search rules))))
    c.index.ensures other

pub returns-in-Err : goal.returns-in-Err
returns-in-Err g c = λ ks stored.
    none-searched ks c.args.self.now.items.items c.args.id c.in-Err.field-0 stored.beside stored.rises
    (found c.args.id.number (Err c.in-Err.field-0) c.deref.result.now c.args.self.now.items.items c.deref.ensures.value (c.in-Err.ensures.position (λ s. s.id.number) (answers_always _ _ _ (λ f a r g' h. search rules))))
