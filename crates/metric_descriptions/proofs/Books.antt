-- What each step leaves of a map of descriptions.
use Rattle.std.proofs.Common.{◌≡◌, ℕ, Bool, true, false, cond, List, [], ◌∷◌, ◌++◌, map, is_some, option_map, MatchResult, Result, Ok, Err, Option, Some, refl, sym, ap, ◌∙◌, subst, append-nil}
use Rattle.std.specs.List.{AllByRecursion}
use Rattle.std.specs.Prelude.{String, string_bytes, bytes_eq, IfOk, OnOk}
use Rattle.std.specs.declared.alloc.Global.{Global}
use Rattle.std.specs.declared.sync.Arc.{Arc}
use Rattle.std.specs.declared.hash.Hash as Hash
use Rattle.std.specs.declared.hash.BuildHasher as Build
use Rattle.std.specs.declared.hash.Hasher as Hasher
use Rattle.std.specs.declared.cmp.PartialEq as PartialEq
use Rattle.left_right.specs.declared.Absorb as Absorb
use Rattle.value_bags.specs.declared.keep.Keep as Keep
use Rattle.evmap_contents.specs.declared.key.KeyClone as Key
use Rattle.evmap_contents.specs.declared.write.Write.{Write}
use Rattle.evmap_contents.specs.declared.write.Write.TheVariants.{Update}
use Rattle.evmap_contents.specs.Fold.{after}
use Rattle.evmap_contents.specs.Views.{write_of}
use Rattle.evmap_core.specs.declared.known_fronts.KnownFronts.{KnownFronts}
use Rattle.evmap_core.specs.declared.store.Store.{Store}
use Rattle.evmap_core.specs.declared.writer.WriteHandle.{WriteHandle}
use Rattle.evmap_core.specs.Asked.{IsOneOf, bag_under}
use Rattle.evmap_core.specs.Front.{newcomer, informed, has_write}
use Rattle.evmap_core.specs.Stored.{writes_of}
use Rattle.evmap_core.specs.Handles.{published, pending, told, shown, front, made, writer_knows, Adds, Publishes, Stays}
use Rattle.metric_descriptions.specs.Descriptions.{Description, description_of, put_description, describe, publish}
use Rattle.metric_descriptions.specs.Written.{Text, stored, written, said_of, said_by, Describes, IsOfNewName, Leaves, IsToldOf}
use Rattle.metric_descriptions.specs.Book.{text_of, IsBook}
use Rattle.metric_descriptions.proofs.Writing.{leaves, look, same-there, said-behind, said-one-more, all-append}
use Rattle.metric_descriptions.proofs.Asking.{one-said, silent}

module _ {P S H X : Type 0} {key : Key.Ghosts (String Global) (List ℕ)} {hash : Hash.Ghosts (String Global)} {eq : PartialEq.Ghosts (String Global)} {same : PartialEq.Ghosts Text} {hashes : Hash.Ghosts Text} {keep : Keep.Ghosts P Text} {build : Build.Ghosts S H} {hasher : Hasher.Ghosts H} {absorb : Absorb.Ghosts (Store (String Global) Text Unit P S (List ℕ) H) (Write (String Global) (Arc Text Global) (Arc Unit Global) P) X} where
  -- ---- what stays

  text-by : (w : WriteHandle (String Global) Text Unit P S (List ℕ) H X key hash eq same hashes keep build hasher absorb) (shown waiting : List (Write (List ℕ) Text Unit P)) → published string_bytes w ≡ shown → pending string_bytes w ≡ waiting → text_of w ≡ record { published = said_by shown; pending = said_by waiting }
  text-by w shown waiting is waits = λ j. record { published = said_by (is j); pending = said_by (waits j) }

  book-by : (before after : WriteHandle (String Global) Text Unit P S (List ℕ) H X key hash eq same hashes keep build hasher absorb) → published string_bytes after ≡ published string_bytes before → pending string_bytes after ≡ pending string_bytes before → told after ≡ told before → IsBook before → IsBook after
  book-by before after is waits tells book = record {
    shown = subst (AllByRecursion Describes) (sym is) book.shown;
    waiting = subst (AllByRecursion Describes) (sym waits) book.waiting;
    new_names =
        subst (λ ws. AllByRecursion (IsOfNewName (said_by ws)) (pending string_bytes after)) (sym is)
        (subst (AllByRecursion (IsOfNewName (said_by (published string_bytes before)))) (sym waits) book.new_names);
    told_all = tells ∙ book.told_all ∙ sym is;
  }

  stays-book : (before after : WriteHandle (String Global) Text Unit P S (List ℕ) H X key hash eq same hashes keep build hasher absorb) → Stays before after → IsBook before → IsBook after
  stays-book before after h book = book-by before after (ap (writes_of string_bytes) h.0) (ap (map (write_of string_bytes)) h.1) h.2 book

  -- ---- asking

  known-name : (step-eq : Text → Text → Bool) (keeps : P → Text → Bool) (w : WriteHandle (String Global) Text Unit P S (List ℕ) H X key hash eq same hashes keep build hasher absorb) (name : List ℕ) → IsBook w
      → is_some (bag_under bytes_eq name (front string_bytes (after bytes_eq step-eq keeps) w)) ≡ is_some (description_of (text_of w).published name)
  known-name step-eq keeps w name book = same-there _ _ (look name _ _ (leaves step-eq keeps (made w) (published string_bytes w) book.shown))

  -- a test of whether the name is published, by what it says of the map and how it came out
  pub known-there : (step-eq : Text → Text → Bool) (keeps : P → Text → Bool) (w : WriteHandle (String Global) Text Unit P S (List ℕ) H X key hash eq same hashes keep build hasher absorb) (name : List ℕ) (r b : Bool) → IsBook w
      → r ≡ is_some (bag_under bytes_eq name (front string_bytes (after bytes_eq step-eq keeps) w)) → r ≡ b → is_some (description_of (text_of w).published name) ≡ b
  known-there step-eq keeps w name r b book is out = sym (known-name step-eq keeps w name book) ∙ sym is ∙ out

  pub answered : (step-eq : Text → Text → Bool) (keeps : P → Text → Bool) (w : WriteHandle (String Global) Text Unit P S (List ℕ) H X key hash eq same hashes keep build hasher absorb) (name : List ℕ) (answer : Option Text) → IsBook w
      → IsOneOf (bag_under bytes_eq name (front string_bytes (after bytes_eq step-eq keeps) w)) answer
      → option_map stored answer ≡ option_map written (description_of (text_of w).published name)
  answered step-eq keeps w name answer book one = one-said _ _ answer one (look name _ _ (leaves step-eq keeps (made w) (published string_bytes w) book.shown))

  told-reader : (step-eq : Text → Text → Bool) (keeps : P → Text → Bool) (w : WriteHandle (String Global) Text Unit P S (List ℕ) H X key hash eq same hashes keep build hasher absorb) (k : Option (KnownFronts (List ℕ) Text Unit P)) → IsBook w → k ≡ Some (informed newcomer (writer_knows w))
      → IsToldOf (after bytes_eq step-eq keeps) (text_of w).published k
  told-reader step-eq keeps w k book is =
      subst (IsToldOf (after bytes_eq step-eq keeps) (text_of w).published) (sym is)
      (refl, subst (λ ws. Leaves (after bytes_eq step-eq keeps) ws (text_of w).published) (sym book.told_all) (leaves step-eq keeps tt (published string_bytes w) book.shown))

  pub told-result : (step-eq : Text → Text → Bool) (keeps : P → Text → Bool) (w : WriteHandle (String Global) Text Unit P S (List ℕ) H X key hash eq same hashes keep build hasher absorb) {R E : Type 0} (r : Result R E) (k : R → Option (KnownFronts (List ℕ) Text Unit P)) → IsBook w
      → IfOk r (λ h. k h ≡ Some (informed newcomer (writer_knows w))) → IfOk r (λ h. IsToldOf (after bytes_eq step-eq keeps) (text_of w).published (k h))
  told-result step-eq keeps w (Ok h) k book is = told-reader step-eq keeps w (k h) book is
  told-result step-eq keeps w (Err _) k book is = tt

  -- ---- describing

  pub said-already : (w : WriteHandle (String Global) Text Unit P S (List ℕ) H X key hash eq same hashes keep build hasher absorb) (d : Description) → is_some (description_of (text_of w).published d.name) ≡ true → text_of w ≡ describe d (text_of w)
  said-already w d there = sym (ap (λ b. cond b (text_of w) (record (text_of w) { pending = put_description (text_of w).pending d })) there)

  waits-text : (before after : WriteHandle (String Global) Text Unit P S (List ℕ) H X key hash eq same hashes keep build hasher absorb) (name : List ℕ) (text : Text) → is_some (description_of (text_of before).published name) ≡ false
      → published string_bytes after ≡ published string_bytes before → pending string_bytes after ≡ pending string_bytes before ++ Update name text ∷ [] → text_of after ≡ describe (said_of name text) (text_of before)
  waits-text before after name text new is waits =
      text-by after _ _ is waits
      ∙ (λ j. record { published = said_by (published string_bytes before); pending = said-one-more (pending string_bytes before) (Update name text) j })
      ∙ sym (ap (λ b. cond b (text_of before) (record (text_of before) { pending = put_description (text_of before).pending (said_of name text) })) new)

  waits-book : (before after : WriteHandle (String Global) Text Unit P S (List ℕ) H X key hash eq same hashes keep build hasher absorb) (name : List ℕ) (text : Text) → is_some (description_of (text_of before).published name) ≡ false
      → published string_bytes after ≡ published string_bytes before → pending string_bytes after ≡ pending string_bytes before ++ Update name text ∷ [] → told after ≡ told before → IsBook before → IsBook after
  waits-book before after name text new is waits tells book = record {
    shown = subst (AllByRecursion Describes) (sym is) book.shown;
    waiting = subst (AllByRecursion Describes) (sym waits) (all-append Describes (pending string_bytes before) (Update name text ∷ []) book.waiting (tt, tt));
    new_names =
        subst (λ ws. AllByRecursion (IsOfNewName (said_by ws)) (pending string_bytes after)) (sym is)
        (subst (AllByRecursion (IsOfNewName (said_by (published string_bytes before)))) (sym waits)
        (all-append (IsOfNewName (said_by (published string_bytes before))) (pending string_bytes before) (Update name text ∷ []) book.new_names (new, tt)));
    told_all = tells ∙ book.told_all ∙ sym is;
  }

  pub adds-text : {E : Type 0} (r : Result Unit E) (before after : WriteHandle (String Global) Text Unit P S (List ℕ) H X key hash eq same hashes keep build hasher absorb) (name : List ℕ) (text : Text) → is_some (description_of (text_of before).published name) ≡ false → Adds string_bytes r before after (Update name text)
      → OnOk r (text_of after ≡ describe (said_of name text) (text_of before))
  adds-text (Ok _) before after name text new h = waits-text before after name text new (ap (writes_of string_bytes) h.0) h.2
  adds-text (Err _) before after name text new h = tt

  pub adds-book : {E : Type 0} (r : Result Unit E) (before after : WriteHandle (String Global) Text Unit P S (List ℕ) H X key hash eq same hashes keep build hasher absorb) (name : List ℕ) (text : Text) → is_some (description_of (text_of before).published name) ≡ false → Adds string_bytes r before after (Update name text) → IsBook before
      → IsBook after
  adds-book (Ok _) before after name text new h book = waits-book before after name text new (ap (writes_of string_bytes) h.0) h.2 h.1 book
  adds-book (Err _) before after name text new h book = book-by before after (ap (writes_of string_bytes) h.0) h.2 h.1 book

  -- ---- publishing

  publish-text : (before after : WriteHandle (String Global) Text Unit P S (List ℕ) H X key hash eq same hashes keep build hasher absorb) → IsBook before → Publishes string_bytes before after [] → text_of after ≡ publish (text_of before)
  publish-text before after book h =
      text-by after _ _ h.0 h.1
      ∙ (λ j. record { published = said-behind (published string_bytes before) (pending string_bytes before) book.new_names j; pending = [] })

  publish-book : (before after : WriteHandle (String Global) Text Unit P S (List ℕ) H X key hash eq same hashes keep build hasher absorb) → IsBook before → Publishes string_bytes before after [] → IsBook after
  publish-book before after book h = record {
    shown = subst (AllByRecursion Describes) (sym h.0) (all-append Describes (published string_bytes before) (pending string_bytes before) book.shown book.waiting);
    waiting = subst (AllByRecursion Describes) (sym h.1) tt;
    new_names = subst (λ ws. AllByRecursion (IsOfNewName (said_by (published string_bytes after))) ws) (sym h.1) tt;
    told_all = h.3;
  }

  pub publishes-text : {E : Type 0} (r : Result Unit E) (before after : WriteHandle (String Global) Text Unit P S (List ℕ) H X key hash eq same hashes keep build hasher absorb) → IsBook before → MatchResult r (λ _. Publishes string_bytes before after []) (λ _. Stays before after) → OnOk r (text_of after ≡ publish (text_of before))
  publishes-text (Ok _) before after book h = publish-text before after book h
  publishes-text (Err _) before after book h = tt

  pub publishes-book : {E : Type 0} (r : Result Unit E) (before after : WriteHandle (String Global) Text Unit P S (List ℕ) H X key hash eq same hashes keep build hasher absorb) → IsBook before → MatchResult r (λ _. Publishes string_bytes before after []) (λ _. Stays before after) → IsBook after
  publishes-book (Ok _) before after book h = publish-book before after book h
  publishes-book (Err _) before after book h = stays-book before after h book

  pub nothing-waits : (w : WriteHandle (String Global) Text Unit P S (List ℕ) H X key hash eq same hashes keep build hasher absorb) → IsBook w → has_write (pending string_bytes w) ≡ false → text_of w ≡ publish (text_of w)
  nothing-waits w book none =
      (λ j. record { published = sym (append-nil (said_by (published string_bytes w))) j; pending = said_by (pending string_bytes w) })
      ∙ (λ j. record { published = said_by (published string_bytes w) ++ sym (silent (pending string_bytes w) book.waiting none []) j; pending = silent (pending string_bytes w) book.waiting none [] j })
