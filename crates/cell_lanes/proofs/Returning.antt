-- What taking passes back does to the roots.
use Rattle.std.proofs.Common.{◌≡◌, ℕ, ◌+◌, ◌<◌, List, [], ◌∷◌, ◌++◌, length, set, refl, sym, ap, ◌∙◌, subst, arith, eq-eqb, ne_eqb, append_assoc, length-append}
use Rattle.std.proofs.lemmas.List.{append-nil}
use mathlib.Core.Option.{some}
use lib.ListN.{get_elem?}
use Rattle.atomic_table.proofs.Lists.{at_longer, at_last}
use Rattle.legal_history.specs.declared.history.Held.{Held}
use Rattle.legal_history.specs.declared.history.View.{View}
use Rattle.legal_history.specs.History.{held, keep, longer}
use Rattle.legal_history.specs.News.{helds}
use Rattle.legal_history.proofs.Prefixes.{prefix_self, prefix_trans}
use Rattle.legal_history.proofs.Steps.{empty_list, longer_first}
use Rattle.cell_lanes.specs.declared.lane.Slot.{Slot}
use Rattle.cell_lanes.specs.declared.lane.Job.{Job}
use Rattle.cell_lanes.specs.Things.{TookBack}
use Rattle.cell_lanes.specs.Lanes.{Each, Roots, Takes, Same, SlotsFit, JobsFit, slot_news, given, all_given}
use Rattle.cell_lanes.proofs.Lists.{each_set, each_then, each_to}

module _ {M : Type 0} where
  pub helds-append : (xs ys : List (ℕ × Held M)) → helds (xs ++ ys) ≡ helds xs ++ helds ys
  helds-append [] ys = refl
  helds-append (x ∷ xs) ys = ap (λ l. x.1 ∷ l) (helds-append xs ys)

module _ {L M : Type 0} (knows : L → View M) where
  abbrev came : ℕ → Slot L → ℕ × Held M
  came l x = (l, held (knows x.lent).number (knows x.lent).mine (knows x.lent).seen)

  given_last : (j l : ℕ) (xs : List (Slot L)) (x : Slot L) → given knows j l (xs ++ x ∷ []) ≡ slot_news knows j l x ++ given knows j l xs
  given_last j l [] x = sym (append-nil (slot_news knows j l x))
  given_last j l (y ∷ ys) x = ap (λ g. g ++ slot_news knows j l y) (given_last j l ys x) ∙ append_assoc (slot_news knows j l x) (given knows j l ys) (slot_news knows j l y)

  all_last : (j k : ℕ) (xs : List (Job L)) (x : Job L) → all_given knows j k (xs ++ x ∷ []) ≡ given knows j (k + length xs) x.slots.items ++ all_given knows j k xs
  all_last j k [] x = ap (λ n. given knows j n x.slots.items) (omega arith) ∙ sym (append-nil (given knows j (k + 0) x.slots.items))
  all_last j k (y ∷ ys) x =
      let e : k + 1 + length ys ≡ k + length (y ∷ ys) = omega arith in
      ap (λ g. g ++ given knows j k y.slots.items) (all_last j (k + 1) ys x ∙ ap (λ n. given knows j n x.slots.items ++ all_given knows j (k + 1) ys) e) ∙ append_assoc (given knows j (k + length (y ∷ ys)) x.slots.items) (all_given knows j (k + 1) ys) (given knows j k y.slots.items)

module _ {S M : Type 0} (root : S → View M) (stays : S → S → Type 0) where
  -- what was given back, and what is still to come
  abbrev pub Taking : (ℕ → List (ℕ × Held M)) → (ℕ → List (ℕ × Held M)) → ℕ → S → S → Type 0
  Taking rest all j c d = (news : List (ℕ × Held M)) × Takes root stays news c d × (news ++ rest j ≡ all j)

module _ {S M : Type 0} (root : S → View M) (stays : S → S → Type 0) (stays_none : (c : S) → stays c c) (stays_then : (c d e : S) → stays c d → stays d e → stays c e) where
  pub takes_none : (c : S) → Takes root stays [] c c
  takes_none c = record { kept = stays_none c; number = refl; mine = refl; joined = sym (append-nil (root c).joined); seen = prefix_self (root c).seen; out = omega arith; still = λ none. refl }

  takes_both : (xs ys : List (ℕ × Held M)) (c d e : S) → Takes root stays xs c d → Takes root stays ys d e → Takes root stays (xs ++ ys) c e
  takes_both xs ys c d e a b = record {
    kept = stays_then c d e a.kept b.kept;
    number = b.number ∙ a.number;
    mine = b.mine ∙ a.mine;
    joined = b.joined ∙ (ap (λ h. h ++ helds ys) a.joined ∙ (append_assoc (root c).joined (helds xs) (helds ys) ∙ ap (λ h. (root c).joined ++ h) (sym (helds-append xs ys))));
    seen = prefix_trans (root c).seen (root d).seen (root e).seen a.seen b.seen;
    out = let x = a.out in let y = b.out in omega (arith, length-append xs ys);
    still = λ none.
        let no_first : length xs ≡ 0 = omega (arith, ap length none, length-append xs ys) in
        let no_second : length ys ≡ 0 = omega (arith, ap length none, length-append xs ys) in
        b.still (empty_list ys no_second) ∙ a.still (empty_list xs no_first);
  }

  takes_one : {L : Type 0} (knows : L → View M) (l : ℕ) (x : Slot L) (c d : S) → TookBack (root c) (knows x.lent) (root d) → stays c d → Takes root stays (came knows l x ∷ []) c d
  takes_one knows l x c d took kept = record {
    kept = kept;
    number = took.number;
    mine = took.mine;
    joined = took.joined;
    seen = prefix_trans (root c).seen (longer (root c).seen (knows x.lent).seen) (root d).seen (longer_first (root c).seen (knows x.lent).seen) took.seen;
    out = took.out;
    still = λ none. absurd (let one = ap length none in omega arith);
  }

  pub taking_none : (all : ℕ → List (ℕ × Held M)) (j : ℕ) (c : S) → Taking root stays all all j c c
  taking_none all j c = ([], takes_none c, refl)

  -- all was given back
  pub taken_all : (all : ℕ → List (ℕ × Held M)) (rest : ℕ → List (ℕ × Held M)) (cs ds : List S) → ((j : ℕ) → rest j ≡ []) → Each (Taking root stays rest all) cs ds → Each (λ j. Takes root stays (all j)) cs ds
  taken_all all rest cs ds none each j c d e f =
      let h = each j c d e f in
      subst (λ n. Takes root stays n c d) (sym (append-nil h.0) ∙ (ap (λ l. h.0 ++ l) (sym (none j)) ∙ h.2)) h.1

  -- the pass of one slot is given back
  pub takes_more : {L : Type 0} (knows : L → View M) (l : ℕ) (all : ℕ → List (ℕ × Held M)) (cs ds : List S) (rest : List (Slot L)) (x : Slot L) (q r : S) → get_elem? ds x.cell ≡ some q → TookBack (root q) (knows x.lent) (root r) → stays q r
      → Each (Taking root stays (λ j. given knows j l (rest ++ x ∷ [])) all) cs ds → Each (Taking root stays (λ j. given knows j l rest) all) cs (set ds x.cell r)
  takes_more knows l all cs ds rest x q r at took kept = each_set
      (Taking root stays (λ j. given knows j l (rest ++ x ∷ [])) all) (Taking root stays (λ j. given knows j l rest) all) cs ds x.cell q r at
      (λ j c d ne h.
      let none : slot_news knows j l x ≡ [] = ap (λ b. keep b (came knows l x) []) (ne_eqb x.cell j (λ e. ne (sym e))) in
      (h.0, h.1, ap (λ g. h.0 ++ g) (sym (given_last knows j l rest x ∙ ap (λ n. n ++ given knows j l rest) none)) ∙ h.2))
      (λ c h.
      let one : slot_news knows x.cell l x ≡ came knows l x ∷ [] = ap (λ b. keep b (came knows l x) []) (eq-eqb x.cell x.cell refl) in (
        h.0 ++ came knows l x ∷ [],
        takes_both h.0 (came knows l x ∷ []) c q r h.1 (takes_one knows l x q r took kept),
        append_assoc h.0 (came knows l x ∷ []) (given knows x.cell l rest) ∙ (ap (λ g. h.0 ++ g) (sym (given_last knows x.cell l rest x ∙ ap (λ n. n ++ given knows x.cell l rest) one)) ∙ h.2),
      ))

  -- the passes of one lane are given back
  pub takes_lane : {L : Type 0} (knows : L → View M) (all : ℕ → List (ℕ × Held M)) (cs ds es : List S) (rest : List (Job L)) (job : Job L) (lane : ℕ) → lane ≡ length rest → length ds ≡ length cs
      → Each (Taking root stays (λ j. all_given knows j 0 (rest ++ job ∷ [])) all) cs ds → Each (λ j. Takes root stays (given knows j lane job.slots.items)) ds es → Each (Taking root stays (λ j. all_given knows j 0 rest) all) cs es
  takes_lane knows all cs ds es rest job lane is len =
      each_then (Taking root stays (λ j. all_given knows j 0 (rest ++ job ∷ [])) all) (λ j. Takes root stays (given knows j lane job.slots.items)) (Taking root stays (λ j. all_given knows j 0 rest) all) cs ds es len
      (λ j c d e a b.
      let n : 0 + length rest ≡ lane = omega arith in (
        a.0 ++ given knows j lane job.slots.items,
        takes_both a.0 (given knows j lane job.slots.items) c d e a.1 b,
        append_assoc a.0 (given knows j lane job.slots.items) (all_given knows j 0 rest)
            ∙ (ap (λ g. a.0 ++ g) (sym (all_last knows j 0 rest job ∙ ap (λ m. given knows j m job.slots.items ++ all_given knows j 0 rest) n)) ∙ a.2),
      ))

  pub roots_taking : (rest all : ℕ → List (ℕ × Held M)) (cs ds : List S) → length ds ≡ length cs → Each (Taking root stays rest all) cs ds → Roots root cs → Roots root ds
  roots_taking rest all cs ds len each = each_to (Taking root stays rest all) (λ c. (root c).number ≡ 0) (λ c. (root c).number ≡ 0) cs ds len (λ j c d h z. h.1.number ∙ z) each

module _ {S M : Type 0} (root : S → View M) (stays : S → S → Type 0) where
  pub roots_taken : (news : ℕ → List (ℕ × Held M)) (cs ds : List S) → length ds ≡ length cs → Each (λ j. Takes root stays (news j)) cs ds → Roots root cs → Roots root ds
  roots_taken news cs ds len each = each_to (λ j. Takes root stays (news j)) (λ c. (root c).number ≡ 0) (λ c. (root c).number ≡ 0) cs ds len (λ j c d h z. h.number ∙ z) each

  pub roots_same : (cs ds : List S) → length ds ≡ length cs → Each (λ j. Same root stays) cs ds → Roots root cs → Roots root ds
  roots_same cs ds len each = each_to (λ j. Same root stays) (λ c. (root c).number ≡ 0) (λ c. (root c).number ≡ 0) cs ds len (λ j c d h z. ap (λ (v : View M). v.number) h.view ∙ z) each

module _ {S L : Type 0} (owns : S → L → Type 0) where
  pub fit_front : (cs : List S) (slots : List (Slot L)) (x : Slot L) → SlotsFit owns cs (slots ++ x ∷ []) → SlotsFit owns cs slots
  fit_front cs slots x all s y e = all s y (at_longer slots (x ∷ []) s y e)

  pub fit_last : (cs : List S) (slots : List (Slot L)) (x : Slot L) → SlotsFit owns cs (slots ++ x ∷ []) → (x.cell < length cs) × ((c : S) → get_elem? cs x.cell ≡ some c → owns c x.lent)
  fit_last cs slots x all = all (length slots) x (at_last slots x (length slots) refl)

  pub jobs_fit_front : (cs : List S) (jobs : List (Job L)) (job : Job L) → JobsFit owns cs (jobs ++ job ∷ []) → JobsFit owns cs jobs
  jobs_fit_front cs jobs job all l x e = all l x (at_longer jobs (job ∷ []) l x e)

  pub jobs_fit_last : (cs : List S) (jobs : List (Job L)) (job : Job L) → JobsFit owns cs (jobs ++ job ∷ []) → SlotsFit owns cs job.slots.items
  jobs_fit_last cs jobs job all = all (length jobs) job (at_last jobs job (length jobs) refl)
