-- Characters are read one after another: what was read so far, and what the rest is read as.
use Rattle.std.proofs.Common.{◌≡◌, ℕ, zero, suc, ◌+◌, ◌-◌, ◌<◌, ◌≤◌, Bool, true, false, cond, not, ◌==◌, ◌≢◌, List, [], ◌∷◌, ◌++◌, length, get_or, take, drop, Option, Some, None, refl, sym, ap, subst, ◌∙◌, append_assoc, arith}
use Rattle.std.specs.Prelude.{codes, ◌||◌, if◌then◌else◌}
use Rattle.std.proofs.Math.Numerals.{one-add}
use Rattle.std.proofs.lemmas.Bool.Decides.{nat_tests}
use Rattle.std.proofs.lemmas.List.{append-nil, length-drop}
use Rattle.std.proofs.lemmas.Option.{some_pair_parts}
use Rattle.std.proofs.lemmas.Slice.{first_rest}
use Rattle.metrics_core.specs.Characters.{quote, backslash, newline}
use Rattle.metrics_core.specs.Keys.{LabelText}
use Rattle.metrics_core.specs.declared.kinds.MetricKind.{MetricKind}
use Rattle.drive_script.specs.Reading.{◌>>=◌, escaped_by, escape_at, character_at, some_characters_at, characters_at, each_at, fixed_at, values_at, label_at, labels_at, and_then, run_length, behind, text_of, text_behind, text_at, registered_kind_at, register_at}
use Rattle.drive_script.proofs.Fields.{bind_some, behind_takes}
use Rattle.drive_script.proofs.Spaced.{nothing_before, one_more, all_read}

-- what was read, and the bytes behind it
abbrev before_rest : {A : Type 0} → List A → List ℕ → Option (List A × List ℕ)
before_rest read rest = Some (read, rest)

-- the first of some bytes, and the others
pub split_first : (bytes : List ℕ) → 0 < length bytes → bytes ≡ get_or bytes 0 0 ∷ take (length bytes - 1) (drop 1 bytes)
split_first bytes some = first_rest bytes 0 some

not_quote : (c : ℕ) → c ≢ quote → (c == quote) ≡ false
not_quote c other = grind (arith, nat_tests)

-- ---- runs of characters that stand for themselves

and_then_twice : {A : Type 0} (done front : List A) (o : Option (List A × List ℕ)) → and_then done (and_then front o) ≡ and_then (done ++ front) o
and_then_twice done front None = refl
and_then_twice done front (Some others) = ap (λ l. before_rest l others.1) (sym (append_assoc done front others.0))

first_before : (c : ℕ) (front : List ℕ) (o : Option (List ℕ × List ℕ)) → (and_then front o >>= λ others. Some (c ∷ others.0, others.1)) ≡ and_then (c ∷ front) o
first_before c front None = refl
first_before c front (Some others) = refl

-- n characters in front stand for themselves
abbrev InFront : ℕ → ℕ → List ℕ → Type 0
InFront n most bytes = (m : ℕ) × (most ≡ m + n) × (some_characters_at most bytes ≡ and_then (take n bytes) (some_characters_at m (drop n bytes)))

none_in_front : (most : ℕ) (bytes : List ℕ) → InFront 0 most bytes
none_in_front most bytes = (most, omega arith, nothing_before (some_characters_at most bytes))

one_in_front : (q b l : Bool) (c n most : ℕ) (bytes : List ℕ) → (c == quote) ≡ q → (c == backslash) ≡ b → (c == newline) ≡ l → InFront n most bytes → InFront (cond (not (q || b || l)) (1 + n) 0) (suc most) (c ∷ bytes)
one_in_front true b l c n most bytes _ _ _ h = none_in_front (suc most) (c ∷ bytes)
one_in_front false true l c n most bytes _ _ _ h = none_in_front (suc most) (c ∷ bytes)
one_in_front false false true c n most bytes _ _ _ h = none_in_front (suc most) (c ∷ bytes)
one_in_front false false false c n most bytes is_q is_b is_l h =
    let read : some_characters_at (suc most) (c ∷ bytes) ≡ (some_characters_at most bytes >>= λ others. Some (c ∷ others.0, others.1)) = rw (is_q, is_l, is_b) refl in
    rw one-add (h.0, omega (arith, h.1), read ∙ rw h.2 (first_before c (take n bytes) (some_characters_at h.0 (drop n bytes))))

run_in_front : (bytes : List ℕ) (most : ℕ) → length bytes ≤ most → InFront (run_length bytes) most bytes
run_in_front [] most few = none_in_front most []
run_in_front (c ∷ bytes) zero few = absurd (omega (arith, few))
run_in_front (c ∷ bytes) (suc most) few = one_in_front (c == quote) (c == backslash) (c == newline) c (run_length bytes) most bytes refl refl refl (run_in_front bytes most (omega (arith, few)))

-- the characters are the run in front, and then those behind it
run_first : (bytes : List ℕ) → characters_at bytes ≡ and_then (take (run_length bytes) bytes) (characters_at (drop (run_length bytes) bytes))
run_first bytes =
    let front = run_in_front bytes (length bytes) (omega arith) in
    let rest : front.0 ≡ length (drop (run_length bytes) bytes) = omega (arith, front.1, length-drop (run_length bytes) bytes) in
    front.2 ∙ ap (λ m. and_then (take (run_length bytes) bytes) (some_characters_at m (drop (run_length bytes) bytes))) rest

module _ (start quoted run rest : List ℕ) (opened : behind (codes "\"") start ≡ Some quoted) (front : run ≡ take (run_length quoted) quoted) (back : rest ≡ drop (run_length quoted) quoted) where
  -- what a text is read as, behind its first run
  pub text_behind_run : text_at start ≡ text_behind run rest
  unfolding text_at
  text_behind_run = rw (opened, front, back) (ap (λ o. o >>= text_of) (run_first quoted))

  -- a quote behind it ends the text
  pub text_of_run : (left : List ℕ) → behind (codes "\"") rest ≡ Some left → text_at start ≡ text_of (run, left)
  text_of_run left closed =
      let split : rest ≡ quote ∷ left = behind_takes (codes "\"") rest left closed in
      text_behind_run ∙ ap (text_behind run) split ∙ ap (λ l. text_of (l, left)) (append-nil run)

-- ---- characters

pub record CharactersLeft (whole : Option (List ℕ × List ℕ)) (text rest : List ℕ) : Type 0 where
  pub most : ℕ
  pub enough : length rest ≤ most
  pub all : whole ≡ and_then text (some_characters_at most rest)

pub characters_begin : (start run : List ℕ) → CharactersLeft (and_then run (characters_at start)) run start
characters_begin start run = record { most = length start; enough = omega arith; all = refl }

module _ (whole : Option (List ℕ × List ℕ)) (text : List ℕ) where
  at_first : (P : Option (List ℕ × List ℕ) → Type 0) (rest : List ℕ) (c : ℕ) (others : List ℕ) → rest ≡ c ∷ others → CharactersLeft whole text rest
      → ((most : ℕ) → length others ≤ most → whole ≡ and_then text (some_characters_at (suc most) (c ∷ others)) → P whole) → P whole
  at_first P rest c others split h f = by h.most (subst (λ l. length l ≤ h.most) split h.enough) (h.all ∙ ap (λ l. and_then text (some_characters_at h.most l)) split)
    where
      by : (most : ℕ) → length (c ∷ others) ≤ most → whole ≡ and_then text (some_characters_at most (c ∷ others)) → P whole
      by zero few e = absurd (omega (arith, few))
      by (suc most) few e = f most (omega (arith, few)) e

  pub quote_ends : (rest : List ℕ) (c : ℕ) (others : List ℕ) → rest ≡ c ∷ others → c ≡ quote → CharactersLeft whole text rest → whole ≡ Some (text, others)
  quote_ends rest c others split is h =
      let same : (c == quote) ≡ true = ap (λ x. x == quote) is in
      at_first (λ o. o ≡ Some (text, others)) rest c others split h
      (λ most few e. e ∙ rw same (ap (λ l. before_rest l others) (append-nil text)))

  pub bad_character : (rest : List ℕ) (c : ℕ) (others : List ℕ) → rest ≡ c ∷ others → c ≢ quote → character_at c others ≡ None → CharactersLeft whole text rest → whole ≡ None
  bad_character rest c others split other none h =
      let no_quote = not_quote c other in
      at_first (λ o. o ≡ None) rest c others split h
      (λ most few e. e ∙ rw (no_quote, none) refl)

  pub no_quote_left : (rest : List ℕ) → rest ≡ [] → CharactersLeft whole text rest → whole ≡ None
  no_quote_left rest none h = h.all ∙ ap (λ l. and_then text (some_characters_at h.most l)) none ∙ by h.most
    where
      by : (most : ℕ) → and_then text (some_characters_at most []) ≡ None
      by zero = refl
      by (suc most) = refl

escape_shorter : (bytes : List ℕ) (d : ℕ) (rest : List ℕ) → escape_at bytes ≡ Some (d, rest) → length rest ≤ length bytes
escape_shorter [] d rest e = absurd cc
escape_shorter (c ∷ bytes) d rest e =
    let m = bind_some (escaped_by c) (behind_it bytes) (d, rest) e in
    let same = some_pair_parts m.0 d bytes rest m.2 in
    omega (arith, ap length same.1)
  where
    behind_it : List ℕ → ℕ → Option (ℕ × List ℕ)
    behind_it bytes d = Some (d, bytes)

pub character_shorter : (c : ℕ) (bytes : List ℕ) (d : ℕ) (rest : List ℕ) → character_at c bytes ≡ Some (d, rest) → length rest ≤ length bytes
character_shorter c bytes d rest e = by (c == newline) (c == backslash) e
  where
    by : (n b : Bool) → (if n then None else if b then escape_at bytes else Some (c, bytes)) ≡ Some (d, rest) → length rest ≤ length bytes
    by true b f = absurd cc
    by false true f = escape_shorter bytes d rest f
    by false false f = let same = some_pair_parts c d bytes rest f in omega (arith, ap length same.1)

next_character : (whole : Option (List ℕ × List ℕ)) (text rest : List ℕ) (c : ℕ) (others : List ℕ) (d : ℕ) (left : List ℕ) → rest ≡ c ∷ others → c ≢ quote → character_at c others ≡ Some (d, left) → CharactersLeft whole text rest → CharactersLeft whole (text ++ d ∷ []) left
next_character whole text rest c others d left split other found h = by h.most (subst (λ l. length l ≤ h.most) split h.enough) (h.all ∙ ap (λ l. and_then text (some_characters_at h.most l)) split)
  where
    by : (most : ℕ) → length (c ∷ others) ≤ most → whole ≡ and_then text (some_characters_at most (c ∷ others)) → CharactersLeft whole (text ++ d ∷ []) left
    by zero few e = absurd (omega (arith, few))
    by (suc most) few e = record {
      most = most;
      enough = omega (arith, few, character_shorter c others d left found);
      all = e ∙ rw (not_quote c other, found) (one_more text d (some_characters_at most left));
    }

-- a character, and the run behind it
pub next_run : (whole : Option (List ℕ × List ℕ)) (text rest : List ℕ) (c : ℕ) (others : List ℕ) (d : ℕ) (left : List ℕ) → rest ≡ c ∷ others → c ≢ quote → character_at c others ≡ Some (d, left) → CharactersLeft whole text rest
    → CharactersLeft whole ((text ++ d ∷ []) ++ take (run_length left) left) (drop (run_length left) left)
next_run whole text rest c others d left split other found h = behind_run (next_character whole text rest c others d left split other found h)
  where
    behind_run : CharactersLeft whole (text ++ d ∷ []) left → CharactersLeft whole ((text ++ d ∷ []) ++ take (run_length left) left) (drop (run_length left) left)
    behind_run h =
        let front = run_in_front left h.most h.enough in
        record {
          most = front.0;
          enough = omega (arith, front.1, h.enough, length-drop (run_length left) left);
          all = h.all ∙ ap (and_then (text ++ d ∷ [])) front.2 ∙ and_then_twice (text ++ d ∷ []) (take (run_length left) left) (some_characters_at front.0 (drop (run_length left) left));
        }

-- ---- labels and values

-- labels are each thing that is read to the end
pub labels_each : (bytes : List ℕ) → labels_at bytes ≡ each_at label_at bytes
unfolding labels_at
labels_each bytes = refl

pub values_each : (bytes : List ℕ) → values_at bytes ≡ each_at fixed_at bytes
unfolding values_at
values_each bytes = refl

all_labels_read : (bytes : List ℕ) (labels : List LabelText) (rest : List ℕ) → labels_at bytes ≡ Some (labels, rest) → rest ≡ []
all_labels_read bytes labels rest e = all_read label_at bytes labels rest (sym (labels_each bytes) ∙ e)

pub registered_read : (line behind_kind behind_name rest : List ℕ) (kind : MetricKind) (name : List ℕ) (labels : List LabelText) → registered_kind_at line ≡ Some (kind, behind_kind) → text_at behind_kind ≡ Some (name, behind_name) → labels_at behind_name ≡ Some (labels, rest)
    → register_at line ≡ Some (kind, (name, labels))
unfolding register_at
registered_read line behind_kind behind_name rest kind name labels is_kind is_name are_labels = rw (is_kind, is_name, are_labels, all_labels_read behind_name labels rest are_labels) refl
