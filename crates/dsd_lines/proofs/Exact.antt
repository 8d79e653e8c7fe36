-- A line is read as what it says, and as nothing else.
use Rattle.std.proofs.Common.{◌≡◌, ℕ, ◌<◌, Bool, true, false, List, [], ◌∷◌, ◌++◌, map, length, Option, Some, None, refl, sym, ap, subst, ◌∙◌, append_assoc, append-nil, arith}
use Rattle.std.specs.Prelude.{MatchOption, option_map, All, ◌==◌, ℤ, codes, bytes_eq, ◌⊎◌, if◌then◌else◌}
use Rattle.std.specs.List.{AllZip, join_with_byte}
use Rattle.std.proofs.lemmas.Bool.{true≢false}
use Rattle.std.proofs.lemmas.Bool.Decides.{Decides-eqb}
use Rattle.std.proofs.lemmas.List.Elements.{All-nil, All-cons, All-head, All-tail, All-append}
use Rattle.std.proofs.lemmas.Option.{cond_some, same_Some}
use Rattle.std.proofs.lemmas.Slice.Eq.{bytes_eq-Decides}
use Rattle.metrics_core.specs.Characters.{newline, comma, colon}
use Rattle.metrics_core.specs.Keys.{LabelText}
use Rattle.dsd_writer.specs.Lines.{tag_text}
use Rattle.dsd_lines.specs.declared.dialects.Dialect.{Dialect}
use Rattle.dsd_lines.specs.declared.dialects.Dialect.TheVariants.{DogStatsd, Statsd}
use Rattle.dsd_lines.specs.Grammar.{PointsText, Counter, Gauge, Steps, Histogram, Distribution, Timer, StepText, LineText, IsNumber, IsDecimal, IsStep, IsMillis, AreSpelled, IsPlain, IsTag, bar, ends_name, ends_key, ends_value, type_text, AreRateParts, tags_parts, AreTimeParts, IsLineIn}
use Rattle.dsd_lines.specs.Reading.{◌>>=◌, is, pieces, each, some_of, number_of, decimal_of, step_of, millis_of, rate_of, plain_of, typed, typed_values, others_of, points_of, led, led_by, optional, tags_of, or_none, tags_at, ended, line_behind, line_of_head, line_of_parts, line_at}
use Rattle.dsd_lines.specs.Texts.{IsNoLineIn, line_text}
use Rattle.dsd_lines.specs.declared.lines.Line.{Line}
use Rattle.dsd_lines.proofs.Digits.{number_takes, number_again}
use Rattle.dsd_lines.proofs.Decimals.{bind_some, OfNumber, in_number, number_in_number, decimal_in_number, step_in_number, other_free, decimal_takes, decimal_again, step_takes, step_again, millis_take, millis_again, rate_takes, rate_again}
use Rattle.dsd_lines.proofs.Joined.{Free, pieces_free, pieces_keep, pieces_join, join_pieces, join_keeps}
use Rattle.dsd_lines.proofs.Plain.{plain_takes, plain_again, name_ends, name_apart, key_apart, value_apart}
use Rattle.dsd_lines.proofs.TagForms.{each_takes, each_again, tags_take, tags_again, tags_free}

-- ---- values

some_takes : {A : Type 0} (read : List ℕ → Option A) (values : List (List ℕ)) (xs : List A) → some_of read values ≡ Some xs → (0 < length values) × (each read values ≡ Some xs)
some_takes read [] xs e = absurd cc
some_takes read (value ∷ values) xs e = (omega arith, e)

some_again : {A : Type 0} (read : List ℕ → Option A) (values : List (List ℕ)) (xs : List A) → 0 < length values → each read values ≡ Some xs → some_of read values ≡ Some xs
some_again read [] xs some e = absurd (omega (arith, some))
some_again read (value ∷ values) xs some e = e

numbers_take : (values : List (List ℕ)) (counts : List ℕ) → each number_of values ≡ Some counts → AllZip IsNumber values counts
numbers_take values counts e = each_takes number_of (λ _. Unit {0}) IsNumber (λ text n _ f. number_takes text n f) values counts (λ k d within. tt) e

numbers_again : (values : List (List ℕ)) (counts : List ℕ) → AllZip IsNumber values counts → each number_of values ≡ Some counts
numbers_again values counts h = each_again number_of (λ _. Unit {0}) IsNumber (λ text n h. ap number_of h.0 ∙ number_again n h.1) values counts h

decimals_take : (values : List (List ℕ)) (numbers : List ℤ) → each decimal_of values ≡ Some numbers → AllZip IsDecimal values numbers
decimals_take values numbers e = each_takes decimal_of (λ _. Unit {0}) IsDecimal (λ text v _ f. decimal_takes text v f) values numbers (λ k d within. tt) e

decimals_again : (values : List (List ℕ)) (numbers : List ℤ) → AllZip IsDecimal values numbers → each decimal_of values ≡ Some numbers
decimals_again values numbers h = each_again decimal_of (λ _. Unit {0}) IsDecimal decimal_again values numbers h

steps_take : (values : List (List ℕ)) (steps : List StepText) → each step_of values ≡ Some steps → AllZip IsStep values steps
steps_take values steps e = each_takes step_of (λ _. Unit {0}) IsStep (λ text v _ f. step_takes text v f) values steps (λ k d within. tt) e

timers_take : (values : List (List ℕ)) (numbers : List ℤ) → each millis_of values ≡ Some numbers → AllZip IsMillis values numbers
timers_take values numbers e = each_takes millis_of (λ _. Unit {0}) IsMillis (λ text v _ f. millis_take text v f) values numbers (λ k d within. tt) e

record Taken (dialect : Dialect) (type : List ℕ) (values : List (List ℕ)) (points : PointsText) : Type 0 where
  type_is : type ≡ type_text points
  some : 0 < length values
  spelled : AreSpelled dialect points values

same_text : (x y : List ℕ) → bytes_eq x y ≡ true → x ≡ y
same_text x y e = (bytes_eq-Decides x y).0 e

typed_takes : (dialect : Dialect) (type : List ℕ) (values : List (List ℕ)) (numbers : List ℤ) (points : PointsText) → (bytes_eq type (codes "g") ≡ true → dialect ≡ DogStatsd) → 0 < length values → AllZip IsDecimal values numbers → typed type numbers ≡ Some points → Taken dialect type values points
unfolding typed
typed_takes dialect type values numbers points gauge some all e = by (bytes_eq type (codes "g")) (bytes_eq type (codes "h")) (bytes_eq type (codes "d")) refl refl refl e
  where
    by : (g h d : Bool) → bytes_eq type (codes "g") ≡ g → bytes_eq type (codes "h") ≡ h → bytes_eq type (codes "d") ≡ d
        → (if g then Some (Gauge numbers) else if h then Some (Histogram numbers) else if d then Some (Distribution numbers) else None) ≡ Some points → Taken dialect type values points
    by true h d is_g is_h is_d f = subst (Taken dialect type values) (same_Some (Gauge numbers) points f) (record { type_is = same_text type (codes "g") is_g; some = some; spelled = (gauge is_g, all) })
    by false true d is_g is_h is_d f = subst (Taken dialect type values) (same_Some (Histogram numbers) points f) (record { type_is = same_text type (codes "h") is_h; some = some; spelled = all })
    by false false true is_g is_h is_d f = subst (Taken dialect type values) (same_Some (Distribution numbers) points f) (record { type_is = same_text type (codes "d") is_d; some = some; spelled = all })
    by false false false is_g is_h is_d f = absurd cc

typed_values_take : (dialect : Dialect) (type : List ℕ) (values : List (List ℕ)) (points : PointsText) → (bytes_eq type (codes "g") ≡ true → dialect ≡ DogStatsd) → typed_values type values ≡ Some points → Taken dialect type values points
typed_values_take dialect type values points gauge e =
    let m = bind_some (some_of decimal_of values) (typed type) points e in
    let h = some_takes decimal_of values m.0 m.1 in
    typed_takes dialect type values m.0 points gauge h.0 (decimals_take values m.0 h.1) m.2

others_take : (dialect : Dialect) (type : List ℕ) (values : List (List ℕ)) (points : PointsText) → others_of dialect type values ≡ Some points → Taken dialect type values points
unfolding others_of
others_take DogStatsd type values points e = typed_values_take DogStatsd type values points (λ _. refl) e
others_take Statsd type values points e = by (bytes_eq type (codes "g")) (bytes_eq type (codes "ms")) refl refl e
  where
    by : (g ms : Bool) → bytes_eq type (codes "g") ≡ g → bytes_eq type (codes "ms") ≡ ms
        → (if g then (some_of step_of values >>= λ steps. Some (Steps steps)) else if ms then (some_of millis_of values >>= λ numbers. Some (Timer numbers)) else typed_values type values) ≡ Some points
        → Taken Statsd type values points
    by true ms is_g is_ms f =
        let m = bind_some (some_of step_of values) (λ steps. Some (Steps steps)) points f in
        let h = some_takes step_of values m.0 m.1 in
        subst (Taken Statsd type values) (same_Some (Steps m.0) points m.2) (record { type_is = same_text type (codes "g") is_g; some = h.0; spelled = (refl, steps_take values m.0 h.1) })
    by false true is_g is_ms f =
        let m = bind_some (some_of millis_of values) (λ numbers. Some (Timer numbers)) points f in
        let h = some_takes millis_of values m.0 m.1 in
        subst (Taken Statsd type values) (same_Some (Timer m.0) points m.2) (record { type_is = same_text type (codes "ms") is_ms; some = h.0; spelled = (refl, timers_take values m.0 h.1) })
    by false false is_g is_ms f = typed_values_take Statsd type values points (λ g. absurd (true≢false (sym g ∙ is_g))) f

points_take : (dialect : Dialect) (type : List ℕ) (values : List (List ℕ)) (points : PointsText) → points_of dialect type values ≡ Some points → Taken dialect type values points
unfolding points_of
points_take dialect type values points e = by (bytes_eq type (codes "c")) refl e
  where
    by : (c : Bool) → bytes_eq type (codes "c") ≡ c → (if c then (some_of number_of values >>= λ counts. Some (Counter counts)) else others_of dialect type values) ≡ Some points → Taken dialect type values points
    by true is_c f =
        let m = bind_some (some_of number_of values) (λ counts. Some (Counter counts)) points f in
        let h = some_takes number_of values m.0 m.1 in
        subst (Taken dialect type values) (same_Some (Counter m.0) points m.2) (record { type_is = same_text type (codes "c") is_c; some = h.0; spelled = numbers_take values m.0 h.1 })
    by false is_c f = others_take dialect type values points f

points_again : (dialect : Dialect) (values : List (List ℕ)) (points : PointsText) → 0 < length values → AreSpelled dialect points values → points_of dialect (type_text points) values ≡ Some points
unfolding points_of others_of typed
points_again dialect values (Counter counts) some h = ap (λ o. o >>= λ counts. Some (Counter counts)) (some_again number_of values counts some (numbers_again values counts h))
points_again dialect values (Gauge numbers) some (is, all) = ap (λ d. others_of d (codes "g") values) is ∙ ap (λ o. o >>= typed (codes "g")) (some_again decimal_of values numbers some (decimals_again values numbers all))
points_again dialect values (Steps steps) some (is, all) = ap (λ d. others_of d (codes "g") values) is
    ∙ ap (λ o. o >>= λ steps. Some (Steps steps)) (some_again step_of values steps some (each_again step_of (λ _. Unit {0}) IsStep step_again values steps all))
points_again dialect values (Timer numbers) some (is, all) = ap (λ d. others_of d (codes "ms") values) is
    ∙ ap (λ o. o >>= λ numbers. Some (Timer numbers)) (some_again millis_of values numbers some (each_again millis_of (λ _. Unit {0}) IsMillis millis_again values numbers all))
points_again DogStatsd values (Histogram numbers) some h = ap (λ o. o >>= typed (codes "h")) (some_again decimal_of values numbers some (decimals_again values numbers h))
points_again Statsd values (Histogram numbers) some h = ap (λ o. o >>= typed (codes "h")) (some_again decimal_of values numbers some (decimals_again values numbers h))
points_again DogStatsd values (Distribution numbers) some h = ap (λ o. o >>= typed (codes "d")) (some_again decimal_of values numbers some (decimals_again values numbers h))
points_again Statsd values (Distribution numbers) some h = ap (λ o. o >>= typed (codes "d")) (some_again decimal_of values numbers some (decimals_again values numbers h))

-- ---- parts that may be there

-- what was taken of some parts: none, or the text behind the character that leads the first one
abbrev Part : {A : Type 0} → ℕ → (List ℕ → Option A) → List (List ℕ) → Option A → List (List ℕ) → Type 0
Part c read parts None rest = parts ≡ rest
Part c read parts (Some a) rest = (text : List ℕ) × (parts ≡ (c ∷ text) ∷ rest) × (read text ≡ Some a)

led_takes : (c : ℕ) (parts : List (List ℕ)) (found : List ℕ × List (List ℕ)) → led c parts ≡ Some found → parts ≡ (c ∷ found.0) ∷ found.1
led_takes c [] found e = absurd cc
led_takes c ([] ∷ parts) found e = absurd cc
led_takes c ((first ∷ text) ∷ parts) found e =
    let tested = cond_some (first == c) (text, parts) found e in
    (λ j. ((Decides-eqb first c).0 tested.0 j ∷ (tested.1 j).0) ∷ (tested.1 j).1)

optional_takes : {A : Type 0} (c : ℕ) (read : List ℕ → Option A) (parts : List (List ℕ)) (taken : Option A) (rest : List (List ℕ)) → optional c read parts ≡ Some (taken, rest) → Part c read parts taken rest
optional_takes {A} c read parts taken rest e = by (led c parts) refl e
  where
    Given : Option A × List (List ℕ) → Type 0
    Given p = Part c read parts p.0 p.1

    by : (found : Option (List ℕ × List (List ℕ))) → led c parts ≡ found → led_by found read parts ≡ Some (taken, rest) → Part c read parts taken rest
    by None none f = subst Given {x = (None, parts)} {y = (taken, rest)} (same_Some (None, parts) (taken, rest) f) refl
    by (Some found) some f =
        let m = bind_some (read found.0) (λ said. Some (Some said, found.1)) (taken, rest) f in
        subst Given {x = (Some m.0, found.1)} {y = (taken, rest)} (same_Some (Some m.0, found.1) (taken, rest) m.2) (found.0, led_takes c parts found some, m.1)

optional_some : {A : Type 0} (c : ℕ) (read : List ℕ → Option A) (text : List ℕ) (a : A) (rest : List (List ℕ)) → read text ≡ Some a → optional c read ((c ∷ text) ∷ rest) ≡ Some (Some a, rest)
optional_some c read text a rest e = rw ((Decides-eqb c c).1 refl, e) refl

optional_none : {A : Type 0} (c : ℕ) (read : List ℕ → Option A) (parts : List (List ℕ)) → led c parts ≡ None → optional c read parts ≡ Some (None, parts)
optional_none c read parts e = rw e refl

-- ---- from what is read to the line

record Behind (name : List ℕ) (points : PointsText) (parts : List (List ℕ)) (said : LineText) : Type 0 where
  rate : List (List ℕ)
  timestamp : List (List ℕ)
  split : parts ≡ rate ++ tags_parts said.key.labels ++ timestamp
  name_is : name ≡ said.key.name
  points_are : points ≡ said.points
  is_rate : AreRateParts rate said.rate
  tags : All IsTag said.key.labels
  is_timestamp : AreTimeParts timestamp said.timestamp

rate_parts : (parts rest : List (List ℕ)) (rate : Option ℕ) → Part 64 rate_of parts rate rest → (texts : List (List ℕ)) × (parts ≡ texts ++ rest) × AreRateParts texts rate
rate_parts parts rest None h = ([], h, refl)
rate_parts parts rest (Some rate) h = ((64 ∷ h.0) ∷ [], h.1, (h.0, refl, rate_takes h.0 rate h.2))

time_parts : (parts rest : List (List ℕ)) (seconds : Option ℕ) → Part 84 number_of parts seconds rest → (texts : List (List ℕ)) × (parts ≡ texts ++ rest) × AreTimeParts texts seconds
time_parts parts rest None h = ([], h, refl)
time_parts parts rest (Some seconds) h = ((84 ∷ h.0) ∷ [], h.1, (h.0, refl, number_takes h.0 seconds h.2))

spelled_tags : (tags : List LabelText) → 0 < length tags → tags_parts tags ≡ (35 ∷ join_with_byte comma (map tag_text tags)) ∷ []
spelled_tags [] some = absurd (omega (arith, some))
spelled_tags (tag ∷ tags) some = refl

tag_parts : (parts rest : List (List ℕ)) (tags : Option (List LabelText)) → All (Free bar) parts → Part 35 tags_of parts tags rest → (parts ≡ tags_parts (or_none tags) ++ rest) × All IsTag (or_none tags)
tag_parts parts rest None free h = (h, All-nil IsTag)
tag_parts parts rest (Some tags) free h =
    let first = All-head (Free bar) (35 ∷ h.0) rest (subst (All (Free bar)) h.1 free) in
    let k = tags_take h.0 tags (All-tail (λ c. is bar c ≡ false) 35 h.0 first) h.2 in
    (h.1 ∙ ap (λ text. (35 ∷ text) ∷ rest) k.0 ∙ ap (λ l. l ++ rest) (sym (spelled_tags tags k.2)), k.1)

ended_takes : {A : Type 0} (a b : A) (parts : List (List ℕ)) → ended a parts ≡ Some b → (parts ≡ []) × (a ≡ b)
ended_takes a b [] e = (refl, same_Some a b e)
ended_takes a b (part ∷ parts) e = absurd cc

free_behind : (texts rest parts : List (List ℕ)) → parts ≡ texts ++ rest → All (Free bar) parts → All (Free bar) rest
free_behind [] rest parts e all = subst (All (Free bar)) e all
free_behind (text ∷ texts) rest parts e all = free_behind texts rest (texts ++ rest) refl (All-tail (Free bar) text (texts ++ rest) (subst (All (Free bar)) e all))

abbrev line_made : List ℕ → PointsText → Option ℕ → List LabelText → Option ℕ → LineText
line_made name points rate tags timestamp = record { key = record { name = name; labels = tags }; points = points; rate = rate; timestamp = timestamp }

behind_takes : (name : List ℕ) (points : PointsText) (parts : List (List ℕ)) (said : LineText) → All (Free bar) parts → line_behind name points parts ≡ Some said → Behind name points parts said
unfolding line_behind
behind_takes name points parts said free e =
    let whole = line_made name points in
    let a = bind_some (optional 64 rate_of parts) (λ rate. tags_at rate.1 >>= λ tags. optional 84 number_of tags.1 >>= λ timestamp. ended (whole rate.0 tags.0 timestamp.0) timestamp.1) said e in
    let b = bind_some (tags_at a.0.1) (λ tags. optional 84 number_of tags.1 >>= λ timestamp. ended (whole a.0.0 tags.0 timestamp.0) timestamp.1) said a.2 in
    let t = bind_some (optional 35 tags_of a.0.1) (λ tags. Some (or_none tags.0, tags.1)) b.0 b.1 in
    let c = bind_some (optional 84 number_of b.0.1) (λ timestamp. ended (whole a.0.0 b.0.0 timestamp.0) timestamp.1) said b.2 in
    let last = ended_takes (whole a.0.0 b.0.0 c.0.0) said c.0.1 c.2 in
    let rate = rate_parts parts a.0.1 a.0.0 (optional_takes 64 rate_of parts a.0.0 a.0.1 a.1) in
    let tags = tag_parts a.0.1 t.0.1 t.0.0 (free_behind rate.0 a.0.1 parts rate.1 free) (optional_takes 35 tags_of a.0.1 t.0.0 t.0.1 t.1) in
    let same = same_Some (or_none t.0.0, t.0.1) b.0 t.2 in
    let time = time_parts b.0.1 c.0.1 c.0.0 (optional_takes 84 number_of b.0.1 c.0.0 c.0.1 c.1) in
    let tags_are : a.0.1 ≡ tags_parts b.0.0 ++ b.0.1 = tags.0 ∙ (λ j. tags_parts (same j).0 ++ (same j).1) in
    let time_is : b.0.1 ≡ time.0 = time.1 ∙ ap (λ l. time.0 ++ l) last.0 ∙ append-nil time.0 in
    subst (Behind name points parts) last.1 (record {
      rate = rate.0;
      timestamp = time.0;
      split = rate.1 ∙ ap (λ l. rate.0 ++ l) (tags_are ∙ ap (λ l. tags_parts b.0.0 ++ l) time_is) ∙ sym (append_assoc rate.0 (tags_parts b.0.0) time.0);
      name_is = refl;
      points_are = refl;
      is_rate = rate.2;
      tags = subst (λ (l : List LabelText). All IsTag l) (ap (λ (p : List LabelText × List (List ℕ)). p.0) same) tags.1;
      is_timestamp = time.2;
    })

record Head (dialect : Dialect) (texts : List (List ℕ)) (type : List ℕ) (parts : List (List ℕ)) (said : LineText) : Type 0 where
  values : List (List ℕ)
  texts_are : texts ≡ said.key.name ∷ values
  type_is : type ≡ type_text said.points
  some : 0 < length values
  name : IsPlain ends_name said.key.name
  spelled : AreSpelled dialect said.points values
  rate : List (List ℕ)
  timestamp : List (List ℕ)
  split : parts ≡ rate ++ tags_parts said.key.labels ++ timestamp
  is_rate : AreRateParts rate said.rate
  tags : All IsTag said.key.labels
  is_timestamp : AreTimeParts timestamp said.timestamp

head_takes : (dialect : Dialect) (texts : List (List ℕ)) (type : List ℕ) (parts : List (List ℕ)) (said : LineText) → All (Free colon) texts → All (Free bar) texts → All (Free bar) parts → line_of_head dialect texts type parts ≡ Some said → Head dialect texts type parts said
unfolding line_of_head
head_takes dialect [] type parts said no_colon no_bar free e = absurd cc
head_takes dialect (text ∷ values) type parts said no_colon no_bar free e =
    let a = bind_some (plain_of text) (λ name. points_of dialect type values >>= λ points. line_behind name points parts) said e in
    let b = bind_some (points_of dialect type values) (λ points. line_behind a.0 points parts) said a.2 in
    let name = plain_takes text a.0 a.1 in
    let colons = All-head (Free colon) text values no_colon in
    let bars = All-head (Free bar) text values no_bar in
    let plain : IsPlain ends_name text = record { some = name.1; utf8 = name.2; none = λ k d within. name_ends _ (colons k d within) (bars k d within) (name.3 k d within) } in
    let points = points_take dialect type values b.0 b.1 in
    let behind = behind_takes a.0 b.0 parts said free b.2 in
    let named : text ≡ said.key.name = name.0 ∙ behind.name_is in
    record {
      values = values;
      texts_are = ap (λ t. t ∷ values) named;
      type_is = points.type_is ∙ ap type_text behind.points_are;
      some = points.some;
      name = subst (IsPlain ends_name) named plain;
      spelled = subst (λ p. AreSpelled dialect p values) behind.points_are points.spelled;
      rate = behind.rate;
      timestamp = behind.timestamp;
      split = behind.split;
      is_rate = behind.is_rate;
      tags = behind.tags;
      is_timestamp = behind.is_timestamp;
    }

pub line_takes : (dialect : Dialect) (bytes : List ℕ) (said : LineText) → line_at dialect bytes ≡ Some said → IsLineIn dialect bytes said
unfolding line_at
line_takes dialect bytes said e = by (pieces bar bytes) refl e
  where
    by : (parts : List (List ℕ)) → pieces bar bytes ≡ parts → line_of_parts dialect parts ≡ Some said → IsLineIn dialect bytes said
    by [] split f = absurd cc
    by (head ∷ []) split f = absurd cc
    by (head ∷ type ∷ parts) split f =
        let all = subst (All (Free bar)) split (pieces_free bar bytes) in
        let others = All-tail (Free bar) head (type ∷ parts) all in
        let texts = pieces_keep (λ c. is bar c ≡ false) colon head (All-head (Free bar) head (type ∷ parts) all) in
        let h = head_takes dialect (pieces colon head) type parts said (pieces_free colon head) texts (All-tail (Free bar) type parts others) f in
        let head_is : head ≡ join_with_byte colon (said.key.name ∷ h.values) = sym (join_pieces colon head) ∙ ap (join_with_byte colon) h.texts_are in
        record {
          values = h.values;
          rate = h.rate;
          timestamp = h.timestamp;
          spelled = sym (join_pieces bar bytes) ∙ ap (join_with_byte bar) (split ∙ (λ j. head_is j ∷ h.type_is j ∷ h.split j));
          some = h.some;
          clean = record { name = h.name; tags = h.tags };
          are_values = h.spelled;
          is_rate = h.is_rate;
          is_timestamp = h.is_timestamp;
        }

-- ---- from the line to what is read

decimals_in_number : (values : List (List ℕ)) (numbers : List ℤ) → AllZip IsDecimal values numbers → All OfNumber values
decimals_in_number [] [] h = All-nil OfNumber
decimals_in_number [] (n ∷ numbers) h = absurd h
decimals_in_number (v ∷ values) [] h = absurd h
decimals_in_number (v ∷ values) (n ∷ numbers) h = All-cons OfNumber v values (decimal_in_number v n h.0) (decimals_in_number values numbers h.1)

counts_in_number : (values : List (List ℕ)) (counts : List ℕ) → AllZip IsNumber values counts → All OfNumber values
counts_in_number [] [] h = All-nil OfNumber
counts_in_number [] (n ∷ counts) h = absurd h
counts_in_number (v ∷ values) [] h = absurd h
counts_in_number (v ∷ values) (n ∷ counts) h = All-cons OfNumber v values (subst OfNumber (sym h.0.0) (number_in_number n h.0.1)) (counts_in_number values counts h.1)

steps_in_number : (values : List (List ℕ)) (steps : List StepText) → AllZip IsStep values steps → All OfNumber values
steps_in_number [] [] h = All-nil OfNumber
steps_in_number [] (s ∷ steps) h = absurd h
steps_in_number (v ∷ values) [] h = absurd h
steps_in_number (v ∷ values) (s ∷ steps) h = All-cons OfNumber v values (step_in_number v s h.0) (steps_in_number values steps h.1)

timers_in_number : (values : List (List ℕ)) (numbers : List ℤ) → AllZip IsMillis values numbers → All OfNumber values
timers_in_number [] [] h = All-nil OfNumber
timers_in_number [] (n ∷ numbers) h = absurd h
timers_in_number (v ∷ values) [] h = absurd h
timers_in_number (v ∷ values) (n ∷ numbers) h = All-cons OfNumber v values (decimal_in_number v h.0.0 h.0.1) (timers_in_number values numbers h.1)

values_in_number : (dialect : Dialect) (points : PointsText) (values : List (List ℕ)) → AreSpelled dialect points values → All OfNumber values
values_in_number dialect (Counter counts) values h = counts_in_number values counts h
values_in_number dialect (Gauge numbers) values h = decimals_in_number values numbers h.1
values_in_number dialect (Steps steps) values h = steps_in_number values steps h.1
values_in_number dialect (Histogram numbers) values h = decimals_in_number values numbers h
values_in_number dialect (Distribution numbers) values h = decimals_in_number values numbers h
values_in_number dialect (Timer numbers) values h = timers_in_number values numbers h.1

values_free : (stop : ℕ) (dialect : Dialect) (points : PointsText) (values : List (List ℕ)) → in_number stop ≡ false → AreSpelled dialect points values → All (Free stop) values
values_free stop dialect points values other h = λ k d within. other_free stop _ other (values_in_number dialect points values h k d within)

-- the other parts can't be taken for one that isn't there
no_rate : (tags : List LabelText) (timestamp : List (List ℕ)) (seconds : Option ℕ) → AreTimeParts timestamp seconds → led 64 (tags_parts tags ++ timestamp) ≡ None
no_rate [] timestamp None h = ap (led 64) h
no_rate [] timestamp (Some seconds) h = ap (led 64) h.1
no_rate (tag ∷ tags) timestamp seconds h = refl

no_tags : (timestamp : List (List ℕ)) (seconds : Option ℕ) → AreTimeParts timestamp seconds → led 35 timestamp ≡ None
no_tags timestamp None h = ap (led 35) h
no_tags timestamp (Some seconds) h = ap (led 35) h.1

rate_read : (rate : List (List ℕ)) (said : Option ℕ) (rest : List (List ℕ)) → AreRateParts rate said → led 64 rest ≡ None → optional 64 rate_of (rate ++ rest) ≡ Some (said, rest)
rate_read rate None rest h none = ap (λ l. optional 64 rate_of (l ++ rest)) h ∙ optional_none 64 rate_of rest none
rate_read rate (Some said) rest h none = ap (λ l. optional 64 rate_of (l ++ rest)) h.1 ∙ optional_some 64 rate_of h.0 said rest (rate_again h.0 said h.2)

time_read : (timestamp : List (List ℕ)) (said : Option ℕ) → AreTimeParts timestamp said → optional 84 number_of timestamp ≡ Some (said, [])
time_read timestamp None h = ap (optional 84 number_of) h
time_read timestamp (Some said) h = ap (optional 84 number_of) h.1 ∙ optional_some 84 number_of h.0 said [] (ap number_of h.2.0 ∙ number_again said h.2.1)

tags_read : (tags : List LabelText) (rest : List (List ℕ)) → All IsTag tags → led 35 rest ≡ None → tags_at (tags_parts tags ++ rest) ≡ Some (tags, rest)
tags_read [] rest all none = ap (λ o. o >>= λ tags. Some (or_none tags.0, tags.1)) (optional_none 35 tags_of rest none)
tags_read (tag ∷ tags) rest all none =
    ap (λ o. o >>= λ tags. Some (or_none tags.0, tags.1)) (optional_some 35 tags_of (join_with_byte comma (map tag_text (tag ∷ tags))) (tag ∷ tags) rest (tags_again (tag ∷ tags) all (omega arith)))

-- a character that stands in no part of a line
record StandsApart (stop : ℕ) : Type 0 where
  number : in_number stop ≡ false
  comma_apart : is stop comma ≡ false
  colon_apart : is stop colon ≡ false
  leads : (is stop 64 ≡ false) × (is stop 35 ≡ false) × (is stop 84 ≡ false)
  types : (is stop 99 ≡ false) × (is stop 103 ≡ false) × (is stop 104 ≡ false) × (is stop 100 ≡ false)
  timer : (is stop 109 ≡ false) × (is stop 115 ≡ false)
  name : (c : ℕ) → ends_name c ≡ false → is stop c ≡ false
  key : (c : ℕ) → ends_key c ≡ false → is stop c ≡ false
  value : (c : ℕ) → ends_value c ≡ false → is stop c ≡ false

bar_apart : StandsApart bar
bar_apart = record {
  number = refl;
  comma_apart = refl;
  colon_apart = refl;
  leads = (refl, refl, refl);
  types = (refl, refl, refl, refl);
  timer = (refl, refl);
  name = λ c e. (name_apart c e).1;
  key = λ c e. (key_apart c e).2;
  value = λ c e. (value_apart c e).1;
}

newline_apart : StandsApart newline
newline_apart = record {
  number = refl;
  comma_apart = refl;
  colon_apart = refl;
  leads = (refl, refl, refl);
  types = (refl, refl, refl, refl);
  timer = (refl, refl);
  name = λ c e. (name_apart c e).2;
  key = λ c e. (key_apart c e).3;
  value = λ c e. (value_apart c e).2;
}

module _ (stop : ℕ) (apart : StandsApart stop) where
  free_rate : (rate : List (List ℕ)) (said : Option ℕ) → AreRateParts rate said → All (Free stop) rate
  free_rate rate None h = subst (All (Free stop)) (sym h) (All-nil (Free stop))
  free_rate rate (Some said) h =
      let number = other_free stop h.0 apart.number (decimal_in_number h.0 _ h.2.spelled) in
      subst (All (Free stop)) (sym h.1) (All-cons (Free stop) (64 ∷ h.0) [] (All-cons (λ c. is stop c ≡ false) 64 h.0 apart.leads.0 number) (All-nil (Free stop)))

  free_time : (timestamp : List (List ℕ)) (said : Option ℕ) → AreTimeParts timestamp said → All (Free stop) timestamp
  free_time timestamp None h = subst (All (Free stop)) (sym h) (All-nil (Free stop))
  free_time timestamp (Some said) h =
      let number = other_free stop h.0 apart.number (subst OfNumber (sym h.2.0) (number_in_number said h.2.1)) in
      subst (All (Free stop)) (sym h.1) (All-cons (Free stop) (84 ∷ h.0) [] (All-cons (λ c. is stop c ≡ false) 84 h.0 apart.leads.2 number) (All-nil (Free stop)))

  free_tags : (tags : List LabelText) → All IsTag tags → All (Free stop) (tags_parts tags)
  free_tags [] all = All-nil (Free stop)
  free_tags (tag ∷ tags) all =
      let texts = tags_free stop apart.colon_apart apart.key apart.value (tag ∷ tags) all in
      All-cons (Free stop) (35 ∷ join_with_byte comma (map tag_text (tag ∷ tags))) []
      (All-cons (λ c. is stop c ≡ false) 35 (join_with_byte comma (map tag_text (tag ∷ tags))) apart.leads.1 (join_keeps (λ c. is stop c ≡ false) comma (map tag_text (tag ∷ tags)) apart.comma_apart texts)) (All-nil (Free stop))

  free_type : (points : PointsText) → Free stop (type_text points)
  free_type (Counter counts) = All-cons (λ c. is stop c ≡ false) 99 [] apart.types.0 (All-nil (λ c. is stop c ≡ false))
  free_type (Gauge numbers) = All-cons (λ c. is stop c ≡ false) 103 [] apart.types.1 (All-nil (λ c. is stop c ≡ false))
  free_type (Histogram numbers) = All-cons (λ c. is stop c ≡ false) 104 [] apart.types.2 (All-nil (λ c. is stop c ≡ false))
  free_type (Distribution numbers) = All-cons (λ c. is stop c ≡ false) 100 [] apart.types.3 (All-nil (λ c. is stop c ≡ false))
  free_type (Steps steps) = All-cons (λ c. is stop c ≡ false) 103 [] apart.types.1 (All-nil (λ c. is stop c ≡ false))
  free_type (Timer numbers) = All-cons (λ c. is stop c ≡ false) 109 (115 ∷ []) apart.timer.0 (All-cons (λ c. is stop c ≡ false) 115 [] apart.timer.1 (All-nil (λ c. is stop c ≡ false)))

  free_head : (dialect : Dialect) (bytes : List ℕ) (said : LineText) (h : IsLineIn dialect bytes said) → Free stop (join_with_byte colon (said.key.name ∷ h.values))
  free_head dialect bytes said h =
      join_keeps (λ c. is stop c ≡ false) colon (said.key.name ∷ h.values) apart.colon_apart
      (All-cons (Free stop) said.key.name h.values (λ k d within. apart.name _ (h.clean.name.none k d within)) (values_free stop dialect said.points h.values apart.number h.are_values))

  free_parts : (dialect : Dialect) (bytes : List ℕ) (said : LineText) (h : IsLineIn dialect bytes said)
      → All (Free stop) (join_with_byte colon (said.key.name ∷ h.values) ∷ type_text said.points ∷ (h.rate ++ tags_parts said.key.labels ++ h.timestamp))
  free_parts dialect bytes said h =
      let others = All-append (Free stop) (h.rate ++ tags_parts said.key.labels) h.timestamp
      (All-append (Free stop) h.rate (tags_parts said.key.labels) (free_rate h.rate said.rate h.is_rate) (free_tags said.key.labels h.clean.tags))
      (free_time h.timestamp said.timestamp h.is_timestamp) in
      All-cons (Free stop) (join_with_byte colon (said.key.name ∷ h.values)) (type_text said.points ∷ (h.rate ++ tags_parts said.key.labels ++ h.timestamp)) (free_head dialect bytes said h)
      (All-cons (Free stop) (type_text said.points) (h.rate ++ tags_parts said.key.labels ++ h.timestamp) (free_type said.points) others)

-- a line has no newline
pub line_no_newline : (dialect : Dialect) (bytes : List ℕ) (said : LineText) → IsLineIn dialect bytes said → Free newline bytes
line_no_newline dialect bytes said h =
    subst (Free newline) (sym h.spelled) (join_keeps (λ c. is newline c ≡ false) bar (join_with_byte colon (said.key.name ∷ h.values) ∷ type_text said.points ∷ (h.rate ++ tags_parts said.key.labels ++ h.timestamp)) refl (free_parts newline newline_apart dialect bytes said h))

behind_again : (said : LineText) (rate timestamp : List (List ℕ)) → AreRateParts rate said.rate → All IsTag said.key.labels → AreTimeParts timestamp said.timestamp
    → line_behind said.key.name said.points (rate ++ tags_parts said.key.labels ++ timestamp) ≡ Some said
unfolding line_behind
behind_again said rate timestamp r t s =
    ap (line_behind said.key.name said.points) (append_assoc rate (tags_parts said.key.labels) timestamp)
    ∙ rw (
      rate_read rate said.rate (tags_parts said.key.labels ++ timestamp) r (no_rate said.key.labels timestamp said.timestamp s),
      tags_read said.key.labels timestamp t (no_tags timestamp said.timestamp s),
      time_read timestamp said.timestamp s,
    ) refl

pub line_again : (dialect : Dialect) (bytes : List ℕ) (said : LineText) → IsLineIn dialect bytes said → line_at dialect bytes ≡ Some said
unfolding line_at line_of_head
line_again dialect bytes said h =
    let texts = said.key.name ∷ h.values in
    let head = join_with_byte colon texts in
    let parts = h.rate ++ tags_parts said.key.labels ++ h.timestamp in
    let name_colon : Free colon said.key.name = λ k d within. (name_apart _ (h.clean.name.none k d within)).0 in
    let no_colon = All-cons (Free colon) said.key.name h.values name_colon (values_free colon dialect said.points h.values refl h.are_values) in
    let free = free_parts bar bar_apart dialect bytes said h in
    let cut : pieces bar bytes ≡ head ∷ type_text said.points ∷ parts = ap (pieces bar) h.spelled ∙ pieces_join bar (head ∷ type_text said.points ∷ parts) (omega arith) free in
    let cut_head : pieces colon head ≡ texts = pieces_join colon texts (omega arith) no_colon in
    ap (line_of_parts dialect) cut ∙ ap (λ l. line_of_head dialect l (type_text said.points) parts) cut_head
    ∙ rw (plain_again ends_name said.key.name (λ c e. (name_apart c e).2) h.clean.name, points_again dialect h.values said.points h.some h.are_values)
    (behind_again said h.rate h.timestamp h.is_rate h.clean.tags h.is_timestamp)

-- ---- one reading

pub one_said : (dialect : Dialect) (bytes : List ℕ) (said other : LineText) → IsLineIn dialect bytes said → IsLineIn dialect bytes other → said ≡ other
one_said dialect bytes said other h k = same_Some said other (sym (line_again dialect bytes said h) ∙ line_again dialect bytes other k)

-- what is read is the line, or there is none
pub read_exactly : (dialect : Dialect) (bytes : List ℕ) (read : Option Line) → option_map line_text read ≡ line_at dialect bytes → MatchOption read (IsNoLineIn dialect bytes) (λ line. IsLineIn dialect bytes (line_text line))
read_exactly dialect bytes None e = λ said h. let some = e ∙ line_again dialect bytes said h in cc
read_exactly dialect bytes (Some line) e = line_takes dialect bytes (line_text line) (sym e)
