-- The header lines of some settings, and one more.
use Rattle.std.proofs.Common.{◌≡◌, ℕ, zero, suc, ◌+◌, ◌<◌, ◌≤◌, ◌⊎◌, Bool, true, false, List, [], ◌∷◌, ◌++◌, map, length, get_or, set, drop, Option, Some, None, refl, sym, ap, subst, ◌∙◌, append_assoc, arith, inl, inr, lit<, lit≤}
use Rattle.std.specs.Prelude.{ℤ, All, option_map, option_to_list, unwrap_or, if◌then◌else◌}
use Rattle.std.proofs.lemmas.List.{append-nil, map_push}
use Rattle.std.proofs.lemmas.List.Elements.{All-nil, All-cons, All-head, All-tail, All-append}
use Rattle.metrics_core.specs.Kinds.{KindMask}
use Rattle.prom_format.specs.Matchers.{MatcherText}
use Rattle.drive_script.specs.Script.{SettingsText, HeaderLine, Quantiles, Buckets, BucketsFor, NativeFor, Summary, Idle, Naming, Units, Global, SeriesLimit, Limit, Mode, NamePrefix, GlobalTag, HistogramKind, Header, Said, IsMeant, where_on, header_lines, only_globals}
use Rattle.drive_script.specs.Growth.{place, may_repeat, least_behind, MayFollow, with_header, said_with}

-- a list is empty, or has a last element
pub last_of : {A : Type 0} (xs : List A) → (xs ≡ []) ⊎ ((ys : List A) × (y : A) × (xs ≡ ys ++ y ∷ []))
last_of [] = inl refl
last_of (x ∷ xs) =
    elim (last_of xs) [
      | inl e ↦ inr ([], x, ap (λ l. x ∷ l) e)
      | inr (ys, y, e) ↦ inr (x ∷ ys, y, ap (λ l. x ∷ l) e)
    ]

-- ---- groups, one behind the other

abbrev joined : {A : Type 0} → List A → List (List A) → List A
joined done [] = done
joined done (group ∷ groups) = joined (done ++ group) groups

abbrev AllNil : {A : Type 0} → List (List A) → Type 0
AllNil [] = Unit {0}
AllNil (group ∷ groups) = (group ≡ []) × AllNil groups

joined_nil : {A : Type 0} (done : List A) (groups : List (List A)) → AllNil groups → joined done groups ≡ done
joined_nil done [] h = refl
joined_nil done (group ∷ groups) h = joined_nil (done ++ group) groups h.1 ∙ ap (λ l. done ++ l) h.0 ∙ append-nil done

-- one more at the end of a group, with none in those behind it
joined_push : {A : Type 0} (done : List A) (groups : List (List A)) (p : ℕ) (x : A) → p < length groups → AllNil (drop (suc p) groups) → joined done (set groups p (get_or groups p [] ++ x ∷ [])) ≡ joined done groups ++ x ∷ []
joined_push done [] p x within h = absurd (omega (arith, within))
joined_push done (group ∷ groups) zero x within h =
    joined_nil (done ++ (group ++ x ∷ [])) groups h ∙ sym (append_assoc done group (x ∷ [])) ∙ ap (λ l. l ++ x ∷ []) (sym (joined_nil (done ++ group) groups h))
joined_push done (group ∷ groups) (suc p) x within h = joined_push (done ++ group) groups p x (omega (arith, within)) h

both_nil : {A : Type 0} (xs ys : List A) → xs ++ ys ≡ [] → (xs ≡ []) × (ys ≡ [])
both_nil [] ys e = (refl, e)
both_nil (x ∷ xs) ys e = absurd cc

all_nil : {A : Type 0} (done : List A) (groups : List (List A)) → joined done groups ≡ [] → (done ≡ []) × AllNil groups
all_nil done [] e = (e, tt)
all_nil done (group ∷ groups) e =
    let rest = all_nil (done ++ group) groups e in
    let parts = both_nil done group rest.0 in
    (parts.0, (parts.1, rest.1))

-- ---- places

-- a line of place p may stand behind the line
abbrev Before : ℕ → HeaderLine → Type 0
Before p line = least_behind line ≤ p

abbrev EachBefore : ℕ → List (List HeaderLine) → Type 0
EachBefore p [] = Unit {0}
EachBefore p (group ∷ groups) = MayFollow group p × EachBefore p groups

pub split_all : {A : Type 0} (P : A → Type 0) (xs ys : List A) → All P (xs ++ ys) → All P xs × All P ys
split_all P [] ys h = (All-nil P, h)
split_all P (x ∷ xs) ys h =
    let rest = split_all P xs ys (All-tail P x (xs ++ ys) h) in
    (All-cons P x xs (All-head P x (xs ++ ys) h) rest.0, rest.1)

groups_before : (p : ℕ) (done : List HeaderLine) (groups : List (List HeaderLine)) → MayFollow (joined done groups) p → MayFollow done p × EachBefore p groups
groups_before p done [] h = (h, tt)
groups_before p done (group ∷ groups) h =
    let rest = groups_before p (done ++ group) groups h in
    let parts = split_all (Before p) done group rest.0 in
    (parts.0, (parts.1, rest.1))

joined_before : (p : ℕ) (done : List HeaderLine) (groups : List (List HeaderLine)) → MayFollow done p → EachBefore p groups → MayFollow (joined done groups) p
joined_before p done [] h each = h
joined_before p done (group ∷ groups) h each = joined_before p (done ++ group) groups (All-append (Before p) done group h each.0) each.1

abbrev HavePlace : ℕ → List HeaderLine → Type 0
HavePlace p [] = Unit {0}
HavePlace p (line ∷ lines) = (place line ≡ p) × HavePlace p lines

-- the groups have the places from p on
abbrev ArePlaced : ℕ → List (List HeaderLine) → Type 0
ArePlaced p [] = Unit {0}
ArePlaced p (group ∷ groups) = HavePlace p group × ArePlaced (suc p) groups

pub least_range : (line : HeaderLine) → (place line ≤ least_behind line) × (least_behind line ≤ suc (place line))
least_range line = by (may_repeat line)
  where
    by : (b : Bool) → (place line ≤ (if b then place line else suc (place line))) × ((if b then place line else suc (place line)) ≤ suc (place line))
    by true = (omega arith, omega arith)
    by false = (omega arith, omega arith)

nil_past : (p k : ℕ) (lines : List HeaderLine) → p < k → HavePlace k lines → MayFollow lines p → lines ≡ []
nil_past p k [] past at h = refl
nil_past p k (line ∷ lines) past at h = absurd (omega (arith, past, at.0, (least_range line).0, All-head (Before p) line lines h))

all_nil_past : (p k : ℕ) (groups : List (List HeaderLine)) → p < k → ArePlaced k groups → EachBefore p groups → AllNil groups
all_nil_past p k [] past at h = tt
all_nil_past p k (group ∷ groups) past at h = (nil_past p k group past at.0 h.0, all_nil_past p (suc k) groups (omega (arith, past)) at.1 h.1)

group_before : (p n : ℕ) (groups : List (List HeaderLine)) → EachBefore p groups → MayFollow (get_or groups n []) p
group_before p n [] h = All-nil (Before p)
group_before p zero (group ∷ groups) h = h.0
group_before p (suc n) (group ∷ groups) h = group_before p n groups h.1

-- where lines of a place may follow, the groups of later places have none
nil_behind : (p n k : ℕ) (groups : List (List HeaderLine)) → p ≡ k + n → ArePlaced k groups → EachBefore p groups → AllNil (drop (suc n) groups)
nil_behind p n k [] is at h = tt
nil_behind p zero k (group ∷ groups) is at h = all_nil_past p (suc k) groups (omega (arith, is)) at.1 h.1
nil_behind p (suc n) k (group ∷ groups) is at h = nil_behind p n (suc k) groups (omega (arith, is)) at.1 h.1

before_all : (p k : ℕ) (lines : List HeaderLine) → k < p → HavePlace k lines → MayFollow lines p
before_all p k [] below at = All-nil (Before p)
before_all p k (line ∷ lines) below at = All-cons (Before p) line lines (omega (arith, below, at.0, (least_range line).1)) (before_all p k lines below at.1)

nil_before : (p : ℕ) (groups : List (List HeaderLine)) → AllNil groups → EachBefore p groups
nil_before p [] h = tt
nil_before p (group ∷ groups) h = (subst (λ g. MayFollow g p) (sym h.0) (All-nil (Before p)), nil_before p groups h.1)

each_before : (p n k : ℕ) (groups : List (List HeaderLine)) → p ≡ k + n → ArePlaced k groups → MayFollow (get_or groups n []) p → AllNil (drop (suc n) groups) → EachBefore p groups
each_before p n k [] is at own none = tt
each_before p zero k (group ∷ groups) is at own none = (own, nil_before p groups none)
each_before p (suc n) k (group ∷ groups) is at own none =
    (before_all p k group (omega (arith, is)) at.0, each_before p n (suc k) groups (omega (arith, is)) at.1 own none)

-- ---- the lines of each setting

abbrev rule_line : MatcherText × List ℤ → HeaderLine
rule_line rule = BucketsFor rule.0 rule.1

abbrev summary_line : ℕ × ℕ → HeaderLine
summary_line summary = Summary summary.0 summary.1

abbrev idle_line : KindMask × ℕ → HeaderLine
idle_line idle = Idle idle.0 idle.1

-- a line that is said once, if it is
abbrev once : {A : Type 0} → (A → HeaderLine) → Option A → List HeaderLine
once f o = option_to_list (option_map f o)

abbrev groups_of : SettingsText → Said → List (List HeaderLine)
groups_of s said =
    once Quantiles s.quantiles ∷ once Buckets s.buckets ∷ map rule_line s.buckets_for ∷ map NativeFor s.native_for ∷ once summary_line s.summary
    ∷ once idle_line s.idle ∷ where_on s.naming Naming ∷ where_on s.units Units ∷ map Global s.globals ∷ once SeriesLimit s.series_limit ∷ once Limit s.dsd_limit ∷ once Mode said.mode
    ∷ once NamePrefix s.dsd_prefix ∷ map GlobalTag s.dsd_globals ∷ once HistogramKind said.kind ∷ []

module _ {A : Type 0} (f : A → HeaderLine) (p : ℕ) where
  once_placed : ((x : A) → place (f x) ≡ p) → (o : Option A) → HavePlace p (once f o)
  once_placed at None = tt
  once_placed at (Some x) = (at x, tt)

  each_placed : ((x : A) → place (f x) ≡ p) → (xs : List A) → HavePlace p (map f xs)
  each_placed at [] = tt
  each_placed at (x ∷ xs) = (at x, each_placed at xs)

  -- what would be said once more was not said
  not_said : ((x : A) → p < least_behind (f x)) → (o : Option A) → MayFollow (once f o) p → o ≡ None
  not_said past None h = refl
  not_said past (Some x) h = absurd (omega (arith, past x, All-head (Before p) (f x) [] h))

  may_repeat_all : ((x : A) → least_behind (f x) ≤ p) → (xs : List A) → MayFollow (map f xs) p
  may_repeat_all within [] = All-nil (Before p)
  may_repeat_all within (x ∷ xs) = All-cons (Before p) (f x) (map f xs) (within x) (may_repeat_all within xs)

module _ {A : Type 0} (f : A → HeaderLine) where
  none_once : (o : Option A) → once f o ≡ [] → o ≡ None
  none_once None e = refl
  none_once (Some x) e = absurd cc

  none_each : (xs : List A) → map f xs ≡ [] → xs ≡ []
  none_each [] e = refl
  none_each (x ∷ xs) e = absurd cc

on_placed : (line : HeaderLine) (b : Bool) → HavePlace (place line) (where_on b line)
on_placed line true = (refl, tt)
on_placed line false = tt

not_on : (line : HeaderLine) (b : Bool) → place line < least_behind line → MayFollow (where_on b line) (place line) → b ≡ false
not_on line true past h = absurd (omega (arith, past, All-head (Before (place line)) line [] h))
not_on line false past h = refl

none_on : (line : HeaderLine) (b : Bool) → where_on b line ≡ [] → b ≡ false
none_on line true e = absurd cc
none_on line false e = refl

infixr 5 ◌and◌
abbrev ◌and◌ : {A B : Type 0} → A → B → A × B
a and b = (a, b)

module _ (s : SettingsText) (said : Said) where
  placed : ArePlaced 0 (groups_of s said)
  placed =
      once_placed Quantiles 0 (λ _. refl) s.quantiles
      and once_placed Buckets 1 (λ _. refl) s.buckets
      and each_placed rule_line 2 (λ _. refl) s.buckets_for
      and each_placed NativeFor 3 (λ _. refl) s.native_for
      and once_placed summary_line 4 (λ _. refl) s.summary
      and once_placed idle_line 5 (λ _. refl) s.idle
      and on_placed Naming s.naming
      and on_placed Units s.units
      and each_placed Global 8 (λ _. refl) s.globals
      and once_placed SeriesLimit 9 (λ _. refl) s.series_limit
      and once_placed Limit 10 (λ _. refl) s.dsd_limit
      and once_placed Mode 11 (λ _. refl) said.mode
      and once_placed NamePrefix 12 (λ _. refl) s.dsd_prefix
      and each_placed GlobalTag 13 (λ _. refl) s.dsd_globals
      and once_placed HistogramKind 14 (λ _. refl) said.kind
      and tt

  module _ (p : ℕ) (may : MayFollow (header_lines s said) p) where
    all_before : EachBefore p (groups_of s said)
    all_before = (groups_before p [] (groups_of s said) may).1

    -- what is known of the group at this place
    own : MayFollow (get_or (groups_of s said) p []) p
    own = group_before p p (groups_of s said) all_before

    behind : (line : HeaderLine) → p < 15 → joined [] (set (groups_of s said) p (get_or (groups_of s said) p [] ++ line ∷ [])) ≡ header_lines s said ++ line ∷ []
    behind line within = joined_push [] (groups_of s said) p line within (nil_behind p p 0 (groups_of s said) (omega arith) placed all_before)

  -- the lines with another group at a place, and one more line in that
  abbrev grown : ℕ → List HeaderLine → HeaderLine → List HeaderLine
  grown p group line = joined [] (set (groups_of s said) p (group ++ line ∷ []))

-- the lines with one more, which may follow
pub header_behind : (s : SettingsText) (said : Said) (line : HeaderLine) → MayFollow (header_lines s said) (place line) → header_lines (with_header s line) (said_with said line) ≡ header_lines s said ++ line ∷ []
header_behind s said (Quantiles values) may =
    ap (λ o. grown s said 0 (once Quantiles o) (Quantiles values)) (sym (not_said Quantiles 0 (λ _. lit< tt) s.quantiles (own s said 0 may))) ∙ behind s said 0 may (Quantiles values) (lit< tt)
header_behind s said (Buckets values) may =
    ap (λ o. grown s said 1 (once Buckets o) (Buckets values)) (sym (not_said Buckets 1 (λ _. lit< tt) s.buckets (own s said 1 may))) ∙ behind s said 1 may (Buckets values) (lit< tt)
header_behind s said (BucketsFor matcher values) may =
    ap (λ g. joined [] (set (groups_of s said) 2 g)) (map_push rule_line s.buckets_for (matcher, values)) ∙ behind s said 2 may (BucketsFor matcher values) (lit< tt)
header_behind s said (NativeFor native) may =
    ap (λ g. joined [] (set (groups_of s said) 3 g)) (map_push NativeFor s.native_for native) ∙ behind s said 3 may (NativeFor native) (lit< tt)
header_behind s said (Summary count duration) may =
    ap (λ o. grown s said 4 (once summary_line o) (Summary count duration)) (sym (not_said summary_line 4 (λ _. lit< tt) s.summary (own s said 4 may))) ∙ behind s said 4 may (Summary count duration) (lit< tt)
header_behind s said (Idle mask timeout) may =
    ap (λ o. grown s said 5 (once idle_line o) (Idle mask timeout)) (sym (not_said idle_line 5 (λ _. lit< tt) s.idle (own s said 5 may))) ∙ behind s said 5 may (Idle mask timeout) (lit< tt)
header_behind s said Naming may =
    ap (λ b. grown s said 6 (where_on b Naming) Naming) (sym (not_on Naming s.naming (lit< tt) (own s said 6 may))) ∙ behind s said 6 may Naming (lit< tt)
header_behind s said Units may =
    ap (λ b. grown s said 7 (where_on b Units) Units) (sym (not_on Units s.units (lit< tt) (own s said 7 may))) ∙ behind s said 7 may Units (lit< tt)
header_behind s said (Global label) may =
    ap (λ g. joined [] (set (groups_of s said) 8 g)) (map_push Global s.globals label) ∙ behind s said 8 may (Global label) (lit< tt)
header_behind s said (SeriesLimit limit) may =
    ap (λ o. grown s said 9 (once SeriesLimit o) (SeriesLimit limit)) (sym (not_said SeriesLimit 9 (λ _. lit< tt) s.series_limit (own s said 9 may))) ∙ behind s said 9 may (SeriesLimit limit) (lit< tt)
header_behind s said (Limit limit) may =
    ap (λ o. grown s said 10 (once Limit o) (Limit limit)) (sym (not_said Limit 10 (λ _. lit< tt) s.dsd_limit (own s said 10 may))) ∙ behind s said 10 may (Limit limit) (lit< tt)
header_behind s said (Mode aggressive) may =
    ap (λ o. grown s said 11 (once Mode o) (Mode aggressive)) (sym (not_said Mode 11 (λ _. lit< tt) said.mode (own s said 11 may))) ∙ behind s said 11 may (Mode aggressive) (lit< tt)
header_behind s said (NamePrefix text) may =
    ap (λ o. grown s said 12 (once NamePrefix o) (NamePrefix text)) (sym (not_said NamePrefix 12 (λ _. lit< tt) s.dsd_prefix (own s said 12 may))) ∙ behind s said 12 may (NamePrefix text) (lit< tt)
header_behind s said (GlobalTag label) may =
    ap (λ g. joined [] (set (groups_of s said) 13 g)) (map_push GlobalTag s.dsd_globals label) ∙ behind s said 13 may (GlobalTag label) (lit< tt)
header_behind s said (HistogramKind histograms) may =
    ap (λ o. grown s said 14 (once HistogramKind o) (HistogramKind histograms)) (sym (not_said HistogramKind 14 (λ _. lit< tt) said.kind (own s said 14 may))) ∙ behind s said 14 may (HistogramKind histograms) (lit< tt)

-- ---- the mode and the kind

pub still_meant : (s : SettingsText) (said : Said) (line : HeaderLine) → IsMeant said s → IsMeant (said_with said line) (with_header s line)
still_meant s said (Quantiles values) h = h
still_meant s said (Buckets values) h = h
still_meant s said (BucketsFor matcher values) h = h
still_meant s said (NativeFor native) h = h
still_meant s said (Summary count duration) h = h
still_meant s said (Idle mask timeout) h = h
still_meant s said Naming h = h
still_meant s said Units h = h
still_meant s said (Global label) h = h
still_meant s said (SeriesLimit limit) h = h
still_meant s said (Limit limit) h = h
still_meant s said (Mode aggressive) h = (refl, h.1)
still_meant s said (NamePrefix text) h = h
still_meant s said (GlobalTag label) h = h
still_meant s said (HistogramKind histograms) h = (h.0, refl)

-- ---- the last line

-- there is no header line, or a last one behind the others
pub data HeaderLast (s : SettingsText) (said : Said) : Type 0 where
  no_header : header_lines s said ≡ [] → HeaderLast s said
  last_one : (before : SettingsText) (earlier : Said) (line : HeaderLine) → IsMeant earlier before → MayFollow (header_lines before earlier) (place line) → s ≡ with_header before line → said ≡ said_with earlier line → HeaderLast s said

-- a line may follow where its own group lets it, and no later one has any
may_follow : (s : SettingsText) (said : Said) (p : ℕ) → MayFollow (get_or (groups_of s said) p []) p → AllNil (drop (suc p) (groups_of s said)) → MayFollow (header_lines s said) p
may_follow s said p own none = joined_before p [] (groups_of s said) (All-nil (Before p)) (each_before p p 0 (groups_of s said) (omega arith) (placed s said) own none)

module _ (s : SettingsText) (said : Said) (meant : IsMeant said s) where
  abbrev NoneFrom : ℕ → Type 0
  NoneFrom p = AllNil (drop p (groups_of s said))

  from_quantiles : (o : Option (List ℤ)) → s.quantiles ≡ o → NoneFrom 1 → HeaderLast s said
  from_quantiles (Some values) e none =
      last_one (record s { quantiles = None }) said (Quantiles values) meant (may_follow (record s { quantiles = None }) said 0 (All-nil (Before 0)) none) (ap (λ o. record s { quantiles = o }) e) refl
  from_quantiles None e none = no_header (joined_nil [] (groups_of s said) (ap (once Quantiles) e, none))

  from_buckets : (o : Option (List ℤ)) → s.buckets ≡ o → NoneFrom 2 → HeaderLast s said
  from_buckets (Some values) e none =
      last_one (record s { buckets = None }) said (Buckets values) meant (may_follow (record s { buckets = None }) said 1 (All-nil (Before 1)) none) (ap (λ o. record s { buckets = o }) e) refl
  from_buckets None e none = from_quantiles s.quantiles refl (ap (once Buckets) e, none)

  from_rules : NoneFrom 3 → HeaderLast s said
  from_rules none =
      elim (last_of s.buckets_for) [
        | inr (rules, rule, e) ↦ last_one (record s { buckets_for = rules }) said (rule_line rule) meant (may_follow (record s { buckets_for = rules }) said 2 (may_repeat_all rule_line 2 (λ _. lit≤ tt) rules) none) (ap (λ l. record s { buckets_for = l }) e) refl
        | inl e ↦ from_buckets s.buckets refl (ap (map rule_line) e, none)
      ]

  from_native : NoneFrom 4 → HeaderLast s said
  from_native none =
      elim (last_of s.native_for) [
        | inr (natives, native, e) ↦ last_one (record s { native_for = natives }) said (NativeFor native) meant (may_follow (record s { native_for = natives }) said 3 (may_repeat_all NativeFor 3 (λ _. lit≤ tt) natives) none) (ap (λ l. record s { native_for = l }) e) refl
        | inl e ↦ from_rules (ap (map NativeFor) e, none)
      ]

  from_summary : (o : Option (ℕ × ℕ)) → s.summary ≡ o → NoneFrom 5 → HeaderLast s said
  from_summary (Some summary) e none =
      last_one (record s { summary = None }) said (summary_line summary) meant (may_follow (record s { summary = None }) said 4 (All-nil (Before 4)) none) (ap (λ o. record s { summary = o }) e) refl
  from_summary None e none = from_native (ap (once summary_line) e, none)

  from_idle : (o : Option (KindMask × ℕ)) → s.idle ≡ o → NoneFrom 6 → HeaderLast s said
  from_idle (Some idle) e none =
      last_one (record s { idle = None }) said (idle_line idle) meant (may_follow (record s { idle = None }) said 5 (All-nil (Before 5)) none) (ap (λ o. record s { idle = o }) e) refl
  from_idle None e none = from_summary s.summary refl (ap (once idle_line) e, none)

  from_naming : (b : Bool) → s.naming ≡ b → NoneFrom 7 → HeaderLast s said
  from_naming true e none =
      last_one (record s { naming = false }) said Naming meant (may_follow (record s { naming = false }) said 6 (All-nil (Before 6)) none) (ap (λ b. record s { naming = b }) e) refl
  from_naming false e none = from_idle s.idle refl (ap (λ b. where_on b Naming) e, none)

  from_units : (b : Bool) → s.units ≡ b → NoneFrom 8 → HeaderLast s said
  from_units true e none =
      last_one (record s { units = false }) said Units meant (may_follow (record s { units = false }) said 7 (All-nil (Before 7)) none) (ap (λ b. record s { units = b }) e) refl
  from_units false e none = from_naming s.naming refl (ap (λ b. where_on b Units) e, none)

  from_globals : NoneFrom 9 → HeaderLast s said
  from_globals none =
      elim (last_of s.globals) [
        | inr (globals, label, e) ↦ last_one (record s { globals = globals }) said (Global label) meant (may_follow (record s { globals = globals }) said 8 (may_repeat_all Global 8 (λ _. lit≤ tt) globals) none) (ap (λ l. record s { globals = l }) e) refl
        | inl e ↦ from_units s.units refl (ap (map Global) e, none)
      ]

  from_series_limit : (o : Option ℕ) → s.series_limit ≡ o → NoneFrom 10 → HeaderLast s said
  from_series_limit (Some limit) e none =
      last_one (record s { series_limit = None }) said (SeriesLimit limit) meant (may_follow (record s { series_limit = None }) said 9 (All-nil (Before 9)) none) (ap (λ o. record s { series_limit = o }) e) refl
  from_series_limit None e none = from_globals (ap (once SeriesLimit) e, none)

  from_limit : (o : Option ℕ) → s.dsd_limit ≡ o → NoneFrom 11 → HeaderLast s said
  from_limit (Some limit) e none =
      last_one (record s { dsd_limit = None }) said (Limit limit) meant (may_follow (record s { dsd_limit = None }) said 10 (All-nil (Before 10)) none) (ap (λ o. record s { dsd_limit = o }) e) refl
  from_limit None e none = from_series_limit s.series_limit refl (ap (once Limit) e, none)

  from_mode : (o : Option Bool) → said.mode ≡ o → NoneFrom 12 → HeaderLast s said
  from_mode (Some aggressive) e none =
      last_one (record s { dsd_aggressive = false }) (record said { mode = None }) (Mode aggressive) (refl, meant.1)
      (may_follow (record s { dsd_aggressive = false }) (record said { mode = None }) 11 (All-nil (Before 11)) none)
      (ap (λ b. record s { dsd_aggressive = b }) (meant.0 ∙ ap (λ o. unwrap_or o false) e)) (ap (λ o. record said { mode = o }) e)
  from_mode None e none = from_limit s.dsd_limit refl (ap (once Mode) e, none)

  from_prefix : (o : Option (List ℕ)) → s.dsd_prefix ≡ o → NoneFrom 13 → HeaderLast s said
  from_prefix (Some text) e none =
      last_one (record s { dsd_prefix = None }) said (NamePrefix text) meant (may_follow (record s { dsd_prefix = None }) said 12 (All-nil (Before 12)) none) (ap (λ o. record s { dsd_prefix = o }) e) refl
  from_prefix None e none = from_mode said.mode refl (ap (once NamePrefix) e, none)

  from_tags : NoneFrom 14 → HeaderLast s said
  from_tags none =
      elim (last_of s.dsd_globals) [
        | inr (tags, tag, e) ↦ last_one (record s { dsd_globals = tags }) said (GlobalTag tag) meant (may_follow (record s { dsd_globals = tags }) said 13 (may_repeat_all GlobalTag 13 (λ _. lit≤ tt) tags) none) (ap (λ l. record s { dsd_globals = l }) e) refl
        | inl e ↦ from_prefix s.dsd_prefix refl (ap (map GlobalTag) e, none)
      ]

  from_kind : (o : Option Bool) → said.kind ≡ o → HeaderLast s said
  from_kind (Some histograms) e =
      last_one (record s { dsd_histograms = false }) (record said { kind = None }) (HistogramKind histograms) (meant.0, refl)
      (may_follow (record s { dsd_histograms = false }) (record said { kind = None }) 14 (All-nil (Before 14)) tt)
      (ap (λ b. record s { dsd_histograms = b }) (meant.1 ∙ ap (λ o. unwrap_or o false) e)) (ap (λ o. record said { kind = o }) e)
  from_kind None e = from_tags (ap (once HistogramKind) e, tt)

  pub header_last : HeaderLast s said
  header_last = from_kind said.kind refl

-- ---- no line

abbrev pub nothing_said : Said
nothing_said = record { mode = None; kind = None }

none_mapped : (lines : List HeaderLine) → map Header lines ≡ [] → lines ≡ []
none_mapped [] e = refl
none_mapped (line ∷ lines) e = absurd cc

-- settings with no header line are those of a script without any
pub no_header_said : (s : SettingsText) (said : Said) → IsMeant said s → map Header (header_lines s said) ≡ [] → (s ≡ only_globals []) × (said ≡ nothing_said)
no_header_said s said meant e =
    let (quantiles, (buckets, (rules, (natives, (summary, (idle, (naming, (units, (globals, (series_limit, (limit, (mode, (prefix, (tags, (kind, _))))))))))))))) = (all_nil [] (groups_of s said) (none_mapped (header_lines s said) e)).1 in
    let no_mode : said.mode ≡ None = none_once Mode said.mode mode in
    let no_kind : said.kind ≡ None = none_once HistogramKind said.kind kind in (
      λ j. record {
        quantiles = none_once Quantiles s.quantiles quantiles j;
        buckets = none_once Buckets s.buckets buckets j;
        buckets_for = none_each rule_line s.buckets_for rules j;
        native_for = none_each NativeFor s.native_for natives j;
        summary = none_once summary_line s.summary summary j;
        idle = none_once idle_line s.idle idle j;
        naming = none_on Naming s.naming naming j;
        units = none_on Units s.units units j;
        globals = none_each Global s.globals globals j;
        dsd_limit = none_once Limit s.dsd_limit limit j;
        dsd_aggressive = (meant.0 ∙ ap (λ o. unwrap_or o false) no_mode) j;
        dsd_prefix = none_once NamePrefix s.dsd_prefix prefix j;
        dsd_globals = none_each GlobalTag s.dsd_globals tags j;
        dsd_histograms = (meant.1 ∙ ap (λ o. unwrap_or o false) no_kind) j;
        series_limit = none_once SeriesLimit s.series_limit series_limit j;
      },
      λ j. record { mode = no_mode j; kind = no_kind j },
    )
