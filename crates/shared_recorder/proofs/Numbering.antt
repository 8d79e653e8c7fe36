-- A registration's number is that of its key in every later state, where no idle timeout is set.
use Rattle.std.proofs.Common.{◌≡◌, ◌≢◌, ℕ, ◌+◌, ◌==◌, ◌⊎◌, Bool, true, false, List, [], ◌∷◌, ◌++◌, map, cond, refl, sym, ap, ◌∙◌, subst, Option, Some, None, inl, inr, ⊎_elim, eq-eqb, true≢false}
use Rattle.std.proofs.Common.{arith}
use Rattle.std.proofs.lemmas.Bool.{eqb-true, ltb-false, ltb-true}
use Rattle.std.specs.Prelude.{◌-◌, ◌<◌, ◌≤◌, length, filter, not, ◌&&◌, nat_lt, bytes_eq, find, is_some, option_map, unwrap_or, if◌then◌else◌}
use Rattle.metrics_core.specs.Keys.{KeyText, key_eq}
use Rattle.metrics_core.specs.KeyLaws.{key_eq_is, key_eq_laws}
use Rattle.std.proofs.lemmas.List.{length-append}
use Rattle.std.proofs.lemmas.List.Elements.{filter-append}
use Rattle.std.proofs.lemmas.Slice.Eq.{bytes_eq-Decides}
use Rattle.metrics_core.specs.declared.kinds.MetricKind.{MetricKind}
use Rattle.metrics_core.specs.declared.kinds.MetricKind.TheVariants as kinds
use Rattle.metric_descriptions.specs.Descriptions.{Description, description_of, put_description}
use Rattle.prom_format.specs.Names.{sanitized_metric_name}
use Rattle.prom_exporter.specs.State.{Series, PrometheusState, count_named, counted, is_below, is_redirected, key_given, live, live_series, metric_name_of, no_series, number_given, number_of, overflow_key, register, with_raised, with_redirection, with_series}
use Rattle.prom_exporter.proofs.Redirected.{below-own, full-overflow, live-registers, overflow-given, own-given, unlimited-own}
use Rattle.name_counts.specs.Counts.{NameCount, raised}
use Rattle.prom_format.proofs.NameLaws.{sanitized_metric_name-is_name, sanitized_metric_name-of_name}
use Rattle.prom_exporter.specs.Families.{ExporterSettings}
use Rattle.prom_exporter.specs.Exporter.{state_of}
use Rattle.legal_history.specs.Object.{Runs}
use Rattle.shared_recorder.specs.declared.entries.Gone.{Gone}
use Rattle.shared_recorder.specs.declared.entries.RecorderEntry.{RecorderEntry}
use Rattle.shared_recorder.specs.declared.entries.RecorderEntry.TheVariants.{Built, Register, Describe, Page}
use Rattle.shared_recorder.specs.Setup.{setup, Step, Called, none_gone, page_left}
use Rattle.shared_recorder.specs.Stands.{Reached}
use Rattle.shared_recorder.proofs.Setups.{added, choose, is_named, new_series}

abbrev pub has_key : KeyText → Series → Bool
has_key key s = key_eq s.key key

abbrev pub number_in : Option Series → ℕ → ℕ
number_in found made = unwrap_or (option_map (λ (s : Series). s.number) found) made

-- whether a series with the key is live
abbrev pub has : MetricKind → KeyText → PrometheusState → Bool
has kind key x = is_some (live_series kind key x)

-- the number is the key's, and stays so
abbrev pub Numbered : MetricKind → KeyText → ℕ → PrometheusState → Type 0
Numbered kind key n x = (n ≡ number_given kind key x) × ((has kind (key_given kind key x) x ≡ true) ⊎ (x.made ≡ no_series))

find_more : (key : KeyText) (xs : List Series) (x : Series) → is_some (find (has_key key) xs) ≡ true → find (has_key key) (xs ++ x ∷ []) ≡ find (has_key key) xs
find_more key [] x f = absurd (true≢false (sym f))
find_more key (y ∷ ys) x f = go (key_eq y.key key) f (find_more key ys x)
  where
    go : (b : Bool) → is_some (cond b (Some y) (find (has_key key) ys)) ≡ true → (is_some (find (has_key key) ys) ≡ true → find (has_key key) (ys ++ x ∷ []) ≡ find (has_key key) ys)
        → cond b (Some y) (find (has_key key) (ys ++ x ∷ [])) ≡ cond b (Some y) (find (has_key key) ys)
    go true f r = refl
    go false f r = r f

find_new : (key : KeyText) (xs : List Series) (x : Series) → key_eq x.key key ≡ true → is_some (find (has_key key) xs) ≡ false → find (has_key key) (xs ++ x ∷ []) ≡ Some x
find_new key [] x k f = ap (λ b. cond b (Some x) None) k
find_new key (y ∷ ys) x k f = go (key_eq y.key key) f (find_new key ys x k)
  where
    go : (b : Bool) → is_some (cond b (Some y) (find (has_key key) ys)) ≡ false → (is_some (find (has_key key) ys) ≡ false → find (has_key key) (ys ++ x ∷ []) ≡ Some x)
        → cond b (Some y) (find (has_key key) (ys ++ x ∷ [])) ≡ Some x
    go true f r = absurd (true≢false f)
    go false f r = r f

any_default : (o : Option Series) (a b : ℕ) → is_some o ≡ true → number_in o a ≡ number_in o b
any_default None a b f = absurd (true≢false (sym f))
any_default (Some s) a b f = refl

its_default : (o : Option Series) (a : ℕ) → is_some o ≡ false → number_in o a ≡ a
its_default None a f = refl
its_default (Some s) a f = absurd (true≢false f)

live_added : (kind other : MetricKind) (key : KeyText) (x : PrometheusState) → (live kind (added other key x) ≡ live kind x) ⊎ ((other ≡ kind) × (live kind (added other key x) ≡ live kind x ++ new_series x.made key ∷ []))
live_added kinds.Counter kinds.Counter key x = inr (refl, refl)
live_added kinds.Counter kinds.Gauge key x = inl refl
live_added kinds.Counter kinds.Histogram key x = inl refl
live_added kinds.Gauge kinds.Counter key x = inl refl
live_added kinds.Gauge kinds.Gauge key x = inr (refl, refl)
live_added kinds.Gauge kinds.Histogram key x = inl refl
live_added kinds.Histogram kinds.Counter key x = inl refl
live_added kinds.Histogram kinds.Gauge key x = inl refl
live_added kinds.Histogram kinds.Histogram key x = inr (refl, refl)

live_last : (kind : MetricKind) (key : KeyText) (x : PrometheusState) → live kind (added kind key x) ≡ live kind x ++ new_series x.made key ∷ []
live_last kinds.Counter key x = refl
live_last kinds.Gauge key x = refl
live_last kinds.Histogram key x = refl

limit_added : (kind : MetricKind) (key : KeyText) (x : PrometheusState) → (added kind key x).limit ≡ x.limit
limit_added kinds.Counter key x = refl
limit_added kinds.Gauge key x = refl
limit_added kinds.Histogram key x = refl

-- ---- what a new series changes of what is found

names_same : (a b : KeyText) → key_eq a b ≡ true → a.name ≡ b.name
names_same a b e = ((key_eq_is a b).0 e).0

-- the series of a key that is live stays
still_live : (kind other : MetricKind) (key new : KeyText) (x : PrometheusState) → has kind key x ≡ true → live_series kind key (added other new x) ≡ live_series kind key x
still_live kind other key new x found = ⊎_elim
    (λ (p : live kind (added other new x) ≡ live kind x). ap (find (has_key key)) p)
    (λ (p : (other ≡ kind) × (live kind (added other new x) ≡ live kind x ++ new_series x.made new ∷ [])). ap (find (has_key key)) p.1 ∙ find_more key (live kind x) (new_series x.made new) found)
    (live_added kind other new x)

find_last : (key : KeyText) (xs : List Series) (x : Series) → is_some (find (has_key key) xs) ≡ false → is_some (find (has_key key) (xs ++ x ∷ [])) ≡ key_eq x.key key
find_last key [] x none = by (key_eq x.key key)
  where
    by : (b : Bool) → is_some (cond b (Some x) None) ≡ b
    by true = refl
    by false = refl
find_last key (y ∷ ys) x none = by (key_eq y.key key) none (find_last key ys x)
  where
    by : (b : Bool) → is_some (cond b (Some y) (find (has_key key) ys)) ≡ false → (is_some (find (has_key key) ys) ≡ false → is_some (find (has_key key) (ys ++ x ∷ [])) ≡ key_eq x.key key)
        → is_some (cond b (Some y) (find (has_key key) (ys ++ x ∷ []))) ≡ key_eq x.key key
    by true none rest = absurd (true≢false none)
    by false none rest = rest none

-- a key that is not live becomes live by no other series
still_missing : (kind other : MetricKind) (key new : KeyText) (x : PrometheusState) → has kind key x ≡ false → (other ≡ kind → key_eq new key ≡ false) → has kind key (added other new x) ≡ false
still_missing kind other key new x missing differs = ⊎_elim
    (λ (p : live kind (added other new x) ≡ live kind x). ap (λ l. is_some (find (has_key key) l)) p ∙ missing)
    (λ (p : (other ≡ kind) × (live kind (added other new x) ≡ live kind x ++ new_series x.made new ∷ [])).
    ap (λ l. is_some (find (has_key key) l)) p.1 ∙ find_last key (live kind x) (new_series x.made new) missing ∙ differs p.0)
    (live_added kind other new x)

named_last : (name : List ℕ) (xs : List Series) (x : Series) → length (filter (is_named name) (xs ++ x ∷ [])) ≡ length (filter (is_named name) xs) + cond (is_named name x) 1 0
named_last name xs x = ap length (filter-append (is_named name) xs (x ∷ [])) ∙ length-append (filter (is_named name) xs) (cond (is_named name x) (x ∷ []) []) ∙ ap (λ n. length (filter (is_named name) xs) + n) (by (is_named name x))
  where
    by : (b : Bool) → length (cond b (x ∷ []) []) ≡ cond b 1 0
    by true = refl
    by false = refl

named_more : (kind other : MetricKind) (name : List ℕ) (new : KeyText) (x : PrometheusState) → count_named kind name x ≤ count_named kind name (added other new x)
named_more kind other name new x = ⊎_elim
    (λ (p : live kind (added other new x) ≡ live kind x). let same = ap (λ l. length (filter (is_named name) l)) p in omega (arith, same))
    (λ (p : (other ≡ kind) × (live kind (added other new x) ≡ live kind x ++ new_series x.made new ∷ [])).
    let more = ap (λ l. length (filter (is_named name) l)) p.1 ∙ named_last name (live kind x) (new_series x.made new) in omega (arith, more))
    (live_added kind other new x)

-- where the overflow series of a name is live, no fewer count against the limit later
counted_more : (kind other : MetricKind) (name : List ℕ) (new : KeyText) (x : PrometheusState) → has kind (overflow_key name) x ≡ true → counted kind name x ≤ counted kind name (added other new x)
counted_more kind other name new x there =
    let before : counted kind name x ≡ count_named kind name x - 1 = ap (λ b. if b then count_named kind name x - 1 else count_named kind name x) there in
    let y = added other new x in
    let after : counted kind name y ≡ count_named kind name y - 1
    = ap (λ b. if b then count_named kind name y - 1 else count_named kind name y) (ap is_some (still_live kind other (overflow_key name) new x there) ∙ there) in
    let more = named_more kind other name new x in
    omega (arith, before, after, more)

-- ---- the series that a registration gets stays the same

below_or_past : (n m : ℕ) → (n < m) ⊎ (m ≤ n)
below_or_past n m = by (nat_lt n m) refl
  where
    by : (b : Bool) → nat_lt n m ≡ b → (n < m) ⊎ (m ≤ n)
    by true is = inl (ltb-true n m is)
    by false is = inr (ltb-false n m is)

module _ (kind : MetricKind) (key : KeyText) (x : PrometheusState) (missing : has kind key x ≡ false) where
  -- where the key isn't live it gets a series of its own, or the limit is reached
  own_or_full : (key_given kind key x ≡ key) ⊎ ((l : ℕ) × (x.limit ≡ Some l) × (l ≤ counted kind (metric_name_of key) x) × (key_given kind key x ≡ overflow_key (metric_name_of key)))
  own_or_full = by x.limit refl
    where
      by : (o : Option ℕ) → x.limit ≡ o → (key_given kind key x ≡ key) ⊎ ((l : ℕ) × (x.limit ≡ Some l) × (l ≤ counted kind (metric_name_of key) x) × (key_given kind key x ≡ overflow_key (metric_name_of key)))
      by None is = inl (own-given kind key x (unlimited-own kind key x is)).0
      by (Some l) is = ⊎_elim
          (λ (below : counted kind (metric_name_of key) x < l). inl (own-given kind key x (below-own kind key x l is missing (counted kind (metric_name_of key) x) refl below)).0)
          (λ (full : l ≤ counted kind (metric_name_of key) x). inr (l, is, full, (overflow-given kind key x (metric_name_of key) (full-overflow kind key x l is missing (counted kind (metric_name_of key) x) refl full)).0))
          (below_or_past (counted kind (metric_name_of key) x) l)

  -- the limit is still reached, and the key still isn't live
  full_given : (y : PrometheusState) (l : ℕ) → y.limit ≡ Some l → has kind key y ≡ false → l ≤ counted kind (metric_name_of key) y → key_given kind key y ≡ overflow_key (metric_name_of key)
  full_given y l is gone full = (overflow-given kind key y (metric_name_of key) (full-overflow kind key y l is gone (counted kind (metric_name_of key) y) refl full)).0

-- the key that another registration gets isn't equal to one past whose limit it is
apart : (kind : MetricKind) (key new : KeyText) (x : PrometheusState) (l : ℕ) → x.limit ≡ Some l → l ≤ counted kind (metric_name_of key) x → has kind (overflow_key (metric_name_of key)) x ≡ true → has kind (key_given kind new x) x ≡ false
    → key_eq (key_given kind new x) key ≡ false
apart kind key new x l is full there absent = by (key_eq (key_given kind new x) key) refl
  where
    -- it gets its own series, so the limit isn't reached
    own : key_given kind new x ≡ new → key_eq (key_given kind new x) key ≡ true → ⊥
    own given same =
        let names : metric_name_of new ≡ metric_name_of key = ap sanitized_metric_name (names_same new key (ap (λ k. key_eq k key) (sym given) ∙ same)) in
        let gone : has kind new x ≡ false = ap (λ k. has kind k x) (sym given) ∙ absent in
        let to = full-overflow kind new x l is gone (counted kind (metric_name_of new) x) refl (subst (λ n. l ≤ counted kind n x) (sym names) full) in
        let over = (overflow-given kind new x (metric_name_of new) to).0 in
        taken (sym over ∙ given) names
      where
        taken : overflow_key (metric_name_of new) ≡ new → metric_name_of new ≡ metric_name_of key → ⊥
        taken same names = true≢false (sym there ∙ ap (λ n. has kind (overflow_key n) x) (sym names) ∙ ap (λ k. has kind k x) (same ∙ sym given) ∙ absent)

    -- it gets the overflow series of its name, which is live
    over : key_given kind new x ≡ overflow_key (metric_name_of new) → key_eq (key_given kind new x) key ≡ true → ⊥
    over given same =
        let name : metric_name_of new ≡ key.name = names_same (overflow_key (metric_name_of new)) key (ap (λ k. key_eq k key) (sym given) ∙ same) in
        let stays : metric_name_of key ≡ metric_name_of new = ap sanitized_metric_name (sym name) ∙ sanitized_metric_name-of_name (metric_name_of new) (sanitized_metric_name-is_name new.name) in
        true≢false (sym there ∙ ap (λ n. has kind (overflow_key n) x) stays ∙ ap (λ k. has kind k x) (sym given) ∙ absent)

    given_by : (b : Bool) → is_redirected kind new x ≡ b → key_eq (key_given kind new x) key ≡ true → ⊥
    given_by true redirected same = over (ap (λ b. cond b (overflow_key (metric_name_of new)) new) redirected) same
    given_by false stays same = own (ap (λ b. cond b (overflow_key (metric_name_of new)) new) stays) same

    by : (b : Bool) → key_eq (key_given kind new x) key ≡ b → key_eq (key_given kind new x) key ≡ false
    by true same = absurd (given_by (is_redirected kind new x) refl same)
    by false differs = differs

-- a registration gets the same series after another one made a series
same_given : (kind other : MetricKind) (key new : KeyText) (x : PrometheusState) → has other (key_given other new x) x ≡ false → has kind (key_given kind key x) x ≡ true
    → key_given kind key (added other (key_given other new x) x) ≡ key_given kind key x
same_given kind other key new x absent there = by (has kind key x) refl
  where
    full : has kind key x ≡ false → (l : ℕ) → x.limit ≡ Some l → l ≤ counted kind (metric_name_of key) x → key_given kind key x ≡ overflow_key (metric_name_of key) → key_given kind key (added other (key_given other new x) x) ≡ key_given kind key x
    full missing l is most given =
        let over : has kind (overflow_key (metric_name_of key)) x ≡ true = ap (λ k. has kind k x) (sym given) ∙ there in
        let more = counted_more kind other (metric_name_of key) (key_given other new x) x over in
        let gone : has kind key (added other (key_given other new x) x) ≡ false
        = still_missing kind other key (key_given other new x) x missing (λ same. apart_as same) in
        full_given kind key x missing (added other (key_given other new x) x) l (limit_added other (key_given other new x) x ∙ is) gone (omega (arith, most, more)) ∙ sym given
      where
        apart_as : other ≡ kind → key_eq (key_given other new x) key ≡ false
        apart_as same =
            subst (λ k. has k (key_given k new x) x ≡ false → key_eq (key_given k new x) key ≡ false) (sym same)
            (apart kind key new x l is most (ap (λ k. has kind k x) (sym given) ∙ there)) absent

    by : (b : Bool) → has kind key x ≡ b → key_given kind key (added other (key_given other new x) x) ≡ key_given kind key x
    by true found = (live-registers kind key (added other (key_given other new x) x) (ap is_some (still_live kind other key (key_given other new x) x found) ∙ found)).0 ∙ sym (live-registers kind key x found).0
    by false missing = ⊎_elim
        (λ (own : key_given kind key x ≡ key). absurd (true≢false (sym there ∙ ap (λ k. has kind k x) own ∙ missing)))
        (λ (past : (l : ℕ) × (x.limit ≡ Some l) × (l ≤ counted kind (metric_name_of key) x) × (key_given kind key x ≡ overflow_key (metric_name_of key))). full missing past.0 past.1 past.2 past.3)
        (own_or_full kind key x missing)

-- a key's number stays while another registration makes a series
added_numbered : (kind other : MetricKind) (key new : KeyText) (n : ℕ) (x : PrometheusState) → has other (key_given other new x) x ≡ false → has kind (key_given kind key x) x ≡ true → n ≡ number_given kind key x
    → Numbered kind key n (added other (key_given other new x) x)
added_numbered kind other key new n x absent there e =
    let its_key = key_given kind key x in
    let after = added other (key_given other new x) x in
    let same = same_given kind other key new x absent there in
    let stays : live_series kind its_key after ≡ live_series kind its_key x = still_live kind other its_key (key_given other new x) x there in (
      e ∙ any_default (live_series kind its_key x) x.made (x.made + 1) there ∙ ap (λ o. number_in o (x.made + 1)) (sym stays) ∙ ap (λ k. number_of kind k after) (sym same),
      inl (ap (λ k. has kind k after) same ∙ ap is_some stays ∙ there),
    )

choose_numbered : (a b : Bool) (kind other : MetricKind) (key new : KeyText) (n : ℕ) (x : PrometheusState) → has other (key_given other new x) x ≡ a → (x.made == no_series) ≡ b → Numbered kind key n x → Numbered kind key n (choose a b other (key_given other new x) x)
choose_numbered true b kind other key new n x f t h = h
choose_numbered false true kind other key new n x f t h = h
choose_numbered false false kind other key new n x f t h = ⊎_elim
    (λ (there : has kind (key_given kind key x) x ≡ true). added_numbered kind other key new n x f there h.0)
    (λ (full : x.made ≡ no_series). absurd (true≢false (sym (eq-eqb x.made no_series full) ∙ t)))
    h.1

-- counting a redirection changes no number
raised_numbered : (kind : MetricKind) (key : KeyText) (n : ℕ) (counts : List NameCount) (x : PrometheusState) → Numbered kind key n x → Numbered kind key n (record x { redirected = counts })
raised_numbered kinds.Counter key n counts x h = h
raised_numbered kinds.Gauge key n counts x h = h
raised_numbered kinds.Histogram key n counts x h = h

raised_given : (kind : MetricKind) (key : KeyText) (counts : List NameCount) (x : PrometheusState) → key_given kind key (record x { redirected = counts }) ≡ key_given kind key x
raised_given kinds.Counter key counts x = refl
raised_given kinds.Gauge key counts x = refl
raised_given kinds.Histogram key counts x = refl

redirected_numbered : (kind other : MetricKind) (key new : KeyText) (n : ℕ) (x : PrometheusState) → Numbered kind key n x → Numbered kind key n (with_redirection other new x)
redirected_numbered kind other key new n x h = by (is_redirected other new x)
  where
    by : (b : Bool) → Numbered kind key n (if b then with_raised other (metric_name_of new) x else x)
    by true = raised_numbered kind key n (raised other (metric_name_of new) x.redirected) x h
    by false = h

redirected_given : (kind : MetricKind) (key : KeyText) (x : PrometheusState) → key_given kind key (with_redirection kind key x) ≡ key_given kind key x
redirected_given kind key x = by (is_redirected kind key x)
  where
    by : (b : Bool) → key_given kind key (if b then with_raised kind (metric_name_of key) x else x) ≡ key_given kind key x
    by true = raised_given kind key (raised kind (metric_name_of key) x.redirected) x
    by false = refl

-- a registration, as the choice of what it makes
abbrev pub chosen : MetricKind → KeyText → PrometheusState → PrometheusState
chosen kind key x = choose (has kind (key_given kind key x) x) (x.made == no_series) kind (key_given kind key x) x

pub registers : (kind : MetricKind) (key : KeyText) (x : PrometheusState) → register kind key x ≡ chosen kind key (with_redirection kind key x)
registers kind key x = ap (λ k. with_series kind k (with_redirection kind key x)) (sym (redirected_given kind key x))

described_numbered : (b : Bool) (kind : MetricKind) (key : KeyText) (n : ℕ) (waits : List Description) (x : PrometheusState) → Numbered kind key n x → Numbered kind key n (if b then x else record x { pending = waits })
described_numbered true kind key n waits x h = h
described_numbered false kinds.Counter key n waits x h = h
described_numbered false kinds.Gauge key n waits x h = h
described_numbered false kinds.Histogram key n waits x h = h

paged_numbered : (kind : MetricKind) (key : KeyText) (n : ℕ) (x : PrometheusState) → Numbered kind key n x → Numbered kind key n (page_left none_gone x)
paged_numbered kinds.Counter key n x h = h
paged_numbered kinds.Gauge key n x h = h
paged_numbered kinds.Histogram key n x h = h

step_numbered : (t : ExporterSettings) (c : RecorderEntry) (x y : PrometheusState) (kind : MetricKind) (key : KeyText) (n : ℕ) → t.idle ≡ None → Step t c x y → Numbered kind key n x → Numbered kind key n y
step_numbered t (Built e) x y kind key n never s h = absurd s
step_numbered t (Register other new number) x y kind key n never s h =
    let r = with_redirection other new x in
    subst (Numbered kind key n) (sym (s.1 ∙ registers other new x)) (choose_numbered (has other (key_given other new r) r) (r.made == no_series) kind other key new n r refl refl (redirected_numbered kind other key new n x h))
step_numbered t (Describe name unit text) x y kind key n never s h =
    subst (Numbered kind key n) (sym s)
    (described_numbered (is_some (description_of x.published (sanitized_metric_name name))) kind key n (put_description x.pending (record { name = sanitized_metric_name name; text = text; unit = unit })) x h)
step_numbered t (Page g) x y kind key n never s h =
    subst (Numbered kind key n) (sym (s.1 ∙ ap (λ (k : Gone). page_left k x) (s.0 never))) (paged_numbered kind key n x h)

-- the series that was made is the one that the registration gets later
new_given : (kind : MetricKind) (key : KeyText) (x : PrometheusState) → has kind (key_given kind key x) x ≡ false
    → (key_given kind key (added kind (key_given kind key x) x) ≡ key_given kind key x) ⊎ ((key_given kind key (added kind (key_given kind key x) x) ≡ key) × (key_eq (key_given kind key x) key ≡ true) × (has kind key x ≡ false))
new_given kind key x absent = by (has kind key x) refl
  where
    last : (k : KeyText) → has kind k x ≡ false → has kind k (added kind (key_given kind key x) x) ≡ key_eq (key_given kind key x) k
    last k gone = ap (λ l. is_some (find (has_key k) l)) (live_last kind (key_given kind key x) x) ∙ find_last k (live kind x) (new_series x.made (key_given kind key x)) gone

    -- past the limit: the overflow series is new, and it doesn't count
    full : has kind key x ≡ false → key_eq (key_given kind key x) key ≡ false → (l : ℕ) → x.limit ≡ Some l → l ≤ counted kind (metric_name_of key) x → (key_given kind key x) ≡ overflow_key (metric_name_of key) → key_given kind key (added kind (key_given kind key x) x) ≡ (key_given kind key x)
    full missing differs l is most given =
        let name = metric_name_of key in
        let over : has kind (overflow_key name) x ≡ false = ap (λ k. has kind k x) (sym given) ∙ absent in
        let there : has kind (overflow_key name) (added kind (key_given kind key x) x) ≡ true = last (overflow_key name) over ∙ ap (λ k. key_eq k (overflow_key name)) given ∙ key_eq_laws.refl (overflow_key name) in
        let before : counted kind name x ≡ count_named kind name x = ap (λ b. if b then count_named kind name x - 1 else count_named kind name x) over in
        let behind : counted kind name (added kind (key_given kind key x) x) ≡ count_named kind name (added kind (key_given kind key x) x) - 1 = ap (λ b. if b then count_named kind name (added kind (key_given kind key x) x) - 1 else count_named kind name (added kind (key_given kind key x) x)) there in
        let is_its : is_named name (new_series x.made (key_given kind key x)) ≡ true
        = (bytes_eq-Decides (metric_name_of (key_given kind key x)) name).1 (ap metric_name_of given ∙ sanitized_metric_name-of_name name (sanitized_metric_name-is_name key.name)) in
        let more : count_named kind name (added kind (key_given kind key x) x) ≡ count_named kind name x + 1
        = ap (λ l. length (filter (is_named name) l)) (live_last kind (key_given kind key x) x) ∙ named_last name (live kind x) (new_series x.made (key_given kind key x)) ∙ ap (λ b. count_named kind name x + cond b 1 0) is_its in
        full_given kind key x missing (added kind (key_given kind key x) x) l (limit_added kind (key_given kind key x) x ∙ is) (last key missing ∙ differs) (omega (arith, most, before, behind, more)) ∙ sym given

    unequal : has kind key x ≡ false → key_eq (key_given kind key x) key ≡ false → key_given kind key (added kind (key_given kind key x) x) ≡ (key_given kind key x)
    unequal missing differs = ⊎_elim
        (λ (own : (key_given kind key x) ≡ key). absurd (true≢false (sym (key_eq_laws.refl key) ∙ ap (λ k. key_eq k key) (sym own) ∙ differs)))
        (λ (past : (l : ℕ) × (x.limit ≡ Some l) × (l ≤ counted kind (metric_name_of key) x) × ((key_given kind key x) ≡ overflow_key (metric_name_of key))). full missing differs past.0 past.1 past.2 past.3)
        (own_or_full kind key x missing)

    compared : has kind key x ≡ false → (b : Bool) → key_eq (key_given kind key x) key ≡ b → (key_given kind key (added kind (key_given kind key x) x) ≡ (key_given kind key x)) ⊎ ((key_given kind key (added kind (key_given kind key x) x) ≡ key) × (key_eq (key_given kind key x) key ≡ true) × (has kind key x ≡ false))
    compared missing true same = inr ((live-registers kind key (added kind (key_given kind key x) x) (last key missing ∙ same)).0, same, missing)
    compared missing false differs = inl (unequal missing differs)

    by : (b : Bool) → has kind key x ≡ b → (key_given kind key (added kind (key_given kind key x) x) ≡ (key_given kind key x)) ⊎ ((key_given kind key (added kind (key_given kind key x) x) ≡ key) × (key_eq (key_given kind key x) key ≡ true) × (has kind key x ≡ false))
    by true found = absurd (true≢false (sym found ∙ ap (λ k. has kind k x) (sym (live-registers kind key x found).0) ∙ absent))
    by false missing = compared missing (key_eq (key_given kind key x) key) refl

choose_numbers : (a b : Bool) (kind : MetricKind) (key : KeyText) (n : ℕ) (x : PrometheusState) → has kind (key_given kind key x) x ≡ a → (x.made == no_series) ≡ b → n ≡ number_given kind key x → Numbered kind key n (choose a b kind (key_given kind key x) x)
choose_numbers true b kind key n x f t e = (e, inl f)
choose_numbers false true kind key n x f t e = (e, inr (eqb-true x.made no_series t))
choose_numbers false false kind key n x f t e = ⊎_elim
    (λ (same : key_given kind key (added kind (key_given kind key x) x) ≡ (key_given kind key x)). numbered (key_given kind key (added kind (key_given kind key x) x)) refl (ap (λ k. key_eq (key_given kind key x) k) same ∙ key_eq_laws.refl (key_given kind key x)) (ap (λ k. has kind k x) same ∙ f))
    (λ (own : (key_given kind key (added kind (key_given kind key x) x) ≡ key) × (key_eq (key_given kind key x) key ≡ true) × (has kind key x ≡ false)). numbered (key_given kind key (added kind (key_given kind key x) x)) refl (ap (λ k. key_eq (key_given kind key x) k) own.0 ∙ own.1) (ap (λ k. has kind k x) own.0 ∙ own.2))
    (new_given kind key x f)
  where
    numbered : (k : KeyText) → key_given kind key (added kind (key_given kind key x) x) ≡ k → key_eq (key_given kind key x) k ≡ true → has kind k x ≡ false → Numbered kind key n (added kind (key_given kind key x) x)
    numbered k given same gone =
        let new = new_series x.made (key_given kind key x) in
        let found : live_series kind k (added kind (key_given kind key x) x) ≡ Some new = ap (find (has_key k)) (live_last kind (key_given kind key x) x) ∙ find_new k (live kind x) new same gone in (
          e ∙ its_default (live_series kind (key_given kind key x) x) x.made f ∙ ap (λ o. number_in o (x.made + 1)) (sym found) ∙ ap (λ j. number_of kind j (added kind (key_given kind key x) x)) (sym given),
          inl (ap (λ j. has kind j (added kind (key_given kind key x) x)) given ∙ ap is_some found),
        )

runs_numbered : (t : ExporterSettings) (x y : PrometheusState) (cs : List RecorderEntry) (kind : MetricKind) (key : KeyText) (n : ℕ) → t.idle ≡ None → Runs (Step t) x cs y → Numbered kind key n x → Numbered kind key n y
runs_numbered t x y [] kind key n never r h = subst (Numbered kind key n) r h
runs_numbered t x y (c ∷ cs) kind key n never r h = runs_numbered t r.0 y cs kind key n never r.2 (step_numbered t c x r.0 kind key n never r.1 h)

pub number_redirected : (kind : MetricKind) (key : KeyText) (x : PrometheusState) → number_given kind key x ≡ number_given kind key (with_redirection kind key x)
number_redirected kind key x = by (is_redirected kind key x)
  where
    of_raised : (kind : MetricKind) (counts : List NameCount) → number_given kind key x ≡ number_given kind key (record x { redirected = counts })
    of_raised kinds.Counter counts = refl
    of_raised kinds.Gauge counts = refl
    of_raised kinds.Histogram counts = refl

    by : (b : Bool) → number_given kind key x ≡ number_given kind key (if b then with_raised kind (metric_name_of key) x else x)
    by true = of_raised kind (raised kind (metric_name_of key) x.redirected)
    by false = refl

runs_number : (t : ExporterSettings) (x y : PrometheusState) (cs : List RecorderEntry) (kind : MetricKind) (key : KeyText) (n : ℕ) → t.idle ≡ None → Runs (Step t) x cs y → Called (Register kind key n) cs → Numbered kind key n y
runs_number t x y [] kind key n never r q = absurd q
runs_number t x y (c ∷ cs) kind key n never r q = ⊎_elim
    (λ (e : Register kind key n ≡ c).
    let s : Step t (Register kind key n) x r.0 = subst (λ d. Step t d x r.0) (sym e) r.1 in
    let x' = with_redirection kind key x in
    runs_numbered t r.0 y cs kind key n never r.2
    (subst (Numbered kind key n) (sym (s.1 ∙ registers kind key x)) (choose_numbers (has kind (key_given kind key x') x') (x'.made == no_series) kind key n x' refl refl (s.0 ∙ number_redirected kind key x))))
    (λ (later : Called (Register kind key n) cs). runs_number t r.0 y cs kind key n never r.2 later)
    q

-- a registration's number is its key's
pub numbers_are : (cs : List RecorderEntry) (t : ExporterSettings) (y : PrometheusState) (kind : MetricKind) (key : KeyText) (n : ℕ) → t.idle ≡ None → Reached cs t y → Called (Register kind key n) cs → n ≡ number_given kind key y
numbers_are [] t y kind key n never r q = absurd r
numbers_are (Built e ∷ cs) t y kind key n never r q = ⊎_elim
    (λ (z : Register kind key n ≡ Built e). absurd (cc z))
    (λ (later : Called (Register kind key n) cs). (runs_number t (setup (state_of e)) y cs kind key n never r.1 later).0)
    q
numbers_are (Register other new m ∷ cs) t y kind key n never r q = absurd r
numbers_are (Describe name unit text ∷ cs) t y kind key n never r q = absurd r
numbers_are (Page g ∷ cs) t y kind key n never r q = absurd r

same_find : (a b : KeyText) (xs : List Series) → key_eq a b ≡ true → find (has_key a) xs ≡ find (has_key b) xs
same_find a b [] e = refl
same_find a b (x ∷ xs) e =
    let one : key_eq x.key a ≡ key_eq x.key b = key_eq_laws.symm x.key a ∙ (key_eq_laws.congr a b x.key e ∙ key_eq_laws.symm b x.key) in
    λ j. cond (one j) (Some x) (same_find a b xs e j)

equal_given : (kind : MetricKind) (a b : KeyText) (y : PrometheusState) → key_eq a b ≡ true → number_given kind a y ≡ number_given kind b y
equal_given kind a b y e = by (is_redirected kind a y) ∙ ap (λ r. number_of kind (cond r (overflow_key (metric_name_of b)) b) y) same
  where
    names : metric_name_of a ≡ metric_name_of b
    names = ap sanitized_metric_name (names_same a b e)

    found : live_series kind a y ≡ live_series kind b y
    found = same_find a b (live kind y) e

    same : is_redirected kind a y ≡ is_redirected kind b y
    same = λ i. not (is_some (found i)) && not (is_below (counted kind (names i) y) y.limit)

    by : (r : Bool) → number_of kind (cond r (overflow_key (metric_name_of a)) a) y ≡ number_of kind (cond r (overflow_key (metric_name_of b)) b) y
    by true = ap (λ n. number_of kind (overflow_key n) y) names
    by false = ap (λ o. number_in o y.made) found

-- equal keys have equal numbers
pub numbers_same : (cs : List RecorderEntry) (t : ExporterSettings) (y : PrometheusState) (kind : MetricKind) (a b : KeyText) (n m : ℕ) → t.idle ≡ None → Reached cs t y → Called (Register kind a n) cs → Called (Register kind b m) cs → key_eq a b ≡ true → n ≡ m
numbers_same cs t y kind a b n m never r p q e = numbers_are cs t y kind a n never r p ∙ equal_given kind a b y e ∙ sym (numbers_are cs t y kind b m never r q)
