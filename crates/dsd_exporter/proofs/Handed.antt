-- Payloads that are handed to a link one after the other.
use Rattle.std.proofs.Common.{◌≡◌, ℕ, ◌+◌, Bool, true, false, cond, not, List, [], ◌∷◌, ◌++◌, length, length-append, arith, refl, sym, ap, subst, ◌∙◌, append-nil, append_assoc}
use Rattle.std.specs.Prelude.{Option, Some, None}
use Rattle.std.specs.List.{filter, fold}
use Rattle.std.proofs.lemmas.List.{map-append, length-map}
use Rattle.std.proofs.lemmas.List.Elements.{filter-append}
use Rattle.std.proofs.lemmas.List.Filters.{length-filter_both}
use Rattle.std.proofs.lemmas.List.Sums.{fold-append}
use Rattle.metrics_core.specs.Outside.{GrewBy}
use Rattle.dsd_addresses.specs.Remotes.{RemoteText}
use Rattle.dsd_exporter.specs.Links.{SentText}
use Rattle.dsd_exporter.specs.Updates.{UpdateText}
use Rattle.dsd_exporter.specs.Sending.{Outcome, handed, sent_of, unsent_of, with_outcome, RoseBy, addressed, HandsOut}

-- two growths after each other are one
grew-then : {X : Type 0} (a b c : Option (List X)) (x y : List X) → GrewBy a b x → GrewBy b c y → GrewBy a c (x ++ y)
grew-then None b c x y h k = tt
grew-then (Some before) b c x y h k = by b h k
  where
    by : (b : Option (List _)) → b ≡ Some (before ++ x) → GrewBy b c y → c ≡ Some (before ++ (x ++ y))
    by None e k = cc
    by (Some middle) e k = k ∙ ap (λ m. Some (m ++ y)) (some_injective e) ∙ ap Some (append_assoc before x y)
      where
        some_injective : Some middle ≡ Some (before ++ x) → middle ≡ before ++ x
        some_injective e = cc

pub grew-nothing : {X : Type 0} (a : Option (List X)) → GrewBy a a []
grew-nothing None = tt
grew-nothing (Some before) = ap Some (sym (append-nil before))

pub sent-append : (a b : List Outcome) → sent_of (a ++ b) ≡ sent_of a ++ sent_of b
sent-append a b = ap handed (filter-append (λ (o : Outcome). o.went) a b) ∙ map-append (λ (o : Outcome). o.payload) (filter (λ (o : Outcome). o.went) a) (filter (λ (o : Outcome). o.went) b)

pub unsent-append : (a b : List Outcome) → unsent_of (a ++ b) ≡ unsent_of a ++ unsent_of b
unsent-append a b =
    ap handed (filter-append (λ (o : Outcome). not o.went) a b)
    ∙ map-append (λ (o : Outcome). o.payload) (filter (λ (o : Outcome). not o.went) a) (filter (λ (o : Outcome). not o.went) b)

-- nothing was handed out
pub hands_none : (aimed : Option RemoteText) (told : Option (List SentText)) (faults : ℕ) (u : UpdateText) → HandsOut [] [] aimed told told faults faults u u
hands_none aimed told faults u = record { each = refl; sent = grew-nothing told; cause = omega arith; counted = refl }

rose-then : (m n a b c : ℕ) → RoseBy m a b → RoseBy n b c → RoseBy (m + n) a c
rose-then m n a b c h k = omega (arith, h, k)

-- first some, then others
pub hands_then : (ps qs : List (List ℕ)) (a b : List Outcome) (aimed : Option RemoteText) (told mid tells : Option (List SentText)) (f g h : ℕ) (u n m : UpdateText)
    → HandsOut ps a aimed told mid f g u n → HandsOut qs b aimed mid tells g h n m → HandsOut (ps ++ qs) (a ++ b) aimed told tells f h u m
hands_then ps qs a b aimed told mid tells f g h u n m first then = record {
  each = map-append (λ (o : Outcome). o.payload) a b ∙ (λ j. first.each j ++ then.each j);
  sent =
      (let both = grew-then told mid tells (addressed aimed (sent_of a)) (addressed aimed (sent_of b)) first.sent then.sent in
      let joined = map-append (λ (p : List ℕ). record { to = aimed; payload = p }) (sent_of a) (sent_of b) in
      subst (GrewBy told tells) (sym (ap (addressed aimed) (sent-append a b) ∙ joined)) both);
  cause =
      (let lengths = ap length (unsent-append a b) ∙ length-append (unsent_of a) (unsent_of b) in
      subst (λ k. RoseBy k f h) (sym lengths) (rose-then (length (unsent_of a)) (length (unsent_of b)) f g h first.cause then.cause));
  counted = then.counted ∙ ap (λ t. fold with_outcome t b) first.counted ∙ sym (fold-append with_outcome u a b);
}

-- those that were sent and those that weren't are all
pub all-counted : (outcomes : List Outcome) → length (sent_of outcomes) + length (unsent_of outcomes) ≡ length (handed outcomes)
all-counted outcomes =
    let both = length-filter_both (λ (o : Outcome). o.went) (λ (o : Outcome). not o.went) (λ x. refl) outcomes in
    let sent = length-map (filter (λ (o : Outcome). o.went) outcomes) (λ (o : Outcome). o.payload) in
    let unsent = length-map (filter (λ (o : Outcome). not o.went) outcomes) (λ (o : Outcome). o.payload) in
    let all = length-map outcomes (λ (o : Outcome). o.payload) in
    omega (arith, both, sent, unsent, all)

-- one more
module _ (ps : List (List ℕ)) (p : List ℕ) (went : Bool) (a : List Outcome) where
  abbrev pub next : List Outcome
  next = a ++ record { payload = p; went = went } ∷ []

  pub hands_more : (aimed now : Option RemoteText) (told mid tells : Option (List SentText)) (f g h : ℕ) (u n m : UpdateText)
      → HandsOut ps a aimed told mid f g u n → now ≡ aimed → HandsOut (p ∷ []) (record { payload = p; went = went } ∷ []) now mid tells g h n m
      → HandsOut (ps ++ p ∷ []) next aimed told tells f h u m
  hands_more aimed now told mid tells f g h u n m first same then =
      hands_then ps (p ∷ []) a (record { payload = p; went = went } ∷ []) aimed told mid tells f g h u n m first
      (subst (λ x. HandsOut (p ∷ []) (record { payload = p; went = went } ∷ []) x mid tells g h n m) same then)

  pub sent-more : length (sent_of next) ≡ length (sent_of a) + cond went 1 0
  sent-more =
      ap length (sent-append a (record { payload = p; went = went } ∷ [])) ∙ length-append (sent_of a) (sent_of (record { payload = p; went = went } ∷ []))
      ∙ ap (λ n. length (sent_of a) + n) (elim went as (λ b. length (sent_of (record { payload = p; went = b } ∷ [])) ≡ cond b 1 0) [ true ↦ refl | false ↦ refl ])
