-- Flushes that were delivered, one after another.
use Rattle.std.proofs.Common.{◌≡◌, ℕ, ◌+◌, ◌≤◌, ◌^◌, Bool, true, false, cond, List, [], ◌∷◌, ◌++◌, length, refl, sym, ap, subst, ◌∙◌, append-nil, append_assoc, length-append, arith}
use Rattle.std.specs.Prelude.{Option, Some, None, not}
use Rattle.std.proofs.lemmas.List.{map-append}
use Rattle.std.proofs.Math.Nat.{mod-add-mod}
use Rattle.std.specs.List.{filter}
use Rattle.metrics_core.specs.Numbers.{in_64_bits}
use Rattle.metrics_core.specs.Outside.{GrewBy}
use Rattle.dsd_addresses.specs.Remotes.{RemoteText}
use Rattle.dsd_exporter.specs.Links.{SentText}
use Rattle.dsd_exporter.specs.Sending.{Outcome, RoseBy, addressed, handed, sent_of, unsent_of}
use Rattle.dsd_exporter.specs.State.{FlushItem, left_out_of_items}
use Rattle.dsd_exporter.specs.declared.sending.FlushReport.{FlushReport}
use Rattle.drive_script.specs.Script.{RoundText, ScriptText, SettingsText}
use Rattle.script_player.specs.Flushes.{AreFlushOrders, AreFlushOrdersAlong, FlushPlay, ForSomeFlushOrders, ForSomeFlushes, after_flush, after_registers, all_left_out, all_payloads, flush_of, flush_payloads, flushes_along, payload_limit}
use Rattle.script_player.specs.Play.{RoundOrders}
use Rattle.script_player.specs.Sent.{Counts, Delivers, IsSent, LinkTold, none_sent, sent_part}
use Rattle.script_player.specs.declared.report.Report.{Report}

-- ---- outcomes

pub handed-append : (xs ys : List Outcome) → handed (xs ++ ys) ≡ handed xs ++ handed ys
handed-append xs ys = map-append (λ (o : Outcome). o.payload) xs ys

pub sent-append : (xs ys : List Outcome) → sent_of (xs ++ ys) ≡ sent_of xs ++ sent_of ys
sent-append [] ys = refl
sent-append (x ∷ xs) ys = by x.went (sent-append xs ys)
  where
    by : (b : Bool) → sent_of (xs ++ ys) ≡ sent_of xs ++ sent_of ys
        → handed (cond b (x ∷ filter (λ (o : Outcome). o.went) (xs ++ ys)) (filter (λ (o : Outcome). o.went) (xs ++ ys)))
        ≡ handed (cond b (x ∷ filter (λ (o : Outcome). o.went) xs) (filter (λ (o : Outcome). o.went) xs)) ++ sent_of ys
    by true rest = ap (λ l. x.payload ∷ l) rest
    by false rest = rest

pub unsent-append : (xs ys : List Outcome) → unsent_of (xs ++ ys) ≡ unsent_of xs ++ unsent_of ys
unsent-append [] ys = refl
unsent-append (x ∷ xs) ys = by (not x.went) (unsent-append xs ys)
  where
    by : (b : Bool) → unsent_of (xs ++ ys) ≡ unsent_of xs ++ unsent_of ys
        → handed (cond b (x ∷ filter (λ (o : Outcome). not o.went) (xs ++ ys)) (filter (λ (o : Outcome). not o.went) (xs ++ ys)))
        ≡ handed (cond b (x ∷ filter (λ (o : Outcome). not o.went) xs) (filter (λ (o : Outcome). not o.went) xs)) ++ unsent_of ys
    by true rest = ap (λ l. x.payload ∷ l) rest
    by false rest = rest

-- ---- what an object tells

module _ {X : Type 0} where
  pub told-still : (a : Option (List X)) → GrewBy a a []
  told-still None = tt
  told-still (Some before) = ap Some (sym (append-nil before))

  pub told-more : (a b c : Option (List X)) (x y : List X) → GrewBy a b x → GrewBy b c y → GrewBy a c (x ++ y)
  told-more None b c x y h k = tt
  told-more (Some before) b c x y h k = by b h k
    where
      by : (b : Option (List X)) → b ≡ Some (before ++ x) → GrewBy b c y → c ≡ Some (before ++ (x ++ y))
      by None e k = cc
      by (Some middle) e k = k ∙ ap (λ m. Some (m ++ y)) (some_injective e) ∙ ap Some (append_assoc before x y)
        where
          some_injective : Some middle ≡ Some (before ++ x) → middle ≡ before ++ x
          some_injective e = cc

-- ---- counts

pub counts-none : (a : ℕ) → Counts a 0 a
counts-none a = ap in_64_bits (omega arith)

pub counts-more : (a b c n m : ℕ) → Counts a n b → Counts b m c → Counts a (n + m) c
counts-more a b c n m first next =
    next ∙ sym (mod-add-mod b (2 ^ 64) m) ∙ ap (λ k. in_64_bits (k + m)) first ∙ mod-add-mod (a + n) (2 ^ 64) m ∙ ap in_64_bits (omega arith)

-- ---- flushes

module _ (settings : SettingsText) (to : RemoteText) where
  payloads-append : (xs ys : List (List FlushItem)) → all_payloads settings to (xs ++ ys) ≡ all_payloads settings to xs ++ all_payloads settings to ys
  payloads-append [] ys = refl
  payloads-append (x ∷ xs) ys = ap (λ l. flush_payloads settings to x ++ l) (payloads-append xs ys) ∙ sym (append_assoc (flush_payloads settings to x) (all_payloads settings to xs) (all_payloads settings to ys))

  left_out-append : (xs ys : List (List FlushItem)) → all_left_out settings to (xs ++ ys) ≡ all_left_out settings to xs + all_left_out settings to ys
  left_out-append [] ys = omega arith
  left_out-append (x ∷ xs) ys = let rest = left_out-append xs ys in ap (λ n. left_out_of_items (payload_limit settings to) x + n) rest ∙ omega arith

  pub delivers-none : (told : LinkTold) (report : FlushReport) → Delivers settings to [] told told report report
  delivers-none told report = record {
    outcomes = [];
    each = refl;
    grew = told-still told.sent;
    cause = omega arith;
    sent = counts-none report.sent;
    unsent = counts-none report.unsent;
    dropped = counts-none report.dropped;
  }

  pub delivers-more : (xs ys : List (List FlushItem)) (a b c : LinkTold) (p q r : FlushReport) → Delivers settings to xs a b p q → Delivers settings to ys b c q r → Delivers settings to (xs ++ ys) a c p r
  delivers-more xs ys a b c p q r first next =
      let sent : sent_of (first.outcomes ++ next.outcomes) ≡ sent_of first.outcomes ++ sent_of next.outcomes = sent-append first.outcomes next.outcomes in
      let many_sent : length (sent_of (first.outcomes ++ next.outcomes)) ≡ length (sent_of first.outcomes) + length (sent_of next.outcomes)
      = ap length sent ∙ length-append (sent_of first.outcomes) (sent_of next.outcomes) in
      let many_unsent : length (unsent_of (first.outcomes ++ next.outcomes)) ≡ length (unsent_of first.outcomes) + length (unsent_of next.outcomes)
      = ap length (unsent-append first.outcomes next.outcomes) ∙ length-append (unsent_of first.outcomes) (unsent_of next.outcomes) in
      let one = first.cause in
      let other = next.cause in
      record {
        outcomes = first.outcomes ++ next.outcomes;
        each = handed-append first.outcomes next.outcomes ∙ (λ i. first.each i ++ next.each i) ∙ sym (payloads-append xs ys);
        grew = subst (GrewBy a.sent c.sent) (sym (map-append (λ (payload : List ℕ). record { to = Some to; payload = payload }) (sent_of first.outcomes) (sent_of next.outcomes)) ∙ ap (addressed (Some to)) (sym sent))
            (told-more a.sent b.sent c.sent (addressed (Some to) (sent_of first.outcomes)) (addressed (Some to) (sent_of next.outcomes)) first.grew next.grew);
        cause = subst (λ n. RoseBy n a.faults c.faults) (sym many_unsent) (rose_more (length (unsent_of first.outcomes)) (length (unsent_of next.outcomes)) a.faults b.faults c.faults one other);
        sent = subst (λ n. Counts p.sent n r.sent) (sym many_sent) (counts-more p.sent q.sent r.sent (length (sent_of first.outcomes)) (length (sent_of next.outcomes)) first.sent next.sent);
        unsent = subst (λ n. Counts p.unsent n r.unsent) (sym many_unsent) (counts-more p.unsent q.unsent r.unsent (length (unsent_of first.outcomes)) (length (unsent_of next.outcomes)) first.unsent next.unsent);
        dropped = subst (λ n. Counts p.dropped n r.dropped) (sym (left_out-append xs ys)) (counts-more p.dropped q.dropped r.dropped (all_left_out settings to xs) (all_left_out settings to ys) first.dropped next.dropped);
      }
    where
      rose_more : (n m x y z : ℕ) → RoseBy n x y → RoseBy m y z → RoseBy (n + m) x z
      rose_more n m x y z first next = omega (arith, first, next)

  -- what was delivered from a moment on was delivered from an earlier one on at which nothing less was sent
  pub delivers-earlier : (xs : List (List FlushItem)) (a b c : LinkTold) (p q : FlushReport) → b.sent ≡ a.sent → a.faults ≤ b.faults → Delivers settings to xs b c p q → Delivers settings to xs a c p q
  delivers-earlier xs a b c p q same fewer delivers =
      let rose = delivers.cause in
      record {
        outcomes = delivers.outcomes;
        each = delivers.each;
        grew = subst (λ (s : Option (List SentText)). GrewBy s c.sent (addressed (Some to) (sent_of delivers.outcomes))) same delivers.grew;
        cause = rose_earlier (length (unsent_of delivers.outcomes)) a.faults b.faults c.faults fewer rose;
        sent = delivers.sent;
        unsent = delivers.unsent;
        dropped = delivers.dropped;
      }
    where
      rose_earlier : (n x y z : ℕ) → x ≤ y → RoseBy n y z → RoseBy n x z
      rose_earlier n x y z fewer rose = omega (arith, fewer, rose)

-- a script's payloads, from an earlier moment on
pub sent-earlier : (script : ScriptText) (to : RemoteText) (a b c : LinkTold) (report : Report) → b.sent ≡ a.sent → a.faults ≤ b.faults → IsSent script to b c report → IsSent script to a c report
sent-earlier script to a b c report same fewer sent = record {
  pages = sent.pages;
  flushed = (sent.flushed.0, sent.flushed.1, delivers-earlier script.settings to _ a b c none_sent (sent_part report) same fewer sent.flushed.2);
}

-- ---- rounds

-- the state behind some rounds
abbrev pub after_flushes : FlushPlay → List RoundText → List RoundOrders → FlushPlay
after_flushes p [] choice = p
after_flushes p (round ∷ rounds) [] = p
after_flushes p (round ∷ rounds) (orders ∷ choice) = after_flushes (after_flush p round orders) rounds choice

along-last : (p : FlushPlay) (done : List RoundText) (choice : List RoundOrders) (round : RoundText) (orders : RoundOrders) → AreFlushOrdersAlong p done choice
    → AreFlushOrders (after_registers (after_flushes p done choice) round) round orders → AreFlushOrdersAlong p (done ++ round ∷ []) (choice ++ orders ∷ [])
along-last p [] [] round orders legal one = (one, tt)
along-last p [] (c ∷ cs) round orders legal one = absurd legal
along-last p (r ∷ rs) [] round orders legal one = absurd legal
along-last p (r ∷ rs) (c ∷ cs) round orders legal one = (legal.0, along-last (after_flush p r c) rs cs round orders legal.1 one)

state-last : (p : FlushPlay) (done : List RoundText) (choice : List RoundOrders) (round : RoundText) (orders : RoundOrders) → AreFlushOrdersAlong p done choice
    → after_flushes p (done ++ round ∷ []) (choice ++ orders ∷ []) ≡ after_flush (after_flushes p done choice) round orders
state-last p [] [] round orders legal = refl
state-last p [] (c ∷ cs) round orders legal = absurd legal
state-last p (r ∷ rs) [] round orders legal = absurd legal
state-last p (r ∷ rs) (c ∷ cs) round orders legal = state-last (after_flush p r c) rs cs round orders legal.1

flushes-last : (settings : SettingsText) (p : FlushPlay) (done : List RoundText) (choice : List RoundOrders) (round : RoundText) (orders : RoundOrders) → AreFlushOrdersAlong p done choice
    → flushes_along settings p (done ++ round ∷ []) (choice ++ orders ∷ []) ≡ flushes_along settings p done choice ++ flush_of settings (after_flushes p done choice) round orders ∷ []
flushes-last settings p [] [] round orders legal = refl
flushes-last settings p [] (c ∷ cs) round orders legal = absurd legal
flushes-last settings p (r ∷ rs) [] round orders legal = absurd legal
flushes-last settings p (r ∷ rs) (c ∷ cs) round orders legal = ap (λ l. flush_of settings p r c ∷ l) (flushes-last settings (after_flush p r c) rs cs round orders legal.1)

-- The flushes of the first rounds were delivered, and the others are still to be played, from this state on.
pub record FlushedSoFar (settings : SettingsText) (to : RemoteText) (start : FlushPlay) (all : List RoundText) (p : FlushPlay) (left : List RoundText) (told tells : LinkTold) (before now : FlushReport) : Type 0 where
  pub done : List RoundText
  pub rounds : all ≡ done ++ left
  pub choice : List RoundOrders
  pub legal : AreFlushOrdersAlong start done choice
  pub state : p ≡ after_flushes start done choice
  pub delivers : Delivers settings to (flushes_along settings start done choice) told tells before now

module _ (settings : SettingsText) (to : RemoteText) (start : FlushPlay) (all : List RoundText) where
  pub flushed-start : (told : LinkTold) (report : FlushReport) → FlushedSoFar settings to start all start all told told report report
  flushed-start told report = record {
    done = [];
    rounds = refl;
    choice = [];
    legal = tt;
    state = refl;
    delivers = delivers-none settings to told report;
  }

  pub flushed-round : (p q : FlushPlay) (round : RoundText) (left : List RoundText) (a b c : LinkTold) (x y z : FlushReport) → FlushedSoFar settings to start all p (round ∷ left) a b x y
      → ForSomeFlushOrders p round (λ orders. (q ≡ after_flush p round orders) × Delivers settings to (flush_of settings p round orders ∷ []) b c y z)
      → FlushedSoFar settings to start all q left a c x z
  flushed-round p q round left a b c x y z so_far (orders, legal, (state, delivers)) = record {
    done = so_far.done ++ round ∷ [];
    rounds = so_far.rounds ∙ sym (append_assoc so_far.done (round ∷ []) left);
    choice = so_far.choice ++ orders ∷ [];
    legal = along-last start so_far.done so_far.choice round orders so_far.legal (subst (λ s. AreFlushOrders (after_registers s round) round orders) so_far.state legal);
    state = state ∙ ap (λ s. after_flush s round orders) so_far.state ∙ sym (state-last start so_far.done so_far.choice round orders so_far.legal);
    delivers = subst (λ (fs : List (List FlushItem)). Delivers settings to fs a c x z)
        (ap (λ s. flushes_along settings start so_far.done so_far.choice ++ flush_of settings s round orders ∷ []) so_far.state ∙ sym (flushes-last settings start so_far.done so_far.choice round orders so_far.legal))
        (delivers-more settings to (flushes_along settings start so_far.done so_far.choice) (flush_of settings p round orders ∷ []) a b c x y z so_far.delivers delivers);
  }

  pub flushed-end : (p : FlushPlay) (left : List RoundText) (a b : LinkTold) (x y : FlushReport) → left ≡ [] → FlushedSoFar settings to start all p left a b x y
      → ForSomeFlushes settings start all (λ flushes. Delivers settings to flushes a b x y)
  flushed-end p left a b x y none so_far =
      let whole : so_far.done ≡ all = sym (so_far.rounds ∙ ap (λ l. so_far.done ++ l) none ∙ append-nil so_far.done) in
      subst (λ rounds. ForSomeFlushes settings start rounds (λ flushes. Delivers settings to flushes a b x y)) whole (so_far.choice, so_far.legal, so_far.delivers)
