-- Pages that were written, one after another, and what stands of them and of the flushes where a round is cut off.
use Rattle.std.proofs.Common.{◌≡◌, ◌≤◌, List, [], ◌∷◌, ◌++◌, refl, sym, ap, subst, ◌∙◌, append-nil, append_assoc, ℕ}
use Rattle.std.proofs.lemmas.List.{append_cancel_right}
use Rattle.std.specs.Prelude.{Option, Some, None}
use Rattle.metrics_core.specs.Outside.{GrewBy, GrewByPrefix}
use Rattle.metrics_core.proofs.Grown.{grew-append}
use Rattle.prom_exporter.specs.Families.{window_of}
use Rattle.prom_exporter.proofs.Printable.{page_reads}
use Rattle.dsd_addresses.specs.Remotes.{RemoteText}
use Rattle.dsd_exporter.specs.declared.sending.FlushReport.{FlushReport}
use Rattle.drive_script.specs.Script.{RoundText, SettingsText}
use Rattle.script_player.specs.Flushes.{FlushPlay, ForSomeFlushes}
use Rattle.script_player.specs.InPart.{BeginsPage, EndsWithin, after_rounds}
use Rattle.script_player.specs.InTurn.{orders_in_turn}
use Rattle.script_player.specs.Orders.{ForSomeOrders, round_text, rounds_text}
use Rattle.script_player.specs.Play.{PlayState, RoundOrders, AreOrdersAlong, AreOrdersOf, after_round, after_setup, exporter_settings}
use Rattle.script_player.specs.Sent.{Delivers, LinkTold}
use Rattle.script_player.proofs.Delivered.{FlushedSoFar, delivers-earlier, delivers-none, told-still}
use Rattle.script_player.proofs.RunPages.{orders_of_kind, pages_read}

-- ---- one more round

along-last : (settings : SettingsText) (p : PlayState) (done : List RoundText) (choice : List RoundOrders) (round : RoundText) (orders : RoundOrders) → AreOrdersAlong settings p done choice
    → AreOrdersOf (after_setup (after_rounds settings p done choice) round) round orders → AreOrdersAlong settings p (done ++ round ∷ []) (choice ++ orders ∷ [])
along-last settings p [] [] round orders legal one = (one, tt)
along-last settings p [] (c ∷ cs) round orders legal one = absurd legal
along-last settings p (r ∷ rs) [] round orders legal one = absurd legal
along-last settings p (r ∷ rs) (c ∷ cs) round orders legal one = (legal.0, along-last settings (after_round settings p r c) rs cs round orders legal.1 one)

state-last : (settings : SettingsText) (p : PlayState) (done : List RoundText) (choice : List RoundOrders) (round : RoundText) (orders : RoundOrders) → AreOrdersAlong settings p done choice
    → after_rounds settings p (done ++ round ∷ []) (choice ++ orders ∷ []) ≡ after_round settings (after_rounds settings p done choice) round orders
state-last settings p [] [] round orders legal = refl
state-last settings p [] (c ∷ cs) round orders legal = absurd legal
state-last settings p (r ∷ rs) [] round orders legal = absurd legal
state-last settings p (r ∷ rs) (c ∷ cs) round orders legal = state-last settings (after_round settings p r c) rs cs round orders legal.1

text-last : (settings : SettingsText) (p : PlayState) (done : List RoundText) (choice : List RoundOrders) (round : RoundText) (orders : RoundOrders) → AreOrdersAlong settings p done choice
    → rounds_text settings p (done ++ round ∷ []) (choice ++ orders ∷ []) ≡ rounds_text settings p done choice ++ round_text settings (after_rounds settings p done choice) round orders
text-last settings p [] [] round orders legal = append-nil (round_text settings p round orders)
text-last settings p [] (c ∷ cs) round orders legal = absurd legal
text-last settings p (r ∷ rs) [] round orders legal = absurd legal
text-last settings p (r ∷ rs) (c ∷ cs) round orders legal =
    let q = after_round settings p r c in
    ap (λ text. round_text settings p r c ++ text) (text-last settings q rs cs round orders legal.1)
    ∙ sym (append_assoc (round_text settings p r c) (rounds_text settings q rs cs) (round_text settings (after_rounds settings q rs cs) round orders))

-- The pages of the first rounds were written, and the others are still to be played, from this state on.
pub record PagedSoFar (settings : SettingsText) (start : PlayState) (all : List RoundText) (p : PlayState) (left : List RoundText) (written written' : Option (List ℕ)) : Type 0 where
  pub done : List RoundText
  pub rounds : all ≡ done ++ left
  pub choice : List RoundOrders
  pub legal : AreOrdersAlong settings start done choice
  pub state : p ≡ after_rounds settings start done choice
  pub grew : GrewBy written written' (rounds_text settings start done choice)

module _ (settings : SettingsText) (start : PlayState) (all : List RoundText) where
  pub paged-start : (told : Option (List ℕ)) → PagedSoFar settings start all start all told told
  paged-start told = record { done = []; rounds = refl; choice = []; legal = tt; state = refl; grew = told-still told }

  pub paged-round : (p q : PlayState) (round : RoundText) (left : List RoundText) (a b c : Option (List ℕ)) → PagedSoFar settings start all p (round ∷ left) a b
      → ForSomeOrders p round (λ orders. (q ≡ after_round settings p round orders) × GrewBy b c (round_text settings p round orders)) → PagedSoFar settings start all q left a c
  paged-round p q round left a b c so_far (orders, legal, (state, grew)) =
      let before = after_rounds settings start so_far.done so_far.choice in
      let next : GrewBy b c (round_text settings before round orders) = subst (λ s. GrewBy b c (round_text settings s round orders)) so_far.state grew in
      record {
        done = so_far.done ++ round ∷ [];
        rounds = so_far.rounds ∙ sym (append_assoc so_far.done (round ∷ []) left);
        choice = so_far.choice ++ orders ∷ [];
        legal = along-last settings start so_far.done so_far.choice round orders so_far.legal (subst (λ s. AreOrdersOf (after_setup s round) round orders) so_far.state legal);
        state = state ∙ ap (λ s. after_round settings s round orders) so_far.state ∙ sym (state-last settings start so_far.done so_far.choice round orders so_far.legal);
        grew = subst (GrewBy a c) (sym (text-last settings start so_far.done so_far.choice round orders so_far.legal))
            (grew-append a b c (rounds_text settings start so_far.done so_far.choice) (round_text settings before round orders) so_far.grew next);
      }

-- ---- a round that is cut off

-- what was written of a page
record Begun (b c : Option (List ℕ)) (page : List ℕ) : Type 0 where
  bytes : List ℕ
  rest : List ℕ
  split : page ≡ bytes ++ rest
  grew : GrewBy b c bytes

begun_of : (b c : Option (List ℕ)) (page : List ℕ) → GrewByPrefix b c page → Begun b c page
begun_of None c page grew = record { bytes = []; rest = page; split = refl; grew = tt }
begun_of (Some before) c page (rest, up) = record { bytes = up.prefix; rest = rest; split = up.cut; grew = up.written }

pub ends_within : (settings : SettingsText) (to : RemoteText) (start p : PlayState) (begin q : FlushPlay) (all : List RoundText) (round : RoundText) (left : List RoundText) (a b c : Option (List ℕ))
    (told tells : LinkTold) (x y : FlushReport) → PagedSoFar settings start all p (round ∷ left) a b → FlushedSoFar settings to begin all q (round ∷ left) told tells x y
    → ForSomeOrders p round (λ orders. GrewByPrefix b c (round_text settings p round orders)) → EndsWithin settings to start begin all a c told tells x
ends_within settings to start p begin q all round left a b c told tells x y paged flushed (orders, legal, grew) =
    let page = round_text settings p round orders in
    let begun = begun_of b c page grew in
    let whole = rounds_text settings start paged.done paged.choice in
    let reads = page_reads (exporter_settings settings) (window_of (exporter_settings settings) round.moment) (after_round settings p round orders).prometheus in
    let same : flushed.done ≡ paged.done = append_cancel_right flushed.done paged.done (round ∷ left) (sym flushed.rounds ∙ paged.rounds) in
    record {
      done = paged.done;
      left = round ∷ left;
      split = paged.rounds;
      text = whole ++ begun.bytes;
      pages = record {
        orders = paged.choice;
        legal = paged.legal;
        whole = whole;
        begun = begun.bytes;
        pages = pages_read settings start paged.done paged.choice paged.legal;
        next = subst (λ s. BeginsPage settings s (round ∷ left) begun.bytes) paged.state (orders, legal, (page, begun.rest, reads, begun.split));
        cut = refl;
      };
      grew = grew-append a b c whole begun.bytes paged.grew begun.grew;
      flushed = subst (λ rounds. ForSomeFlushes settings begin rounds (λ flushes. (now : FlushReport) × Delivers settings to flushes told tells x now)) same
          (flushed.choice, flushed.legal, (y, flushed.delivers));
    }

-- ---- where no page was begun

none_begun : (settings : SettingsText) (p : PlayState) (rounds : List RoundText) → BeginsPage settings p rounds []
none_begun settings p [] = refl
none_begun settings p (round ∷ rounds) =
    let orders = orders_in_turn p round in
    let page = round_text settings p round orders in
    let reads = page_reads (exporter_settings settings) (window_of (exporter_settings settings) round.moment) (after_round settings p round orders).prometheus in
    (orders, (λ kind. orders_of_kind (after_setup p round) round kind), (page, page, reads, refl))

pub none_within : (settings : SettingsText) (to : RemoteText) (p : PlayState) (q : FlushPlay) (rounds : List RoundText) (written : Option (List ℕ)) (told : LinkTold) (report : FlushReport)
    → EndsWithin settings to p q rounds written written told told report
none_within settings to p q rounds written told report = record {
  done = [];
  left = rounds;
  split = refl;
  text = [];
  pages = record { orders = []; legal = tt; whole = []; begun = []; pages = refl; next = none_begun settings p rounds; cut = refl };
  grew = told-still written;
  flushed = ([], tt, (report, delivers-none settings to told report));
}

-- the play began later than this, and nothing was sent between
pub ends_within-earlier : (settings : SettingsText) (to : RemoteText) (p : PlayState) (q : FlushPlay) (rounds : List RoundText) (written written' : Option (List ℕ)) (a b c : LinkTold)
    (report : FlushReport) → b.sent ≡ a.sent → a.faults ≤ b.faults → EndsWithin settings to p q rounds written written' b c report → EndsWithin settings to p q rounds written written' a c report
ends_within-earlier settings to p q rounds written written' a b c report same fewer ended =
    let (choice, legal, (now, delivers)) = ended.flushed in
    record {
      done = ended.done;
      left = ended.left;
      split = ended.split;
      text = ended.text;
      pages = ended.pages;
      grew = ended.grew;
      flushed = (choice, legal, (now, delivers-earlier settings to _ a b c report now same fewer delivers));
    }
