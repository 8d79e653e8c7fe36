-- Rounds that are played one after another, of which only the last page is written.
use Rattle.std.proofs.Common.{◌≡◌, ℕ, List, [], ◌∷◌, ◌++◌, append_assoc, refl, sym, ap, subst, ◌∙◌}
use Rattle.std.specs.Prelude.{Option}
use Rattle.metrics_core.specs.Outside.{GrewByPrefix}
use Rattle.metrics_core.proofs.Grown.{grew_none}
use Rattle.prom_format.specs.Pages.{Family, IsPage}
use Rattle.prom_exporter.specs.Families.{window_of}
use Rattle.prom_exporter.proofs.Printable.{page_reads}
use Rattle.drive_script.specs.Script.{RoundText, ScriptText, SettingsText}
use Rattle.script_player.specs.Benched.{IsLastPageOf}
use Rattle.script_player.specs.InTurn.{orders_in_turn}
use Rattle.script_player.specs.Orders.{ForSomeOrders, round_text}
use Rattle.script_player.specs.Play.{AreOrdersAlong, PlayState, RoundOrders, after_round, after_setup, exporter_settings, page_of, pages_along, play_start}
use Rattle.script_player.proofs.RunPages.{orders_of_kind}

-- ---- the last page

-- All pages end with those of the rounds to come, whatever orders these have.
abbrev pub IsPagedSoFar : SettingsText → PlayState → List RoundText → PlayState → List RoundText → Type 0
IsPagedSoFar settings start all p left =
    (rest : List RoundOrders) → AreOrdersAlong settings p left rest
    → (choice : List RoundOrders) × (earlier : List (List Family)) × AreOrdersAlong settings start all choice × (pages_along settings start all choice ≡ earlier ++ pages_along settings p left rest)

pub paged-start : (settings : SettingsText) (start : PlayState) (all : List RoundText) → IsPagedSoFar settings start all start all
paged-start settings start all rest legal = (rest, [], legal, refl)

pub paged-round : (settings : SettingsText) (start : PlayState) (all : List RoundText) (p q : PlayState) (round : RoundText) (left : List RoundText) → IsPagedSoFar settings start all p (round ∷ left)
    → ForSomeOrders p round (λ orders. q ≡ after_round settings p round orders) → IsPagedSoFar settings start all q left
paged-round settings start all p q round left so_far (orders, legal, state) =
    let page = page_of settings p round orders in
    subst (λ s. IsPagedSoFar settings start all s left) (sym state) (λ rest legal_rest.
    let whole = so_far (orders ∷ rest) (legal, legal_rest) in
    (whole.0, whole.1 ++ page ∷ [], whole.2, whole.3 ∙ sym (append_assoc whole.1 (page ∷ []) (pages_along settings (after_round settings p round orders) left rest))))

-- what is so of the last round's page is so of a script's last page
pub last_shown : (script : ScriptText) (p : PlayState) (round : RoundText) (P : List ℕ → Type 0) → IsPagedSoFar script.settings (play_start script.settings) script.rounds p (round ∷ [])
    → ForSomeOrders p round (λ orders. P (round_text script.settings p round orders)) → (page : List ℕ) × IsLastPageOf script page × P page
last_shown script p round P so_far (orders, legal, holds) =
    let whole = so_far (orders ∷ []) (legal, tt) in (
      round_text script.settings p round orders,
      record {
        orders = whole.0;
        legal = whole.2;
        earlier = whole.1;
        families = page_of script.settings p round orders;
        last = whole.3;
        page = page_reads (exporter_settings script.settings) (window_of (exporter_settings script.settings) round.moment) (after_round script.settings p round orders).prometheus;
      },
      holds,
    )

-- rounds, of which there is one at least, have a last page
pub record LastPage (settings : SettingsText) (p : PlayState) (rounds : List RoundText) : Type 0 where
  pub orders : List RoundOrders
  pub legal : AreOrdersAlong settings p rounds orders
  pub earlier : List (List Family)
  pub families : List Family
  pub last : pages_along settings p rounds orders ≡ earlier ++ families ∷ []
  pub bytes : List ℕ
  pub page : IsPage bytes families

has_last : (settings : SettingsText) (p : PlayState) (round : RoundText) (rounds : List RoundText) → LastPage settings p (round ∷ rounds)
has_last settings p round [] =
    let orders = orders_in_turn p round in
    record {
      orders = orders ∷ [];
      legal = ((λ kind. orders_of_kind (after_setup p round) round kind), tt);
      earlier = [];
      families = page_of settings p round orders;
      last = refl;
      bytes = round_text settings p round orders;
      page = page_reads (exporter_settings settings) (window_of (exporter_settings settings) round.moment) (after_round settings p round orders).prometheus;
    }
has_last settings p round (next ∷ rounds) =
    let orders = orders_in_turn p round in
    let behind = has_last settings (after_round settings p round orders) next rounds in
    record {
      orders = orders ∷ behind.orders;
      legal = ((λ kind. orders_of_kind (after_setup p round) round kind), behind.legal);
      earlier = page_of settings p round orders ∷ behind.earlier;
      families = behind.families;
      last = ap (λ pages. page_of settings p round orders ∷ pages) behind.last;
      bytes = behind.bytes;
      page = behind.page;
    }

pub last_unshown : (script : ScriptText) (first : RoundText) (others : List RoundText) (told : Option (List ℕ)) → script.rounds ≡ first ∷ others
    → (page : List ℕ) × IsLastPageOf script page × GrewByPrefix told told page
last_unshown script first others told is =
    let any : LastPage script.settings (play_start script.settings) script.rounds = subst (LastPage script.settings (play_start script.settings)) (sym is) (has_last script.settings (play_start script.settings) first others) in
    (any.bytes, record { orders = any.orders; legal = any.legal; earlier = any.earlier; families = any.families; last = any.last; page = any.page }, grew_none told any.bytes)
