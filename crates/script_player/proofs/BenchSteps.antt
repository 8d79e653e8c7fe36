-- The rounds of the generated script, and what playing them wrote and reported.
use Rattle.std.proofs.Common.{◌≡◌, ℕ, zero, suc, ◌+◌, ◌-◌, ◌<◌, ◌≤◌, ◌^◌, List, [], ◌∷◌, length, refl, sym, ap, subst, ◌∙◌, arith}
use Rattle.std.specs.Prelude.{All, Option}
use Rattle.std.proofs.Math.Nat.{mod-eq_of_lt}
use Rattle.std.proofs.lemmas.List.Elements.{All-nil}
use Rattle.metrics_core.specs.Numbers.{in_64_bits}
use Rattle.metrics_core.specs.Outside.{GrewBy, GrewByPrefix, Rose}
use Rattle.dsd_exporter.specs.Sending.{unsent_of}
use Rattle.drive_script.specs.Script.{RoundText, SettingsText}
use Rattle.drive_script.specs.Valid.{IsValid}
use Rattle.drive_script.specs.declared.faults.DriveFault.{DriveFault}
use Rattle.drive_script.specs.declared.faults.DriveFault.TheVariants as faults
use Rattle.bench_scripts.specs.Bench.{bench_round, bench_script, bench_settings_text, rounds_from}
use Rattle.bench_scripts.proofs.RoundLaws.{all_acts, all_rounds, rounds_split}
use Rattle.script_player.specs.Agent.{default_agent}
use Rattle.script_player.specs.Faults.{IsPlayFault}
use Rattle.script_player.specs.Benched.{IsBenchReport, IsBenched, IsBenchedInPart, keeps_none}
use Rattle.script_player.specs.Flushes.{ForSomeFlushes, flush_start}
use Rattle.script_player.specs.Orders.{ForSomeOrders, round_text}
use Rattle.script_player.specs.Play.{after_round, play_start}
use Rattle.script_player.specs.Player.{Awaits, PlayerText, first_player}
use Rattle.script_player.specs.Recorded.{AllRecordSome, RecordsSome}
use Rattle.script_player.specs.Rounds.{CutsRound, PlaysRound}
use Rattle.script_player.specs.Sent.{Delivers, LinkTold, none_sent, sent_part}
use Rattle.script_player.specs.declared.report.Report.{Report}
use Rattle.script_player.proofs.Delivered.{flushed-end}
use Rattle.script_player.proofs.LastPages.{IsPagedSoFar, last_shown, last_unshown, paged-round, paged-start}
use Rattle.script_player.proofs.Standing.{StandsBefore, stands-page, stands-round, stands-start}
use Rattle.script_player.proofs.TimelyRounds.{rise_from_start}

-- ---- the generated rounds

-- the rounds of so many that are left from round n on
abbrev pub left_from : ℕ → ℕ → List RoundText
left_from n count = rounds_from n (count - n)

pub one_next : (n count : ℕ) → n < count → left_from n count ≡ bench_round n ∷ left_from (n + 1) count
one_next n count within =
    let many : count - n ≡ suc (count - (n + 1)) = omega (arith, within) in
    let number : suc n ≡ n + 1 = omega arith in
    ap (rounds_from n) many ∙ rounds_split n (count - (n + 1)) ∙ ap (λ k. bench_round n ∷ rounds_from k (count - (n + 1))) number

pub one_last : (n count : ℕ) → n + 1 ≡ count → left_from n count ≡ bench_round n ∷ []
unfolding rounds_from
one_last n count is =
    let many : count - n ≡ suc zero = omega (arith, is) in
    ap (rounds_from n) many

-- no call records no sample
rounds_record : (k count : ℕ) → All AllRecordSome (rounds_from k count)
rounds_record k count = all_rounds AllRecordSome k count (λ j le. all_acts RecordsSome (λ n. tt) (λ v. tt) (λ v. tt) j)

pub rounds_many : (k count : ℕ) → length (rounds_from k count) ≡ count
unfolding rounds_from
rounds_many k zero = refl
rounds_many k (suc count) = ap suc (rounds_many (suc k) count)

-- The player stands before round n of so many: of the pages of all those of the rounds that are left are the last.
pub record StandsAt (count : ℕ) (first : PlayerText) (told tells : LinkTold) (player : PlayerText) (left : List RoundText) : Type 0 where
  pub stands : StandsBefore first (bench_script count).rounds told tells player left
  pub paged : IsPagedSoFar first.settings first.pages (bench_script count).rounds player.pages left

module _ (count : ℕ) (first : PlayerText) (told : LinkTold) where
  pub stands_first : IsValid (bench_script count) → first ≡ first_player bench_settings_text default_agent → StandsAt count first told told first (left_from 0 count)
  stands_first valid is =
      let rounds = (bench_script count).rounds in
      let all : count ≡ count - 0 = omega arith in
      let awaits : Awaits 0 rounds (first_player bench_settings_text default_agent) = record {
        fit = ([], refl, valid.handles);
        lines_fit = ([], refl, valid.handles);
        some = rounds_record 0 count;
        timely = All-nil _;
        rises = rise_from_start rounds valid.moments;
      } in
      subst (λ many. StandsAt count first told told first (rounds_from 0 many)) all (record {
        stands = stands-start first rounds told 0 (ap (λ (p : PlayerText). p.waiting) is) (subst (Awaits 0 rounds) (sym is) awaits);
        paged = paged-start first.settings first.pages rounds;
      })

  module _ (tells : LinkTold) (player : PlayerText) (n : ℕ) (round : RoundText) (is : round ≡ bench_round n) (stands : StandsAt count first told tells player (left_from n count)) where
    pub stands_next : n < count → StandsAt count first told tells player (round ∷ left_from (n + 1) count)
    stands_next within = subst (StandsAt count first told tells player) (one_next n count within ∙ ap (λ r. r ∷ left_from (n + 1) count) (sym is)) stands

    pub stands_last : n + 1 ≡ count → StandsAt count first told tells player (round ∷ [])
    stands_last end = subst (StandsAt count first told tells player) (one_last n count end ∙ ap (λ r. r ∷ []) (sym is)) stands

  -- one more was played
  pub stands_round : (tells tells' : LinkTold) (player after : PlayerText) (round : RoundText) (left : List RoundText) (written written' : Option (List ℕ)) → StandsAt count first told tells player (round ∷ left)
      → PlaysRound round player after written written' tells tells' → StandsAt count first told tells' after left
  stands_round tells tells' player after round left written written' at played =
      let rounds = (bench_script count).rounds in
      let page = stands-page first rounds told tells player round left at.stands after written written' tells' played in
      record {
        stands = stands-round first rounds told tells player round left at.stands after written written' tells' played;
        paged = paged-round first.settings first.pages rounds player.pages after.pages round left at.paged (page.0, page.1, page.2.0);
      }

  -- the last page, of a play of the generated script
  module _ (start : first ≡ first_player bench_settings_text default_agent) (tells tells' : LinkTold) (player : PlayerText) (round : RoundText) (written written' : Option (List ℕ)) (at : StandsAt count first told tells player (round ∷ [])) where
    paged_last : IsPagedSoFar bench_settings_text (play_start bench_settings_text) (bench_script count).rounds player.pages (round ∷ [])
    paged_last = subst (λ (p : PlayerText). IsPagedSoFar p.settings p.pages (bench_script count).rounds player.pages (round ∷ [])) start at.paged

    asked : player.settings ≡ bench_settings_text
    asked = at.stands.settings ∙ ap (λ (p : PlayerText). p.settings) start

    pub last_written : (after : PlayerText) → PlaysRound round player after written written' tells tells' → IsBenched count written written'
    last_written after played =
        let page = subst (λ (s : SettingsText). ForSomeOrders player.pages round (λ orders. (after.pages ≡ after_round s player.pages round orders) × GrewBy written written' (round_text s player.pages round orders))) asked played.page in
        let (bytes, last, grew) = last_shown (bench_script count) player.pages round (GrewBy written written') paged_last (page.0, page.1, page.2.1) in
        record { page = bytes; last = last; grew = grew }

    pub last_cut : CutsRound round player written written' tells tells' → IsBenchedInPart count written written'
    last_cut cut =
        let page = subst (λ (s : SettingsText). ForSomeOrders player.pages round (λ orders. GrewByPrefix written written' (round_text s player.pages round orders))) asked cut.page in
        let (bytes, last, grew) = last_shown (bench_script count) player.pages round (GrewByPrefix written written') paged_last page in
        record { page = bytes; last = last; grew = grew }

    pub last_sent : (after : PlayerText) → PlaysRound round player after written written' tells tells'
        → ForSomeFlushes bench_settings_text flush_start (bench_script count).rounds (λ flushes. Delivers bench_settings_text default_agent flushes told tells' none_sent after.report)
    last_sent after played =
        let rounds = (bench_script count).rounds in
        let behind = stands_round tells tells' player after round [] written written' at played in
        subst (λ (p : PlayerText). ForSomeFlushes p.settings p.flushes rounds (λ flushes. Delivers p.settings p.to flushes told tells' p.report after.report)) start
        (flushed-end first.settings first.to first.flushes rounds after.flushes [] told tells' first.report after.report refl behind.stands.flushed)

-- ---- what is written and reported

-- nothing was written
pub unbenched : (count : ℕ) → 1 ≤ count → (told : Option (List ℕ)) → IsBenchedInPart count told told
unbenched count some told =
    let all : count ≡ count - 0 = omega arith in
    let (bytes, last, grew) = last_unshown (bench_script count) (bench_round 0) (left_from 1 count) told (ap (rounds_from 0) all ∙ one_next 0 count (omega (arith, some))) in
    record { page = bytes; last = last; grew = grew }

-- a fault of rounds whose pages go nowhere is no failed write
pub no_write_fault : (P : Type 0) (fault : DriveFault) → IsPlayFault (Rose 0 0) fault → IsPlayFault P fault
no_write_fault P faults.WriteFault rose = absurd (omega (arith, rose))
no_write_fault P faults.Memory cause = tt
no_write_fault P (faults.Script _) cause = absurd cause
no_write_fault P (faults.Setting _) cause = absurd cause
no_write_fault P faults.TooLong cause = absurd cause
no_write_fault P faults.ReadFault cause = absurd cause

-- where the link never fails, each payload was sent
pub bench_report : (count : ℕ) (report : Report) → report.pages ≡ count → report.unsent < 2 ^ 64
    → ForSomeFlushes bench_settings_text flush_start (bench_script count).rounds (λ flushes. Delivers bench_settings_text default_agent flushes keeps_none keeps_none none_sent (sent_part report))
    → IsBenchReport count report
bench_report count report pages fits flushed =
    let delivers = flushed.2 in
    let none : length (unsent_of delivers.outcomes) ≡ 0 = let rose = delivers.cause in omega (arith, rose) in
    record {
      sent = record { pages = pages ∙ sym (rounds_many 0 count); flushed = flushed };
      unsent = sym (mod-eq_of_lt fits) ∙ delivers.unsent ∙ ap (λ n. in_64_bits (0 + n)) none;
    }
