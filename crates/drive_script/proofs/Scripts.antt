-- Bytes, and the scripts that they are.
use Rattle.std.proofs.Common.{◌≡◌, ℕ, zero, suc, ◌<◌, ◌≤◌, List, [], ◌∷◌, ◌++◌, length, get_or, take, refl, sym, ap, subst, ◌∙◌, arith, lit<, lit≤}
use Rattle.std.specs.Prelude.{All, codes, false, true, nat_lt, None, Some, pos}
use Rattle.std.specs.Fmt.{digits}
use Rattle.std.specs.Char.{encode_utf8}
use Rattle.std.specs.List.{list_all}
use Rattle.std.specs.Str.{IsAscii}
use Rattle.std.proofs.lemmas.Bool.{and_parts, ltb-true}
use Rattle.std.proofs.lemmas.Str.{chars-IsAscii}
use Rattle.std.proofs.lemmas.Str.Ascii.{IsAscii-nil, IsAscii-cons}
use Rattle.std.proofs.lemmas.List.Elements.{All-cons, All-head, All-nil}
use Rattle.std.proofs.lemmas.List.Quantifiers.{all_pairs_push}
use Rattle.std.proofs.lemmas.List.Sorted.{IsNonDecreasingBy-short}
use Rattle.metrics_core.specs.Keys.{KeyText}
use Rattle.metrics_core.specs.declared.kinds.MetricKind.TheVariants.{Counter, Histogram}
use Rattle.metrics_core.specs.declared.units.Unit.TheVariants.{Seconds}
use Rattle.prom_format.specs.Names.{sanitized_characters, begins_metric_name}
use Rattle.prom_format.proofs.NameLaws.{sanitized_metric_name-of_name}
use Rattle.drive_script.specs.Words.{IsDec, IsLabelUtf8}
use Rattle.drive_script.specs.Script.{IsScript, IsLine, RoundText, Header, NativeFor, Naming, Units, SeriesLimit, Limit, Mode, NamePrefix, GlobalTag, HistogramKind, Round, Setup, Describe, Register, ScriptText, ScriptLine, Inc, RecN, HeaderLine, SettingsText, Said, lines_of, header_lines, only_globals}
use Rattle.drive_script.specs.Growth.{IsNext, place, least_behind}
use Rattle.drive_script.specs.Valid.{Registration, Head, overflow_head, PrintApart, IsNoOverflow, SparesOverflow, IsValid, IsScriptOf, AreValidLines, IsFirstBadLine, HasHandle, registered_in}
use Rattle.drive_script.specs.Vectors.{basic, basic_bytes, basic_round, basic_key, sampled, sampled_bytes, sampled_round, sampled_key, settings_bytes, native_line, described_round, with_settings, empty, overflow_key, counts_key, hyphen_key, unlimited_round, unlimited, unlimited_bytes, overflow_bytes, counts_bytes}
use Rattle.drive_script.specs.Reading.{series_limit_at, positive_at, number_at, behind}
use Rattle.drive_script.proofs.Forms.{no_series_limit}
use Rattle.drive_script.proofs.Growth.{Valid, script_of, only_next, no_next}
use Rattle.drive_script.proofs.HeaderGrowth.{nothing_said}
use Rattle.drive_script.proofs.Laws.{beginnings}

basic_script : IsScript (lines_of basic_bytes) basic
unfolding digits encode_utf8
basic_script = record {
  said = record { mode = None; kind = None };
  meant = (refl, refl);
  each = (
    record { words = codes "round" ∷ codes "0" ∷ []; formed = (lit< tt, refl); spelled = refl },
    (
      record { words = codes "register" ∷ codes "counter" ∷ codes "\"basic_counter\"" ∷ []; formed = (((codes "basic_counter", (refl, refl)), All-nil IsLabelUtf8), refl); spelled = refl },
      (
        record { words = codes "0" ∷ codes "inc" ∷ codes "0" ∷ codes "42" ∷ []; formed = (codes "inc" ∷ codes "0" ∷ codes "42" ∷ [], (lit< tt, refl), lit< tt, lit< tt, refl); spelled = refl },
        tt,
      ),
    ),
  );
}

no_pair : (i j : ℕ) → i < j → j < 1 → ⊥
no_pair i j before within = omega (arith, before, within)

basic_valid : IsValid basic
basic_valid = record {
  moments = IsNonDecreasingBy-short (λ (r : RoundText). r.moment) (basic_round ∷ []) (lit≤ tt);
  handles = (All-cons (HasHandle (registered_in basic_round)) (record { lane = 0; handle = 0; act = Inc 42 }) [] (basic_key, refl) (All-nil (HasHandle (registered_in basic_round))), tt);
  registrations = lit≤ tt;
  samples = lit≤ tt;
  heads = λ i j d before within. absurd (no_pair i j before within);
  overflow = All-cons (SparesOverflow basic.settings) (record { kind = Counter; key = basic_key }) [] tt (All-nil (SparesOverflow basic.settings));
}

pub basic_script_of : IsScriptOf basic_bytes basic
basic_script_of = (basic_script, basic_valid)

one_and_a_half : IsDec (codes "1.5") (pos 1500000000)
unfolding digits
one_and_a_half = record { negative = false; whole = 1; digits = codes "5"; few = lit≤ tt; each_digit = (lit< tt, tt); spelled = refl; meant = refl; fits = lit≤ tt }

sampled_script : IsScript (lines_of sampled_bytes) sampled
unfolding digits encode_utf8
sampled_script = record {
  said = record { mode = None; kind = None };
  meant = (refl, refl);
  each = (
    record { words = codes "round" ∷ codes "0" ∷ []; formed = (lit< tt, refl); spelled = refl },
    (
      record { words = codes "register" ∷ codes "histogram" ∷ codes "\"sizes\"" ∷ []; formed = (((codes "sizes", (refl, refl)), All-nil IsLabelUtf8), refl); spelled = refl },
      (
        record { words = codes "0" ∷ codes "recn" ∷ codes "0" ∷ codes "1.5" ∷ codes "3" ∷ []; formed = (codes "recn" ∷ codes "0" ∷ codes "1.5" ∷ codes "3" ∷ [], (codes "1.5", one_and_a_half, lit≤ tt, lit≤ tt, refl), lit< tt, lit< tt, refl); spelled = refl },
        tt,
      ),
    ),
  );
}

sampled_valid : IsValid sampled
sampled_valid = record {
  moments = IsNonDecreasingBy-short (λ (r : RoundText). r.moment) (sampled_round ∷ []) (lit≤ tt);
  handles = (All-cons (HasHandle (registered_in sampled_round)) (record { lane = 0; handle = 0; act = RecN (pos 1500000000) 3 }) [] (sampled_key, refl) (All-nil (HasHandle (registered_in sampled_round))), tt);
  registrations = lit≤ tt;
  samples = lit≤ tt;
  heads = λ i j d before within. absurd (no_pair i j before within);
  overflow = All-cons (SparesOverflow sampled.settings) (record { kind = Histogram; key = sampled_key }) [] tt (All-nil (SparesOverflow sampled.settings));
}

pub sampled_script_of : IsScriptOf sampled_bytes sampled
sampled_script_of = (sampled_script, sampled_valid)

two : IsDec (codes "2") (pos 2000000000)
unfolding digits
two = record { negative = false; whole = 2; digits = []; few = lit≤ tt; each_digit = tt; spelled = refl; meant = refl; fits = lit≤ tt }

nothing : IsDec (codes "0") (pos 0)
unfolding digits
nothing = record { negative = false; whole = 0; digits = []; few = lit≤ tt; each_digit = tt; spelled = refl; meant = refl; fits = lit≤ tt }

native_said : IsLine (codes "native-for full \"n\" 2 160 0") (Header (NativeFor native_line))
unfolding digits encode_utf8
native_said = record {
  words = codes "native-for" ∷ codes "full" ∷ codes "\"n\"" ∷ codes "2" ∷ codes "160" ∷ codes "0" ∷ [];
  formed = (codes "2", codes "0", (codes "n", (refl, refl)), two, lit< tt, nothing, refl);
  spelled = refl;
}

naming_said : IsLine (codes "naming on") (Header Naming)
naming_said = record { words = codes "naming" ∷ codes "on" ∷ []; formed = refl; spelled = refl }

units_said : IsLine (codes "units on") (Header Units)
units_said = record { words = codes "units" ∷ codes "on" ∷ []; formed = refl; spelled = refl }

series_limit_said : IsLine (codes "series-limit 100") (Header (SeriesLimit 100))
unfolding digits
series_limit_said = record { words = codes "series-limit" ∷ codes "100" ∷ []; formed = (lit≤ tt, lit< tt, refl); spelled = refl }

limit_said : IsLine (codes "dsd-limit 512") (Header (Limit 512))
unfolding digits
limit_said = record { words = codes "dsd-limit" ∷ codes "512" ∷ []; formed = (lit< tt, refl); spelled = refl }

mode_said : IsLine (codes "dsd-mode aggressive") (Header (Mode true))
mode_said = record { words = codes "dsd-mode" ∷ codes "aggressive" ∷ []; formed = refl; spelled = refl }

prefix_said : IsLine (codes "dsd-prefix \"p\"") (Header (NamePrefix (codes "p")))
unfolding encode_utf8
prefix_said = record { words = codes "dsd-prefix" ∷ codes "\"p\"" ∷ []; formed = ((codes "p", (refl, refl)), refl); spelled = refl }

tag_said : IsLine (codes "dsd-global \"e\" \"\"") (Header (GlobalTag (record { key = codes "e"; value = [] })))
unfolding encode_utf8
tag_said = record { words = codes "dsd-global" ∷ codes "\"e\"" ∷ codes "\"\"" ∷ []; formed = (((codes "e", (refl, refl)), ([], (refl, refl))), refl); spelled = refl }

kind_said : IsLine (codes "dsd-kind h") (Header (HistogramKind true))
kind_said = record { words = codes "dsd-kind" ∷ codes "h" ∷ []; formed = refl; spelled = refl }

round_said : IsLine (codes "round 0") (Round 0)
unfolding digits
round_said = record { words = codes "round" ∷ codes "0" ∷ []; formed = (lit< tt, refl); spelled = refl }

description_said : IsLine (codes "describe counter \"a\" seconds \"b\"") (Setup (Describe Counter (codes "a") (Some Seconds) (codes "b")))
unfolding encode_utf8
description_said = record {
  words = codes "describe" ∷ codes "counter" ∷ codes "\"a\"" ∷ codes "seconds" ∷ codes "\"b\"" ∷ [];
  formed = ((codes "a", (refl, refl)), (codes "b", (refl, refl)), refl);
  spelled = refl;
}

settings_script : IsScript (lines_of settings_bytes) with_settings
settings_script = record {
  said = record { mode = Some true; kind = Some true };
  meant = (refl, refl);
  each = (native_said, (naming_said, (units_said, (series_limit_said, (limit_said, (mode_said, (prefix_said, (tag_said, (kind_said, (round_said, (description_said, tt)))))))))));
}

settings_valid : IsValid with_settings
settings_valid = record {
  moments = IsNonDecreasingBy-short (λ (r : RoundText). r.moment) (described_round ∷ []) (lit≤ tt);
  handles = (All-nil (HasHandle []), tt);
  registrations = lit≤ tt;
  samples = lit≤ tt;
  heads = λ i j d before within. absurd (omega (arith, within));
  overflow = All-nil (SparesOverflow with_settings.settings);
}

pub settings_script_of : IsScriptOf settings_bytes with_settings
settings_script_of = (settings_script, settings_valid)

pub empty_script_of : IsScriptOf [] empty
empty_script_of = (
  record { said = record { mode = None; kind = None }; meant = (refl, refl); each = tt },
  record {
    moments = λ i j d before within. absurd (omega (arith, within));
    handles = tt;
    registrations = lit≤ tt;
    samples = lit≤ tt;
    heads = λ i j d before within. absurd (omega (arith, within));
    overflow = All-nil (SparesOverflow empty.settings);
  },
)

-- ---- a limit on series

overflow_said : IsLine (codes "register counter \"c\" \"overflow\"=\"true\"") (Setup (Register Counter overflow_key))
unfolding encode_utf8
overflow_said = record {
  words = codes "register" ∷ codes "counter" ∷ codes "\"c\"" ∷ codes "\"overflow\"=\"true\"" ∷ [];
  formed = (
    ((codes "c", (refl, refl)), All-cons IsLabelUtf8 (record { key = codes "overflow"; value = codes "true" }) [] ((codes "overflow", (refl, refl)), (codes "true", (refl, refl))) (All-nil IsLabelUtf8)),
    refl,
  );
  spelled = refl;
}

counts_said : IsLine (codes "register counter \"series_overflow\"") (Setup (Register Counter counts_key))
unfolding encode_utf8
counts_said = record { words = codes "register" ∷ codes "counter" ∷ codes "\"series_overflow\"" ∷ []; formed = (((codes "series_overflow", (refl, refl)), All-nil IsLabelUtf8), refl); spelled = refl }

hyphen_said : IsLine (codes "register counter \"series-overflow\"") (Setup (Register Counter hyphen_key))
unfolding encode_utf8
hyphen_said = record { words = codes "register" ∷ codes "counter" ∷ codes "\"series-overflow\"" ∷ []; formed = (((codes "series-overflow", (refl, refl)), All-nil IsLabelUtf8), refl); spelled = refl }

unlimited_script : IsScript (lines_of unlimited_bytes) unlimited
unlimited_script = record { said = record { mode = None; kind = None }; meant = (refl, refl); each = (round_said, (overflow_said, (counts_said, tt))) }

-- their names differ
unlimited_apart : PrintApart [] (record { kind = Counter; key = overflow_key }) (record { kind = Counter; key = counts_key })
unlimited_apart = λ kind head.
    let names : codes "c" ≡ codes "series_overflow" =
    sym (sanitized_metric_name-of_name (codes "c") refl) ∙ ap (λ (h : Head). h.name) head ∙ sanitized_metric_name-of_name (codes "series_overflow") refl in
    let first : 99 ≡ 115 = ap (λ l. get_or l 0 0) names in
    absurd (omega (arith, first))

unlimited_valid : IsValid unlimited
unlimited_valid = record {
  moments = IsNonDecreasingBy-short (λ (r : RoundText). r.moment) (unlimited_round ∷ []) (lit≤ tt);
  handles = (All-nil (HasHandle (registered_in unlimited_round)), tt);
  registrations = lit≤ tt;
  samples = lit≤ tt;
  heads = all_pairs_push (PrintApart []) (record { kind = Counter; key = overflow_key } ∷ []) (record { kind = Counter; key = counts_key })
      (λ i j d before within. absurd (no_pair i j before within)) (λ k d within. at k d within);
  overflow = All-cons (SparesOverflow unlimited.settings) (record { kind = Counter; key = overflow_key }) (record { kind = Counter; key = counts_key } ∷ []) tt
      (All-cons (SparesOverflow unlimited.settings) (record { kind = Counter; key = counts_key }) [] tt (All-nil (SparesOverflow unlimited.settings)));
}
  where
    at : (k : ℕ) (d : Registration) → k < 1 → PrintApart [] (get_or (record { kind = Counter; key = overflow_key } ∷ []) k d) (record { kind = Counter; key = counts_key })
    at zero d within = unlimited_apart
    at (suc k) d within = absurd (omega (arith, within))

pub unlimited_script_of : IsScriptOf unlimited_bytes unlimited
unlimited_script_of = (unlimited_script, unlimited_valid)

-- the lines before the register line
abbrev limited : ScriptText
limited = record { settings = record (only_globals []) { series_limit = Some 1 }; rounds = record { moment = 0; setup = []; calls = [] } ∷ [] }

abbrev limited_lines : List (List ℕ)
limited_lines = codes "series-limit 1" ∷ codes "round 0" ∷ []

limit_of_one : IsLine (codes "series-limit 1") (Header (SeriesLimit 1))
unfolding digits
limit_of_one = record { words = codes "series-limit" ∷ codes "1" ∷ []; formed = (lit≤ tt, lit< tt, refl); spelled = refl }

limited_valid : Valid nothing_said limited_lines limited
limited_valid = (
  ((refl, refl), (limit_of_one, (round_said, tt))),
  record {
    moments = IsNonDecreasingBy-short (λ (r : RoundText). r.moment) limited.rounds (lit≤ tt);
    handles = (All-nil (HasHandle []), tt);
    registrations = lit≤ tt;
    samples = lit≤ tt;
    heads = λ i j d before within. absurd (omega (arith, within));
    overflow = All-nil (SparesOverflow limited.settings);
  },
)

-- a register line behind them is the first bad line where its key is no other than that of an overflow series
third_bad : (bytes line : List ℕ) (key : KeyText) → lines_of bytes ≡ limited_lines ++ line ∷ [] → IsLine line (Setup (Register Counter key)) → ¬ IsNoOverflow [] key → IsFirstBadLine bytes 3
third_bad bytes line key are is_line overflow = record {
  is_line = (lit≤ tt, omega (arith, ap length are));
  bad = subst (λ ls. ¬ AreValidLines (take 3 ls)) (sym are) (only_next nothing_said limited_lines line limited (Setup (Register Counter key)) limited_valid is_line (λ later new h. overflow h.1.spares));
  first = λ k before. subst (λ ls. AreValidLines (take k ls)) (sym are) (fewer k before);
}
  where
    both : AreValidLines limited_lines
    both = (limited, script_of nothing_said limited_lines limited limited_valid.0, limited_valid.1)

    fewer : (k : ℕ) → k < 3 → AreValidLines (take k (limited_lines ++ line ∷ []))
    fewer zero before = beginnings limited_lines 0 both
    fewer (suc zero) before = beginnings limited_lines 1 both
    fewer (suc (suc zero)) before = both
    fewer (suc (suc (suc k))) before = absurd (omega (arith, before))

pub overflow_bad : IsFirstBadLine overflow_bytes 3
overflow_bad = third_bad overflow_bytes (codes "register counter \"c\" \"overflow\"=\"true\"") overflow_key refl overflow_said
    (λ h. h.head (ap (overflow_head []) (sym (sanitized_metric_name-of_name (codes "c") refl))))

-- bytes of ASCII are their characters
ascii : (text : List ℕ) → list_all (λ b. nat_lt b 128) text ≡ true → IsAscii text
ascii [] all = IsAscii-nil
ascii (b ∷ text) all = let parts = and_parts (nat_lt b 128) (list_all (λ b. nat_lt b 128) text) all in IsAscii-cons b text (ltb-true b 128 parts.0) (ascii text parts.1)

pub counts_bad : IsFirstBadLine counts_bytes 3
counts_bad = third_bad counts_bytes (codes "register counter \"series-overflow\"") hyphen_key refl hyphen_said
    (λ h. h.name (ap (sanitized_characters begins_metric_name) (chars-IsAscii (codes "series-overflow") (ascii (codes "series-overflow") refl))))

-- one line that says nothing is the first bad line
first_bad : (bytes line : List ℕ) → lines_of bytes ≡ line ∷ [] → ((says : ScriptLine) → ¬ IsLine line says) → IsFirstBadLine bytes 1
first_bad bytes line is none = record {
  is_line = (lit≤ tt, omega (arith, ap length is));
  bad = subst (λ ls. ¬ AreValidLines (take 1 ls)) (sym is) (no_next [] line none);
  first = λ k before. subst (λ ls. AreValidLines (take k ls)) (sym is) (no_line k before);
}
  where
    no_line : (k : ℕ) → k < 1 → AreValidLines (take k (line ∷ []))
    no_line zero before = (empty, empty_script_of.0, empty_script_of.1)
    no_line (suc k) before = absurd (omega (arith, before))

pub no_limit_bad : IsFirstBadLine (codes "series-limit 0\n") 1
unfolding series_limit_at positive_at number_at behind digits
no_limit_bad = first_bad (codes "series-limit 0\n") (codes "series-limit 0") refl (no_series_limit (codes "ries-limit 0") refl)

pub past_limit_bad : IsFirstBadLine (codes "series-limit 4294967296\n") 1
unfolding series_limit_at positive_at number_at behind digits
past_limit_bad = first_bad (codes "series-limit 4294967296\n") (codes "series-limit 4294967296") refl (no_series_limit (codes "ries-limit 4294967296") refl)

-- a series-limit line may stand behind the line
abbrev Before : HeaderLine → Type 0
Before earlier = least_behind earlier ≤ place (SeriesLimit 1)

-- a series-limit line behind one header line that it may not follow
second_bad : (bytes line : List ℕ) (header : HeaderLine) (old : ScriptText) → lines_of bytes ≡ line ∷ codes "series-limit 1" ∷ [] → Valid nothing_said (line ∷ []) old
    → header_lines old.settings nothing_said ≡ header ∷ [] → place (SeriesLimit 1) < least_behind header → IsFirstBadLine bytes 2
second_bad bytes line header old are valid headers past = record {
  is_line = (lit≤ tt, omega (arith, ap length are));
  bad = subst (λ ls. ¬ AreValidLines (take 2 ls)) (sym are) (only_next nothing_said (line ∷ []) (codes "series-limit 1") old (Header (SeriesLimit 1)) valid limit_of_one none);
  first = λ k before. subst (λ ls. AreValidLines (take k ls)) (sym are) (fewer k before);
}
  where
    none : (later : Said) (new : ScriptText) → ¬ IsNext nothing_said old (Header (SeriesLimit 1)) later new
    none later new h = omega (arith, past, All-head Before header [] (subst (All Before) headers h.order))

    one : AreValidLines (line ∷ [])
    one = (old, script_of nothing_said (line ∷ []) old valid.0, valid.1)

    fewer : (k : ℕ) → k < 2 → AreValidLines (take k (line ∷ codes "series-limit 1" ∷ []))
    fewer zero before = beginnings (line ∷ []) 0 one
    fewer (suc zero) before = one
    fewer (suc (suc k)) before = absurd (omega (arith, before))

-- the script of one header line
abbrev alone : SettingsText → ScriptText
alone settings = record { settings = settings; rounds = [] }

alone_valid : (settings : SettingsText) → IsValid (alone settings)
alone_valid settings = record {
  moments = λ i j d before within. absurd (omega (arith, within));
  handles = tt;
  registrations = lit≤ tt;
  samples = lit≤ tt;
  heads = λ i j d before within. absurd (omega (arith, within));
  overflow = All-nil (SparesOverflow settings);
}

pub twice_bad : IsFirstBadLine (codes "series-limit 1\nseries-limit 1\n") 2
twice_bad =
    let settings : SettingsText = record (only_globals []) { series_limit = Some 1 } in
    second_bad (codes "series-limit 1\nseries-limit 1\n") (codes "series-limit 1") (SeriesLimit 1) (alone settings) refl (((refl, refl), (limit_of_one, tt)), alone_valid settings) refl (lit< tt)

pub late_bad : IsFirstBadLine (codes "dsd-limit 512\nseries-limit 1\n") 2
late_bad =
    let settings : SettingsText = record (only_globals []) { dsd_limit = Some 512 } in
    second_bad (codes "dsd-limit 512\nseries-limit 1\n") (codes "dsd-limit 512") (Limit 512) (alone settings) refl (((refl, refl), (limit_said, tt)), alone_valid settings) refl (lit< tt)
