use Rattle.std.proofs.Common.{◌≡◌, ℕ, Bool, List, [], ◌++◌, refl, sym, ap, subst, ◌∙◌, append-nil}
use Rattle.std.specs.Prelude.{flat_map, Option, None, string_bytes}
use Rattle.std.specs.Option.{option_copied}
use Rattle.std.proofs.lemmas.List.Elements.{recursion_from_All}
use Rattle.std.proofs.lemmas.Result.{err_from_is_err_and}
use Rattle.metrics_core.specs.Keys.{LabelText}
use Rattle.metrics_core.specs.Outside.{GrewBy, GrewByPrefix}
use Rattle.metrics_core.proofs.Grown.{grew_none}
use Rattle.prom_format.specs.LabelSets.{labels_of}
use Rattle.prom_format.specs.Pages.{body_text}
use Rattle.metrics_registry.specs.Live.{LiveSeries}
use Rattle.prom_format.specs.declared.families.FamilyType.TheVariants as types
use Rattle.distributions.specs.Kinds.{DistributionRules}
use Rattle.prom_exporter.specs.Builder.{with_globals}
use Rattle.prom_exporter.specs.contracts.state.PrometheusState.{the_view}
use Rattle.prom_exporter.specs.Naming.{NamingText}
use Rattle.prom_exporter.specs.Families.{ExporterSettings, counter_suffix, overflow_families}
use Rattle.prom_exporter.specs.Kept.{FitsSettings, HaveKinds}
use Rattle.prom_exporter.specs.Exporter.{Exporter, Cells, written_body, SharedCounter, SharedGauge}
use Rattle.prom_exporter.specs.Rows.{RowsText, kept_block, keys_of, rows_of}
use Rattle.prom_exporter.specs.Sampled.{Sampled}
use Rattle.prom_exporter.specs.SampledRows.{sampled_block, HasRowsOf}
use Rattle.prom_exporter.specs.Sending.{IsSent}
use Rattle.prom_exporter.specs.Values.{counter_shown, gauge_shown, value_families}
use Rattle.prom_exporter.proofs.KeptRows.{blocks-kept}
use Rattle.prom_exporter.proofs.Progress.{sent_none, sent_nothing, sent_all, sent_prefix, sent-append}
use Rattle.prom_exporter.proofs.SampledPages.{HasKind, blocks-sampled}
use Rattle.prom_exporter.proofs.ValuePages.{body-values, naming_of, counter_families, gauge_families, sampled_families}
use Rattle.prom_exporter.proofs.Written.{prefix_of_more}
use Rattle.prom_exporter.proofs.state.PrometheusState.write_body.Goals as goal

-- the page is the blocks of what is kept for the counters, for the gauges and for the histograms, and that of what was redirected
page_is : (moment : ℕ) (e exporter : Exporter) (counters gauges sampled : List ℕ) → e ≡ exporter
    → counters ≡ body_text (counter_families e.settings moment e e.series) → gauges ≡ body_text (gauge_families e.settings moment e e.series)
    → sampled ≡ body_text (sampled_families e.settings moment e e.series)
    → written_body moment exporter ≡ ((counters ++ gauges) ++ sampled) ++ body_text (overflow_families e.redirected)
page_is moment e exporter counters gauges sampled is counted gauged drawn =
    ap (written_body moment) (sym is) ∙ body-values e.settings moment e e.series ∙ sym (λ j. ((counted j ++ gauged j) ++ drawn j) ++ body_text (overflow_families e.redirected))

counter_blocks : (naming used : NamingText) (suffix lent : Option (List ℕ)) (globals : List LabelText) (rows : RowsText) (live found : List (LiveSeries SharedCounter)) → used ≡ naming → lent ≡ suffix → rows ≡ rows_of globals (keys_of live) → found ≡ live
    → flat_map (kept_block counter_shown used lent types.Counter rows.label_sets found) rows.families ≡ body_text (value_families naming suffix types.Counter counter_shown globals live)
counter_blocks naming used suffix lent globals rows live found named given kept same =
    (λ j. flat_map (kept_block counter_shown (named j) (given j) types.Counter (kept j).label_sets (same j)) (kept j).families) ∙ blocks-kept naming suffix counter_shown globals types.Counter live

gauge_blocks : (naming used : NamingText) (globals : List LabelText) (rows : RowsText) (live found : List (LiveSeries SharedGauge)) → used ≡ naming → rows ≡ rows_of globals (keys_of live) → found ≡ live
    → flat_map (kept_block gauge_shown used None types.Gauge rows.label_sets found) rows.families ≡ body_text (value_families naming None types.Gauge gauge_shown globals live)
gauge_blocks naming used globals rows live found named kept same =
    (λ j. flat_map (kept_block gauge_shown (named j) None types.Gauge (kept j).label_sets (same j)) (kept j).families) ∙ blocks-kept naming None gauge_shown globals types.Gauge live

sampled_blocks : (settings : ExporterSettings) (used : NamingText) (moment : ℕ) (e : Exporter) (series : Cells) (distributions : DistributionRules) (rows : RowsText) (found : List (LiveSeries Sampled)) → used ≡ naming_of settings moment e series → FitsSettings settings distributions → HaveKinds settings series.histograms
    → HasRowsOf settings.globals found rows → found ≡ series.histograms
    → flat_map (sampled_block used settings.globals moment found distributions) rows.families ≡ body_text (sampled_families settings moment e series)
sampled_blocks settings used moment e series distributions rows found named fits kinds kept same =
    (λ j. flat_map (sampled_block (named j) settings.globals moment (same j) distributions) (kept j).families)
    ∙ ap (λ live. flat_map (sampled_block (naming_of settings moment e series) settings.globals moment series.histograms distributions) (rows_of settings.globals (keys_of live)).families) same
    ∙ blocks-sampled settings moment e series distributions fits (recursion_from_All (HasKind settings) series.histograms kinds)

prefix_longer : (a b : Option (List ℕ)) (some rest : List ℕ) → GrewByPrefix a b some → GrewByPrefix a b (some ++ rest)
prefix_longer a b some rest prefix = prefix_of_more a b some rest (some ++ rest) refl prefix

-- what was redirected waits too
redirected_too : (start now : Option (List ℕ)) (waiting bytes waits more : List ℕ) → IsSent start now waiting bytes → waits ≡ waiting ++ more → IsSent start now waits (bytes ++ more)
redirected_too start now waiting bytes waits more so_far is = subst (λ l. IsSent start now l (bytes ++ more)) (sym is) (sent-append start now waiting bytes so_far more)

-- nothing waits at first
starts : (told : Option (List ℕ)) (buffer : List ℕ) → buffer ≡ [] → IsSent told told buffer []
starts told buffer empty = rw empty (sent_none told)

pub returns-in_err-catch_up-clause-prefix : goal.returns-in_err-catch_up-clause-prefix
returns-in_err-catch_up-clause-prefix g c =
    let refusal = err_from_is_err_and c.from_residual.result c.from_residual.ensures.1 in
    rw refusal.1 (grew_none _ _)

pub returns-in_err-catch_up-2-clause-prefix : goal.returns-in_err-catch_up-2-clause-prefix
returns-in_err-catch_up-2-clause-prefix g c =
    let refusal = err_from_is_err_and c.from_residual-in_err-catch_up-2.result c.from_residual-in_err-catch_up-2.ensures.1 in
    rw refusal.1 (grew_none _ _)

pub returns-in_err-catch_up-3-clause-prefix : goal.returns-in_err-catch_up-3-clause-prefix
returns-in_err-catch_up-3-clause-prefix g c =
    let refusal = err_from_is_err_and c.from_residual-in_err-catch_up-3.result c.from_residual-in_err-catch_up-3.ensures.1 in
    rw refusal.1 (grew_none _ _)

pub returns-in_err-write_families-clause-prefix : goal.returns-in_err-write_families-clause-prefix
returns-in_err-write_families-clause-prefix g c =
    let refusal = err_from_is_err_and c.from_residual-in_err-write_families.result c.from_residual-in_err-write_families.ensures.1 in
    let globals = labels_of c.self.inside.globals.entries in
    let settings = with_globals c.self.inside.settings globals in
    let series = c.self.inside.series in
    let naming = naming_of settings c.args.moment (the_view c.self.inside) series in
    let used : NamingText = record { units = c.units.result; published = c.self.inside.descriptions.published } in
    let named : used ≡ naming = ap (λ (u : Bool). record { units = u; published = c.self.inside.descriptions.published }) c.units.ensures in
    let told = g.K.Sink.written c.args.sink.now in
    let counted = counter_blocks naming used (counter_suffix settings) (option_copied c.counter_suffix-suffix.result) globals c.catch_up.new.self series.counters c.counters-counters.result named c.counter_suffix-suffix.ensures (c.in_ok-catch_up.ensures.all ∙ ap (λ l. rows_of globals (keys_of l)) c.counters-counters.ensures) c.counters-counters.ensures in
    let page = (page_is c.args.moment (the_view c.self.inside) c.args.self.now _ _ _ c.self.view_is counted refl refl) in
    let P : List ℕ → Type 0 = GrewByPrefix told (g.K.Sink.written c.write_families.new.sink) in
    let blocks = c.in_err-write_families.ensures.sends.1 told [] (starts told _ c.new-buffer.ensures.bytes) in
    rw refusal.1 (subst P (sym page) (prefix_longer told _ _ _ (prefix_longer told _ _ _ (prefix_longer told _ _ _ blocks))))

pub returns-in_err-write_families-2-clause-prefix : goal.returns-in_err-write_families-2-clause-prefix
returns-in_err-write_families-2-clause-prefix g c =
    let refusal = err_from_is_err_and c.from_residual-in_err-write_families-2.result c.from_residual-in_err-write_families-2.ensures.1 in
    let globals = labels_of c.self.inside.globals.entries in
    let settings = with_globals c.self.inside.settings globals in
    let series = c.self.inside.series in
    let naming = naming_of settings c.args.moment (the_view c.self.inside) series in
    let used : NamingText = record { units = c.units.result; published = c.self.inside.descriptions.published } in
    let named : used ≡ naming = ap (λ (u : Bool). record { units = u; published = c.self.inside.descriptions.published }) c.units.ensures in
    let told = g.K.Sink.written c.args.sink.now in
    let counted = counter_blocks naming used (counter_suffix settings) (option_copied c.counter_suffix-suffix.result) globals c.catch_up.new.self series.counters c.counters-counters.result named c.counter_suffix-suffix.ensures (c.in_ok-catch_up.ensures.all ∙ ap (λ l. rows_of globals (keys_of l)) c.counters-counters.ensures) c.counters-counters.ensures in
    let gauged = gauge_blocks naming used globals c.catch_up-2.new.self series.gauges c.gauges-gauges.result named (c.in_ok-catch_up-2.ensures.all ∙ ap (λ l. rows_of globals (keys_of l)) c.gauges-gauges.ensures) c.gauges-gauges.ensures in
    let page = (page_is c.args.moment (the_view c.self.inside) c.args.self.now _ _ _ c.self.view_is counted gauged refl) in
    let P : List ℕ → Type 0 = GrewByPrefix told (g.K.Sink.written c.write_families-2.new.sink) in
    let sent = c.in_ok-write_families.ensures.sends.0 told [] (starts told _ c.new-buffer.ensures.bytes) in
    let blocks = c.in_err-write_families-2.ensures.sends.1 told _ sent in
    rw refusal.1 (subst P (sym page) (prefix_longer told _ _ _ (prefix_longer told _ _ _ blocks)))

pub returns-in_err-write_distributions-clause-prefix : goal.returns-in_err-write_distributions-clause-prefix
returns-in_err-write_distributions-clause-prefix g c =
    let refusal = err_from_is_err_and c.from_residual-in_err-write_distributions.result c.from_residual-in_err-write_distributions.ensures.1 in
    let globals = labels_of c.self.inside.globals.entries in
    let settings = with_globals c.self.inside.settings globals in
    let series = c.self.inside.series in
    let naming = naming_of settings c.args.moment (the_view c.self.inside) series in
    let used : NamingText = record { units = c.units.result; published = c.self.inside.descriptions.published } in
    let named : used ≡ naming = ap (λ (u : Bool). record { units = u; published = c.self.inside.descriptions.published }) c.units.ensures in
    let told = g.K.Sink.written c.args.sink.now in
    let counted = counter_blocks naming used (counter_suffix settings) (option_copied c.counter_suffix-suffix.result) globals c.catch_up.new.self series.counters c.counters-counters.result named c.counter_suffix-suffix.ensures (c.in_ok-catch_up.ensures.all ∙ ap (λ l. rows_of globals (keys_of l)) c.counters-counters.ensures) c.counters-counters.ensures in
    let gauged = gauge_blocks naming used globals c.catch_up-2.new.self series.gauges c.gauges-gauges.result named (c.in_ok-catch_up-2.ensures.all ∙ ap (λ l. rows_of globals (keys_of l)) c.gauges-gauges.ensures) c.gauges-gauges.ensures in
    let drawn = sampled_blocks settings used c.args.moment (the_view c.self.inside) series c.self.inside.distributions c.catch_up-3.new.self c.histograms-histograms.result named c.self.invariant.kinds c.self.invariant.sampled c.in_ok-catch_up-3.ensures.all c.histograms-histograms.ensures in
    let page = (page_is c.args.moment (the_view c.self.inside) c.args.self.now _ _ _ c.self.view_is counted gauged drawn) in
    let P : List ℕ → Type 0 = GrewByPrefix told (g.K.Sink.written c.write_distributions.new.sink) in
    let sent = c.in_ok-write_families-2.ensures.sends.0 told _ (c.in_ok-write_families.ensures.sends.0 told [] (starts told _ c.new-buffer.ensures.bytes)) in
    rw refusal.1 (subst P (sym page) (prefix_longer told _ _ _ (c.in_err-write_distributions.ensures.prefix globals c.in_ok-catch_up-3.ensures.all told _ sent)))

pub returns-in_err-push_redirections-clause-prefix : goal.returns-in_err-push_redirections-clause-prefix
returns-in_err-push_redirections-clause-prefix g c =
    let refusal = err_from_is_err_and c.from_residual-in_err-push_redirections.result c.from_residual-in_err-push_redirections.ensures.1 in
    let globals = labels_of c.self.inside.globals.entries in
    let settings = with_globals c.self.inside.settings globals in
    let series = c.self.inside.series in
    let naming = naming_of settings c.args.moment (the_view c.self.inside) series in
    let used : NamingText = record { units = c.units.result; published = c.self.inside.descriptions.published } in
    let named : used ≡ naming = ap (λ (u : Bool). record { units = u; published = c.self.inside.descriptions.published }) c.units.ensures in
    let told = g.K.Sink.written c.args.sink.now in
    let counted = counter_blocks naming used (counter_suffix settings) (option_copied c.counter_suffix-suffix.result) globals c.catch_up.new.self series.counters c.counters-counters.result named c.counter_suffix-suffix.ensures (c.in_ok-catch_up.ensures.all ∙ ap (λ l. rows_of globals (keys_of l)) c.counters-counters.ensures) c.counters-counters.ensures in
    let gauged = gauge_blocks naming used globals c.catch_up-2.new.self series.gauges c.gauges-gauges.result named (c.in_ok-catch_up-2.ensures.all ∙ ap (λ l. rows_of globals (keys_of l)) c.gauges-gauges.ensures) c.gauges-gauges.ensures in
    let drawn = sampled_blocks settings used c.args.moment (the_view c.self.inside) series c.self.inside.distributions c.catch_up-3.new.self c.histograms-histograms.result named c.self.invariant.kinds c.self.invariant.sampled c.in_ok-catch_up-3.ensures.all c.histograms-histograms.ensures in
    let page = (page_is c.args.moment (the_view c.self.inside) c.args.self.now _ _ _ c.self.view_is counted gauged drawn) in
    let P : List ℕ → Type 0 = GrewByPrefix told (g.K.Sink.written c.write_distributions.new.sink) in
    let sent = c.in_ok-write_families-2.ensures.sends.0 told _ (c.in_ok-write_families.ensures.sends.0 told [] (starts told _ c.new-buffer.ensures.bytes)) in
    rw refusal.1 (subst P (sym page) (sent_nothing _ _ _ _ (c.in_ok-write_distributions.ensures.sent globals c.in_ok-catch_up-3.ensures.all told _ sent) _))

pub returns-in_err-write_whole-clause-prefix : goal.returns-in_err-write_whole-clause-prefix
returns-in_err-write_whole-clause-prefix g c =
    let refusal = err_from_is_err_and c.from_residual-in_err-write_whole.result c.from_residual-in_err-write_whole.ensures.1 in
    let globals = labels_of c.self.inside.globals.entries in
    let settings = with_globals c.self.inside.settings globals in
    let series = c.self.inside.series in
    let naming = naming_of settings c.args.moment (the_view c.self.inside) series in
    let used : NamingText = record { units = c.units.result; published = c.self.inside.descriptions.published } in
    let named : used ≡ naming = ap (λ (u : Bool). record { units = u; published = c.self.inside.descriptions.published }) c.units.ensures in
    let told = g.K.Sink.written c.args.sink.now in
    let counted = counter_blocks naming used (counter_suffix settings) (option_copied c.counter_suffix-suffix.result) globals c.catch_up.new.self series.counters c.counters-counters.result named c.counter_suffix-suffix.ensures (c.in_ok-catch_up.ensures.all ∙ ap (λ l. rows_of globals (keys_of l)) c.counters-counters.ensures) c.counters-counters.ensures in
    let gauged = gauge_blocks naming used globals c.catch_up-2.new.self series.gauges c.gauges-gauges.result named (c.in_ok-catch_up-2.ensures.all ∙ ap (λ l. rows_of globals (keys_of l)) c.gauges-gauges.ensures) c.gauges-gauges.ensures in
    let drawn = sampled_blocks settings used c.args.moment (the_view c.self.inside) series c.self.inside.distributions c.catch_up-3.new.self c.histograms-histograms.result named c.self.invariant.kinds c.self.invariant.sampled c.in_ok-catch_up-3.ensures.all c.histograms-histograms.ensures in
    let page = (page_is c.args.moment (the_view c.self.inside) c.args.self.now _ _ _ c.self.view_is counted gauged drawn) in
    let P : List ℕ → Type 0 = GrewByPrefix told (g.K.Sink.written c.write_whole.new.sink) in
    let sent = c.in_ok-write_families-2.ensures.sends.0 told _ (c.in_ok-write_families.ensures.sends.0 told [] (starts told _ c.new-buffer.ensures.bytes)) in
    let all = redirected_too told _ _ _ _ (body_text (overflow_families c.self.inside.redirections.entries)) (c.in_ok-write_distributions.ensures.sent globals c.in_ok-catch_up-3.ensures.all told _ sent) c.in_ok-push_redirections.ensures in
    let last : GrewByPrefix (g.K.Sink.written c.write_distributions.new.sink) (g.K.Sink.written c.write_whole.new.sink) (string_bytes c.push_redirections.new.buffer) = rw (← c.as_bytes.ensures.value) c.in_err-write_whole.ensures.prefix in
    rw refusal.1 (subst P (append-nil _ ∙ sym page) (sent_prefix _ _ _ _ all _ last []))

pub returns-clause-body : goal.returns-clause-body
returns-clause-body g c =
    let globals = labels_of c.self.inside.globals.entries in
    let settings = with_globals c.self.inside.settings globals in
    let series = c.self.inside.series in
    let naming = naming_of settings c.args.moment (the_view c.self.inside) series in
    let used : NamingText = record { units = c.units.result; published = c.self.inside.descriptions.published } in
    let named : used ≡ naming = ap (λ (u : Bool). record { units = u; published = c.self.inside.descriptions.published }) c.units.ensures in
    let told = g.K.Sink.written c.args.sink.now in
    let counted = counter_blocks naming used (counter_suffix settings) (option_copied c.counter_suffix-suffix.result) globals c.catch_up.new.self series.counters c.counters-counters.result named c.counter_suffix-suffix.ensures (c.in_ok-catch_up.ensures.all ∙ ap (λ l. rows_of globals (keys_of l)) c.counters-counters.ensures) c.counters-counters.ensures in
    let gauged = gauge_blocks naming used globals c.catch_up-2.new.self series.gauges c.gauges-gauges.result named (c.in_ok-catch_up-2.ensures.all ∙ ap (λ l. rows_of globals (keys_of l)) c.gauges-gauges.ensures) c.gauges-gauges.ensures in
    let drawn = sampled_blocks settings used c.args.moment (the_view c.self.inside) series c.self.inside.distributions c.catch_up-3.new.self c.histograms-histograms.result named c.self.invariant.kinds c.self.invariant.sampled c.in_ok-catch_up-3.ensures.all c.histograms-histograms.ensures in
    let page = (page_is c.args.moment (the_view c.self.inside) c.args.self.now _ _ _ c.self.view_is counted gauged drawn) in
    let P : List ℕ → Type 0 = GrewBy told (g.K.Sink.written c.write_whole.new.sink) in
    let sent = c.in_ok-write_families-2.ensures.sends.0 told _ (c.in_ok-write_families.ensures.sends.0 told [] (starts told _ c.new-buffer.ensures.bytes)) in
    let all = redirected_too told _ _ _ _ (body_text (overflow_families c.self.inside.redirections.entries)) (c.in_ok-write_distributions.ensures.sent globals c.in_ok-catch_up-3.ensures.all told _ sent) c.in_ok-push_redirections.ensures in
    let last : GrewBy (g.K.Sink.written c.write_distributions.new.sink) (g.K.Sink.written c.write_whole.new.sink) (string_bytes c.push_redirections.new.buffer) = rw (← c.as_bytes.ensures.value) c.in_ok-write_whole.ensures.whole in
    subst P (sym page) (sent_all _ _ _ _ all _ last)
