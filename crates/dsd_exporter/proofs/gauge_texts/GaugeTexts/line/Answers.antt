use Rattle.std.proofs.Common.{rules, ◌≡◌, Some, sym, subst, ◌∙◌}
use Rattle.std.specs.Prelude.{slice_get}
use Rattle.dsd_exporter.specs.GaugeTexts.{gauge_text, prefix_text}
use Rattle.dsd_exporter.proofs.GaugeTexts.{a_gauge_line, text_at}
use Rattle.dsd_exporter.proofs.gauge_texts.GaugeTexts.line.Goals as goal

pub returns-in-Some-clause-is : goal.returns-in-Some-clause-is
returns-in-Some-clause-is c = λ key at.
    let inside = c.self.inside in
    let held = text_at (prefix_text inside.prefix) inside.tags.items inside.keys inside.lines.items c.deref.result.now c.args.place c.in_ok-line.line.now c.in-Some.held
    c.self.invariant c.deref.ensures.value c.in_ok-line.ensures.lookup.0 c.in_ok-line.ensures.lookup.1 c.in-Some.is in
    let own : slice_get inside.keys c.args.place ≡ Some key = subst (λ ks. slice_get ks c.args.place ≡ Some key) (sym c.self.view_is) at in
    let same : held.key ≡ key = cc (held.at, own) in
    let (prefix, tags) = c.if-not-are_for.ensures in
    let tags_are = sym c.as_slice.ensures.value ∙ tags in
    let number : c.in-Some.held.0 ≡ c.args.value.0 = search rules in
    c.as_slice-in-Some.ensures.value ∙ held.is ∙ (λ j. gauge_text (prefix j) (tags_are j) (same j) (number j))

pub returns-in-Some-clause-some : goal.returns-in-Some-clause-some
returns-in-Some-clause-some c =
    let inside = c.self.inside in
    let held = text_at (prefix_text inside.prefix) inside.tags.items inside.keys inside.lines.items c.deref.result.now c.args.place c.in_ok-line.line.now c.in-Some.held
    c.self.invariant c.deref.ensures.value c.in_ok-line.ensures.lookup.0 c.in_ok-line.ensures.lookup.1 c.in-Some.is in
    a_gauge_line (prefix_text inside.prefix) inside.tags.items held.key c.in-Some.held.0 c.as_slice-in-Some.result.now (c.as_slice-in-Some.ensures.value ∙ held.is)
