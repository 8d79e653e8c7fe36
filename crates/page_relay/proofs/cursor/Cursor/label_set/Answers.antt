use Rattle.std.proofs.Common.{◌≡◌, [], ◌∷◌, ◌++◌, map, true, false, ◌∙◌, ap, sym, subst, rules}
use Rattle.std.specs.Option.{is_none, is_some}
use Rattle.std.proofs.lemmas.List.{map_push}
use Rattle.page_relay.specs.Reading.{TakesLabelSet}
use Rattle.page_relay.specs.Values.{label_of}
use Rattle.page_relay.proofs.Options.{absent, present, not_some, is_present}
use Rattle.page_relay.proofs.Labels.{SetSoFar, no_next_label, set_ends_nowhere, set_taken, set_grows}
use Rattle.page_relay.proofs.cursor.Cursor.label_set.Goals as goal

pub returns-in_default : goal.returns-in_default
returns-in_default c = no_next_label c.args.self.now.rest.now (map label_of c.loop-labels.labels.items) c.loop-labels.self.rest.now c.loop-labels.invariant (rw c.in_default.is at c.in_ok-label.ensures)

pub returns-then-is_some-2 : goal.returns-then-is_some-2
returns-then-is_some-2 c =
    let done = map label_of c.loop-labels.labels.items in
    let some : is_some c.literal-in-loop-labels.result ≡ true = search rules in
    let pushed : map label_of c.push.new.self.items ≡ done ++ label_of c.in-Some.label ∷ [] = ap (map label_of) c.in_ok-push.ensures.items ∙ map_push label_of c.loop-labels.labels.items c.in-Some.label in
    subst (λ labels. TakesLabelSet c.args.self.now.rest.now labels c.literal-in-loop-labels.new.self.rest.now) (sym pushed)
    (set_taken c.args.self.now.rest.now done c.loop-labels.self.rest.now (label_of c.in-Some.label) c.label.new.self.rest.now c.literal-in-loop-labels.new.self.rest.now c.loop-labels.invariant
    (rw c.in-Some.is at c.in_ok-label.ensures) (is_present _ _ c.literal-in-loop-labels.result some c.literal-in-loop-labels.ensures.taken))

pub returns-then-is_none-2 : goal.returns-then-is_none-2
returns-then-is_none-2 c =
    let no_end : is_some c.literal-in-loop-labels.result ≡ false = search rules in
    let no_comma : is_none c.literal-in-loop-labels-2.result ≡ true = search rules in
    let stays : c.literal-in-loop-labels.new.self.rest.now ≡ c.label.new.self.rest.now = search rules in
    set_ends_nowhere c.args.self.now.rest.now (map label_of c.loop-labels.labels.items) c.loop-labels.self.rest.now (label_of c.in-Some.label) c.label.new.self.rest.now c.loop-labels.invariant
    (rw c.in-Some.is at c.in_ok-label.ensures) (not_some _ _ c.literal-in-loop-labels.result no_end c.literal-in-loop-labels.ensures.taken)
    (rw stays at (absent _ _ c.literal-in-loop-labels-2.result no_comma c.literal-in-loop-labels-2.ensures.taken))

pub loop-labels-preserved : goal.loop-labels-preserved
loop-labels-preserved c =
    let done = map label_of c.loop-labels.labels.items in
    let comma : is_none c.literal-in-loop-labels-2.result ≡ false = search rules in
    let stays : c.literal-in-loop-labels.new.self.rest.now ≡ c.label.new.self.rest.now = search rules in
    let pushed : map label_of c.push.new.self.items ≡ done ++ label_of c.in-Some.label ∷ [] = ap (map label_of) c.in_ok-push.ensures.items ∙ map_push label_of c.loop-labels.labels.items c.in-Some.label in
    subst (λ labels. SetSoFar c.args.self.now.rest.now labels c.literal-in-loop-labels-2.new.self.rest.now) (sym pushed)
    (set_grows c.args.self.now.rest.now done c.loop-labels.self.rest.now (label_of c.in-Some.label) c.label.new.self.rest.now c.literal-in-loop-labels-2.new.self.rest.now c.loop-labels.invariant
    (rw c.in-Some.is at c.in_ok-label.ensures) (rw stays at (present _ _ c.literal-in-loop-labels-2.result comma c.literal-in-loop-labels-2.ensures.taken)))
