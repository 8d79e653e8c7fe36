use Rattle.std.proofs.Common.{◌≡◌, ◌<◌, Some, None, [], ◌∷◌, ◌++◌, length, subst, sym, ap, ◌∙◌, rules}
use Rattle.std.specs.Prelude.{codes, string_bytes}
use Rattle.std.specs.Cow.{cow_str_bytes}
use Rattle.std.proofs.lemmas.List.{nil_from_length}
use Rattle.metrics_core.specs.Keys.{LabelText}
use Rattle.drive_script.specs.Reading.{after, label_at}
use Rattle.drive_script.proofs.Readers.{Anywhere}
use Rattle.drive_script.proofs.TextFields.{SpellsLabel, label_reads}
use Rattle.drive_script.proofs.Spaced.{ItemsLeft, items_begin, items_end, bad_item, next_item, item_shorter}
use Rattle.drive_script.proofs.Loops.{labels_each}
use Rattle.drive_script.proofs.cursor.Cursor.labels.Goals as goal

pub loop-alloc-init : goal.loop-alloc-init
loop-alloc-init c = subst (λ labels. ItemsLeft label_at c.args.self.now.rest.now labels c.args.self.now.rest.now) (sym c.in_ok-labels.ensures.items) (items_begin label_at c.args.self.now.rest.now)

pub returns-in_default : goal.returns-in_default
returns-in_default c =
    let rest = c.loop-alloc.self.rest.now in
    let some : 0 < length rest = search rules in
    let none : after (codes " ") label_at rest ≡ None = search rules in
    labels_each c.args.self.now.rest.now ∙ bad_item label_at c.args.self.now.rest.now c.loop-alloc.labels.items rest some none c.loop-alloc.invariant

pub loop-alloc-smaller : goal.loop-alloc-smaller
loop-alloc-smaller c =
    let found : after (codes " ") label_at c.loop-alloc.self.rest.now ≡ Some (record { key = cow_str_bytes c.in-Some.key; value = string_bytes c.in-Some.value }, c.spaced_label.new.self.rest.now) = search rules in
    item_shorter label_at SpellsLabel Anywhere label_reads c.loop-alloc.self.rest.now (record { key = cow_str_bytes c.in-Some.key; value = string_bytes c.in-Some.value }) c.spaced_label.new.self.rest.now found

pub loop-alloc-preserved : goal.loop-alloc-preserved
loop-alloc-preserved c =
    let rest = c.loop-alloc.self.rest.now in
    let some : 0 < length rest = search rules in
    let label : LabelText = record { key = cow_str_bytes c.in-Some.key; value = string_bytes c.in-Some.value } in
    let found : after (codes " ") label_at rest ≡ Some (label, c.spaced_label.new.self.rest.now) = search rules in
    let same : c.new.result ≡ label = c.new.ensures.parts ∙ (λ j. record { key = c.in_ok-key-2.ensures.text j; value = c.from-in-loop-alloc.ensures.0 j }) in
    let pushed : c.push.new.self.items ≡ c.loop-alloc.labels.items ++ label ∷ [] = c.in_ok-push.ensures.items ∙ ap (λ l. c.loop-alloc.labels.items ++ l ∷ []) same in
    subst (λ labels. ItemsLeft label_at c.args.self.now.rest.now labels c.spaced_label.new.self.rest.now) (sym pushed)
    (next_item label_at SpellsLabel Anywhere label_reads c.args.self.now.rest.now c.loop-alloc.labels.items rest label c.spaced_label.new.self.rest.now some found c.loop-alloc.invariant)

pub returns : goal.returns
returns c =
    let rest = c.loop-alloc.self.rest.now in
    let none : length rest ≡ 0 = search rules in
    rw c.shrink_to_fit.ensures.items (labels_each c.args.self.now.rest.now ∙ items_end label_at c.args.self.now.rest.now c.loop-alloc.labels.items rest (nil_from_length rest none) c.loop-alloc.invariant ∙ ap (λ l. Some (c.loop-alloc.labels.items, l)) (sym (nil_from_length rest none)))
