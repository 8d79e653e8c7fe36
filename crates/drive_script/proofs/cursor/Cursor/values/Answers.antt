use Rattle.std.proofs.Common.{◌≡◌, ◌<◌, None, length, subst, sym, ap, ◌∙◌, rules}
use Rattle.std.specs.Prelude.{codes}
use Rattle.std.proofs.lemmas.List.{nil_from_length, map_push}
use Rattle.metrics_core.specs.declared.numbers.Fixed.{Fixed}
use Rattle.drive_script.specs.Reading.{after, fixed_at}
use Rattle.drive_script.specs.Texts.{values_of}
use Rattle.drive_script.proofs.Decimals.{SpellsDec, fixed_reads}
use Rattle.drive_script.proofs.Loops.{values_each}
use Rattle.drive_script.proofs.Spaced.{WordEnds, ItemsLeft, items_begin, items_end, bad_item, next_item, item_shorter}
use Rattle.drive_script.proofs.cursor.Cursor.values.Goals as goal

pub loop-self-init : goal.loop-self-init
loop-self-init c = subst (λ values. ItemsLeft fixed_at c.args.self.now.rest.now (values_of values) c.args.self.now.rest.now) (sym c.new-values.ensures.items) (items_begin fixed_at c.args.self.now.rest.now)

pub returns-in_default : goal.returns-in_default
returns-in_default c =
    let rest = c.loop-self.self.rest.now in
    let some : 0 < length rest = search rules in
    let none : after (codes " ") fixed_at rest ≡ None = search rules in
    values_each c.args.self.now.rest.now ∙ bad_item fixed_at c.args.self.now.rest.now (values_of c.loop-self.values.items) rest some none c.loop-self.invariant

pub loop-self-smaller : goal.loop-self-smaller
loop-self-smaller c = item_shorter fixed_at SpellsDec WordEnds fixed_reads c.loop-self.self.rest.now c.in-Some.value.0 c.spaced_value.new.self.rest.now c.in-Some.ensures

pub loop-self-preserved : goal.loop-self-preserved
loop-self-preserved c =
    let rest = c.loop-self.self.rest.now in
    let some : 0 < length rest = search rules in
    let value_of_fixed = λ (v : Fixed). v.0 in
    subst (λ values. ItemsLeft fixed_at c.args.self.now.rest.now values c.spaced_value.new.self.rest.now) (sym (ap values_of c.in_ok-push.ensures.items ∙ map_push value_of_fixed c.loop-self.values.items c.in-Some.value))
    (next_item fixed_at SpellsDec WordEnds fixed_reads c.args.self.now.rest.now (values_of c.loop-self.values.items) rest c.in-Some.value.0 c.spaced_value.new.self.rest.now some c.in-Some.ensures c.loop-self.invariant)

pub returns : goal.returns
returns c =
    let rest = c.loop-self.self.rest.now in
    let none : length rest ≡ 0 = search rules in
    values_each c.args.self.now.rest.now ∙ items_end fixed_at c.args.self.now.rest.now (values_of c.loop-self.values.items) rest (nil_from_length rest none) c.loop-self.invariant
