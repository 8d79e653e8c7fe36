use Rattle.std.proofs.Common.{rules}
use Rattle.page_relay.specs.Reading.{TextEnds, NoCharacter}
use Rattle.page_relay.proofs.Texts.{no_text, text_given}
use Rattle.page_relay.proofs.cursor.Cursor.text.Goals as goal

pub returns-in_default : goal.returns-in_default
returns-in_default c =
    let rest = c.loop-self.self.rest.now in
    let goes_on : ¬ TextEnds c.args.in_label rest = search rules in
    let none : NoCharacter c.args.in_label rest = search rules in
    no_text c.args.in_label c.args.self.now.rest.now c.loop-self.text.items rest c.loop-self.invariant goes_on none

pub returns : goal.returns
returns c =
    let rest = c.loop-self.self.rest.now in
    let ends : TextEnds c.args.in_label rest = search rules in
    rw c.ok.ensures.value (text_given c.args.in_label c.args.self.now.rest.now rest c.loop-self.text c.from_utf8.result c.loop-self.invariant ends c.from_utf8.ensures.ok c.from_utf8.ensures.succeeds)
