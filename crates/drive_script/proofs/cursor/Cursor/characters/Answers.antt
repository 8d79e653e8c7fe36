use Rattle.std.proofs.Common.{◌≡◌, ◌-◌, [], ◌∷◌, ◌++◌, length, get_or, take, drop, subst, sym, ap, ◌∙◌, arith}
use Rattle.std.proofs.lemmas.List.{nil_from_length, length-drop}
use Rattle.drive_script.specs.Reading.{and_then, characters_at, run_length}
use Rattle.drive_script.proofs.Loops.{CharactersLeft, split_first, characters_begin, quote_ends, bad_character, no_quote_left, character_shorter, next_run}
use Rattle.drive_script.proofs.cursor.Cursor.characters.Goals as goal

pub loop-self-init : goal.loop-self-init
loop-self-init c =
    let start = c.args.self.now.rest.now in
    subst (λ text. CharactersLeft (and_then c.args.run.now (characters_at start)) text start) (sym c.in_ok-text.ensures.items) (characters_begin start c.args.run.now)

pub returns-then-first-eq34 : goal.returns-then-first-eq34
returns-then-first-eq34 c =
    let rest = c.loop-self.self.rest.now in
    quote_ends (and_then c.args.run.now (characters_at c.args.self.now.rest.now)) c.loop-self.text.items rest (get_or rest 0 0) (take (length rest - 1) (drop 1 rest)) (split_first rest c.in-len1-up.len_at_least) c.if-first-eq34.true c.loop-self.invariant

pub returns-in_default-character : goal.returns-in_default-character
returns-in_default-character c =
    let rest = c.loop-self.self.rest.now in
    bad_character (and_then c.args.run.now (characters_at c.args.self.now.rest.now)) c.loop-self.text.items rest (get_or rest 0 0) (take (length rest - 1) (drop 1 rest)) (split_first rest c.in-len1-up.len_at_least) c.if-first-eq34.false c.in_default-character.ensures c.loop-self.invariant

pub loop-self-smaller : goal.loop-self-smaller
loop-self-smaller c =
    let rest = c.loop-self.self.rest.now in
    let left = c.character.new.self.rest.now in
    let shorter = character_shorter (get_or rest 0 0) (take (length rest - 1) (drop 1 rest)) c.in-Some.character left c.in-Some.ensures in
    omega (arith, shorter, ap length (split_first rest c.in-len1-up.len_at_least), ap length c.run.ensures.rest, length-drop (run_length left) left)

pub loop-self-preserved : goal.loop-self-preserved
loop-self-preserved c =
    let rest = c.loop-self.self.rest.now in
    let left = c.character.new.self.rest.now in
    let whole = and_then c.args.run.now (characters_at c.args.self.now.rest.now) in
    let text = c.loop-self.text.items ++ c.in-Some.character ∷ [] in
    let items : c.extend_from_slice.new.self.items ≡ text ++ take (run_length left) left = c.in_ok-extend_from_slice.ensures.items ∙ (λ j. c.in_ok-push.ensures.items j ++ c.run.ensures.run j) in
    subst (λ text. CharactersLeft whole text c.run.new.self.rest.now) (sym items)
    (subst (CharactersLeft whole (text ++ take (run_length left) left)) (sym c.run.ensures.rest)
    (next_run whole c.loop-self.text.items rest (get_or rest 0 0) (take (length rest - 1) (drop 1 rest)) c.in-Some.character left (split_first rest c.in-len1-up.len_at_least) c.if-first-eq34.false c.in-Some.ensures c.loop-self.invariant))

pub returns : goal.returns
returns c =
    let rest = c.loop-self.self.rest.now in
    no_quote_left (and_then c.args.run.now (characters_at c.args.self.now.rest.now)) c.loop-self.text.items rest (nil_from_length rest (omega arith)) c.loop-self.invariant
