use Rattle.std.proofs.Common.{◌≡◌, [], ◌∷◌, ◌++◌, map, true, false, Some, None, subst, sym, ap, ◌∙◌, rules}
use Rattle.std.specs.Prelude.{codes, string_bytes}
use Rattle.std.specs.Cow.{cow_str_bytes}
use Rattle.std.proofs.lemmas.List.{map_push}
use Rattle.drive_script.specs.Reading.{after, behind, text_at}
use Rattle.rule_eval.specs.Reading.{begins_text}
use Rattle.rule_eval.proofs.KeyReader.{KeysLeft, keys_begin, keys_end, bad_key, next_key, key_shorter}
use Rattle.rule_eval.proofs.lines.keys.Goals as goal

pub loop-alloc-init : goal.loop-alloc-init
loop-alloc-init c =
    let start = c.literal.new.self.rest.now in
    subst (λ keys. KeysLeft start (map string_bytes keys) start) (sym c.new-keys.ensures.items) (keys_begin start)

pub returns-in_default : goal.returns-in_default
returns-in_default c =
    let start = c.literal.new.self.rest.now in
    let rest = c.loop-alloc.cursor.rest.now in
    let taken : behind (codes " by") c.args.cursor.now.rest.now ≡ Some start = search rules in
    let more : begins_text rest ≡ true = search rules in
    let none : after (codes " ") text_at rest ≡ None = search rules in
    rw taken (bad_key start (map string_bytes c.loop-alloc.keys.items) rest more none c.loop-alloc.invariant)

pub loop-alloc-smaller : goal.loop-alloc-smaller
loop-alloc-smaller c =
    let rest = c.loop-alloc.cursor.rest.now in
    let found : after (codes " ") text_at rest ≡ Some (cow_str_bytes c.in-Some.key, c.spaced_text.new.self.rest.now) = search rules in
    key_shorter rest (cow_str_bytes c.in-Some.key) c.spaced_text.new.self.rest.now found

pub loop-alloc-preserved : goal.loop-alloc-preserved
loop-alloc-preserved c =
    let start = c.literal.new.self.rest.now in
    let done = map string_bytes c.loop-alloc.keys.items in
    let rest = c.loop-alloc.cursor.rest.now in
    let left = c.spaced_text.new.self.rest.now in
    let more : begins_text rest ≡ true = search rules in
    let found : after (codes " ") text_at rest ≡ Some (cow_str_bytes c.in-Some.key, left) = search rules in
    let owned : string_bytes c.in_ok-into_owned.field-0 ≡ cow_str_bytes c.in-Some.key = search rules in
    let pushed : map string_bytes c.push.new.self.items ≡ done ++ cow_str_bytes c.in-Some.key ∷ [] =
    ap (map string_bytes) c.in_ok-push.ensures.items ∙ map_push string_bytes c.loop-alloc.keys.items c.in_ok-into_owned.field-0 ∙ ap (λ key. done ++ key ∷ []) owned in
    subst (λ keys. KeysLeft start keys left) (sym pushed) (next_key start done rest (cow_str_bytes c.in-Some.key) left more found c.loop-alloc.invariant)

pub returns : goal.returns
returns c =
    let start = c.literal.new.self.rest.now in
    let rest = c.loop-alloc.cursor.rest.now in
    let taken : behind (codes " by") c.args.cursor.now.rest.now ≡ Some start = search rules in
    let stop : begins_text rest ≡ false = search rules in
    rw taken (keys_end start (map string_bytes c.loop-alloc.keys.items) rest stop c.loop-alloc.invariant)
