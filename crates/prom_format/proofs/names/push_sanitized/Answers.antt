use Rattle.std.proofs.Common.{◌++◌, [], ◌∷◌, map, chars, string_bytes, refl, sym, ap, ◌∙◌, append_assoc, subst}
use Rattle.std.specs.Prelude.{unwrap_or}
use Rattle.std.specs.Char.{encode_utf8}
use Rattle.std.specs.Str.{IsUtf8}
use Rattle.std.specs.Str.Iter.{chars_rest}
use Rattle.std.proofs.lemmas.List.{append-nil, nil_from_length}
use Rattle.std.proofs.lemmas.Slice.{pushed}
use Rattle.std.proofs.lemmas.Str.{IsUtf8-past_char, chars-nil}
use Rattle.prom_format.specs.NameKinds.{begins, continues}
use Rattle.prom_format.specs.Names.{sanitized_characters, kept_or_underscore}
use Rattle.prom_format.proofs.Kept.{Begins-append, Begins-more}
use Rattle.prom_format.proofs.NameLemmas.{first_made, later_made}
use Rattle.prom_format.proofs.names.push_sanitized.Goals as goal

pub loop-character-init : goal.loop-character-init
loop-character-init c =
    let kind = c.args.kind in
    let was = string_bytes c.args.buffer.now in
    let text = subst IsUtf8 (sym c.chars-characters.ensures.rest) c.utf8.text in
    let made = first_made kind c.chars-characters.result c.next.new.self c.next.result text c.next.ensures.steps in
    let first = c.first.ensures.kept ∙ ap (kept_or_underscore (begins kind)) c.unwrap_or.ensures in
    let pushed_first = pushed {was = was} (encode_utf8 c.first.result) refl c.in_ok-push.was c.push.ensures.bytes in
    let name = pushed_first ∙ ap (λ t. was ++ t) (c.push.ensures.ascii c.first.ensures.ascii ∙ ap (λ d. d ∷ []) first) in
    let same = c.into_iter-character-iterator.ensures.into_iter_gives in
    let later = map (kept_or_underscore (continues kind)) (chars (chars_rest c.into_iter-character-iterator.result)) in
    record {
      text = subst IsUtf8 (sym (ap chars_rest same)) made.0;
      written =
          ap (λ t. t ++ later) name
          ∙ append_assoc was (kept_or_underscore (begins kind) (unwrap_or c.next.result 95) ∷ []) later
          ∙ ap (λ t. was ++ t)
          (ap (λ it. kept_or_underscore (begins kind) (unwrap_or c.next.result 95) ∷ map (kept_or_underscore (continues kind)) (chars (chars_rest it))) same
          ∙ made.1
          ∙ ap (λ t. sanitized_characters (begins kind) (chars t)) c.chars-characters.ensures.rest);
      kept = Begins-append was _ _ pushed_first;
    }

pub loop-character-preserved : goal.loop-character-preserved
loop-character-preserved c =
    let kind = c.args.kind in
    let was = string_bytes c.loop-character.buffer in
    let rest = chars_rest c.next-in-loop-character.new.self in
    let split = c.in-Some.ensures.steps.0 in
    let text = c.loop-character.invariant.text in
    let pushed_later = pushed {was = was} (encode_utf8 c.later.result) refl c.in_ok-push-2.was c.push-in-loop-character.ensures.bytes in
    let name = pushed_later ∙ ap (λ t. was ++ t) (c.push-in-loop-character.ensures.ascii c.later.ensures.ascii ∙ ap (λ d. d ∷ []) c.later.ensures.kept) in
    record {
      text = IsUtf8-past_char _ rest c.in-Some.character text split;
      written =
          ap (λ t. t ++ map (kept_or_underscore (continues kind)) (chars rest)) name
          ∙ append_assoc was (kept_or_underscore (continues kind) c.in-Some.character ∷ []) (map (kept_or_underscore (continues kind)) (chars rest))
          ∙ ap (λ t. was ++ t) (sym (later_made kind _ rest c.in-Some.character text split))
          ∙ c.loop-character.invariant.written;
      kept = Begins-more _ was _ _ c.loop-character.invariant.kept pushed_later;
    }

pub returns-clause-ok : goal.returns-clause-ok
returns-clause-ok c =
    let none = nil_from_length _ c.in-None.ensures.steps.0.0 in
    let made = ap (map (kept_or_underscore (continues c.args.kind))) (ap chars none ∙ chars-nil) in
    let was = string_bytes c.loop-character.buffer in
    sym (append-nil was) ∙ ap (λ t. was ++ t) (sym made) ∙ c.loop-character.invariant.written
