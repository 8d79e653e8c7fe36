use Rattle.std.proofs.Common.{◌≡◌, ◌++◌, [], ◌∷◌, string_bytes, sym, ap, ◌∙◌, arith, append_assoc, false, List, ℕ, subst, ◌<◌, Bool}
use Rattle.std.specs.Prelude.{not}
use Rattle.std.specs.Char.{encode_utf8}
use Rattle.std.specs.Str.Iter.{chars_rest}
use Rattle.std.proofs.lemmas.List.{append-nil, nil_from_length}
use Rattle.std.proofs.lemmas.Slice.{pushed}
use Rattle.std.proofs.lemmas.Str.{encode_ascii}
use Rattle.prom_format.proofs.Kept.{Begins-append, Begins-more}
use Rattle.prom_format.proofs.Plain.{printed_walk, printed_waiting, printed_walk-start, printed_walk-backslash, printed_walk-quote, printed_walk-end, printed_walk-plain, IsPlain}
use Rattle.prom_format.proofs.printed.push_escaped.Goals as goal
use Rattle.prom_format.proofs.printed.push_escaped.Goals.{else-c-eq34-via-then-c-eq34+else-in_label, else-c-eq34-via-else-c-eq34}

-- the text still to come, where its first character is known
next_is : (text rest : List ℕ) (c d : ℕ) → text ≡ encode_utf8 c ++ rest → c ≡ d → d < 128 → text ≡ d ∷ rest
next_is text rest c d split is ascii = split ∙ ap (λ x. encode_utf8 x ++ rest) is ∙ ap (λ front. front ++ rest) (encode_ascii d ascii)

pub loop-c-init : goal.loop-c-init
loop-c-init c =
    let in_label = c.args.in_label in
    let was = string_bytes c.args.buffer.now in
    record {
      written =
          ap (λ t. was ++ t)
          (ap (λ it. printed_walk in_label false (chars_rest it)) c.into_iter-c-iterator.ensures.into_iter_gives
          ∙ ap (printed_walk in_label false) c.chars-c-items.ensures.rest
          ∙ printed_walk-start in_label c.args.text.now);
      kept = Begins-append was was [] (sym (append-nil was));
    }

pub loop-c-preserved-then-c-eq92 : goal.loop-c-preserved-then-c-eq92
loop-c-preserved-then-c-eq92 c =
    let in_label = c.args.in_label in
    let w = c.loop-c.waiting in
    let was = string_bytes c.loop-c.buffer in
    let rest = chars_rest c.next.new.self in
    let text = next_is _ rest c.in-Some.c 92 c.in-Some.ensures.steps.0 c.if-c-eq92.true (omega arith) in
    record {
      written =
          ap (λ t. t ++ printed_walk in_label (not w) rest) c.in_ok-push_waiting.ensures.ok
          ∙ append_assoc was (printed_waiting w) (printed_walk in_label (not w) rest)
          ∙ ap (λ t. was ++ t) (sym (printed_walk-backslash in_label w rest) ∙ ap (printed_walk in_label w) (sym text))
          ∙ c.loop-c.invariant.written;
      kept = Begins-more _ was _ _ c.loop-c.invariant.kept c.in_ok-push_waiting.ensures.ok;
    }

pub loop-c-preserved-then-in_label : goal.loop-c-preserved-then-in_label
loop-c-preserved-then-in_label c =
    let in_label = c.args.in_label in
    let w = c.loop-c.waiting in
    let was = string_bytes c.loop-c.buffer in
    let rest = chars_rest c.next.new.self in
    let text = next_is _ rest c.in-Some.c 34 c.in-Some.ensures.steps.0 c.if-c-eq34.true (omega arith) in
    let is_label = c.if-in_label.true in
    let P : Bool → Type 0 = λ l. 92 ∷ 34 ∷ printed_walk l false rest ≡ printed_walk l w (34 ∷ rest) in
    record {
      written =
          ap (λ t. t ++ printed_walk in_label false rest) c.in_ok-push_str-2.ensures.bytes
          ∙ append_assoc was (92 ∷ 34 ∷ []) (printed_walk in_label false rest)
          ∙ ap (λ t. was ++ t) (subst P (sym is_label) (sym (printed_walk-quote w rest)) ∙ ap (printed_walk in_label w) (sym text))
          ∙ c.loop-c.invariant.written;
      kept = Begins-more _ was _ _ c.loop-c.invariant.kept c.in_ok-push_str-2.ensures.bytes;
    }

pub loop-c-preserved : goal.loop-c-preserved
loop-c-preserved c =
    let in_label = c.args.in_label in
    let w = c.loop-c.waiting in
    let was = string_bytes c.loop-c.buffer in
    let rest = chars_rest c.next.new.self in
    let character = c.in-Some.c in
    let plain : IsPlain in_label character = (
      λ e. c.if-c-eq92.false e,
      λ e. c.if-c-eq10.false e,
      λ e. elim c.else-c-eq34.branch [ else-c-eq34-via-then-c-eq34+else-in_label w ↦ w.if-in_label.false | else-c-eq34-via-else-c-eq34 w ↦ absurd (w.if-c-eq34.false e) ],
    ) in
    let both = pushed {was = string_bytes c.push_waiting-else-c-eq34.new.buffer} (encode_utf8 character) c.in_ok-push_waiting-2.ensures.ok c.in_ok-push.was c.push.ensures.bytes in
    record {
      written =
          ap (λ t. t ++ printed_walk in_label false rest) both
          ∙ append_assoc (was ++ printed_waiting w) (encode_utf8 character) (printed_walk in_label false rest)
          ∙ append_assoc was (printed_waiting w) (encode_utf8 character ++ printed_walk in_label false rest)
          ∙ ap (λ t. was ++ t) (sym (printed_walk-plain in_label w character rest plain) ∙ ap (printed_walk in_label w) (sym c.in-Some.ensures.steps.0))
          ∙ c.loop-c.invariant.written;
      kept = Begins-more _ was _ _ c.loop-c.invariant.kept (both ∙ append_assoc was (printed_waiting w) (encode_utf8 character));
    }

pub returns-clause-ok : goal.returns-clause-ok
returns-clause-ok c =
    let none = nil_from_length _ c.in-None.ensures.steps.0.0 in
    c.in_ok-push_waiting-3.ensures.ok
    ∙ ap (λ t. string_bytes c.loop-c.buffer ++ t) (sym (printed_walk-end c.args.in_label c.loop-c.waiting) ∙ ap (printed_walk c.args.in_label c.loop-c.waiting) (sym none))
    ∙ c.loop-c.invariant.written
