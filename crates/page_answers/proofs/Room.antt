-- What heads are made of: their length, and one of them.
use Rattle.std.proofs.Common.{◌≡◌, ◌+◌, ◌≤◌, ◌⊎◌, ℕ, List, [], ◌∷◌, length, sym, subst, ap, ◌∙◌, refl, inl, inr, arith, length-append}
use Rattle.std.proofs.lemmas.List.{append-nil}
use Rattle.std.proofs.lemmas.Str.{IsUtf8-from_ascii}
use Rattle.std.proofs.lemmas.List.Elements.{All-cons, All-nil}
use Rattle.std.proofs.lemmas.Str.Ascii.{IsAscii-cons, IsAscii-nil}
use Rattle.std.specs.Prelude.{codes, IsTrue}
use Rattle.std.specs.List.{flat_map}
use Rattle.httparse.specs.Grammar.{LineEnd, crlf, lf, print_end, Field, print_field, RequestHead, IsRequestHead, print_request, is_token_byte, is_uri_byte}
use Rattle.httparse.specs.Spans.{RequestExceeds}
use Rattle.page_answers.specs.Readings.{CallForMore}

end_long : (end : LineEnd) → 1 ≤ length (print_end end)
end_long crlf = omega arith
end_long lf = omega arith

-- a field has a colon and an end
fields_long : (fields : List Field) → length fields + length fields ≤ length (flat_map print_field fields)
fields_long [] = omega arith
fields_long (f ∷ fields) = grind (length-append, fields_long fields, end_long f.end, arith)

-- a head has a line behind its fields, and more before them
head_long : (head : RequestHead) → length head.fields + length head.fields + 2 ≤ length (print_request head)
unfolding print_request
head_long head = grind (length-append, fields_long head.fields, end_long head.last, arith)

-- so few bytes hold no head of more fields
fields_fit : (bytes : List ℕ) → length bytes ≤ 65536 → RequestExceeds 32768 bytes → ⊥
fields_fit bytes few (front, rest, split, head, reads, many) =
    let all = ap length split ∙ length-append front rest in
    let ended = sym (length-append front (print_end lf)) ∙ ap length reads.1 ∙ length-append (print_request head) [] in
    omega (arith, few, many, all, ended, head_long head)

-- what is not decided calls for more
pub calls_on : (bytes : List ℕ) (room : ℕ) → room ≡ 32768 → length bytes ≤ 65536 → CallForMore bytes ⊎ RequestExceeds room bytes → CallForMore bytes
calls_on bytes room is few (inl calls) = calls
calls_on bytes room is few (inr exceeds) = absurd (fields_fit bytes few (subst (λ n. RequestExceeds n bytes) is exceeds))

-- a head of one line
abbrev short_head : RequestHead
short_head = record { blank = []; method = codes "G"; target = codes "/"; minor = 1; line_end = lf; fields = []; last = lf }

short_is_head : IsRequestHead short_head
unfolding is_token_byte
short_is_head = record {
  method = (omega arith, All-cons (λ b. IsTrue (is_token_byte b)) 71 [] refl (All-nil _));
  target = (omega arith, All-cons (λ b. IsTrue (is_uri_byte b)) 47 [] refl (All-nil _));
  target_text = IsUtf8-from_ascii (codes "/") (IsAscii-cons 47 [] (omega arith) IsAscii-nil);
  minor = omega arith;
  fields = All-nil _;
}

-- nothing calls for more
pub nothing_calls : CallForMore []
nothing_calls = (
  λ head rest reads. omega (arith, ap length reads.1 ∙ length-append (print_request head) rest, head_long head),
  inl (print_request short_head, short_head, (short_is_head, sym (append-nil (print_request short_head)))),
)
