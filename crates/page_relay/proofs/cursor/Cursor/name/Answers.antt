use Rattle.std.proofs.Common.{◌≡◌, ◌++◌, take, drop, true, get_or, subst, sym, ap, ◌∙◌, arith, rules}
use Rattle.std.specs.Prelude.{IsUtf8, string_bytes}
use Rattle.std.specs.List.{list_all}
use Rattle.std.proofs.lemmas.List.{take-append-drop}
use Rattle.page_relay.specs.Reading.{begins_name, stands_in_name, IsNamed, NameEnds}
use Rattle.page_relay.proofs.Names.{count_of, front_all, front_ends, name_counted, counted_name, name_utf8}
use Rattle.page_relay.proofs.cursor.Cursor.name.Goals as goal

pub returns-in_default-from_utf8 : goal.returns-in_default-from_utf8
returns-in_default-from_utf8 c = λ name rest named ends e.
    let counted : c.split_at.result.0.now ≡ name = c.split_at.ensures.front ∙ ap (λ n. take n c.args.self.now.rest.now) c.name_length.ensures.count ∙ name_counted c.args.colons c.args.self.now.rest.now name rest named ends e in
    c.in_default-from_utf8.ensures.cases.0 (subst IsUtf8 (sym counted) (name_utf8 c.args.colons name named))

pub returns : goal.returns
returns c =
    let bytes = c.args.self.now.rest.now in
    let kind = stands_in_name c.args.colons in
    let front = c.split_at.result.0.now in
    let is_front : front ≡ take (count_of kind bytes) bytes = c.split_at.ensures.front ∙ ap (λ n. take n bytes) c.name_length.ensures.count in
    let is_back : c.split_at.result.1.now ≡ drop (count_of kind bytes) bytes = c.split_at.ensures.back ∙ ap (λ n. drop n bytes) c.name_length.ensures.count in
    let spelled : string_bytes c.in_ok-from_str.field-0 ≡ front = search rules in
    let begins : begins_name c.args.colons (get_or front 0 0) ≡ true = search rules in
    let all : list_all kind front ≡ true = ap (list_all kind) is_front ∙ front_all kind bytes in
    let named : IsNamed c.args.colons front = counted_name c.args.colons front (omega arith) begins all in
    record {
      named = subst (IsNamed c.args.colons) (sym spelled) named;
      ends = subst (NameEnds c.args.colons) (sym is_back) (front_ends kind bytes);
      split = sym (take-append-drop (count_of kind bytes) bytes) ∙ (λ j. (sym is_front ∙ sym spelled) j ++ sym is_back j);
    }
