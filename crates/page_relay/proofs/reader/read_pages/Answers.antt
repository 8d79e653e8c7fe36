use Rattle.std.proofs.Common.{◌≡◌, ◌<◌, map, length, ap, subst, sym, ◌∙◌, inl, inr, rules}
use Rattle.std.proofs.lemmas.List.{nil_from_length}
use Rattle.std.specs.Prelude.{flat_map}
use Rattle.prom_format.specs.Pages.{page_text}
use Rattle.page_relay.specs.Streams.{IsStream}
use Rattle.page_relay.specs.Values.{families_of}
use Rattle.page_relay.specs.Fitting.{so_far}
use Rattle.page_relay.proofs.Readers.{read_on, stops_at, ends_at, reads_whole}
use Rattle.page_relay.proofs.reader.read_pages.Goals as goal

pub returns-in_default-2-clause-refused : goal.returns-in_default-2-clause-refused
returns-in_default-2-clause-refused c =
    let read = c.loop-text.invariant in
    stops_at c.args.bytes.now c.loop-text.rest.now c.loop-text.line (so_far c.loop-text.progress) c.in-Some.text.now c.in-Some.after.now read c.in-Some.ensures.split.0 c.in-Some.ensures.split.1
    (rw c.in_default-2.is at (c.in_ok-next.ensures read.sound))

pub loop-text-preserved : goal.loop-text-preserved
loop-text-preserved c =
    let read = c.loop-text.invariant in
    read_on c.args.bytes.now c.loop-text.rest.now c.loop-text.line (so_far c.loop-text.progress) c.in-Some.text.now c.in-Some.after.now (so_far c.in-Some-2.next) read c.in-Some.ensures.split.0 c.in-Some.ensures.split.1 c.in-Some.ensures.shorter
    (rw c.in-Some-2.is at (c.in_ok-next.ensures read.sound))

pub returns-then-not-is_empty-clause-refused : goal.returns-then-not-is_empty-clause-refused
returns-then-not-is_empty-clause-refused c =
    let some : 0 < length c.loop-text.rest.now = search rules in
    ends_at c.args.bytes.now c.loop-text.rest.now c.loop-text.line (so_far c.loop-text.progress) c.loop-text.invariant c.in_default.ensures.split (inl some)

pub returns-in_default-into_pages-clause-refused : goal.returns-in_default-into_pages-clause-refused
returns-in_default-into_pages-clause-refused c =
    ends_at c.args.bytes.now c.loop-text.rest.now c.loop-text.line (so_far c.loop-text.progress) c.loop-text.invariant c.in_default.ensures.split (inr c.in_default-into_pages.ensures.whole)

pub returns-clause-stream : goal.returns-clause-stream
returns-clause-stream c =
    let bytes = c.args.bytes.now in
    let none : length c.loop-text.rest.now ≡ 0 = search rules in
    let pages = c.in-Some-into_pages.ensures.pages in
    let stream = reads_whole bytes c.loop-text.rest.now c.loop-text.line (so_far c.loop-text.progress) c.loop-text.invariant (nil_from_length c.loop-text.rest.now none)
    (c.in-Some-into_pages.ensures.whole ∙ ap (λ v. flat_map page_text (map families_of v.items)) pages) in
    subst (λ v. IsStream bytes (map families_of v.items)) (sym pages) stream
