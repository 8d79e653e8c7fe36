-- Worked examples, computed.
use Rattle.std.specs.Prelude.{◌≡◌, ℕ, codes, pos, refl, decimal, List, [], ◌∷◌, map, true, false, Some, None, length}
use Rattle.std.specs.Fmt.{digits}
use Rattle.metrics_core.specs.Numbers.{whole, dogstatsd_number}
use Rattle.metrics_core.specs.Keys.{LabelText}
use Rattle.dsd_writer.specs.Lines.{ItemText, line_of, lines_of, left_out_values, payloads_of, framed, prefixed}

abbrev label : List ℕ → List ℕ → LabelText
label k v = record { key = k; value = v }

abbrev counter : List ℕ → ItemText
counter n = record { name = n; type = codes "c"; rate = None; tags = []; timestamp = None }

pub tagged_counter : line_of (record (counter (prefixed (Some (codes "server1")) (codes "test_counter"))) { tags = label (codes "foo") (codes "bar") ∷ label (codes "baz") (codes "quux") ∷ label (codes "gfoo") (codes "bar") ∷ label (codes "gbaz") (codes "quux") ∷ []; timestamp = Some 234567 }) (decimal 777 ∷ [])
    ≡ codes "server1.test_counter:777|c|#foo:bar,baz:quux,gfoo:bar,gbaz:quux|T234567\n"
unfolding digits
tagged_counter = refl

-- a tag without value
pub bare_tag : line_of (record (counter (codes "p.c")) { tags = label (codes "e") [] ∷ []; timestamp = Some 2500000 }) (decimal 1 ∷ []) ≡ codes "p.c:1|c|#e|T2500000\n"
unfolding digits
bare_tag = refl

pub gauge_line : line_of (record (counter (codes "test_gauge")) { type = codes "g"; timestamp = Some 345678 }) (dogstatsd_number (whole 1967) ∷ []) ≡ codes "test_gauge:1967.0|g|T345678\n"
unfolding digits
gauge_line = refl

pub histogram_line : line_of (record (counter (codes "test_histogram")) { type = codes "h" }) (map dogstatsd_number (pos 22220000000 ∷ pos 33330000000 ∷ pos 44440000000 ∷ [])) ≡ codes "test_histogram:22.22:33.33:44.44|h\n"
unfolding digits
histogram_line = refl

pub sampled_line : line_of (record (counter (codes "h")) { type = codes "h"; rate = Some (pos 500000000) }) (dogstatsd_number (whole 2) ∷ []) ≡ codes "h:2.0|h|@0.5\n"
unfolding digits
sampled_line = refl

abbrev distribution : ItemText
distribution = record (counter (codes "h")) { type = codes "d" }

abbrev one_two_three : List (List ℕ)
one_two_three = map (λ n. dogstatsd_number (whole n)) (1 ∷ 2 ∷ 3 ∷ [])

pub values_fill_a_line : lines_of 12 distribution one_two_three ≡ codes "h:1.0:2.0|d\n" ∷ codes "h:3.0|d\n" ∷ []
unfolding digits
values_fill_a_line = refl

pub one_payload_each : payloads_of 12 (lines_of 12 distribution one_two_three) ≡ codes "h:1.0:2.0|d\n" ∷ codes "h:3.0|d\n" ∷ []
unfolding digits
one_payload_each = refl

pub lines_fill_a_payload : payloads_of 12 (codes "a:0|c\n" ∷ codes "b:0|c\n" ∷ codes "c:0|c\n" ∷ []) ≡ codes "a:0|c\nb:0|c\n" ∷ codes "c:0|c\n" ∷ []
lines_fill_a_payload = refl

-- a gauge of zero takes eight bytes
pub too_long_is_left_out : (lines_of 6 (record (counter (codes "a")) { type = codes "g" }) (dogstatsd_number (pos 0) ∷ []) ≡ [])
    × (length (left_out_values 6 (record (counter (codes "a")) { type = codes "g" }) (dogstatsd_number (pos 0) ∷ [])) ≡ 1)
    × (lines_of 6 (counter (codes "a")) (decimal 0 ∷ []) ≡ codes "a:0|c\n" ∷ [])
unfolding digits
too_long_is_left_out = (refl, refl, refl)

-- a value that is left out between two that are not
pub long_value_alone_is_left_out : lines_of 13 distribution (map dogstatsd_number (pos 1000000000 ∷ pos 123456789123456789 ∷ pos 2000000000 ∷ [])) ≡ codes "h:1.0:2.0|d\n" ∷ []
unfolding digits
long_value_alone_is_left_out = refl

pub stream_frame : framed true (codes "basic_counter:42|c\n") ≡ 19 ∷ 0 ∷ 0 ∷ 0 ∷ codes "basic_counter:42|c\n"
stream_frame = refl

pub datagram : framed false (codes "basic_counter:42|c\n") ≡ codes "basic_counter:42|c\n"
datagram = refl
