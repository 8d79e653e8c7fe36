-- Tags are written one list after another, each tag behind what stands before it.
use Rattle.std.proofs.Common.{◌≡◌, ℕ, ◌+◌, ◌<◌, List, [], ◌∷◌, ◌++◌, length, drop, get_or, Option, None, Some, refl, sym, ap, ◌∙◌, arith, append_assoc, length-append}
use Rattle.std.proofs.lemmas.List.{at_drop_more}
use Rattle.std.specs.Prelude.{codes, flat_map}
use Rattle.metrics_core.specs.Keys.{LabelText}
use Rattle.dsd_writer.specs.Lines.{tag_text, tags_text, tags_behind, before_next}
use Rattle.dsd_writer.specs.Rooms.{Leaves}

behind_commas : (tags : List LabelText) → flat_map (λ tag. codes "," ++ tag_text tag) tags ≡ tags_behind (codes ",") tags
behind_commas [] = refl
behind_commas (tag ∷ tags) = ap (λ rest. codes "," ++ tag_text tag ++ rest) (behind_commas tags)

tags_text-behind : (tags : List LabelText) → tags_text tags ≡ tags_behind (codes "|#") tags
tags_text-behind [] = refl
tags_text-behind (tag ∷ tags) = ap (λ rest. codes "|#" ++ tag_text tag ++ rest) (behind_commas tags)

-- the text of the labels of a key
pub labels_text : (tags labels : List LabelText) → tags ≡ labels → tags_behind (codes "|#") tags ≡ tags_text labels
labels_text tags labels same = ap (tags_behind (codes "|#")) same ∙ sym (tags_text-behind labels)

tags_behind-append : (before : List ℕ) (xs ys : List LabelText) → tags_behind before (xs ++ ys) ≡ tags_behind before xs ++ tags_behind (before_next before xs) ys
tags_behind-append before [] ys = refl
tags_behind-append before (tag ∷ []) ys = sym (append_assoc (before ++ tag_text tag) [] (tags_behind (codes ",") ys))
tags_behind-append before (tag ∷ next ∷ tags) ys =
    ap (λ rest. before ++ tag_text tag ++ rest) (tags_behind-append (codes ",") (next ∷ tags) ys) ∙ sym (append_assoc (before ++ tag_text tag) (tags_behind (codes ",") (next ∷ tags)) (tags_behind (codes ",") ys))

pub tags_text-append : (xs ys : List LabelText) → tags_text (xs ++ ys) ≡ tags_behind (codes "|#") xs ++ tags_behind (before_next (codes "|#") xs) ys
tags_text-append xs ys = tags_text-behind (xs ++ ys) ∙ tags_behind-append (codes "|#") xs ys

pub length-tags_text-append : (xs ys : List LabelText) → length (tags_text (xs ++ ys)) ≡ length (tags_behind (codes "|#") xs) + length (tags_behind (before_next (codes "|#") xs) ys)
length-tags_text-append xs ys = ap length (tags_text-append xs ys) ∙ length-append (tags_behind (codes "|#") xs) (tags_behind (before_next (codes "|#") xs) ys)

pub ruleset length_tags = length-tags_text-append

pub ruleset written_tags = (tags_text-append, length-tags_text-append)

-- the tags of a series as text, and then the global ones
pub kept_tags-append : (xs ys : List LabelText) → tags_text (xs ++ ys) ≡ tags_text xs ++ tags_behind (before_next (codes "|#") xs) ys
kept_tags-append xs ys = tags_text-append xs ys ∙ ap (λ t. t ++ tags_behind (before_next (codes "|#") xs) ys) (sym (tags_text-behind xs))

pub length-kept_tags : (xs ys : List LabelText) → length (tags_text (xs ++ ys)) ≡ length (tags_text xs) + length (tags_behind (before_next (codes "|#") xs) ys)
length-kept_tags xs ys = ap length (kept_tags-append xs ys) ∙ length-append (tags_text xs) (tags_behind (before_next (codes "|#") xs) ys)

pub leaves-behind : (left : Option ℕ) (room behind own rest all : ℕ) → behind + own ≡ room → all ≡ own + rest → Leaves left behind rest → Leaves left room all
leaves-behind None room behind own rest all taken is leaves = omega (arith, taken, is, leaves)
leaves-behind (Some n) room behind own rest all taken is leaves = omega (arith, taken, is, leaves)

-- the tags from a place on, with the tag at this place apart
pub next_tag : (before : List ℕ) (tags : List LabelText) (i : ℕ) (tag : LabelText) → i < length tags → tag ≡ get_or tags i tag
    → tags_behind before (drop i tags) ≡ before ++ tag_text tag ++ tags_behind (codes ",") (drop (i + 1) tags)
next_tag before tags i tag low is =
    at_drop_more (tags_behind before) tags i tag low ∙ ap (λ t. before ++ tag_text t ++ tags_behind (codes ",") (drop (i + 1) tags)) (sym is)

pub length-next_tag : (before : List ℕ) (tags : List LabelText) (i : ℕ) (tag : LabelText) → i < length tags → tag ≡ get_or tags i tag
    → length (tags_behind before (drop i tags)) ≡ length before + length (tag_text tag) + length (tags_behind (codes ",") (drop (i + 1) tags))
length-next_tag before tags i tag low is =
    let text = next_tag before tags i tag low is in
    let rest = tags_behind (codes ",") (drop (i + 1) tags) in
    omega (arith, ap length text, length-append (before ++ tag_text tag) rest, length-append before (tag_text tag))
