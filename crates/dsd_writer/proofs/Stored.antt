-- Lines stand one after another in the payloads of a writer, and further lines go behind them.
use Rattle.std.proofs.Common.{◌≡◌, ℕ, ◌≤◌, Bool, true, false, cond, List, [], ◌∷◌, ◌++◌, length, map, drop, refl, sym, ap, ◌∙◌, subst}
use Rattle.std.specs.declared.snapshot.Snapshot.{Snapshot}
use Rattle.std.proofs.Math.Seq.{take-append_seam, drop-append_seam}
use Rattle.std.proofs.lemmas.List.{map-append}
use Rattle.std.proofs.lemmas.List.Elements.{All-nil, All-append}
use Rattle.dsd_writer.specs.Cuts.{AreWithin, joined, full_cut}
use Rattle.dsd_writer.specs.Lines.{payload_fits, payloads_of}
use Rattle.dsd_writer.specs.Packing.{IsPacked, filled, noted, payloads_at, prefix_length, with_line}
use Rattle.dsd_writer.specs.Writers.{AreStored, IsKept, lines_in, lines_kept}
use Rattle.dsd_writer.proofs.Best.{joined_twice}
use Rattle.dsd_writer.proofs.CutLemmas.{full_cut_whole}
use Rattle.dsd_writer.proofs.Filled.{filled-none}
use Rattle.dsd_writer.proofs.Pieces.{has_pieces}

lines_in-joined : (xs : List (List ℕ)) → lines_in (map length xs) (joined xs) ≡ xs
lines_in-joined [] = refl
lines_in-joined (x ∷ xs) =
    ap (λ front. front ∷ lines_in (map length xs) (drop (length x) (x ++ joined xs))) (take-append_seam x (joined xs))
    ∙ ap (λ rest. x ∷ lines_in (map length xs) rest) (drop-append_seam x (joined xs))
    ∙ ap (λ lines. x ∷ lines) (lines_in-joined xs)

filled-append : (limit : ℕ) (payloads xs ys : List (List ℕ)) → filled limit payloads (xs ++ ys) ≡ filled limit (filled limit payloads xs) ys
filled-append limit payloads [] ys = refl
filled-append limit payloads (x ∷ xs) ys = filled-append limit (with_line limit payloads x) xs ys

-- payloads with further lines are the payloads of all lines
pub filled-of : (limit : ℕ) (lines more : List (List ℕ)) → filled limit (payloads_of limit lines) more ≡ payloads_of limit (lines ++ more)
filled-of limit lines more =
    ap (λ payloads. filled limit payloads more) (sym (filled-none limit lines)) ∙ sym (filled-append limit [] lines more) ∙ filled-none limit (lines ++ more)

payloads_whole : (limit : ℕ) (lines : List (List ℕ)) → joined (payloads_of limit lines) ≡ joined lines
payloads_whole limit lines = joined_twice (full_cut (payload_fits limit) lines) ∙ ap joined (full_cut_whole (payload_fits limit) lines)

pub record AreStoredBehind (limit : ℕ) (lengths lengths_after : List ℕ) (payloads payloads_after lines : List (List ℕ)) : Type 0 where
  pub stored : AreStored limit lengths_after payloads_after
  pub lines_are : lines_in lengths_after (joined payloads_after) ≡ lines_in lengths (joined payloads) ++ lines

-- further lines behind those that are stored
pub stored_more : (limit : ℕ) (lengths lengths_after : List ℕ) (payloads payloads_after lines : List (List ℕ)) → AreStored limit lengths payloads → AreWithin limit lines
    → payloads_after ≡ filled limit payloads lines → lengths_after ≡ lengths ++ map length lines
    → AreStoredBehind limit lengths lengths_after payloads payloads_after lines
stored_more limit lengths lengths_after payloads payloads_after lines stored within payloads_now lengths_now =
    let old = lines_in lengths (joined payloads) in
    let all = old ++ lines in
    let packed : payloads_of limit all ≡ payloads_after =
    sym (filled-of limit old lines) ∙ ap (λ before. filled limit before lines) stored.packed ∙ sym payloads_now in
    let sizes : map length all ≡ lengths_after = map-append length old lines ∙ ap (λ l. l ++ map length lines) stored.sizes ∙ sym lengths_now in
    let bytes : joined payloads_after ≡ joined all = ap joined (sym packed) ∙ payloads_whole limit all in
    let are : lines_in lengths_after (joined payloads_after) ≡ all =
    ap (λ l. lines_in l (joined payloads_after)) (sym sizes) ∙ ap (lines_in (map length all)) bytes ∙ lines_in-joined all in
    record {
      stored = record {
        sizes = ap (map length) are ∙ sizes;
        packed = ap (payloads_of limit) are ∙ packed;
        within = subst (λ (ls : List (List ℕ)). AreWithin limit ls) (sym are) (All-append (λ (line : List ℕ). length line ≤ limit) old lines stored.within within);
      };
      lines_are = are;
    }

-- ---- a buffer that is begun anew where its payloads were handed out

pub record IsAnew (limit : ℕ) (on_stream : Bool) (bytes starts : List ℕ) (lengths : List (Snapshot ℕ)) (lines : List (List ℕ)) : Type 0 where
  pub packed : IsPacked limit on_stream bytes starts
  pub stored : AreStored limit (noted lengths) (payloads_at on_stream starts bytes)
  pub lines_are : lines_in (noted lengths) (joined (payloads_at on_stream starts bytes)) ≡ lines

same_anew : (limit : ℕ) (on_stream : Bool) (bytes bytes_after starts starts_after : List ℕ) (lengths lengths_after : List (Snapshot ℕ)) (lines : List (List ℕ)) → IsAnew limit on_stream bytes starts lengths lines
    → bytes_after ≡ bytes → starts_after ≡ starts → lengths_after ≡ lengths → IsAnew limit on_stream bytes_after starts_after lengths_after lines
same_anew limit on_stream bytes bytes_after starts starts_after lengths lengths_after lines is bytes_are starts_are lengths_are =
    subst (λ (b : List ℕ). IsAnew limit on_stream b starts_after lengths_after lines) (sym bytes_are)
    (subst (λ (s : List ℕ). IsAnew limit on_stream bytes s lengths_after lines) (sym starts_are)
    (subst (λ (l : List (Snapshot ℕ)). IsAnew limit on_stream bytes starts l lines) (sym lengths_are) is))

pub anew : (limit : ℕ) (on_stream handed_out : Bool) (bytes bytes_after starts starts_after : List ℕ) (lengths lengths_after : List (Snapshot ℕ)) → IsKept limit on_stream handed_out bytes starts (noted lengths)
    → bytes_after ≡ cond handed_out [] bytes → starts_after ≡ cond handed_out [] starts → lengths_after ≡ cond handed_out [] lengths
    → IsAnew limit on_stream bytes_after starts_after lengths_after (lines_kept handed_out on_stream bytes starts (noted lengths))
anew limit on_stream true bytes bytes_after starts starts_after lengths lengths_after kept bytes_are starts_are lengths_are =
    let none = has_pieces limit on_stream [] [] [] refl refl (All-nil (λ (piece : List ℕ). prefix_length on_stream ≤ length piece)) (All-nil (λ (text : List ℕ). length text ≤ limit)) kept.short in
    same_anew limit on_stream [] bytes_after [] starts_after [] lengths_after []
    (record {
      packed = none.packed;
      stored = record { sizes = refl; packed = refl; within = All-nil (λ (text : List ℕ). length text ≤ limit) };
      lines_are = refl;
    })
    bytes_are starts_are lengths_are
anew limit on_stream false bytes bytes_after starts starts_after lengths lengths_after kept bytes_are starts_are lengths_are =
    same_anew limit on_stream bytes bytes_after starts starts_after lengths lengths_after (lines_in (noted lengths) (joined (payloads_at on_stream starts bytes)))
    (record { packed = kept.packed refl; stored = kept.stored refl; lines_are = refl }) bytes_are starts_are lengths_are

-- a buffer that was not handed out
pub kept_anew : (limit : ℕ) (on_stream : Bool) (bytes starts lengths : List ℕ) → IsPacked limit on_stream bytes starts → AreStored limit lengths (payloads_at on_stream starts bytes)
    → IsKept limit on_stream false bytes starts lengths
kept_anew limit on_stream bytes starts lengths packed stored = record { packed = λ _. packed; stored = λ _. stored; short = packed.short }
