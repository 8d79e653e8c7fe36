-- The lines of a distribution are the rows that it shows.
use Rattle.std.proofs.Common.{◌≡◌, ℕ, List, [], ◌∷◌, ◌++◌, map, ℤ, pos, refl, sym, ap, ◌∙◌, append_assoc, append-nil}
use Rattle.std.specs.Prelude.{Option, Some, None, flat_map, codes, unwrap_or}
use Rattle.std.proofs.lemmas.Grind.{flat_map-append}
use Rattle.metrics_core.specs.Characters.{line}
use Rattle.metrics_core.specs.Keys.{LabelText}
use Rattle.metrics_core.specs.Numbers.{page_number, whole}
use Rattle.metrics_registry.specs.Quantiles.{nearest_rank}
use Rattle.prom_format.specs.Names.{full_name}
use Rattle.prom_format.specs.Printed.{escaped_label_value}
use Rattle.prom_format.specs.Pages.{label_set_text, row_text}
use Rattle.prom_format.specs.PrintedRows.{label_set_with, row_line}
use Rattle.prom_format.proofs.PrintedRows.{set_with}
use Rattle.rolling_summaries.specs.Summaries.{snapshot_at}
use Rattle.distributions.specs.declared.distribution.Distribution.{Distribution}
use Rattle.distributions.specs.declared.distribution.Distribution.TheVariants as variants
use Rattle.histogram_series.specs.Rows.{bucket_row, last_bucket_row, value_row, sum_and_count_rows, shown_rows}
use Rattle.distribution_rows.specs.Series.{series_row}
use Rattle.distribution_rows.specs.Lines.{bucket_line, last_bucket_line, sum_and_count_lines, value_line, shown_lines}
use Rattle.distribution_rows.proofs.Plain.{number-escaped}
use Rattle.std.specs.Arc.{arc_value}

module _ (name : List ℕ) (set : List LabelText) where
  -- a row with one more label, whose value has nothing to be escaped
  with_one : (suffix : Option (List ℕ)) (key value : List ℕ) (number : ℤ) → escaped_label_value value ≡ value
      → row_line name None suffix (label_set_text set) (Some (key, value)) number ≡ row_text (series_row name set suffix (record { key = key; value = value } ∷ []) number)
  with_one suffix key value number plain =
      ap (λ l. line (full_name name None suffix ++ l ++ codes " " ++ page_number number))
      (ap (λ v. label_set_with (label_set_text set) (Some (key, v))) (sym plain) ∙ set_with set (record { key = key; value = value }))

  -- a row with none
  with_none : (suffix : Option (List ℕ)) (number : ℤ) → row_line name None suffix (label_set_text set) None number ≡ row_text (series_row name set suffix [] number)
  with_none suffix number = ap (λ l. line (full_name name None suffix ++ label_set_text l ++ codes " " ++ page_number number)) (sym (append-nil set))

  bucket_lines : (buckets : List (ℤ × ℕ)) → flat_map (bucket_line name (label_set_text set)) buckets ≡ flat_map row_text (map (λ (bucket : ℤ × ℕ). bucket_row (series_row name set) bucket.0 bucket.1) buckets)
  bucket_lines [] = refl
  bucket_lines (b ∷ buckets) = λ j. with_one (Some (codes "bucket")) (codes "le") (page_number b.0) (whole b.1) (number-escaped b.0) j ++ bucket_lines buckets j

  value_lines : (values : List ℤ) (qs : List ℕ) → flat_map (value_line name (label_set_text set) values) qs ≡ flat_map row_text (map (value_row (series_row name set) values) qs)
  value_lines values [] = refl
  value_lines values (q ∷ qs) =
      λ j. with_one None (codes "quantile") (page_number (pos q)) (unwrap_or (nearest_rank q values) (pos 0)) (number-escaped (pos q)) j ++ value_lines values qs j

  sum_and_count : (sum : ℤ) (count : ℕ) → sum_and_count_lines name (label_set_text set) sum count ≡ flat_map row_text (sum_and_count_rows (series_row name set) sum count)
  sum_and_count sum count =
      (λ j. with_none (Some (codes "sum")) sum j ++ with_none (Some (codes "count")) (whole count) j)
      ∙ ap (λ l. row_text (series_row name set (Some (codes "sum")) [] sum) ++ l) (sym (append-nil (row_text (series_row name set (Some (codes "count")) [] (whole count)))))

  last_bucket : (count : ℕ) → last_bucket_line name (label_set_text set) count ≡ row_text (last_bucket_row (series_row name set) count)
  last_bucket count = with_one (Some (codes "bucket")) (codes "le") (codes "+Inf") (whole count) refl

  pub lines_are_rows : (t : ℕ) (d : Distribution) → shown_lines name (label_set_text set) t d ≡ flat_map row_text (shown_rows (series_row name set) t d)
  lines_are_rows t (variants.Histogram h) =
      (λ j. bucket_lines h.buckets j ++ last_bucket h.count j ++ sum_and_count h.sum h.count j)
      ∙ append_assoc (flat_map row_text (map (λ (bucket : ℤ × ℕ). bucket_row (series_row name set) bucket.0 bucket.1) h.buckets)) (row_text (last_bucket_row (series_row name set) h.count))
      (flat_map row_text (sum_and_count_rows (series_row name set) h.sum h.count))
      ∙ sym (flat_map-append row_text (map (λ (bucket : ℤ × ℕ). bucket_row (series_row name set) bucket.0 bucket.1) h.buckets) (last_bucket_row (series_row name set) h.count ∷ sum_and_count_rows (series_row name set) h.sum h.count))
  lines_are_rows t (variants.Summary w quantiles sum) =
      (λ j. value_lines (snapshot_at t w) (arc_value quantiles).items j ++ sum_and_count sum w.count j)
      ∙ sym (flat_map-append row_text (map (value_row (series_row name set) (snapshot_at t w)) (arc_value quantiles).items) (sum_and_count_rows (series_row name set) sum w.count))
  lines_are_rows t (variants.NativeHistogram h) = refl
