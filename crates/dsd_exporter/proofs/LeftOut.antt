-- How many points were left out, as an update counts them.
use Rattle.std.proofs.Common.{◌≡◌, ℕ, ◌+◌, ◌<◌, ◌^◌, true, false, cond, List, [], ◌∷◌, arith, refl, ap, ◌∙◌}
use Rattle.std.specs.Prelude.{nat_lt}
use Rattle.metrics_core.specs.Numbers.{in_64_bits}
use Rattle.metrics_core.specs.declared.kinds.MetricKind.{MetricKind}
use Rattle.metrics_core.specs.declared.kinds.MetricKind.TheVariants as kinds
use Rattle.dsd_writer.specs.Writers.{WriterText}
use Rattle.dsd_exporter.specs.State.{FlushItem, left_out_of, left_out_of_items}
use Rattle.dsd_exporter.specs.Updates.{UpdateText, with_contexts, with_points, with_failed, with_failure_of, with_item, with_items, points_of}
use Rattle.dsd_exporter.specs.Flushing.{Sends}

sum-mod : (a m n : ℕ) → in_64_bits (in_64_bits (a + m) + n) ≡ in_64_bits (a + (m + n))
sum-mod a m n = omega arith

points-keep : (kind : MetricKind) (n : ℕ) (u : UpdateText) → (with_points kind n u).points_left_out ≡ u.points_left_out
points-keep kinds.Counter n u = refl
points-keep kinds.Gauge n u = refl
points-keep kinds.Histogram n u = refl

contexts-keep : (kind : MetricKind) (n : ℕ) (u : UpdateText) → (with_contexts kind n u).points_left_out ≡ u.points_left_out
contexts-keep kinds.Counter n u = refl
contexts-keep kinds.Gauge n u = refl
contexts-keep kinds.Histogram n u = refl

failure-keeps : (limit : ℕ) (i : FlushItem) (u : UpdateText) → (with_failure_of limit i u).points_left_out ≡ u.points_left_out
failure-keeps limit i u = elim (nat_lt 0 (left_out_of limit i)) as (λ b. (cond b (with_failed u) u).points_left_out ≡ u.points_left_out) [ true ↦ refl | false ↦ refl ]

item-counted : (limit : ℕ) (u : UpdateText) (i : FlushItem) → (with_item limit u i).points_left_out ≡ in_64_bits (u.points_left_out + left_out_of limit i)
item-counted limit u i =
    ap (λ n. in_64_bits (n + left_out_of limit i))
    (failure-keeps limit i (with_points i.kind (points_of limit i) (with_contexts i.kind 1 u)) ∙ points-keep i.kind (points_of limit i) (with_contexts i.kind 1 u) ∙ contexts-keep i.kind 1 u)

items-counted : (limit : ℕ) (items : List FlushItem) (u : UpdateText) → u.points_left_out < 2 ^ 64
    → (with_items limit u items).points_left_out ≡ in_64_bits (u.points_left_out + left_out_of_items limit items)
items-counted limit [] u few = omega (arith, few)
items-counted limit (i ∷ items) u few =
    let own = item-counted limit u i in
    items-counted limit items (with_item limit u i) (omega (arith, own))
    ∙ ap (λ n. in_64_bits (n + left_out_of_items limit items)) own ∙ sum-mod u.points_left_out (left_out_of limit i) (left_out_of_items limit items)

-- what was sent tells how many points an update counts as left out
pub left_out_counted : (items : List FlushItem) (w v : WriterText) (u n : UpdateText) → u.points_left_out < 2 ^ 64 → Sends items w v u n
    → n.points_left_out ≡ in_64_bits (u.points_left_out + left_out_of_items w.limit items)
left_out_counted items w v u n few sends = ap (λ (t : UpdateText). t.points_left_out) sends.counted ∙ items-counted w.limit items u few
