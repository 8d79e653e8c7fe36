use Rattle.std.proofs.Common.{true, false, sym, ◌∙◌, rules}
use Rattle.std.specs.Prelude.{nat_lt}
use Rattle.std.proofs.lemmas.List.Sorted.{IsPartitionPoint-from_clause}
use Rattle.rolling_summaries.proofs.Ordered.{taker-halved, taker-halved_none, parted}
use Rattle.rolling_summaries.proofs.buckets.taker_place.Goals as goal

pub returns-in_err-get-clause-taker : goal.returns-in_err-get-clause-taker
returns-in_err-get-clause-taker c =
    let kept = c.args.kept.now.items in
    let place = c.partition_point-place.result in
    c.from_residual-in_err-get.ensures
    ∙ taker-halved_none c.args.width c.args.now place kept c.in_ok-front.field-0.now
    (IsPartitionPoint-from_clause (λ b. nat_lt c.args.now b.begin) kept place c.partition_point-place.ensures.partitioned (parted c.args.width c.args.now kept c.requires.apart) (λ a r f' called. search rules))
    c.in_err-get.ensures.item.3

pub returns-then-takes-2-clause-taker : goal.returns-then-takes-2-clause-taker
returns-then-takes-2-clause-taker c =
    let kept = c.args.kept.now.items in
    let place = c.partition_point-place.result in
    taker-halved c.args.width c.args.now place kept c.in_ok-get.field-0.now c.requires.wide c.requires.apart
    (IsPartitionPoint-from_clause (λ b. nat_lt c.args.now b.begin) kept place c.partition_point-place.ensures.partitioned (parted c.args.width c.args.now kept c.requires.apart) (λ a r f' called. search rules))
    c.in_ok-get.ensures.item.3.0 c.in_ok-get.ensures.lookup true (sym c.if-takes-2.true ∙ c.takes-2.ensures)

pub returns-else-takes-2-clause-taker : goal.returns-else-takes-2-clause-taker
returns-else-takes-2-clause-taker c =
    let kept = c.args.kept.now.items in
    let place = c.partition_point-place.result in
    taker-halved c.args.width c.args.now place kept c.in_ok-get.field-0.now c.requires.wide c.requires.apart
    (IsPartitionPoint-from_clause (λ b. nat_lt c.args.now b.begin) kept place c.partition_point-place.ensures.partitioned (parted c.args.width c.args.now kept c.requires.apart) (λ a r f' called. search rules))
    c.in_ok-get.ensures.item.3.0 c.in_ok-get.ensures.lookup false (sym c.if-takes-2.false ∙ c.takes-2.ensures)
