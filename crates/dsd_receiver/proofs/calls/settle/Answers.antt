use Rattle.dsd_receiver.proofs.Settling.{home_at, index_settled, index_within, none_settled, same_exporter}
use Rattle.dsd_receiver.proofs.calls.settle.Goals as goal

pub settle-requires-clause-here : goal.settle-requires-clause-here
settle-requires-clause-here g c = index_within c.args.state.now (c.series_have_their_indices.ensures c.args.state.now) c.args.id c.in-Some.index c.in-Some.ensures.index

pub settle-requires-clause-home : goal.settle-requires-clause-home
settle-requires-clause-home g c =
    home_at c.args.state.now (c.series_have_their_indices.ensures c.args.state.now) (c.an_index_is_of_one_kind.ensures c.args.state.now) c.requires.home c.in-Some.index

pub returns-in-Some-clause-same : goal.returns-in-Some-clause-same
returns-in-Some-clause-same g c = same_exporter c.args.state.now c.settle.new.self c.settle.ensures.same c.settle.ensures.frame

pub returns-in-Some-clause-settled : goal.returns-in-Some-clause-settled
returns-in-Some-clause-settled g c =
    index_settled c.args.state.now (c.series_have_their_indices.ensures c.args.state.now) (c.an_id_has_one_index.ensures c.args.state.now c.in-Some.ensures.numbered) c.args.id
    c.in-Some.index c.in-Some.ensures.index c.settle.ensures.settled

pub returns-in_default-clause-settled : goal.returns-in_default-clause-settled
returns-in_default-clause-settled g c = none_settled c.args.state.now (c.series_have_their_indices.ensures c.args.state.now) (c.an_id_has_one_index.ensures c.args.state.now c.index_of.ensures.numbered) c.args.id c.in_default.ensures.index
