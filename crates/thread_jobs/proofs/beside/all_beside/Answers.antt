use Rattle.std.proofs.Common.{sym, ◌∙◌, subst, slice_index_or}
use Rattle.thread_jobs.proofs.Pairs.{in_pairs, if_ok_both}
use Rattle.thread_jobs.proofs.beside.all_beside.Goals as goal

pub returns : goal.returns
returns g c = if_ok_both _ _ _ c.map_vec.result c.map_vec.ensures.len c.map_vec.ensures.each
    (λ answers len each. in_pairs (g.J.Job.gives c.args.shared.now) c.args.jobs.items answers.items (sym answers.ok.0 ∙ len ∙ c.args.jobs.ok.0)
    (λ k d e less. let given = (each k e less).1 in subst (λ job. g.J.Job.gives c.args.shared.now job (slice_index_or answers.items k e)) (sym (given.job_is d)) given.call.met))
