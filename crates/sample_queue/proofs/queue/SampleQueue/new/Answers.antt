use Rattle.sample_queue.proofs.Rooted.{opens}
use Rattle.sample_queue.proofs.queue.SampleQueue.new.Goals as goal

pub with_rule-requires : goal.with_rule-requires
with_rule-requires g c = opens
