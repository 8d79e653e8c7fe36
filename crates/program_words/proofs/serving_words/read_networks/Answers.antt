use Rattle.std.proofs.Common.{[], take}
use Rattle.std.proofs.lemmas.List.{take_more}
use Rattle.program_words.proofs.ServingWords.{networks_more, no_networks}
use Rattle.program_words.proofs.serving_words.read_networks.Goals as goal

pub returns-in-None : goal.returns-in-None
returns-in-None c = λ others. no_networks c.args.texts.now c.loop-text.text-index _ others c.loop-text-test.true c.in-None.ensures

pub loop-text-preserved : goal.loop-text-preserved
loop-text-preserved c =
    let i = c.loop-text.text-index in
    let more = networks_more (take i c.args.texts.now) c.loop-text.networks.items _ c.in-Some.network c.loop-text.invariant.read c.in-Some.ensures in
    record {
      read = rw (c.in_ok-push-in-Some.ensures.items, take_more c.args.texts.now i (record { ref_ptr = (0, 0); now = [] }) c.loop-text-test.true) more;
    }
