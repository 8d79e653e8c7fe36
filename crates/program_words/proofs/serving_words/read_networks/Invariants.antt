use Rattle.std.proofs.Common.{take}
use Rattle.program_words.specs.Answers.{texts_of}
use Rattle.program_words.specs.Serving.{AreNetworks}
use Rattle.program_words.proofs.serving_words.read_networks.Given as goal

abbrev pub invariant-loop-text : goal.invariant-loop-text
invariant-loop-text l = record {
  read : AreNetworks (texts_of (take l.text-index l.texts)) l.networks.items;
}
