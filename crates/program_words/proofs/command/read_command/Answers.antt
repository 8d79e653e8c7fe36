use Rattle.std.proofs.Common.{ℕ, sym, subst, ◌∙◌}
use Rattle.std.specs.Prelude.{Option, option_map}
use Rattle.std.specs.declared.alloc.Global.{Global}
use Rattle.std.specs.declared.vec.Vec.{Vec}
use Rattle.std.proofs.lemmas.Bool.{true≢false}
use Rattle.net_addresses.specs.declared.networks.Network.{Network}
use Rattle.dsd_addresses.specs.Remotes.{remote_text}
use Rattle.dsd_addresses.specs.declared.remote_addr.RemoteAddr.{RemoteAddr}
use Rattle.program_words.specs.Answers.{HasAddress, texts_of}
use Rattle.program_words.specs.BenchWords.{HasBenchWords}
use Rattle.program_words.specs.Serving.{HasServeWords}
use Rattle.program_words.proofs.CommandSteps.{are_none}
use Rattle.program_words.proofs.command.read_command.Goals as goal

pub returns-in-None : goal.returns-in-None
returns-in-None c =
    let words = texts_of c.args.words.now in
    let Address : Option RemoteAddr → Type 0 = λ to. HasAddress words (option_map remote_text to) in
    let Serve : Option (ℕ × Vec Network Global) → Type 0 = λ asked. HasServeWords words (option_map (λ (count, networks). (count, networks.items)) asked) in
    are_none words (λ merges. true≢false (sym (c.is_word.ensures.1 merges) ∙ c.if-is_word.false)) (λ receives. true≢false (sym (c.is_word-2.ensures.1 receives) ∙ c.if-is_word-2.false))
    (λ rules. true≢false (sym (c.is_word-3.ensures.1 rules) ∙ c.if-is_word-3.false)) (subst Address c.in_default.is c.in_ok-to.ensures)
    (subst Serve c.in-None.is c.in_ok-count.ensures) (subst (λ (o : Option ℕ). HasBenchWords words o) c.in_default-bench_words.is c.bench_words.ensures)
