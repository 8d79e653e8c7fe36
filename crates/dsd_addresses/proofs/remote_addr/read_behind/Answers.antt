use Rattle.std.proofs.Common.{false, rules}
use Rattle.std.specs.Prelude.{IsTrue}
use Rattle.dsd_addresses.specs.Remotes.{no_scheme_text}
use Rattle.dsd_addresses.proofs.Schemes.{refusal_behind}
use Rattle.dsd_addresses.proofs.remote_addr.read_behind.Goals as goal

pub returns-clause-refused : goal.returns-clause-refused
returns-clause-refused c =
    let false_is : ¬ (IsTrue false) = search rules in
    refusal_behind c.args.scheme.now c.args.rest.now c.refused.result
    (λ e. false_is (c.if-is_same.ensures.1 e))
    (λ e. false_is (c.if-is_same-2.ensures.1 e))
    (λ e. false_is (c.if-is_same-3.ensures.1 e))
    (c.refused.ensures (no_scheme_text c.args.scheme.now) c.format.ensures.ok)
