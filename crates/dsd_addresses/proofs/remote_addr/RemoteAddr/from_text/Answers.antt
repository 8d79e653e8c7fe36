use Rattle.dsd_addresses.proofs.Schemes.{refusal_at_split, refusal_without}
use Rattle.std.proofs.lemmas.Result.{IfErr-weaker}
use Rattle.dsd_addresses.proofs.remote_addr.RemoteAddr.from_text.Goals as goal

pub returns-in-Some-clause-refused : goal.returns-in-Some-clause-refused
returns-in-Some-clause-refused c =
    IfErr-weaker c.read_behind.result _ _ (refusal_at_split c.args.addr.now c.in-Some.scheme.now c.in-Some.rest.now c.in-Some.ensures) c.read_behind.ensures.refused

pub returns-in-None-clause-refused : goal.returns-in-None-clause-refused
returns-in-None-clause-refused c =
    IfErr-weaker c.read_udp.result _ _ (refusal_without c.args.addr.now c.in-None.ensures) c.read_udp.ensures.refused
